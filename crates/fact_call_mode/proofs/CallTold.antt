-- What a call on the host tells of an adapter.
use Rattle.std.proofs.Common.{◌≡◌, ℕ, Bool, true, false, List, Some, None, length, refl}
use Rattle.fact_types.specs.Adapters.{LinkedAdapter}
use Rattle.fact_types.specs.Functions.{HaveShapes}
use Rattle.fact_types.specs.Shapes.{Shape}
use Rattle.fact_types.specs.Tables.{Tables}
use Rattle.fact_plan.specs.declared.plan.FusePlan.{FusePlan}
use Rattle.fact_adapter_rules.specs.Adapters.{adapters_of}
use Rattle.fact_values.specs.declared.value.Value.{Value}
use Rattle.fact_host.specs.declared.calling.HostCall.{HostCall}
use Rattle.fact_host.specs.declared.calling.HostOutcome.{HostOutcome}
use Rattle.fact_host.specs.Contract.{AreOfTypes, HasNoCause, IsOutcomeOf}
use Rattle.fact_host.specs.Rules.{CallShapes}
use Rattle.fact_module.specs.declared.fusion.Fused.{Fused}
use Rattle.fact_call_laws.specs.Carrying.{CallHasCarried, HostsAsk, HostsCarry}
use Rattle.fact_call_mode.specs.declared.values.Values.{Values}
use Rattle.fact_call_mode.specs.Calls.{TellsCall, call_text}
use Rattle.fact_call_mode.specs.Replies.{HasOutcome, IsHosted, answered, quiet_tunables, shapes_of}

-- An outcome in which the callee answered its results, which were carried.
pub record IsCarried (f : Fused) (t : Tables) (c : HostCall) (s : CallShapes) (args results : List Value) (o : HostOutcome) : Type 0 where
  pub is_outcome : IsOutcomeOf f.module t c s args (Some results) None o
  pub carried : CallHasCarried s args results o

module _ (carry : HostsCarry) (ask : HostsAsk) (fuel : ℕ) (p : FusePlan) (a : LinkedAdapter) (t : Tables) (f : Fused) (c : HostCall) (values : Values) (h : IsHosted fuel p a t f c values)
    (last : ℕ) (asked : Bool) (o : HostOutcome) (has : HasOutcome f t c values.args values.results last asked o) where
  pub is_carried : IsCarried f t c (shapes_of a) values.args values.results o
  is_carried = by asked (has.outcome (shapes_of a) h.call.callable.shapes) (has.no_cause (shapes_of a) h.call.callable.shapes)
    where
      by : (b : Bool) → IsOutcomeOf f.module t c (shapes_of a) values.args (answered b values.results) None o → HasNoCause (shapes_of a) values.args last (answered b values.results)
          → IsCarried f t c (shapes_of a) values.args values.results o
      by true outcome no_cause = record {
        is_outcome = outcome;
        carried = carry f.module f.imports (quiet_tunables fuel p) a (adapters_of p) h.call.function t c (shapes_of a) values.args values.results None o h.call.promised h.call.calls h.call.callable no_cause.suited h.carried.results_typed h.carried.results_fit outcome;
      }
      by false outcome no_cause =
          absurd (ask f.module f.imports (quiet_tunables fuel p) a (adapters_of p) h.call.function t c (shapes_of a) values.args values.results None o h.call.promised h.call.calls h.call.callable no_cause.suited h.carried.results_typed h.carried.results_fit outcome)

  pub params_there : (vs : List Value) × (o.params ≡ Some vs)
  params_there = let carried = is_carried.carried in (carried.given, carried.params)

  pub results_there : (vs : List Value) × (o.results ≡ Some vs)
  results_there = let carried = is_carried.carried in (carried.got, carried.results)

  -- a text of what was given and got, and of how many calls there were
  pub is_told : (text : List ℕ) → ((ps rs : List Shape) (given got : List Value) → HaveShapes t c.lift.params ps → HaveShapes t c.lower.results rs
      → o.params ≡ Some given → o.results ≡ Some got → AreOfTypes ps given → AreOfTypes rs got → text ≡ call_text ps given rs got (length o.outcome.log)) → TellsCall fuel p a values.args values.results text
  is_told text told =
      let carried = is_carried.carried in
      record {
        given = carried.given;
        given_are = carried.given_are;
        got = carried.got;
        got_are = carried.got_are;
        count = length o.outcome.log;
        makes = record {
          fused = f;
          is_fused = h.fused;
          func = h.call.function;
          exported = h.call.exported;
          tables = t;
          call = c;
          calls = h.call.calls;
          shapes = shapes_of a;
          callable = h.call.callable;
          given = None;
          outcome = o;
          is_outcome = is_carried.is_outcome;
          count_is = refl;
        };
        text_is = told a.lift.params a.lower.results carried.given carried.got h.call.calls.lift.params h.call.calls.lower.results carried.params carried.results carried.given_typed carried.got_typed;
      }
