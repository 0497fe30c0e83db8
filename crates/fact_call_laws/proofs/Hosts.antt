-- A call of an adapter on a host asks the callee, returns, and carries, where transcoders read whole texts.
use Rattle.std.proofs.Common.{◌≡◌, ◌≢◌, ℕ, true, List, Some, None, inl, inr, refl, ap, ◌∙◌, subst}
use Rattle.fact_machine.specs.declared.types.CoreValue.{CoreValue}
use Rattle.fact_machine.specs.declared.types.End.TheVariants.{Lacks, Returned}
use Rattle.fact_machine.specs.declared.types.Outcome.{Outcome}
use Rattle.fact_wasm.specs.declared.module.WasmModule.{WasmModule}
use Rattle.fact_types.specs.declared.import.Import.{Import}
use Rattle.fact_types.specs.Adapters.{LinkedAdapter}
use Rattle.fact_types.specs.Tables.{Tables}
use Rattle.fact_values.specs.declared.value.Value.{Value}
use Rattle.fact_actions.specs.Adapters.{AdapterTunables}
use Rattle.fact_actions.specs.Honest.{AreHonestSync}
use Rattle.fact_action_laws.specs.Trapped.{AreHonestUntilTrap}
use Rattle.fact_lowering.specs.Room.{fits}
use Rattle.fact_host.specs.declared.calling.HostCall.{HostCall}
use Rattle.fact_host.specs.declared.calling.HostOutcome.{HostOutcome}
use Rattle.fact_host.specs.declared.known.Known.{Known}
use Rattle.fact_host.specs.Contract.{AreOfTypes, AreSuited, IsCallable, steps_given}
use Rattle.fact_host.specs.Rules.{AreAnswers, CallShapes}
use Rattle.fact_call_laws.specs.Carrying.{CallsAdapter, CallHasCarried, HostsAsk, HostsCarry, IsPromised}
use Rattle.fact_call_laws.proofs.Answered.{never_trapped}
use Rattle.fact_call_laws.proofs.Carried.{Came, asked, carried}
use Rattle.fact_call_laws.proofs.Ends.{ended}
use Rattle.fact_call_laws.proofs.Lacking.{AllRead}
use Rattle.fact_call_laws.proofs.Later.{Laws}
use Rattle.fact_call_laws.proofs.Seen.{seen_typed}
use Rattle.fact_call_laws.proofs.Setting.{Called, IsRunOf, Named, Setting, calls, honest, log, places, run, run_is, run_of_outcome}
use Rattle.fact_call_laws.proofs.Stops.{stops}
use Rattle.fact_call_laws.proofs.Stored.{all_stored}
use Rattle.fact_call_laws.proofs.Trapped.{at_trap}
use Rattle.fact_call_laws.proofs.Unasked.{run_any, silent_at}

-- All answers were honest, and it returned.
record HasReturned (x : Setting) (h : Called x) : Type 0 where
  whole : AreHonestSync (places x) x.adapter h.outcome.args (calls x)
  values : List CoreValue
  returned : (run x h).end ≡ Returned values

module _ (laws : Laws) (reads : AllRead) (m : WasmModule) (is : List Import) (u : AdapterTunables) (a : LinkedAdapter) (adapters : List LinkedAdapter) (f : ℕ) (t : Tables) (c : HostCall) (s : CallShapes) (args results : List Value) (o : HostOutcome)
    (promised : IsPromised m is u a adapters f) (called : CallsAdapter m is t c a f) (callable : IsCallable m t c s) (suited : AreSuited s args) (answered : AreOfTypes s.lift_results results) (fit : fits s.lift_results s.lower_results results ≡ true)
    (ran : IsRunOf m t c s args (Some results) steps_given o.outcome) (lacks_none : o.outcome.end ≢ Lacks) where
  abbrev x : Setting
  x = record {
    code = m;
    imports = is;
    tunables = u;
    adapter = a;
    adapters = adapters;
    function = f;
    types = t;
    call = c;
    shapes = s;
    values = args;
    answered = results;
    steps = steps_given;
    outcome = o;
  }

  abbrev h : Called x
  h = record { promised = promised; calls = called; callable = callable; suited = suited; answer_suited = answered; answer_fits = fit; outcome = ran }

  has_returned : HasReturned x h
  has_returned = by (honest x h)
    where
      by : AreHonestUntilTrap (AreHonestSync (places x) x.adapter h.outcome.args) (calls x) → HasReturned x h
      by (inl whole) = elim (ended x h whole (stops laws reads all_stored x h whole refl)) [
        | inl r ↦ record { whole = whole; values = r.0; returned = r.1 }
        | inr lacks ↦ absurd (lacks_none (ap (λ (o : Outcome). o.end) (run_is x h) ∙ lacks))
      ]
      by (inr trapped) = let t = at_trap x h trapped in absurd (never_trapped x h t (seen_typed laws.seen x h t) (reads x h t))

  has_carried : Came x h → CallHasCarried s args results o
  has_carried came = carried x h has_returned.whole has_returned.values has_returned.returned came

  -- the callee answered
  has_asked : (k : Known) → AreAnswers (Named x) c s None k (log x) → ⊥
  has_asked k rules =
      let q = asked x h has_returned.whole has_returned.values has_returned.returned in
      silent_at m t c s k q.front q.event q.behind (subst (AreAnswers (Named x) c s None k) q.log_is rules) q.is_callee q.results q.after q.answer_is

pub hosts_carry : Laws → AllRead → HostsCarry
hosts_carry laws reads m is u a adapters f t c s args results given o promised called callable suited answered fit outcome =
    has_carried laws reads m is u a adapters f t c s args results o promised called callable suited answered fit (run_of_outcome m t c s args (Some results) given o outcome)
    outcome.lacks_none (record { params = outcome.params; results = outcome.results })

pub hosts_ask : Laws → AllRead → HostsAsk
hosts_ask laws reads m is u a adapters f t c s args results given o promised called callable suited answered fit none =
    has_asked laws reads m is u a adapters f t c s args results o promised called callable suited answered fit (run_any m t c s args results given o none) none.lacks_none none.known none.ruled
