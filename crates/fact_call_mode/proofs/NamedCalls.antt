-- The call of an adapter of a name in the module of its plan.
use Rattle.std.proofs.Common.{◌≡◌, ℕ, false, List, Some, length}
use Rattle.fact_wasm.specs.declared.instr.FuncName.TheVariants as func
use Rattle.fact_types.specs.Adapters.{LinkedAdapter, is_async}
use Rattle.fact_check.specs.Constants.{HasTypedConstants}
use Rattle.fact_plan.specs.declared.plan.FusePlan.{FusePlan}
use Rattle.fact_plan_types.specs.declared.plan_types.PlanTypes.{PlanTypes}
use Rattle.fact_adapter_rules.specs.declared.adapter.Adapter.{Adapter}
use Rattle.fact_assembly.specs.Exports.{exported_as}
use Rattle.fact_module.specs.declared.fusion.Fused.{Fused}
use Rattle.fact_host.specs.declared.calling.HostCall.{HostCall}
use Rattle.fact_call_laws.specs.Carrying.{CallsAdapter}
use Rattle.fact_call_mode.specs.declared.values.Values.{Values}
use Rattle.fact_call_mode.specs.Replies.{CanBeCalled, IsCallOf, IsHosted, IsNamedCall}
use Rattle.fact_call_mode.proofs.Promised as of

module _ (fuel : ℕ) (p : FusePlan) (name : List ℕ) (t : PlanTypes) (x : Adapter) (f : Fused) (named : IsNamedCall fuel p name t x f) where
  abbrev a : LinkedAdapter
  a = named.linked.links.linked

  pub is_sync : is_async a ≡ false
  is_sync = of.is_sync fuel p name t x f named.linked named.fused

  pub exported_here : (k : ℕ) × (exported_as name f.module.exports ≡ Some (func.Defined k))
  exported_here = of.exported_here fuel p name t x f named.linked named.fused

  pub even : length f.module.imports ≡ length f.imports
  even = of.even fuel p name t x f named.linked named.fused

  -- the call of the function that is exported under the name
  pub called : (number : ℕ) (c : HostCall) → HasTypedConstants f.module → exported_as name f.module.exports ≡ Some (func.Defined number) → CallsAdapter f.module f.imports t.builder.tables c a number
      → IsCallOf fuel p a t.builder.tables f c
  called number c constants found calls = record {
    function = (of.own fuel p name t x f named.linked named.fused).function;
    exported = (of.own fuel p name t x f named.linked named.fused).exported;
    calls = of.calls_own fuel p name t x f named.linked named.fused number c found calls;
    promised = of.promised fuel p name t x f named.linked named.fused constants;
    callable = of.callable fuel p name t x f named.linked named.fused number c found calls named.accepted;
  }

-- ---- with values

module _ (fuel : ℕ) (p : FusePlan) (name : List ℕ) (t : PlanTypes) (x : Adapter) (f : Fused) (values : Values) (can : CanBeCalled fuel p name t x f values) where
  abbrev pub one_named : IsNamedCall fuel p name t x f
  one_named = record { linked = can.may.linked; fused = can.fused; accepted = can.accepted }

  pub hosted : (c : HostCall) → IsCallOf fuel p can.may.linked.links.linked t.builder.tables f c → IsHosted fuel p can.may.linked.links.linked t.builder.tables f c values
  hosted c call = record { fused = can.fused; call = call; carried = can.may.carried }
