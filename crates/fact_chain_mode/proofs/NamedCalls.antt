-- The calls of two adapters of names in the module of their plan.
use Rattle.std.proofs.Common.{ℕ}
use Rattle.fact_plan.specs.declared.plan.FusePlan.{FusePlan}
use Rattle.fact_plan_types.specs.declared.plan_types.PlanTypes.{PlanTypes}
use Rattle.fact_module.specs.declared.fusion.Fused.{Fused}
use Rattle.fact_host.specs.declared.calling.HostCall.{HostCall}
use Rattle.fact_function_laws.specs.Names.{places_in}
use Rattle.fact_plan_types.proofs.TupleLaws.{OneIndex}
use Rattle.fact_call_mode.specs.declared.values.Values.{Values}
use Rattle.fact_call_mode.specs.Replies.{IsCallOf, IsNamedCall}
use Rattle.fact_chain_mode.specs.declared.input.Asked.{Asked}
use Rattle.fact_chain_mode.specs.declared.pairs.Pair.{Pair}
use Rattle.fact_chain_mode.specs.ChainReplies.{AreHosted, CanBeChained}
use Rattle.fact_chain_mode.proofs.PairLaws.{calls_are_joined}

module _ (fuel : ℕ) (p : FusePlan) (asked : Asked) (t : PlanTypes) (x : Pair) (f : Fused) (values : Values) (can : CanBeChained fuel p asked t x f values) where
  abbrev pub first_named : IsNamedCall fuel p asked.first.now t x.first f
  first_named = record { linked = can.may.paired.first; fused = can.fused; accepted = can.accepted }

  abbrev pub second_named : IsNamedCall fuel p asked.second.now t x.second f
  second_named = record { linked = can.may.paired.second; fused = can.fused; accepted = can.accepted }

  pub both_hosted : OneIndex t.builder.tables → (first second : HostCall) → IsCallOf fuel p can.may.paired.first.links.linked t.builder.tables f first → IsCallOf fuel p can.may.paired.second.links.linked t.builder.tables f second
      → AreHosted fuel p can.may.paired.first.links.linked can.may.paired.second.links.linked t.builder.tables f first second values
  both_hosted one first second first_call second_call = record {
    fused = can.fused;
    first_call = first_call;
    second_call = second_call;
    joined =
        calls_are_joined t.builder.tables one (places_in f.module f.imports) can.may.paired.first.links.linked can.may.paired.second.links.linked first second first_call.calls.lift second_call.calls.lower can.may.leads;
    args_typed = can.may.read.args_typed;
    results_typed = can.may.read.results_typed;
    results_fit = can.may.read.results_fit;
  }
