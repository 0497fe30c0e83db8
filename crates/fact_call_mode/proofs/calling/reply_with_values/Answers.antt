use Rattle.std.proofs.Common.{subst}
use Rattle.std.specs.Prelude.{IfSome}
use Rattle.fact_plan_types.specs.PlanTypes.{told}
use Rattle.fact_adapter_rules.specs.FirstFault.{IsFirstAt}
use Rattle.fact_module.specs.Fused.{IsFused}
use Rattle.fact_call_mode.proofs.WantsOfMemory.{fusing_wants}
use Rattle.fact_call_mode.proofs.calling.reply_with_values.Goals as goal

pub returns-in-Ok-text : goal.returns-in-Ok-text
returns-in-Ok-text c = λ may.
    c.in-Ok-text.ensures c.args.fuel c.args.plan (record { may = may; fused = subst (IsFused c.in-Ok.fused) c.without_debug-quiet.ensures c.in-Ok.ensures.fused; accepted = c.in-Ok.ensures.accepted })

pub out_of_memory-requires : goal.out_of_memory-requires
out_of_memory-requires c =
    fusing_wants c.args.plan c.requires.may.linked.faultless c.args.fuel c.in-Err.error
    (subst (λ p. IfSome (told c.in-Err.error) (λ x. IsFirstAt p x.0 x.1)) c.without_debug-quiet.ensures c.in-Err.ensures.refused)
