use Rattle.std.proofs.Common.{refl}
use Rattle.std.proofs.lemmas.Option.{IfSome_then, slice_get_read}
use Rattle.std.proofs.lemmas.Result.{err_from_is_err_and}
use Rattle.fact_plan_types.specs.PlanTypes.{told}
use Rattle.fact_adapter_rules.proofs.PlanLaws.{first-of-plan, none-left}
use Rattle.fact_adapter_rules.proofs.plan.check_each.Goals as goal

pub check_adapter-requires-clause-there : goal.check_adapter-requires-clause-there
check_adapter-requires-clause-there c =
    slice_get_read _ _ _ _ refl (rw c.as_slice-adapter-items.ensures at c.loop-k-test.true) (rw c.as_slice-adapter-items.ensures at c.adapter-item.is)

pub returns-in_err-check_adapter-clause-refused : goal.returns-in_err-check_adapter-clause-refused
returns-in_err-check_adapter-clause-refused c =
    let p = err_from_is_err_and c.from_residual.result c.from_residual.ensures.1 in
    rw (p.1, p.2) (IfSome_then (told _) c.in_err-check_adapter.ensures.refused (λ x. first-of-plan _ _ _ _ x.0 x.1 c.requires.faultless c.loop-k.invariant))

pub returns-clause-faultless : goal.returns-clause-faultless
returns-clause-faultless c = record {
  types = c.requires.faultless;
  adapters = none-left c.args.plan.now _ _ _ c.loop-k.invariant (rw c.as_slice-adapter-items.ensures at c.loop-k-test.false);
}
