use Rattle.std.proofs.Common.{◌∷◌, []}
use Rattle.std.proofs.lemmas.Result.{err_from_is_err_and}
use Rattle.std.proofs.lemmas.List.Concat.{flat_map_single}
use Rattle.fact_convert.specs.Tasks.{registers}
use Rattle.fact_convert.proofs.Coming.{comes_out, comes_none, comes_as}
use Rattle.fact_convert.proofs.Looping.{one_more_came, one_failed, all_came}
use Rattle.fact_convert.proofs.registers.register_each.Goals as goal

pub loop-id-init : goal.loop-id-init
loop-id-init c = λ s. comes_none s _ _ (tt {0}) (tt {0})

pub loop-id-preserved : goal.loop-id-preserved
loop-id-preserved c = λ s. one_more_came s _ _ _ (λ x. registers x.1 ∷ []) c.args.found.now c.loop-id.id-index c.loop-id-item.result (λ xs c x. Unit {0}) _ _ _ _ c.loop-id-test.true c.loop-id-item.is (c.loop-id.invariant s) (c.in_ok-register_next.ensures s) (λ g h k. tt {0})

pub returns-in_err-register_next : goal.returns-in_err-register_next
returns-in_err-register_next c = λ s. comes_out _ _ _ _ _ c.from_residual.result _ (err_from_is_err_and c.from_residual.result c.from_residual.ensures.1) (comes_as s _ _ _ _ _ _ (flat_map_single (λ x. registers x.1) c.args.found.now) (one_failed s _ _ _ (λ x. registers x.1 ∷ []) c.args.found.now c.loop-id.id-index c.loop-id-item.result _ _ _ _ _ c.loop-id-test.true c.loop-id-item.is (c.loop-id.invariant s) (c.in_err-register_next.ensures s)))

pub returns : goal.returns
returns c = λ s. comes_as s _ _ _ _ _ _ (flat_map_single (λ x. registers x.1) c.args.found.now) (all_came s _ _ (λ x. registers x.1 ∷ []) c.args.found.now c.loop-id.id-index (λ xs c x. Unit {0}) _ c.loop-id-test.false (c.loop-id.invariant s))
