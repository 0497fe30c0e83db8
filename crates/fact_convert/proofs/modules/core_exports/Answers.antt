use Rattle.std.proofs.Common.{[], sym, ap, take}
use Rattle.std.specs.Prelude.{flat_map}
use Rattle.std.proofs.lemmas.Result.{err_from_is_err_and}
use Rattle.fact_convert.specs.Progress.{AreCoreExportsFrom}
use Rattle.fact_convert.specs.Tasks.{core_tasks}
use Rattle.fact_convert.proofs.Coming.{comes_none, comes_out, comes_as, comes_with}
use Rattle.fact_convert.proofs.CoreLaws.{one_more_core_export}
use Rattle.fact_convert.proofs.Looping.{one_more_came, one_failed, one_lost, all_came}
use Rattle.fact_convert.proofs.Opening.{comes_named, comes_to}
use Rattle.fact_convert.proofs.modules.core_exports.Goals as goal

pub loop-name-init : goal.loop-name-init
loop-name-init c = λ s. comes_to s _ _ _ _ [] _ c.new-exports.ensures.empty (comes_none s _ _ [] tt)

pub loop-name-preserved : goal.loop-name-preserved
loop-name-preserved c = λ s. one_more_came s c.args.builder.now c.loop-name.builder c.core_item.new.builder (λ x. core_tasks x.1) c.as_slice-name-items.result.now c.loop-name.name-index c.loop-name-item.result (λ xs c' made. AreCoreExportsFrom c' xs made) _ _ _ _ c.loop-name-test.true c.loop-name-item.is (c.loop-name.invariant s) (c.in_ok-ty.ensures s) (λ g k h. one_more_core_export _ _ g (take c.loop-name.name-index c.as_slice-name-items.result.now) c.loop-name-item.result _ _ _ k h c.in_ok-put.ensures)

pub returns-in_err-ty : goal.returns-in_err-ty
returns-in_err-ty c = λ s. comes_out _ _ _ _ _ c.from_residual.result _ (err_from_is_err_and c.from_residual.result c.from_residual.ensures.1) (comes_as _ _ _ _ _ _ _ (ap (flat_map (λ x. core_tasks x.1)) c.as_slice-name-items.ensures) (one_failed s _ _ _ (λ x. core_tasks x.1) c.as_slice-name-items.result.now c.loop-name.name-index c.loop-name-item.result _ _ _ _ _ c.loop-name-test.true c.loop-name-item.is (c.loop-name.invariant s) (c.in_err-ty.ensures s)))

pub returns-in_err-put : goal.returns-in_err-put
returns-in_err-put c = λ s. comes_out _ _ _ _ _ c.from_residual-in_err-put.result _ (err_from_is_err_and c.from_residual-in_err-put.result c.from_residual-in_err-put.ensures.1) (comes_as _ _ _ _ _ _ _ (ap (flat_map (λ x. core_tasks x.1)) c.as_slice-name-items.ensures) (one_lost s _ _ _ (λ x. core_tasks x.1) c.as_slice-name-items.result.now c.loop-name.name-index c.loop-name-item.result _ _ _ _ _ c.loop-name-test.true c.loop-name-item.is (c.loop-name.invariant s) (c.in_ok-ty.ensures s)))

-- the entries of the map are those of the list
pub returns : goal.returns
returns c = λ s. comes_with s _ _ _ (λ c' made. AreCoreExportsFrom c' c.args.entry.now.exports made) _ c.loop-name.exports.entries _ (λ h. h)
    (comes_named s _ _ (flat_map (λ x. core_tasks x.1)) (λ xs c' made. AreCoreExportsFrom c' xs made) c.as_slice-name-items.result.now c.args.entry.now.exports _ (sym c.as_slice-name-items.ensures)
    (all_came s _ _ (λ x. core_tasks x.1) c.as_slice-name-items.result.now c.loop-name.name-index (λ xs c' made. AreCoreExportsFrom c' xs made) _ c.loop-name-test.false (c.loop-name.invariant s)))
