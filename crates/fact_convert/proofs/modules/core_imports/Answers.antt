use Rattle.std.proofs.Common.{[], sym, ap, take}
use Rattle.std.specs.Prelude.{flat_map}
use Rattle.std.proofs.lemmas.Result.{err_from_is_err_and}
use Rattle.fact_convert.specs.Progress.{AreCoreImportsFrom}
use Rattle.fact_convert.specs.Tasks.{core_tasks}
use Rattle.fact_convert.proofs.Coming.{comes_none, comes_out, comes_as, comes_with}
use Rattle.fact_convert.proofs.CoreLaws.{one_more_core_import}
use Rattle.fact_convert.proofs.Looping.{one_more_came, one_failed, one_lost, all_came}
use Rattle.fact_convert.proofs.Opening.{comes_named, comes_to}
use Rattle.fact_convert.proofs.modules.core_imports.Goals as goal

pub loop-from-init : goal.loop-from-init
loop-from-init c = λ s. comes_to s _ _ _ _ [] _ c.new-imports.ensures.empty (comes_none s _ _ [] tt)

pub loop-from-preserved : goal.loop-from-preserved
loop-from-preserved c = λ s. one_more_came s c.args.builder.now c.loop-from.builder c.core_item.new.builder (λ x. core_tasks x.2) c.as_slice-from-items.result.now c.loop-from.from-index c.loop-from-item.result (λ xs c' made. AreCoreImportsFrom c' xs made) _ _ _ _ c.loop-from-test.true c.loop-from-item.is (c.loop-from.invariant s) (c.in_ok-ty.ensures s) (λ g k h. one_more_core_import _ _ g (take c.loop-from.from-index c.as_slice-from-items.result.now) c.loop-from-item.result _ _ _ k h c.in_ok-put_pair.ensures)

pub returns-in_err-ty : goal.returns-in_err-ty
returns-in_err-ty c = λ s. comes_out _ _ _ _ _ c.from_residual.result _ (err_from_is_err_and c.from_residual.result c.from_residual.ensures.1) (comes_as _ _ _ _ _ _ _ (ap (flat_map (λ x. core_tasks x.2)) c.as_slice-from-items.ensures) (one_failed s _ _ _ (λ x. core_tasks x.2) c.as_slice-from-items.result.now c.loop-from.from-index c.loop-from-item.result _ _ _ _ _ c.loop-from-test.true c.loop-from-item.is (c.loop-from.invariant s) (c.in_err-ty.ensures s)))

pub returns-in_err-put_pair : goal.returns-in_err-put_pair
returns-in_err-put_pair c = λ s. comes_out _ _ _ _ _ c.from_residual-in_err-put_pair.result _ (err_from_is_err_and c.from_residual-in_err-put_pair.result c.from_residual-in_err-put_pair.ensures.1) (comes_as _ _ _ _ _ _ _ (ap (flat_map (λ x. core_tasks x.2)) c.as_slice-from-items.ensures) (one_lost s _ _ _ (λ x. core_tasks x.2) c.as_slice-from-items.result.now c.loop-from.from-index c.loop-from-item.result _ _ _ _ _ c.loop-from-test.true c.loop-from-item.is (c.loop-from.invariant s) (c.in_ok-ty.ensures s)))

-- the entries of the map are those of the list
pub returns : goal.returns
returns c = λ s. comes_with s _ _ _ (λ c' made. AreCoreImportsFrom c' c.args.entry.now.imports made) _ c.loop-from.imports.entries _ (λ h. h)
    (comes_named s _ _ (flat_map (λ x. core_tasks x.2)) (λ xs c' made. AreCoreImportsFrom c' xs made) c.as_slice-from-items.result.now c.args.entry.now.imports _ (sym c.as_slice-from-items.ensures)
    (all_came s _ _ (λ x. core_tasks x.2) c.as_slice-from-items.result.now c.loop-from.from-index (λ xs c' made. AreCoreImportsFrom c' xs made) _ c.loop-from-test.false (c.loop-from.invariant s)))
