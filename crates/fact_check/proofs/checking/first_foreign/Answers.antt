use Rattle.std.proofs.Common.{◌≡◌, ◌+◌, Some, refl, ap, subst, take, slice_get}
use Rattle.std.proofs.lemmas.Option.{slice_get_read}
use Rattle.fact_check.specs.Imports.{IsRow, IsAdapterImport}
use Rattle.fact_check.specs.Sections.{IsSectionOf}
use Rattle.fact_check.proofs.Loops.{below_more, import_is, took}
use Rattle.fact_check.proofs.checking.first_foreign.Goals as goal

pub loop-import-preserved : goal.loop-import-preserved
loop-import-preserved c =
    let m = c.args.module.now in
    let i = c.loop-import.import-index in
    let w = c.import-item.result in
    let there : slice_get m.imports i ≡ Some w = slice_get_read _ _ _ _ refl (rw c.as_slice-import-items.ensures at c.loop-import-test.true) (rw c.as_slice-import-items.ensures at c.import-item.is) in
    let section = c.loop-import.invariant.2 in
    let row : IsRow m.types (take i m.imports) w.module w.name w.ty = subst (λ ts. IsRow ts (take i m.imports) w.module w.name w.ty) c.as_slice.ensures ((c.is_row.ensures (take i m.imports) section).0 c.if-not-is_row.false) in
    (ap (λ k. k + 1) c.loop-import.invariant.0, below_more (IsAdapterImport m) i (i + 1) refl c.loop-import.invariant.1 (import_is m i w there row), subst (IsSectionOf c.add.new.self) (took m.imports i w there) (c.in_ok-add.ensures (take i m.imports) section))
