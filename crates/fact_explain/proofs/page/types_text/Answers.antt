use Rattle.std.proofs.Common.{refl, string_bytes}
use Rattle.std.proofs.lemmas.Option.{slice_get_read}
use Rattle.fact_explain.specs.Pages.{IsTypePart}
use Rattle.fact_explain.proofs.Parted.{parts-all, parts-next}
use Rattle.fact_explain.proofs.page.types_text.Goals as goal

pub loop-k-preserved : goal.loop-k-preserved
loop-k-preserved c =
    let at = slice_get_read _ _ _ _ refl (rw c.as_slice-entry-items.ensures at c.loop-k-test.true) (rw c.as_slice-entry-items.ensures at c.entry-item.is) in
    parts-next (IsTypePart c.args.plan.now) c.loop-k.k c.args.plan.now.types c.entry-item.result (string_bytes c.loop-k.text) (string_bytes c.in_ok-lines.lines) _ c.loop-k.invariant at c.in_ok-lines.ensures
    (rw c.deref.ensures at c.in_ok-push_str.ensures.bytes)

pub returns : goal.returns
returns c = parts-all (IsTypePart c.args.plan.now) c.loop-k.k c.args.plan.now.types _ (rw c.as_slice-entry-items.ensures at c.loop-k-test.false) c.loop-k.invariant
