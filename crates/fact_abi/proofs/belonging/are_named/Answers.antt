use Rattle.std.proofs.Common.{◌∙◌, ap, map, sym, arith}
use Rattle.std.specs.Prelude.{slice_get}
use Rattle.fact_abi.specs.Finding.{name_is}
use Rattle.fact_abi.proofs.BelongLaws.{is_not, item_at, slice_mapped, named_past, not_named}
use Rattle.fact_abi.proofs.belonging.are_named.Goals as goal

pub returns-then-not-is_name_at : goal.returns-then-not-is_name_at
returns-then-not-is_name_at g c =
    let at = slice_mapped (λ f. f.0) c.args.items.now c.loop-place.place c.index-items-place.result (item_at c.args.items.now c.loop-place.place c.index-items-place.result (omega (arith, c.loop-place-test.true)) c.index-items-place.is) in
    is_not (not_named (map (λ f. f.0) c.args.items.now) c.args.names.now c.loop-place.place c.index-items-place.result.0 at (ap (λ f. name_is f.0 (slice_get c.args.names.now c.loop-place.place)) c.index-items-place.is ∙ sym c.is_name_at.ensures ∙ c.if-not-is_name_at.true))

pub loop-place-preserved : goal.loop-place-preserved
loop-place-preserved g c =
    let at = slice_mapped (λ f. f.0) c.args.items.now c.loop-place.place c.index-items-place.result (item_at c.args.items.now c.loop-place.place c.index-items-place.result (omega (arith, c.loop-place-test.true)) c.index-items-place.is) in
    named_past (map (λ f. f.0) c.args.items.now) c.args.names.now c.loop-place.place c.index-items-place.result.0 at (ap (λ f. name_is f.0 (slice_get c.args.names.now c.loop-place.place)) c.index-items-place.is ∙ sym c.is_name_at.ensures ∙ c.if-not-is_name_at.false) c.loop-place.invariant
