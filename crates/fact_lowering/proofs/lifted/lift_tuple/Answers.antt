use Rattle.std.proofs.Common.{◌∙◌, None, sym}
use Rattle.fact_abi.proofs.KindLaws.{if_ok}
use Rattle.fact_lowering.proofs.TupleLifts.{behind_lifted, flat_lifted, one_behind, only_one, other_behind}
use Rattle.fact_lowering.proofs.lifted.lift_tuple.Goals as goal

pub returns-in-Some : goal.returns-in-Some
returns-in-Some c =
    if_ok _ _ c.lift_flat.result (λ o e ss h. flat_lifted c.args.from.now.side c.args.bytes.now c.args.limit ss o _ c.args.values.now (sym c.in-Some.is ∙ c.in_ok-_flat.ensures ss h) (e ss h)) c.lift_flat.ensures

pub returns-then-values-ne1 : goal.returns-then-values-ne1
returns-then-values-ne1 c = λ ss h.
    behind_lifted c.args.from.now.side c.args.bytes.now c.args.limit ss None c.args.values.now (sym c.in_default.is ∙ c.in_ok-_flat.ensures ss h) (other_behind c.args.from.now.side c.args.bytes.now ss c.args.values.now c.if-values-ne1.true)

pub returns : goal.returns
returns c =
    if_ok _ _ c.lift_behind.result (λ o e ss h. behind_lifted c.args.from.now.side c.args.bytes.now c.args.limit ss o c.args.values.now (sym c.in_default.is ∙ c.in_ok-_flat.ensures ss h)
    (one_behind c.args.from.now.side c.args.bytes.now c.args.limit ss o c.args.values.now _ (only_one c.args.values.now _ c.if-values-ne1.false) (e ss h))) c.lift_behind.ensures
