use Rattle.std.proofs.Common.{◌∙◌, None, sym}
use Rattle.fact_abi.proofs.KindLaws.{if_ok}
use Rattle.fact_lowering.proofs.TupleLifts.{behind_results, flat_results, last_behind, none_behind}
use Rattle.fact_lowering.proofs.lifted.lift_results.Goals as goal

pub returns-in-Some : goal.returns-in-Some
returns-in-Some c =
    if_ok _ _ c.lift_flat.result (λ o e ss h. flat_results c.args.from.now.side c.args.bytes.now ss c.args.args.now c.args.results.now o _ (sym c.in-Some.is ∙ c.in_ok-_flat.ensures ss h) (e ss h)) c.lift_flat.ensures

pub returns-in-Some-last : goal.returns-in-Some-last
returns-in-Some-last c =
    if_ok _ _ c.lift_behind.result (λ o e ss h. behind_results c.args.from.now.side c.args.bytes.now ss c.args.args.now c.args.results.now o (sym c.in-None.is ∙ c.in_ok-_flat.ensures ss h)
    (e ss h ∙ last_behind c.args.from.now.side c.args.bytes.now ss c.args.args.now _ (sym c.in-Some-last.ensures.value))) c.lift_behind.ensures

pub returns-in-None-last : goal.returns-in-None-last
returns-in-None-last c = λ ss h.
    behind_results c.args.from.now.side c.args.bytes.now ss c.args.args.now c.args.results.now None (sym c.in-None.is ∙ c.in_ok-_flat.ensures ss h) (none_behind c.args.from.now.side c.args.bytes.now ss c.args.args.now (sym c.in-None-last.ensures.value))
