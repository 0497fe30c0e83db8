use Rattle.std.proofs.Common.{refl}
use Rattle.std.proofs.lemmas.Result.{err_from_is_err_and}
use Rattle.fact_types.proofs.StandLaws.{list_stands}
use Rattle.fact_builder.proofs.MadeLaws.{lists, lists_lie, entered, turned_away}
use Rattle.fact_builder.proofs.lists.make_list.Goals as goal

pub returns-in_err-index : goal.returns-in_err-index
returns-in_err-index c =
    let old = c.args.builder.now in
    let stands = list_stands old.tables _ c.requires in
    let p = tt in
    let q = err_from_is_err_and c.from_residual.result c.from_residual.ensures.1 in
    let a = c.add_list_type.ensures in
    let r = turned_away lists old old _ _ _ (lists_lie old old refl) c.reveal.ensures.sound stands p _ _ _ _ _ c.in_err-index.was q.1 q.2 a.refused a.found a.too_large in
    record { makes = r.makes; too_large = r.exact }

pub returns : goal.returns
returns c =
    let old = c.args.builder.now in
    let new = c.add_list_type.new.self in
    let stands = list_stands old.tables _ c.requires in
    let p = tt in
    let a = c.in_ok-index.ensures in
    let r = entered lists old new _ _ _ (lists_lie old new a.rest) c.reveal.ensures.sound stands p _ c.in_ok-index.index a.keeps a.interned a.entry a.too_large in
    record { makes = r.makes; too_large = r.exact }
