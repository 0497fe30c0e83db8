use Rattle.std.proofs.Common.{refl, subst}
use Rattle.std.specs.Prelude.{slice_get}
use Rattle.fact_types.specs.declared.interface.InterfaceType.TheVariants.{List as from_kind}
use Rattle.fact_types.specs.Tables.{list_node, IsLive}
use Rattle.fact_agreement.proofs.KindLaws.{other_kind}
use Rattle.fact_agreement.proofs.LeftLaws.{left_of_lists}
use Rattle.fact_agreement.proofs.comparison.of_list.Goals as goal

pub returns-in-List : goal.returns-in-List
returns-in-List c =
    left_of_lists c.args.types.now c.reveal.ensures.sound c.args.to.now c.args.i c.in-List.j _ _ c.requires.from_live c.index.ensures c.in-List.is c.index-in-List.ensures

pub index-requires-in-List : goal.index-requires-in-List
index-requires-in-List c = subst (IsLive c.args.types.now) c.in-List.is c.requires.to_live

pub returns-in_default : goal.returns-in_default
returns-in_default c =
    let t = c.args.types.now in
    other_kind t (from_kind c.args.i) c.args.to.now list_node (slice_get t.lists c.args.i.number) refl refl (λ e is_of. c.in_default.not-List is_of.0 is_of.1)
