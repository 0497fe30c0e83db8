use Rattle.std.proofs.Common.{refl, subst}
use Rattle.std.specs.Prelude.{slice_get}
use Rattle.fact_types.specs.declared.interface.InterfaceType.TheVariants.{FixedLengthList as from_kind}
use Rattle.fact_types.specs.Tables.{fixed_length_list_node, IsLive}
use Rattle.fact_agreement.proofs.KindLaws.{other_kind}
use Rattle.fact_agreement.proofs.LeftLaws.{left_of_fixed_length_lists}
use Rattle.fact_agreement.proofs.comparison.of_fixed_length_list.Goals as goal

pub returns-else-source-destination : goal.returns-else-source-destination
returns-else-source-destination c =
    left_of_fixed_length_lists c.args.types.now c.reveal.ensures.sound c.args.to.now c.args.i c.in-FixedLengthList.j _ _ c.requires.from_live c.index-source.ensures c.in-FixedLengthList.is c.index-destination.ensures c.if-source-destination.false

pub index-destination-requires : goal.index-destination-requires
index-destination-requires c = subst (IsLive c.args.types.now) c.in-FixedLengthList.is c.requires.to_live

pub returns-in_default : goal.returns-in_default
returns-in_default c =
    let t = c.args.types.now in
    other_kind t (from_kind c.args.i) c.args.to.now fixed_length_list_node (slice_get t.fixed_length_lists c.args.i.number) refl refl (λ e is_of. c.in_default.not-FixedLengthList is_of.0 is_of.1)
