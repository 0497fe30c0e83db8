use Rattle.std.proofs.Common.{refl, subst}
use Rattle.std.specs.Prelude.{slice_get}
use Rattle.fact_types.specs.declared.interface.InterfaceType.TheVariants.{Map as from_kind}
use Rattle.fact_types.specs.Tables.{map_node, IsLive}
use Rattle.fact_agreement.proofs.KindLaws.{other_kind}
use Rattle.fact_agreement.proofs.LeftLaws.{left_of_maps}
use Rattle.fact_agreement.proofs.comparison.of_map.Goals as goal

pub returns-in-Map : goal.returns-in-Map
returns-in-Map c =
    left_of_maps c.args.types.now c.reveal.ensures.sound c.args.to.now c.args.i c.in-Map.j _ _ c.requires.from_live c.index-source.ensures c.in-Map.is c.index-destination.ensures

pub index-destination-requires : goal.index-destination-requires
index-destination-requires c = subst (IsLive c.args.types.now) c.in-Map.is c.requires.to_live

pub returns-in_default : goal.returns-in_default
returns-in_default c =
    let t = c.args.types.now in
    other_kind t (from_kind c.args.i) c.args.to.now map_node (slice_get t.maps c.args.i.number) refl refl (λ e is_of. c.in_default.not-Map is_of.0 is_of.1)
