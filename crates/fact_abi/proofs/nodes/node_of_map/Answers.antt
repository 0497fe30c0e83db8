use Rattle.std.proofs.Common.{refl, subst, sym}
use Rattle.fact_types.specs.declared.interface.InterfaceType.TheVariants as ty
use Rattle.fact_abi.specs.Nodes.{HasNode}
use Rattle.fact_abi.proofs.KindLaws.{map_told}
use Rattle.fact_abi.proofs.nodes.node_of_map.Goals as goal

pub returns : goal.returns
returns c =
    subst (HasNode c.args.types.now (ty.Map c.args.i)) (sym c.in_ok-node.ensures) (map_told c.args.types.now c.reveal.ensures.sound (ty.Map c.args.i) c.requires c.args.i refl _ c.index-map.ensures)
