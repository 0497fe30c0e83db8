use Rattle.std.proofs.Common.{refl, subst, sym}
use Rattle.fact_types.specs.declared.interface.InterfaceType.TheVariants as ty
use Rattle.fact_abi.specs.Nodes.{HasNode}
use Rattle.fact_abi.proofs.KindLaws.{fixed_list_told}
use Rattle.fact_abi.proofs.nodes.node_of_fixed_length_list.Goals as goal

pub returns : goal.returns
returns c =
    subst (HasNode c.args.types.now (ty.FixedLengthList c.args.i)) (sym c.in_ok-node.ensures) (fixed_list_told c.args.types.now c.reveal.ensures.sound (ty.FixedLengthList c.args.i) c.requires c.args.i refl _ c.index-list.ensures)
