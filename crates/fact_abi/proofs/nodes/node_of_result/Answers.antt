use Rattle.std.proofs.Common.{refl, subst, sym}
use Rattle.fact_types.specs.declared.interface.InterfaceType.TheVariants as ty
use Rattle.fact_abi.specs.Nodes.{HasNode}
use Rattle.fact_abi.proofs.KindLaws.{result_told}
use Rattle.fact_abi.proofs.nodes.node_of_result.Goals as goal

pub returns : goal.returns
returns c =
    subst (HasNode c.args.types.now (ty.Result c.args.i)) (sym c.in_ok-node.ensures) (result_told c.args.types.now c.reveal.ensures.sound (ty.Result c.args.i) c.requires c.args.i refl _ c.index-cases.ensures)
