use Rattle.std.proofs.Common.{refl, subst, sym}
use Rattle.fact_types.specs.declared.interface.InterfaceType.TheVariants as ty
use Rattle.fact_abi.specs.Nodes.{HasNode}
use Rattle.fact_abi.proofs.KindLaws.{future_told}
use Rattle.fact_abi.proofs.nodes.node_of_future.Goals as goal

pub returns : goal.returns
returns c =
    subst (HasNode c.args.types.now (ty.Future c.args.i)) (sym c.in_ok-node.ensures) (future_told c.args.types.now c.reveal.ensures.sound (ty.Future c.args.i) c.requires c.args.i refl _ c.index.ensures _ _ c.as_u32.ensures c.as_u32-2.ensures)
