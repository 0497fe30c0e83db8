use Rattle.std.proofs.Common.{refl}
use Rattle.fact_types.specs.declared.interface.InterfaceType.TheVariants as ty
use Rattle.fact_abi.proofs.KindLaws.{tuple_told}
use Rattle.fact_abi.proofs.nodes.node_of_tuple.Goals as goal

pub returns : goal.returns
returns c =
    tuple_told c.args.types.now c.reveal.ensures.sound (ty.Tuple c.args.i) c.requires _ _ c.args.i refl _ c.index.ensures _ c.as_slice.ensures c.in_ok-all_typed.ensures
