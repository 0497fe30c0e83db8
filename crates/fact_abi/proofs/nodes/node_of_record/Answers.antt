use Rattle.std.proofs.Common.{refl}
use Rattle.fact_types.specs.declared.interface.InterfaceType.TheVariants as ty
use Rattle.fact_abi.proofs.KindLaws.{record_told}
use Rattle.fact_abi.proofs.nodes.node_of_record.Goals as goal

pub returns : goal.returns
returns c =
    record_told c.args.types.now c.reveal.ensures.sound (ty.Record c.args.i) c.requires _ _ c.args.i refl _ c.index.ensures _ c.as_slice-fields.ensures c.in_ok-names_of_fields.ensures c.in_ok-types_of_fields.ensures
