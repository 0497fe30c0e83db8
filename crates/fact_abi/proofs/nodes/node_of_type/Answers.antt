use Rattle.std.proofs.Common.{sym, subst, IfOk}
use Rattle.fact_types.specs.Tables.{IsLive}
use Rattle.fact_abi.specs.Nodes.{IsNodeOf}
use Rattle.fact_abi.proofs.KindLaws.{others_plain}
use Rattle.fact_abi.proofs.ToldLaws.{plain_told}
use Rattle.fact_abi.proofs.nodes.node_of_type.Goals as goal

pub returns-in_default : goal.returns-in_default
returns-in_default c =
    plain_told c.args.types.now c.args.ty.now (others_plain c.args.types.now c.args.ty.now c.in_default.not-Record c.in_default.not-Variant c.in_default.not-List c.in_default.not-Tuple c.in_default.not-Map c.in_default.not-Flags c.in_default.not-Enum c.in_default.not-Option c.in_default.not-Result c.in_default.not-Future c.in_default.not-Stream c.in_default.not-FixedLengthList)

pub node_of_record-requires : goal.node_of_record-requires
node_of_record-requires c = subst (IsLive c.args.types.now) c.in-Record.is c.requires

pub returns-in-Record : goal.returns-in-Record
returns-in-Record c = subst (λ y. IfOk c.node_of_record.result (λ o. IsNodeOf c.args.types.now y o)) (sym c.in-Record.is) c.node_of_record.ensures

pub node_of_variant-requires : goal.node_of_variant-requires
node_of_variant-requires c = subst (IsLive c.args.types.now) c.in-Variant.is c.requires

pub returns-in-Variant : goal.returns-in-Variant
returns-in-Variant c = subst (λ y. IfOk c.node_of_variant.result (λ o. IsNodeOf c.args.types.now y o)) (sym c.in-Variant.is) c.node_of_variant.ensures

pub node_of_list-requires : goal.node_of_list-requires
node_of_list-requires c = subst (IsLive c.args.types.now) c.in-List.is c.requires

pub returns-in-List : goal.returns-in-List
returns-in-List c = subst (λ y. IfOk c.node_of_list.result (λ o. IsNodeOf c.args.types.now y o)) (sym c.in-List.is) c.node_of_list.ensures

pub node_of_tuple-requires : goal.node_of_tuple-requires
node_of_tuple-requires c = subst (IsLive c.args.types.now) c.in-Tuple.is c.requires

pub returns-in-Tuple : goal.returns-in-Tuple
returns-in-Tuple c = subst (λ y. IfOk c.node_of_tuple.result (λ o. IsNodeOf c.args.types.now y o)) (sym c.in-Tuple.is) c.node_of_tuple.ensures

pub node_of_map-requires : goal.node_of_map-requires
node_of_map-requires c = subst (IsLive c.args.types.now) c.in-Map.is c.requires

pub returns-in-Map : goal.returns-in-Map
returns-in-Map c = subst (λ y. IfOk c.node_of_map.result (λ o. IsNodeOf c.args.types.now y o)) (sym c.in-Map.is) c.node_of_map.ensures

pub node_of_flags-requires : goal.node_of_flags-requires
node_of_flags-requires c = subst (IsLive c.args.types.now) c.in-Flags.is c.requires

pub returns-in-Flags : goal.returns-in-Flags
returns-in-Flags c = subst (λ y. IfOk c.node_of_flags.result (λ o. IsNodeOf c.args.types.now y o)) (sym c.in-Flags.is) c.node_of_flags.ensures

pub node_of_enum-requires : goal.node_of_enum-requires
node_of_enum-requires c = subst (IsLive c.args.types.now) c.in-Enum.is c.requires

pub returns-in-Enum : goal.returns-in-Enum
returns-in-Enum c = subst (λ y. IfOk c.node_of_enum.result (λ o. IsNodeOf c.args.types.now y o)) (sym c.in-Enum.is) c.node_of_enum.ensures

pub node_of_option-requires : goal.node_of_option-requires
node_of_option-requires c = subst (IsLive c.args.types.now) c.in-Option.is c.requires

pub returns-in-Option : goal.returns-in-Option
returns-in-Option c = subst (λ y. IfOk c.node_of_option.result (λ o. IsNodeOf c.args.types.now y o)) (sym c.in-Option.is) c.node_of_option.ensures

pub node_of_result-requires : goal.node_of_result-requires
node_of_result-requires c = subst (IsLive c.args.types.now) c.in-Result.is c.requires

pub returns-in-Result : goal.returns-in-Result
returns-in-Result c = subst (λ y. IfOk c.node_of_result.result (λ o. IsNodeOf c.args.types.now y o)) (sym c.in-Result.is) c.node_of_result.ensures

pub node_of_fixed_length_list-requires : goal.node_of_fixed_length_list-requires
node_of_fixed_length_list-requires c = subst (IsLive c.args.types.now) c.in-FixedLengthList.is c.requires

pub returns-in-FixedLengthList : goal.returns-in-FixedLengthList
returns-in-FixedLengthList c = subst (λ y. IfOk c.node_of_fixed_length_list.result (λ o. IsNodeOf c.args.types.now y o)) (sym c.in-FixedLengthList.is) c.node_of_fixed_length_list.ensures

pub node_of_future-requires : goal.node_of_future-requires
node_of_future-requires c = subst (IsLive c.args.types.now) c.in-Future.is c.requires

pub returns-in-Future : goal.returns-in-Future
returns-in-Future c = subst (λ y. IfOk c.node_of_future.result (λ o. IsNodeOf c.args.types.now y o)) (sym c.in-Future.is) c.node_of_future.ensures

pub node_of_stream-requires : goal.node_of_stream-requires
node_of_stream-requires c = subst (IsLive c.args.types.now) c.in-Stream.is c.requires

pub returns-in-Stream : goal.returns-in-Stream
returns-in-Stream c = subst (λ y. IfOk c.node_of_stream.result (λ o. IsNodeOf c.args.types.now y o)) (sym c.in-Stream.is) c.node_of_stream.ensures
