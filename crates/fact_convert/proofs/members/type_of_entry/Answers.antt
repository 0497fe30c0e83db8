use Rattle.std.proofs.Common.{refl, arith}
use Rattle.fact_source.specs.declared.defined.ComponentDefinedType.TheVariants as defined
use Rattle.fact_convert.specs.BuilderTables.{tables_of}
use Rattle.fact_convert.proofs.Coming.{comes_for}
use Rattle.fact_convert.proofs.EntryLaws.{primitive_made}
use Rattle.fact_convert.proofs.Payloads.{payload_from, first_from_two, last_from_two, payload_live, live_where_any, made_of, types_of, single_entry, map_entry, type_live_at, type_there}
use Rattle.fact_convert.proofs.members.type_of_entry.Goals as goal

pub type_of_result-requires-clause-ok : goal.type_of_result-requires-clause-ok
type_of_result-requires-clause-ok c = live_where_any (tables_of c.args.builder.now) _ c.args.members.now 0 _ c.both_payloads-ok.ensures.ok c.requires.live

pub type_of_result-requires-clause-err : goal.type_of_result-requires-clause-err
type_of_result-requires-clause-err c = live_where_any (tables_of c.args.builder.now) _ c.args.members.now _ _ c.both_payloads-ok.ensures.err c.requires.live

pub type_of_futures-requires : goal.type_of_futures-requires
type_of_futures-requires c = payload_live (tables_of c.args.builder.now) c.args.members.now _ c.first_payload.ensures c.requires.live

pub type_of_streams-requires : goal.type_of_streams-requires
type_of_streams-requires c = payload_live (tables_of c.args.builder.now) c.args.members.now _ c.first_payload-in-Stream.ensures c.requires.live

pub type_of_list-requires : goal.type_of_list-requires
type_of_list-requires c = type_live_at (tables_of c.args.builder.now) c.args.members.now 0 _ c.member_at.ensures c.requires.live

pub type_of_option-requires : goal.type_of_option-requires
type_of_option-requires c = type_live_at (tables_of c.args.builder.now) c.args.members.now 0 _ c.member_at-in-Option.ensures c.requires.live

pub type_of_fixed_length_list-requires : goal.type_of_fixed_length_list-requires
type_of_fixed_length_list-requires c = type_live_at (tables_of c.args.builder.now) c.args.members.now 0 _ c.member_at-in-FixedLengthList.ensures c.requires.live

pub type_of_map-requires-clause-key : goal.type_of_map-requires-clause-key
type_of_map-requires-clause-key c = type_live_at (tables_of c.args.builder.now) c.args.members.now 0 _ c.member_at-key.ensures c.requires.live

pub type_of_map-requires-clause-value : goal.type_of_map-requires-clause-value
type_of_map-requires-clause-value c = type_live_at (tables_of c.args.builder.now) c.args.members.now 1 _ c.member_at-value.ensures c.requires.live

pub member_at-requires : goal.member_at-requires
member_at-requires c = type_there c.args.members.now c.args.entry.now _ c.requires.many c.in-List.is 0 (omega arith)

pub member_at-key-requires : goal.member_at-key-requires
member_at-key-requires c = type_there c.args.members.now c.args.entry.now _ c.requires.many c.in-Map.is 0 (omega arith)

pub member_at-value-requires : goal.member_at-value-requires
member_at-value-requires c = type_there c.args.members.now c.args.entry.now _ c.requires.many c.in-Map.is 1 (omega arith)

pub returns-in-Primitive : goal.returns-in-Primitive
returns-in-Primitive c = λ s a. made_of s _ _ _ _ _ c.in-Primitive.is (comes_for s _ _ _ _ _ _ (primitive_made s _ c.in-Primitive.ty) (c.type_of_primitive.ensures s))

pub returns-in-Record : goal.returns-in-Record
returns-in-Record c = λ s a. made_of s _ _ _ _ _ c.in-Record.is (c.type_of_record.ensures s (types_of s c.args.builder.now _ _ c.args.members.now c.in-Record.is a))

pub returns-in-Variant : goal.returns-in-Variant
returns-in-Variant c = λ s a. made_of s _ _ _ _ _ c.in-Variant.is (c.type_of_variant.ensures s (types_of s c.args.builder.now _ _ c.args.members.now c.in-Variant.is a))

pub returns-in-Tuple : goal.returns-in-Tuple
returns-in-Tuple c = λ s a. made_of s _ _ _ _ _ c.in-Tuple.is (c.type_of_tuple.ensures s _ (types_of s c.args.builder.now _ _ c.args.members.now c.in-Tuple.is a))

pub returns-in-Flags : goal.returns-in-Flags
returns-in-Flags c = λ s a. made_of s _ _ _ _ _ c.in-Flags.is (c.type_of_flags.ensures s)

pub returns-in-Enum : goal.returns-in-Enum
returns-in-Enum c = λ s a. made_of s _ _ _ _ _ c.in-Enum.is (c.type_of_enum.ensures s)

pub returns-in-Own : goal.returns-in-Own
returns-in-Own c = λ s a. made_of s _ _ _ _ _ c.in-Own.is (c.type_of_own.ensures s)

pub returns-in-Borrow : goal.returns-in-Borrow
returns-in-Borrow c = λ s a. made_of s _ _ _ _ _ c.in-Borrow.is (c.type_of_borrow.ensures s)

pub returns-in-List : goal.returns-in-List
returns-in-List c = λ s a. single_entry defined.List (λ v. refl) s c.args.builder.now _ _ _ c.args.members.now _ _ c.in-List.is a c.member_at.ensures (c.type_of_list.ensures s)

pub returns-in-Option : goal.returns-in-Option
returns-in-Option c = λ s a. single_entry defined.Option (λ v. refl) s c.args.builder.now _ _ _ c.args.members.now _ _ c.in-Option.is a c.member_at-in-Option.ensures (c.type_of_option.ensures s)

pub returns-in-FixedLengthList : goal.returns-in-FixedLengthList
returns-in-FixedLengthList c = λ s a. single_entry (λ v. defined.FixedLengthList v c.in-FixedLengthList.size) (λ v. refl) s c.args.builder.now _ _ _ c.args.members.now _ _ c.in-FixedLengthList.is a c.member_at-in-FixedLengthList.ensures (c.type_of_fixed_length_list.ensures s)

pub returns-in-Map : goal.returns-in-Map
returns-in-Map c = λ s a. map_entry s c.args.builder.now _ _ _ _ c.args.members.now _ _ _ c.in-Map.is a c.member_at-key.ensures c.member_at-value.ensures (c.type_of_map.ensures s)

pub returns-in-Result : goal.returns-in-Result
returns-in-Result c = λ s a. made_of s _ _ _ _ _ c.in-Result.is (c.type_of_result.ensures s c.in-Result.ok c.in-Result.err (first_from_two s c.args.builder.now c.in-Result.ok c.in-Result.err _ c.args.members.now c.both_payloads-ok.ensures.ok (types_of s c.args.builder.now _ _ c.args.members.now c.in-Result.is a)) (last_from_two s c.args.builder.now c.in-Result.ok c.in-Result.err _ c.args.members.now c.both_payloads-ok.ensures.err (types_of s c.args.builder.now _ _ c.args.members.now c.in-Result.is a)))

pub returns-in-Future : goal.returns-in-Future
returns-in-Future c = λ s a. made_of s _ _ _ _ _ c.in-Future.is (c.type_of_futures.ensures s _ (payload_from s c.args.builder.now _ _ c.args.members.now c.first_payload.ensures (types_of s c.args.builder.now _ _ c.args.members.now c.in-Future.is a)))

pub returns-in-Stream : goal.returns-in-Stream
returns-in-Stream c = λ s a. made_of s _ _ _ _ _ c.in-Stream.is (c.type_of_streams.ensures s _ (payload_from s c.args.builder.now _ _ c.args.members.now c.first_payload-in-Stream.ensures (types_of s c.args.builder.now _ _ c.args.members.now c.in-Stream.is a)))
