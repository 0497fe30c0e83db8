use Rattle.std.proofs.Common.{refl, sym, subst}
use Rattle.fact_types.specs.declared.interface.InterfaceType.TheVariants.{Own as t_own, Borrow as t_borrow, ErrorContext as t_error_context}
use Rattle.fact_types.specs.Tables.{IsLive}
use Rattle.fact_agreement.specs.Left.{LeavesToTell}
use Rattle.fact_agreement.proofs.KindLaws.{handles_agree, handles_differ, other_than_own, other_than_borrow, other_than_error_context, futures_agree, futures_differ, streams_agree, streams_differ}
use Rattle.fact_agreement.proofs.ScalarLaws.{plain_left, scalar}
use Rattle.fact_agreement.proofs.comparison.left_to_compare.Goals.{in-Own-matches, in_default-matches, in-Borrow-matches, in_default-matches-2, in-Future-matches, in_default-matches-3, in-Stream-matches, in_default-matches-4, in-ErrorContext-matches, in_default-matches-5}
use Rattle.fact_agreement.proofs.comparison.left_to_compare.Goals as goal

pub returns-in_default : goal.returns-in_default
returns-in_default c =
    let h = c.in_default in
    scalar c.args.from.now h.not-Own h.not-Borrow h.not-ErrorContext c.args.types.now c.args.to.now c.eq.result
    (plain_left c.args.from.now h.not-Record h.not-Variant h.not-List h.not-Tuple h.not-Map h.not-Flags h.not-Enum h.not-Option h.not-Result h.not-Future h.not-Stream h.not-FixedLengthList)
    c.eq.ensures

pub of_record-requires-clause-from_live : goal.of_record-requires-clause-from_live
of_record-requires-clause-from_live c = subst (IsLive c.args.types.now) c.in-Record.is c.requires.from_live

pub returns-in-Record : goal.returns-in-Record
returns-in-Record c = subst (λ ty. LeavesToTell c.args.types.now ty c.args.to.now c.of_record.result) (sym c.in-Record.is) c.of_record.ensures

pub of_variant-requires-clause-from_live : goal.of_variant-requires-clause-from_live
of_variant-requires-clause-from_live c = subst (IsLive c.args.types.now) c.in-Variant.is c.requires.from_live

pub returns-in-Variant : goal.returns-in-Variant
returns-in-Variant c = subst (λ ty. LeavesToTell c.args.types.now ty c.args.to.now c.of_variant.result) (sym c.in-Variant.is) c.of_variant.ensures

pub of_tuple-requires-clause-from_live : goal.of_tuple-requires-clause-from_live
of_tuple-requires-clause-from_live c = subst (IsLive c.args.types.now) c.in-Tuple.is c.requires.from_live

pub returns-in-Tuple : goal.returns-in-Tuple
returns-in-Tuple c = subst (λ ty. LeavesToTell c.args.types.now ty c.args.to.now c.of_tuple.result) (sym c.in-Tuple.is) c.of_tuple.ensures

pub of_flags-requires-clause-from_live : goal.of_flags-requires-clause-from_live
of_flags-requires-clause-from_live c = subst (IsLive c.args.types.now) c.in-Flags.is c.requires.from_live

pub returns-in-Flags : goal.returns-in-Flags
returns-in-Flags c = subst (λ ty. LeavesToTell c.args.types.now ty c.args.to.now c.of_flags.result) (sym c.in-Flags.is) c.of_flags.ensures

pub of_enum-requires-clause-from_live : goal.of_enum-requires-clause-from_live
of_enum-requires-clause-from_live c = subst (IsLive c.args.types.now) c.in-Enum.is c.requires.from_live

pub returns-in-Enum : goal.returns-in-Enum
returns-in-Enum c = subst (λ ty. LeavesToTell c.args.types.now ty c.args.to.now c.of_enum.result) (sym c.in-Enum.is) c.of_enum.ensures

pub of_list-requires-clause-from_live : goal.of_list-requires-clause-from_live
of_list-requires-clause-from_live c = subst (IsLive c.args.types.now) c.in-List.is c.requires.from_live

pub returns-in-List : goal.returns-in-List
returns-in-List c = subst (λ ty. LeavesToTell c.args.types.now ty c.args.to.now c.of_list.result) (sym c.in-List.is) c.of_list.ensures

pub of_map-requires-clause-from_live : goal.of_map-requires-clause-from_live
of_map-requires-clause-from_live c = subst (IsLive c.args.types.now) c.in-Map.is c.requires.from_live

pub returns-in-Map : goal.returns-in-Map
returns-in-Map c = subst (λ ty. LeavesToTell c.args.types.now ty c.args.to.now c.of_map.result) (sym c.in-Map.is) c.of_map.ensures

pub of_option-requires-clause-from_live : goal.of_option-requires-clause-from_live
of_option-requires-clause-from_live c = subst (IsLive c.args.types.now) c.in-Option.is c.requires.from_live

pub returns-in-Option : goal.returns-in-Option
returns-in-Option c = subst (λ ty. LeavesToTell c.args.types.now ty c.args.to.now c.of_option.result) (sym c.in-Option.is) c.of_option.ensures

pub of_result-requires-clause-from_live : goal.of_result-requires-clause-from_live
of_result-requires-clause-from_live c = subst (IsLive c.args.types.now) c.in-Result.is c.requires.from_live

pub returns-in-Result : goal.returns-in-Result
returns-in-Result c = subst (λ ty. LeavesToTell c.args.types.now ty c.args.to.now c.of_result.result) (sym c.in-Result.is) c.of_result.ensures

pub of_fixed_length_list-requires-clause-from_live : goal.of_fixed_length_list-requires-clause-from_live
of_fixed_length_list-requires-clause-from_live c = subst (IsLive c.args.types.now) c.in-FixedLengthList.is c.requires.from_live

pub returns-in-FixedLengthList : goal.returns-in-FixedLengthList
returns-in-FixedLengthList c = subst (λ ty. LeavesToTell c.args.types.now ty c.args.to.now c.of_fixed_length_list.result) (sym c.in-FixedLengthList.is) c.of_fixed_length_list.ensures

pub returns-after-matches : goal.returns-after-matches
returns-after-matches c =
    elim c.match-matches.branch [
      | in-Own-matches w ↦ handles_agree t_own (λ x. refl) c.args.types.now c.args.from.now c.args.to.now c.match-matches.matches c.in-Own.field-0 c.in-Own.is (λ x y. tt) w.in-Own-matches.field-0 w.in-Own-matches.is w.matches-is
      | in_default-matches w ↦ handles_differ t_own (λ x. refl) c.args.types.now c.args.from.now c.args.to.now c.match-matches.matches c.in-Own.field-0 c.in-Own.is other_than_own w.in_default-matches.not-Own w.matches-is
    ]

pub returns-after-matches-2 : goal.returns-after-matches-2
returns-after-matches-2 c =
    elim c.match-matches-2.branch [
      | in-Borrow-matches w ↦ handles_agree t_borrow (λ x. refl) c.args.types.now c.args.from.now c.args.to.now c.match-matches-2.matches c.in-Borrow.field-0 c.in-Borrow.is (λ x y. tt) w.in-Borrow-matches.field-0 w.in-Borrow-matches.is w.matches-is
      | in_default-matches-2 w ↦ handles_differ t_borrow (λ x. refl) c.args.types.now c.args.from.now c.args.to.now c.match-matches-2.matches c.in-Borrow.field-0 c.in-Borrow.is other_than_borrow w.in_default-matches-2.not-Borrow w.matches-is
    ]

pub returns-after-matches-3 : goal.returns-after-matches-3
returns-after-matches-3 c =
    elim c.match-matches-3.branch [
      | in-Future-matches w ↦ futures_agree c.args.types.now c.args.from.now c.args.to.now c.match-matches-3.matches c.in-Future.field-0 w.in-Future-matches.field-0 c.in-Future.is w.in-Future-matches.is w.matches-is
      | in_default-matches-3 w ↦ futures_differ c.args.types.now c.args.from.now c.args.to.now c.match-matches-3.matches c.in-Future.field-0 c.in-Future.is w.in_default-matches-3.not-Future w.matches-is
    ]

pub returns-after-matches-4 : goal.returns-after-matches-4
returns-after-matches-4 c =
    elim c.match-matches-4.branch [
      | in-Stream-matches w ↦ streams_agree c.args.types.now c.args.from.now c.args.to.now c.match-matches-4.matches c.in-Stream.field-0 w.in-Stream-matches.field-0 c.in-Stream.is w.in-Stream-matches.is w.matches-is
      | in_default-matches-4 w ↦ streams_differ c.args.types.now c.args.from.now c.args.to.now c.match-matches-4.matches c.in-Stream.field-0 c.in-Stream.is w.in_default-matches-4.not-Stream w.matches-is
    ]

pub returns-after-matches-5 : goal.returns-after-matches-5
returns-after-matches-5 c =
    elim c.match-matches-5.branch [
      | in-ErrorContext-matches w ↦ handles_agree t_error_context (λ x. refl) c.args.types.now c.args.from.now c.args.to.now c.match-matches-5.matches c.in-ErrorContext.field-0 c.in-ErrorContext.is (λ x y. tt) w.in-ErrorContext-matches.field-0 w.in-ErrorContext-matches.is w.matches-is
      | in_default-matches-5 w ↦ handles_differ t_error_context (λ x. refl) c.args.types.now c.args.from.now c.args.to.now c.match-matches-5.matches c.in-ErrorContext.field-0 c.in-ErrorContext.is other_than_error_context w.in_default-matches-5.not-ErrorContext w.matches-is
    ]
