use Rattle.std.proofs.Common.{◌≤◌, Some, get_or, arith, ◌∙◌, sym, ap, subst}
use Rattle.std.specs.Str.{bytes_eq}
use Rattle.std.specs.Prelude.{IfOk}
use Rattle.std.proofs.lemmas.Result.{IfOk-weaker}
use Rattle.std.specs.Map.{lookup}
use Rattle.indexmap.specs.IndexMap.{get}
use Rattle.fact_types.specs.declared.interface.InterfaceType.TheVariants as ty
use Rattle.fact_types.specs.Heights.{height}
use Rattle.fact_types.specs.Tables.{IsLive, IsLiveMember, placed}
use Rattle.fact_agreement.specs.Left.{over, above, IsLeft, AreLeft}
use Rattle.fact_agreement.specs.Named.{type_named}
use Rattle.fact_agreement.specs.Told.{AreLive, of_fields, Tells, TellsAll, TellsPayload, TellsFields, TellsRecords, TellsCases}
use Rattle.fact_agreement.proofs.CaseLaws.{LeftCases, case_live, rest_live, next_case, wrong_case, missing_case, no_more_cases}
use Rattle.fact_agreement.proofs.FieldLaws.{placed_live, field_live, placed_lower, named_live, named_lower, fields_from, next_field, wrong_field, no_more_fields, types_from, next_types, wrong_types, no_more_types, not_as_many}
use Rattle.fact_agreement.proofs.KnownLaws.{pair_eq, one_more}
use Rattle.fact_agreement.proofs.MeasureLaws.{first_lower, rest_lower}
use Rattle.fact_agreement.proofs.FieldNames.{no_records, by_fields}
use Rattle.fact_agreement.proofs.MemberLaws.{is_so, is_not, both_told, first_told}
use Rattle.fact_agreement.proofs.agreement.Agreement.+agreeing.Goals as goal

-- ---- lists of types
pub agree_all-returns-then-from-to-clause-exact : goal.agree_all-returns-then-from-to-clause-exact
agree_all-returns-then-from-to-clause-exact t c = λ ss ds h k. is_not (not_as_many c.args.self.now c.args.from.now c.args.to.now ss ds h k c.if-from-to.true)

pub agree_all-agrees-requires : goal.agree_all-agrees-requires
agree_all-agrees-requires t c =
    let same = c.loop-i.invariant.same in
    let low = placed_lower c.args.self.now 0 c.args.from.now c.loop-i.i ty.Bool c.loop-i-test.true in (
      omega (arith, c.decreases, low, ap (λ t. height t (get_or c.args.from.now c.loop-i.i ty.Bool)) same),
      (
        subst (λ t. IsLive t (get_or c.args.from.now c.loop-i.i ty.Bool)) (sym same) (c.requires.from_live c.loop-i.i ty.Bool c.loop-i-test.true),
        subst (λ t. IsLive t (get_or c.args.to.now c.loop-i.i ty.Bool)) (sym same) (c.requires.to_live c.loop-i.i ty.Bool (omega (arith, c.loop-i-test.true, c.if-from-to.false))),
      ),
    )

pub agree_all-returns-then-not-branch-clause-exact : goal.agree_all-returns-then-not-branch-clause-exact
agree_all-returns-then-not-branch-clause-exact t c = λ ss ds h k.
    let here = types_from c.args.self.now c.args.from.now c.args.to.now c.loop-i.i ty.Bool ss ds c.loop-i-test.true c.if-from-to.false (c.loop-i.invariant.left ss ds h k) in
    let told = subst (λ t. Tells t (get_or c.args.from.now c.loop-i.i ty.Bool) (get_or c.args.to.now c.loop-i.i ty.Bool) c.in_ok-agrees.field-0) c.loop-i.invariant.same c.in_ok-agrees.ensures.exact in
    is_not (wrong_types c.args.self.now _ _ _ _ ss ds here c.in_ok-agrees.field-0 told c.if-not-branch.true)

pub agree_all-loop-i-preserved : goal.agree_all-loop-i-preserved
agree_all-loop-i-preserved t c = record {
  same = c.in_ok-agrees.ensures.same ∙ c.loop-i.invariant.same;
  left = λ ss ds h k.
      let here = types_from c.args.self.now c.args.from.now c.args.to.now c.loop-i.i ty.Bool ss ds c.loop-i-test.true c.if-from-to.false (c.loop-i.invariant.left ss ds h k) in
      let told = subst (λ t. Tells t (get_or c.args.from.now c.loop-i.i ty.Bool) (get_or c.args.to.now c.loop-i.i ty.Bool) c.in_ok-agrees.field-0) c.loop-i.invariant.same c.in_ok-agrees.ensures.exact in
      next_types c.args.self.now _ _ _ _ ss ds here c.in_ok-agrees.field-0 told c.if-not-branch.false;
}

pub agree_all-returns-clause-exact : goal.agree_all-returns-clause-exact
agree_all-returns-clause-exact t c = λ ss ds h k. is_so (no_more_types c.args.self.now c.args.from.now c.args.to.now c.loop-i.i ss ds (omega (arith, c.loop-i-test.false)) c.if-from-to.false (c.loop-i.invariant.left ss ds h k))

-- ---- the cases of variants
pub agree_cases-returns-in_default-clause-exact : goal.agree_cases-returns-in_default-clause-exact
agree_cases-returns-in_default-clause-exact t c = λ ms ns h k.
    let left = subst (λ xs. LeftCases c.args.self.now xs ms ns) c.in-Some.ensures.steps (c.loop-name.invariant.left ms ns h k) in
    is_not (missing_case c.args.self.now c.args.to.now.entries c.in-Some.name.now c.in-Some.payload.now c.next.new.self ms ns left k (sym c.in_default.ensures.value))

pub agree_cases-agree_payload-requires : goal.agree_cases-agree_payload-requires
agree_cases-agree_payload-requires t c =
    let same = c.loop-name.invariant.same in
    let payload = c.in-Some.payload.now in
    let lower = subst (λ xs. above c.args.self.now xs ≤ above c.args.self.now c.args.from.now.entries) c.in-Some.ensures.steps c.loop-name.invariant.lower in
    let low = first_lower c.args.self.now (c.in-Some.name.now, payload) c.next.new.self (above c.args.self.now c.args.from.now.entries) lower in
    let live = subst (AreLive c.args.self.now) c.in-Some.ensures.steps c.loop-name.invariant.live in (
      omega (arith, c.decreases, low, ap (λ t. over t payload) same),
      (
        subst (λ t. IsLiveMember t payload) (sym same) (live 0 (c.in-Some.name.now, payload) (omega arith)),
        subst (λ t. IsLiveMember t c.in-Some-get.other.now) (sym same)
            (case_live c.args.self.now (bytes_eq c.in-Some.name.now) c.args.to.now.entries c.in-Some-get.other.now c.requires.to_live (sym c.in-Some-get.ensures.value)),
      ),
    )

pub agree_cases-returns-then-not-branch-clause-exact : goal.agree_cases-returns-then-not-branch-clause-exact
agree_cases-returns-then-not-branch-clause-exact t c = λ ms ns h k.
    let left = subst (λ xs. LeftCases c.args.self.now xs ms ns) c.in-Some.ensures.steps (c.loop-name.invariant.left ms ns h k) in
    let told = subst (λ t. TellsPayload t c.in-Some.payload.now c.in-Some-get.other.now c.in_ok-agree_payload.field-0) c.loop-name.invariant.same c.in_ok-agree_payload.ensures.exact in
    is_not (wrong_case c.args.self.now c.args.to.now.entries c.in-Some.name.now c.in-Some.payload.now c.next.new.self ms ns left k c.in-Some-get.other.now _ (sym c.in-Some-get.ensures.value) told c.if-not-branch.true)

pub agree_cases-loop-name-preserved : goal.agree_cases-loop-name-preserved
agree_cases-loop-name-preserved t c = record {
  can_next = tt;
  is_finite = tt;
  same = c.in_ok-agree_payload.ensures.same ∙ c.loop-name.invariant.same;
  live = rest_live c.args.self.now (c.in-Some.name.now, c.in-Some.payload.now) c.next.new.self (subst (AreLive c.args.self.now) c.in-Some.ensures.steps c.loop-name.invariant.live);
  lower =
      rest_lower c.args.self.now (c.in-Some.name.now, c.in-Some.payload.now) c.next.new.self (above c.args.self.now c.args.from.now.entries)
      (subst (λ xs. above c.args.self.now xs ≤ above c.args.self.now c.args.from.now.entries) c.in-Some.ensures.steps c.loop-name.invariant.lower);
  left = λ ms ns h k.
      let left = subst (λ xs. LeftCases c.args.self.now xs ms ns) c.in-Some.ensures.steps (c.loop-name.invariant.left ms ns h k) in
      let told = subst (λ t. TellsPayload t c.in-Some.payload.now c.in-Some-get.other.now c.in_ok-agree_payload.field-0) c.loop-name.invariant.same c.in_ok-agree_payload.ensures.exact in
      next_case c.args.self.now c.args.to.now.entries c.in-Some.name.now c.in-Some.payload.now c.next.new.self ms ns left k c.in-Some-get.other.now _ (sym c.in-Some-get.ensures.value) told c.if-not-branch.false;
}

pub agree_cases-returns-clause-exact : goal.agree_cases-returns-clause-exact
agree_cases-returns-clause-exact t c = λ ms ns h k. is_so (no_more_cases c.args.self.now ms ns (subst (λ xs. LeftCases c.args.self.now xs ms ns) c.in-None.ensures.steps.0 (c.loop-name.invariant.left ms ns h k)))

-- ---- the fields of records
pub agree_fields-agree_payload-requires : goal.agree_fields-agree_payload-requires
agree_fields-agree_payload-requires t c =
    let same = c.loop-field.invariant.same in
    let found = type_named c.field-item.result.name c.args.from.now in
    let low = named_lower c.args.self.now c.field-item.result.name c.args.from.now in (
      omega (arith, c.decreases, low, ap (λ t. over t c.ty.result) same, ap (over c.args.self.now) c.ty.ensures),
      (
        subst (λ t. IsLiveMember t c.ty.result) (sym same) (subst (IsLiveMember c.args.self.now) (sym c.ty.ensures) (named_live c.args.self.now c.field-item.result.name c.args.from.now c.requires.from_live)),
        subst (λ t. IsLive t c.field-item.result.ty) (sym same) (field_live c.args.self.now c.args.to.now c.loop-field.field-index c.field-item.result c.requires.to_live c.loop-field-test.true c.field-item.is),
      ),
    )

pub agree_fields-returns-then-not-branch-clause-exact : goal.agree_fields-returns-then-not-branch-clause-exact
agree_fields-returns-then-not-branch-clause-exact t c = λ ms ns h k.
    let f = c.field-item.result in
    let left = fields_from c.args.self.now c.args.to.now c.loop-field.field-index f ms ns c.loop-field-test.true c.field-item.is (c.loop-field.invariant.left ms ns h k) in
    let told = subst (λ t. TellsPayload t c.ty.result (Some f.ty) c.in_ok-agree_payload.field-0) c.loop-field.invariant.same c.in_ok-agree_payload.ensures.exact in
    is_not (wrong_field c.args.self.now c.args.from.now f _ ms ns left h _ (subst (λ o. TellsPayload c.args.self.now o (Some f.ty) c.in_ok-agree_payload.field-0) c.ty.ensures told) c.if-not-branch.true)

pub agree_fields-loop-field-preserved : goal.agree_fields-loop-field-preserved
agree_fields-loop-field-preserved t c = record {
  same = c.in_ok-agree_payload.ensures.same ∙ c.loop-field.invariant.same;
  left = λ ms ns h k.
      let f = c.field-item.result in
      let left = fields_from c.args.self.now c.args.to.now c.loop-field.field-index f ms ns c.loop-field-test.true c.field-item.is (c.loop-field.invariant.left ms ns h k) in
      let told = subst (λ t. TellsPayload t c.ty.result (Some f.ty) c.in_ok-agree_payload.field-0) c.loop-field.invariant.same c.in_ok-agree_payload.ensures.exact in
      next_field c.args.self.now c.args.from.now f _ ms ns left h _ (subst (λ o. TellsPayload c.args.self.now o (Some f.ty) c.in_ok-agree_payload.field-0) c.ty.ensures told) c.if-not-branch.false;
}

pub agree_fields-returns-clause-exact : goal.agree_fields-returns-clause-exact
agree_fields-returns-clause-exact t c = λ ms ns h k. is_so (no_more_fields c.args.self.now c.args.to.now c.loop-field.field-index ms ns (omega (arith, c.loop-field-test.false)) (c.loop-field.invariant.left ms ns h k))

pub agree_records-agree_fields-requires : goal.agree_records-agree_fields-requires
agree_records-agree_fields-requires t c =
    let same = c.in_ok-source.ensures in
    (omega (arith, c.decreases, ap (λ fs. above c.args.self.now (of_fields fs)) same), (subst (λ fs. AreLive c.args.self.now (of_fields fs)) (sym same) c.requires.from_live, c.requires.to_live))

pub agree_records-returns-then-not-names_there-clause-exact : goal.agree_records-returns-then-not-names_there-clause-exact
agree_records-returns-then-not-names_there-clause-exact t c = no_records c.args.self.now c.args.from.now c.args.to.now c.in_ok-names_there.names_there c.in_ok-names_there.ensures c.if-not-names_there.true

pub agree_records-returns-clause-exact : goal.agree_records-returns-clause-exact
agree_records-returns-clause-exact t c =
    IfOk-weaker c.agree_fields.result (TellsFields c.args.self.now c.args.from.now c.args.to.now) (TellsRecords c.args.self.now c.args.from.now c.args.to.now)
    (by_fields c.args.self.now c.args.from.now c.args.to.now c.in_ok-names_there.names_there c.in_ok-names_there.ensures c.if-not-names_there.false)
    (subst (λ fs. IfOk c.agree_fields.result (TellsFields c.args.self.now fs c.args.to.now)) c.in_ok-source.ensures c.agree_fields.ensures.exact)

-- ---- what is known
pub agrees-returns-in-Some-clause-exact : goal.agrees-returns-in-Some-clause-exact
agrees-returns-in-Some-clause-exact t c =
    subst (λ t. Tells t c.args.from.now c.args.to.now c.in-Some.known) c.self.view_is
    (c.self.invariant c.args.from.now c.args.to.now c.in-Some.known (sym c.get.ensures.value ∙ sym c.copied.ensures ∙ c.in-Some.is))

pub agrees-invariant_of-self : goal.agrees-invariant_of-self
agrees-invariant_of-self t c = λ from to b e. c.self-2.invariant from to b (sym (ap (lookup (pair_eq (from, to))) c.in_err-insert.ensures.err) ∙ e)

pub agrees-invariant_of-self-2 : goal.agrees-invariant_of-self-2
agrees-invariant_of-self-2 t c =
    let tables = c.self-2.view_is ∙ c.in_ok-agrees.ensures.same in
    one_more c.self-2.inside.types.now (get pair_eq c.self-2.inside.known) (get pair_eq c.insert.new.self) (c.args.from.now, c.args.to.now) c.in_ok-agrees.agrees
    c.self-2.invariant (λ q. c.in_ok-insert.ensures.updates.0 q) (subst (λ t. Tells t c.args.from.now c.args.to.now c.in_ok-agrees.agrees) (sym tables) c.in_ok-agrees.ensures.exact)

-- ---- by kind
pub compare-agree_records-requires : goal.compare-agree_records-requires
compare-agree_records-requires t c =
    let left = subst (λ t. IsLeft t c.args.from.now c.args.to.now (of_fields c.in-Records.from.now) (of_fields c.in-Records.to.now) (TellsRecords t c.in-Records.from.now c.in-Records.to.now)) c.types.ensures c.in-Records.ensures in
    (omega (arith, c.decreases, left.lower), (left.from_live, left.to_live))

pub compare-agree_cases-requires : goal.compare-agree_cases-requires
compare-agree_cases-requires t c =
    let xs = c.in-Variants.from.now.entries in
    let ys = c.in-Variants.to.now.entries in
    let left = subst (λ t. IsLeft t c.args.from.now c.args.to.now xs ys (TellsCases t xs ys)) c.types.ensures c.in-Variants.ensures in
    (omega (arith, c.decreases, left.lower), (left.from_live, left.to_live))

pub compare-agree_payload-requires : goal.compare-agree_payload-requires
compare-agree_payload-requires t c =
    let p = c.in-Payloads.first in
    let q = c.in-Payloads.second in
    let left = subst (λ t. AreLeft t c.args.from.now c.args.to.now p q) c.types.ensures c.in-Payloads.ensures in
    (omega (arith, c.decreases, left.first_lower), left.first_live)

pub compare-agree_payload-requires-then-branch : goal.compare-agree_payload-requires-then-branch
compare-agree_payload-requires-then-branch t c =
    let p = c.in-Payloads.first in
    let q = c.in-Payloads.second in
    let same = c.in_ok-agree_payload-in-Payloads.ensures.same in
    let left = subst (λ t. AreLeft t c.args.from.now c.args.to.now p q) c.types.ensures c.in-Payloads.ensures in (
      omega (arith, c.decreases, left.second_lower, ap (λ t. over t q.0) same),
      (subst (λ t. IsLiveMember t q.0) (sym same) left.second_live.0, subst (λ t. IsLiveMember t q.1) (sym same) left.second_live.1),
    )

pub compare-agree_all-requires : goal.compare-agree_all-requires
compare-agree_all-requires t c =
    let left = subst (λ t. IsLeft t c.args.from.now c.args.to.now (placed 0 c.in-Tuples.from.now) (placed 0 c.in-Tuples.to.now) (TellsAll t c.in-Tuples.from.now c.in-Tuples.to.now)) c.types.ensures c.in-Tuples.ensures in
    (omega (arith, c.decreases, left.lower), (placed_live c.args.self.now 0 c.in-Tuples.from.now left.from_live, placed_live c.args.self.now 0 c.in-Tuples.to.now left.to_live))

pub compare-returns-in-Records-clause-exact : goal.compare-returns-in-Records-clause-exact
compare-returns-in-Records-clause-exact t c =
    let left = subst (λ t. IsLeft t c.args.from.now c.args.to.now (of_fields c.in-Records.from.now) (of_fields c.in-Records.to.now) (TellsRecords t c.in-Records.from.now c.in-Records.to.now)) c.types.ensures c.in-Records.ensures in
    IfOk-weaker c.agree_records.result (TellsRecords c.args.self.now c.in-Records.from.now c.in-Records.to.now) (Tells c.args.self.now c.args.from.now c.args.to.now) left.tells c.agree_records.ensures.exact

pub compare-returns-in-Variants-clause-exact : goal.compare-returns-in-Variants-clause-exact
compare-returns-in-Variants-clause-exact t c =
    let xs = c.in-Variants.from.now.entries in
    let ys = c.in-Variants.to.now.entries in
    let left = subst (λ t. IsLeft t c.args.from.now c.args.to.now xs ys (TellsCases t xs ys)) c.types.ensures c.in-Variants.ensures in
    IfOk-weaker c.agree_cases.result (TellsCases c.args.self.now xs ys) (Tells c.args.self.now c.args.from.now c.args.to.now) left.tells c.agree_cases.ensures.exact

pub compare-returns-in-Tuples-clause-exact : goal.compare-returns-in-Tuples-clause-exact
compare-returns-in-Tuples-clause-exact t c =
    let left = subst (λ t. IsLeft t c.args.from.now c.args.to.now (placed 0 c.in-Tuples.from.now) (placed 0 c.in-Tuples.to.now) (TellsAll t c.in-Tuples.from.now c.in-Tuples.to.now)) c.types.ensures c.in-Tuples.ensures in
    IfOk-weaker c.agree_all.result (TellsAll c.args.self.now c.in-Tuples.from.now c.in-Tuples.to.now) (Tells c.args.self.now c.args.from.now c.args.to.now) left.tells c.agree_all.ensures.exact

pub compare-returns-in_ok-agree_payload-in-Payloads-2-clause-exact : goal.compare-returns-in_ok-agree_payload-in-Payloads-2-clause-exact
compare-returns-in_ok-agree_payload-in-Payloads-2-clause-exact t c =
    let p = c.in-Payloads.first in
    let q = c.in-Payloads.second in
    let left = subst (λ t. AreLeft t c.args.from.now c.args.to.now p q) c.types.ensures c.in-Payloads.ensures in
    let second = subst (λ t. TellsPayload t q.0 q.1 c.in_ok-agree_payload-in-Payloads-2.field-0) c.in_ok-agree_payload-in-Payloads.ensures.same c.in_ok-agree_payload-in-Payloads-2.ensures.exact in
    left.tells _ (both_told c.args.self.now p q _ _ c.in_ok-agree_payload-in-Payloads.ensures.exact c.if-branch.true second)

pub compare-returns-else-branch-clause-exact : goal.compare-returns-else-branch-clause-exact
compare-returns-else-branch-clause-exact t c =
    let p = c.in-Payloads.first in
    let q = c.in-Payloads.second in
    let left = subst (λ t. AreLeft t c.args.from.now c.args.to.now p q) c.types.ensures c.in-Payloads.ensures in
    left.tells _ (first_told c.args.self.now p q _ c.in_ok-agree_payload-in-Payloads.ensures.exact c.if-branch.false)
