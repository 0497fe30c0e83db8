-- What the host's rules answer is of the types of the imports.
use Rattle.std.proofs.Common.{◌≡◌, ℕ, zero, suc, ◌+◌, ◌<◌, ◌≤◌, inl, inr, All, Bool, true, false, List, [], ◌∷◌, ◌++◌, Option, Some, None, refl, sym, ap, ◌∙◌, subst, arith, length, map, take, drop, get_or, slice_get}
use Rattle.std.specs.Prelude.{min, if◌then◌else◌}
use Rattle.std.specs.List.{AllZip}
use Rattle.std.proofs.Math.ListN.{get_or-eq_default}
use Rattle.std.proofs.lemmas.Bool.{cases_lt}
use Rattle.std.proofs.lemmas.List.{get_or-set_same, set_past}
use Rattle.std.proofs.lemmas.List.Elements.{All-append, All-cons, All-drop, All-nil, All-take}
use Rattle.std.proofs.lemmas.Option.{slice_get-get_or}
use Rattle.fact_wasm.specs.declared.types.ValType.{ValType}
use Rattle.fact_wasm.specs.declared.types.ValType.TheVariants as val
use Rattle.fact_wasm.specs.declared.types.FuncType.{FuncType}
use Rattle.fact_wasm.specs.declared.module.WasmImport.{WasmImport}
use Rattle.fact_wasm.specs.declared.module.WasmModule.{WasmModule}
use Rattle.fact_types.specs.Signatures.{address}
use Rattle.fact_types.specs.ImportTypes.{realloc_type}
use Rattle.fact_machine.specs.declared.types.Answer.{Answer}
use Rattle.fact_machine.specs.declared.types.Answer.TheVariants.{Returns, Traps, Throws}
use Rattle.fact_machine.specs.declared.types.CoreValue.{CoreValue}
use Rattle.fact_machine.specs.declared.types.Event.{Event}
use Rattle.fact_machine.specs.declared.types.MachineState.{MachineState}
use Rattle.fact_machine.specs.Lengths.{lengths_of, lengths_behind}
use Rattle.fact_machine.specs.Typed.{AreResults, TypedAnswer, TypedState, type_of_import}
use Rattle.fact_machine.specs.World.{put_at}
use Rattle.fact_check.specs.Accepted.{IsAdapterModule}
use Rattle.fact_check.specs.Soundness.{SeeTyped}
use Rattle.fact_check.proofs.TypedStates.{memory_bytes, memory_with}
use Rattle.fact_actions.specs.Calls.{nth_number}
use Rattle.fact_values.specs.declared.value.Value.{Value}
use Rattle.fact_host.specs.declared.calling.HostCall.{HostCall}
use Rattle.fact_host.specs.declared.calling.HostSide.{HostSide}
use Rattle.fact_host.specs.declared.known.Known.{Known}
use Rattle.fact_host.specs.declared.roles.Role.{Role}
use Rattle.fact_host.specs.declared.roles.Role.TheVariants as role
use Rattle.fact_host.specs.Contract.{HasSideMeans, HasSyncTypes}
use Rattle.fact_host.specs.HonestLaws.{AnswersAreTyped, HasRole}
use Rattle.fact_host.specs.Roles.{function_imports}
use Rattle.fact_host.specs.Rules.{AreWrittenBytes, AreOfCoreTypes, memory_at, with_memory_at, AskedRegion, asked_of, stays, next_region, moved_bytes, bytes_after_region, AnswersBy, CallShapes, Answers, AreAnswers, ReallocsAt, StoresAt, LeavesKnown}
use Rattle.fact_host.proofs.ImportTypes.{IsAt, is_at, slot_results, told_results, transcoder_results, transfer_results}
use Rattle.fact_host.proofs.Regular.{answers_stay}

-- ---- bytes

put_bytes : (bytes : List ℕ) (at : ℕ) (chunk : List ℕ) → AreWrittenBytes bytes → AreWrittenBytes chunk → AreWrittenBytes (put_at bytes at chunk)
put_bytes bytes at chunk h g =
    All-append (λ b. b < 256) (take at bytes) (chunk ++ drop (at + length chunk) bytes) (All-take (λ b. b < 256) at bytes h) (All-append (λ b. b < 256) chunk (drop (at + length chunk) bytes) g (All-drop (λ b. b < 256) (at + length chunk) bytes h))

moved_are : (bytes : List ℕ) (to : ℕ) (q : AskedRegion) → AreWrittenBytes bytes → AreWrittenBytes (moved_bytes bytes to q)
moved_are bytes to q h = put_bytes bytes to (take (min q.old.size q.size) (drop q.old.at bytes)) h (All-take (λ b. b < 256) (min q.old.size q.size) (drop q.old.at bytes) (All-drop (λ b. b < 256) q.old.at bytes h))

region_are : (bytes : List ℕ) (to : ℕ) (q : AskedRegion) (b : Bool) → AreWrittenBytes bytes → AreWrittenBytes (if b then bytes else moved_bytes bytes to q)
region_are bytes to q true h = h
region_are bytes to q false h = moved_are bytes to q h

-- ---- states

module _ (m : WasmModule) (s : MachineState) (typed : TypedState m s) where
  bytes_at : (n : ℕ) → AreWrittenBytes (memory_at s n)
  bytes_at n = elim (cases_lt n (length s.memories)) [
    | inl lt ↦ memory_bytes m s typed n (memory_at s n) (slice_get-get_or s.memories n [] lt)
    | inr ge ↦ subst AreWrittenBytes (sym (get_or-eq_default s.memories [] ge)) (All-nil (λ b. b < 256))
  ]

  typed_with : (n : ℕ) (bytes : List ℕ) → AreWrittenBytes bytes → length bytes ≡ length (memory_at s n) → TypedState m (with_memory_at s n bytes)
  typed_with n bytes are long = elim (cases_lt n (length s.memories)) [
    | inl lt ↦ memory_with m s typed n (memory_at s n) bytes (slice_get-get_or s.memories n [] lt) are long
    | inr ge ↦ subst (λ ms. TypedState m (record { memories = ms; globals = s.globals })) (sym (set_past s.memories n bytes ge)) typed
  ]

-- states whose memories are as long
as_long_at : (before after : MachineState) (n : ℕ) → lengths_of after ≡ lengths_of before → length (memory_at after n) ≡ length (memory_at before n)
as_long_at before after n e = by after.memories before.memories n e
  where
    by : (ms ns : List (List ℕ)) (n : ℕ) → map length ms ≡ map length ns → length (get_or ms n []) ≡ length (get_or ns n [])
    by [] [] n e = refl
    by [] (b ∷ ns) n e = absurd cc
    by (a ∷ ms) [] n e = absurd cc
    by (a ∷ ms) (b ∷ ns) zero e =
        let both : length a ∷ map length ms ≡ length b ∷ map length ns = e in
        let one : length a ≡ length b = cc in
        one
    by (a ∷ ms) (b ∷ ns) (suc n) e =
        let both : length a ∷ map length ms ≡ length b ∷ map length ns = e in
        let rest : map length ms ≡ map length ns = cc in
        by ms ns n rest

grown : (before after : List (List ℕ)) → map length after ≡ map length before → AllZip (λ old new. length old ≤ length new) before after
grown [] [] e = tt
grown [] (b ∷ after) e = absurd cc
grown (a ∷ before) [] e = absurd cc
grown (a ∷ before) (b ∷ after) e =
    let both : length b ∷ map length after ≡ length a ∷ map length before = e in
    let one : length b ≡ length a = cc in
    let rest : map length after ≡ map length before = cc in
    (omega (arith, one), grown before after rest)

-- ---- answers

-- results of types that an import's type gives
given : (m : WasmModule) (n : ℕ) (t : FuncType) (ts : List ValType) (results : List CoreValue) → type_of_import m n ≡ Some t → t.results ≡ ts → AreOfCoreTypes ts results → AreResults (type_of_import m n) results
given m n t ts results is gives h = subst (λ o. AreResults o results) (sym is) (subst (λ us. AreOfCoreTypes us results) (sym gives) h)

-- What every answer leaves is typed, where the lengths of memories stay.
by_answer : {Must : Type 0} {Leave : LeavesKnown} (m : WasmModule) (k k' : Known) (e : Event) → AnswersBy Must Leave k e k' → lengths_behind (lengths_of e.before) e.answer ≡ lengths_of e.before
    → ((results : List CoreValue) (after : MachineState) → lengths_of after ≡ lengths_of e.before → Leave after results k' → AreResults (type_of_import m e.func) results × TypedState m after)
    → TypedAnswer m e.func e.before e.answer
by_answer m k k' e rule stay all = by e.answer refl
  where
    by : (x : Answer) → e.answer ≡ x → TypedAnswer m e.func e.before x
    by (Returns results after) q =
        let long : lengths_of after ≡ lengths_of e.before = subst (λ y. lengths_behind (lengths_of e.before) y ≡ lengths_of e.before) q stay in
        let r = all results after long (rule.returns results after q) in
        (r.0, r.1, grown e.before.memories after.memories long)
    by Traps q = tt
    by Throws q = tt

on_trap : (m : WasmModule) (e : Event) → e.answer ≡ Traps → TypedAnswer m e.func e.before e.answer
on_trap m e q = subst (TypedAnswer m e.func e.before) (sym q) tt

-- one memory is another
left_typed : (m : WasmModule) (s after : MachineState) (n : ℕ) (bytes : List ℕ) → TypedState m s → lengths_of after ≡ lengths_of s → after ≡ with_memory_at s n bytes → AreWrittenBytes bytes → TypedState m after
left_typed m s after n bytes typed long is are = elim (cases_lt n (length s.memories)) [
  | inl lt ↦ subst (TypedState m) (sym is) (typed_with m s typed n bytes are (own lt))
  | inr ge ↦ subst (TypedState m) (sym (is ∙ ap (λ ms. record { memories = ms; globals = s.globals }) (set_past s.memories n bytes ge))) typed
]
  where
    own : n < length s.memories → length bytes ≡ length (memory_at s n)
    own lt = ap length (sym (get_or-set_same s.memories n bytes [] lt)) ∙ ap (λ (x : MachineState). length (memory_at x n)) (sym is) ∙ as_long_at s after n long

module _ (m : WasmModule) (c : HostCall) (s : CallShapes) (answered : Option (List Value)) (adapter : IsAdapterModule m) (types : HasSyncTypes m c s) (lower : HasSideMeans m c.lower) (lift : HasSideMeans m c.lift) where
  reallocs : (side : HostSide) (b : Bool) (k k' : Known) (e : Event) → HasSideMeans m side → side.realloc ≡ Some e.func → TypedState m e.before → lengths_behind (lengths_of e.before) e.answer ≡ lengths_of e.before
      → (n : Option ℕ) → ReallocsAt k side b e k' n → TypedAnswer m e.func e.before e.answer
  reallocs side b k k' e means is typed stay None rule = on_trap m e rule
  reallocs side b k k' e means is typed stay (Some n) rule =
      by_answer m k k' e rule stay (λ results after long left. (
        given m e.func (realloc_type side.abi.memory64) (address side.abi.memory64 ∷ []) results (means.realloc e.func is) refl left.1,
        left_typed m e.before after n (bytes_after_region k n (asked_of e) (memory_at e.before n)) typed long left.0 (region_are (memory_at e.before n) (next_region k n (asked_of e)) (asked_of e) (stays (asked_of e)) (bytes_at m e.before typed n)),
      ))

  stores : (k k' : Known) (before after : MachineState) (most : ℕ) (n : Option ℕ) → TypedState m before → lengths_of after ≡ lengths_of before → StoresAt k k' before after most n → TypedState m after
  stores k k' before after most None typed long h = subst (TypedState m) (sym h.0) typed
  stores k k' before after most (Some n) typed long h = left_typed m before after n h.0 typed long h.2 h.4

  answer_typed : (r : Role) (k k' : Known) (e : Event) (w : WasmImport) → slice_get (function_imports m) e.func ≡ Some w → IsAt m c e.func w r → Answers c s answered r k e k' → TypedState m e.before → TypedAnswer m e.func e.before e.answer
  answer_typed role.Callee k k' e w there is rule typed =
      by_answer m k k' e rule.answers (answers_stay c s answered role.Callee k k' e rule) (λ results after long left. (
        given m e.func _ _ results (ap (type_of_import m) (sym is) ∙ types.callee) refl left.2,
        stores k k' e.before after _ c.lift.memory typed long left.3.stored,
      ))
  answer_typed role.LiftRealloc k k' e w there is rule typed = reallocs c.lift _ k k' e lift is typed (answers_stay c s answered role.LiftRealloc k k' e rule) c.lift.memory rule
  answer_typed role.LowerRealloc k k' e w there is rule typed = reallocs c.lower _ k k' e lower is typed (answers_stay c s answered role.LowerRealloc k k' e rule) c.lower.memory rule
  answer_typed role.PostReturn k k' e w there is rule typed =
      by_answer m k k' e rule (answers_stay c s answered role.PostReturn k k' e rule) (λ results after long left. (
        given m e.func _ [] results (types.post_return e.func is) refl (subst (λ rs. AreOfCoreTypes [] rs) (sym left.1) tt),
        subst (TypedState m) (sym left.0) typed,
      ))
  answer_typed (role.Transcoder o from from64 to to64) k k' e w there is rule typed =
      let t = transcoder_results m e.func w adapter there o from from64 to to64 is in
      by_answer m k k' e rule (answers_stay c s answered (role.Transcoder o from from64 to to64) k k' e rule) (λ results after long left. (
        given m e.func t.0 _ results t.1 t.2 left.3,
        left_typed m e.before after to (put_at (memory_at e.before to) (nth_number e.args 2) left.0) typed long left.4 (put_bytes (memory_at e.before to) (nth_number e.args 2) left.0 (bytes_at m e.before typed to) left.2),
      ))
  answer_typed role.Transfer k k' e w there is rule typed =
      let t = transfer_results m e.func w adapter there is in
      by_answer m k k' e rule (answers_stay c s answered role.Transfer k k' e rule) (λ results after long left. (given m e.func t.0 _ results t.1 t.2 left.0, subst (TypedState m) (sym left.1.0) typed))
  answer_typed role.Slot k k' e w there is rule typed =
      let t = slot_results m e.func w adapter there is in
      by_answer m k k' e rule (answers_stay c s answered role.Slot k k' e rule) (λ results after long left. (
        given m e.func t.0 (val.I32 ∷ []) results t.1 t.2 (subst (λ rs. AreOfCoreTypes (val.I32 ∷ []) rs) (sym left.1) ((refl, omega arith), tt)),
        subst (TypedState m) (sym left.0) typed,
      ))
  answer_typed role.Told k k' e w there is rule typed =
      let t = told_results m e.func w adapter there is in
      by_answer m k k' e rule (answers_stay c s answered role.Told k k' e rule) (λ results after long left. (
        given m e.func t.0 [] results t.1 t.2 (subst (λ rs. AreOfCoreTypes [] rs) (sym left.1) tt),
        subst (TypedState m) (sym left.0) typed,
      ))
  answer_typed role.Refused k k' e w there is rule typed = on_trap m e rule

  all_typed : (k : Known) (log : List Event) → AreAnswers (HasRole m c) c s answered k log → SeeTyped m log → All (λ e. TypedAnswer m e.func e.before e.answer) log
  all_typed k [] rules see = All-nil (λ e. TypedAnswer m e.func e.before e.answer)
  all_typed k (e ∷ es) rules see =
      let one : TypedAnswer m e.func e.before e.answer = answer_typed rules.0 k rules.2 e rules.1.0 rules.1.1 (is_at m c e.func rules.1.0 rules.0 rules.1.2) rules.3 see.0 in
      All-cons (λ e. TypedAnswer m e.func e.before e.answer) e es one (all_typed rules.2 es rules.4 (see.2 one))

pub answers_are_typed : AnswersAreTyped
answers_are_typed m c s answered k log adapter types lower lift rules see = all_typed m c s answered adapter types lower lift k log rules see
