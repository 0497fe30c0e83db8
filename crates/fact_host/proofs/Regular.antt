-- The host's rules leave memories as long as they are.
use Rattle.std.proofs.Common.{◌≡◌, ℕ, ◌+◌, ◌-◌, ◌≤◌, inl, inr, Bool, true, false, List, [], ◌∷◌, ◌++◌, Option, Some, None, refl, sym, ap, ◌∙◌, subst, arith, length, map, take, drop}
use Rattle.std.specs.Prelude.{min, if◌then◌else◌}
use Rattle.std.proofs.Math.Seq.{map-set_same}
use Rattle.std.proofs.lemmas.Bool.{cases_lt}
use Rattle.std.proofs.lemmas.List.{length-append, length-take, length-drop, length-take-le}
use Rattle.fact_machine.specs.declared.types.CoreValue.{CoreValue}
use Rattle.fact_machine.specs.declared.types.MachineState.{MachineState}
use Rattle.fact_machine.specs.declared.types.Answer.{Answer}
use Rattle.fact_machine.specs.declared.types.Answer.TheVariants.{Returns, Traps, Throws}
use Rattle.fact_machine.specs.declared.types.Event.{Event}
use Rattle.fact_machine.specs.LastTrap.{TrapIsLast}
use Rattle.fact_machine.specs.Lengths.{lengths_of, lengths_behind, SeeLengths}
use Rattle.fact_machine.specs.World.{put_at}
use Rattle.fact_values.specs.declared.value.Value.{Value}
use Rattle.fact_values.specs.Lift.{bits_of}
use Rattle.fact_actions.specs.Calls.{nth_number}
use Rattle.fact_host.specs.declared.calling.HostCall.{HostCall}
use Rattle.fact_host.specs.declared.calling.HostSide.{HostSide}
use Rattle.fact_host.specs.declared.roles.Role.{Role}
use Rattle.fact_host.specs.declared.roles.Role.TheVariants as role
use Rattle.fact_host.specs.declared.known.Known.{Known}
use Rattle.fact_host.specs.Rules.{memory_at, with_memory_at, AskedRegion, asked_of, stays, next_region, MustRefuse, NoRoom, moved_bytes, bytes_after_region, DestinationOutside, AnswersBy, CallShapes, Answers, AreAnswers, ReallocsAt, StoresAt, LeavesKnown}

-- the memories of a state have these lengths
abbrev pub HasLengths : List ℕ → MachineState → Type 0
HasLengths lengths s = map length s.memories ≡ lengths

-- Each state before a call has memories of these lengths, and a trap is the last answer.
abbrev pub AreRegular : List ℕ → List Event → Type 0
AreRegular lengths [] = Unit {0}
AreRegular lengths (e ∷ es) = HasLengths lengths e.before × (e.answer ≡ Traps → es ≡ []) × AreRegular lengths es

length_put : (bytes : List ℕ) (r : ℕ) (chunk : List ℕ) → r + length chunk ≤ length bytes → length (put_at bytes r chunk) ≡ length bytes
length_put bytes r chunk le =
    let t : length (take r bytes) ≡ r = length-take-le r bytes (omega arith) in
    let u : length (drop (r + length chunk) bytes) ≡ length bytes - (r + length chunk) = length-drop (r + length chunk) bytes in
    let v : length (put_at bytes r chunk) ≡ length (take r bytes) + (length chunk + length (drop (r + length chunk) bytes)) = length-append (take r bytes) (chunk ++ drop (r + length chunk) bytes) ∙ ap (λ z. length (take r bytes) + z) (length-append chunk (drop (r + length chunk) bytes)) in
    omega arith

-- a memory becomes another one that is as long
as_long : (s : MachineState) (n : ℕ) (bytes : List ℕ) → length bytes ≡ length (memory_at s n) → lengths_of (with_memory_at s n bytes) ≡ lengths_of s
as_long s n bytes e = map-set_same length s.memories n bytes [] e

not_traps : (rs : List CoreValue) (st : MachineState) → Returns rs st ≡ Traps → ⊥
not_traps rs st q = cc

-- what every answer leaves, every call leaves
by_answer : {Must : Type 0} {Leave : LeavesKnown} (k k' : Known) (e : Event) → AnswersBy Must Leave k e k'
    → ((results : List CoreValue) (after : MachineState) → (Must → ⊥) → Leave after results k' → lengths_of after ≡ lengths_of e.before)
    → lengths_behind (lengths_of e.before) e.answer ≡ lengths_of e.before
by_answer {Must} k k' e rule all = by e.answer refl
  where
    by : (x : Answer) → e.answer ≡ x → lengths_behind (lengths_of e.before) x ≡ lengths_of e.before
    by (Returns results after) q = all results after (λ must. not_traps results after (sym q ∙ rule.traps.1 must)) (rule.returns results after q)
    by Traps q = refl
    by Throws q = refl

on_trap : (lengths : List ℕ) (x : Answer) → x ≡ Traps → lengths_behind lengths x ≡ lengths
on_trap lengths (Returns results after) q = absurd (not_traps results after q)
on_trap lengths Traps q = refl
on_trap lengths Throws q = refl

same : (after before : MachineState) → after ≡ before → lengths_of after ≡ lengths_of before
same after before e = ap lengths_of e

reallocs : (k k' : Known) (side : HostSide) (b : Bool) (e : Event) (n : Option ℕ) → ReallocsAt k side b e k' n → lengths_behind (lengths_of e.before) e.answer ≡ lengths_of e.before
reallocs k k' side b e None rule = on_trap (lengths_of e.before) e.answer rule
reallocs k k' side b e (Some n) rule = by_answer k k' e rule (λ results after may left. same after _ left.0 ∙ as_long e.before n (bytes_after_region k n (asked_of e) (memory_at e.before n)) (by (stays (asked_of e)) refl may))
  where
    by : (z : Bool) → stays (asked_of e) ≡ z → (MustRefuse k n b (memory_at e.before n) (asked_of e) → ⊥)
        → length (if z then memory_at e.before n else moved_bytes (memory_at e.before n) (next_region k n (asked_of e)) (asked_of e)) ≡ length (memory_at e.before n)
    by true q may = refl
    by false q may =
        let q' : AskedRegion = asked_of e in
        let chunk : List ℕ = take (min q'.old.size q'.size) (drop q'.old.at (memory_at e.before n)) in
        let short : length chunk ≡ min (min q'.old.size q'.size) (length (drop q'.old.at (memory_at e.before n))) = length-take (min q'.old.size q'.size) (drop q'.old.at (memory_at e.before n)) in
        length_put (memory_at e.before n) (next_region k n q') chunk
        (elim (cases_lt (length (memory_at e.before n)) (next_region k n q' + q'.size)) [ inl lt ↦ absurd (may (NoRoom q lt)) | inr le ↦ omega arith ])

stores : (k k' : Known) (before after : MachineState) (most : ℕ) (n : Option ℕ) → StoresAt k k' before after most n → lengths_of after ≡ lengths_of before
stores k k' before after most None h = same after before h.0
stores k k' before after most (Some n) h = same after _ h.2 ∙ as_long before n h.0 h.5

pub answers_stay : (c : HostCall) (s : CallShapes) (answered : Option (List Value)) (r : Role) (k k' : Known) (e : Event) → Answers c s answered r k e k' → lengths_behind (lengths_of e.before) e.answer ≡ lengths_of e.before
answers_stay c s answered role.Callee k k' e rule = by_answer k k' e rule.answers (λ results after may left. stores k k' e.before after _ c.lift.memory left.3.stored)
answers_stay c s answered role.LiftRealloc k k' e rule = reallocs k k' c.lift _ e c.lift.memory rule
answers_stay c s answered role.LowerRealloc k k' e rule = reallocs k k' c.lower _ e c.lower.memory rule
answers_stay c s answered role.PostReturn k k' e rule = by_answer k k' e rule (λ results after may left. same after e.before left.0)
answers_stay c s answered (role.Transcoder o from from64 to to64) k k' e rule =
    by_answer k k' e rule (λ results after may left. same after _ left.4 ∙ as_long e.before to (put_at (memory_at e.before to) (nth_number e.args 2) left.0) (length_put (memory_at e.before to) (nth_number e.args 2) left.0
    (elim (cases_lt (length (memory_at e.before to)) (nth_number e.args 2 + length left.0)) [ inl lt ↦ absurd (may (DestinationOutside left.0 (map bits_of results) left.1 lt)) | inr le ↦ le ])))
answers_stay c s answered role.Transfer k k' e rule = by_answer k k' e rule (λ results after may left. same after e.before left.1.0)
answers_stay c s answered role.Slot k k' e rule = by_answer k k' e rule (λ results after may left. same after e.before left.0)
answers_stay c s answered role.Told k k' e rule = by_answer k k' e rule (λ results after may left. same after e.before left.0)
answers_stay c s answered role.Refused k k' e rule = on_trap (lengths_of e.before) e.answer rule

pub are_regular : (Named : ℕ → Role → Type 0) (c : HostCall) (s : CallShapes) (answered : Option (List Value)) (k : Known) (lengths : List ℕ) (log : List Event)
    → AreAnswers Named c s answered k log → SeeLengths lengths log → TrapIsLast log → AreRegular lengths log
are_regular Named c s answered k lengths [] rules see last = tt
are_regular Named c s answered k lengths (e ∷ es) rules see last =
    let stay : lengths_behind lengths e.answer ≡ lengths = subst (λ l. lengths_behind l e.answer ≡ l) see.0 (answers_stay c s answered rules.0 k rules.2 e rules.3) in
    (see.0, last.0, are_regular Named c s answered rules.2 lengths es rules.4 (subst (λ l. SeeLengths l es) stay see.1) last.1)
