-- No memory gets longer or shorter on a host.
use Rattle.std.proofs.Common.{◌≡◌, ℕ, zero, suc, ◌+◌, ◌≤◌, inl, inr, Bool, true, false, cond, List, [], ◌∷◌, ◌++◌, Option, Some, None, refl, ap, ◌∙◌, arith, get_or, length, map, take, drop, length-append, length-take, length-drop}
use Rattle.std.specs.Prelude.{min, slice_set}
use Rattle.std.proofs.lemmas.Bool.{cases_lt}
use Rattle.fact_types.specs.declared.outside.Transcode.{Transcode}
use Rattle.fact_machine.specs.declared.types.Answer.{Answer}
use Rattle.fact_machine.specs.declared.types.Answer.TheVariants.{Returns, Traps, Throws}
use Rattle.fact_machine.specs.declared.types.CoreValue.{CoreValue}
use Rattle.fact_machine.specs.declared.types.Event.{Event}
use Rattle.fact_machine.specs.declared.types.MachineState.{MachineState}
use Rattle.fact_machine.specs.Lengths.{SeeLengths, lengths_behind}
use Rattle.fact_machine.specs.World.{put_at}
use Rattle.fact_values.specs.declared.value.Value.{Value}
use Rattle.fact_actions.specs.Calls.{nth_number}
use Rattle.fact_host.specs.declared.calling.HostCall.{HostCall}
use Rattle.fact_host.specs.declared.calling.HostSide.{HostSide}
use Rattle.fact_host.specs.declared.known.Known.{Known}
use Rattle.fact_host.specs.declared.roles.Role.{Role}
use Rattle.fact_host.specs.declared.roles.Role.TheVariants as role
use Rattle.fact_host.specs.Hosts.{AreAnswersUntil}
use Rattle.fact_host.specs.Rules.{Answers, AskedRegion, CallShapes, DestinationOutside, NoRoom, ReallocsAt, StoresAt, TranscodesBy, asked_of, bytes_after_region, memory_at, moved_bytes, next_region, stays, with_memory_at}
use Rattle.fact_call_laws.proofs.Steps.{event_of, not_traps}

-- all memories of a state are as long as those of another
abbrev pub AsLong : MachineState → MachineState → Type 0
AsLong before after = (n : ℕ) → length (memory_at after n) ≡ length (memory_at before n)

-- bytes put within a memory
put_long : (xs ys : List ℕ) (at : ℕ) → at + length ys ≤ length xs → length (put_at xs at ys) ≡ length xs
put_long xs ys at le =
    omega (
      arith,
      le,
      length-append (take at xs) (ys ++ drop (at + length ys) xs),
      length-append ys (drop (at + length ys) xs),
      length-take at xs,
      length-drop (at + length ys) xs,
    )

-- one memory for another that is as long
set_long : (ms : List (List ℕ)) (m n : ℕ) (bytes : List ℕ) → length bytes ≡ length (get_or ms m []) → length (get_or (slice_set ms m bytes) n []) ≡ length (get_or ms n [])
set_long [] m n bytes h = refl
set_long (x ∷ ms) zero zero bytes h = h
set_long (x ∷ ms) zero (suc n) bytes h = refl
set_long (x ∷ ms) (suc m) zero bytes h = refl
set_long (x ∷ ms) (suc m) (suc n) bytes h = set_long ms m n bytes h

with_long : (before after : MachineState) (m : ℕ) (bytes : List ℕ) → after ≡ with_memory_at before m bytes → length bytes ≡ length (memory_at before m) → AsLong before after
with_long before after m bytes e h n = ap (λ s. length (memory_at s n)) e ∙ set_long before.memories m n bytes h

same_long : (before after : MachineState) → after ≡ before → AsLong before after
same_long before after e n = ap (λ s. length (memory_at s n)) e

-- ---- answers

moved_long : (k : Known) (n : ℕ) (q : AskedRegion) (bytes : List ℕ) (b : Bool) → stays q ≡ b → (b ≡ false → next_region k n q + q.size ≤ length bytes) → length (cond b bytes (moved_bytes bytes (next_region k n q) q)) ≡ length bytes
moved_long k n q bytes true e room = refl
moved_long k n q bytes false e room =
    let few = length-take (min q.old.size q.size) (drop q.old.at bytes) in
    put_long bytes (take (min q.old.size q.size) (drop q.old.at bytes)) (next_region k n q) (omega (arith, room refl, few))

region_long : (k : Known) (n : ℕ) (q : AskedRegion) (bytes : List ℕ) → (stays q ≡ false → next_region k n q + q.size ≤ length bytes) → length (bytes_after_region k n q bytes) ≡ length bytes
region_long k n q bytes room = moved_long k n q bytes (stays q) refl room

realloc_long : (k k' : Known) (side : HostSide) (dest : Bool) (func : ℕ) (given results : List CoreValue) (before after : MachineState) (o : Option ℕ) → ReallocsAt k side dest (event_of func given before (Returns results after)) k' o → AsLong before after
realloc_long k k' side dest func given results before after None rule = absurd (not_traps results after rule)
realloc_long k k' side dest func given results before after (Some n) rule =
    let did = rule.returns results after refl in
    with_long before after n _ did.0 (region_long k n (asked_of (event_of func given before (Returns results after))) (memory_at before n) (λ st. elim (cases_lt (length (memory_at before n)) (next_region k n (asked_of (event_of func given before (Returns results after))) + (asked_of (event_of func given before (Returns results after))).size)) [
      | inl lt ↦ absurd (not_traps results after (rule.traps.1 (NoRoom st lt)))
      | inr le ↦ le
    ]))

transcode_long : (k k' : Known) (o : Transcode) (from : ℕ) (from64 : Bool) (to : ℕ) (to64 : Bool) (func : ℕ) (given results : List CoreValue) (before after : MachineState) → TranscodesBy k o from from64 to to64 (event_of func given before (Returns results after)) k' → AsLong before after
transcode_long k k' o from from64 to to64 func given results before after rule =
    let did = rule.returns results after refl in
    let bytes : List ℕ = did.0 in
    let inside : nth_number given 2 + length bytes ≤ length (memory_at before to) = elim (cases_lt (length (memory_at before to)) (nth_number given 2 + length bytes)) [
      | inl lt ↦ absurd (not_traps results after (rule.traps.1 (DestinationOutside bytes _ did.1 lt)))
      | inr le ↦ le
    ] in
    with_long before after to _ did.4 (put_long (memory_at before to) bytes (nth_number given 2) inside)

stores_long : (k k' : Known) (before after : MachineState) (most : ℕ) (o : Option ℕ) → StoresAt k k' before after most o → AsLong before after
stores_long k k' before after most None h = same_long before after h.0
stores_long k k' before after most (Some n) h = with_long before after n h.0 h.2 h.5

pub answer_long : (c : HostCall) (s : CallShapes) (answered : Option (List Value)) (r : Role) (k k' : Known) (func : ℕ) (given results : List CoreValue) (before after : MachineState) → Answers c s answered r k (event_of func given before (Returns results after)) k' → AsLong before after
answer_long c s answered role.Callee k k' func given results before after rule = let did = rule.answers.returns results after refl in stores_long k k' before after _ c.lift.memory did.3.stored
answer_long c s answered role.LiftRealloc k k' func given results before after rule = realloc_long k k' c.lift _ func given results before after c.lift.memory rule
answer_long c s answered role.LowerRealloc k k' func given results before after rule = realloc_long k k' c.lower _ func given results before after c.lower.memory rule
answer_long c s answered role.PostReturn k k' func given results before after rule = same_long before after (rule.returns results after refl).0
answer_long c s answered (role.Transcoder o from from64 to to64) k k' func given results before after rule = transcode_long k k' o from from64 to to64 func given results before after rule
answer_long c s answered role.Transfer k k' func given results before after rule = same_long before after (rule.returns results after refl).1.0
answer_long c s answered role.Slot k k' func given results before after rule = same_long before after (rule.returns results after refl).0
answer_long c s answered role.Told k k' func given results before after rule = same_long before after (rule.returns results after refl).0
answer_long c s answered role.Refused k k' func given results before after rule = absurd (not_traps results after rule)

-- ---- along a log

length_at : (ms : List (List ℕ)) (n : ℕ) → length (get_or ms n []) ≡ get_or (map length ms) n 0
length_at [] n = refl
length_at (m ∷ ms) zero = refl
length_at (m ∷ ms) (suc n) = length_at ms n

-- an event behind others that are answered by the rules sees each memory as long as it was
pub see_long : (Named : ℕ → Role → Type 0) (c : HostCall) (s : CallShapes) (answered : Option (List Value)) (k last : Known) (front : List Event) (e : Event) (behind : List Event) (lengths : List ℕ) (n most : ℕ) → get_or lengths n 0 ≤ most
    → AreAnswersUntil Named c s answered k front last → SeeLengths lengths (front ++ (e ∷ behind)) → length (memory_at e.before n) ≤ most
see_long Named c s answered k last [] e behind lengths n most le rules see = omega (arith, le, length_at e.before.memories n, ap (λ l. get_or l n 0) see.0)
see_long Named c s answered k last (v ∷ front) e behind lengths n most le rules see =
    see_long Named c s answered rules.2 last front e behind (lengths_behind lengths v.answer) n most (by v.answer rules.3) rules.4 see.1
  where
    by : (ans : Answer) → Answers c s answered rules.0 k (event_of v.func v.args v.before ans) rules.2 → get_or (lengths_behind lengths ans) n 0 ≤ most
    by (Returns results after) rule =
        let same : length (memory_at after n) ≡ length (memory_at v.before n) = answer_long c s answered rules.0 k rules.2 v.func v.args results v.before after rule n in
        omega (arith, le, same, length_at after.memories n, length_at v.before.memories n, ap (λ l. get_or l n 0) see.0)
    by Traps rule = le
    by Throws rule = le
