-- An honest answer of a transcoder is one between the memories of the two sides, where it names them.
use Rattle.std.proofs.Common.{◌≡◌, ◌≢◌, ℕ, zero, suc, ◌+◌, ◌-◌, ◌≤◌, ◌<◌, ◌⊎◌, inl, inr, ⊎_elim, List, [], ◌∷◌, length, map, take, drop, Some, None, refl, sym, ap, ◌∙◌, subst, arith}
use Rattle.std.specs.Prelude.{get_or, slice_set, Bool, ◌*◌}
use Rattle.fact_types.specs.declared.outside.CoreDef.{CoreDef}
use Rattle.fact_types.specs.declared.outside.Transcode.{Transcode}
use Rattle.fact_machine.specs.declared.types.MachineState.{MachineState}
use Rattle.fact_machine.specs.World.{put_at}
use Rattle.fact_machine.proofs.Places.{put_below, put_within, put_above, put_length}
use Rattle.fact_values.specs.Lift.{bits_of}
use Rattle.fact_values.specs.Texts.{unit_bytes}
use Rattle.fact_actions.specs.Calls.{arg_number, results, state_after, side_memory}
use Rattle.fact_actions.specs.Honest.{room_of, IsHonestTranscode}
use Rattle.fact_actions.specs.Order.{HaveTwoMemories, IsMemoryOf}
use Rattle.fact_actions.specs.Regions.{byte, IsIn}
use Rattle.fact_actions.specs.Running.{ImportPlaces, Call}
use Rattle.fact_actions.specs.Sides.{LiftLowerOptions}
use Rattle.fact_actions.specs.Transcoders.{transcode_kind, from_encoding, IsHonestTranscoding}
use Rattle.fact_action_laws.specs.HonestMoves.{IsTranscoded}
use Rattle.fact_action_laws.specs.Regions.{TransferSetting}
use Rattle.std.proofs.lemmas.Bool.{cases_lt}

-- what was put at a place of a list is there, or there is no such place
set_there : {X : Type 0} (xs : List X) (i : ℕ) (y d : X) → (get_or (slice_set xs i y) i d ≡ y) ⊎ ((get_or xs i d ≡ d) × (get_or (slice_set xs i y) i d ≡ d))
set_there [] i y d = inr (refl, refl)
set_there (x ∷ xs) zero y d = inl refl
set_there (x ∷ xs) (suc i) y d = set_there xs i y d

set_elsewhere : {X : Type 0} (xs : List X) (i j : ℕ) (y d : X) → j ≢ i → get_or (slice_set xs i y) j d ≡ get_or xs j d
set_elsewhere [] i j y d ne = refl
set_elsewhere (x ∷ xs) zero zero y d ne = absurd (ne refl)
set_elsewhere (x ∷ xs) zero (suc j) y d ne = refl
set_elsewhere (x ∷ xs) (suc i) zero y d ne = refl
set_elsewhere (x ∷ xs) (suc i) (suc j) y d ne = set_elsewhere xs i j y d (λ e. ne (ap suc e))

-- the memory of a side, by its name
named_memory : (p : ImportPlaces) (o : LiftLowerOptions) (def : CoreDef) (memory64 : Bool) (s : MachineState) → IsMemoryOf o def memory64 → side_memory p o s ≡ get_or s.memories (p.memory def) []
named_memory p o def memory64 s h =
    ap (λ q. elim q [ None ↦ [] | Some m ↦ get_or s.memories (p.memory m.def) [] ]) h.memory_is ∙ ap (λ d. get_or s.memories (p.memory d) []) h.def_is

-- bytes that are put at an address
record IsPut (old new bytes : List ℕ) (a : ℕ) : Type 0 where
  pub inside : a + length bytes ≤ length new
  pub stands : (j : ℕ) → j < length bytes → byte new (a + j) ≡ byte bytes j
  pub others : (j : ℕ) → (IsIn (record { at = a; size = length bytes; align = 1 }) j → ⊥) → byte new j ≡ byte old j

is_put : (old bytes : List ℕ) (a : ℕ) → a + length bytes ≤ length old → IsPut old (put_at old a bytes) bytes a
is_put old bytes a le = record {
  inside = let e = put_length old a bytes le in omega (arith, e, le);
  stands = λ j lt.
      let same : a + j - a ≡ j = omega arith in
      put_within old a bytes (a + j) 0 (omega (arith, le)) (omega arith) (omega (arith, lt)) ∙ ap (λ k. byte bytes k) same;
  others = λ j out. before_or_behind j out (cases_lt j a) (cases_lt j (a + length bytes));
}
  where
    before_or_behind : (j : ℕ) → (IsIn (record { at = a; size = length bytes; align = 1 }) j → ⊥) → (j < a) ⊎ (a ≤ j) → (j < a + length bytes) ⊎ (a + length bytes ≤ j) → byte (put_at old a bytes) j ≡ byte old j
    before_or_behind j out (inl before) h = put_below old a bytes j 0 (omega (arith, le)) before
    before_or_behind j out (inr le2) (inl lt) = absurd (out (le2, lt))
    before_or_behind j out (inr le2) (inr behind) = put_above old a bytes j 0 (omega (arith, le)) behind

-- where there is no memory, no bytes were put
none_put : (old new bytes : List ℕ) (a : ℕ) → old ≡ [] → new ≡ [] → a + length bytes ≤ length old → IsPut old new bytes a
none_put old new bytes a e f le =
    let z : length old ≡ 0 = ap length e in
    record {
      inside = omega (arith, le, z);
      stands = λ j lt. absurd (omega (arith, le, z, lt));
      others = λ j out. ap (λ l. byte l j) f ∙ sym (ap (λ l. byte l j) e);
    }

pub transcoded : (c : TransferSetting) (o : Transcode) (from : CoreDef) (from64 : Bool) (to : CoreDef) (to64 : Bool) (x : Call) → HaveTwoMemories c.places c.transfer.from c.transfer.to
    → IsMemoryOf c.transfer.from from from64 → IsMemoryOf c.transfer.to to to64 → IsHonestTranscode c.places o from to x → IsTranscoded c o x
transcoded c o from from64 to to64 x apart of_from of_to h =
    let source_before = named_memory c.places c.transfer.from from from64 x.before of_from in
    let source_after = named_memory c.places c.transfer.from from from64 (state_after x) of_from in
    let before = named_memory c.places c.transfer.to to to64 x.before of_to in
    let after : side_memory c.places c.transfer.to (state_after x) ≡ get_or (slice_set x.before.memories (c.places.memory to) written_bytes) (c.places.memory to) [] =
    named_memory c.places c.transfer.to to to64 (state_after x) of_to ∙ ap (λ ms. get_or ms (c.places.memory to) []) h.written in
    let put : IsPut old (get_or (slice_set x.before.memories (c.places.memory to) written_bytes) (c.places.memory to) []) h.bytes (arg_number x 2) =
    ⊎_elim (λ e. subst (λ l. IsPut old l h.bytes (arg_number x 2)) (sym e) (is_put old h.bytes (arg_number x 2) h.inside)) (λ e. none_put old _ h.bytes (arg_number x 2) e.0 e.1 h.inside) (set_there x.before.memories (c.places.memory to) written_bytes []) in
    record {
      wrote = h.bytes;
      says = subst (λ l. IsHonestTranscoding o (room_of (transcode_kind o) x (drop (arg_number x 2) l)) (take (unit_bytes (from_encoding o) * arg_number x 1) (drop (arg_number x 0) (side_memory c.places c.transfer.from x.before))) h.bytes (map bits_of (results x))) (sym before)
          (subst (λ l. IsHonestTranscoding o (room_of (transcode_kind o) x (drop (arg_number x 2) old)) (take (unit_bytes (from_encoding o) * arg_number x 1) (drop (arg_number x 0) l)) h.bytes (map bits_of (results x))) (sym source_before) h.transcoding);
      inside = subst (λ l. arg_number x 2 + length h.bytes ≤ length l) (sym after) put.inside;
      stands = λ j lt. ap (λ l. byte l (arg_number x 2 + j)) after ∙ put.stands j lt;
      others = λ j out. ap (λ l. byte l j) after ∙ put.others j out ∙ sym (ap (λ l. byte l j) before);
      source = source_after ∙ ap (λ ms. get_or ms (c.places.memory from) []) h.written ∙ set_elsewhere x.before.memories (c.places.memory to) (c.places.memory from) written_bytes [] differ ∙ sym source_before;
    }
  where
    old : List ℕ
    old = get_or x.before.memories (c.places.memory to) []

    written_bytes : List ℕ
    written_bytes = put_at old (arg_number x 2) h.bytes

    differ : c.places.memory from ≢ c.places.memory to
    differ e = apart of_from.memory of_to.memory of_from.memory_is of_to.memory_is (ap (λ d. c.places.memory d) of_from.def_is ∙ e ∙ sym (ap (λ d. c.places.memory d) of_to.def_is))
