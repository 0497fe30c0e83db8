-- What is written for a text are bytes, and a typed state stays typed where bytes are put into one of its memories.
use Rattle.std.proofs.Common.{◌≡◌, ℕ, zero, suc, ◌+◌, ◌-◌, ◌/◌, ◌%◌, ◌≤◌, ◌<◌, ⊎_elim, Bool, true, false, List, [], ◌∷◌, ◌++◌, length, take, drop, Option, Some, None, refl, sym, ap, ◌∙◌, subst, arith}
use Rattle.std.specs.Prelude.{cond, get_or, nat_eq, nat_lt, slice_get, slice_set, ◌&&◌}
use Rattle.std.specs.Char.{encode_utf8}
use Rattle.std.specs.List.{list_all}
use Rattle.std.proofs.Math.Utf8.{scalar, scalar_cases}
use Rattle.std.proofs.lemmas.Bool.{false≢true, le-leb, lt-ltb, ltb-true}
use Rattle.std.proofs.lemmas.List.Folds.{list_all-append}
use Rattle.std.proofs.lemmas.Option.{get_or_from_slice_get}
use Rattle.fact_types.specs.declared.outside.FixedEncoding.{FixedEncoding}
use Rattle.fact_types.specs.declared.outside.FixedEncoding.TheVariants.{Utf8, Utf16, Latin1}
use Rattle.fact_types.proofs.ShapeLaws.{none_some}
use Rattle.fact_machine.specs.declared.types.MachineState.{MachineState}
use Rattle.fact_machine.specs.Machine.{page_bytes}
use Rattle.fact_machine.specs.Typed.{are_globals, are_memories, fits_width, is_grown, is_memory}
use Rattle.fact_machine.specs.World.{put_at}
use Rattle.fact_machine.proofs.Places.{put_length}
use Rattle.fact_values.specs.Texts.{AreSpelled, IsSpelled, char_spelling, low_first, spelled_text}
use Rattle.fact_actions.specs.Running.{ImportPlaces, is_state}
use Rattle.fact_actions.specs.Transcoders.{widened}
use Rattle.fact_actions.proofs.States.{and_left, and_right, both, zip_set}

-- ---- bytes

abbrev pub are_bytes : List ℕ → Bool
are_bytes bytes = list_all (λ b. nat_lt b 256) bytes

small : (b : ℕ) → b < 256 → nat_lt b 256 ≡ true
small b h = lt-ltb b 256 h

pub bytes_append : (xs ys : List ℕ) → are_bytes xs ≡ true → are_bytes ys ≡ true → are_bytes (xs ++ ys) ≡ true
bytes_append xs ys h g = list_all-append (λ b. nat_lt b 256) xs ys ∙ both h g

pub bytes_take : (n : ℕ) (m : List ℕ) → are_bytes m ≡ true → are_bytes (take n m) ≡ true
bytes_take zero m h = refl
bytes_take (suc n) [] h = refl
bytes_take (suc n) (b ∷ m) h = both (and_left (nat_lt b 256) (are_bytes m) h) (bytes_take n m (and_right (nat_lt b 256) (are_bytes m) h))

pub bytes_drop : (n : ℕ) (m : List ℕ) → are_bytes m ≡ true → are_bytes (drop n m) ≡ true
bytes_drop zero m h = h
bytes_drop (suc n) [] h = refl
bytes_drop (suc n) (b ∷ m) h = bytes_drop n m (and_right (nat_lt b 256) (are_bytes m) h)

pub bytes_widened : (m : List ℕ) → are_bytes m ≡ true → are_bytes (widened m) ≡ true
bytes_widened [] h = refl
bytes_widened (b ∷ m) h = both (and_left (nat_lt b 256) (are_bytes m) h) (bytes_widened m (and_right (nat_lt b 256) (are_bytes m) h))

-- ---- texts

bytes_utf8 : (c : ℕ) → c < 1114112 → are_bytes (encode_utf8 c) ≡ true
unfolding encode_utf8
bytes_utf8 c h = go (nat_lt c 128) (nat_lt c 2048) (nat_lt c 65536) refl refl refl
  where
    go : (x y z : Bool) → nat_lt c 128 ≡ x → nat_lt c 2048 ≡ y → nat_lt c 65536 ≡ z
        → are_bytes (cond x (c ∷ []) (cond y ((192 + c / 64) ∷ (128 + c % 64) ∷ []) (cond z ((224 + c / 4096) ∷ (128 + (c / 64) % 64) ∷ (128 + c % 64) ∷ []) ((240 + c / 262144) ∷ (128 + (c / 4096) % 64) ∷ (128 + (c / 64) % 64) ∷ (128 + c % 64) ∷ [])))) ≡ true
    go true y z a b d = let l = ltb-true c 128 a in both (small c (omega (arith, l))) refl
    go false true z a b d = let l = ltb-true c 2048 b in both (small (192 + c / 64) (omega (arith, l))) (both (small (128 + c % 64) (omega arith)) refl)
    go false false true a b d = let l = ltb-true c 65536 d in both (small (224 + c / 4096) (omega (arith, l))) (both (small (128 + (c / 64) % 64) (omega arith)) (both (small (128 + c % 64) (omega arith)) refl))
    go false false false a b d = both (small (240 + c / 262144) (omega (arith, h))) (both (small (128 + (c / 4096) % 64) (omega arith)) (both (small (128 + (c / 64) % 64) (omega arith)) (both (small (128 + c % 64) (omega arith)) refl)))

bytes_utf16 : (c : ℕ) → c < 1114112 → are_bytes (char_spelling Utf16 c) ≡ true
bytes_utf16 c h = go (nat_lt c 0x1_0000) refl
  where
    high : ℕ
    high = 0xD800 + (c - 0x1_0000) / 0x400

    low : ℕ
    low = 0xDC00 + (c - 0x1_0000) % 0x400

    go : (b : Bool) → nat_lt c 0x1_0000 ≡ b → are_bytes (low_first (cond b (c ∷ []) ((0xD800 + (c - 0x1_0000) / 0x400) ∷ (0xDC00 + (c - 0x1_0000) % 0x400) ∷ []))) ≡ true
    go true e = let l = ltb-true c 0x1_0000 e in both (small (c % 256) (omega arith)) (both (small (c / 256) (omega (arith, l))) refl)
    go false e = both (small (high % 256) (omega arith)) (both (small (high / 256) (omega (arith, h))) (both (small (low % 256) (omega arith)) (both (small (low / 256) (omega arith)) refl)))

scalar_small : (c : ℕ) → scalar c ≡ true → c < 1114112
scalar_small c h = ⊎_elim (λ l. omega (arith, l)) (λ r. r.1) (scalar_cases c h)

bytes_char : (e : FixedEncoding) (c : ℕ) → IsSpelled e c → are_bytes (char_spelling e c) ≡ true
bytes_char Utf8 c h = bytes_utf8 c (scalar_small c h)
bytes_char Utf16 c h = bytes_utf16 c (scalar_small c h)
bytes_char Latin1 c h = both (small c h) refl

pub bytes_text : (e : FixedEncoding) (text : List ℕ) → AreSpelled e text → are_bytes (spelled_text e text) ≡ true
bytes_text e [] h = refl
bytes_text e (c ∷ text) h = bytes_append (char_spelling e c) (spelled_text e text) (bytes_char e c h.0) (bytes_text e text h.1)

-- ---- memories

-- the bytes of a memory, or of none
pub bytes_memory : (ks : List (Bool × Option ℕ)) (ms : List (List ℕ)) (i : ℕ) → are_memories ks ms ≡ true → are_bytes (get_or ms i []) ≡ true
bytes_memory ks [] i h = refl
bytes_memory [] (m ∷ ms) i h = absurd (false≢true h)
bytes_memory (k ∷ ks) (m ∷ ms) zero h =
    and_left (are_bytes m) (nat_eq (length m % page_bytes k.1) 0 && fits_width k.0 (length m) (length m / page_bytes k.1)) (and_left (is_memory k.0 k.1 m) (are_memories ks ms) h)
bytes_memory (k ∷ ks) (m ∷ ms) (suc i) h = bytes_memory ks ms i (and_right (is_memory k.0 k.1 m) (are_memories ks ms) h)

put_memory : (k : Bool × Option ℕ) (m bytes : List ℕ) (a : ℕ) → a + length bytes ≤ length m → are_bytes bytes ≡ true → is_memory k.0 k.1 m ≡ true → is_memory k.0 k.1 (put_at m a bytes) ≡ true
put_memory k m bytes a le new h =
    both (bytes_append (take a m) (bytes ++ drop (a + length bytes) m) (bytes_take a m old) (bytes_append bytes (drop (a + length bytes) m) new (bytes_drop (a + length bytes) m old)))
    (subst (λ n. measures n ≡ true) (sym (put_length m a bytes le)) (and_right (are_bytes m) (measures (length m)) h))
  where
    measures : ℕ → Bool
    measures n = nat_eq (n % page_bytes k.1) 0 && fits_width k.0 n (n / page_bytes k.1)

    old : are_bytes m ≡ true
    old = and_left (are_bytes m) (measures (length m)) h

no_set : (ms : List (List ℕ)) (i : ℕ) (y : List ℕ) → slice_get ms i ≡ None → slice_set ms i y ≡ ms
no_set [] i y h = refl
no_set (m ∷ ms) zero y h = absurd (none_some (Some m) m h refl)
no_set (m ∷ ms) (suc i) y h = ap (λ l. m ∷ l) (no_set ms i y h)

grown_same : (ms : List (List ℕ)) → is_grown ms ms ≡ true
grown_same [] = refl
grown_same (m ∷ ms) = both (le-leb (length m) (length m) (omega arith)) (grown_same ms)

grown_set : (ms : List (List ℕ)) (i : ℕ) (old new : List ℕ) → slice_get ms i ≡ Some old → length new ≡ length old → is_grown ms (slice_set ms i new) ≡ true
grown_set [] i old new h e = refl
grown_set (m ∷ ms) zero old new h e = both (le-leb (length m) (length new) (let same : m ≡ old = cc in let l = ap length same in omega (arith, l, e))) (grown_same ms)
grown_set (m ∷ ms) (suc i) old new h e = both (le-leb (length m) (length m) (omega arith)) (grown_set ms i old new h e)

-- Bytes are put into a memory of a typed state.
pub put_typed : (p : ImportPlaces) (s : MachineState) (i a : ℕ) (bytes : List ℕ) → a + length bytes ≤ length (get_or s.memories i []) → are_bytes bytes ≡ true → is_state p s ≡ true
    → (is_state p (record s { memories = slice_set s.memories i (put_at (get_or s.memories i []) a bytes) }) && is_grown s.memories (slice_set s.memories i (put_at (get_or s.memories i []) a bytes))) ≡ true
put_typed p s i a bytes inside new typed = by_memory (slice_get s.memories i) refl
  where
    put : List ℕ → List ℕ
    put m = put_at m a bytes

    IsKept : List (List ℕ) → Type 0
    IsKept ms = (is_state p (record s { memories = ms }) && is_grown s.memories ms) ≡ true

    by_memory : (x : Option (List ℕ)) → slice_get s.memories i ≡ x → IsKept (slice_set s.memories i (put (get_or s.memories i [])))
    by_memory None none = subst IsKept (sym (no_set s.memories i (put (get_or s.memories i [])) none)) (both typed (grown_same s.memories))
    by_memory (Some m) there =
        let same : get_or s.memories i [] ≡ m = get_or_from_slice_get s.memories i m [] there in
        let le : a + length bytes ≤ length m = subst (λ l. a + length bytes ≤ length l) same inside in
        let memories = zip_set (λ t b. is_memory t.0 t.1 b) p.memory_types s.memories i m (put m) (and_left (are_memories p.memory_types s.memories) (are_globals p.global_types s.globals) typed) there (λ k g. put_memory k m bytes a le new g) in
        subst (λ l. IsKept (slice_set s.memories i (put l))) (sym same)
        (both (both memories (and_right (are_memories p.memory_types s.memories) (are_globals p.global_types s.globals) typed)) (grown_set s.memories i m (put m) there (put_length m a bytes le)))
