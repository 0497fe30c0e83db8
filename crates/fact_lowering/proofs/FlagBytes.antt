-- Flags as bytes, the first by the lowest bit.
use Rattle.std.proofs.Common.{◌≡◌, ℕ, zero, suc, ◌+◌, ◌*◌, ◌/◌, ◌%◌, ◌^◌, ◌≤◌, ◌<◌, Bool, true, false, List, [], ◌∷◌, ◌++◌, length, map, take, drop, Option, Some, None, refl, sym, ap, ◌∙◌, subst, arith, add-one, append_assoc}
use Rattle.std.specs.Prelude.{◌==◌, slice_get}
use Rattle.std.proofs.Math.Nat.{mul_assoc, mul_comm, pow-succ', pow-suc}
use Rattle.std.proofs.Math.Seq.{take-suc}
use Rattle.std.proofs.lemmas.List.{drop_all, take_all, drop-drop}
use Rattle.fact_types.proofs.ShapeLaws.{same_some, none_some}
use Rattle.fact_abi.proofs.BelongLaws.{slice_front, slice_past}
use Rattle.fact_machine.specs.World.{number_of, number_at}
use Rattle.fact_types.specs.Layout.{flags_extent, flags_size}
use Rattle.fact_values.specs.Numbers.{flags_of_number}
use Rattle.fact_lowering.specs.Lowerings.{AreFlagBytes}
use Rattle.fact_lowering.specs.Storings.{AreBits, set_at}

-- ---- bit by bit

abbrev bit_of : Bool → ℕ
bit_of false = 0
bit_of true = 1

parity : (b : Bool) (n : ℕ) → ((bit_of b + 2 * n) % 2 == 1) ≡ b
parity false n = let e : (0 + 2 * n) % 2 ≡ 0 = omega arith in ap (λ k. k == 1) e
parity true n = let e : (1 + 2 * n) % 2 ≡ 1 = omega arith in ap (λ k. k == 1) e

halved : (b : Bool) (n : ℕ) → (bit_of b + 2 * n) / 2 ≡ n
halved false n = omega arith
halved true n = omega arith

take_next : (flags : List (List ℕ × Bool)) (k : ℕ) (f : List ℕ × Bool) → slice_get flags k ≡ Some f → take (suc k) flags ≡ take k flags ++ f ∷ []
take_next [] k f e = absurd (none_some None f refl e)
take_next (g ∷ flags) zero f e = ap (λ g. g ∷ []) (same_some (Some g) g f refl e)
take_next (g ∷ flags) (suc k) f e = ap (λ l. g ∷ l) (take_next flags k f e)

take_past : (flags : List (List ℕ × Bool)) (k : ℕ) → slice_get flags k ≡ None → take (suc k) flags ≡ take k flags
take_past [] zero e = refl
take_past [] (suc k) e = refl
take_past (g ∷ flags) zero e = absurd (none_some (Some g) g e refl)
take_past (g ∷ flags) (suc k) e = ap (λ l. g ∷ l) (take_past flags k e)

pub bits_start : (flags : List (List ℕ × Bool)) → AreBits flags 0 0
bits_start flags n = let e : 0 + 2 ^ 0 * n ≡ n = omega arith in ap (flags_of_number (map (λ f. f.0) flags)) e

-- a flag more
bits_there : (flags : List (List ℕ × Bool)) (k bits bits' : ℕ) (f : List ℕ × Bool) → slice_get flags k ≡ Some f → bits' ≡ bits + 2 ^ k * bit_of f.1 → AreBits flags k bits → AreBits flags (suc k) bits'
bits_there flags k bits bits' f at is g n =
    let m : ℕ = bit_of f.1 + 2 * n in
    let wide : 2 ^ suc k ≡ 2 * 2 ^ k = pow-succ' 2 k in
    let far : 2 ^ suc k * n ≡ 2 ^ k * (2 * n) = ap (λ z. z * n) (wide ∙ mul_comm 2 (2 ^ k)) ∙ mul_assoc (2 ^ k) 2 n in
    let same : bits' + 2 ^ suc k * n ≡ bits + 2 ^ k * m = omega (arith, is, far, mul_add (2 ^ k) (bit_of f.1) (2 * n)) in
    let front : map (λ f. f.0) (drop k flags) ≡ f.0 ∷ map (λ f. f.0) (drop (suc k) flags) = ap (map (λ f. f.0)) (slice_front flags k f at) in
    ap (flags_of_number (map (λ f. f.0) flags)) same ∙ g m ∙ ap (λ ns. take k flags ++ flags_of_number ns m) front
    ∙ (λ i. take k flags ++ (f.0, parity f.1 n i) ∷ flags_of_number (map (λ f. f.0) (drop (suc k) flags)) (halved f.1 n i))
    ∙ sym (append_assoc (take k flags) (f ∷ []) (flags_of_number (map (λ f. f.0) (drop (suc k) flags)) n))
    ∙ ap (λ l. l ++ flags_of_number (map (λ f. f.0) (drop (suc k) flags)) n) (sym (take_next flags k f at))
  where
    mul_add : (a b c : ℕ) → a * (b + c) ≡ a * b + a * c
    mul_add a b c = omega arith

drop_past : (flags : List (List ℕ × Bool)) (k : ℕ) → slice_get flags k ≡ None → drop (suc k) flags ≡ []
drop_past [] zero e = refl
drop_past [] (suc k) e = refl
drop_past (g ∷ flags) zero e = absurd (none_some (Some g) g e refl)
drop_past (g ∷ flags) (suc k) e = drop_past flags k e

-- no flag is left
bits_past : (flags : List (List ℕ × Bool)) (k bits : ℕ) → slice_get flags k ≡ None → AreBits flags k bits → AreBits flags (suc k) bits
bits_past flags k bits at g n =
    let far : 2 ^ suc k * n ≡ 2 ^ k * (2 * n) = ap (λ z. z * n) (pow-succ' 2 k ∙ mul_comm 2 (2 ^ k)) ∙ mul_assoc (2 ^ k) 2 n in
    ap (λ z. flags_of_number (map (λ f. f.0) flags) (bits + z)) far ∙ g (2 * n) ∙ ap (λ l. take k flags ++ flags_of_number (map (λ f. f.0) l) (2 * n)) (slice_past flags k at)
    ∙ ap (λ l. take k flags ++ flags_of_number (map (λ f. f.0) l) n) (sym (drop_past flags k at)) ∙ ap (λ l. l ++ flags_of_number (map (λ f. f.0) (drop (suc k) flags)) n) (sym (take_past flags k at))

bits_next : (flags : List (List ℕ × Bool)) (k bits bits' : ℕ) (o : Option (List ℕ × Bool)) → slice_get flags k ≡ o → bits' ≡ bits + 2 ^ k * bit_of (set_at o) → AreBits flags k bits → AreBits flags (suc k) bits'
bits_next flags k bits bits' None at is g = bits_past flags k bits' at (subst (AreBits flags k) (omega (arith, is)) g)
bits_next flags k bits bits' (Some f) at is g = bits_there flags k bits bits' f at is g

-- the next bit of flags from a place on
at_place : (flags : List (List ℕ × Bool)) (from k : ℕ) → slice_get (drop from flags) k ≡ slice_get flags (from + k)
at_place flags zero k = let e : k ≡ 0 + k = omega arith in ap (slice_get flags) e
at_place [] (suc from) k = refl
at_place (g ∷ flags) (suc from) k = let e : suc from + k ≡ suc (from + k) = omega arith in at_place flags from k ∙ ap (slice_get (g ∷ flags)) (sym e)

pub bit_set : (flags : List (List ℕ × Bool)) (from k bits bits' : ℕ) → set_at (slice_get flags (from + k)) ≡ true → bits' ≡ bits + 2 ^ k → AreBits (drop from flags) k bits → AreBits (drop from flags) (k + 1) bits'
bit_set flags from k bits bits' e is g =
    let one : 2 ^ k * bit_of (set_at (slice_get flags (from + k))) ≡ 2 ^ k * 1 = ap (λ b. 2 ^ k * bit_of b) e in
    subst (λ k. AreBits (drop from flags) k bits') (sym (add-one k))
    (bits_next (drop from flags) k bits bits' (slice_get flags (from + k)) (at_place flags from k) (omega (arith, is, one)) g)

pub bit_unset : (flags : List (List ℕ × Bool)) (from k bits : ℕ) → set_at (slice_get flags (from + k)) ≡ false → AreBits (drop from flags) k bits → AreBits (drop from flags) (k + 1) bits
bit_unset flags from k bits e g =
    let none : 2 ^ k * bit_of (set_at (slice_get flags (from + k))) ≡ 2 ^ k * 0 = ap (λ b. 2 ^ k * bit_of b) e in
    subst (λ k. AreBits (drop from flags) k bits) (sym (add-one k))
    (bits_next (drop from flags) k bits bits (slice_get flags (from + k)) (at_place flags from k) (omega (arith, none)) g)

-- ---- byte by byte

-- what so many bytes say of the first flags
abbrev pub AreBytes : List (List ℕ × Bool) → List ℕ → Type 0
AreBytes flags bytes = (n : ℕ) → flags_of_number (map (λ f. f.0) flags) (number_of bytes + 256 ^ length bytes * n) ≡ take (8 * length bytes) flags ++ flags_of_number (map (λ f. f.0) (drop (8 * length bytes) flags)) n

pub bytes_start : (flags : List (List ℕ × Bool)) (bytes : List ℕ) → bytes ≡ [] → AreBytes flags bytes
bytes_start flags bytes e = subst (AreBytes flags) (sym e) (λ n. let q : 0 + 256 ^ 0 * n ≡ n = omega arith in ap (flags_of_number (map (λ f. f.0) flags)) q)

number_behind : (bytes : List ℕ) (b : ℕ) → number_of (bytes ++ b ∷ []) ≡ number_of bytes + 256 ^ length bytes * b
number_behind [] b = omega arith
number_behind (x ∷ bytes) b =
    let wide : 256 ^ suc (length bytes) ≡ 256 * 256 ^ length bytes = pow-succ' 256 (length bytes) in
    let far : 256 ^ suc (length bytes) * b ≡ 256 * (256 ^ length bytes * b) = ap (λ z. z * b) wide ∙ mul_assoc 256 (256 ^ length bytes) b in
    omega (arith, number_behind bytes b, far)

length_behind : (bytes : List ℕ) (b : ℕ) → length (bytes ++ b ∷ []) ≡ suc (length bytes)
length_behind [] b = refl
length_behind (x ∷ bytes) b = ap suc (length_behind bytes b)

take_more : (flags : List (List ℕ × Bool)) (j k : ℕ) → take (j + k) flags ≡ take j flags ++ take k (drop j flags)
take_more flags zero k = let e : 0 + k ≡ k = omega arith in ap (λ n. take n flags) e
take_more [] (suc j) zero = let e : suc j + 0 ≡ suc j = omega arith in ap (λ n. take n []) e
take_more [] (suc j) (suc k) = let e : suc j + suc k ≡ suc (j + suc k) = omega arith in ap (λ n. take n []) e
take_more (g ∷ flags) (suc j) k = let e : suc j + k ≡ suc (j + k) = omega arith in ap (λ n. take n (g ∷ flags)) e ∙ ap (λ l. g ∷ l) (take_more flags j k)

pub bytes_on : (flags : List (List ℕ × Bool)) (bytes bytes' : List ℕ) (from b : ℕ) → from ≡ 8 * length bytes → bytes' ≡ bytes ++ b ∷ [] → AreBits (drop from flags) 8 b → AreBytes flags bytes → AreBytes flags bytes'
bytes_on flags bytes bytes' from b place pushed bits g = subst (AreBytes flags) (sym pushed) (λ n.
    let len = length_behind bytes b in
    let wide : 256 ^ length (bytes ++ b ∷ []) ≡ 256 ^ length bytes * 256 = ap (λ k. 256 ^ k) len ∙ pow-suc 256 (length bytes) in
    let far : 256 ^ length (bytes ++ b ∷ []) * n ≡ 256 ^ length bytes * (256 * n) = ap (λ z. z * n) wide ∙ mul_assoc (256 ^ length bytes) 256 n in
    let same : number_of (bytes ++ b ∷ []) + 256 ^ length (bytes ++ b ∷ []) * n ≡ number_of bytes + 256 ^ length bytes * (b + 256 * n) = omega (arith, number_behind bytes b, far, mul_add (256 ^ length bytes) b (256 * n)) in
    let count : 8 * length (bytes ++ b ∷ []) ≡ from + 8 = omega (arith, len, place) in
    ap (flags_of_number (map (λ f. f.0) flags)) same ∙ g (b + 256 * n)
    ∙ ap (λ k. take k flags ++ flags_of_number (map (λ f. f.0) (drop k flags)) (b + 256 * n)) (sym place)
    ∙ ap (λ l. take from flags ++ l) (bits n)
    ∙ sym (append_assoc (take from flags) (take 8 (drop from flags)) (flags_of_number (map (λ f. f.0) (drop 8 (drop from flags))) n))
    ∙ (λ i. sym (take_more flags from 8) i ++ flags_of_number (map (λ f. f.0) (drop-drop 8 from flags i)) n)
    ∙ ap (λ k. take k flags ++ flags_of_number (map (λ f. f.0) (drop k flags)) n) (sym count))
  where
    mul_add : (a b c : ℕ) → a * (b + c) ≡ a * b + a * c
    mul_add a b c = omega arith

append_nil : {X : Type 0} (xs : List X) → xs ++ [] ≡ xs
append_nil [] = refl
append_nil (x ∷ xs) = ap (λ l. x ∷ l) (append_nil xs)

pub bytes_end : (flags : List (List ℕ × Bool)) (bytes : List ℕ) (size : ℕ) → length bytes ≡ size → size ≡ (flags_extent (flags_size (length flags))).size → length flags ≤ 8 * size → AreBytes flags bytes → AreFlagBytes flags bytes
bytes_end flags bytes size len is all g =
    let none : number_of bytes ≡ number_of bytes + 256 ^ length bytes * 0 = omega arith in
    let whole : number_at (length bytes) bytes 0 ≡ number_of bytes + 256 ^ length bytes * 0 = ap number_of (take_all (length bytes) bytes (omega arith)) ∙ none in
    let ge : length flags ≤ 8 * length bytes = omega (arith, len, all) in
    (len ∙ is, ap (flags_of_number (map (λ f. f.0) flags)) whole ∙ g 0 ∙ (λ i. take_all (8 * length bytes) flags ge i ++ flags_of_number (map (λ f. f.0) (drop_all (8 * length bytes) flags ge i)) 0) ∙ append_nil flags)
