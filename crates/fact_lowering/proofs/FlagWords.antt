-- Flags as words of 32 bits.
use Rattle.std.proofs.Common.{◌≡◌, ℕ, zero, suc, ◌+◌, ◌-◌, ◌*◌, ◌/◌, ◌%◌, ◌^◌, ◌<◌, ◌≤◌, List, [], ◌∷◌, ◌++◌, length, length-append, length-drop, map, take, drop, get_or, refl, sym, ap, ◌∙◌, subst, arith, append_assoc, add-one}
use Rattle.std.specs.Prelude.{Bool, true, false, ◌==◌, nat_le, if◌then◌else◌}
use Rattle.std.specs.Int.{div_ceil}
use Rattle.std.proofs.Math.Seq.{drop-cons}
use Rattle.std.proofs.lemmas.Bool.{leb-true}
use Rattle.std.proofs.lemmas.Bool.Decides.{nat_tests}
use Rattle.std.proofs.lemmas.List.{drop_all}
use Rattle.std.specs.List.{AllByRecursion}
use Rattle.std.proofs.Math.Nat.{pow-suc}
use Rattle.std.proofs.Math.Pow.{pow_mono}
use Rattle.std.proofs.lemmas.List.Elements.{All-from_recursion}
use Rattle.fact_types.specs.declared.sizes.FlagsSize.TheVariants.{Size0, Size1, Size2, Size4Plus}
use Rattle.fact_types.specs.Layout.{flags_size, flags_flat}
use Rattle.fact_values.specs.Numbers.{flags_of_number, number_of_words}
use Rattle.fact_lowering.specs.FlagNumbers.{bit_of, number_of_flags}
use Rattle.fact_lowering.specs.Lowerings.{AreFlagWords}
use Rattle.fact_lowering.proofs.CoreMembers.{nothing_behind}

bit_back : (b : Bool) (m : ℕ) → ((bit_of b + 2 * m) % 2 == 1) ≡ b
bit_back true m = let e : (1 + 2 * m) % 2 ≡ 1 = omega arith in ap (λ n. n == 1) e
bit_back false m = let e : (0 + 2 * m) % 2 ≡ 0 = omega arith in ap (λ n. n == 1) e

rest_back : (b : Bool) (m : ℕ) → (bit_of b + 2 * m) / 2 ≡ m
rest_back true m = omega arith
rest_back false m = omega arith

-- the flags of their number
pub flags_back : (fs : List (List ℕ × Bool)) → flags_of_number (map (λ f. f.0) fs) (number_of_flags fs) ≡ fs
flags_back [] = refl
flags_back (f ∷ fs) = (λ i. (f.0, bit_back f.1 (number_of_flags fs) i) ∷ flags_of_number (map (λ f. f.0) fs) (rest_back f.1 (number_of_flags fs) i)) ∙ ap (λ l. f ∷ l) (flags_back fs)

bit_small : (b : Bool) → bit_of b ≤ 1
bit_small true = omega arith
bit_small false = omega arith

pub flags_small : (fs : List (List ℕ × Bool)) → number_of_flags fs < 2 ^ length fs
flags_small [] = omega arith
flags_small (f ∷ fs) = omega (arith, flags_small fs, bit_small f.1, pow-suc 2 (length fs))

-- those behind the first so many
pub flags_parted : (n : ℕ) (fs : List (List ℕ × Bool)) → n ≤ length fs → number_of_flags fs ≡ number_of_flags (take n fs) + 2 ^ n * number_of_flags (drop n fs)
flags_parted zero fs le = omega arith
flags_parted (suc n) [] le = absurd (omega (arith, le))
flags_parted (suc n) (f ∷ fs) le =
    let more : number_of_flags fs ≡ number_of_flags (take n fs) + 2 ^ n * number_of_flags (drop n fs) = flags_parted n fs (omega (arith, le)) in
    let wide : 2 ^ suc n * number_of_flags (drop n fs) ≡ 2 * (2 ^ n * number_of_flags (drop n fs)) = ap (λ p. p * number_of_flags (drop n fs)) (pow-suc 2 n) ∙ omega arith in
    omega (arith, more, wide)

-- ---- words

many_words : (n : ℕ) → 1 ≤ n → flags_flat (flags_size n) ≡ div_ceil n 32
many_words n h = go (n == 0) refl (nat_le n 8) refl (nat_le n 16) refl
  where
    ceil : 1 ≤ n → n ≤ 32 → 1 ≡ div_ceil n 32
    ceil h k = omega arith

    go : (a : Bool) → (n == 0) ≡ a → (b : Bool) → nat_le n 8 ≡ b → (c : Bool) → nat_le n 16 ≡ c → flags_flat (if a then Size0 else (if b then Size1 else (if c then Size2 else Size4Plus (div_ceil n 32)))) ≡ div_ceil n 32
    go true p b q c r = absurd (grind (arith, nat_tests, p))
    go false p true q c r = ceil h (omega (arith, leb-true n 8 q))
    go false p false q true r = ceil h (omega (arith, leb-true n 16 r))
    go false p false q false r = refl

-- In front of flags that are left, with the words of those before them.
pub record Wording (flags rest : List (List ℕ × Bool)) (words : List ℕ) : Type 0 where
  pub many : length words + flags_flat (flags_size (length rest)) ≡ flags_flat (flags_size (length flags))
  pub small : AllByRecursion (λ w. w < 2 ^ 32) words
  pub same : (ws : List ℕ) → number_of_words ws ≡ number_of_flags rest → number_of_words (words ++ ws) ≡ number_of_flags flags

pub wording_starts : (flags : List (List ℕ × Bool)) → Wording flags flags []
wording_starts flags = record { many = omega arith; small = tt; same = λ ws e. e }

all_behind : (ws : List ℕ) (w : ℕ) → AllByRecursion (λ w. w < 2 ^ 32) ws → w < 2 ^ 32 → AllByRecursion (λ w. w < 2 ^ 32) (ws ++ w ∷ [])
all_behind [] w h k = (k, tt)
all_behind (v ∷ ws) w h k = (h.0, all_behind ws w h.1 k)

-- the word of 32 flags
pub wording_on : (flags rest : List (List ℕ × Bool)) (words words' : List ℕ) (w : ℕ) → 32 < length rest → w ≡ number_of_flags (take 32 rest) → w < 2 ^ 32 → words' ≡ words ++ w ∷ [] → Wording flags rest words → Wording flags (drop 32 rest) words'
wording_on flags rest words words' w lt is less pushed g =
    let left : length (drop 32 rest) + 32 ≡ length rest = omega (arith, length-drop 32 rest, lt) in
    let one : flags_flat (flags_size (length rest)) ≡ div_ceil (length rest) 32 = many_words (length rest) (omega (arith, lt)) in
    let two : flags_flat (flags_size (length (drop 32 rest))) ≡ div_ceil (length (drop 32 rest)) 32 = many_words (length (drop 32 rest)) (omega (arith, left, lt)) in
    record {
      many = ap (λ ws. length ws + flags_flat (flags_size (length (drop 32 rest)))) pushed ∙ omega (arith, g.many, one, two, left, length-append words (w ∷ []));
      small = subst (AllByRecursion (λ w. w < 2 ^ 32)) (sym pushed) (all_behind words w g.small less);
      same = λ ws e. ap (λ l. number_of_words (l ++ ws)) pushed ∙ ap number_of_words (append_assoc words (w ∷ []) ws)
          ∙ g.same (w ∷ ws) ((λ i. is i + 2 ^ 32 * e i) ∙ sym (flags_parted 32 rest (omega (arith, lt))));
    }

-- the word of the last flags, where there are any
pub wording_last : (flags rest : List (List ℕ × Bool)) (words words' : List ℕ) (w : ℕ) → 1 ≤ length rest → length rest ≤ 32 → w ≡ number_of_flags rest → w < 2 ^ 32 → words' ≡ words ++ w ∷ [] → Wording flags rest words → AreFlagWords flags words'
wording_last flags rest words words' w some few is less pushed g =
    let one : flags_flat (flags_size (length rest)) ≡ div_ceil (length rest) 32 = many_words (length rest) some in (
      ap length pushed ∙ omega (arith, g.many, one, some, few, length-append words (w ∷ [])),
      All-from_recursion (λ w. w < 2 ^ 32) words' (subst (AllByRecursion (λ w. w < 2 ^ 32)) (sym pushed) (all_behind words w g.small less)),
      ap (λ l. flags_of_number (map (λ f. f.0) flags) (number_of_words l)) pushed ∙ ap (flags_of_number (map (λ f. f.0) flags)) (g.same (w ∷ []) (omega (arith, is))) ∙ flags_back flags,
    )

pub wording_ends : (flags rest : List (List ℕ × Bool)) (words : List ℕ) → length rest ≡ 0 → Wording flags rest words → AreFlagWords flags words
wording_ends flags [] words none g = (
  omega (arith, g.many),
  All-from_recursion (λ w. w < 2 ^ 32) words g.small,
  ap (λ l. flags_of_number (map (λ f. f.0) flags) (number_of_words l)) (sym (nothing_behind words)) ∙ ap (flags_of_number (map (λ f. f.0) flags)) (g.same [] refl) ∙ flags_back flags,
)
wording_ends flags (f ∷ rest) words none g = absurd (omega (arith, none))

-- ---- one word

-- In front of a flag, from the last one on, with the number of those behind it.
pub record Counting (flags : List (List ℕ × Bool)) (place word : ℕ) : Type 0 where
  pub is : word ≡ number_of_flags (drop (length flags - place) flags)
  pub small : word < 2 ^ place

pub counting_starts : (flags : List (List ℕ × Bool)) → Counting flags 0 0
counting_starts flags = record { is = ap number_of_flags (sym (drop_all (length flags - 0) flags (omega arith))); small = omega arith }

pub counting_on : (flags : List (List ℕ × Bool)) (place word word' : ℕ) (f : List ℕ × Bool) → place < length flags → f ≡ get_or flags (length flags - 1 - place) f → word' ≡ word * 2 + bit_of f.1 → Counting flags place word → Counting flags (place + 1) word'
counting_on flags place word word' f lt at is g =
    let here : length flags - 1 - place ≡ length flags - (place + 1) = omega arith in
    let next : suc (length flags - (place + 1)) ≡ length flags - place = omega (arith, lt) in
    let front : drop (length flags - (place + 1)) flags ≡ f ∷ drop (length flags - place) flags =
    drop-cons flags (length flags - (place + 1)) f (omega (arith, lt)) ∙ ap (λ k. get_or flags k f ∷ drop (suc (length flags - (place + 1))) flags) (sym here) ∙ ap (λ y. y ∷ drop (suc (length flags - (place + 1))) flags) (sym at) ∙ ap (λ k. f ∷ drop k flags) next in
    record {
      is = is ∙ omega (arith, g.is) ∙ ap number_of_flags (sym front);
      small = omega (arith, is, g.small, bit_small f.1, pow-suc 2 place, ap (λ k. 2 ^ k) (add-one place));
    }

pub counted : (flags : List (List ℕ × Bool)) (place word : ℕ) → length flags ≤ place → Counting flags place word → word ≡ number_of_flags flags
counted flags place word ge g = g.is ∙ ap (λ k. number_of_flags (drop k flags)) (let e : length flags - place ≡ 0 = omega (arith, ge) in e)

-- with one flag more the number has at most 32 bits
pub word_fits : (place word : ℕ) → place < 32 → word < 2 ^ place → word * 2 + 1 < 2 ^ 64
word_fits place word lt small =
    let most : 2 ^ place ≤ 2 ^ 32 = pow_mono (let le : place ≤ 32 = omega (arith, lt) in le) in
    omega (arith, most, small)

pub word_small : (n word : ℕ) → n ≤ 32 → word < 2 ^ n → word < 2 ^ 32
word_small n word le small =
    let most : 2 ^ n ≤ 2 ^ 32 = pow_mono le in
    omega (arith, most, small)
