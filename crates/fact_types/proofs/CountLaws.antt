-- The count in a layout is the length of the flat types, where that is at most 16.
use Rattle.std.proofs.Common.{◌≡◌, ℕ, zero, suc, ◌+◌, ◌*◌, ◌≤◌, ◌<◌, Bool, true, false, List, [], ◌∷◌, ◌++◌, length, max, replicate, Option, Some, None, refl, sym, ap, ◌∙◌, arith, inl, inr, ◌⊎◌, length-append}
use Rattle.std.specs.Prelude.{map, nat_le, ◌==◌, if◌then◌else◌}
use Rattle.std.specs.Int.{div_ceil}
use Rattle.std.proofs.lemmas.Bool.{cases_lt, leb-true, leb-false}
use Rattle.std.proofs.lemmas.Grind.{div_ceil_times}
use Rattle.std.proofs.lemmas.List.{length-replicate}
use Rattle.std.proofs.Math.Nat.{le-mul_of_pos_right}
use Rattle.fact_types.specs.declared.abi.CanonicalAbiInfo.{CanonicalAbiInfo}
use Rattle.fact_types.specs.declared.flats.FlatType.{FlatType}
use Rattle.fact_types.specs.declared.flats.FlatType.TheVariants.{I32}
use Rattle.fact_types.specs.declared.interface.InterfaceType.{InterfaceType}
use Rattle.fact_types.specs.declared.interface.InterfaceType.TheVariants.{Bool as t_bool, S8 as t_s8, U8 as t_u8, S16 as t_s16, U16 as t_u16, S64 as t_s64, U64 as t_u64, Float32 as t_float32, Float64 as t_float64, String as t_string}
use Rattle.fact_types.specs.declared.sizes.FlagsSize.TheVariants.{Size0, Size1, Size2, Size4Plus}
use Rattle.fact_types.specs.declared.extents.MemoryWidth.{MemoryWidth}
use Rattle.fact_types.specs.Flat.{flat_within, add_flat, times_flat, flat_sum, greater_flat, flat_greatest}
use Rattle.fact_types.specs.FlatShapes.{joined, times, flat_plain, flat_by, flat, flat_members, flat_any, IsCountedBy, IsCounted, AreCounted}
use Rattle.fact_types.specs.Layout.{payloads, flags_size, flags_flat}
use Rattle.fact_types.specs.Shapes.{Kind, k_record, k_variant, k_list, k_tuple, k_map, k_flags, k_enum, k_option, k_result, k_fixed, k_future, k_stream, Shape, s_plain, s_node, Members, no_members, bare, typed, plain_layout, repeated_layout, layout_by, layout_of, layouts_of}

within : (n : ℕ) → n ≤ 16 → flat_within n ≡ Some n
within n le = go (nat_le n 16) refl
  where
    go : (b : Bool) → nat_le n 16 ≡ b → (if b then Some n else None) ≡ Some n
    go true e = refl
    go false e = let lt : 16 < n = leb-false n 16 e in absurd (omega (arith, le, lt))

beyond : (n : ℕ) → 16 < n → flat_within n ≡ None
beyond n lt = go (nat_le n 16) refl
  where
    go : (b : Bool) → nat_le n 16 ≡ b → (if b then Some n else None) ≡ None
    go true e = let le : n ≤ 16 = leb-true n 16 e in absurd (omega (arith, le, lt))
    go false e = refl

pub add_is : (a b : ℕ) → add_flat (flat_within a) (flat_within b) ≡ flat_within (a + b)
add_is a b = go (cases_lt 16 a) (cases_lt 16 b)
  where
    go : (16 < a) ⊎ (a ≤ 16) → (16 < b) ⊎ (b ≤ 16) → add_flat (flat_within a) (flat_within b) ≡ flat_within (a + b)
    go (inl p) q = ap (λ x. add_flat x (flat_within b)) (beyond a p) ∙ sym (beyond (a + b) (omega (arith, p)))
    go (inr p) (inl q) = (λ i. add_flat (within a p i) (beyond b q i)) ∙ sym (beyond (a + b) (omega (arith, q)))
    go (inr p) (inr q) = λ i. add_flat (within a p i) (within b q i)

greater_is : (a b : ℕ) → greater_flat (flat_within a) (flat_within b) ≡ flat_within (max a b)
greater_is a b = go (cases_lt 16 a) (cases_lt 16 b)
  where
    go : (16 < a) ⊎ (a ≤ 16) → (16 < b) ⊎ (b ≤ 16) → greater_flat (flat_within a) (flat_within b) ≡ flat_within (max a b)
    go (inl p) q = ap (λ x. greater_flat x (flat_within b)) (beyond a p) ∙ sym (beyond (max a b) (omega (arith, p)))
    go (inr p) (inl q) = (λ i. greater_flat (within a p i) (beyond b q i)) ∙ sym (beyond (max a b) (omega (arith, q)))
    go (inr p) (inr q) = (λ i. greater_flat (within a p i) (within b q i)) ∙ sym (within (max a b) (omega (arith, p, q)))

times_is : (a n : ℕ) → 1 ≤ n → times_flat (flat_within a) n ≡ flat_within (a * n)
times_is a n pos = go (cases_lt 16 a)
  where
    go : (16 < a) ⊎ (a ≤ 16) → times_flat (flat_within a) n ≡ flat_within (a * n)
    go (inl p) = ap (λ x. times_flat x n) (beyond a p) ∙ sym (beyond (a * n) (omega (arith, p, le-mul_of_pos_right {m = n} a (omega (arith, pos)))))
    go (inr p) = ap (λ x. times_flat x n) (within a p)

-- ---- lengths
length-joined : (xs ys : List FlatType) → length (joined xs ys) ≡ max (length xs) (length ys)
length-joined [] ys = omega arith
length-joined (x ∷ xs) [] = omega arith
length-joined (x ∷ xs) (y ∷ ys) = let h = length-joined xs ys in omega (arith, h)

length-times : (n : ℕ) (xs : List FlatType) → length (times n xs) ≡ length xs * n
length-times zero xs = let e : 0 ≡ length xs * 0 = omega arith in e
length-times (suc n) xs =
    let h = length-times n xs in
    let e : length xs + length xs * n ≡ length xs * suc n = grind arith in
    length-append xs (times n xs) ∙ ap (λ (k : ℕ). length xs + k) h ∙ e

few_words : (none few some : Bool) (words : ℕ) → words ≤ 16 → flags_flat (if none then Size0 else (if few then Size1 else (if some then Size2 else Size4Plus words))) ≤ 16
few_words true few some words h = omega arith
few_words false true some words h = omega arith
few_words false false true words h = omega arith
few_words false false false words h = h

few_flags : (n : ℕ) → n ≤ 512 → flags_flat (flags_size n) ≤ 16
few_flags n h = let (low, high) = div_ceil_times n 32 (omega arith) in few_words (n == 0) (nat_le n 8) (nat_le n 16) (div_ceil n 32) (omega (arith, h, low, high))

-- ---- the count of a kind over those of its members
abbrev EachCount : MemoryWidth → Members → Type 0
EachCount w no_members = Unit {0}
EachCount w (bare n ms) = EachCount w ms
EachCount w (typed n s ms) = ((layout_of s).flat_count ≡ flat_within (length (flat w s))) × EachCount w ms

plain_count : (w : MemoryWidth) (p : InterfaceType) → (plain_layout p).flat_count ≡ flat_within (length (flat_plain w p))
plain_count w t_bool = refl
plain_count w t_s8 = refl
plain_count w t_u8 = refl
plain_count w t_s16 = refl
plain_count w t_u16 = refl
plain_count w t_s64 = refl
plain_count w t_u64 = refl
plain_count w t_float32 = refl
plain_count w t_float64 = refl
plain_count w t_string = refl
plain_count w p = refl

all_count : (w : MemoryWidth) (ms : Members) → EachCount w ms → flat_sum (map (λ f. f.flat_count) (payloads (layouts_of ms))) ≡ flat_within (length (flat_members w ms))
all_count w no_members c = refl
all_count w (bare n ms) c = all_count w ms c
all_count w (typed n s ms) c =
    (λ i. add_flat (c.0 i) (all_count w ms c.1 i)) ∙ add_is (length (flat w s)) (length (flat_members w ms))
    ∙ ap flat_within (sym (length-append (flat w s) (flat_members w ms)))

any_count : (w : MemoryWidth) (ms : Members) → EachCount w ms → flat_greatest (map (λ f. f.flat_count) (payloads (layouts_of ms))) ≡ flat_within (length (flat_any w ms))
any_count w no_members c = refl
any_count w (bare n ms) c = any_count w ms c
any_count w (typed n s ms) c =
    (λ i. greater_flat (c.0 i) (any_count w ms c.1 i)) ∙ greater_is (length (flat w s)) (length (flat_any w ms))
    ∙ ap flat_within (sym (length-joined (flat w s) (flat_any w ms)))

case_count : (w : MemoryWidth) (ms : Members) → EachCount w ms → add_flat (Some 1) (flat_greatest (map (λ p. p.flat_count) (payloads (layouts_of ms)))) ≡ flat_within (suc (length (flat_any w ms)))
case_count w ms c = ap (add_flat (Some 1)) (any_count w ms c) ∙ add_is 1 (length (flat_any w ms)) ∙ ap flat_within (next (length (flat_any w ms)))
  where
    next : (n : ℕ) → 1 + n ≡ suc n
    next n = omega arith

abbrev none : Option CanonicalAbiInfo
none = None

no_payloads : (n : ℕ) → payloads (replicate n none) ≡ []
no_payloads zero = refl
no_payloads (suc n) = no_payloads n

fixed_count : (w : MemoryWidth) (count : ℕ) (ms : Members) → length (layouts_of ms) ≡ 1 → 1 ≤ count → EachCount w ms → (repeated_layout count (payloads (layouts_of ms))).flat_count ≡ flat_within (length (times count (flat_members w ms)))
fixed_count w count no_members e p c = absurd (omega (arith, e))
fixed_count w count (bare n no_members) e p c = let none : 0 * count ≡ 0 = omega arith in sym (ap flat_within (length-times count [] ∙ none))
fixed_count w count (typed n s no_members) e p c =
    let alone : length (flat w s ++ []) ≡ length (flat w s) = omega (arith, length-append (flat w s) []) in
    ap (λ (o : Option ℕ). times_flat o count) c.0 ∙ times_is (length (flat w s)) count p
    ∙ ap flat_within (sym (length-times count (flat w s ++ []) ∙ ap (λ (k : ℕ). k * count) alone))
fixed_count w count (bare n (bare m ms)) e p c = absurd (omega (arith, e))
fixed_count w count (bare n (typed m s ms)) e p c = absurd (omega (arith, e))
fixed_count w count (typed n s (bare m ms)) e p c = absurd (omega (arith, e))
fixed_count w count (typed n s (typed m z ms)) e p c = absurd (omega (arith, e))

by_count : (w : MemoryWidth) (k : Kind) (ms : Members) → IsCountedBy k (length (layouts_of ms)) → EachCount w ms
    → (layout_by k (layouts_of ms)).flat_count ≡ flat_within (length (flat_by w k (length (layouts_of ms)) (flat_members w ms) (flat_any w ms)))
by_count w k_record ms p c = all_count w ms c
by_count w k_tuple ms p c = all_count w ms c
by_count w k_variant ms p c = case_count w ms c
by_count w k_option ms p c = case_count w ms c
by_count w k_result ms p c = case_count w ms c
by_count w k_enum ms p c = ap (λ (ls : List CanonicalAbiInfo). add_flat (Some 1) (flat_greatest (map (λ f. f.flat_count) ls))) (no_payloads (length (layouts_of ms)))
by_count w k_list ms p c = refl
by_count w k_map ms p c = refl
by_count w k_flags ms p c =
    let few = few_flags (length (layouts_of ms)) p in
    let words = flags_flat (flags_size (length (layouts_of ms))) in
    sym (ap flat_within (length-replicate words I32) ∙ within words few)
by_count w (k_fixed count) ms p c = fixed_count w count ms p.0 p.1 c
by_count w (k_future table instance) ms p c = refl
by_count w (k_stream table instance) ms p c = refl

mutual
  pub count_is_length : (w : MemoryWidth) (s : Shape) → IsCounted s → (layout_of s).flat_count ≡ flat_within (length (flat w s))
  count_is_length w (s_plain p) h = plain_count w p
  count_is_length w (s_node k ms) h = by_count w k ms h.0 (each_count w ms h.1)

  each_count : (w : MemoryWidth) (ms : Members) → AreCounted ms → EachCount w ms
  each_count w no_members h = tt
  each_count w (bare n ms) h = each_count w ms h
  each_count w (typed n s ms) h = (count_is_length w s h.0, each_count w ms h.1)
