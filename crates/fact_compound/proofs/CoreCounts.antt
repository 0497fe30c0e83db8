-- Values take at least a byte for each of their core values, so that the bytes of a tuple are no limit to these.
use Rattle.std.proofs.Common.{◌≡◌, ◌∙◌, ap, sym, subst, ℕ, zero, suc, ◌+◌, ◌*◌, ◌≤◌, Bool, true, false, List, [], ◌∷◌, ◌++◌, length, max, replicate, map, Option, Some, None, refl, arith}
use Rattle.std.specs.List.{AllByRecursion}
use Rattle.std.proofs.lemmas.List.{length-append, length-map, length-replicate}
use Rattle.fact_wasm.specs.declared.types.ValType.{ValType}
use Rattle.fact_types.specs.Adapters.{Side, is_wide}
use Rattle.fact_types.specs.declared.abi.CanonicalAbiInfo.{CanonicalAbiInfo}
use Rattle.fact_types.specs.declared.flats.FlatType.{FlatType}
use Rattle.fact_types.specs.declared.flats.FlatType.TheVariants.{I32}
use Rattle.fact_types.specs.declared.interface.InterfaceType.{InterfaceType}
use Rattle.fact_types.specs.declared.interface.InterfaceType.TheVariants.{Bool as t_bool, S8 as t_s8, U8 as t_u8, S16 as t_s16, U16 as t_u16, S64 as t_s64, U64 as t_u64, Float32 as t_float32, Float64 as t_float64, String as t_string}
use Rattle.fact_types.specs.declared.sizes.DiscriminantSize.{DiscriminantSize}
use Rattle.fact_types.specs.declared.sizes.DiscriminantSize.TheVariants.{Size1 as one_byte, Size2 as two_bytes, Size4 as four_bytes}
use Rattle.fact_types.specs.declared.sizes.FlagsSize.{FlagsSize}
use Rattle.fact_types.specs.declared.sizes.FlagsSize.TheVariants.{Size0, Size1, Size2, Size4Plus}
use Rattle.fact_types.specs.declared.extents.MemoryWidth.{MemoryWidth}
use Rattle.fact_types.specs.declared.extents.MemoryWidth.TheVariants.{Memory32}
use Rattle.fact_types.specs.Flat.{value_type}
use Rattle.fact_types.specs.FlatShapes.{joined, times, flat_plain, flat_by, flat, flat_members, flat_any, flat_each, when_upto, IsCountedBy, IsCounted, AreCounted}
use Rattle.fact_types.specs.Layout.{extents, aligned, discriminant_bytes, discriminant_size, flags_extent, flags_flat, flags_size, greatest_align, greatest_size, payloads, variant_layout}
use Rattle.fact_types.specs.Shapes.{Kind, k_record, k_variant, k_list, k_tuple, k_map, k_flags, k_enum, k_option, k_result, k_fixed, k_future, k_stream, Shape, s_plain, s_node, Members, no_members, bare, typed, plain_layout, repeated_layout, layout_by, layout_of, layouts_of, place_of, next_of, ends_of}
use Rattle.fact_types.specs.Signatures.{flat_values, width}
use Rattle.fact_types.specs.Tuples.{members_from, tuple_members, tuple_of}
use Rattle.fact_types.specs.Valid.{IsValid}
use Rattle.fact_types.proofs.AlignLaws.{aligned_bounds, inside_tagged}
use Rattle.fact_types.proofs.FieldLaws.{greatest_align_pos}
use Rattle.fact_types.proofs.PlaceLaws.{align_pos, ends_within}
use Rattle.fact_types.proofs.ValidLaws.{valid_counted}
use Rattle.fact_actions.specs.Adapters.{results_number}
use Rattle.fact_actions.specs.Sides.{options_of, width_of_side}
use Rattle.fact_compound.specs.Passing.{tuple_size}
use Rattle.fact_compound.proofs.Flats.{by_each, each_are, upto_some, values_of}

-- ---- lists

joined_below : (xs ys : List FlatType) (n : ℕ) → length xs ≤ n → length ys ≤ n → length (joined xs ys) ≤ n
joined_below [] ys n h k = k
joined_below (x ∷ xs) [] n h k = h
joined_below (x ∷ xs) (y ∷ ys) zero h k = absurd (omega (arith, h))
joined_below (x ∷ xs) (y ∷ ys) (suc n) h k = let r = joined_below xs ys n (omega (arith, h)) (omega (arith, k)) in omega (arith, r)

times_below : (n : ℕ) (xs : List FlatType) (size : ℕ) → length xs ≤ size → length (times n xs) ≤ size * n
times_below zero xs size h = let e : 0 ≤ size * 0 = omega arith in e
times_below (suc n) xs size h =
    let e : size + size * n ≡ size * suc n = grind arith in
    omega (arith, e, h, length-append xs (times n xs), times_below n xs size h)

-- ---- types without members, and those whose members are elsewhere

plain_within : (w : MemoryWidth) (p : InterfaceType) → length (flat_plain w p) ≤ (plain_layout p).size32
plain_within w t_bool = let h : 1 ≤ 1 = omega arith in h
plain_within w t_s8 = let h : 1 ≤ 1 = omega arith in h
plain_within w t_u8 = let h : 1 ≤ 1 = omega arith in h
plain_within w t_s16 = let h : 1 ≤ 2 = omega arith in h
plain_within w t_u16 = let h : 1 ≤ 2 = omega arith in h
plain_within w t_s64 = let h : 1 ≤ 8 = omega arith in h
plain_within w t_u64 = let h : 1 ≤ 8 = omega arith in h
plain_within w t_float32 = let h : 1 ≤ 4 = omega arith in h
plain_within w t_float64 = let h : 1 ≤ 8 = omega arith in h
plain_within w t_string = let h : 2 ≤ 8 = omega arith in h
plain_within w p = let h : 1 ≤ 4 = omega arith in h

flags_within : (z : FlagsSize) → flags_flat z ≤ (flags_extent z).size
flags_within Size0 = let h : 0 ≤ 0 = omega arith in h
flags_within Size1 = let h : 1 ≤ 1 = omega arith in h
flags_within Size2 = let h : 1 ≤ 2 = omega arith in h
flags_within (Size4Plus words) = let h : words ≤ words * 4 = omega arith in h

discriminant_pos : (d : DiscriminantSize) → 1 ≤ discriminant_bytes d
discriminant_pos one_byte = let h : 1 ≤ 1 = omega arith in h
discriminant_pos two_bytes = let h : 1 ≤ 2 = omega arith in h
discriminant_pos four_bytes = let h : 1 ≤ 4 = omega arith in h

-- a discriminant, and the core values of the greatest payload
variant_within : (ls : List (Option CanonicalAbiInfo)) (core : ℕ) → core ≤ greatest_size (extents Memory32 (payloads ls)) → suc core ≤ (variant_layout ls).size32
variant_within ls core h =
    let es = extents Memory32 (payloads ls) in
    let d = discriminant_bytes (discriminant_size (length ls)) in
    let tag : 1 ≤ d = discriminant_pos (discriminant_size (length ls)) in
    let place : d ≤ aligned d (greatest_align es) = (aligned_bounds d (greatest_align es) (greatest_align_pos es)).0 in
    let whole : aligned d (greatest_align es) + greatest_size es ≤ (variant_layout ls).size32 = inside_tagged d (greatest_size es) (greatest_align es) (greatest_align_pos es) in
    omega (arith, h, tag, place, whole)

-- ---- types with members

-- the core values of each member are no more than its bytes
abbrev EachWithin : MemoryWidth → Members → Type 0
EachWithin w no_members = Unit {0}
EachWithin w (bare n ms) = EachWithin w ms
EachWithin w (typed n s ms) = (length (flat w s) ≤ (layout_of s).size32) × EachWithin w ms

-- those of members one behind the other end no later than these
all_within : (w : MemoryWidth) (ms : Members) → EachWithin w ms → (n : ℕ) → n + length (flat_members w ms) ≤ ends_of Memory32 ms n
all_within w no_members c n = let h : n + 0 ≤ n = omega arith in h
all_within w (bare x ms) c n = all_within w ms c n
all_within w (typed x s ms) c n =
    let place : n ≤ place_of Memory32 s n = (aligned_bounds n (layout_of s).align32 (align_pos Memory32 s)).0 in
    let next : next_of Memory32 s n ≡ place_of Memory32 s n + (layout_of s).size32 = refl in
    let rest : next_of Memory32 s n + length (flat_members w ms) ≤ ends_of Memory32 ms (next_of Memory32 s n) = all_within w ms c.1 (next_of Memory32 s n) in
    omega (arith, c.0, place, next, rest, length-append (flat w s) (flat_members w ms))

record_within : (w : MemoryWidth) (ms : Members) → EachWithin w ms → length (flat_members w ms) ≤ (layout_of (s_node k_record ms)).size32
record_within w ms c =
    let all : 0 + length (flat_members w ms) ≤ ends_of Memory32 ms 0 = all_within w ms c 0 in
    let whole : ends_of Memory32 ms 0 ≤ (layout_of (s_node k_record ms)).size32 = ends_within Memory32 ms in
    omega (arith, all, whole)

any_within : (w : MemoryWidth) (ms : Members) → EachWithin w ms → length (flat_any w ms) ≤ greatest_size (extents Memory32 (payloads (layouts_of ms)))
any_within w no_members c = let h : 0 ≤ 0 = omega arith in h
any_within w (bare x ms) c = any_within w ms c
any_within w (typed x s ms) c =
    let most = max (layout_of s).size32 (greatest_size (extents Memory32 (payloads (layouts_of ms)))) in
    joined_below (flat w s) (flat_any w ms) most (omega (arith, c.0)) (omega (arith, any_within w ms c.1))

fixed_within : (w : MemoryWidth) (count : ℕ) (ms : Members) → length (layouts_of ms) ≡ 1 → EachWithin w ms → length (times count (flat_members w ms)) ≤ (repeated_layout count (payloads (layouts_of ms))).size32
fixed_within w count no_members e c = absurd (omega (arith, e))
fixed_within w count (bare n no_members) e c =
    let none : 0 * count ≡ 0 = omega arith in
    let some : length (times count (flat_members w (bare n no_members))) ≤ 0 * count = times_below count [] 0 (omega arith) in
    omega (arith, none, some)
fixed_within w count (typed n s no_members) e c =
    times_below count (flat w s ++ []) (layout_of s).size32 (omega (arith, c.0, length-append (flat w s) (flat_members w no_members)))
fixed_within w count (bare n (bare m ms)) e c = absurd (omega (arith, e))
fixed_within w count (bare n (typed m s ms)) e c = absurd (omega (arith, e))
fixed_within w count (typed n s (bare m ms)) e c = absurd (omega (arith, e))
fixed_within w count (typed n s (typed m z ms)) e c = absurd (omega (arith, e))

by_within : (w : MemoryWidth) (k : Kind) (ms : Members) → IsCountedBy k (length (layouts_of ms)) → EachWithin w ms
    → length (flat_by w k (length (layouts_of ms)) (flat_members w ms) (flat_any w ms)) ≤ (layout_by k (layouts_of ms)).size32
by_within w k_record ms p c = record_within w ms c
by_within w k_tuple ms p c = record_within w ms c
by_within w k_variant ms p c = variant_within (layouts_of ms) (length (flat_any w ms)) (any_within w ms c)
by_within w k_option ms p c = variant_within (layouts_of ms) (length (flat_any w ms)) (any_within w ms c)
by_within w k_result ms p c = variant_within (layouts_of ms) (length (flat_any w ms)) (any_within w ms c)
by_within w k_enum ms p c = variant_within (replicate (length (layouts_of ms)) None) 0 (omega arith)
by_within w k_list ms p c = let h : 2 ≤ 8 = omega arith in h
by_within w k_map ms p c = let h : 2 ≤ 8 = omega arith in h
by_within w k_flags ms p c =
    let z = flags_size (length (layouts_of ms)) in
    let bytes : flags_flat z ≤ (layout_by k_flags (layouts_of ms)).size32 = flags_within z in
    let words : length (replicate (flags_flat z) I32) ≡ flags_flat z = length-replicate (flags_flat z) I32 in
    omega (arith, bytes, words)
by_within w (k_fixed count) ms p c = fixed_within w count ms p.0 c
by_within w (k_future table instance) ms p c = let h : 1 ≤ 4 = omega arith in h
by_within w (k_stream table instance) ms p c = let h : 1 ≤ 4 = omega arith in h

mutual
  core_within : (w : MemoryWidth) (s : Shape) → IsCounted s → length (flat w s) ≤ (layout_of s).size32
  core_within w (s_plain p) h = plain_within w p
  core_within w (s_node k ms) h = by_within w k ms h.0 (each_within w ms h.1)

  each_within : (w : MemoryWidth) (ms : Members) → AreCounted ms → EachWithin w ms
  each_within w no_members h = tt
  each_within w (bare n ms) h = each_within w ms h
  each_within w (typed n s ms) h = (core_within w s h.0, each_within w ms h.1)

-- ---- tuples

counted_from : (n : ℕ) (ss : List Shape) → AllByRecursion IsValid ss → AreCounted (members_from n ss)
counted_from n [] h = tt
counted_from n (s ∷ ss) h = (valid_counted s h.0, counted_from (suc n) ss h.1)

-- The core values of valid types are no more than the bytes of their tuple in a memory of 32 bits.
pub tuple_within : (w : MemoryWidth) (ss : List Shape) → AllByRecursion IsValid ss → length (flat_members w (tuple_members ss)) ≤ (layout_of (tuple_of ss)).size32
tuple_within w ss h = record_within w (tuple_members ss) (each_within w (tuple_members ss) (counted_from 0 ss h))

-- ---- the number for the results of a sync side

values_some : (m : Bool) (limit : ℕ) (ss : List Shape) (xs : List FlatType) → flat_each (width m) ss ≡ Some xs → length xs ≤ limit → flat_values m limit ss ≡ Some (map value_type xs)
values_some m limit ss xs e few = by_each m limit ss ∙ ap (λ o. values_of (when_upto limit o)) e ∙ ap values_of (upto_some limit xs few)

values_none : (m : Bool) (limit : ℕ) (ss : List Shape) → flat_each (width m) ss ≡ None → flat_values m limit ss ≡ None
values_none m limit ss e = by_each m limit ss ∙ ap (λ o. values_of (when_upto limit o)) e

abbrev counted : Option (List ValType) → ℕ
counted None = 2147483647
counted (Some vs) = length vs

-- It is how many flat values they have, of which the bytes of their tuple are no limit.
pub results_counted : (s : Side) (m : Bool) → s.async_side ≡ false → is_wide s.memory ≡ m → AllByRecursion IsValid s.results
    → results_number s ≡ counted (flat_values m (tuple_size false s.results) s.results)
results_counted s m sync wide valid =
    ap (λ b. by_mark b s.results) sync ∙ go (flat_each (width (is_wide s.memory)) s.results) refl ∙ ap (λ b. counted (flat_values b (tuple_size false s.results) s.results)) wide
  where
    flats : Option (List FlatType) → ℕ
    flats None = 2147483647
    flats (Some ts) = length ts

    by_mark : Bool → List Shape → ℕ
    by_mark false ts = flats (flat_each (width_of_side (options_of s)) ts)
    by_mark true [] = 0xFFFF_FFFF
    by_mark true (t ∷ ts) = 0xFFFF_FFFE

    go : (o : Option (List FlatType)) → flat_each (width (is_wide s.memory)) s.results ≡ o → flats (flat_each (width (is_wide s.memory)) s.results) ≡ counted (flat_values (is_wide s.memory) (tuple_size false s.results) s.results)
    go None e = ap flats e ∙ sym (ap counted (values_none (is_wide s.memory) (tuple_size false s.results) s.results e))
    go (Some xs) e =
        let are = each_are (width (is_wide s.memory)) 0 s.results xs e in
        let few : length xs ≤ tuple_size false s.results = subst (λ (ys : List FlatType). length ys ≤ tuple_size false s.results) (sym are) (tuple_within (width (is_wide s.memory)) s.results valid) in
        ap flats e ∙ sym (length-map xs value_type) ∙ sym (ap counted (values_some (is_wide s.memory) (tuple_size false s.results) s.results xs e few))
