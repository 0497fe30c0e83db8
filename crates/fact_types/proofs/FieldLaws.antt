-- Fields that stand one after another, in a width of memory.
use Rattle.std.proofs.Common.{◌≡◌, ℕ, suc, ◌+◌, ◌<◌, ◌≤◌, ◌↔◌, max, List, [], ◌∷◌, length, drop, get_or, None, refl, arith, ap, sym, ◌∙◌, subst, All}
use Rattle.std.specs.Int.{IsPowerOfTwo}
use Rattle.std.proofs.lemmas.List.{at_drop_more, at_drop_all}
use Rattle.std.proofs.lemmas.List.Elements.{All-drop, All-from_get_or}
use Rattle.fact_types.specs.declared.abi.CanonicalAbiInfo.{CanonicalAbiInfo}
use Rattle.fact_types.specs.declared.extents.Extent.{Extent}
use Rattle.fact_types.specs.declared.extents.MemoryWidth.{MemoryWidth}
use Rattle.fact_types.specs.Layout.{extent, extents, aligned, end_of_fields, greatest_align, record_extent}
use Rattle.fact_types.specs.Fits.{FieldFits, FieldsFit}
use Rattle.fact_types.proofs.AlignLaws.{aligned_bounds, power_pos}

-- fields end no earlier than the place that they stand behind
pub end_grows : (w : MemoryWidth) (fs : List CanonicalAbiInfo) (n : ℕ) → All (λ f. IsPowerOfTwo (extent w f).align) fs → n ≤ end_of_fields n (extents w fs)
end_grows w [] n p = omega arith
end_grows w (f ∷ fs) n p =
    let here = aligned_bounds n (extent w f).align (power_pos _ (p 0 f (omega arith))) in
    let rest = end_grows w fs (aligned n (extent w f).align + (extent w f).size) (λ k d h. p (suc k) d (omega (arith, h))) in
    omega (arith, here.0, rest)

pub greatest_align_pos : (es : List Extent) → 0 < greatest_align es
greatest_align_pos [] = omega arith
greatest_align_pos (e ∷ es) = omega (arith, greatest_align_pos es)

-- where a walk over the fields stands in front of one of them: the fields behind it give what all of them give
pub record Walk (w : MemoryWidth) (fs : List CanonicalAbiInfo) (i end align : ℕ) : Type 0 where
  pub ends : end_of_fields end (extents w (drop i fs)) ≡ end_of_fields 0 (extents w fs)
  pub aligns : max align (greatest_align (extents w (drop i fs))) ≡ greatest_align (extents w fs)
  pub positive : 0 < align

pub walk_start : (w : MemoryWidth) (fs : List CanonicalAbiInfo) → Walk w fs 0 0 1
walk_start w fs = record { ends = refl; aligns = omega (arith, greatest_align_pos (extents w fs)); positive = omega arith }

-- the fields from a place on end where those behind the next one do
ends_behind : (w : MemoryWidth) (fs : List CanonicalAbiInfo) (i : ℕ) (d : CanonicalAbiInfo) (n : ℕ) → i < length fs
    → end_of_fields n (extents w (drop i fs)) ≡ end_of_fields (aligned n (extent w (get_or fs i d)).align + (extent w (get_or fs i d)).size) (extents w (drop (i + 1) fs))
ends_behind w fs i d n h = at_drop_more (λ (xs : List CanonicalAbiInfo). end_of_fields n (extents w xs)) fs i d h

aligns_behind : (w : MemoryWidth) (fs : List CanonicalAbiInfo) (i : ℕ) (d : CanonicalAbiInfo) → i < length fs
    → greatest_align (extents w (drop i fs)) ≡ max (extent w (get_or fs i d)).align (greatest_align (extents w (drop (i + 1) fs)))
aligns_behind w fs i d h = at_drop_more (λ (xs : List CanonicalAbiInfo). greatest_align (extents w xs)) fs i d h

step : (w : MemoryWidth) (fs : List CanonicalAbiInfo) (i : ℕ) (d : CanonicalAbiInfo) (end align : ℕ) → i < length fs → Walk w fs i end align
    → Walk w fs (i + 1) (aligned end (extent w (get_or fs i d)).align + (extent w (get_or fs i d)).size) (max align (extent w (get_or fs i d)).align)
step w fs i d end align h k = record {
  ends = sym (ends_behind w fs i d end h) ∙ k.ends;
  aligns = omega (arith, aligns_behind w fs i d h, k.aligns);
  positive = omega (arith, k.positive);
}

pub walk_on : (w : MemoryWidth) (fs : List CanonicalAbiInfo) (i : ℕ) (d : CanonicalAbiInfo) (end align : ℕ) (e : Extent) (end' align' : ℕ) → i < length fs → Walk w fs i end align
    → e ≡ extent w (get_or fs i d) → end' ≡ aligned end e.align + e.size → align' ≡ max align e.align → Walk w fs (i + 1) end' align'
walk_on w fs i d end align e end' align' h k is moved greater =
    let ends : aligned end (extent w (get_or fs i d)).align + (extent w (get_or fs i d)).size ≡ end' = sym (moved ∙ ap (λ (x : Extent). aligned end x.align + x.size) is) in
    let aligns : max align (extent w (get_or fs i d)).align ≡ align' = sym (greater ∙ ap (λ (x : Extent). max align x.align) is) in
    subst (λ (x : ℕ). Walk w fs (i + 1) x align') ends (subst (λ (x : ℕ). Walk w fs (i + 1) (aligned end (extent w (get_or fs i d)).align + (extent w (get_or fs i d)).size) x) aligns (step w fs i d end align h k))

-- a field of a record that fits ends within bounds
pub walk_fits : (w : MemoryWidth) (fs : List CanonicalAbiInfo) (i : ℕ) (d : CanonicalAbiInfo) (end align : ℕ) → i < length fs → Walk w fs i end align → FieldsFit w fs → FieldFits (extent w (get_or fs i d)) end
walk_fits w fs i d end align h k fit =
    let rest = end_grows w (drop (i + 1) fs) (aligned end (extent w (get_or fs i d)).align + (extent w (get_or fs i d)).size) (All-drop (λ f. IsPowerOfTwo (extent w f).align) (i + 1) fs fit.powers) in
    let whole = aligned_bounds (end_of_fields 0 (extents w fs)) (greatest_align (extents w fs)) (greatest_align_pos (extents w fs)) in
    record { power = fit.powers i d h; within = omega (arith, rest, ends_behind w fs i d end h, k.ends, whole.0, fit.within) }

-- behind the last field the walk has what a record takes
pub walk_end : (w : MemoryWidth) (fs : List CanonicalAbiInfo) (i end align : ℕ) → length fs ≤ i → Walk w fs i end align → (end ≡ end_of_fields 0 (extents w fs)) × (align ≡ greatest_align (extents w fs))
walk_end w fs i end align h k =
    let last = at_drop_all (λ (xs : List CanonicalAbiInfo). greatest_align (extents w xs)) fs i h in (
      sym (at_drop_all (λ (xs : List CanonicalAbiInfo). end_of_fields end (extents w xs)) fs i h) ∙ k.ends,
      omega (arith, last, k.aligns, k.positive),
    )

-- what stands past the end of a list
abbrev pub blank_abi : CanonicalAbiInfo
blank_abi = record { size32 = 0; align32 = 0; size64 = 0; align64 = 0; flat_count = None }

pub record_told : (w : MemoryWidth) (fs : List CanonicalAbiInfo) (i end align : ℕ) → length fs ≤ i → Walk w fs i end align → aligned end align ≡ (record_extent (extents w fs)).size
record_told w fs i end align h k = let e = walk_end w fs i end align h k in ap (λ (x : ℕ). aligned x align) e.0 ∙ ap (aligned (end_of_fields 0 (extents w fs))) e.1

-- behind the last field, with each alignment tested, the whole fits exactly where the size does
pub fields_told : (w : MemoryWidth) (fs : List CanonicalAbiInfo) (i end align : ℕ) → length fs ≤ i → Walk w fs i end align → ((k : ℕ) → k < i → IsPowerOfTwo (extent w (get_or fs k blank_abi)).align)
    → (aligned end align ≤ 4294967295 ↔ FieldsFit w fs)
fields_told w fs i end align h k each =
    let size = record_told w fs i end align h k in (
      λ fit. record { powers = All-from_get_or (λ f. IsPowerOfTwo (extent w f).align) fs blank_abi (λ j l. each j (omega (arith, l, h))); within = omega (arith, fit, size) },
      λ fit. omega (arith, fit.within, size),
    )
