-- The layouts of compound types are sound where those of their members are.
use Rattle.std.proofs.Common.{◌≡◌, ℕ, zero, suc, ◌+◌, ◌*◌, ◌%◌, ◌<◌, ◌≤◌, max, List, [], ◌∷◌, length, get_or, replicate, Option, Some, None, Bool, true, false, refl, arith, ap, sym, ◌∙◌, subst, inl, inr, All}
use Rattle.std.specs.Prelude.{IfSome, nat_le, ◌==◌, if◌then◌else◌}
use Rattle.std.specs.Int.{IsPowerOfTwo, div_ceil}
use Rattle.std.proofs.lemmas.Bool.{cases_lt}
use Rattle.std.proofs.lemmas.Nat.{mul-mod_first}
use Rattle.std.proofs.Math.Nat.{mul-mod_left, mul-pos, mod_self}
use Rattle.std.proofs.lemmas.Bool.{ne_eqb}
use Rattle.std.proofs.lemmas.Grind.{div_ceil_times}
use Rattle.fact_types.specs.declared.abi.CanonicalAbiInfo.{CanonicalAbiInfo}
use Rattle.fact_types.specs.declared.sizes.DiscriminantSize.{DiscriminantSize}
use Rattle.fact_types.specs.declared.sizes.DiscriminantSize.TheVariants.{Size1 as one_byte, Size2 as two_bytes, Size4 as four_bytes}
use Rattle.fact_types.specs.declared.sizes.FlagsSize.{FlagsSize}
use Rattle.fact_types.specs.declared.sizes.FlagsSize.TheVariants.{Size0, Size1, Size2, Size4Plus}
use Rattle.fact_types.specs.declared.extents.Extent.{Extent}
use Rattle.fact_types.specs.declared.extents.MemoryWidth.{MemoryWidth}
use Rattle.fact_types.specs.declared.extents.MemoryWidth.TheVariants.{Memory32, Memory64}
use Rattle.fact_types.specs.Layout.{extent, extents, aligned, greatest_align, greatest_size, end_of_fields, record_extent, record_layout, payloads, payload_offset, discriminant_size, discriminant_bytes, variant_extent, variant_layout, enum_layout, fixed_list_extent, fixed_list_layout, flags_size, flags_extent, flags_layout, zero_layout, scalar_layout, pointer_pair_layout}
use Rattle.fact_types.specs.Sound.{IsSoundExtent, IsSoundLayout, TakesBytes}
use Rattle.fact_types.proofs.AlignLaws.{aligned_bounds, aligned_multiple}
use Rattle.fact_types.proofs.FieldLaws.{greatest_align_pos, end_grows}

-- the greater of two powers of two is one
max_power : (a b : ℕ) → IsPowerOfTwo a → IsPowerOfTwo b → IsPowerOfTwo (max a b)
max_power a b p q =
    elim (cases_lt a b) [
      | inl h ↦ let e : max a b ≡ b = omega arith in subst IsPowerOfTwo (sym e) q
      | inr h ↦ let e : max a b ≡ a = omega arith in subst IsPowerOfTwo (sym e) p
    ]

-- each of the layouts is aligned to a power of two in a width of memory
abbrev Powers : MemoryWidth → List CanonicalAbiInfo → Type 0
Powers w fs = All (λ f. IsPowerOfTwo (extent w f).align) fs

pub greatest_align_power : (w : MemoryWidth) (fs : List CanonicalAbiInfo) → All (λ f. IsPowerOfTwo (extent w f).align) fs → IsPowerOfTwo (greatest_align (extents w fs))
greatest_align_power w [] a = (0, refl)
greatest_align_power w (f ∷ fs) a =
    max_power (extent w f).align (greatest_align (extents w fs)) (a 0 f (omega arith)) (greatest_align_power w fs (λ k d h. a (suc k) d (omega (arith, h))))

pub record_extent_sound : (w : MemoryWidth) (fs : List CanonicalAbiInfo) → All (λ f. IsPowerOfTwo (extent w f).align) fs → IsSoundExtent (record_extent (extents w fs))
record_extent_sound w fs a = record {
  power = greatest_align_power w fs a;
  divides = aligned_multiple (end_of_fields 0 (extents w fs)) (greatest_align (extents w fs));
}

pub discriminant_power : (s : DiscriminantSize) → IsPowerOfTwo (discriminant_bytes s)
discriminant_power one_byte = (0, refl)
discriminant_power two_bytes = (1, refl)
discriminant_power four_bytes = (2, refl)

pub variant_extent_sound : (w : MemoryWidth) (s : DiscriminantSize) (ps : List CanonicalAbiInfo) → All (λ f. IsPowerOfTwo (extent w f).align) ps → IsSoundExtent (variant_extent (discriminant_bytes s) (extents w ps))
variant_extent_sound w s ps a = record {
  power = max_power _ _ (discriminant_power s) (greatest_align_power w ps a);
  divides = aligned_multiple (payload_offset (discriminant_bytes s) (extents w ps) + greatest_size (extents w ps)) (max (discriminant_bytes s) (greatest_align (extents w ps)));
}

-- what holds of each payload where it holds of each case that has one
pub payloads_all : (P : CanonicalAbiInfo → Type 0) (cs : List (Option CanonicalAbiInfo)) → All (λ c. IfSome c P) cs → All P (payloads cs)
payloads_all P [] a k d h = absurd (omega (arith, h))
payloads_all P (None ∷ cs) a k d h = payloads_all P cs (λ k d h. a (suc k) d (omega (arith, h))) k d h
payloads_all P (Some p ∷ cs) a zero d h = a 0 None (omega arith)
payloads_all P (Some p ∷ cs) a (suc k) d h = payloads_all P cs (λ k d h. a (suc k) d (omega (arith, h))) k d (omega (arith, h))

powers_of : (w : MemoryWidth) (c : CanonicalAbiInfo) → IsSoundLayout c → IsPowerOfTwo (extent w c).align
powers_of Memory32 c s = s.memory32.power
powers_of Memory64 c s = s.memory64.power

all_powers : (w : MemoryWidth) (fs : List CanonicalAbiInfo) → All IsSoundLayout fs → All (λ f. IsPowerOfTwo (extent w f).align) fs
all_powers w fs a k d h = powers_of w (get_or fs k d) (a k d h)

pub record_sound : (fs : List CanonicalAbiInfo) → All IsSoundLayout fs → IsSoundLayout (record_layout fs)
record_sound fs a = record {
  memory32 = record_extent_sound Memory32 fs (all_powers Memory32 fs a);
  memory64 = record_extent_sound Memory64 fs (all_powers Memory64 fs a);
}

pub variant_sound : (cs : List (Option CanonicalAbiInfo)) → All (λ c. IfSome c IsSoundLayout) cs → IsSoundLayout (variant_layout cs)
variant_sound cs a =
    let each = payloads_all IsSoundLayout cs a in
    record {
      memory32 = variant_extent_sound Memory32 (discriminant_size (length cs)) (payloads cs) (all_powers Memory32 (payloads cs) each);
      memory64 = variant_extent_sound Memory64 (discriminant_size (length cs)) (payloads cs) (all_powers Memory64 (payloads cs) each);
    }

no_payload : (n : ℕ) → All (λ c. IfSome c IsSoundLayout) (replicate n None)
no_payload zero k d h = absurd (omega (arith, h))
no_payload (suc n) zero d h = tt
no_payload (suc n) (suc k) d h = no_payload n k d (omega (arith, h))

pub enum_sound : (n : ℕ) → IsSoundLayout (enum_layout n)
enum_sound n = variant_sound (replicate n None) (no_payload n)

-- a multiple of a multiple
times_divides : (s a n : ℕ) → s % a ≡ 0 → s * n % a ≡ 0
times_divides s a n h =
    let none : 0 * n ≡ 0 * a = omega arith in
    sym (mul-mod_first s n a) ∙ ap (λ (x : ℕ). x * n % a) h ∙ ap (λ (x : ℕ). x % a) none ∙ mul-mod_left 0 a

fixed_list_extent_sound : (e : Extent) (n : ℕ) → IsSoundExtent e → IsSoundExtent (fixed_list_extent e n)
fixed_list_extent_sound e n s = record { power = s.power; divides = times_divides e.size e.align n s.divides }

pub fixed_list_sound : (c : CanonicalAbiInfo) (n : ℕ) → IsSoundLayout c → IsSoundLayout (fixed_list_layout c n)
fixed_list_sound c n s = record {
  memory32 = fixed_list_extent_sound (extent Memory32 c) n s.memory32;
  memory64 = fixed_list_extent_sound (extent Memory64 c) n s.memory64;
}

flags_extent_sound : (s : FlagsSize) → IsSoundExtent (flags_extent s)
flags_extent_sound Size0 = record { power = (0, refl); divides = refl }
flags_extent_sound Size1 = record { power = (0, refl); divides = refl }
flags_extent_sound Size2 = record { power = (1, refl); divides = refl }
flags_extent_sound (Size4Plus words) = record { power = (2, refl); divides = mul-mod_left words 4 }

pub flags_sound : (n : ℕ) → IsSoundLayout (flags_layout n)
flags_sound n = record { memory32 = flags_extent_sound (flags_size n); memory64 = flags_extent_sound (flags_size n) }

pub zero_sound : IsSoundLayout zero_layout
zero_sound = let e : IsSoundExtent (extent Memory32 zero_layout) = record { power = (0, refl); divides = refl } in record { memory32 = e; memory64 = e }

pub pointer_pair_sound : IsSoundLayout pointer_pair_layout
pointer_pair_sound = record { memory32 = record { power = (2, refl); divides = refl }; memory64 = record { power = (3, refl); divides = refl } }

pub scalar_sound : (n : ℕ) → IsPowerOfTwo n → IsSoundLayout (scalar_layout n)
scalar_sound n p =
    let e : IsSoundExtent (extent Memory32 (scalar_layout n)) = record { power = p; divides = mod_self n } in record { memory32 = e; memory64 = e }

-- fields end behind the bytes that each of them takes
end_covers : (w : MemoryWidth) (fs : List CanonicalAbiInfo) (n i : ℕ) (d : CanonicalAbiInfo) → All (λ f. IsPowerOfTwo (extent w f).align) fs → i < length fs
    → (extent w (get_or fs i d)).size ≤ end_of_fields n (extents w fs)
end_covers w [] n i d a h = absurd (omega (arith, h))
end_covers w (f ∷ fs) n zero d a h = omega (arith, end_grows w fs (aligned n (extent w f).align + (extent w f).size) (λ k d h. a (suc k) d (omega (arith, h))))
end_covers w (f ∷ fs) n (suc i) d a h = end_covers w fs (aligned n (extent w f).align + (extent w f).size) i d (λ k d h. a (suc k) d (omega (arith, h))) (omega (arith, h))

record_covers : (w : MemoryWidth) (fs : List CanonicalAbiInfo) (i : ℕ) (d : CanonicalAbiInfo) → All IsSoundLayout fs → i < length fs → (extent w (get_or fs i d)).size ≤ (record_extent (extents w fs)).size
record_covers w fs i d a h =
    omega (arith, end_covers w fs 0 i d (all_powers w fs a) h, (aligned_bounds (end_of_fields 0 (extents w fs)) (greatest_align (extents w fs)) (greatest_align_pos (extents w fs))).0)

-- a record with a field that takes bytes takes bytes
pub record_takes_bytes : (fs : List CanonicalAbiInfo) (i : ℕ) (d : CanonicalAbiInfo) → All IsSoundLayout fs → i < length fs → TakesBytes (get_or fs i d) → TakesBytes (record_layout fs)
record_takes_bytes fs i d a h t = record {
  memory32 = omega (arith, record_covers Memory32 fs i d a h, t.memory32);
  memory64 = omega (arith, record_covers Memory64 fs i d a h, t.memory64);
}

discriminant_pos : (s : DiscriminantSize) → 1 ≤ discriminant_bytes s
discriminant_pos one_byte = omega arith
discriminant_pos two_bytes = omega arith
discriminant_pos four_bytes = omega arith

variant_covers : (d : ℕ) (es : List Extent) → d ≤ (variant_extent d es).size
variant_covers d es =
    let place = (aligned_bounds d (greatest_align es) (greatest_align_pos es)).0 in
    let end = (aligned_bounds (payload_offset d es + greatest_size es) (max d (greatest_align es)) (omega (arith, greatest_align_pos es))).0 in
    omega (arith, place, end)

-- a variant takes at least the bytes of its discriminant
pub variant_takes_bytes : (cs : List (Option CanonicalAbiInfo)) → TakesBytes (variant_layout cs)
variant_takes_bytes cs =
    let s = discriminant_size (length cs) in
    record {
      memory32 = omega (arith, discriminant_pos s, variant_covers (discriminant_bytes s) (extents Memory32 (payloads cs)));
      memory64 = omega (arith, discriminant_pos s, variant_covers (discriminant_bytes s) (extents Memory64 (payloads cs)));
    }

pub enum_takes_bytes : (n : ℕ) → TakesBytes (enum_layout n)
enum_takes_bytes n = variant_takes_bytes (replicate n None)

pub fixed_list_takes_bytes : (c : CanonicalAbiInfo) (n : ℕ) → 1 ≤ n → TakesBytes c → TakesBytes (fixed_list_layout c n)
fixed_list_takes_bytes c n h t = record {
  memory32 = omega (arith, mul-pos {m = c.size32} {n = n} (omega (arith, t.memory32)) (omega (arith, h)));
  memory64 = omega (arith, mul-pos {m = c.size64} {n = n} (omega (arith, t.memory64)) (omega (arith, h)));
}

some_flags : (none few some : Bool) (words : ℕ) → none ≡ false → 1 ≤ words → 1 ≤ (flags_extent (if none then Size0 else (if few then Size1 else (if some then Size2 else Size4Plus words)))).size
some_flags true few some words e h = absurd (cc)
some_flags false true some words e h = omega arith
some_flags false false true words e h = omega arith
some_flags false false false words e h = omega arith

flags_cover : (n : ℕ) → 1 ≤ n → 1 ≤ (flags_extent (flags_size n)).size
flags_cover n h = some_flags (n == 0) (nat_le n 8) (nat_le n 16) (div_ceil n 32) (ne_eqb n 0 (λ e. omega (arith, e, h))) (omega (arith, (div_ceil_times n 32 (omega arith)).0, h))

pub flags_take_bytes : (n : ℕ) → 1 ≤ n → TakesBytes (flags_layout n)
flags_take_bytes n h = record { memory32 = flags_cover n h; memory64 = flags_cover n h }

pub scalar_takes_bytes : (n : ℕ) → 1 ≤ n → TakesBytes (scalar_layout n)
scalar_takes_bytes n h = record { memory32 = h; memory64 = h }
