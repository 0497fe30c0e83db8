-- Laws of the calls that make a type of its members: the test of a layout decides whether the type fits.
use Rattle.std.proofs.Common.{◌≡◌, ◌<◌, ◌≤◌, ◌+◌, ℕ, zero, suc, List, [], ◌∷◌, length, Option, Some, None, Bool, true, false, if◌then◌else◌, refl, sym, ◌∙◌, ap, subst, arith, inl, inr, lit≤, All, max, replicate, mod-eq_of_lt}
use Rattle.std.specs.Prelude.{map, option_map, IfSome, nat_le, ◌==◌, IsTrue, ◌↔◌}
use Rattle.std.proofs.lemmas.Bool.{true≢false, cases_lt}
use Rattle.std.proofs.lemmas.Grind.{div_ceil_times}
use Rattle.std.proofs.lemmas.List.{length-replicate}
use Rattle.std.specs.Int.{IsPowerOfTwo, div_ceil}
use Rattle.fact_types.specs.declared.abi.CanonicalAbiInfo.{CanonicalAbiInfo}
use Rattle.fact_types.specs.declared.interface.InterfaceType.{InterfaceType}
use Rattle.fact_types.specs.declared.sizes.DiscriminantSize.{DiscriminantSize}
use Rattle.fact_types.specs.declared.sizes.DiscriminantSize.TheVariants.{Size1 as one_byte, Size2 as two_bytes, Size4 as four_bytes}
use Rattle.fact_types.specs.declared.sizes.FlagsSize.TheVariants.{Size0, Size1, Size2, Size4Plus}
use Rattle.fact_types.specs.declared.variants.VariantInfo.{VariantInfo}
use Rattle.fact_types.specs.declared.extents.MemoryWidth.{MemoryWidth}
use Rattle.fact_types.specs.declared.extents.MemoryWidth.TheVariants.{Memory32, Memory64}
use Rattle.fact_types.specs.Fits.{FieldFits, FieldsFit, RecordFits, CasesFit, VariantFits, ElementsFit}
use Rattle.fact_types.specs.Layout.{extent, extents, aligned, payloads, payload_offset, variant_info, record_layout, variant_layout, discriminant_size, discriminant_bytes, enum_layout, flags_extent, flags_layout}
use Rattle.fact_types.specs.Shapes.{Kind, k_record, k_variant, k_list, k_tuple, k_map, k_flags, k_enum, k_option, k_result, k_fixed, k_future, k_stream, Members, layout_by, layouts_of, repeated_layout, IsWithin}
use Rattle.fact_types.specs.Sound.{IsSoundLayout}
use Rattle.fact_types.specs.Tables.{Tables, IsLiveMember, HasMembers, IsSound, abi_at}
use Rattle.fact_types.proofs.AlignLaws.{aligned_bounds, aligned_multiple, power_pos}
use Rattle.fact_types.proofs.FieldLaws.{walk_start, walk_on, walk_fits}
use Rattle.fact_types.proofs.PayloadLaws.{enum_is_scalar}
use Rattle.fact_types.proofs.ShapeLaws.{more, none_some, layouts_are}
use Rattle.fact_types.proofs.ShapeSound.{layouts_sound}
use Rattle.fact_types.proofs.SoundLaws.{payloads_all}
use Rattle.fact_builder.specs.Makes.{FitsBytes}

-- ---- the tests of layouts

-- a list of one type of elements fits
abbrev pub ElementsFitBoth : ℕ → List CanonicalAbiInfo → Type 0
ElementsFitBoth n [] = Unit {0}
ElementsFitBoth n (c ∷ cs) = ElementsFit (extent Memory32 c) n × ElementsFit (extent Memory64 c) n

-- what the test of a kind says of the layouts of the members
abbrev pub PassesTest : Kind → List (Option CanonicalAbiInfo) → Type 0
PassesTest k_record ls = RecordFits (payloads ls)
PassesTest k_variant ls = VariantFits ls
PassesTest k_list ls = Unit {0}
PassesTest k_tuple ls = RecordFits (payloads ls)
PassesTest k_map ls = RecordFits (payloads ls)
PassesTest k_flags ls = length ls ≤ 8160
PassesTest k_enum ls = length ls ≤ 4294967295
PassesTest k_option ls = CasesFit Memory32 ls × CasesFit Memory64 ls
PassesTest k_result ls = CasesFit Memory32 ls × CasesFit Memory64 ls
PassesTest (k_fixed n) ls = ElementsFitBoth n (payloads ls)
PassesTest (k_future table instance) ls = Unit {0}
PassesTest (k_stream table instance) ls = Unit {0}

record_within : (fs : List CanonicalAbiInfo) → RecordFits fs → IsWithin (record_layout fs)
record_within fs f = record { memory32 = f.memory32.within; memory64 = f.memory64.within }

cases_within : (ls : List (Option CanonicalAbiInfo)) → CasesFit Memory32 ls → CasesFit Memory64 ls → IsWithin (variant_layout ls)
cases_within ls f g = record { memory32 = f.within; memory64 = g.within }

elements_within : (n : ℕ) (cs : List CanonicalAbiInfo) → ElementsFitBoth n cs → IsWithin (repeated_layout n cs)
elements_within n [] f = record { memory32 = lit≤ tt; memory64 = lit≤ tt }
elements_within n (c ∷ cs) f = record { memory32 = f.0.within; memory64 = f.1.within }

pointers_within : (ls : List (Option CanonicalAbiInfo)) → IsWithin (layout_by k_list ls)
pointers_within ls = record { memory32 = lit≤ tt; memory64 = lit≤ tt }

discriminant_within : (s : DiscriminantSize) → discriminant_bytes s ≤ 4294967295
discriminant_within one_byte = lit≤ tt
discriminant_within two_bytes = lit≤ tt
discriminant_within four_bytes = lit≤ tt

enum_within : (n : ℕ) → IsWithin (enum_layout n)
enum_within n =
    subst IsWithin (sym (enum_is_scalar n)) (record { memory32 = discriminant_within (discriminant_size n); memory64 = discriminant_within (discriminant_size n) })

few_words : (none few some : Bool) (words : ℕ) → words ≤ 255 → (flags_extent (if none then Size0 else (if few then Size1 else (if some then Size2 else Size4Plus words)))).size ≤ 4294967295
few_words true few some words h = omega arith
few_words false true some words h = omega arith
few_words false false true words h = omega arith
few_words false false false words h = omega (arith, h)

flags_within : (n : ℕ) → n ≤ 8160 → IsWithin (flags_layout n)
flags_within n h =
    let e = few_words (n == 0) (nat_le n 8) (nat_le n 16) (div_ceil n 32) (omega (arith, (div_ceil_times n 32 (omega arith)).1, h)) in
    record { memory32 = e; memory64 = e }

passes_fits : (k : Kind) (ms : Members) → PassesTest k (layouts_of ms) → FitsBytes k ms
passes_fits k_record ms f = record { within = record_within _ f; entry_within = tt; few = tt }
passes_fits k_variant ms f = record { within = cases_within _ f.memory32 f.memory64; entry_within = tt; few = f.cases }
passes_fits k_list ms f = record { within = pointers_within []; entry_within = tt; few = tt }
passes_fits k_tuple ms f = record { within = record_within _ f; entry_within = tt; few = tt }
passes_fits k_map ms f = record { within = pointers_within []; entry_within = record_within _ f; few = tt }
passes_fits k_flags ms f = record { within = flags_within _ f; entry_within = tt; few = f }
passes_fits k_enum ms f = record { within = enum_within (length (layouts_of ms)); entry_within = tt; few = f }
passes_fits k_option ms f = record { within = cases_within _ f.0 f.1; entry_within = tt; few = tt }
passes_fits k_result ms f = record { within = cases_within _ f.0 f.1; entry_within = tt; few = tt }
passes_fits (k_fixed n) ms f = record { within = elements_within n (payloads (layouts_of ms)) f; entry_within = tt; few = tt }
passes_fits (k_future table instance) ms f = record { within = record { memory32 = lit≤ tt; memory64 = lit≤ tt }; entry_within = tt; few = tt }
passes_fits (k_stream table instance) ms f = record { within = record { memory32 = lit≤ tt; memory64 = lit≤ tt }; entry_within = tt; few = tt }

-- what a test says that failed, or that passed
pub failed : {P : Type 0} → (IsTrue false ↔ P) → P → ⊥
failed e p = true≢false (sym (e.1 p))

pub passed : {P : Type 0} → (IsTrue true ↔ P) → P
passed e = e.0 refl

-- ---- layouts of shapes are aligned to powers of two
power_in : (w : MemoryWidth) (c : CanonicalAbiInfo) → IsSoundLayout c → IsPowerOfTwo (extent w c).align
power_in Memory32 c s = s.memory32.power
power_in Memory64 c s = s.memory64.power

power_case : (w : MemoryWidth) (o : Option CanonicalAbiInfo) → IfSome o IsSoundLayout → IfSome o (λ p. IsPowerOfTwo (extent w p).align)
power_case w None s = tt
power_case w (Some c) s = power_in w c s

cases_powers : (w : MemoryWidth) (ls : List (Option CanonicalAbiInfo)) → All (λ l. IfSome l IsSoundLayout) ls → All (λ c. IfSome c (λ p. IsPowerOfTwo (extent w p).align)) ls
cases_powers w [] a i d h = absurd (omega (arith, h))
cases_powers w (l ∷ ls) a zero d h = power_case w l (a 0 l (omega arith))
cases_powers w (l ∷ ls) a (suc i) d h = cases_powers w ls (λ i d h. a (suc i) d (omega (arith, h))) i d (omega (arith, h))

fields_powers : (w : MemoryWidth) (ls : List (Option CanonicalAbiInfo)) → All (λ l. IfSome l IsSoundLayout) ls → All (λ f. IsPowerOfTwo (extent w f).align) (payloads ls)
fields_powers w ls a = payloads_all (λ f. IsPowerOfTwo (extent w f).align) ls (cases_powers w ls a)

record_fits : (ls : List (Option CanonicalAbiInfo)) → All (λ l. IfSome l IsSoundLayout) ls → IsWithin (record_layout (payloads ls)) → RecordFits (payloads ls)
record_fits ls a f = record {
  memory32 = record { powers = fields_powers Memory32 ls a; within = f.memory32 };
  memory64 = record { powers = fields_powers Memory64 ls a; within = f.memory64 };
}

cases_fit : (ls : List (Option CanonicalAbiInfo)) → All (λ l. IfSome l IsSoundLayout) ls → IsWithin (variant_layout ls) → CasesFit Memory32 ls × CasesFit Memory64 ls
cases_fit ls a f =
    (record { powers = cases_powers Memory32 ls a; within = f.memory32 }, record { powers = cases_powers Memory64 ls a; within = f.memory64 })

pub variant_fits : (ls : List (Option CanonicalAbiInfo)) → CasesFit Memory32 ls × CasesFit Memory64 ls → length ls ≤ 4294967295 → VariantFits ls
variant_fits ls f n = record { cases = n; memory32 = f.0; memory64 = f.1 }

elements_fit : (n : ℕ) (cs : List CanonicalAbiInfo) → All IsSoundLayout cs → IsWithin (repeated_layout n cs) → ElementsFitBoth n cs
elements_fit n [] a f = tt
elements_fit n (c ∷ cs) a f =
    let s = a 0 c (omega arith) in
    (record { power = s.memory32.power; within = f.memory32 }, record { power = s.memory64.power; within = f.memory64 })

fits_passes : (k : Kind) (ms : Members) → FitsBytes k ms → PassesTest k (layouts_of ms)
fits_passes k_record ms f = record_fits (layouts_of ms) (layouts_sound ms) f.within
fits_passes k_variant ms f = variant_fits (layouts_of ms) (cases_fit (layouts_of ms) (layouts_sound ms) f.within) f.few
fits_passes k_list ms f = tt
fits_passes k_tuple ms f = record_fits (layouts_of ms) (layouts_sound ms) f.within
fits_passes k_map ms f = record_fits (layouts_of ms) (layouts_sound ms) f.entry_within
fits_passes k_flags ms f = f.few
fits_passes k_enum ms f = f.few
fits_passes k_option ms f = cases_fit (layouts_of ms) (layouts_sound ms) f.within
fits_passes k_result ms f = cases_fit (layouts_of ms) (layouts_sound ms) f.within
fits_passes (k_fixed n) ms f = elements_fit n (payloads (layouts_of ms)) (payloads_all IsSoundLayout (layouts_of ms) (layouts_sound ms)) f.within
fits_passes (k_future table instance) ms f = tt
fits_passes (k_stream table instance) ms f = tt

-- ---- the value of an entry of a map, behind the key
zero_aligned : (a : ℕ) → 0 < a → aligned 0 a ≡ 0
zero_aligned a p = sym (mod-eq_of_lt (omega (arith, (aligned_bounds 0 a p).1))) ∙ aligned_multiple 0 a

second_in : (w : MemoryWidth) (a b : CanonicalAbiInfo) → FieldsFit w (a ∷ b ∷ []) → FieldFits (extent w b) (extent w a).size
second_in w a b f =
    let z = zero_aligned (extent w a).align (power_pos _ (f.powers 0 a (omega arith))) in
    let moved : (extent w a).size ≡ aligned 0 (extent w a).align + (extent w a).size = omega (arith, z) in
    walk_fits w (a ∷ b ∷ []) 1 b (extent w a).size (max 1 (extent w a).align) (omega arith) (walk_on w (a ∷ b ∷ []) 0 a 0 1 (extent w a) _ _ (omega arith) (walk_start w (a ∷ b ∷ [])) refl moved refl) f

pub second_fits : (a b : CanonicalAbiInfo) → RecordFits (a ∷ b ∷ []) → FieldFits (extent Memory32 b) a.size32 × FieldFits (extent Memory64 b) a.size64
second_fits a b f = (second_in Memory32 a b f.memory32, second_in Memory64 a b f.memory64)

-- ---- names without types
-- where the payload of an enum begins: behind its discriminant
discriminant_aligned : (s : DiscriminantSize) → aligned (discriminant_bytes s) 1 ≡ discriminant_bytes s
unfolding aligned
discriminant_aligned one_byte = refl
discriminant_aligned two_bytes = refl
discriminant_aligned four_bytes = refl

no_payloads : (n : ℕ) → payloads {A = CanonicalAbiInfo} (replicate n None) ≡ []
no_payloads zero = refl
no_payloads (suc n) = no_payloads n

abbrev info_by : ℕ → List CanonicalAbiInfo → VariantInfo
info_by n ps = record {
  size = discriminant_size n;
  payload_offset32 = payload_offset (discriminant_bytes (discriminant_size n)) (extents Memory32 ps);
  payload_offset64 = payload_offset (discriminant_bytes (discriminant_size n)) (extents Memory64 ps);
}

pub enum_info : (n : ℕ) (size : DiscriminantSize) (place32 place64 : ℕ) → size ≡ discriminant_size n → place32 ≡ discriminant_bytes size → place64 ≡ discriminant_bytes size
    → record { size = size; payload_offset32 = place32; payload_offset64 = place64 } ≡ variant_info (replicate n None)
enum_info n size place32 place64 e p q =
    let whole : variant_info (replicate n None) ≡ info_by n [] = ap (λ (k : ℕ). info_by k (payloads {A = CanonicalAbiInfo} (replicate n None))) (length-replicate n None) ∙ ap (info_by n) (no_payloads n) in
    let at : discriminant_bytes size ≡ aligned (discriminant_bytes (discriminant_size n)) 1 = sym (discriminant_aligned size) ∙ ap (λ (s : DiscriminantSize). aligned (discriminant_bytes s) 1) e in
    let here : record { size = size; payload_offset32 = place32; payload_offset64 = place64 } ≡ info_by n [] = λ i. record { size = e i; payload_offset32 = (p ∙ at) i; payload_offset64 = (q ∙ at) i } in
    here ∙ sym whole

-- ---- the layouts of members in the tables
abbrev pub laid : Tables → List (List ℕ × Option InterfaceType) → List (Option CanonicalAbiInfo)
laid t xs = map (λ m. option_map (abi_at t) m.1) xs

pub fits_where : (t : Tables) (k : Kind) (xs : List (List ℕ × Option InterfaceType)) → IsSound t → PassesTest k (laid t xs) → (ms : Members) → HasMembers t xs ms → FitsBytes k ms
fits_where t k xs s p ms h = passes_fits k ms (subst (PassesTest k) (layouts_are t s ms xs h) p)

pub passes_where : (t : Tables) (k : Kind) (xs : List (List ℕ × Option InterfaceType)) → IsSound t → (ms : Members) → HasMembers t xs ms → FitsBytes k ms → PassesTest k (laid t xs)
passes_where t k xs s ms h f = subst (PassesTest k) (sym (layouts_are t s ms xs h)) (fits_passes k ms f)

-- ---- lists of members
pub case_layouts : (t : Tables) (cs : List (List ℕ × Option InterfaceType)) → map (option_map (abi_at t)) (map (λ c. c.1) cs) ≡ laid t cs
case_layouts t [] = refl
case_layouts t (c ∷ cs) = more _ _ _ _ refl (case_layouts t cs)

pub payloads_live : (t : Tables) (cs : List (List ℕ × Option InterfaceType)) → All (λ (c : List ℕ × Option InterfaceType). IsLiveMember t c.1) cs → All (IsLiveMember t) (map (λ c. c.1) cs)
payloads_live t [] a i d h = absurd (omega (arith, h))
payloads_live t (c ∷ cs) a zero d h = a 0 c (omega arith)
payloads_live t (c ∷ cs) a (suc i) d h = payloads_live t cs (λ i d h. a (suc i) d (omega (arith, h))) i d (omega (arith, h))

-- where a number of cases has a size of discriminant, it is no more than there may be
pub few_of : {A : Type 0} (v : A) (n : ℕ) → (Some v ≡ None ↔ (4294967295 < n)) → n ≤ 4294967295
few_of v n e = elim (cases_lt 4294967295 n) [ inl h ↦ absurd (none_some (Some v) v (e.1 h) refl) | inr h ↦ h ]
