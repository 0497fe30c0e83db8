-- What is written at a destination is canonical: of the numbers that stand for one value it is the one that the canonical
-- ABI writes. A boolean is 0 or 1, a narrower integer in a core value is extended by its sign or by zeros, bits past the
-- last flag are 0, core values past the payload of a case are 0, and so is the upper half of a core value of 64 bits in
-- the place of one of 32 bits. Component Model, canonical ABI, "Storing" (`store`) and "Flat Lowering" (`lower_flat`).
use Rattle.std.specs.Prelude.{◌≡◌, ℕ, zero, suc, ◌+◌, ◌^◌, ◌<◌, nat_le, List, [], ◌∷◌, length, take, drop, replicate, Option, Some, None, if◌then◌else◌}
use Rattle.std.specs.List.{AllByRecursion}
use Rattle.fact_machine.specs.declared.types.CoreValue.{CoreValue}
use Rattle.fact_machine.specs.Numerics.{extend_s}
use Rattle.fact_types.specs.declared.flats.FlatType.{FlatType}
use Rattle.fact_types.specs.declared.flats.FlatType.TheVariants.{I32}
use Rattle.fact_types.specs.FlatShapes.{pointer, flat, flat_plain}
use Rattle.fact_types.specs.Layout.{flags_size, flags_flat}
use Rattle.fact_types.specs.Shapes.{Kind, k_record, k_variant, k_list, k_tuple, k_map, k_flags, k_enum, k_option, k_result, k_fixed, k_future, k_stream, Shape, s_plain, s_node, Members, no_members, bare, typed, place_of, next_of}
use Rattle.fact_values.specs.declared.side.SideAbi.{SideAbi}
use Rattle.fact_values.specs.Lift.{bits_of, number_as, numbers_as, one_number, leading_pair, element_count}
use Rattle.fact_values.specs.Numbers.{Plain, boolean, unsigned, signed, plain_of, number_in, number_of_words}
use Rattle.fact_values.specs.Places.{width_of, extent_on, count_of_members, case_bytes, payload_place, flags_bytes, element_extent, pair_at}

-- Something that is there, and a property of it.
abbrev pub ThereIs : {A : Type 0} → Option A → (A → Type 0) → Type 0
ThereIs None P = ⊥
ThereIs (Some a) P = P a

-- So many places, each so many bytes behind the one before.
abbrev pub EachAt : ℕ → ℕ → (ℕ → Type 0) → ℕ → Type 0
EachAt zero stride P a = Unit {0}
EachAt (suc n) stride P a = P a × EachAt n stride P (a + stride)

-- ---- in memory

abbrev pub IsCanonicalByte : Plain → ℕ → Type 0
IsCanonicalByte boolean n = n < 2
IsCanonicalByte _ n = Unit {0}

abbrev pub IsCanonicalVariant : SideAbi → List ℕ → Members → (ℕ → ℕ → Type 0) → ℕ → Type 0
IsCanonicalVariant side bytes ms Case a = ThereIs (number_in bytes (case_bytes ms) a) (λ x. Case x (a + payload_place side ms))

abbrev pub IsCanonicalNode : SideAbi → List ℕ → Kind → Members → (ℕ → Type 0) → (ℕ → ℕ → Type 0) → (ℕ → Type 0) → ℕ → Type 0
IsCanonicalNode side bytes k_record ms Fields Case Element a = Fields a
IsCanonicalNode side bytes k_tuple ms Fields Case Element a = Fields a
IsCanonicalNode side bytes k_list ms Fields Case Element a =
    ThereIs (pair_at side bytes a) (λ p. EachAt p.count (element_extent side k_list ms).size Element p.pointer)
IsCanonicalNode side bytes k_map ms Fields Case Element a =
    ThereIs (pair_at side bytes a) (λ p. EachAt p.count (element_extent side k_map ms).size Fields p.pointer)
IsCanonicalNode side bytes (k_fixed n) ms Fields Case Element a = EachAt n (element_extent side (k_fixed n) ms).size Element a
IsCanonicalNode side bytes k_flags ms Fields Case Element a = ThereIs (number_in bytes (flags_bytes ms) a) (λ n. n < 2 ^ count_of_members ms)
IsCanonicalNode side bytes k_variant ms Fields Case Element a = IsCanonicalVariant side bytes ms Case a
IsCanonicalNode side bytes k_enum ms Fields Case Element a = IsCanonicalVariant side bytes ms Case a
IsCanonicalNode side bytes k_option ms Fields Case Element a = IsCanonicalVariant side bytes ms Case a
IsCanonicalNode side bytes k_result ms Fields Case Element a = IsCanonicalVariant side bytes ms Case a
IsCanonicalNode side bytes (k_future table instance) ms Fields Case Element a = Unit {0}
IsCanonicalNode side bytes (k_stream table instance) ms Fields Case Element a = Unit {0}

unfoldable mutual
  -- at an address, with the elements of lists and maps
  pub IsCanonicalAt : SideAbi → List ℕ → Shape → ℕ → Type 0
  IsCanonicalAt side bytes (s_plain p) a = ThereIs (number_in bytes (extent_on side (s_plain p)).size a) (λ n. IsCanonicalByte (plain_of p) n)
  IsCanonicalAt side bytes (s_node k ms) a =
      IsCanonicalNode side bytes k ms (λ b. AreCanonicalAt side bytes ms b 0) (λ x b. IsCanonicalCaseAt side bytes ms x b) (λ b. IsCanonicalElementAt side bytes ms b) a

  -- the members of a record at an address, behind so many bytes of it
  pub AreCanonicalAt : SideAbi → List ℕ → Members → ℕ → ℕ → Type 0
  AreCanonicalAt side bytes no_members a n = Unit {0}
  AreCanonicalAt side bytes (bare x ms) a n = AreCanonicalAt side bytes ms a n
  AreCanonicalAt side bytes (typed x s ms) a n =
      IsCanonicalAt side bytes s (a + place_of (width_of side) s n) × AreCanonicalAt side bytes ms a (next_of (width_of side) s n)

  -- the case of a number, with its payload at an address
  pub IsCanonicalCaseAt : SideAbi → List ℕ → Members → ℕ → ℕ → Type 0
  IsCanonicalCaseAt side bytes no_members x a = ⊥
  IsCanonicalCaseAt side bytes (bare n ms) zero a = Unit {0}
  IsCanonicalCaseAt side bytes (typed n s ms) zero a = IsCanonicalAt side bytes s a
  IsCanonicalCaseAt side bytes (bare n ms) (suc x) a = IsCanonicalCaseAt side bytes ms x a
  IsCanonicalCaseAt side bytes (typed n s ms) (suc x) a = IsCanonicalCaseAt side bytes ms x a

  pub IsCanonicalElementAt : SideAbi → List ℕ → Members → ℕ → Type 0
  IsCanonicalElementAt side bytes no_members a = ⊥
  IsCanonicalElementAt side bytes (bare n ms) a = ⊥
  IsCanonicalElementAt side bytes (typed n s ms) a = IsCanonicalAt side bytes s a

-- ---- as core values

-- A core value in the place of a flat type has no bits beyond those of the flat type.
abbrev pub IsNarrow : FlatType → CoreValue → Type 0
IsNarrow f c = bits_of c ≡ number_as f c

abbrev pub AreNarrow : List FlatType → List CoreValue → Type 0
AreNarrow [] cs = Unit {0}
AreNarrow (f ∷ fs) [] = ⊥
AreNarrow (f ∷ fs) (c ∷ cs) = IsNarrow f c × AreNarrow fs cs

-- The bits of the core value that holds an integer of so many bits.
abbrev pub core_bits : ℕ → ℕ
core_bits bits = if nat_le bits 32 then 32 else 64

abbrev pub IsCanonicalNumber : Plain → ℕ → Type 0
IsCanonicalNumber boolean n = n < 2
IsCanonicalNumber (unsigned bits) n = n < 2 ^ bits
IsCanonicalNumber (signed bits) n = n ≡ extend_s bits (core_bits bits) n
IsCanonicalNumber _ n = Unit {0}

-- The first of the core values is a canonical number; texts have only a pointer and a length.
abbrev pub IsCanonicalFirst : Plain → List FlatType → List CoreValue → Type 0
IsCanonicalFirst plain (f ∷ []) cs = ThereIs (one_number f cs) (IsCanonicalNumber plain)
IsCanonicalFirst plain _ cs = Unit {0}

abbrev pub IsZero : CoreValue → Type 0
IsZero c = bits_of c ≡ 0

-- The core values of the members of a record or a tuple, of a case, and of elements, and the same of members and elements in
-- memory.
pub record CanonicalParts : Type 1 where
  pub Fields : List CoreValue → Type 0
  pub Case : ℕ → List CoreValue → Type 0
  pub Element : List CoreValue → Type 0
  pub FieldsAt : ℕ → Type 0
  pub ElementAt : ℕ → Type 0

abbrev pub EachOf : ℕ → ℕ → (List CoreValue → Type 0) → List CoreValue → Type 0
EachOf zero n P cs = Unit {0}
EachOf (suc count) n P cs = P (take n cs) × EachOf count n P (drop n cs)

abbrev pub IsCanonicalVariantFlat : CanonicalParts → List CoreValue → Type 0
IsCanonicalVariantFlat x [] = ⊥
IsCanonicalVariantFlat x (c ∷ cs) = IsNarrow I32 c × x.Case (number_as I32 c) cs

abbrev pub IsCanonicalListFlat : SideAbi → Kind → Members → (ℕ → Type 0) → List CoreValue → Type 0
IsCanonicalListFlat side k ms P cs =
    AreNarrow (pointer (width_of side) ∷ pointer (width_of side) ∷ []) cs
    × ThereIs (leading_pair side cs) (λ p. EachAt p.count (element_extent side k ms).size P p.pointer)

-- The flat types of flags of these names.
abbrev pub flags_flat_types : Members → List FlatType
flags_flat_types ms = replicate (flags_flat (flags_size (count_of_members ms))) I32

abbrev pub IsCanonicalNodeFlat : SideAbi → Kind → Members → CanonicalParts → List CoreValue → Type 0
IsCanonicalNodeFlat side k_record ms x cs = x.Fields cs
IsCanonicalNodeFlat side k_tuple ms x cs = x.Fields cs
IsCanonicalNodeFlat side k_list ms x cs = IsCanonicalListFlat side k_list ms x.ElementAt cs
IsCanonicalNodeFlat side k_map ms x cs = IsCanonicalListFlat side k_map ms x.FieldsAt cs
IsCanonicalNodeFlat side (k_fixed n) ms x cs = EachOf n (element_count (width_of side) ms) x.Element cs
IsCanonicalNodeFlat side k_flags ms x cs =
    AreNarrow (flags_flat_types ms) cs × ThereIs (numbers_as (flags_flat_types ms) cs) (λ ws. number_of_words ws < 2 ^ count_of_members ms)
IsCanonicalNodeFlat side k_variant ms x cs = IsCanonicalVariantFlat x cs
IsCanonicalNodeFlat side k_enum ms x cs = IsCanonicalVariantFlat x cs
IsCanonicalNodeFlat side k_option ms x cs = IsCanonicalVariantFlat x cs
IsCanonicalNodeFlat side k_result ms x cs = IsCanonicalVariantFlat x cs
IsCanonicalNodeFlat side (k_future table instance) ms x cs = AreNarrow (I32 ∷ []) cs
IsCanonicalNodeFlat side (k_stream table instance) ms x cs = AreNarrow (I32 ∷ []) cs

unfoldable mutual
  -- all core values of a place, with what stands in memory behind pointers
  pub IsCanonicalFlat : SideAbi → List ℕ → Shape → List CoreValue → Type 0
  IsCanonicalFlat side bytes (s_plain p) cs =
      AreNarrow (flat_plain (width_of side) p) cs × IsCanonicalFirst (plain_of p) (flat_plain (width_of side) p) cs
  IsCanonicalFlat side bytes (s_node k ms) cs = IsCanonicalNodeFlat side k ms (record {
    Fields = λ us. AreCanonicalFlat side bytes ms us;
    Case = λ x us. IsCanonicalCaseFlat side bytes ms x us;
    Element = λ us. IsCanonicalElementFlat side bytes ms us;
    FieldsAt = λ a. AreCanonicalAt side bytes ms a 0;
    ElementAt = λ a. IsCanonicalElementAt side bytes ms a;
  }) cs

  -- the members one behind the other
  pub AreCanonicalFlat : SideAbi → List ℕ → Members → List CoreValue → Type 0
  AreCanonicalFlat side bytes no_members cs = Unit {0}
  AreCanonicalFlat side bytes (bare n ms) cs = AreCanonicalFlat side bytes ms cs
  AreCanonicalFlat side bytes (typed n s ms) cs =
      IsCanonicalFlat side bytes s (take (length (flat (width_of side) s)) cs)
      × AreCanonicalFlat side bytes ms (drop (length (flat (width_of side) s)) cs)

  -- the case of a number: its payload, and zeros
  pub IsCanonicalCaseFlat : SideAbi → List ℕ → Members → ℕ → List CoreValue → Type 0
  IsCanonicalCaseFlat side bytes no_members x cs = ⊥
  IsCanonicalCaseFlat side bytes (bare n ms) zero cs = AllByRecursion IsZero cs
  IsCanonicalCaseFlat side bytes (typed n s ms) zero cs =
      IsCanonicalFlat side bytes s (take (length (flat (width_of side) s)) cs)
      × AllByRecursion IsZero (drop (length (flat (width_of side) s)) cs)
  IsCanonicalCaseFlat side bytes (bare n ms) (suc x) cs = IsCanonicalCaseFlat side bytes ms x cs
  IsCanonicalCaseFlat side bytes (typed n s ms) (suc x) cs = IsCanonicalCaseFlat side bytes ms x cs

  pub IsCanonicalElementFlat : SideAbi → List ℕ → Members → List CoreValue → Type 0
  IsCanonicalElementFlat side bytes no_members cs = ⊥
  IsCanonicalElementFlat side bytes (bare n ms) cs = ⊥
  IsCanonicalElementFlat side bytes (typed n s ms) cs = IsCanonicalFlat side bytes s cs
