-- In which form texts stand: one of a compact side as Latin-1 exactly where all its scalar values are below 256, else as UTF-16.
use Rattle.std.specs.Prelude.{◌≡◌, ℕ, zero, suc, ◌+◌, List, [], ◌∷◌, length, take, drop, Option, Some, None, if◌then◌else◌}
use Rattle.fact_machine.specs.declared.types.CoreValue.{CoreValue}
use Rattle.fact_types.specs.declared.flats.FlatType.TheVariants.{I32}
use Rattle.fact_types.specs.declared.outside.FixedEncoding.{FixedEncoding}
use Rattle.fact_types.specs.declared.outside.FixedEncoding.TheVariants.{Utf8, Utf16, Latin1}
use Rattle.fact_types.specs.declared.outside.StringEncoding.{StringEncoding}
use Rattle.fact_types.specs.declared.outside.StringEncoding.TheVariants as of_side
use Rattle.fact_types.specs.FlatShapes.{flat, flat_all}
use Rattle.fact_types.specs.Shapes.{Kind, k_record, k_variant, k_list, k_tuple, k_map, k_flags, k_enum, k_option, k_result, k_fixed, k_future, k_stream, Shape, s_plain, s_node, Members, no_members, bare, typed, place_of, next_of}
use Rattle.fact_types.specs.Tuples.{tuple_members}
use Rattle.fact_values.specs.declared.side.SideAbi.{SideAbi}
use Rattle.fact_values.specs.Canonical.{ThereIs, EachAt, EachOf}
use Rattle.fact_values.specs.Lift.{number_as, leading_pair, element_count}
use Rattle.fact_values.specs.Numbers.{Plain, text, plain_of, number_in}
use Rattle.fact_values.specs.Places.{width_of, case_bytes, payload_place, element_extent, Pair, pair_at}
use Rattle.fact_values.specs.Texts.{form_of, text_at}
use Rattle.fact_actions.specs.Adapters.{last_bits}
use Rattle.fact_actions.specs.Transcoders.{all_latin1}

-- the form in which a text is stored for a side
abbrev pub stored_in : StringEncoding → List ℕ → FixedEncoding
stored_in of_side.Utf8 cs = Utf8
stored_in of_side.Utf16 cs = Utf16
stored_in of_side.CompactUtf16 cs = if all_latin1 cs then Latin1 else Utf16

-- the text of a pointer and a length
abbrev pub StandsByForm : StringEncoding → List ℕ → Pair → Type 0
StandsByForm of_side.CompactUtf16 bytes p =
    ThereIs (text_at of_side.CompactUtf16 bytes p.pointer p.count) (λ cs. (form_of of_side.CompactUtf16 p.count).encoding ≡ stored_in of_side.CompactUtf16 cs)
StandsByForm encoding bytes p = Unit {0}

abbrev pub IsPlainByForm : SideAbi → List ℕ → Plain → Option Pair → Type 0
IsPlainByForm side bytes text p = ThereIs p (StandsByForm side.encoding bytes)
IsPlainByForm side bytes _ p = Unit {0}

-- ---- in memory

abbrev pub IsVariantByFormAt : SideAbi → List ℕ → Members → (ℕ → ℕ → Type 0) → ℕ → Type 0
IsVariantByFormAt side bytes ms Case a = ThereIs (number_in bytes (case_bytes ms) a) (λ x. Case x (a + payload_place side ms))

abbrev pub AreElementsByForm : SideAbi → Kind → Members → (ℕ → Type 0) → Pair → Type 0
AreElementsByForm side k ms P p = EachAt p.count (element_extent side k ms).size P p.pointer

abbrev pub IsNodeByFormAt : SideAbi → List ℕ → Kind → Members → (ℕ → Type 0) → (ℕ → ℕ → Type 0) → (ℕ → Type 0) → ℕ → Type 0
IsNodeByFormAt side bytes k_record ms Fields Case Element a = Fields a
IsNodeByFormAt side bytes k_tuple ms Fields Case Element a = Fields a
IsNodeByFormAt side bytes k_list ms Fields Case Element a = ThereIs (pair_at side bytes a) (AreElementsByForm side k_list ms Element)
IsNodeByFormAt side bytes k_map ms Fields Case Element a = ThereIs (pair_at side bytes a) (AreElementsByForm side k_map ms Fields)
IsNodeByFormAt side bytes (k_fixed n) ms Fields Case Element a = EachAt n (element_extent side (k_fixed n) ms).size Element a
IsNodeByFormAt side bytes k_variant ms Fields Case Element a = IsVariantByFormAt side bytes ms Case a
IsNodeByFormAt side bytes k_option ms Fields Case Element a = IsVariantByFormAt side bytes ms Case a
IsNodeByFormAt side bytes k_result ms Fields Case Element a = IsVariantByFormAt side bytes ms Case a
IsNodeByFormAt side bytes _ ms Fields Case Element a = Unit {0}

unfoldable mutual
  -- the texts of a value at an address
  pub IsByFormAt : SideAbi → List ℕ → Shape → ℕ → Type 0
  IsByFormAt side bytes (s_plain p) a = IsPlainByForm side bytes (plain_of p) (pair_at side bytes a)
  IsByFormAt side bytes (s_node k ms) a =
      IsNodeByFormAt side bytes k ms (λ b. AreByFormAt side bytes ms b 0) (λ x b. IsCaseByFormAt side bytes ms x b) (λ b. IsElementByFormAt side bytes ms b) a

  -- those of the members of a record at an address, behind so many bytes of it
  pub AreByFormAt : SideAbi → List ℕ → Members → ℕ → ℕ → Type 0
  AreByFormAt side bytes no_members a n = Unit {0}
  AreByFormAt side bytes (bare x ms) a n = AreByFormAt side bytes ms a n
  AreByFormAt side bytes (typed x s ms) a n = IsByFormAt side bytes s (a + place_of (width_of side) s n) × AreByFormAt side bytes ms a (next_of (width_of side) s n)

  -- those of the payload of the case of a number
  pub IsCaseByFormAt : SideAbi → List ℕ → Members → ℕ → ℕ → Type 0
  IsCaseByFormAt side bytes no_members x a = Unit {0}
  IsCaseByFormAt side bytes (bare n ms) zero a = Unit {0}
  IsCaseByFormAt side bytes (typed n s ms) zero a = IsByFormAt side bytes s a
  IsCaseByFormAt side bytes (bare n ms) (suc x) a = IsCaseByFormAt side bytes ms x a
  IsCaseByFormAt side bytes (typed n s ms) (suc x) a = IsCaseByFormAt side bytes ms x a

  pub IsElementByFormAt : SideAbi → List ℕ → Members → ℕ → Type 0
  IsElementByFormAt side bytes no_members a = Unit {0}
  IsElementByFormAt side bytes (bare n ms) a = Unit {0}
  IsElementByFormAt side bytes (typed n s ms) a = IsByFormAt side bytes s a

-- ---- as core values

pub record FormParts : Type 1 where
  pub Fields : List CoreValue → Type 0
  pub Case : ℕ → List CoreValue → Type 0
  pub Element : List CoreValue → Type 0
  pub FieldsAt : ℕ → Type 0
  pub ElementAt : ℕ → Type 0

abbrev pub IsVariantByForm : FormParts → List CoreValue → Type 0
IsVariantByForm x [] = Unit {0}
IsVariantByForm x (c ∷ cs) = x.Case (number_as I32 c) cs

abbrev pub IsNodeByForm : SideAbi → Kind → Members → FormParts → List CoreValue → Type 0
IsNodeByForm side k_record ms x cs = x.Fields cs
IsNodeByForm side k_tuple ms x cs = x.Fields cs
IsNodeByForm side k_list ms x cs = ThereIs (leading_pair side cs) (AreElementsByForm side k_list ms x.ElementAt)
IsNodeByForm side k_map ms x cs = ThereIs (leading_pair side cs) (AreElementsByForm side k_map ms x.FieldsAt)
IsNodeByForm side (k_fixed n) ms x cs = EachOf n (element_count (width_of side) ms) x.Element cs
IsNodeByForm side k_variant ms x cs = IsVariantByForm x cs
IsNodeByForm side k_option ms x cs = IsVariantByForm x cs
IsNodeByForm side k_result ms x cs = IsVariantByForm x cs
IsNodeByForm side _ ms x cs = Unit {0}

unfoldable mutual
  -- the texts of a value that leading core values stand for
  pub IsByForm : SideAbi → List ℕ → Shape → List CoreValue → Type 0
  IsByForm side bytes (s_plain p) cs = IsPlainByForm side bytes (plain_of p) (leading_pair side cs)
  IsByForm side bytes (s_node k ms) cs = IsNodeByForm side k ms (record {
    Fields = λ us. AreByForm side bytes ms us;
    Case = λ x us. IsCaseByForm side bytes ms x us;
    Element = λ us. IsElementByForm side bytes ms us;
    FieldsAt = λ a. AreByFormAt side bytes ms a 0;
    ElementAt = λ a. IsElementByFormAt side bytes ms a;
  }) cs

  pub AreByForm : SideAbi → List ℕ → Members → List CoreValue → Type 0
  AreByForm side bytes no_members cs = Unit {0}
  AreByForm side bytes (bare n ms) cs = AreByForm side bytes ms cs
  AreByForm side bytes (typed n s ms) cs = IsByForm side bytes s (take (length (flat (width_of side) s)) cs) × AreByForm side bytes ms (drop (length (flat (width_of side) s)) cs)

  pub IsCaseByForm : SideAbi → List ℕ → Members → ℕ → List CoreValue → Type 0
  IsCaseByForm side bytes no_members x cs = Unit {0}
  IsCaseByForm side bytes (bare n ms) zero cs = Unit {0}
  IsCaseByForm side bytes (typed n s ms) zero cs = IsByForm side bytes s cs
  IsCaseByForm side bytes (bare n ms) (suc x) cs = IsCaseByForm side bytes ms x cs
  IsCaseByForm side bytes (typed n s ms) (suc x) cs = IsCaseByForm side bytes ms x cs

  pub IsElementByForm : SideAbi → List ℕ → Members → List CoreValue → Type 0
  IsElementByForm side bytes no_members cs = Unit {0}
  IsElementByForm side bytes (bare n ms) cs = Unit {0}
  IsElementByForm side bytes (typed n s ms) cs = IsByForm side bytes s cs

-- those of the values of a tuple that is flat up to a limit, and else behind the first of the core values
abbrev pub TupleIsByForm : SideAbi → List ℕ → ℕ → List Shape → List CoreValue → Type 0
TupleIsByForm side bytes limit ss cs = elim (flat_all (width_of side) limit ss) [
  | Some flats ↦ AreByForm side bytes (tuple_members ss) cs
  | None ↦ elim cs [ [] ↦ Unit {0} | c ∷ more ↦ AreByFormAt side bytes (tuple_members ss) (last_bits (c ∷ [])) 0 ]
]
