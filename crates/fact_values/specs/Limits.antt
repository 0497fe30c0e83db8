-- The limits within which the values at a source place can be moved to a destination: the code units of a text are at
-- most what the encodings of the two sides allow, and a list or a map takes fewer than 2 to the power of 32 bytes in the
-- layouts of both sides. Code units are counted in the form in which the text stands at the place. The limits are this
-- project's; that the return area is aligned and in bounds is said apart from them, since it is no value's.
use Rattle.std.specs.Prelude.{ℕ, zero, suc, ◌+◌, ◌*◌, ◌^◌, ◌≤◌, ◌<◌, List, [], ◌∷◌, length, take, drop, Option, Some, None}
use Rattle.std.specs.Str.{bytes_eq}
use Rattle.fact_machine.specs.declared.types.CoreValue.{CoreValue}
use Rattle.fact_types.specs.declared.flats.FlatType.TheVariants.{I32}
use Rattle.fact_types.specs.declared.outside.FixedEncoding.{FixedEncoding}
use Rattle.fact_types.specs.declared.outside.FixedEncoding.TheVariants as units_of
use Rattle.fact_types.specs.declared.outside.StringEncoding.{StringEncoding}
use Rattle.fact_types.specs.declared.outside.StringEncoding.TheVariants.{Utf8, Utf16, CompactUtf16}
use Rattle.fact_types.specs.declared.extents.MemoryWidth.{MemoryWidth}
use Rattle.fact_types.specs.declared.extents.MemoryWidth.TheVariants.{Memory32, Memory64}
use Rattle.fact_types.specs.Agrees.{chosen}
use Rattle.fact_types.specs.Fields.{Field, field_of}
use Rattle.fact_types.specs.FlatShapes.{flat}
use Rattle.fact_types.specs.Shapes.{Kind, k_record, k_variant, k_list, k_tuple, k_map, k_option, k_result, k_fixed, Shape, s_plain, s_node, Members, no_members, bare, typed}
use Rattle.fact_values.specs.declared.side.SideAbi.{SideAbi}
use Rattle.fact_values.specs.Canonical.{ThereIs, EachAt, EachOf}
use Rattle.fact_values.specs.Handles.{members_of}
use Rattle.fact_values.specs.Lift.{number_as, leading_pair, element_count}
use Rattle.fact_values.specs.Numbers.{Plain, text, plain_of, number_in}
use Rattle.fact_values.specs.Places.{width_of, case_bytes, payload_place, element_extent, Pair, pair_at}
use Rattle.fact_values.specs.Texts.{Form, form_of}

-- The side that values come from, with the bytes of its memory, and the side that they go to.
pub record Moving : Type 0 where
  pub from : SideAbi
  pub to : SideAbi
  pub bytes : List ℕ

-- The most code units of a text of an encoding that goes to a side's encoding.
abbrev pub most_units : FixedEncoding → StringEncoding → ℕ
most_units units_of.Utf8 Utf8 = 2147483647
most_units units_of.Utf8 Utf16 = 1073741823
most_units units_of.Utf8 CompactUtf16 = 1073741823
most_units units_of.Utf16 Utf8 = 715827882
most_units units_of.Utf16 Utf16 = 1073741823
most_units units_of.Utf16 CompactUtf16 = 1073741823
most_units units_of.Latin1 Utf8 = 1073741823
most_units units_of.Latin1 Utf16 = 1073741823
most_units units_of.Latin1 CompactUtf16 = 2147483647

abbrev pub IsFewUnits : Moving → Form → Type 0
IsFewUnits m f = f.units ≤ most_units f.encoding m.to.encoding

-- A text is within limits by its length.
abbrev pub IsTextWithin : Moving → Pair → Type 0
IsTextWithin m p = IsFewUnits m (form_of m.from.encoding p.count)

abbrev pub IsPlainWithin : Moving → Plain → Option Pair → Type 0
IsPlainWithin m text q = ThereIs q (IsTextWithin m)
IsPlainWithin m _ q = Unit {0}

-- Lists of a kind, with the members of the element in either layout: few bytes, and each element is within limits.
pub record IsListWithin (m : Moving) (k : Kind) (ms ns : Members) (P : ℕ → Type 0) (p : Pair) : Type 0 where
  pub source : p.count * (element_extent m.from k ms).size < 2 ^ 32
  pub destination : p.count * (element_extent m.to k ns).size < 2 ^ 32
  pub each : EachAt p.count (element_extent m.from k ms).size P p.pointer

-- A case of a number: its name, and its payload where it has one.
pub record CaseType : Type 0 where
  pub name : List ℕ
  pub payload : Option Shape

abbrev pub case_type : Members → ℕ → Option CaseType
case_type no_members x = None
case_type (bare n ms) zero = Some (record { name = n; payload = None })
case_type (typed n s ms) zero = Some (record { name = n; payload = Some s })
case_type (bare n ms) (suc x) = case_type ms x
case_type (typed n s ms) (suc x) = case_type ms x

-- What is said of a payload that is there.
abbrev pub Where : {A : Type 0} → Option A → (A → Type 0) → Type 0
Where None P = Unit {0}
Where (Some a) P = P a

abbrev pub place_in : MemoryWidth → Field → ℕ
place_in Memory32 f = f.place32
place_in Memory64 f = f.place64

-- ---- in memory

abbrev pub IsVariantWithinAt : Moving → Members → (CaseType → ℕ → Type 0) → ℕ → Type 0
IsVariantWithinAt m ms Case a =
    ThereIs (number_in m.bytes (case_bytes ms) a) (λ x. ThereIs (case_type ms x) (λ c. Case c (a + payload_place m.from ms)))

-- A source with members ms and a destination of a kind with members ns: Fields says it of the members of a record or a
-- tuple, Case of the payload of a case, and Element of an element.
abbrev pub IsNodeWithinAt : Moving → Members → Kind → Members → (ℕ → Type 0) → (CaseType → ℕ → Type 0) → (ℕ → Type 0) → ℕ → Type 0
IsNodeWithinAt m ms k_record ns Fields Case Element a = Fields a
IsNodeWithinAt m ms k_tuple ns Fields Case Element a = Fields a
IsNodeWithinAt m ms k_list ns Fields Case Element a = ThereIs (pair_at m.from m.bytes a) (IsListWithin m k_list ms ns Element)
IsNodeWithinAt m ms k_map ns Fields Case Element a = ThereIs (pair_at m.from m.bytes a) (IsListWithin m k_map ms ns Fields)
IsNodeWithinAt m ms (k_fixed n) ns Fields Case Element a = EachAt n (element_extent m.from (k_fixed n) ms).size Element a
IsNodeWithinAt m ms k_variant ns Fields Case Element a = IsVariantWithinAt m ms Case a
IsNodeWithinAt m ms k_option ns Fields Case Element a = IsVariantWithinAt m ms Case a
IsNodeWithinAt m ms k_result ns Fields Case Element a = IsVariantWithinAt m ms Case a
IsNodeWithinAt m ms _ ns Fields Case Element a = Unit {0}

unfoldable mutual
  -- the value of a source type at an address, where it goes to a destination type
  pub IsWithinAt : Moving → Shape → Shape → ℕ → Type 0
  IsWithinAt m s (s_plain q) a = IsPlainWithin m (plain_of q) (pair_at m.from m.bytes a)
  IsWithinAt m s (s_node k ns) a =
      IsNodeWithinAt m (members_of s) k ns (λ b. AreWithinAt m (members_of s) ns b) (λ c b. IsCaseWithinAt m c ns b) (λ b. IsElementWithinAt m (members_of s) ns b) a

  -- each member of the destination, by its name among the members of a record at an address
  pub AreWithinAt : Moving → Members → Members → ℕ → Type 0
  AreWithinAt m ms no_members a = Unit {0}
  AreWithinAt m ms (bare x ns) a = AreWithinAt m ms ns a
  AreWithinAt m ms (typed x d ns) a =
      ThereIs (field_of x ms) (λ f. IsWithinAt m f.shape d (a + place_in (width_of m.from) f)) × AreWithinAt m ms ns a

  -- the payload of a case, by the case of its name
  pub IsCaseWithinAt : Moving → CaseType → Members → ℕ → Type 0
  IsCaseWithinAt m c no_members a = Unit {0}
  IsCaseWithinAt m c (bare x ns) a = IsCaseWithinAt m c ns a
  IsCaseWithinAt m c (typed x d ns) a = chosen (bytes_eq x c.name) (Where c.payload (λ s. IsWithinAt m s d a)) (IsCaseWithinAt m c ns a)

  pub IsElementWithinAt : Moving → Members → Members → ℕ → Type 0
  IsElementWithinAt m (typed x s ms) (typed y d ns) a = IsWithinAt m s d a
  IsElementWithinAt m ms ns a = Unit {0}

-- ---- as core values

abbrev pub IsVariantWithin : Members → (CaseType → List CoreValue → Type 0) → List CoreValue → Type 0
IsVariantWithin ms Case [] = ⊥
IsVariantWithin ms Case (c ∷ cs) = ThereIs (case_type ms (number_as I32 c)) (λ x. Case x cs)

pub record WithinParts : Type 1 where
  pub Fields : List CoreValue → Type 0
  pub Case : CaseType → List CoreValue → Type 0
  pub Element : List CoreValue → Type 0
  pub FieldsAt : ℕ → Type 0
  pub ElementAt : ℕ → Type 0

abbrev pub IsNodeWithin : Moving → Members → Kind → Members → WithinParts → List CoreValue → Type 0
IsNodeWithin m ms k_record ns x cs = x.Fields cs
IsNodeWithin m ms k_tuple ns x cs = x.Fields cs
IsNodeWithin m ms k_list ns x cs = ThereIs (leading_pair m.from cs) (IsListWithin m k_list ms ns x.ElementAt)
IsNodeWithin m ms k_map ns x cs = ThereIs (leading_pair m.from cs) (IsListWithin m k_map ms ns x.FieldsAt)
IsNodeWithin m ms (k_fixed n) ns x cs = EachOf n (element_count (width_of m.from) ms) x.Element cs
IsNodeWithin m ms k_variant ns x cs = IsVariantWithin ms x.Case cs
IsNodeWithin m ms k_option ns x cs = IsVariantWithin ms x.Case cs
IsNodeWithin m ms k_result ns x cs = IsVariantWithin ms x.Case cs
IsNodeWithin m ms _ ns x cs = Unit {0}

unfoldable mutual
  -- the value of a source type that leading core values stand for, where it goes to a destination type
  pub IsWithinLimits : Moving → Shape → Shape → List CoreValue → Type 0
  IsWithinLimits m s (s_plain q) cs = IsPlainWithin m (plain_of q) (leading_pair m.from cs)
  IsWithinLimits m s (s_node k ns) cs = IsNodeWithin m (members_of s) k ns (record {
    Fields = λ us. AreWithinLimits m (members_of s) ns us;
    Case = λ c us. IsCaseWithin m c ns us;
    Element = λ us. IsElementWithin m (members_of s) ns us;
    FieldsAt = λ a. AreWithinAt m (members_of s) ns a;
    ElementAt = λ a. IsElementWithinAt m (members_of s) ns a;
  }) cs

  pub AreWithinLimits : Moving → Members → Members → List CoreValue → Type 0
  AreWithinLimits m ms no_members cs = Unit {0}
  AreWithinLimits m ms (bare x ns) cs = AreWithinLimits m ms ns cs
  AreWithinLimits m ms (typed x d ns) cs = ThereIs (field_of x ms) (λ f. IsWithinLimits m f.shape d (take (length (flat (width_of m.from) f.shape)) (drop f.flat_place cs))) × AreWithinLimits m ms ns cs

  pub IsCaseWithin : Moving → CaseType → Members → List CoreValue → Type 0
  IsCaseWithin m c no_members cs = Unit {0}
  IsCaseWithin m c (bare x ns) cs = IsCaseWithin m c ns cs
  IsCaseWithin m c (typed x d ns) cs = chosen (bytes_eq x c.name) (Where c.payload (λ s. IsWithinLimits m s d (take (length (flat (width_of m.from) s)) cs))) (IsCaseWithin m c ns cs)

  pub IsElementWithin : Moving → Members → Members → List CoreValue → Type 0
  IsElementWithin m (typed x s ms) (typed y d ns) cs = IsWithinLimits m s d cs
  IsElementWithin m ms ns cs = Unit {0}
