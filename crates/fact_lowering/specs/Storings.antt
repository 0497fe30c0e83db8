-- The steps by which values are stored in memory.
use Rattle.std.specs.Prelude.{◌≡◌, ℕ, ◌+◌, ◌*◌, ◌^◌, ◌≤◌, max, Bool, false, List, [], ◌∷◌, ◌++◌, length, map, take, drop, Option, Some, None, slice_get}
use Rattle.std.specs.List.{AllByRecursion}
use Rattle.fact_types.specs.declared.interface.InterfaceType.{InterfaceType}
use Rattle.fact_types.specs.declared.outside.FixedEncoding.{FixedEncoding}
use Rattle.fact_types.specs.declared.outside.FixedEncoding.TheVariants.{Utf16}
use Rattle.fact_types.specs.declared.outside.StringEncoding.{StringEncoding}
use Rattle.fact_types.specs.declared.outside.StringEncoding.TheVariants as side
use Rattle.fact_types.specs.Agrees.{names_of}
use Rattle.fact_types.specs.Heights.{height}
use Rattle.fact_types.specs.Layout.{extent, variant_layout}
use Rattle.fact_types.specs.Shapes.{Kind, k_list, k_map, Shape, s_node, Members, ends_of, layouts_of}
use Rattle.fact_types.specs.Tables.{Tables, IsLive, HasShape}
use Rattle.fact_abi.specs.Nodes.{AreOf}
use Rattle.fact_values.specs.declared.side.SideAbi.{SideAbi}
use Rattle.fact_values.specs.declared.value.Value.{Value, out-Value}
use Rattle.fact_values.specs.declared.value.Value.TheVariants as value
use Rattle.fact_values.specs.IsA.{IsA, IsCase, AreMembers, HasCase}
use Rattle.fact_values.specs.Numbers.{flags_of_number}
use Rattle.fact_values.specs.Places.{Pair, extent_on, width_of}
use Rattle.fact_values.specs.Opened.{case_in}
use Rattle.fact_values.specs.Texts.{utf16_tag}
use Rattle.fact_lowering.specs.declared.places.Pair.{Pair as PointerPair}
use Rattle.fact_lowering.specs.Lowered.{CanStore, IsWritten}
use Rattle.fact_lowering.specs.Lowerings.{ReadsCase, own_case}
use Rattle.fact_lowering.specs.Room.{where_there}

-- so many bytes at a place lie before the cursor of a memory that is stored to
pub record HasSpace (size place cursor : ℕ) (bytes : List ℕ) : Type 0 where
  pub below : place + size ≤ cursor
  pub can : CanStore cursor bytes

-- A value of a type has room at a place.
pub record IsStorable (t : Tables) (side : SideAbi) (ty : InterfaceType) (v : Value) (place cursor : ℕ) (bytes : List ℕ) : Type 0 where
  pub shape : Shape
  pub shaped : HasShape t ty shape
  pub is : IsA shape v
  pub room : HasSpace (extent_on side shape).size place cursor bytes

-- A value of a kind of type with members has room at a place.
pub record IsNodeStorable (t : Tables) (side : SideAbi) (k : Kind) (types : List (Option InterfaceType)) (v : Value) (place cursor : ℕ) (bytes : List ℕ) : Type 0 where
  pub members : Members
  pub are : AreOf t types members
  pub is : IsA (s_node k members) v
  pub few : (extent_on side (s_node k members)).size ≤ 4294967295
  pub room : HasSpace (extent_on side (s_node k members)).size place cursor bytes

-- Values of members have room at a place, one behind the other.
pub record AreStorable (t : Tables) (side : SideAbi) (types : List (Option InterfaceType)) (vs : List Value) (place cursor : ℕ) (bytes : List ℕ) : Type 0 where
  pub members : Members
  pub are : AreOf t types members
  pub values : AreMembers members vs
  pub few : ends_of (width_of side) members 0 ≤ 4294967295
  pub room : HasSpace (ends_of (width_of side) members 0) place cursor bytes

-- Values of one type have room at a place, each of so many bytes.
pub record AreElements (t : Tables) (side : SideAbi) (ty : InterfaceType) (vs : List Value) (stride place cursor : ℕ) (bytes : List ℕ) : Type 0 where
  pub shape : Shape
  pub shaped : HasShape t ty shape
  pub are : AllByRecursion (λ v. IsA shape v) vs
  pub stride_is : stride ≡ (extent_on side shape).size
  pub room : HasSpace (length vs * stride) place cursor bytes

-- The members of entries of a map.
abbrev pub AreEntryMembers : Tables → (key item : InterfaceType) → Members → Type 0
AreEntryMembers t key item ms = AreOf t (Some key ∷ Some item ∷ []) ms

-- Entries of a map have room at a place, each of so many bytes.
pub record AreEntries (t : Tables) (side : SideAbi) (key item : InterfaceType) (es : List (Value × Value)) (stride place cursor : ℕ) (bytes : List ℕ) : Type 0 where
  pub members : Members
  pub has : AreEntryMembers t key item members
  pub are : AllByRecursion (λ e. AreMembers members (e.0 ∷ e.1 ∷ [])) es
  pub few : ends_of (width_of side) members 0 ≤ stride
  pub room : HasSpace (length es * stride) place cursor bytes

-- Lists and maps stand behind a pointer and a length.
abbrev pub IsBehindPair : Kind → Type 0
IsBehindPair k_list = Unit {0}
IsBehindPair k_map = Unit {0}
IsBehindPair k = ⊥

-- a pointer and a length
abbrev pub pair_of : PointerPair → Pair
pair_of p = record { pointer = p.pointer; count = p.count }

-- Something was put behind a pointer, or there was less room.
abbrev pub PutOr : Option PointerPair → (Pair → Type 0) → Type 0 → Type 0
PutOr None Put Lacks = Lacks
PutOr (Some p) Put Lacks = Put (pair_of p)

-- the alignment of texts
abbrev pub text_align : StringEncoding → ℕ
text_align side.Utf8 = 1
text_align side.Utf16 = 2
text_align side.CompactUtf16 = 2

-- the length of a text of so many units, with the tag of UTF-16 on a compact side
abbrev pub tagged_count : StringEncoding → FixedEncoding → ℕ → ℕ
tagged_count side.CompactUtf16 Utf16 n = n + utf16_tag
tagged_count e f n = n

-- all types among members are live
pub record AreLiveMembers (t : Tables) (types : List (Option InterfaceType)) : Type 0 where
  pub each : (i : ℕ) (y : InterfaceType) → slice_get types i ≡ Some (Some y) → IsLive t y

-- one more than the greatest height of members, 0 where none has a type
abbrev pub height_over : Tables → List (Option InterfaceType) → ℕ
height_over t [] = 0
height_over t (None ∷ xs) = height_over t xs
height_over t (Some y ∷ xs) = max (1 + height t y) (height_over t xs)

-- ---- cases

-- the size of the variant of these cases
abbrev pub variant_bytes : SideAbi → Members → ℕ
variant_bytes side ms = (extent (width_of side) (variant_layout (layouts_of ms))).size

-- A case of members has room at a place.
pub record IsCaseStorable (t : Tables) (side : SideAbi) (names : List (List ℕ)) (types : List (Option InterfaceType)) (v : Value) (place cursor : ℕ) (bytes : List ℕ) : Type 0 where
  pub members : Members
  pub named : names ≡ names_of members
  pub are : AreOf t types members
  pub is : IsCase (λ x vs. HasCase members x vs) (out-Value v)
  pub room : HasSpace (variant_bytes side members) place cursor bytes

-- the room behind pointers of a case
abbrev pub own_case_of : SideAbi → Members → Value → ℕ
own_case_of side ms v = where_there (case_in (out-Value v)) (λ c. own_case side ms c.name c.payload)

-- A case was stored at a place.
pub record IsCaseStored (side : SideAbi) (ms : Members) (v : Value) (place low high : ℕ) (before after : List ℕ) : Type 0 where
  pub name : List ℕ
  pub payload : List Value
  pub is : v ≡ value.Case name payload
  pub written : IsWritten (ReadsCase side ms name payload place) place (variant_bytes side ms) low high (own_case side ms name payload) before after

-- ---- flags

-- whether a flag that is there is set
abbrev pub set_at : Option (List ℕ × Bool) → Bool
set_at None = false
set_at (Some f) = f.1

-- So many bits of a number are those of the first flags, and bits behind them those of the others.
abbrev pub AreBits : List (List ℕ × Bool) → (count bits : ℕ) → Type 0
AreBits flags count bits = (n : ℕ) → flags_of_number (map (λ f. f.0) flags) (bits + 2 ^ count * n) ≡ take count flags ++ flags_of_number (map (λ f. f.0) (drop count flags)) n
