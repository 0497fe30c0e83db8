-- Shapes: the trees that types stand for, in which the members of a type stand in the place of their indices.
use Rattle.std.specs.Prelude.{ℕ, ◌+◌, ◌≤◌, max, List, [], ◌∷◌, length, replicate, Option, Some, None, codes}
use Rattle.fact_types.specs.declared.abi.CanonicalAbiInfo.{CanonicalAbiInfo}
use Rattle.fact_types.specs.declared.interface.InterfaceType.{InterfaceType}
use Rattle.fact_types.specs.declared.interface.InterfaceType.TheVariants.{Bool as t_bool, S8 as t_s8, U8 as t_u8, S16 as t_s16, U16 as t_u16, S64 as t_s64, U64 as t_u64, Float64 as t_float64, String as t_string}
use Rattle.fact_types.specs.declared.variants.VariantInfo.{VariantInfo}
use Rattle.fact_types.specs.declared.extents.MemoryWidth.{MemoryWidth}
use Rattle.fact_types.specs.declared.extents.MemoryWidth.TheVariants.{Memory32, Memory64}
use Rattle.fact_types.specs.Layout.{extent, aligned, payloads, record_layout, variant_layout, variant_info, enum_layout, flags_layout, fixed_list_layout, zero_layout, scalar_layout, pointer_pair_layout}

-- The kinds of types that have members. A list of fixed length has its length; a future or a stream has the number of
-- its table and that of the table's instance.
pub data Kind : Type 0 where
  k_record : Kind
  k_variant : Kind
  k_list : Kind
  k_tuple : Kind
  k_map : Kind
  k_flags : Kind
  k_enum : Kind
  k_option : Kind
  k_result : Kind
  k_fixed : ℕ → Kind
  k_future : ℕ → ℕ → Kind
  k_stream : ℕ → ℕ → Kind

-- A type with its members written out. A number, a character, a string, an own, a borrow or an error context is plain.
-- A member has a name, and a shape where it has a type: fields, cases and flags have their names, and the members of a
-- tuple their places.
mutual
  pub data Shape : Type 0 where
    s_plain : InterfaceType → Shape
    s_node : Kind → Members → Shape

  pub data Members : Type 0 where
    no_members : Members
    bare : List ℕ → Members → Members
    typed : List ℕ → Shape → Members → Members

-- The names of the cases of options and results ("Despecialization").
abbrev pub none_name : List ℕ
none_name = codes "none"

abbrev pub some_name : List ℕ
some_name = codes "some"

abbrev pub ok_name : List ℕ
ok_name = codes "ok"

abbrev pub error_name : List ℕ
error_name = codes "error"

-- ---- layout (canonical ABI, "Alignment", "Element Size")

-- The layout of a plain type; handles are numbers of 4 bytes.
abbrev pub plain_layout : InterfaceType → CanonicalAbiInfo
plain_layout t_bool = scalar_layout 1
plain_layout t_s8 = scalar_layout 1
plain_layout t_u8 = scalar_layout 1
plain_layout t_s16 = scalar_layout 2
plain_layout t_u16 = scalar_layout 2
plain_layout t_s64 = scalar_layout 8
plain_layout t_u64 = scalar_layout 8
plain_layout t_float64 = scalar_layout 8
plain_layout t_string = pointer_pair_layout
plain_layout _ = scalar_layout 4

-- Values take at most 4,294,967,295 bytes in either memory.
pub record IsWithin (c : CanonicalAbiInfo) : Type 0 where
  pub memory32 : c.size32 ≤ 4294967295
  pub memory64 : c.size64 ≤ 4294967295

-- Lists of fixed length have one member.
abbrev pub repeated_layout : ℕ → List CanonicalAbiInfo → CanonicalAbiInfo
repeated_layout n [] = zero_layout
repeated_layout n (c ∷ cs) = fixed_list_layout c n

-- The layout of a kind of type over the layouts of its members.
abbrev pub layout_by : Kind → List (Option CanonicalAbiInfo) → CanonicalAbiInfo
layout_by k_record ls = record_layout (payloads ls)
layout_by k_variant ls = variant_layout ls
layout_by k_list ls = pointer_pair_layout
layout_by k_tuple ls = record_layout (payloads ls)
layout_by k_map ls = pointer_pair_layout
layout_by k_flags ls = flags_layout (length ls)
layout_by k_enum ls = enum_layout (length ls)
layout_by k_option ls = variant_layout ls
layout_by k_result ls = variant_layout ls
layout_by (k_fixed n) ls = repeated_layout n (payloads ls)
layout_by (k_future table instance) ls = scalar_layout 4
layout_by (k_stream table instance) ls = scalar_layout 4

abbrev mutual
  pub layout_of : Shape → CanonicalAbiInfo
  layout_of (s_plain p) = plain_layout p
  layout_of (s_node k ms) = layout_by k (layouts_of ms)

  pub layouts_of : Members → List (Option CanonicalAbiInfo)
  layouts_of no_members = []
  layouts_of (bare n ms) = None ∷ layouts_of ms
  layouts_of (typed n s ms) = Some (layout_of s) ∷ layouts_of ms

-- What an entry tells beside its layout: where the parts of a variant stand, or those of an entry of a map.
pub data Parts : Type 0 where
  no_parts : Parts
  case_parts : VariantInfo → Parts
  entry_parts : CanonicalAbiInfo → ℕ → ℕ → Parts

-- The place of the second field of a record, behind the first.
abbrev pub second_place : MemoryWidth → CanonicalAbiInfo → CanonicalAbiInfo → ℕ
second_place w a b = aligned (extent w a).size (extent w b).align

-- An entry of a map is a tuple of key and value.
abbrev pub map_parts : List CanonicalAbiInfo → Parts
map_parts [] = no_parts
map_parts (k ∷ []) = no_parts
map_parts (k ∷ v ∷ ls) = entry_parts (record_layout (k ∷ v ∷ [])) (second_place Memory32 k v) (second_place Memory64 k v)

abbrev pub parts_by : Kind → List (Option CanonicalAbiInfo) → Parts
parts_by k_variant ls = case_parts (variant_info ls)
parts_by k_enum ls = case_parts (variant_info (replicate (length ls) None))
parts_by k_option ls = case_parts (variant_info ls)
parts_by k_result ls = case_parts (variant_info ls)
parts_by k_map ls = map_parts (payloads ls)
parts_by _ ls = no_parts

-- ---- places: where a value stands behind a place, and where it ends, and the same for members one after another
abbrev pub place_of : MemoryWidth → Shape → ℕ → ℕ
place_of w s n = aligned n (extent w (layout_of s)).align

abbrev pub next_of : MemoryWidth → Shape → ℕ → ℕ
next_of w s n = place_of w s n + (extent w (layout_of s)).size

abbrev pub ends_of : MemoryWidth → Members → ℕ → ℕ
ends_of w no_members n = n
ends_of w (bare name ms) n = ends_of w ms n
ends_of w (typed name s ms) n = ends_of w ms (next_of w s n)

-- ---- how many types with members lie within one another: at most as many as the tables have entries. (`nesting` is how deep
-- types nest by the rules, `height` is told by the tables alone, for recursions.)
abbrev mutual
  pub depth : Shape → ℕ
  depth (s_plain p) = 0
  depth (s_node k ms) = 1 + deepest ms

  pub deepest : Members → ℕ
  deepest no_members = 0
  deepest (bare n ms) = deepest ms
  deepest (typed n s ms) = max (depth s) (deepest ms)
