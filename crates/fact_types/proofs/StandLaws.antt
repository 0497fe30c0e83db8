-- When an entry stands in the tables, told by its fields.
use Rattle.std.proofs.Common.{◌≡◌, ℕ, zero, suc, List, [], ◌∷◌, length, Option, Some, None, refl, ◌∙◌, ap, arith, All}
use Rattle.std.specs.Prelude.{map, option_map, replicate}
use Rattle.fact_types.specs.declared.interface.InterfaceType.{InterfaceType}
use Rattle.fact_types.specs.declared.kinds.RecordField.{RecordField}
use Rattle.fact_types.specs.declared.kinds.TypeRecord.{TypeRecord}
use Rattle.fact_types.specs.declared.kinds.TypeTuple.{TypeTuple}
use Rattle.fact_types.specs.declared.kinds.TypeOption.{TypeOption}
use Rattle.fact_types.specs.declared.kinds.TypeResult.{TypeResult}
use Rattle.fact_types.specs.declared.kinds.TypeList.{TypeList}
use Rattle.fact_types.specs.declared.kinds.TypeMap.{TypeMap}
use Rattle.fact_types.specs.declared.kinds.TypeFixedLengthList.{TypeFixedLengthList}
use Rattle.fact_types.specs.declared.extents.MemoryWidth.TheVariants.{Memory32, Memory64}
use Rattle.fact_types.specs.Ordered.{VariantType, FlagsType, EnumType}
use Rattle.fact_types.specs.Layout.{payloads, record_layout, variant_layout, variant_info, enum_layout, flags_layout, fixed_list_layout}
use Rattle.fact_types.specs.Shapes.{second_place, case_parts, entry_parts}
use Rattle.fact_types.specs.Tables.{Tables, record_node, variant_node, placed, tuple_node, flags_node, enum_node, option_node, result_node, list_node, map_node, fixed_length_list_node, IsLive, IsLiveMember, abi_at, Stands}
use Rattle.fact_types.proofs.ShapeLaws.{more}

-- ---- one or two members
one_member : (t : Tables) (x : List ℕ) (o : Option InterfaceType) → IsLiveMember t o → All (λ (m : List ℕ × Option InterfaceType). IsLiveMember t m.1) ((x, o) ∷ [])
one_member t x o p zero d l = p
one_member t x o p (suc i) d l = absurd (omega (arith, l))

two_members : (t : Tables) (x y : List ℕ) (o p : Option InterfaceType) → IsLiveMember t o → IsLiveMember t p → All (λ (m : List ℕ × Option InterfaceType). IsLiveMember t m.1) ((x, o) ∷ (y, p) ∷ [])
two_members t x y o p a b zero d l = a
two_members t x y o p a b (suc i) d l = one_member t y p b i d (omega (arith, l))

pub list_stands : (t : Tables) (e : TypeList) → IsLive t e.element → Stands t (list_node e)
list_stands t e l = record { live = one_member t [] (Some e.element) l; laid = refl; parts = refl }

pub fixed_length_list_stands : (t : Tables) (e : TypeFixedLengthList) → IsLive t e.element → e.abi ≡ fixed_list_layout (abi_at t e.element) e.size → Stands t (fixed_length_list_node e)
fixed_length_list_stands t e l a = record { live = one_member t [] (Some e.element) l; laid = a; parts = refl }

pub map_stands : (t : Tables) (e : TypeMap) → IsLive t e.key → IsLive t e.value → e.entry_abi ≡ record_layout (abi_at t e.key ∷ abi_at t e.value ∷ [])
    → e.value_offset32 ≡ second_place Memory32 (abi_at t e.key) (abi_at t e.value) → e.value_offset64 ≡ second_place Memory64 (abi_at t e.key) (abi_at t e.value) → Stands t (map_node e)
map_stands t e k v a p q = record { live = two_members t _ _ (Some e.key) (Some e.value) k v; laid = refl; parts = λ i. entry_parts (a i) (p i) (q i) }

pub option_stands : (t : Tables) (e : TypeOption) → IsLive t e.ty → e.abi ≡ variant_layout (None ∷ Some (abi_at t e.ty) ∷ []) → e.info ≡ variant_info (None ∷ Some (abi_at t e.ty) ∷ []) → Stands t (option_node e)
option_stands t e l a p = record { live = two_members t _ _ None (Some e.ty) tt l; laid = a; parts = ap case_parts p }

pub result_stands : (t : Tables) (e : TypeResult) → IsLiveMember t e.ok → IsLiveMember t e.err → e.abi ≡ variant_layout (option_map (abi_at t) e.ok ∷ option_map (abi_at t) e.err ∷ [])
    → e.info ≡ variant_info (option_map (abi_at t) e.ok ∷ option_map (abi_at t) e.err ∷ []) → Stands t (result_node e)
result_stands t e l m a p = record { live = two_members t _ _ e.ok e.err l m; laid = a; parts = ap case_parts p }

-- ---- lists of members
pub variant_stands : (t : Tables) (e : VariantType) → All (λ (c : List ℕ × Option InterfaceType). IsLiveMember t c.1) e.cases → e.abi ≡ variant_layout (map (λ c. option_map (abi_at t) c.1) e.cases)
    → e.info ≡ variant_info (map (λ c. option_map (abi_at t) c.1) e.cases) → Stands t (variant_node e)
variant_stands t e l a p = record { live = l; laid = a; parts = ap case_parts p }

field_live : (t : Tables) (fs : List RecordField) → All (λ (f : RecordField). IsLive t f.ty) fs → All (λ (m : List ℕ × Option InterfaceType). IsLiveMember t m.1) (map (λ (f : RecordField). (f.name, Some f.ty)) fs)
field_live t [] a i d l = absurd (omega (arith, l))
field_live t (f ∷ fs) a zero d l = a 0 f (omega arith)
field_live t (f ∷ fs) a (suc i) d l = field_live t fs (λ i d l. a (suc i) d (omega (arith, l))) i d (omega (arith, l))

pub field_layouts : (t : Tables) (fs : List RecordField) → map (λ (f : RecordField). abi_at t f.ty) fs ≡ payloads (map (λ (m : List ℕ × Option InterfaceType). option_map (abi_at t) m.1) (map (λ (f : RecordField). (f.name, Some f.ty)) fs))
field_layouts t [] = refl
field_layouts t (f ∷ fs) = more _ _ _ _ refl (field_layouts t fs)

pub record_stands : (t : Tables) (e : TypeRecord) → All (λ (f : RecordField). IsLive t f.ty) e.fields → e.abi ≡ record_layout (map (λ (f : RecordField). abi_at t f.ty) e.fields) → Stands t (record_node e)
record_stands t e l a = record { live = field_live t e.fields l; laid = a ∙ ap record_layout (field_layouts t e.fields); parts = refl }

placed_live : (t : Tables) (n : ℕ) (ys : List InterfaceType) → All (IsLive t) ys → All (λ (m : List ℕ × Option InterfaceType). IsLiveMember t m.1) (placed n ys)
placed_live t n [] a i d l = absurd (omega (arith, l))
placed_live t n (y ∷ ys) a zero d l = a 0 y (omega arith)
placed_live t n (y ∷ ys) a (suc i) d l = placed_live t (suc n) ys (λ i d l. a (suc i) d (omega (arith, l))) i d (omega (arith, l))

pub placed_layouts : (t : Tables) (n : ℕ) (ys : List InterfaceType) → map (abi_at t) ys ≡ payloads (map (λ (m : List ℕ × Option InterfaceType). option_map (abi_at t) m.1) (placed n ys))
placed_layouts t n [] = refl
placed_layouts t n (y ∷ ys) = more _ _ _ _ refl (placed_layouts t (suc n) ys)

pub tuple_stands : (t : Tables) (e : TypeTuple) → All (IsLive t) e.types → e.abi ≡ record_layout (map (abi_at t) e.types) → Stands t (tuple_node e)
tuple_stands t e l a = record { live = placed_live t 0 e.types l; laid = a ∙ ap record_layout (placed_layouts t 0 e.types); parts = refl }

-- ---- names
abbrev pub bare_names : List (List ℕ) → List (List ℕ × Option InterfaceType)
bare_names xs = map (λ n. (n, None)) xs

names_live : (t : Tables) (xs : List (List ℕ)) → All (λ (m : List ℕ × Option InterfaceType). IsLiveMember t m.1) (bare_names xs)
names_live t [] i d l = absurd (omega (arith, l))
names_live t (x ∷ xs) zero d l = tt
names_live t (x ∷ xs) (suc i) d l = names_live t xs i d (omega (arith, l))

pub names_count : (t : Tables) (xs : List (List ℕ)) → length xs ≡ length (map (λ (m : List ℕ × Option InterfaceType). option_map (abi_at t) m.1) (bare_names xs))
names_count t [] = refl
names_count t (x ∷ xs) = ap suc (names_count t xs)

pub flags_stands : (t : Tables) (e : FlagsType) → e.abi ≡ flags_layout (length e.names) → Stands t (flags_node e)
flags_stands t e a = record { live = names_live t e.names; laid = a ∙ ap flags_layout (names_count t e.names); parts = refl }

pub enum_stands : (t : Tables) (e : EnumType) → e.abi ≡ enum_layout (length e.names) → e.info ≡ variant_info (replicate (length e.names) None) → Stands t (enum_node e)
enum_stands t e a p = record {
  live = names_live t e.names;
  laid = a ∙ ap enum_layout (names_count t e.names);
  parts = ap case_parts (p ∙ ap (λ (n : ℕ). variant_info (replicate n None)) (names_count t e.names));
}
