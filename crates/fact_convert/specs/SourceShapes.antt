-- What shape a type of values of the source has, with its resources by their tables.
use Rattle.std.specs.Prelude.{ℕ, suc, ◌≡◌, List, [], ◌∷◌, map, Option, Some, None, slice_get}
use Rattle.fact_entity.specs.declared.id.Id.{Id}
use Rattle.fact_entity.specs.declared.table.RuntimeComponentInstances.{RuntimeComponentInstances}
use Rattle.fact_source.specs.declared.defined.PrimitiveValType.{PrimitiveValType}
use Rattle.fact_source.specs.declared.defined.PrimitiveValType.TheVariants as word
use Rattle.fact_source.specs.declared.defined.ComponentValType.{ComponentValType}
use Rattle.fact_source.specs.declared.defined.ComponentValType.TheVariants as val
use Rattle.fact_source.specs.declared.defined.ComponentDefinedType.{ComponentDefinedType}
use Rattle.fact_source.specs.declared.defined.ComponentDefinedType.TheVariants as ty
use Rattle.fact_source.specs.SourceTables.{SourceTables}
use Rattle.fact_types.specs.declared.interface.InterfaceType.{InterfaceType}
use Rattle.fact_types.specs.declared.interface.InterfaceType.TheVariants as plain
use Rattle.fact_types.specs.Shapes.{Kind, k_record, k_variant, k_list, k_tuple, k_map, k_flags, k_enum, k_option, k_result, k_fixed, k_future, k_stream, Shape, s_plain, s_node, Members, no_members, bare, typed, none_name, some_name, ok_name, error_name}
use Rattle.fact_builder.specs.Known.{kept_table}
use Rattle.fact_convert.specs.BuilderTables.{tables_of}
use Rattle.fact_builder.specs.Builder.{Builder}
use Rattle.fact_convert.specs.Merging.{merged, merged_names}

-- ---- defined types with members

-- The kind that a defined type has whatever the tables are; the handles of futures and streams have tables.
pub data SourceKind : Type 0 where
  of_kind : Kind → SourceKind
  of_future : SourceKind
  of_stream : SourceKind

pub record SourceNode : Type 0 where
  pub kind : SourceKind
  pub members : List (List ℕ × Option ComponentValType)

abbrev pub some_node : SourceKind → List (List ℕ × Option ComponentValType) → Option SourceNode
some_node k ms = Some (record { kind = k; members = ms })

-- Types that are named by their places, from a place on.
abbrev pub placed_values : ℕ → List ComponentValType → List (List ℕ × Option ComponentValType)
placed_values n [] = []
placed_values n (v ∷ vs) = (n ∷ [], Some v) ∷ placed_values (suc n) vs

-- The members of a defined type, with repeated names of cases, flags and enums merged. Fields stay as they are, since a
-- record is no map. A scalar, a string, an error context, an own or a borrow has none.
abbrev pub source_node : ComponentDefinedType → Option SourceNode
source_node (ty.Primitive p) = None
source_node (ty.Record fields) = some_node (of_kind k_record) (map (λ f. (f.0, Some f.1)) fields)
source_node (ty.Variant cases) = some_node (of_kind k_variant) (merged cases)
source_node (ty.List v) = some_node (of_kind k_list) (([], Some v) ∷ [])
source_node (ty.Map k v) = some_node (of_kind k_map) ((0 ∷ [], Some k) ∷ (1 ∷ [], Some v) ∷ [])
source_node (ty.Tuple vs) = some_node (of_kind k_tuple) (placed_values 0 vs)
source_node (ty.Flags names) = some_node (of_kind k_flags) (map (λ n. (n, None)) (merged_names names))
source_node (ty.Enum names) = some_node (of_kind k_enum) (map (λ n. (n, None)) (merged_names names))
source_node (ty.Option v) = some_node (of_kind k_option) ((none_name, None) ∷ (some_name, Some v) ∷ [])
source_node (ty.Result ok err) = some_node (of_kind k_result) ((ok_name, ok) ∷ (error_name, err) ∷ [])
source_node (ty.Own r) = None
source_node (ty.Borrow r) = None
source_node (ty.Future payload) = some_node of_future (([], payload) ∷ [])
source_node (ty.Stream payload) = some_node of_stream (([], payload) ∷ [])
source_node (ty.FixedLengthList v n) = some_node (of_kind (k_fixed n)) (([], Some v) ∷ [])

-- A type of values as a defined type.
abbrev pub defined_of : SourceTables → ComponentValType → Option ComponentDefinedType
defined_of s (val.Primitive p) = Some (ty.Primitive p)
defined_of s (val.Defined i) = slice_get s.defined i.number

-- ---- plain types

-- The type of a primitive one; an error context has a table, and is said below.
abbrev pub interface_of : PrimitiveValType → Option InterfaceType
interface_of word.Bool = Some plain.Bool
interface_of word.S8 = Some plain.S8
interface_of word.U8 = Some plain.U8
interface_of word.S16 = Some plain.S16
interface_of word.U16 = Some plain.U16
interface_of word.S32 = Some plain.S32
interface_of word.U32 = Some plain.U32
interface_of word.S64 = Some plain.S64
interface_of word.U64 = Some plain.U64
interface_of word.Float32 = Some plain.Float32
interface_of word.Float64 = Some plain.Float64
interface_of word.Char = Some plain.Char
interface_of word.String = Some plain.String
interface_of word.ErrorContext = None

-- An error context is that of a table of the instance that is set; an own or a borrow has the table that is kept for its
-- resource.
abbrev pub IsPlainFrom : Builder → ComponentDefinedType → InterfaceType → Type 0
IsPlainFrom c (ty.Primitive word.ErrorContext) (plain.ErrorContext i) = (n : Id RuntimeComponentInstances) × (c.resources.instance ≡ Some n) × (slice_get (tables_of c).error_context_tables i.number ≡ Some (record { instance = n }))
IsPlainFrom c (ty.Primitive p) q = interface_of p ≡ Some q
IsPlainFrom c (ty.Own r) (plain.Own i) = kept_table c.resources r ≡ Some i
IsPlainFrom c (ty.Borrow r) (plain.Borrow i) = kept_table c.resources r ≡ Some i
IsPlainFrom c e q = ⊥

-- A future or a stream has a table of the instance that is set.
abbrev pub IsKindFrom : Builder → SourceKind → Kind → Type 0
IsKindFrom c (of_kind k) l = k ≡ l
IsKindFrom c of_future (k_future table instance) = (n : Id RuntimeComponentInstances) × (c.resources.instance ≡ Some n) × (n.number ≡ instance)
IsKindFrom c of_stream (k_stream table instance) = (n : Id RuntimeComponentInstances) × (c.resources.instance ≡ Some n) × (n.number ≡ instance)
IsKindFrom c k l = ⊥

-- ---- a type of the source has a shape in a builder, by recursion on the shape

abbrev mutual
  pub HasSourceShape : SourceTables → Builder → ComponentValType → Shape → Type 0
  HasSourceShape s c v (s_plain p) = (e : ComponentDefinedType) × (defined_of s v ≡ Some e) × IsPlainFrom c e p
  HasSourceShape s c v (s_node k ms) = (e : ComponentDefinedType) × (n : SourceNode) × (defined_of s v ≡ Some e) × (source_node e ≡ Some n) × IsKindFrom c n.kind k × HaveSourceShapes s c n.members ms

  pub HaveSourceShapes : SourceTables → Builder → List (List ℕ × Option ComponentValType) → Members → Type 0
  HaveSourceShapes s c [] no_members = Unit {0}
  HaveSourceShapes s c (x ∷ xs) no_members = ⊥
  HaveSourceShapes s c [] (bare n ms) = ⊥
  HaveSourceShapes s c (x ∷ xs) (bare n ms) = (x.0 ≡ n) × (x.1 ≡ None) × HaveSourceShapes s c xs ms
  HaveSourceShapes s c [] (typed n t ms) = ⊥
  HaveSourceShapes s c (x ∷ xs) (typed n t ms) = (x.0 ≡ n) × ((v : ComponentValType) × (x.1 ≡ Some v) × HasSourceShape s c v t) × HaveSourceShapes s c xs ms
