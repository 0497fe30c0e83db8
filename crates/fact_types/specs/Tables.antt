-- The tables of types as lists, what types stand for in them, and what holds of them at all times.
use Rattle.std.specs.Prelude.{◌≡◌, ◌+◌, ◌<◌, ◌≤◌, ℕ, suc, List, [], ◌∷◌, length, map, All, Option, Some, None, Bool, true, false, slice_get, option_map}
use Rattle.fact_wasm.specs.declared.types.FuncType.{FuncType}
use Rattle.fact_types.specs.declared.abi.CanonicalAbiInfo.{CanonicalAbiInfo}
use Rattle.fact_types.specs.declared.interface.InterfaceType.{InterfaceType}
use Rattle.fact_types.specs.declared.interface.InterfaceType.TheVariants.{Record as t_record, Variant as t_variant, List as t_list, Tuple as t_tuple, Map as t_map, Flags as t_flags, Enum as t_enum, Option as t_option, Result as t_result, Own as t_own, Borrow as t_borrow, Future as t_future, Stream as t_stream, ErrorContext as t_error_context, FixedLengthList as t_fixed_length_list}
use Rattle.fact_types.specs.declared.interface.TypeDef.{TypeDef}
use Rattle.fact_types.specs.declared.interface.TypeDef.TheVariants.{Component, ComponentInstance, ComponentFunc, Interface, Module, CoreFunc, Resource}
use Rattle.fact_types.specs.declared.externs.ComponentExtern.{ComponentExtern}
use Rattle.fact_types.specs.declared.kinds.TypeFunc.{TypeFunc}
use Rattle.fact_types.specs.declared.kinds.TypeRecord.{TypeRecord}
use Rattle.fact_types.specs.declared.kinds.TypeTuple.{TypeTuple}
use Rattle.fact_types.specs.declared.kinds.TypeOption.{TypeOption}
use Rattle.fact_types.specs.declared.kinds.TypeResult.{TypeResult}
use Rattle.fact_types.specs.declared.kinds.TypeList.{TypeList}
use Rattle.fact_types.specs.declared.kinds.TypeMap.{TypeMap}
use Rattle.fact_types.specs.declared.kinds.TypeFixedLengthList.{TypeFixedLengthList}
use Rattle.fact_types.specs.declared.kinds.TypeFuture.{TypeFuture}
use Rattle.fact_types.specs.declared.kinds.TypeFutureTable.{TypeFutureTable}
use Rattle.fact_types.specs.declared.kinds.TypeStream.{TypeStream}
use Rattle.fact_types.specs.declared.kinds.TypeStreamTable.{TypeStreamTable}
use Rattle.fact_types.specs.declared.kinds.TypeErrorContextTable.{TypeErrorContextTable}
use Rattle.fact_types.specs.declared.kinds.TypeResourceTable.{TypeResourceTable}
use Rattle.fact_types.specs.Externs.{ModuleType, ComponentType, InstanceType}
use Rattle.fact_types.specs.Ordered.{VariantType, FlagsType, EnumType}
use Rattle.fact_types.specs.Layout.{scalar_layout, pointer_pair_layout}
use Rattle.fact_types.specs.Shapes.{Kind, k_record, k_variant, k_list, k_tuple, k_map, k_flags, k_enum, k_option, k_result, k_fixed, k_future, k_stream, Shape, s_plain, s_node, Members, no_members, bare, typed, none_name, some_name, ok_name, error_name, plain_layout, layout_by, Parts, no_parts, case_parts, entry_parts, parts_by, depth}

-- The tables, and the module types where they are set.
pub record Tables : Type 0 where
  pub modules : List ModuleType
  pub components : List ComponentType
  pub component_instances : List InstanceType
  pub functions : List TypeFunc
  pub records : List TypeRecord
  pub variants : List VariantType
  pub tuples : List TypeTuple
  pub flags : List FlagsType
  pub enums : List EnumType
  pub options : List TypeOption
  pub results : List TypeResult
  pub lists : List TypeList
  pub maps : List TypeMap
  pub fixed_length_lists : List TypeFixedLengthList
  pub futures : List TypeFuture
  pub future_tables : List TypeFutureTable
  pub streams : List TypeStream
  pub stream_tables : List TypeStreamTable
  pub error_context_tables : List TypeErrorContextTable
  pub resource_tables : List TypeResourceTable
  pub module_types : Option (List FuncType)

-- The names of the tables.
pub data Table : Type 0 where
  of_modules : Table
  of_components : Table
  of_component_instances : Table
  of_functions : Table
  of_records : Table
  of_variants : Table
  of_tuples : Table
  of_flags : Table
  of_enums : Table
  of_options : Table
  of_results : Table
  of_lists : Table
  of_maps : Table
  of_fixed_length_lists : Table
  of_futures : Table
  of_future_tables : Table
  of_streams : Table
  of_stream_tables : Table
  of_error_context_tables : Table
  of_resource_tables : Table

-- How many entries a table has.
abbrev pub entries_in : Tables → Table → ℕ
entries_in t of_modules = length t.modules
entries_in t of_components = length t.components
entries_in t of_component_instances = length t.component_instances
entries_in t of_functions = length t.functions
entries_in t of_records = length t.records
entries_in t of_variants = length t.variants
entries_in t of_tuples = length t.tuples
entries_in t of_flags = length t.flags
entries_in t of_enums = length t.enums
entries_in t of_options = length t.options
entries_in t of_results = length t.results
entries_in t of_lists = length t.lists
entries_in t of_maps = length t.maps
entries_in t of_fixed_length_lists = length t.fixed_length_lists
entries_in t of_futures = length t.futures
entries_in t of_future_tables = length t.future_tables
entries_in t of_streams = length t.streams
entries_in t of_stream_tables = length t.stream_tables
entries_in t of_error_context_tables = length t.error_context_tables
entries_in t of_resource_tables = length t.resource_tables

-- The tables without entries.
abbrev pub no_tables : Tables
no_tables = record { modules = []; components = []; component_instances = []; functions = []; records = []; variants = []; tuples = []; flags = []; enums = []; options = []; results = []; lists = []; maps = []; fixed_length_lists = []; futures = []; future_tables = []; streams = []; stream_tables = []; error_context_tables = []; resource_tables = []; module_types = None }

-- The module type of a number, where the module types are set and the number is below their length.
abbrev pub type_in : Option (List FuncType) → ℕ → Option FuncType
type_in None n = None
type_in (Some types) n = slice_get types n

abbrev pub module_type_at : Tables → ℕ → Option FuncType
module_type_at t n = type_in t.module_types n

-- ---- entries with members

-- An entry: its kind, its members by name, each with its type where it has one, its layout, and where its parts stand.
pub record Node : Type 0 where
  pub kind : Kind
  pub members : List (List ℕ × Option InterfaceType)
  pub abi : CanonicalAbiInfo
  pub parts : Parts

abbrev pub record_node : TypeRecord → Node
record_node e = record { kind = k_record; members = map (λ f. (f.name, Some f.ty)) e.fields; abi = e.abi; parts = no_parts }

abbrev pub variant_node : VariantType → Node
variant_node e = record { kind = k_variant; members = e.cases; abi = e.abi; parts = case_parts e.info }

-- Types that are named by their places, from a place on.
abbrev pub placed : ℕ → List InterfaceType → List (List ℕ × Option InterfaceType)
placed n [] = []
placed n (y ∷ ys) = (n ∷ [], Some y) ∷ placed (suc n) ys

abbrev pub tuple_node : TypeTuple → Node
tuple_node e = record { kind = k_tuple; members = placed 0 e.types; abi = e.abi; parts = no_parts }

abbrev pub flags_node : FlagsType → Node
flags_node e = record { kind = k_flags; members = map (λ n. (n, None)) e.names; abi = e.abi; parts = no_parts }

abbrev pub enum_node : EnumType → Node
enum_node e = record { kind = k_enum; members = map (λ n. (n, None)) e.names; abi = e.abi; parts = case_parts e.info }

abbrev pub option_node : TypeOption → Node
option_node e = record {
  kind = k_option;
  members = (none_name, None) ∷ (some_name, Some e.ty) ∷ [];
  abi = e.abi;
  parts = case_parts e.info;
}

abbrev pub result_node : TypeResult → Node
result_node e = record {
  kind = k_result;
  members = (ok_name, e.ok) ∷ (error_name, e.err) ∷ [];
  abi = e.abi;
  parts = case_parts e.info;
}

abbrev pub list_node : TypeList → Node
list_node e = record { kind = k_list; members = ([], Some e.element) ∷ []; abi = pointer_pair_layout; parts = no_parts }

abbrev pub map_node : TypeMap → Node
map_node e = record {
  kind = k_map;
  members = (0 ∷ [], Some e.key) ∷ (1 ∷ [], Some e.value) ∷ [];
  abi = pointer_pair_layout;
  parts = entry_parts e.entry_abi e.value_offset32 e.value_offset64;
}

abbrev pub fixed_length_list_node : TypeFixedLengthList → Node
fixed_length_list_node e = record { kind = k_fixed e.size; members = ([], Some e.element) ∷ []; abi = e.abi; parts = no_parts }

-- The payload of an entry that is named, none where there is no such entry.
abbrev pub payload_in : {E : Type 0} → (E → Option InterfaceType) → Option E → Option InterfaceType
payload_in f None = None
payload_in f (Some e) = f e

-- A table of futures or of streams has the payload of its type as member.
abbrev pub future_node : List TypeFuture → ℕ → TypeFutureTable → Node
future_node fs table e = record {
  kind = k_future table e.instance.number;
  members = ([], payload_in (λ f. f.payload) (slice_get fs e.ty.number)) ∷ [];
  abi = scalar_layout 4;
  parts = no_parts;
}

abbrev pub stream_node : List TypeStream → ℕ → TypeStreamTable → Node
stream_node ss table e = record {
  kind = k_stream table e.instance.number;
  members = ([], payload_in (λ s. s.payload) (slice_get ss e.ty.number)) ∷ [];
  abi = scalar_layout 4;
  parts = no_parts;
}

-- The entry that a type names, where it has members.
abbrev pub node_of : Tables → InterfaceType → Option Node
node_of t (t_record i) = option_map record_node (slice_get t.records i.number)
node_of t (t_variant i) = option_map variant_node (slice_get t.variants i.number)
node_of t (t_list i) = option_map list_node (slice_get t.lists i.number)
node_of t (t_tuple i) = option_map tuple_node (slice_get t.tuples i.number)
node_of t (t_map i) = option_map map_node (slice_get t.maps i.number)
node_of t (t_flags i) = option_map flags_node (slice_get t.flags i.number)
node_of t (t_enum i) = option_map enum_node (slice_get t.enums i.number)
node_of t (t_option i) = option_map option_node (slice_get t.options i.number)
node_of t (t_result i) = option_map result_node (slice_get t.results i.number)
node_of t (t_future i) = option_map (future_node t.futures i.number) (slice_get t.future_tables i.number)
node_of t (t_stream i) = option_map (stream_node t.streams i.number) (slice_get t.stream_tables i.number)
node_of t (t_fixed_length_list i) = option_map fixed_length_list_node (slice_get t.fixed_length_lists i.number)
node_of t _ = None

-- The type has no members.
abbrev pub is_plain : InterfaceType → Bool
is_plain (t_record i) = false
is_plain (t_variant i) = false
is_plain (t_list i) = false
is_plain (t_tuple i) = false
is_plain (t_map i) = false
is_plain (t_flags i) = false
is_plain (t_enum i) = false
is_plain (t_option i) = false
is_plain (t_result i) = false
is_plain (t_future i) = false
is_plain (t_stream i) = false
is_plain (t_fixed_length_list i) = false
is_plain _ = true

-- The layout of an entry, or another where there is none.
abbrev pub abi_of_node : CanonicalAbiInfo → Option Node → CanonicalAbiInfo
abi_of_node d None = d
abi_of_node d (Some n) = n.abi

-- The layout that stands in the tables for a type.
abbrev pub abi_at : Tables → InterfaceType → CanonicalAbiInfo
abi_at t ty = abi_of_node (plain_layout ty) (node_of t ty)

-- ---- live indices: those below the lengths of their tables
abbrev pub IsLive : Tables → InterfaceType → Type 0
IsLive t (t_record i) = i.number < length t.records
IsLive t (t_variant i) = i.number < length t.variants
IsLive t (t_list i) = i.number < length t.lists
IsLive t (t_tuple i) = i.number < length t.tuples
IsLive t (t_map i) = i.number < length t.maps
IsLive t (t_flags i) = i.number < length t.flags
IsLive t (t_enum i) = i.number < length t.enums
IsLive t (t_option i) = i.number < length t.options
IsLive t (t_result i) = i.number < length t.results
IsLive t (t_own i) = i.number < length t.resource_tables
IsLive t (t_borrow i) = i.number < length t.resource_tables
IsLive t (t_future i) = i.number < length t.future_tables
IsLive t (t_stream i) = i.number < length t.stream_tables
IsLive t (t_error_context i) = i.number < length t.error_context_tables
IsLive t (t_fixed_length_list i) = i.number < length t.fixed_length_lists
IsLive t _ = Unit {0}

abbrev pub IsLiveMember : Tables → Option InterfaceType → Type 0
IsLiveMember t None = Unit {0}
IsLiveMember t (Some ty) = IsLive t ty

abbrev pub IsLiveDef : Tables → TypeDef → Type 0
IsLiveDef t (Component i) = i.number < length t.components
IsLiveDef t (ComponentInstance i) = i.number < length t.component_instances
IsLiveDef t (ComponentFunc i) = i.number < length t.functions
IsLiveDef t (Interface ty) = IsLive t ty
IsLiveDef t (Module i) = i.number < length t.modules
IsLiveDef t (CoreFunc i) = Unit {0}
IsLiveDef t (Resource i) = i.number < length t.resource_tables

pub record IsLiveFunc (t : Tables) (f : TypeFunc) : Type 0 where
  pub params : f.params.number < length t.tuples
  pub results : f.results.number < length t.tuples

abbrev pub AreLiveExterns : Tables → List (List ℕ × ComponentExtern) → Type 0
AreLiveExterns t xs = All (λ x. IsLiveDef t x.1.ty) xs

pub record IsLiveComponent (t : Tables) (c : ComponentType) : Type 0 where
  pub imports : AreLiveExterns t c.imports
  pub exports : AreLiveExterns t c.exports

-- The entries of a table without layout name live indices: those of the table in t are live in u.
abbrev pub AreHeldLive : Tables → Tables → Table → Type 0
AreHeldLive u t of_functions = All (IsLiveFunc u) t.functions
AreHeldLive u t of_components = All (IsLiveComponent u) t.components
AreHeldLive u t of_component_instances = All (λ c. AreLiveExterns u c.exports) t.component_instances
AreHeldLive u t of_futures = All (λ f. IsLiveMember u f.payload) t.futures
AreHeldLive u t of_streams = All (λ s. IsLiveMember u s.payload) t.streams
AreHeldLive u t of_future_tables = All (λ e. e.ty.number < length u.futures) t.future_tables
AreHeldLive u t of_stream_tables = All (λ e. e.ty.number < length u.streams) t.stream_tables
AreHeldLive u t _ = Unit {0}

-- ---- shapes

-- How many entries with members there are.
abbrev pub entries : Tables → ℕ
entries t = length t.records + length t.variants + length t.tuples + length t.flags + length t.enums + length t.options + length t.results + length t.lists + length t.maps + length t.fixed_length_lists + length t.future_tables + length t.stream_tables

-- The type stands for the shape.
abbrev mutual
  pub HasShape : Tables → InterfaceType → Shape → Type 0
  HasShape t ty (s_plain p) = (ty ≡ p) × (is_plain p ≡ true)
  HasShape t ty (s_node k ms) = (n : Node) × (node_of t ty ≡ Some n) × (n.kind ≡ k) × HasMembers t n.members ms

  pub HasMembers : Tables → List (List ℕ × Option InterfaceType) → Members → Type 0
  HasMembers t [] no_members = Unit {0}
  HasMembers t (x ∷ xs) no_members = ⊥
  HasMembers t [] (bare n ms) = ⊥
  HasMembers t (x ∷ xs) (bare n ms) = (x.0 ≡ n) × (x.1 ≡ None) × HasMembers t xs ms
  HasMembers t [] (typed n s ms) = ⊥
  HasMembers t (x ∷ xs) (typed n s ms) = (x.0 ≡ n) × ((ty : InterfaceType) × (x.1 ≡ Some ty) × HasShape t ty s) × HasMembers t xs ms

-- An entry stands in the tables: its members are live, and it is laid out as they are in the tables.
pub record Stands (t : Tables) (n : Node) : Type 0 where
  pub live : All (λ m. IsLiveMember t m.1) n.members
  pub laid : n.abi ≡ layout_by n.kind (map (λ m. option_map (abi_at t) m.1) n.members)
  pub parts : n.parts ≡ parts_by n.kind (map (λ m. option_map (abi_at t) m.1) n.members)

-- What holds of the tables at all times: each entry stands, a live type has a shape, no deeper than there are entries,
-- and every index that an entry holds is live.
pub record IsSound (t : Tables) : Type 0 where
  pub stands : (ty : InterfaceType) (n : Node) → node_of t ty ≡ Some n → Stands t n
  pub shaped : (ty : InterfaceType) → IsLive t ty → (s : Shape) × HasShape t ty s × (depth s ≤ entries t)
  pub held_live : (table : Table) → AreHeldLive t t table
