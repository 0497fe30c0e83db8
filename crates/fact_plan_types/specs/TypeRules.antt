-- The rules for the types and the functions of a plan.
use Rattle.std.specs.Prelude.{◌≡◌, ◌≢◌, ℕ, ◌<◌, ◌≤◌, ◌⊎◌, List, [], ◌∷◌, ◌++◌, length, map, Any, AllPairs, Option, Some, None, slice_get, IsSomeAnd, IsTrue}
use Rattle.std.specs.List.{flat_map}
use Rattle.fact_types.specs.declared.abi.CanonicalAbiInfo.{CanonicalAbiInfo}
use Rattle.fact_types.specs.Layout.{payloads, record_layout}
use Rattle.fact_types.specs.Shapes.{k_map, Shape, s_node, layout_of, layouts_of}
use Rattle.fact_types.specs.Valid.{nesting}
use Rattle.fact_types.specs.Handles.{has_borrow}
use Rattle.fact_source.specs.declared.defined.PrimitiveValType.TheVariants as word
use Rattle.fact_plan.specs.declared.plan.PlanRef.{PlanRef}
use Rattle.fact_plan.specs.declared.plan.PlanRef.TheVariants.{Word, Entry}
use Rattle.fact_plan.specs.declared.plan.PlanType.{PlanType}
use Rattle.fact_plan.specs.declared.plan.PlanType.TheVariants as entry
use Rattle.fact_plan.specs.declared.plan.PlanFunc.{PlanFunc}
use Rattle.fact_plan.specs.declared.plan.FusePlan.{FusePlan}
use Rattle.fact_plan_types.specs.Faults.{Fault, unknown_index, bad_type, too_large}
use Rattle.fact_plan_types.specs.PlanShapes.{plan_shapes, shapes_of}

-- The most entries of a list of a plan, and the most tables.
abbrev pub most_entries : ℕ
most_entries = 268435456

-- The most bytes that values take.
abbrev pub most_bytes : ℕ
most_bytes = 4294967295

-- ---- what an entry names

-- the types of its members and its payload
abbrev pub optional : {A : Type 0} → Option A → List A
optional None = []
optional (Some x) = x ∷ []

abbrev pub types_in : PlanType → List PlanRef
types_in (entry.Record fs) = map (λ f. f.1) fs
types_in (entry.Variant cs) = flat_map (λ c. optional c.1) cs
types_in (entry.Tuple rs) = rs
types_in (entry.List r) = r ∷ []
types_in (entry.Option r) = r ∷ []
types_in (entry.Map key value) = key ∷ value ∷ []
types_in (entry.Result ok err) = optional ok ++ optional err
types_in (entry.Flags ns) = []
types_in (entry.Enum ns) = []
types_in (entry.FixedList r n) = r ∷ []
types_in (entry.Own n) = []
types_in (entry.Borrow n) = []
types_in (entry.Future payload i) = optional payload
types_in (entry.Stream payload i) = optional payload
types_in (entry.ErrorContext i) = []

-- the resource table of an own or a borrow
abbrev pub table_in : PlanType → Option ℕ
table_in (entry.Own n) = Some n
table_in (entry.Borrow n) = Some n
table_in _ = None

-- the instance of a future, a stream or an error context
abbrev pub instance_in : PlanType → Option ℕ
instance_in (entry.Future payload i) = Some i
instance_in (entry.Stream payload i) = Some i
instance_in (entry.ErrorContext i) = Some i
instance_in _ = None

-- the names of fields, cases, flags or enum cases
abbrev pub names_in : PlanType → List (List ℕ)
names_in (entry.Record fs) = map (λ f. f.0) fs
names_in (entry.Variant cs) = map (λ c. c.0) cs
names_in (entry.Flags ns) = ns
names_in (entry.Enum ns) = ns
names_in _ = []

-- ---- rules

-- the type is an entry, of this place or a later one
abbrev pub IsFrom : ℕ → PlanRef → Type 0
IsFrom k (Word w) = ⊥
IsFrom k (Entry j) = k ≤ j

abbrev pub IsErrorContext : PlanRef → Type 0
IsErrorContext (Word word.ErrorContext) = Unit {0}
IsErrorContext _ = ⊥

-- a name stands at two places
abbrev pub IsRepeated : List (List ℕ) → Type 0
IsRepeated names = AllPairs (λ x y. x ≢ y) names → ⊥

-- the plan has no such resource table, or the table is of an instance that the plan lacks
abbrev pub IsUnknown : ℕ → Option (ℕ × ℕ) → Type 0
IsUnknown instances None = Unit {0}
IsUnknown instances (Some table) = instances ≤ table.1

abbrev pub LacksTable : FusePlan → ℕ → Type 0
LacksTable p n = IsUnknown p.instances (slice_get p.tables n)

-- a record, variant, tuple, flags or enum without members, or a list of fixed length without elements
abbrev pub IsEmpty : PlanType → Type 0
IsEmpty (entry.Record []) = Unit {0}
IsEmpty (entry.Variant []) = Unit {0}
IsEmpty (entry.Tuple []) = Unit {0}
IsEmpty (entry.Flags []) = Unit {0}
IsEmpty (entry.Enum []) = Unit {0}
IsEmpty (entry.FixedList r n) = n ≡ 0
IsEmpty _ = ⊥

-- more than 32 flags
abbrev pub HasManyFlags : PlanType → Type 0
HasManyFlags (entry.Flags ns) = 32 < length ns
HasManyFlags _ = ⊥

-- the length of the list of an entry
abbrev pub list_length : PlanType → ℕ
list_length (entry.Record fs) = length fs
list_length (entry.Variant cs) = length cs
list_length (entry.Tuple rs) = length rs
list_length (entry.Flags ns) = length ns
list_length (entry.Enum ns) = length ns
list_length _ = 0

-- more than 4,096 cases
abbrev pub HasManyCases : PlanType → Type 0
HasManyCases (entry.Variant cs) = 4096 < length cs
HasManyCases _ = ⊥

-- values take more bytes than there can be, in one of the widths of memory
abbrev pub IsPast : CanonicalAbiInfo → Type 0
IsPast c = (most_bytes < c.size32) ⊎ (most_bytes < c.size64)

-- the same of the entries of a map, which are tuples of key and value
abbrev pub IsEntryPast : Shape → Type 0
IsEntryPast (s_node k_map ms) = IsPast (record_layout (payloads (layouts_of ms)))
IsEntryPast _ = ⊥

-- The values of a type are too large, or it nests too deep: a scalar, a text or a handle without a payload 1, another type 1
-- more than its deepest member or payload.
abbrev pub IsTooLarge : Shape → Type 0
IsTooLarge s = IsPast (layout_of s) ⊎ (IsEntryPast s ⊎ (100 < nesting s))

-- an entry names what the plan lacks, or has not before place k
abbrev pub NamesUnknown : FusePlan → ℕ → PlanType → Type 0
NamesUnknown p k e = Any (IsFrom k) (types_in e) ⊎ (IsSomeAnd (table_in e) (LacksTable p) ⊎ IsSomeAnd (instance_in e) (λ i. p.instances ≤ i))

-- an entry k has too large a place or table, too long a list or too many cases
abbrev pub IsLongEntry : ℕ → PlanType → Type 0
IsLongEntry k e = (most_entries ≤ k) ⊎ (IsSomeAnd (table_in e) (λ n. most_entries ≤ n) ⊎ ((most_entries < list_length e) ⊎ HasManyCases e))

-- An entry is no type.
abbrev pub IsBadType : PlanType → Type 0
IsBadType e = IsEmpty e ⊎ (IsRepeated (names_in e) ⊎ (HasManyFlags e ⊎ Any IsErrorContext (types_in e)))

-- An entry k of a plan's types, whose shape is s, has a fault of a kind.
abbrev pub TypeHas : FusePlan → ℕ → PlanType → Option Shape → Fault → Type 0
TypeHas p k e s unknown_index = NamesUnknown p k e
TypeHas p k e s bad_type = IsBadType e
TypeHas p k e s too_large = IsLongEntry k e ⊎ IsSomeAnd s IsTooLarge
TypeHas p k e s _ = ⊥

-- The parameters of a function, or its results, as a tuple, take more bytes than there can be.
abbrev pub tuple_layout : List Shape → CanonicalAbiInfo
tuple_layout ss = record_layout (map layout_of ss)

-- the types of parameters
abbrev pub param_types : PlanFunc → List PlanRef
param_types f = map (λ x. x.1) f.params

-- a function names an entry that the plan lacks, of which there are so many
abbrev pub NamesNoType : ℕ → PlanFunc → Type 0
NamesNoType count f = Any (IsFrom count) (param_types f) ⊎ Any (IsFrom count) f.results

-- a function is none, but for the borrows in its results
abbrev pub IsBadFunc : PlanFunc → Type 0
IsBadFunc f = IsRepeated (map (λ x. x.0) f.params) ⊎ (Any IsErrorContext (param_types f) ⊎ Any IsErrorContext f.results)

-- a function k has too large a place, or too long a list
abbrev pub IsLongFunc : ℕ → PlanFunc → Type 0
IsLongFunc k f = (most_entries ≤ k) ⊎ ((most_entries < length f.params) ⊎ (most_entries < length f.results))

-- A function k of a plan, whose parameters and results have these shapes, has a fault of a kind.
abbrev pub FuncHas : FusePlan → ℕ → PlanFunc → (params results : List Shape) → Fault → Type 0
FuncHas p k f params results unknown_index = NamesNoType (length p.types) f
FuncHas p k f params results bad_type = IsBadFunc f ⊎ Any (λ s. IsTrue (has_borrow s)) results
FuncHas p k f params results too_large = IsLongFunc k f ⊎ (IsPast (tuple_layout params) ⊎ IsPast (tuple_layout results))
FuncHas p k f params results _ = ⊥

-- ---- the entries of a plan

abbrev pub HasTypeFault : FusePlan → ℕ → Fault → Type 0
HasTypeFault p k f = IsSomeAnd (slice_get p.types k) (λ e. TypeHas p k e (slice_get (plan_shapes p) k) f)

abbrev pub param_shapes : FusePlan → PlanFunc → List Shape
param_shapes p f = shapes_of (plan_shapes p) (param_types f)

abbrev pub result_shapes : FusePlan → PlanFunc → List Shape
result_shapes p f = shapes_of (plan_shapes p) f.results

abbrev pub HasFuncFault : FusePlan → ℕ → Fault → Type 0
HasFuncFault p k f = IsSomeAnd (slice_get p.funcs k) (λ func. FuncHas p k func (param_shapes p func) (result_shapes p func) f)
