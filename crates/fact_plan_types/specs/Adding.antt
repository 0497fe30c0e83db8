-- Cited by private clauses alone.
-- What adding the types and the functions of a plan does to a builder.
use Rattle.std.specs.Prelude.{◌⊎◌, ◌≡◌, ℕ, ◌+◌, ◌<◌, ◌≤◌, List, [], ◌∷◌, All, Any, length, map, take, slice_get, Some, Result, Err, IfOk, IfSome}
use Rattle.fact_entity.specs.declared.error.PushError.{PushError}
use Rattle.fact_entity.specs.declared.error.PushError.TheVariants.{TooLarge}
use Rattle.fact_entity.specs.declared.id.Id.{Id}
use Rattle.fact_entity.specs.declared.table.TypeFuncs.{TypeFuncs}
use Rattle.fact_entity.specs.declared.table.TypeTuples.{TypeTuples}
use Rattle.fact_types.specs.declared.interface.InterfaceType.{InterfaceType}
use Rattle.fact_types.specs.declared.interface.InterfaceType.TheVariants.{Tuple as t_tuple}
use Rattle.fact_types.specs.declared.kinds.TypeFunc.{TypeFunc}
use Rattle.fact_types.specs.Functions.{HaveShapes}
use Rattle.fact_types.specs.Shapes.{Shape, layout_of}
use Rattle.fact_types.specs.Tables.{Tables, IsLive, HasShape, entries}
use Rattle.fact_builder.specs.Builder.{Builder}
use Rattle.fact_builder.specs.Keeps.{Keeps}
use Rattle.fact_plan.specs.declared.plan.PlanRef.{PlanRef}
use Rattle.fact_plan.specs.declared.plan.PlanType.{PlanType}
use Rattle.fact_plan.specs.declared.plan.PlanFunc.{PlanFunc}
use Rattle.fact_plan.specs.declared.plan.FusePlan.{FusePlan}
use Rattle.fact_plan_types.specs.PlanShapes.{HandleTables, entry_shape, plan_shapes, shapes_of, tables_with, tuple_shape, tuples_among, with_tuple}
use Rattle.fact_plan_types.specs.PlanTypes.{HasTuples, IsFuncOf, func_tuples, resource_table}
use Rattle.fact_plan_types.specs.Standing.{Stand}
use Rattle.fact_plan_types.specs.TypeRules.{IsBadType, IsEntryPast, IsFrom, IsLongEntry, IsPast, param_types, table_in, tuple_layout, types_in}

-- The types before an entry are live, the entry breaks no rule for what it says itself, and its resource table is there.
pub record IsReady (t : Tables) (types : List InterfaceType) (e : PlanType) : Type 0 where
  pub live : All (IsLive t) types
  pub known : Any (IsFrom (length types)) (types_in e) → ⊥
  pub good : IsBadType e → ⊥
  pub short : IsLongEntry (length types) e → ⊥
  pub table : IfSome (table_in e) (λ n. n < length t.resource_tables)

-- Values of the type, or the entries of the map, take more bytes than there can be.
abbrev pub IsTooWide : Shape → Type 0
IsTooWide s = IsPast (layout_of s) ⊎ IsEntryPast s

-- No table that grows with the types and the functions has more than n entries.
pub record IsFilled (n : ℕ) (t : Tables) : Type 0 where
  pub members : entries t ≤ n
  pub functions : length t.functions ≤ n
  pub futures : length t.futures ≤ n
  pub streams : length t.streams ≤ n
  pub error_contexts : length t.error_context_tables ≤ n

-- The resource tables are the first ones of the plan.
abbrev pub AreFirst : FusePlan → Tables → Type 0
AreFirst p t = t.resource_tables ≡ map resource_table (take (length t.resource_tables) p.tables)

-- All that types stand for stays, and function types keep their indices.
pub record KeepsFuncs (old new : Tables) : Type 0 where
  pub all : Keeps old new
  pub funcs : (i : ℕ) (f : TypeFunc) → slice_get old.functions i ≡ Some f → slice_get new.functions i ≡ Some f

-- The parameters of a function, or its results, take more bytes than there can be as a tuple.
abbrev pub AreTuplesTooWide : PlanFunc → List Shape → Type 0
AreTuplesTooWide f shapes = IsPast (tuple_layout (shapes_of shapes (param_types f))) ⊎ IsPast (tuple_layout (shapes_of shapes f.results))

-- The type of an entry was looked for, and added where it was not there, given the types before it.
pub record AddsEntry (old new : Builder) (types : List InterfaceType) (e : PlanType) (result : Result InterfaceType PushError) : Type 0 where
  pub live : IfOk result (IsLive new.tables)
  pub shaped : IfOk result (λ ty. (shapes : List Shape) (h : HandleTables) → Stand old.tables types shapes h → HasShape new.tables ty (entry_shape shapes h e))
  pub stands : IfOk result (λ ty. (shapes : List Shape) (h : HandleTables) → Stand old.tables types shapes h → Stand new.tables types shapes (tables_with shapes h e))
  pub tuples : IfOk result (λ ty. (shapes : List Shape) (h : HandleTables) → Stand old.tables types shapes h → (ts : List Shape) → HasTuples old.tables ts → HasTuples new.tables (with_tuple ts (entry_shape shapes h e)))
  pub fits : IfOk result (λ ty. (shapes : List Shape) (h : HandleTables) → Stand old.tables types shapes h → IsTooWide (entry_shape shapes h e) → ⊥)
  pub too_large : result ≡ Err TooLarge → (n : ℕ) → n < 4294967295 → IsFilled n old.tables → (shapes : List Shape) (h : HandleTables) → Stand old.tables types shapes h → IsTooWide (entry_shape shapes h e)
  pub fills : IfOk result (λ ty. (n : ℕ) → IsFilled n old.tables → IsFilled (n + 1) new.tables)
  pub rest : IfOk result (λ ty. new.tables.resource_tables ≡ old.tables.resource_tables)

-- Resource tables of a plan were pushed to a builder, in order.
pub record Pushes (p : FusePlan) (old new : Builder) : Type 0 where
  pub others : new ≡ record old { tables = record old.tables { resource_tables = new.tables.resource_tables } }
  pub keeps : Keeps old.tables new.tables
  pub first : AreFirst p new.tables

-- The tuple of types was looked for, and added where it was not there.
pub record MakesTuple (old new : Builder) (types : List InterfaceType) (rs : List PlanRef) (result : Result (Id TypeTuples) PushError) : Type 0 where
  pub live : IfOk result (λ i. i.number < length new.tables.tuples)
  pub shaped : IfOk result (λ i. (shapes : List Shape) → HaveShapes old.tables types shapes → HasShape new.tables (t_tuple i) (tuple_shape shapes rs))
  pub tuples : IfOk result (λ i. (shapes : List Shape) → HaveShapes old.tables types shapes → (ts : List Shape) → HasTuples old.tables ts → HasTuples new.tables (with_tuple ts (tuple_shape shapes rs)))
  pub fits : IfOk result (λ i. (shapes : List Shape) → HaveShapes old.tables types shapes → IsPast (tuple_layout (shapes_of shapes rs)) → ⊥)
  pub too_large : result ≡ Err TooLarge → (n : ℕ) → n < 4294967295 → IsFilled n old.tables → (shapes : List Shape) → HaveShapes old.tables types shapes → IsPast (tuple_layout (shapes_of shapes rs))
  pub fills : IfOk result (λ i. (n : ℕ) → IsFilled n old.tables → IsFilled (n + 1) new.tables)
  pub keeps : IfOk result (λ i. Keeps old.tables new.tables)
  pub functions : IfOk result (λ i. new.tables.functions ≡ old.tables.functions)
  pub resource_tables : IfOk result (λ i. new.tables.resource_tables ≡ old.tables.resource_tables)

-- The tuples of a function and the function were looked for, and added where they were not there.
pub record AddsFunc (old new : Builder) (types : List InterfaceType) (f : PlanFunc) (result : Result (Id TypeFuncs) PushError) : Type 0 where
  pub added : IfOk result (λ i. (p : FusePlan) → HaveShapes old.tables types (plan_shapes p) → IsFuncOf p new.tables i f)
  pub fits : IfOk result (λ i. (shapes : List Shape) → HaveShapes old.tables types shapes → AreTuplesTooWide f shapes → ⊥)
  pub too_large : result ≡ Err TooLarge → (n : ℕ) → n < 4294967294 → IsFilled n old.tables → (shapes : List Shape) → HaveShapes old.tables types shapes → AreTuplesTooWide f shapes
  pub fills : IfOk result (λ i. (n : ℕ) → IsFilled n old.tables → IsFilled (n + 2) new.tables)
  pub tuples : IfOk result (λ i. (shapes : List Shape) → HaveShapes old.tables types shapes → (ts : List Shape) → HasTuples old.tables ts → HasTuples new.tables (tuples_among ts (func_tuples shapes (f ∷ []))))
  pub keeps : IfOk result (λ i. KeepsFuncs old.tables new.tables)
  pub rest : IfOk result (λ i. new.tables.resource_tables ≡ old.tables.resource_tables)
