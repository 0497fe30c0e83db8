-- Cited by private clauses alone.
-- How the types of a plan stand in a builder.
use Rattle.std.specs.Prelude.{◌≡◌, ℕ, List, map, All, Option, Some, None, slice_get}
use Rattle.std.specs.List.{AllZip}
use Rattle.fact_types.specs.declared.interface.InterfaceType.{InterfaceType}
use Rattle.fact_types.specs.declared.kinds.TypeFuture.{TypeFuture}
use Rattle.fact_types.specs.declared.kinds.TypeFutureTable.{TypeFutureTable}
use Rattle.fact_types.specs.declared.kinds.TypeStream.{TypeStream}
use Rattle.fact_types.specs.declared.kinds.TypeStreamTable.{TypeStreamTable}
use Rattle.fact_types.specs.Functions.{HaveShapes}
use Rattle.fact_types.specs.Shapes.{Shape}
use Rattle.fact_types.specs.Tables.{Tables, IsLive, HasShape, payload_in}
use Rattle.fact_plan_types.specs.PlanShapes.{HandleTable, HandleTables}

-- A payload stands for that of a table, or both are absent.
abbrev pub PayloadStands : Tables → Option InterfaceType → Option Shape → Type 0
PayloadStands t None None = Unit {0}
PayloadStands t (Some ty) (Some s) = HasShape t ty s
PayloadStands t _ _ = ⊥

-- An entry of a table of handles is that of the plan: the type that it names has its payload, and it has its instance.
pub record IsHandleTable {E F : Type 0} (ty instance : E → ℕ) (payload : F → Option InterfaceType) (t : Tables) (fs : List F) (e : E) (x : HandleTable) : Type 0 where
  pub payload_stands : PayloadStands t (payload_in payload (slice_get fs (ty e))) x.payload
  pub same_instance : instance e ≡ x.instance

abbrev pub IsFutureTable : Tables → TypeFutureTable → HandleTable → Type 0
IsFutureTable t e x = IsHandleTable (λ (e : TypeFutureTable). e.ty.number) (λ (e : TypeFutureTable). e.instance.number) (λ (f : TypeFuture). f.payload) t t.futures e x

abbrev pub IsStreamTable : Tables → TypeStreamTable → HandleTable → Type 0
IsStreamTable t e x = IsHandleTable (λ (e : TypeStreamTable). e.ty.number) (λ (e : TypeStreamTable). e.instance.number) (λ (s : TypeStream). s.payload) t t.streams e x

-- These types stand for these shapes, and the tables of handles are these.
pub record Stand (t : Tables) (types : List InterfaceType) (shapes : List Shape) (h : HandleTables) : Type 0 where
  pub live : All (IsLive t) types
  pub shaped : HaveShapes t types shapes
  pub futures : AllZip (IsFutureTable t) t.future_tables h.futures
  pub streams : AllZip (IsStreamTable t) t.stream_tables h.streams
  pub error_contexts : map (λ e. e.instance.number) t.error_context_tables ≡ h.error_contexts
