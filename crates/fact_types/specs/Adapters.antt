-- Adapters, with all that they name looked up.
-- Component Model, canonical ABI, "Canonical ABI options", `canon lift`, `canon lower`.
use Rattle.std.specs.Prelude.{ℕ, Bool, false, ◌&&◌, ◌||◌, not, nat_eq, List, Option, Some, None}
use Rattle.std.specs.Str.{bytes_eq}
use Rattle.fact_wasm.specs.declared.types.FuncType.{FuncType}
use Rattle.fact_types.specs.declared.outside.CoreDef.{CoreDef}
use Rattle.fact_types.specs.declared.outside.CoreDef.TheVariants as def
use Rattle.fact_types.specs.declared.outside.MemoryOption.{MemoryOption}
use Rattle.fact_types.specs.declared.outside.StringEncoding.{StringEncoding}
use Rattle.fact_types.specs.Shapes.{Shape}

-- one side of an adapter: its instance, the shapes of the parameters and results of its function type, its core type, its
-- options
pub record Side : Type 0 where
  pub instance : ℕ
  pub params : List Shape
  pub results : List Shape
  pub async_type : Bool
  pub core_type : FuncType
  pub encoding : StringEncoding
  pub async_side : Bool
  pub memory : Option MemoryOption
  pub realloc : Option CoreDef
  pub callback : Option CoreDef
  pub post_return : Option CoreDef

-- the lift side (the callee's) gives the function that the lower side (the caller's) calls
pub record LinkedAdapter : Type 0 where
  pub name : List ℕ
  pub callee : CoreDef
  pub transparent : Bool
  pub lift : Side
  pub lower : Side

-- an adapter is async where a side is or either function type is marked so
abbrev pub is_async : LinkedAdapter → Bool
is_async a = a.lift.async_side || a.lower.async_side || a.lift.async_type || a.lower.async_type

-- an adapter between two instances; one that is async too is `is_awaited` (fact_emit)
abbrev pub is_crossing : LinkedAdapter → Bool
is_crossing a = not (nat_eq a.lift.instance a.lower.instance)

-- the addresses of a side's memory have 64 bits
abbrev pub is_wide : Option MemoryOption → Bool
is_wide None = false
is_wide (Some m) = m.memory64

-- whether two core definitions name one core item: they are equal by content
abbrev pub same_def : CoreDef → CoreDef → Bool
same_def (def.Export i x) (def.Export j y) = nat_eq i.number j.number && bytes_eq x y
same_def (def.InstanceFlags i) (def.InstanceFlags j) = nat_eq i.number j.number
same_def (def.Trampoline i) (def.Trampoline j) = nat_eq i.number j.number
same_def _ _ = false
