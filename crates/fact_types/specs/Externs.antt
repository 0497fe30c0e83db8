-- What contracts see of types of modules, components and instances: their lists of imports and exports.
use Rattle.std.specs.Prelude.{ℕ, List}
use Rattle.fact_types.specs.declared.externs.EntityType.{EntityType}
use Rattle.fact_types.specs.declared.externs.ComponentExtern.{ComponentExtern}

-- A core module: its imports by their two names, and its exports by name, in order.
pub record ModuleType : Type 0 where
  pub imports : List ((List ℕ × List ℕ) × EntityType)
  pub exports : List (List ℕ × EntityType)

-- A component: its imports and exports by name, in order.
pub record ComponentType : Type 0 where
  pub imports : List (List ℕ × ComponentExtern)
  pub exports : List (List ℕ × ComponentExtern)

-- An instance: its exports by name, in order.
pub record InstanceType : Type 0 where
  pub exports : List (List ℕ × ComponentExtern)
