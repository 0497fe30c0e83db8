-- What contracts see of the builder, and what holds of it at all times.
use Rattle.std.specs.Prelude.{ℕ, List, []}
use Rattle.fact_wasm.specs.declared.types.FuncType.{FuncType}
use Rattle.fact_types.specs.Tables.{Tables, no_tables}
use Rattle.fact_builder.specs.Known.{KnownResources, no_resources}

-- The number of the source that types come from, the tables of types, and the core function types; what is known of the
-- resources of the source, and how many abstract ones have numbers.
pub record Builder : Type 0 where
  pub source : ℕ
  pub tables : Tables
  pub module_types : List FuncType
  pub resources : KnownResources
  pub abstracts : ℕ

-- A builder without types and resources, for those of the source of a number.
abbrev pub no_types : (source : ℕ) → Builder
no_types source = record { source = source; tables = no_tables; module_types = []; resources = no_resources; abstracts = 0 }
