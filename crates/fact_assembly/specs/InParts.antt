-- Cited by private clauses alone.
-- How the sections of a module that is being made stand, adapter by adapter.
use Rattle.std.specs.Prelude.{◌≡◌, List, [], ◌++◌}
use Rattle.std.specs.List.{filter_map, flat_map}
use Rattle.fact_types.specs.Adapters.{LinkedAdapter}
use Rattle.fact_types.specs.declared.import.Import.{Import}
use Rattle.fact_emit.specs.NamedFunctions.{defined_place}
use Rattle.fact_emit.specs.States.{ModuleSoFar, functions_of}
use Rattle.fact_assembly.specs.Order.{AreParts, ModulePart, functions_of_part, items, items_in, own_places}

-- Its imports and functions stand adapter by adapter, also where more functions are imported behind its own.
pub record IsInParts (s : ModuleSoFar) (more : List Import) (adapters : List LinkedAdapter) : Type 0 where
  pub parts : List ModulePart
  pub are_parts : AreParts (functions_of s ++ more) [] adapters parts
  pub imports : items 0 s.section s.imports ≡ flat_map items_in parts
  pub functions : s.functions ≡ flat_map functions_of_part parts
  pub exports : filter_map (λ e. defined_place e.func) s.exports ≡ own_places 0 parts
