-- Where a module has what it imports.
use Rattle.std.specs.Prelude.{◌≡◌, ℕ, Some, true, slice_get}
use Rattle.std.specs.List.{filter_map}
use Rattle.fact_entity.specs.declared.id.Id.{Id}
use Rattle.fact_entity.specs.declared.table.RuntimeComponentInstances.{RuntimeComponentInstances}
use Rattle.fact_machine.specs.Typed.{type_of_global, type_of_memory}
use Rattle.fact_types.specs.declared.outside.CoreDef.{CoreDef}
use Rattle.fact_types.specs.declared.outside.CoreDef.TheVariants as def
use Rattle.fact_types.specs.declared.import.Import.{Import}
use Rattle.fact_types.specs.declared.import.Import.TheVariants as known
use Rattle.fact_actions.specs.Running.{ImportPlaces}
use Rattle.fact_emit.specs.ImportSection.{is_made_once}
use Rattle.fact_emit.specs.States.{ModuleSoFar, functions_of, globals_of, memories_of}

-- The places are those at which the module imports what is named and made once. No other definition has the place of an imported memory.
pub record AreImportPlaces (s : ModuleSoFar) (p : ImportPlaces) : Type 0 where
  pub functions : (i : Import) (n : ℕ) → is_made_once i ≡ true → slice_get (functions_of s) n ≡ Some i → p.function i ≡ n
  pub memories : (d : CoreDef) (n : ℕ) → slice_get (memories_of s) n ≡ Some (known.CoreDef d) → p.memory d ≡ n
  pub one_memory : (d e : CoreDef) (n : ℕ) → p.memory d ≡ n → slice_get (memories_of s) n ≡ Some (known.CoreDef e) → d ≡ e
  pub flags : (i : Id RuntimeComponentInstances) (n : ℕ) → slice_get (globals_of s) n ≡ Some (known.CoreDef (def.InstanceFlags i)) → p.flags i.number ≡ n
  pub memory_types : p.memory_types ≡ filter_map type_of_memory s.section
  pub global_types : p.global_types ≡ filter_map type_of_global s.section
