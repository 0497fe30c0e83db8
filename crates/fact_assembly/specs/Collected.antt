-- A module as contracts see it while adapters are added to it.
use Rattle.std.specs.Prelude.{◌≡◌, ℕ, Bool, true, List, [], ◌∷◌, ◌++◌, None, Some, All, slice_get}
use Rattle.std.specs.List.{AllZip}
use Rattle.fact_wasm.specs.declared.instr.FuncName.{FuncName}
use Rattle.fact_wasm.specs.declared.module.WasmModule.{WasmModule}
use Rattle.fact_wasm.specs.Ranges.{InRange}
use Rattle.fact_builder.specs.Builder.{Builder}
use Rattle.fact_plan_types.specs.Faults.{Fault}
use Rattle.fact_adapter_rules.specs.declared.sides.Candidate.{Candidate}
use Rattle.fact_types.specs.Adapters.{LinkedAdapter}
use Rattle.fact_adapter_rules.specs.AdapterRules.{LinkedHas}
use Rattle.fact_adapter_rules.specs.Checked.{AreChecked, Checks}
use Rattle.fact_adapter_rules.specs.Linked.{HasSides}
use Rattle.fact_types.specs.declared.import.Import.{Import}
use Rattle.fact_emit.specs.declared.tunables.Tunables.{Tunables}
use Rattle.fact_emit.specs.declared.tunables.WasmFeatures.{WasmFeatures}
use Rattle.fact_assembly.specs.declared.taken.TakenAdapter.{TakenAdapter}
use Rattle.fact_emit.specs.States.{ModuleSoFar}
use Rattle.fact_compound.specs.Entries.{tuple_of_results}
use Rattle.fact_assembly.specs.Sound.{IsSoundAdapter}
use Rattle.fact_assembly.specs.Adding.{Given}
use Rattle.fact_assembly.specs.Exports.{exported_as}
use Rattle.fact_assembly.specs.Faithful.{Promised, adapter_tunables}
use Rattle.fact_assembly.specs.Holding.{HasNoSharedMemory, HoldTypesOnce, Holds}

-- ---- a module

-- The builder of its types, what it was made with, the adapters that it took, its tree, what its imports are, and whether it is
-- whole: a want of memory leaves it in parts for good.
pub record Collected : Type 0 where
  pub builder : Builder
  pub tunables : Tunables
  pub features : WasmFeatures
  pub taken : List TakenAdapter
  pub tree : WasmModule
  pub imports : List Import
  pub whole : Bool

abbrev pub no_tree : WasmModule
no_tree = record { types = []; imports = []; funcs = []; exports = [] }

-- An adapter that was taken, with all that it names looked up in a builder.
pub record IsTakenAs (b : Builder) (t : TakenAdapter) (a : LinkedAdapter) : Type 0 where
  pub sides : HasSides b t.adapter a
  pub name : a.name ≡ t.name
  pub transparent : a.transparent ≡ t.transparent

-- The adapters that it took are these.
abbrev pub AreTaken : Collected → List LinkedAdapter → Type 0
AreTaken c adapters = AllZip (IsTakenAs c.builder) c.taken adapters

abbrev pub taken_of : Candidate → TakenAdapter
taken_of c = record { name = c.name.now; transparent = c.transparent; adapter = c.adapter.now }

-- What it was made with stays.
pub record KeepsSettings (old new : Collected) : Type 0 where
  pub builder : new.builder ≡ old.builder
  pub tunables : new.tunables ≡ old.tunables
  pub features : new.features ≡ old.features

-- It took one adapter more.
pub record HasTaken (old new : Collected) (t : TakenAdapter) : Type 0 where
  pub taken : new.taken ≡ old.taken ++ t ∷ []
  pub whole : new.whole ≡ true

-- Behind the adapters that it took, with all that they and this one name looked up, this one has a fault.
pub record HasLinkedFault (c : Collected) (t : TakenAdapter) (f : Fault) : Type 0 where
  pub before : List LinkedAdapter
  pub linked : LinkedAdapter
  pub taken : AreTaken c before
  pub is_linked : IsTakenAs c.builder t linked
  pub has : LinkedHas c.tunables.concurrency_support before linked f

-- The list is the other with more behind it.
pub record BeginsWithList {A : Type 0} (list first : List A) : Type 0 where
  pub more : List A
  pub is : list ≡ first ++ more

-- Its tree has more behind the types, imports and functions from before, and what was exported is exported as it was.
pub record Extends (old new : Collected) : Type 0 where
  pub types : BeginsWithList new.tree.types old.tree.types
  pub section : BeginsWithList new.tree.imports old.tree.imports
  pub imports : BeginsWithList new.imports old.imports
  pub functions : BeginsWithList new.tree.funcs old.tree.funcs
  pub exports : (name : List ℕ) (f : FuncName) → exported_as name old.tree.exports ≡ Some f → exported_as name new.tree.exports ≡ Some f

-- The number of the tuple of the results of the lift side's function, of the adapter that it took at a place.
abbrev pub result_tuple_of : Collected → (place : ℕ) → ℕ
result_tuple_of c place = elim (slice_get c.taken place) [ None ↦ 0 | Some t ↦ tuple_of_results c.builder.tables t.adapter.lift_ty ]

-- Its tree promises all that the module of the adapters that it took does.
pub record KeepsPromises (c : Collected) : Type 0 where
  pub in_range : InRange c.tree
  pub adapters : List LinkedAdapter
  pub taken : AreTaken c adapters
  pub promised : (them : List LinkedAdapter) → AreTaken c them → Promised c.tree c.imports c.tunables c.features them (result_tuple_of c)

-- ---- what holds of it at all times

-- what functions are compiled by besides the tunables of actions
abbrev pub given_of : Builder → Tunables → Given
given_of b tunables = record { fuel = tunables.fuel; cores = b.module_types }

-- The checks and the parts of the module are those of these adapters.
pub record IsStateOf (c : Collected) (checks : Checks) (s : ModuleSoFar) (adapters : List LinkedAdapter) : Type 0 where
  pub checked : AreChecked checks adapters
  pub holds : Holds c.builder.tables (adapter_tunables c.tunables c.features) (given_of c.builder c.tunables) s adapters (result_tuple_of c)
  pub sound : All IsSoundAdapter adapters
  pub unshared : All HasNoSharedMemory adapters

pub record IsMade (c : Collected) (checks : Checks) (s : ModuleSoFar) : Type 0 where
  pub builder : checks.builder ≡ c.builder
  pub concurrency : checks.concurrency ≡ c.tunables.concurrency_support
  pub once : HoldTypesOnce c.builder.tables c.builder.module_types
  pub some : (adapters : List LinkedAdapter) × AreTaken c adapters
  pub covers : c.whole ≡ true → (adapters : List LinkedAdapter) → AreTaken c adapters → IsStateOf c checks s adapters
