-- What the imports of a module say of adapters that the checks let pass.
use Rattle.std.specs.Prelude.{◌≡◌, [], ◌∷◌, ◌++◌, length}
use Rattle.std.specs.List.{flat_map}
use Rattle.fact_wasm.specs.declared.module.WasmModule.{WasmModule}
use Rattle.fact_types.specs.Adapters.{LinkedAdapter}
use Rattle.fact_emit.specs.ImportSection.{adapter_mentions}
use Rattle.fact_emit.specs.AdapterImports.{AdapterImports}
use Rattle.fact_emit.specs.Known.{AreUsedAlike}
use Rattle.fact_emit.specs.KnownAdapters.{KnowsAdapter}
use Rattle.fact_emit.specs.PlacesOf.{import_places}
use Rattle.fact_emit.specs.States.{ModuleSoFar}
use Rattle.fact_assembly.specs.Sound.{EachPassed, TellsMemories}

-- Each definition that such an adapter or one of those before it mentions is used with one kind and one type.
abbrev pub PassedAreUsedAlike : Type 0
PassedAreUsedAlike = EachPassed (λ before a. AreUsedAlike (flat_map adapter_mentions (before ++ a ∷ [])))

-- A module in which each import is at the first place of its kind tells the memories of an adapter, where it has what the adapter
-- names.
abbrev pub KnownTellMemories : Type 0
KnownTellMemories =
    (M : WasmModule) (s : ModuleSoFar) (a : LinkedAdapter) (at : AdapterImports) → length s.section ≡ length s.imports → KnowsAdapter M (import_places s) a at → TellsMemories (import_places s) a
