-- A module that imports what was imported so far has all that code asked for.
use Rattle.std.proofs.Common.{◌≡◌, true, sym, ap, ◌∙◌, slice_get}
use Rattle.std.specs.List.{filter_map}
use Rattle.fact_wasm.specs.declared.types.ValType.TheVariants as val
use Rattle.fact_wasm.specs.declared.module.WasmModule.{WasmModule}
use Rattle.fact_machine.specs.Machine.{func_import, memory_import}
use Rattle.fact_machine.specs.Typed.{type_of_global, type_of_memory}
use Rattle.fact_machine.specs.Typing.{global_import}
use Rattle.fact_actions.specs.Running.{ImportPlaces}
use Rattle.fact_code_laws.specs.Knows.{ArePlacesOf}
use Rattle.fact_types.specs.declared.import.Import.TheVariants as known
use Rattle.fact_emit.specs.ImportedPlaces.{AreImportPlaces}
use Rattle.fact_emit.specs.Imports.{Extended, Serves}
use Rattle.fact_emit.specs.States.{ModuleSoFar}
use Rattle.fact_emit.proofs.ImportLaws.{global_at, grown_get, later_flags, later_import, later_memory, memory_at}

-- It has what was imported earlier.
pub serves_sooner : {M : WasmModule} {p : ImportPlaces} {old new : ModuleSoFar} → Extended old new → Serves M p new → Serves M p old
serves_sooner e s = record {
  imports = λ i place params results h. s.imports i place params results (later_import e h);
  functions = λ i place params results made h. s.functions i place params results made (later_import e h);
  memories = λ d place memory64 log2 h. s.memories d place memory64 log2 (later_memory e h);
  flags = λ instance place h. s.flags instance place (later_flags e h);
  one_memory = λ d f place at there. s.one_memory d f place at (grown_get e.memories place (known.CoreDef f) there);
}

module _ (M : WasmModule) (p : ImportPlaces) (s : ModuleSoFar) (imports : M.imports ≡ s.section) (types : M.types ≡ s.types) (places : AreImportPlaces s p) where
  pub serves_all : Serves M p s
  serves_all = record {
    imports = λ i n params results h. record {
      type_at = h.type_at;
      imported = ap (λ ws. func_import ws n) imports ∙ h.imported;
      type_is = ap (λ ts. slice_get ts h.type_at) types ∙ h.type_is;
    };
    functions = λ i n params results made h. record {
      type_at = h.type_at;
      placed = places.functions i n made h.there;
      imported = ap (λ ws. func_import ws n) imports ∙ h.imported;
      type_is = ap (λ ts. slice_get ts h.type_at) types ∙ h.type_is;
    };
    memories = λ d n memory64 log2 h. record {
      placed = places.memories d n h.there;
      kind = ap (λ ts. slice_get ts n) places.memory_types ∙ memory_at s.section n (memory64, log2) h.imported;
      imported = ap (λ ws. memory_import ws n) imports ∙ h.imported;
    };
    flags = λ i n h. record {
      placed = places.flags (record { table = _; number = i }) n h.there;
      kind = ap (λ ts. slice_get ts n) places.global_types ∙ global_at s.section n (val.I32, true) h.imported;
      imported = ap (λ ws. global_import ws n) imports ∙ h.imported;
    };
    one_memory = places.one_memory;
  }

  pub places_of_all : ArePlacesOf M p
  places_of_all = record {
    memories = places.memory_types ∙ ap (filter_map type_of_memory) (sym imports);
    globals = places.global_types ∙ ap (filter_map type_of_global) (sym imports);
  }
