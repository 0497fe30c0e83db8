-- Modules that have the memories of an adapter tell them apart: a place has one import.
use Rattle.std.proofs.Common.{◌≡◌, ◌<◌, true, List, [], ◌∷◌, length, get_or, Option, Some, None, refl, sym, ap, ◌∙◌, arith, slice_get}
use Rattle.std.specs.List.{filter_map}
use Rattle.std.proofs.lemmas.Bool.{false≢true}
use Rattle.std.proofs.lemmas.List.{get_or_default}
use Rattle.std.proofs.lemmas.List.Sums.{passes_at_first}
use Rattle.std.proofs.lemmas.Option.{slice_get_within}
use Rattle.fact_wasm.specs.declared.module.ImportType.{ImportType}
use Rattle.fact_wasm.specs.declared.module.ImportType.TheVariants as import
use Rattle.fact_wasm.specs.declared.module.WasmImport.{WasmImport}
use Rattle.fact_wasm.specs.declared.module.WasmModule.{WasmModule}
use Rattle.fact_machine.specs.Typed.{type_of_memory}
use Rattle.fact_types.specs.declared.outside.CoreDef.{CoreDef}
use Rattle.fact_types.specs.declared.outside.MemoryOption.{MemoryOption}
use Rattle.fact_types.specs.declared.import.Import.{Import}
use Rattle.fact_types.specs.declared.import.Import.TheVariants as known
use Rattle.fact_types.specs.Adapters.{Side}
use Rattle.fact_types.specs.Exact.{exact_def}
use Rattle.fact_actions.specs.Running.{ImportPlaces}
use Rattle.fact_action_laws.specs.Places.{HasKnownMemory}
use Rattle.fact_emit.specs.AdapterImports.{SideImports}
use Rattle.fact_emit.specs.ImportSection.{a_memory, imports_of}
use Rattle.fact_emit.specs.KnownAdapters.{KnowsSide}
use Rattle.fact_emit.specs.PlacesOf.{import_places, place_among, same_import}
use Rattle.fact_emit.specs.States.{ModuleSoFar, memories_of}
use Rattle.fact_assembly.specs.Importing.{KnownTellMemories}

-- ---- places

is_def : (d : CoreDef) (i : Import) → same_import (known.CoreDef d) i ≡ true → i ≡ known.CoreDef d
is_def d (known.CoreDef e) h = ap known.CoreDef (sym (exact_def d e h))
is_def d _ h = absurd (false≢true h)

-- what is found is at the place at which it is found
found_there : (d : CoreDef) (is : List Import) → place_among (known.CoreDef d) is < length is → get_or is (place_among (known.CoreDef d) is) (known.CoreDef d) ≡ known.CoreDef d
found_there d is h = is_def d (get_or is (place_among (known.CoreDef d) is) (known.CoreDef d)) (passes_at_first (same_import (known.CoreDef d)) is (known.CoreDef d) h)

one_place : (d e : CoreDef) (is : List Import) → place_among (known.CoreDef d) is < length is → place_among (known.CoreDef d) is ≡ place_among (known.CoreDef e) is → d ≡ e
one_place d e is h same =
    let i = place_among (known.CoreDef d) is in
    let at_e : get_or is i (known.CoreDef e) ≡ known.CoreDef e = ap (λ k. get_or is k (known.CoreDef e)) same ∙ found_there e is (omega (arith, h, same)) in
    let both : known.CoreDef d ≡ known.CoreDef e = sym (found_there d is h) ∙ get_or_default is i (known.CoreDef d) (known.CoreDef e) h ∙ at_e in
    cc

-- there are as many types of memories as imported memories
as_many : (ws : List WasmImport) (is : List Import) → length ws ≡ length is → length (filter_map type_of_memory ws) ≡ length (imports_of a_memory ws is)
as_many [] [] e = refl
as_many [] (i ∷ is) e = absurd (omega (arith, e))
as_many (w ∷ ws) [] e = absurd (omega (arith, e))
as_many (w ∷ ws) (i ∷ is) e = go w.ty (as_many ws is (omega (arith, e)))
  where
    go : (t : ImportType) → length (filter_map type_of_memory ws) ≡ length (imports_of a_memory ws is)
        → length (filter_map type_of_memory (record w { ty = t } ∷ ws)) ≡ length (imports_of a_memory (record w { ty = t } ∷ ws) (i ∷ is))
    go (import.Func k) h = h
    go (import.Memory least wide page) h = omega (arith, h)
    go (import.Global ty mutable) h = h

-- ---- an adapter's memories

known_memory : (M : WasmModule) (p : ImportPlaces) (s : Side) (at : SideImports) → KnowsSide M p s at → HasKnownMemory p s.memory
known_memory M p s at h = go s.memory refl
  where
    go : (o : Option MemoryOption) → s.memory ≡ o → HasKnownMemory p o
    go None e = tt
    go (Some m) e = let here = h.memory m e in record { page = _; is = ap (slice_get p.memory_types) here.knows.placed ∙ here.knows.kind }

among : (M : WasmModule) (s : ModuleSoFar) (z : Side) (at : SideImports) (m : MemoryOption) → length s.section ≡ length s.imports → KnowsSide M (import_places s) z at → z.memory ≡ Some m
    → place_among (known.CoreDef m.def) (memories_of s) < length (memories_of s)
among M s z at m e h is =
    let here = h.memory m is in
    let within : here.number < length (filter_map type_of_memory s.section) = slice_get_within _ here.number _ here.knows.kind in
    let placed : place_among (known.CoreDef m.def) (memories_of s) ≡ here.number = here.knows.placed in
    omega (arith, within, placed, as_many s.section s.imports e)

pub known_tell_memories : KnownTellMemories
known_tell_memories M s a at e h = record {
  lower = known_memory M (import_places s) a.lower at.lower h.lower;
  lift = known_memory M (import_places s) a.lift at.lift h.lift;
  apart = λ m n is_m is_n same. one_place m.def n.def (memories_of s) (among M s a.lower at.lower m e h.lower is_m) same;
}
