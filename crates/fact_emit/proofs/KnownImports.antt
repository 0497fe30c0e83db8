-- What a last module knows of the definitions that were imported for an adapter.
use Rattle.std.proofs.Common.{◌≡◌, ℕ, Bool, true, List, [], Contains, Option, Some, None, refl, sym, ap, ◌∙◌, subst, slice_get}
use Rattle.fact_wasm.specs.declared.types.FuncType.{FuncType}
use Rattle.fact_wasm.specs.declared.module.ImportType.TheVariants as import
use Rattle.fact_wasm.specs.declared.module.WasmModule.{WasmModule}
use Rattle.fact_types.specs.Adapters.{Side, is_wide}
use Rattle.fact_types.specs.declared.outside.CoreDef.{CoreDef}
use Rattle.fact_types.specs.declared.outside.CoreDef.TheVariants as def
use Rattle.fact_types.specs.declared.outside.MemoryOption.{MemoryOption}
use Rattle.fact_types.specs.declared.import.Import.TheVariants as known
use Rattle.fact_actions.specs.Running.{ImportPlaces}
use Rattle.fact_actions.specs.Sides.{options_of}
use Rattle.fact_code_laws.specs.Knows.{KnowsFlags, KnowsFunction, KnowsMemory}
use Rattle.fact_emit.specs.Areas.{IsLinearMemoryOf}
use Rattle.fact_emit.specs.ImportSection.{Flags, Mention, Role, Storage, custom_page_size, imports_of}
use Rattle.fact_emit.specs.Imports.{Extended, HasFlags, HasImport, HasMemory, Serves}
use Rattle.fact_emit.specs.Known.{AreKnown, AreUsedAlike, IsUsedAlike, memory_of_role}
use Rattle.fact_emit.specs.DefImports.{IsDefImported, type_of_role}
use Rattle.fact_emit.specs.States.{ModuleSoFar, functions_of, globals_of, memories_of}
use Rattle.fact_emit.specs.declared.places.LinearMemory.{LinearMemory}
use Rattle.fact_emit.proofs.ImportLaws.{grown_get}
use Rattle.fact_emit.proofs.KnownLaws.{imported_at}
use Rattle.fact_emit.proofs.Named.{function-at}
use Rattle.fact_emit.proofs.NamedPlaces.{function-role, global-at, memory-at, stands-function, stands-global, stands-memory}

-- ---- what stands at a place has the type of its role

module _ (s : ModuleSoFar) (ms : List Mention) (h : AreKnown s ms) where
  pub flags_there : (instance place : ℕ) → slice_get (globals_of s) place ≡ Some (known.CoreDef (def.InstanceFlags (record { table = _; number = instance }))) → HasFlags s instance place
  flags_there instance place at =
      let (t, mutable, imported, x) = global-at s.types ms [] s.section s.imports place _ h.named at in
      record { there = at; imported = imported ∙ ap Some (stands-global s.types x.before x.import x.named.0 t mutable x.named.2 x.is) }

  -- of a definition that is mentioned in no role that wants another type
  module _ (d : CoreDef) (role : Role) (alike : (q : Role) → Contains ms (record { def = d; role = q }) → IsUsedAlike q role) where
    pub memory_there : (place : ℕ) (wide : Bool) (log2 : Option ℕ) → memory_of_role role ≡ Some (wide, log2) → slice_get (memories_of s) place ≡ Some (known.CoreDef d) → HasMemory s d place wide log2
    memory_there place wide log2 is at =
        let (least, wide', page, imported, x) = memory-at s.types ms [] s.section s.imports place _ h.named at in
        let stands = stands-memory s.types x.before x.import x.named.0 least wide' page x.named.2 x.is in
        record { there = at; imported = imported ∙ sym stands ∙ (alike x.named.0 x.named.1).memory ∙ is }

    pub function_there : (place : ℕ) (ty : FuncType) → type_of_role role ≡ Some ty → slice_get (functions_of s) place ≡ Some (known.CoreDef d) → HasImport s (known.CoreDef d) place ty.params ty.results
    function_there place ty is at =
        let (w, t, is_function, imported, b, named) = function-at s.types ms [] s.section s.imports place _ h.named at in
        let typed = stands-function s.types b w named.0 ty ((alike named.0 named.1).function ∙ is) named.2 in
        record { there = at; type_at = t; imported = imported; type_is = ap (λ k. elim k [ import.Func n ↦ slice_get s.types n | import.Memory least wide page ↦ None | import.Global u mutable ↦ None ]) (sym is_function) ∙ typed }

-- ---- in a last module

-- a definition in a role in which it is mentioned
alike_to : {ms : List Mention} → AreUsedAlike ms → (d : CoreDef) (role : Role) → Contains ms (record { def = d; role = role }) → (q : Role) → Contains ms (record { def = d; role = q }) → IsUsedAlike q role
alike_to alike d role there q c = alike.alike (record { def = d; role = q }) (record { def = d; role = role }) c there refl

module _ {M : WasmModule} {p : ImportPlaces} {last : ModuleSoFar} {ms : List Mention} (serves : Serves M p last) (are_known : AreKnown last ms) {old new : ModuleSoFar} (later : Extended new last) where
  pub knows_flags : (instance place : ℕ) → IsDefImported old new (Flags instance) (def.InstanceFlags (record { table = _; number = instance })) place → KnowsFlags M p instance place
  knows_flags instance place l = serves.flags instance place (flags_there last ms are_known instance place (grown_get later.globals place _ (imported_at (Flags instance) l)))

  module _ (alike : AreUsedAlike ms) where
    pub knows_memory : (d : CoreDef) (wide : Bool) (log2 place : ℕ) → Contains ms (record { def = d; role = Storage wide log2 }) → IsDefImported old new (Storage wide log2) d place
        → KnowsMemory M p d place wide (custom_page_size log2)
    knows_memory d wide log2 place there l =
        serves.memories d place wide (custom_page_size log2)
        (memory_there last ms are_known d (Storage wide log2) (alike_to alike d (Storage wide log2) there) place wide (custom_page_size log2) refl (grown_get later.memories place _ (imported_at (Storage wide log2) l)))

    pub knows_function : (d : CoreDef) (role : Role) (ty : FuncType) (place : ℕ) → type_of_role role ≡ Some ty → Contains ms (record { def = d; role = role }) → IsDefImported old new role d place
        → KnowsFunction M p (known.CoreDef d) place ty.params ty.results
    knows_function d role ty place is there l =
        let at : slice_get (functions_of new) place ≡ Some (known.CoreDef d) = subst (λ q. slice_get (imports_of q new.section new.imports) place ≡ Some (known.CoreDef d)) (function-role role ty is) (imported_at role l) in
        serves.functions (known.CoreDef d) place ty.params ty.results refl (function_there last ms are_known d role (alike_to alike d role there) place ty is (grown_get later.functions place _ at))

-- ---- the memory of a side

pub linear_memory_of : {M : WasmModule} {p : ImportPlaces} (s : Side) (m : MemoryOption) (linear : LinearMemory) → s.memory ≡ Some m → is_wide s.memory ≡ linear.memory64 → linear.page_size_log2 ≡ custom_page_size m.page_size_log2
    → linear.has_memory ≡ true → s.encoding ≡ linear.encoding → KnowsMemory M p m.def linear.memory m.memory64 (custom_page_size m.page_size_log2) → IsLinearMemoryOf M p (options_of s) linear
linear_memory_of {M} {p} s m linear is wide page there encoding knows =
    let same : m.memory64 ≡ linear.memory64 = sym (ap is_wide is) ∙ wide in
    record {
      side = record {
        option = m;
        is = is;
        wide = same;
        log2 = custom_page_size m.page_size_log2;
        has = subst (λ w. KnowsMemory M p m.def linear.memory w (custom_page_size m.page_size_log2)) same knows;
      };
      log2 = sym page;
      there = there;
      encoding = encoding;
    }
