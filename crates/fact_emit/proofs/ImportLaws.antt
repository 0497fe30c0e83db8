-- What a module imports it imports too once more stands behind it.
use Rattle.std.proofs.Common.{◌≡◌, ℕ, zero, suc, Bool, true, List, [], ◌∷◌, ◌++◌, Option, Some, refl, sym, ap, ◌∙◌, arith, append_assoc, append-nil, slice_get}
use Rattle.std.specs.List.{filter_map}
use Rattle.std.proofs.lemmas.List.Elements.{filter_map-append}
use Rattle.fact_wasm.specs.declared.types.ValType.{ValType}
use Rattle.fact_wasm.specs.declared.types.ValType.TheVariants as val
use Rattle.fact_wasm.specs.declared.module.ImportType.{ImportType}
use Rattle.fact_wasm.specs.declared.module.ImportType.TheVariants as import
use Rattle.fact_wasm.specs.declared.module.WasmImport.{WasmImport}
use Rattle.fact_machine.specs.Machine.{memory_import}
use Rattle.fact_machine.specs.Trace.{Grows}
use Rattle.fact_machine.specs.Typed.{type_of_global, type_of_memory}
use Rattle.fact_machine.specs.Typing.{global_import}
use Rattle.fact_machine.proofs.Tests.{get_append}
use Rattle.fact_types.specs.declared.import.Import.{Import}
use Rattle.fact_types.specs.declared.import.Import.TheVariants as known
use Rattle.fact_types.specs.declared.outside.CoreDef.{CoreDef}
use Rattle.fact_actions.specs.Running.{ImportPlaces}
use Rattle.fact_code_laws.specs.Knows.{KnowsFlags, KnowsFunction, KnowsMemory, ExtendsModule}
use Rattle.fact_code_laws.proofs.KnowsLaws.{has_flags, has_function, has_memory}
use Rattle.fact_emit.specs.Imports.{HasFlags, HasImport, HasMemory, Extended}
use Rattle.fact_emit.specs.States.{ModuleSoFar, functions_of, globals_of, memories_of, module_of}

-- ---- growing

pub grows_none : {A : Type 0} {a b : List A} → b ≡ a → Grows a b
grows_none {a = a} e = record { more = []; is = e ∙ sym (append-nil a) }

pub grows_on : {A : Type 0} {a b c : List A} → Grows a b → Grows b c → Grows a c
grows_on {a = a} x y = record { more = x.more ++ y.more; is = y.is ∙ ap (λ l. l ++ y.more) x.is ∙ append_assoc a x.more y.more }

pub grown_get : {A : Type 0} {a b : List A} → Grows a b → (i : ℕ) (x : A) → slice_get a i ≡ Some x → slice_get b i ≡ Some x
grown_get {a = a} g i x h = ap (λ l. slice_get l i) g.is ∙ get_append a g.more i x h

grows_mapped : {A B : Type 0} (f : A → Option B) {a b : List A} → Grows a b → Grows (filter_map f a) (filter_map f b)
grows_mapped f {a = a} g = record { more = filter_map f g.more; is = ap (filter_map f) g.is ∙ filter_map-append f a g.more }

pub extended_on : {a b c : ModuleSoFar} → Extended a b → Extended b c → Extended a c
extended_on x y = record {
  types = grows_on x.types y.types;
  section = grows_on x.section y.section;
  imports = grows_on x.imports y.imports;
  functions = grows_on x.functions y.functions;
  memories = grows_on x.memories y.memories;
  globals = grows_on x.globals y.globals;
  helpers = grows_on x.helpers y.helpers;
  numbered = omega (arith, x.numbered, y.numbered);
}

pub extended_none : {a b : ModuleSoFar} → b ≡ a → Extended a b
extended_none e = record {
  types = grows_none (ap (λ (s : ModuleSoFar). s.types) e);
  section = grows_none (ap (λ (s : ModuleSoFar). s.section) e);
  imports = grows_none (ap (λ (s : ModuleSoFar). s.imports) e);
  functions = grows_none (ap functions_of e);
  memories = grows_none (ap memories_of e);
  globals = grows_none (ap globals_of e);
  helpers = grows_none (ap (λ (s : ModuleSoFar). s.helpers) e);
  numbered = omega (arith, ap (λ (s : ModuleSoFar). s.numbered) e);
}

-- ---- what is imported

-- an imported memory has its place among the memories
pub memory_at : (ws : List WasmImport) (n : ℕ) (k : Bool × Option ℕ) → memory_import ws n ≡ Some k → slice_get (filter_map type_of_memory ws) n ≡ Some k
memory_at [] n k h = cc
memory_at (w ∷ ws) n k h = by_type w.ty n (λ m e. memory_at ws m k e) h
  where
    rest : List (Bool × Option ℕ)
    rest = filter_map type_of_memory ws

    by_type : (ty : ImportType) (n : ℕ) → ((m : ℕ) → memory_import ws m ≡ Some k → slice_get rest m ≡ Some k)
        → elim ty as (λ (x : ImportType). Option (Bool × Option ℕ)) [ import.Func t ↦ memory_import ws n | import.Memory minimum memory64 log2 ↦ elim n [ zero ↦ Some (memory64, log2) | suc m ↦ memory_import ws m ] | import.Global a b ↦ memory_import ws n ] ≡ Some k
        → slice_get (filter_map type_of_memory (record { «module» = w.module; name = w.name; ty = ty } ∷ ws)) n ≡ Some k
    by_type (import.Func u) n ih h = ih n h
    by_type (import.Memory a b c) zero ih h = h
    by_type (import.Memory a b c) (suc m) ih h = ih m h
    by_type (import.Global a b) n ih h = ih n h

-- and an imported global among the globals
pub global_at : (ws : List WasmImport) (n : ℕ) (g : ValType × Bool) → global_import ws n ≡ Some g → slice_get (filter_map type_of_global ws) n ≡ Some g.0
global_at [] n g h = cc
global_at (w ∷ ws) n g h = by_type w.ty n (λ m e. global_at ws m g e) h
  where
    rest : List ValType
    rest = filter_map type_of_global ws

    by_type : (ty : ImportType) (n : ℕ) → ((m : ℕ) → global_import ws m ≡ Some g → slice_get rest m ≡ Some g.0)
        → elim ty as (λ (x : ImportType). Option (ValType × Bool)) [ import.Func t ↦ global_import ws n | import.Memory a b c ↦ global_import ws n | import.Global t mutable ↦ elim n [ zero ↦ Some (t, mutable) | suc m ↦ global_import ws m ] ] ≡ Some g
        → slice_get (filter_map type_of_global (record { «module» = w.module; name = w.name; ty = ty } ∷ ws)) n ≡ Some g.0
    by_type (import.Func u) n ih h = ih n h
    by_type (import.Memory a b c) n ih h = ih n h
    by_type (import.Global t mutable) zero ih h = let same : (t, mutable) ≡ g = cc in ap (λ (x : ValType × Bool). Some x.0) same
    by_type (import.Global t mutable) (suc m) ih h = ih m h

-- a module with everything at one place
abbrev everything_at : ℕ → ModuleSoFar → ImportPlaces
everything_at n s = record { memory = λ d. n; flags = λ i. n; function = λ i. n; memory_types = filter_map type_of_memory s.section; global_types = filter_map type_of_global s.section }

extends : {a b : ModuleSoFar} (n : ℕ) → Extended a b → ExtendsModule (module_of a) (module_of b) (everything_at n a) (everything_at n b)
extends n e = record { imports = e.section; types = e.types; memory_types = grows_mapped type_of_memory e.section; global_types = grows_mapped type_of_global e.section; functions = λ i t h. refl; memories = λ d k h. refl; flags = λ i g h. refl }

pub later_import : {a b : ModuleSoFar} {i : Import} {n : ℕ} {params results : List ValType} → Extended a b → HasImport a i n params results → HasImport b i n params results
later_import {a} {b} {i} {n} {params} {results} e h =
    let here : KnowsFunction (module_of a) (everything_at n a) i n params results = record { type_at = h.type_at; placed = refl; imported = h.imported; type_is = h.type_is } in
    let there : KnowsFunction (module_of b) (everything_at n b) i n params results = has_function (extends n e) here in
    record { there = grown_get e.functions n i h.there; type_at = there.type_at; imported = there.imported; type_is = there.type_is }

pub later_memory : {a b : ModuleSoFar} {d : CoreDef} {n : ℕ} {wide : Bool} {log2 : Option ℕ} → Extended a b → HasMemory a d n wide log2 → HasMemory b d n wide log2
later_memory {a} {b} {d} {n} {wide} {log2} e h =
    let here : KnowsMemory (module_of a) (everything_at n a) d n wide log2 = record { placed = refl; kind = memory_at a.section n (wide, log2) h.imported; imported = h.imported } in
    let there : KnowsMemory (module_of b) (everything_at n b) d n wide log2 = has_memory (extends n e) here in
    record { there = grown_get e.memories n (known.CoreDef d) h.there; imported = there.imported }

pub later_flags : {a b : ModuleSoFar} {i n : ℕ} → Extended a b → HasFlags a i n → HasFlags b i n
later_flags {a} {b} {i} {n} e h =
    let here : KnowsFlags (module_of a) (everything_at n a) i n = record { placed = refl; kind = global_at a.section n (val.I32, true) h.imported; imported = h.imported } in
    let there : KnowsFlags (module_of b) (everything_at n b) i n = has_flags (extends n e) here in
    record { there = grown_get e.globals n _ h.there; imported = there.imported }
