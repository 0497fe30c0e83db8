-- What code knows of a module it knows of every module that extends it.
use Rattle.std.proofs.Common.{◌≡◌, ℕ, zero, suc, Bool, true, List, [], ◌∷◌, ◌++◌, Option, Some, ap, ◌∙◌, slice_get}
use Rattle.std.specs.List.{AllByRecursion}
use Rattle.fact_wasm.specs.declared.types.ValType.{ValType}
use Rattle.fact_wasm.specs.declared.types.ValType.TheVariants as val
use Rattle.fact_wasm.specs.declared.module.ImportType.{ImportType}
use Rattle.fact_wasm.specs.declared.module.ImportType.TheVariants as import
use Rattle.fact_wasm.specs.declared.module.WasmImport.{WasmImport}
use Rattle.fact_wasm.specs.declared.module.WasmModule.{WasmModule}
use Rattle.fact_machine.specs.Machine.{func_import, memory_import}
use Rattle.fact_machine.specs.Trace.{Grows}
use Rattle.fact_types.specs.declared.outside.CoreDef.{CoreDef}
use Rattle.fact_types.specs.declared.import.Import.{Import}
use Rattle.fact_actions.specs.Running.{ImportPlaces}
use Rattle.fact_code_laws.specs.Knows.{NeededImport, FunctionImport, MemoryImport, FlagsImport, KnowsFunction, KnowsMemory, KnowsFlags, Has, Knows, ExtendsModule}
use Rattle.fact_machine.specs.Typing.{global_import}
use Rattle.fact_machine.proofs.Tests.{get_append}

-- ---- imports with others behind them

module _ (more : List WasmImport) where
  func_more : (is : List WasmImport) (n t : ℕ) → func_import is n ≡ Some t → func_import (is ++ more) n ≡ Some t
  func_more [] n t h = cc
  func_more (i ∷ is) n t h = by_type i.ty n (λ m e. func_more is m t e) h
    where
      by_type : (ty : ImportType) (n : ℕ) → ((m : ℕ) → func_import is m ≡ Some t → func_import (is ++ more) m ≡ Some t)
          → elim ty as (λ (x : ImportType). Option ℕ) [ import.Func t ↦ elim n [ zero ↦ Some t | suc m ↦ func_import is m ] | import.Memory a b c ↦ func_import is n | import.Global a b ↦ func_import is n ] ≡ Some t
          → elim ty as (λ (x : ImportType). Option ℕ) [ import.Func t ↦ elim n [ zero ↦ Some t | suc m ↦ func_import (is ++ more) m ] | import.Memory a b c ↦ func_import (is ++ more) n | import.Global a b ↦ func_import (is ++ more) n ] ≡ Some t
      by_type (import.Func u) zero ih h = h
      by_type (import.Func u) (suc m) ih h = ih m h
      by_type (import.Memory a b c) n ih h = ih n h
      by_type (import.Global a b) n ih h = ih n h

  memory_more : (is : List WasmImport) (n : ℕ) (k : Bool × Option ℕ) → memory_import is n ≡ Some k → memory_import (is ++ more) n ≡ Some k
  memory_more [] n k h = cc
  memory_more (i ∷ is) n k h = by_type i.ty n (λ m e. memory_more is m k e) h
    where
      by_type : (ty : ImportType) (n : ℕ) → ((m : ℕ) → memory_import is m ≡ Some k → memory_import (is ++ more) m ≡ Some k)
          → elim ty as (λ (x : ImportType). Option (Bool × Option ℕ)) [ import.Func t ↦ memory_import is n | import.Memory minimum memory64 log2 ↦ elim n [ zero ↦ Some (memory64, log2) | suc m ↦ memory_import is m ] | import.Global a b ↦ memory_import is n ] ≡ Some k
          → elim ty as (λ (x : ImportType). Option (Bool × Option ℕ)) [ import.Func t ↦ memory_import (is ++ more) n | import.Memory minimum memory64 log2 ↦ elim n [ zero ↦ Some (memory64, log2) | suc m ↦ memory_import (is ++ more) m ] | import.Global a b ↦ memory_import (is ++ more) n ] ≡ Some k
      by_type (import.Func u) n ih h = ih n h
      by_type (import.Memory a b c) zero ih h = h
      by_type (import.Memory a b c) (suc m) ih h = ih m h
      by_type (import.Global a b) n ih h = ih n h

  global_more : (is : List WasmImport) (n : ℕ) (g : ValType × Bool) → global_import is n ≡ Some g → global_import (is ++ more) n ≡ Some g
  global_more [] n g h = cc
  global_more (i ∷ is) n g h = by_type i.ty n (λ m e. global_more is m g e) h
    where
      by_type : (ty : ImportType) (n : ℕ) → ((m : ℕ) → global_import is m ≡ Some g → global_import (is ++ more) m ≡ Some g)
          → elim ty as (λ (x : ImportType). Option (ValType × Bool)) [ import.Func t ↦ global_import is n | import.Memory a b c ↦ global_import is n | import.Global t mutable ↦ elim n [ zero ↦ Some (t, mutable) | suc m ↦ global_import is m ] ] ≡ Some g
          → elim ty as (λ (x : ImportType). Option (ValType × Bool)) [ import.Func t ↦ global_import (is ++ more) n | import.Memory a b c ↦ global_import (is ++ more) n | import.Global t mutable ↦ elim n [ zero ↦ Some (t, mutable) | suc m ↦ global_import (is ++ more) m ] ] ≡ Some g
      by_type (import.Func u) n ih h = ih n h
      by_type (import.Memory a b c) n ih h = ih n h
      by_type (import.Global a b) zero ih h = h
      by_type (import.Global a b) (suc m) ih h = ih m h

grown : {A : Type 0} {xs ys : List A} (i : ℕ) {x : A} → Grows xs ys → slice_get xs i ≡ Some x → slice_get ys i ≡ Some x
grown {xs = xs} i {x} g h = ap (λ l. slice_get l i) g.is ∙ get_append xs g.more i x h

-- ---- what is kept

module _ {M M' : WasmModule} {p p' : ImportPlaces} (e : ExtendsModule M M' p p') where
  pub has_function : {i : Import} {place : ℕ} {params results : List ValType} → KnowsFunction M p i place params results → KnowsFunction M' p' i place params results
  has_function {i} {place} h = record {
    type_at = h.type_at;
    placed = e.functions i h.type_at (ap (func_import M.imports) h.placed ∙ h.imported) ∙ h.placed;
    imported = ap (λ is. func_import is place) e.imports.is ∙ func_more e.imports.more M.imports place h.type_at h.imported;
    type_is = grown h.type_at e.types h.type_is;
  }

  pub has_memory : {d : CoreDef} {place : ℕ} {memory64 : Bool} {log2 : Option ℕ} → KnowsMemory M p d place memory64 log2 → KnowsMemory M' p' d place memory64 log2
  has_memory {d} {place} {memory64} {log2} h = record {
    placed = e.memories d (memory64, log2) (ap (memory_import M.imports) h.placed ∙ h.imported) ∙ h.placed;
    kind = grown place e.memory_types h.kind;
    imported = ap (λ is. memory_import is place) e.imports.is ∙ memory_more e.imports.more M.imports place (memory64, log2) h.imported;
  }

  pub has_flags : {i place : ℕ} → KnowsFlags M p i place → KnowsFlags M' p' i place
  has_flags {i} {place} h = record {
    placed = e.flags i (val.I32, true) (ap (global_import M.imports) h.placed ∙ h.imported) ∙ h.placed;
    kind = grown place e.global_types h.kind;
    imported = ap (λ is. global_import is place) e.imports.is ∙ global_more e.imports.more M.imports place (val.I32, true) h.imported;
  }

  has : (a : NeededImport) → Has M p a → Has M' p' a
  has (FunctionImport i place params results) h = has_function h
  has (MemoryImport d place memory64 log2) h = has_memory h
  has (FlagsImport i place) h = has_flags h

  all_has : (asks : List NeededImport) → AllByRecursion (Has M p) asks → AllByRecursion (Has M' p') asks
  all_has [] h = tt
  all_has (a ∷ asks) h = (has a h.0, all_has asks h.1)

  -- whatever is asked for
  pub knows : {asks : List NeededImport} → Knows M p asks → Knows M' p' asks
  knows {asks} k = record { all = all_has asks k.all }
