-- The functions that a module defines, and its exports, stay as they are where something is imported.
use Rattle.std.proofs.Common.{◌≡◌, ℕ, ◌⊎◌, inl, inr, List, ◌∷◌, [], ap, ◌∙◌, arith, Contains}
use Rattle.fact_wasm.specs.declared.instr.Instr.{Instr}
use Rattle.fact_wasm.specs.declared.types.FuncType.{FuncType}
use Rattle.fact_wasm.specs.declared.module.WasmImport.{WasmImport}
use Rattle.fact_types.specs.declared.import.Import.{Import}
use Rattle.fact_emit.specs.declared.imported.RuntimeFunction.{RuntimeFunction}
use Rattle.fact_emit.specs.Brought.{AreCalledImported, Brought, CalledFunction, IsCalledImported, Runtime, Transcoding, Helping}
use Rattle.fact_emit.specs.ImportSection.{a_function, a_memory, a_global, imports_of, sort_of}
use Rattle.fact_emit.specs.Imports.{Extended}
use Rattle.fact_emit.specs.States.{ModuleSoFar, HasType, IsImported, IsRuntimeImported, KeepsDefined, with_import}
use Rattle.fact_emit.proofs.ImportLaws.{grows_none}

pub defined_same : {a b : ModuleSoFar} → b ≡ a → KeepsDefined a b
defined_same e = record { functions = ap (λ (s : ModuleSoFar). s.functions) e; exports = ap (λ (s : ModuleSoFar). s.exports) e; callees = ap (λ (s : ModuleSoFar). s.callees) e }

pub defined_on : {a b c : ModuleSoFar} → KeepsDefined a b → KeepsDefined b c → KeepsDefined a c
defined_on x y = record { functions = y.functions ∙ x.functions; exports = y.exports ∙ x.exports; callees = y.callees ∙ x.callees }

pub defined_type : {a b : ModuleSoFar} {ty : FuncType} → HasType a b ty → KeepsDefined a b
defined_type (inl e) = defined_same e
defined_type (inr e) = record { functions = ap (λ (s : ModuleSoFar). s.functions) e.1; exports = ap (λ (s : ModuleSoFar). s.exports) e.1; callees = ap (λ (s : ModuleSoFar). s.callees) e.1 }

pub defined_import : {a b : ModuleSoFar} {w : WasmImport} {i : Import} {place : ℕ} → IsImported a b w i place → KeepsDefined a b
defined_import {a} {b} {w} {i} h = go h.step
  where
    go : ((b ≡ a) × Contains (imports_of (sort_of w.ty) a.section a.imports) i) ⊎ ((b ≡ with_import a w i) × (Contains (imports_of (sort_of w.ty) a.section a.imports) i → ⊥)) → KeepsDefined a b
    go (inl e) = defined_same e.0
    go (inr e) = record { functions = ap (λ (s : ModuleSoFar). s.functions) e.0; exports = ap (λ (s : ModuleSoFar). s.exports) e.0; callees = ap (λ (s : ModuleSoFar). s.callees) e.0 }

pub defined_runtime : {a b : ModuleSoFar} {f : RuntimeFunction} {place : ℕ} → IsRuntimeImported a b f place → KeepsDefined a b
defined_runtime h = defined_on (defined_type h.types) (defined_import h.imported)

defined_called : (f : CalledFunction) (a b : ModuleSoFar) (place : ℕ) → IsCalledImported a b f place → KeepsDefined a b
defined_called (Runtime f) a b place h = defined_runtime h
defined_called (Transcoding t) a b place h = defined_on (defined_type h.types) (defined_import h.imported)
defined_called (Helping key) a b place h = elim h.step [
  | inl same ↦ defined_same same
  | inr anew ↦ record { functions = ap (λ (s : ModuleSoFar). s.functions) anew.0; exports = ap (λ (s : ModuleSoFar). s.exports) anew.0; callees = ap (λ (s : ModuleSoFar). s.callees) anew.0 }
]

pub defined_all : (fs : List CalledFunction) {a b : ModuleSoFar} → AreCalledImported a b fs → KeepsDefined a b
defined_all [] e = defined_same e
defined_all (f ∷ fs) {a} h = defined_on (defined_called f a h.0 h.1 h.2) (defined_all fs h.3)

pub defined_brought : {a b : ModuleSoFar} {code : List Instr} → Brought a b code → KeepsDefined a b
defined_brought x = defined_all x.called x.imported

-- a module that defines and exports more imports the same
pub extended_defined : {a b : ModuleSoFar} → b.types ≡ a.types → b.section ≡ a.section → b.imports ≡ a.imports → b.helpers ≡ a.helpers → b.numbered ≡ a.numbered → Extended a b
extended_defined {a} {b} t s i h n = record {
  types = grows_none t;
  section = grows_none s;
  imports = grows_none i;
  functions = grows_none (λ j. imports_of a_function (s j) (i j));
  memories = grows_none (λ j. imports_of a_memory (s j) (i j));
  globals = grows_none (λ j. imports_of a_global (s j) (i j));
  helpers = grows_none h;
  numbered = omega (arith, n);
}
