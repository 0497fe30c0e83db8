-- What is exported under a name, looked for from the front.
use Rattle.std.proofs.Common.{◌≡◌, ℕ, suc, ◌+◌, ◌≤◌, Bool, true, false, List, drop, length, Some, None, sym, ap, ◌∙◌, add-one, slice_get}
use Rattle.std.specs.Prelude.{if◌then◌else◌}
use Rattle.std.specs.Str.{bytes_eq}
use Rattle.std.proofs.lemmas.List.{drop_all}
use Rattle.fact_wasm.specs.declared.instr.FuncName.TheVariants as func
use Rattle.fact_wasm.specs.declared.module.WasmExport.{WasmExport}
use Rattle.fact_types.proofs.ShapeLaws.{none_some, same_some}
use Rattle.fact_abi.proofs.BelongLaws.{slice_front}
use Rattle.fact_assembly.specs.Exports.{exported_as}

-- none before a place has the name
abbrev pub IsSoughtFrom : List ℕ → List WasmExport → ℕ → Type 0
IsSoughtFrom name es i = exported_as name es ≡ exported_as name (drop i es)

module _ (name : List ℕ) (es : List WasmExport) (i : ℕ) (e : WasmExport) (at : slice_get es i ≡ Some e) (sought : IsSoughtFrom name es i) where
  here : (b : Bool) → bytes_eq e.name name ≡ b → exported_as name es ≡ (if b then Some e.func else exported_as name (drop (suc i) es))
  here b test = sought ∙ ap (exported_as name) (slice_front es i e at) ∙ ap (λ (b : Bool). if b then Some e.func else exported_as name (drop (suc i) es)) test

  pub sought_past : bytes_eq e.name name ≡ false → IsSoughtFrom name es (i + 1)
  sought_past test = here false test ∙ ap (λ j. exported_as name (drop j es)) (sym (add-one i))

  pub found_here : bytes_eq e.name name ≡ true → exported_as name es ≡ Some e.func
  found_here test = here true test

pub none_there : (name : List ℕ) (es : List WasmExport) (i : ℕ) → length es ≤ i → IsSoughtFrom name es i → exported_as name es ≡ None
none_there name es i past sought = sought ∙ ap (exported_as name) (drop_all i es past)

-- a function that is defined is exported, so it is not none, and not an import
pub is_there : (name : List ℕ) (es : List WasmExport) → (k : ℕ) × (exported_as name es ≡ Some (func.Defined k)) → exported_as name es ≡ None → ⊥
is_there name es h none = none_some (exported_as name es) (func.Defined h.0) none h.1

pub is_defined : (name : List ℕ) (es : List WasmExport) (n : ℕ) → (k : ℕ) × (exported_as name es ≡ Some (func.Defined k)) → exported_as name es ≡ Some (func.Import n) → ⊥
is_defined name es n h found = let same : func.Import n ≡ func.Defined h.0 = same_some (exported_as name es) (func.Import n) (func.Defined h.0) found h.1 in cc
