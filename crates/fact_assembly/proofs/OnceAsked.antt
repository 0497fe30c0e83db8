-- No helper is asked for anew that is there.
use Rattle.std.proofs.Common.{◌≡◌, ℕ, Bool, List, [], ◌∷◌, ◌++◌, ◌⊎◌, sym, ap, ◌∙◌, subst, inl, inr, Contains}
use Rattle.std.proofs.lemmas.List.Elements.{Contains-append_cases}
use Rattle.fact_wasm.specs.declared.instr.Instr.{Instr}
use Rattle.fact_wasm.specs.declared.module.WasmFunc.{WasmFunc}
use Rattle.fact_types.specs.Tables.{Tables}
use Rattle.fact_emit.specs.Brought.{AreCalledImported, Brought, CalledFunction, Helping, IsCalledImported, Runtime, Transcoding}
use Rattle.fact_emit.specs.States.{ModuleSoFar, next_number}
use Rattle.fact_emit.specs.declared.helpers.Helper.{Helper}
use Rattle.fact_compound.specs.Helpers.{WroteHelper}
use Rattle.fact_compound.proofs.AsksLaws.{numbers_import, numbers_runtime, numbers_then, numbers_type}
use Rattle.fact_compound.proofs.HelpersUsed.{only}
use Rattle.fact_assembly.proofs.NewKeys.{AreOnceThere}

pub once-same : (old new : ModuleSoFar) → new.helpers ≡ old.helpers → AreOnceThere old.helpers → AreOnceThere new.helpers
once-same old new same once = subst AreOnceThere (sym same) once

one-more : (es : List (Helper × ℕ)) (key : Helper) (number : ℕ) → ((n : ℕ) → Contains es (key, n) → ⊥) → AreOnceThere es → AreOnceThere (es ++ (key, number) ∷ [])
one-more es key number anew once k m n c d = by (Contains-append_cases es ((key, number) ∷ []) (k, m) c) (Contains-append_cases es ((key, number) ∷ []) (k, n) d)
  where
    is-key : (l : ℕ) → Contains {X = Helper × ℕ} ((key, number) ∷ []) (k, l) → (key ≡ k) × (number ≡ l)
    is-key l here = let same : (key, number) ≡ (k, l) = only (key, number) (k, l) here in (ap (λ (e : Helper × ℕ). e.0) same, ap (λ (e : Helper × ℕ). e.1) same)

    by : Contains es (k, m) ⊎ Contains {X = Helper × ℕ} ((key, number) ∷ []) (k, m) → Contains es (k, n) ⊎ Contains {X = Helper × ℕ} ((key, number) ∷ []) (k, n) → m ≡ n
    by (inl x) (inl y) = once k m n x y
    by (inl x) (inr y) = absurd (anew m (subst (λ h. Contains es (h, m)) (sym (is-key n y).0) x))
    by (inr x) (inl y) = absurd (anew n (subst (λ h. Contains es (h, n)) (sym (is-key m x).0) y))
    by (inr x) (inr y) = sym (is-key m x).1 ∙ (is-key n y).1

one-called : (old new : ModuleSoFar) (f : CalledFunction) (number : ℕ) → IsCalledImported old new f number → AreOnceThere old.helpers → AreOnceThere new.helpers
one-called old new (Runtime f) number x once = once-same old new (numbers_runtime x).helpers once
one-called old new (Transcoding f) number x once = once-same old new (numbers_then (numbers_type x.types) (numbers_import x.imported)).helpers once
one-called old new (Helping key) number x once = elim x.step [
  | inl same ↦ once-same old new (ap (λ (s : ModuleSoFar). s.helpers) same) once
  | inr anew ↦ subst AreOnceThere (sym (ap (λ (s : ModuleSoFar). s.helpers) anew.0)) (one-more old.helpers key (next_number old) anew.2 once)
]

all-called : (old new : ModuleSoFar) (fs : List CalledFunction) → AreCalledImported old new fs → AreOnceThere old.helpers → AreOnceThere new.helpers
all-called old new [] same once = once-same old new (ap (λ (s : ModuleSoFar). s.helpers) same) once
all-called old new (f ∷ fs) h once = all-called h.0 new fs h.3 (one-called old h.0 f h.1 h.2 once)

-- Code brings in helpers that were not there.
pub once-brought : (old new : ModuleSoFar) {code : List Instr} → Brought old new code → AreOnceThere old.helpers → AreOnceThere new.helpers
once-brought old new b once = all-called old new b.called b.imported once

-- So does the code of a helper.
pub once-wrote : {t : Tables} {debug concurrency : Bool} {fuel : ℕ} {k : Helper} {old new : ModuleSoFar} {f : WasmFunc} → WroteHelper t debug concurrency fuel k old new f → AreOnceThere old.helpers → AreOnceThere new.helpers
once-wrote {old = old} {new} w once = once-brought w.declared new w.brought (once-same old w.declared (numbers_type w.declares).helpers once)
