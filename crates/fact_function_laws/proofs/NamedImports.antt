-- What it takes to say that a given module names its imports, by computation.
use Rattle.std.proofs.Common.{◌≡◌, ◌≢◌, ℕ, zero, suc, Bool, true, false, List, [], ◌∷◌, ◌++◌, AllPairs, Some, arith, refl, sym, ap, ◌∙◌, subst, append_assoc, append-nil, slice_get, take}
use Rattle.std.specs.Prelude.{not, ◌&&◌, nat_eq, length}
use Rattle.std.specs.List.{AllByRecursion}
use Rattle.std.proofs.lemmas.Bool.{false≢true, eq-eqb}
use Rattle.std.proofs.lemmas.List.Elements.{All-from_recursion}
use Rattle.std.proofs.lemmas.List.Kept.{AllPairs-cons}
use Rattle.fact_wasm.specs.declared.module.WasmImport.{WasmImport}
use Rattle.fact_wasm.specs.declared.types.FuncType.{FuncType}
use Rattle.fact_types.specs.declared.import.Import.{Import}
use Rattle.fact_types.specs.declared.import.Import.TheVariants as known
use Rattle.fact_types.specs.Adapters.{LinkedAdapter}
use Rattle.fact_types.proofs.ShapeLaws.{same_some, none_some}
use Rattle.fact_emit.specs.ImportSection.{AreStartCallsNamed, AreTranscodersNamed, IsNamedIfTranscoder, a_memory, imports_of, is_awaited}
use Rattle.fact_emit.specs.PlacesOf.{same_import}
use Rattle.fact_emit.proofs.PlacesOfLaws.{import_self}
use Rattle.fact_emit.proofs.TranscodersNamed.{named-same}

-- what holds of each holds of the one at a place
at_place : {A : Type 0} (P : A → Type 0) (xs : List A) (k : ℕ) (x : A) → AllByRecursion P xs → slice_get xs k ≡ Some x → P x
at_place P [] k x all e = absurd (none_some _ x refl e)
at_place P (y ∷ xs) zero x all e = subst P (same_some (Some y) y x refl e) all.0
at_place P (y ∷ xs) (suc k) x all e = at_place P xs k x all.1 e

-- ---- transcoders and start-calls

-- each import is named so, behind those before it
abbrev pub AreNamedInTurn : List FuncType → (vs : List WasmImport) → (js : List Import) → List WasmImport → List Import → Type 0
AreNamedInTurn types vs js [] [] = Unit {0}
AreNamedInTurn types vs js (w ∷ ws) (i ∷ is) = IsNamedIfTranscoder types vs (imports_of a_memory vs js) w i × AreNamedInTurn types (vs ++ w ∷ []) (js ++ i ∷ []) ws is
AreNamedInTurn types vs js [] (i ∷ is) = ⊥
AreNamedInTurn types vs js (w ∷ ws) [] = ⊥

named_in_turn : (types : List FuncType) (vs : List WasmImport) (js : List Import) (ws : List WasmImport) (is : List Import) (k : ℕ) (w : WasmImport) (i : Import) → AreNamedInTurn types vs js ws is
    → slice_get ws k ≡ Some w → slice_get is k ≡ Some i → IsNamedIfTranscoder types (vs ++ take k ws) (imports_of a_memory (vs ++ take k ws) (js ++ take k is)) w i
named_in_turn types vs js [] is k w i all e f = absurd (none_some _ w refl e)
named_in_turn types vs js (v ∷ ws) [] k w i all e f = absurd all
named_in_turn types vs js (v ∷ ws) (j ∷ is) zero w i all e f =
    named-same types w i (append-nil vs) (append-nil js)
    (subst (λ u. IsNamedIfTranscoder types vs (imports_of a_memory vs js) u i) (same_some (Some v) v w refl e)
    (subst (λ x. IsNamedIfTranscoder types vs (imports_of a_memory vs js) v x) (same_some (Some j) j i refl f) all.0))
named_in_turn types vs js (v ∷ ws) (j ∷ is) (suc k) w i all e f =
    named-same types w i (sym (append_assoc vs (v ∷ []) (take k ws))) (sym (append_assoc js (j ∷ []) (take k is)))
    (named_in_turn types (vs ++ v ∷ []) (js ++ j ∷ []) ws is k w i all.1 e f)

pub transcoders_named : (types : List FuncType) (ws : List WasmImport) (is : List Import) → AreNamedInTurn types [] [] ws is → AreTranscodersNamed types ws is
transcoders_named types ws is all = record { each = λ k w i e f. named_in_turn types [] [] ws is k w i all e f }

-- none is a start-call
abbrev pub IsNoStart : Import → Type 0
IsNoStart (known.StartCall callback post_return) = ⊥
IsNoStart _ = Unit {0}

-- where no adapter is async, and nothing is a start-call
pub no_start_calls : (types : List FuncType) (adapters : List LinkedAdapter) (ws : List WasmImport) (is : List Import) → AllByRecursion IsNoStart is → AllByRecursion (λ (a : LinkedAdapter). is_awaited a ≡ false) adapters
    → AreStartCallsNamed types adapters ws is
no_start_calls types adapters ws is none sync = record {
  named = λ k w callback post_return e f. absurd (at_place IsNoStart is k (known.StartCall callback post_return) none f);
  once = λ j k v w callback post_return e f g h same. absurd (at_place IsNoStart is j (known.StartCall callback post_return) none g);
  each = λ k a e awaited. absurd (false≢true (sym (at_place (λ (a : LinkedAdapter). is_awaited a ≡ false) adapters k a sync e) ∙ awaited));
}

-- ---- distinct imports and types

-- equal by none of these tests
abbrev pub apart_from : {A : Type 0} → (A → A → Bool) → A → List A → Bool
apart_from same x [] = true
apart_from same x (y ∷ ys) = not (same x y) && apart_from same x ys

abbrev pub are_apart : {A : Type 0} → (A → A → Bool) → List A → Bool
are_apart same [] = true
are_apart same (x ∷ xs) = apart_from same x xs && are_apart same xs

both_hold : (a b : Bool) → (a && b) ≡ true → (a ≡ true) × (b ≡ true)
both_hold true b h = (refl, h)
both_hold false b h = absurd (false≢true h)

module _ {A : Type 0} (same : A → A → Bool) (self : (x y : A) → x ≡ y → same x y ≡ true) where
  all_apart : (x : A) (xs : List A) → apart_from same x xs ≡ true → AllByRecursion (λ y. x ≢ y) xs
  all_apart x [] h = tt
  all_apart x (y ∷ ys) h =
      let two = both_hold (not (same x y)) (apart_from same x ys) h in
      (λ e. false≢true (ap not (sym (self x y e)) ∙ two.0), all_apart x ys two.1)

  pub pairs_apart : (xs : List A) → are_apart same xs ≡ true → AllPairs (λ x y. x ≢ y) xs
  pairs_apart [] h = λ i j d lt less. absurd (omega (arith, less))
  pairs_apart (x ∷ xs) h =
      let two = both_hold (apart_from same x xs) (are_apart same xs) h in
      AllPairs-cons (λ x y. x ≢ y) x xs (All-from_recursion (λ y. x ≢ y) xs (all_apart x xs two.0)) (pairs_apart xs two.1)

pub imports_apart : (is : List Import) → are_apart same_import is ≡ true → AllPairs (λ i j. i ≢ j) is
imports_apart = pairs_apart same_import (λ i j e. subst (λ j. same_import i j ≡ true) e (import_self i))

-- types that differ in how many parameters they have
abbrev pub same_arity : FuncType → FuncType → Bool
same_arity t u = nat_eq (length t.params) (length u.params)

pub types_apart : (types : List FuncType) → are_apart same_arity types ≡ true → AllPairs (λ t u. t ≢ u) types
types_apart = pairs_apart same_arity (λ t u e. eq-eqb (length t.params) (length u.params) (ap (λ (t : FuncType). length t.params) e))
