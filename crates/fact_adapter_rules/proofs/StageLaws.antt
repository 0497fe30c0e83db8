-- What binding an adapter tells of it and those before.
use Rattle.std.proofs.Common.{◌≡◌, ℕ, ◌<◌, Bool, true, false, List, [], ◌++◌, refl, sym, ap, subst, ◌∙◌, arith}
use Rattle.std.specs.Prelude.{◌↔◌, IsTrue, not}
use Rattle.std.specs.List.{flat_map}
use Rattle.std.proofs.lemmas.Bool.{true≢false}
use Rattle.std.proofs.lemmas.List.{append-nil}
use Rattle.fact_types.specs.declared.outside.CoreDef.{CoreDef}
use Rattle.fact_adapter_rules.specs.Bindings.{AreAllDifferent, AreConsistent, Covers}
use Rattle.fact_adapter_rules.proofs.BoundLaws.{AreConsistent-covered}
use Rattle.fact_plan_types.specs.Faults.{Fault, unknown_index, bad_type, too_large, bad_options, type_mismatch, bad_memory, bad_signature, import_conflict, duplicate_name, rank}
use Rattle.fact_plan_types.specs.TypeRules.{IsRepeated}
use Rattle.fact_types.specs.Adapters.{LinkedAdapter}
use Rattle.fact_adapter_rules.specs.AdapterRules.{HasBadMemory, HasBadOptions, HasBadSignature, HasDuplicateName, HasImportConflict, HasTypeMismatch, LinkedHas, export_names, with}
use Rattle.fact_adapter_rules.specs.AddedBindings.{AddsNames, Binds}
use Rattle.fact_adapter_rules.proofs.BindingLaws.{flat_map-with}
use Rattle.fact_adapter_rules.proofs.FirstLaws.{HasNoneBelow, none-next}

-- ---- definitions and names

module _ {V : Type 0} (f : LinkedAdapter → List (CoreDef × V)) (before : List LinkedAdapter) (a : LinkedAdapter) (old new items : List (CoreDef × V)) (is : items ≡ f a) where
  pub bound-with : (b : Bool) → Binds old new items b → b ≡ true → Covers old (flat_map f before) → Covers new (flat_map f (with before a))
  bound-with b h e c =
      let told : Binds old new items true = subst (Binds old new items) e h in
      subst (Covers new) (ap (λ l. flat_map f before ++ l) is ∙ sym (flat_map-with f before a)) (told (flat_map f before) c)

  unbound-with : Binds old new items false → Covers old (flat_map f before) → AreConsistent (flat_map f (with before a)) → ⊥
  unbound-with h c k =
      h (flat_map f before) [] c (subst AreConsistent (flat_map-with f before a ∙ ap (λ l. flat_map f before ++ l) (sym (append-nil (items) ∙ is))) k)

  -- what was not bound has two values
  pub bound-exactly : (b : Bool) → Binds old new items b → Covers old (flat_map f before) → IsTrue (not b) ↔ (AreConsistent (flat_map f (with before a)) → ⊥)
  bound-exactly true h c = (λ e. absurd (true≢false (sym e)), λ k. absurd (k (AreConsistent-covered new (flat_map f (with before a)) (bound-with true h refl c))))
  bound-exactly false h c = (λ e. unbound-with h c, λ k. refl)

module _ (before : List LinkedAdapter) (a : LinkedAdapter) (old new items : List (List ℕ)) (is : items ≡ export_names a) (names : old ≡ flat_map export_names before) where
  pub added-with : (b : Bool) → AddsNames old new items b → b ≡ true → new ≡ flat_map export_names (with before a)
  added-with b h e =
      let told : AddsNames old new items true = subst (AddsNames old new items) e h in
      told.0 ∙ ap (λ l. old ++ l) is ∙ ap (λ l. l ++ export_names a) names ∙ sym (flat_map-with export_names before a)

  unadded-with : AddsNames old new items false → IsRepeated (flat_map export_names (with before a))
  unadded-with h k =
      h [] (subst AreAllDifferent (flat_map-with export_names before a ∙ ap (λ l. l ++ export_names a) (sym names) ∙ ap (λ l. old ++ l) (sym (append-nil items ∙ is))) k)

  -- what was not added is repeated
  pub added-exactly : (b : Bool) → AddsNames old new items b → AreAllDifferent old → IsTrue (not b) ↔ HasDuplicateName before a
  added-exactly true h d = (λ e. absurd (true≢false (sym e)), λ k. absurd (k (subst AreAllDifferent (added-with true h refl) (h.1 d))))
  added-exactly false h d = (λ e. unadded-with h, λ k. refl)

-- ---- the faults of an adapter, in their order

module _ (concurrency : Bool) (before : List LinkedAdapter) (a : LinkedAdapter) where
  abbrev pub Has : Fault → Type 0
  Has f = LinkedHas concurrency before a f

  none-of-plans : HasNoneBelow Has 3
  none-of-plans unknown_index below h = absurd h
  none-of-plans bad_type below h = absurd h
  none-of-plans too_large below h = absurd h
  none-of-plans bad_options below h = omega (arith, below)
  none-of-plans type_mismatch below h = omega (arith, below)
  none-of-plans bad_memory below h = omega (arith, below)
  none-of-plans bad_signature below h = omega (arith, below)
  none-of-plans import_conflict below h = omega (arith, below)
  none-of-plans duplicate_name below h = omega (arith, below)

  pub first-options : HasNoneBelow Has 3
  first-options = none-of-plans

  pub first-mismatch : (HasBadOptions concurrency a → ⊥) → HasNoneBelow Has 4
  first-mismatch o = none-next Has bad_options none-of-plans o

  pub first-memory : (HasBadOptions concurrency a → ⊥) → (HasTypeMismatch a → ⊥) → HasNoneBelow Has 5
  first-memory o m = none-next Has type_mismatch (first-mismatch o) m

  pub first-signature : (HasBadOptions concurrency a → ⊥) → (HasTypeMismatch a → ⊥) → (HasBadMemory before a → ⊥) → HasNoneBelow Has 6
  first-signature o m y = none-next Has bad_memory (first-memory o m) y

  pub first-conflict : (HasBadOptions concurrency a → ⊥) → (HasTypeMismatch a → ⊥) → (HasBadMemory before a → ⊥) → (HasBadSignature a → ⊥) → HasNoneBelow Has 7
  first-conflict o m y s = none-next Has bad_signature (first-signature o m y) s

  pub first-name : (HasBadOptions concurrency a → ⊥) → (HasTypeMismatch a → ⊥) → (HasBadMemory before a → ⊥) → (HasBadSignature a → ⊥) → (HasImportConflict before a → ⊥) → HasNoneBelow Has 8
  first-name o m y s i = none-next Has import_conflict (first-conflict o m y s) i

  pub none-at-all : (HasBadOptions concurrency a → ⊥) → (HasTypeMismatch a → ⊥) → (HasBadMemory before a → ⊥) → (HasBadSignature a → ⊥) → (HasImportConflict before a → ⊥)
      → (HasDuplicateName before a → ⊥) → (f : Fault) → LinkedHas concurrency before a f → ⊥
  none-at-all o m y s i d f h = none-next Has duplicate_name (first-name o m y s i) d f (most f) h
    where
      most : (g : Fault) → rank g < 9
      most unknown_index = omega arith
      most bad_type = omega arith
      most too_large = omega arith
      most bad_options = omega arith
      most type_mismatch = omega arith
      most bad_memory = omega arith
      most bad_signature = omega arith
      most import_conflict = omega arith
      most duplicate_name = omega arith
