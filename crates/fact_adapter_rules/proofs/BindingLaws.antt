-- Bindings and names, one call behind the other.
use Rattle.std.proofs.Common.{◌≡◌, ℕ, Bool, true, false, List, [], ◌∷◌, ◌++◌, length, arith, refl, sym, ap, subst, ◌∙◌}
use Rattle.std.specs.Prelude.{IsTrue, IsFalse, Contains}
use Rattle.std.specs.List.{flat_map}
use Rattle.std.proofs.lemmas.Grind.{flat_map-append}
use Rattle.std.proofs.lemmas.List.{append-nil, append_assoc}
use Rattle.fact_types.specs.declared.outside.CoreDef.{CoreDef}
use Rattle.fact_adapter_rules.specs.Bindings.{AreAllDifferent, AreConsistent, Covers, IsBoundToAnother}
use Rattle.fact_adapter_rules.proofs.BoundLaws.{not_consistent}
use Rattle.fact_adapter_rules.proofs.NameLaws.{not_distinct}
use Rattle.fact_adapter_rules.specs.AddedBindings.{AddsNames, Binds}

-- what a list of lists gives, with one more
pub flat_map-with : {A B : Type 0} (f : A → List B) (xs : List A) (x : A) → flat_map f (xs ++ x ∷ []) ≡ flat_map f xs ++ f x
flat_map-with f xs x = flat_map-append f xs (x ∷ []) ∙ ap (λ ys. flat_map f xs ++ ys) (append-nil (f x))

module _ {V : Type 0} where
  -- one pair that was offered
  pub Binds-one : (old new : List (CoreDef × V)) (d : CoreDef) (v : V) (b : Bool)
      → (IsTrue b → (xs : List (CoreDef × V)) → Covers old xs → Covers new (xs ++ (d, v) ∷ [])) → (IsFalse b → (xs : List (CoreDef × V)) → Covers old xs → IsBoundToAnother xs d v)
      → Binds old new ((d, v) ∷ []) b
  Binds-one old new d v true bound another = bound refl
  Binds-one old new d v false bound another = λ xs zs h c. not_consistent xs zs d v (another refl xs h) c

  -- no pairs
  pub Binds-none : (m : List (CoreDef × V)) → Binds m m [] true
  Binds-none m xs h = subst (Covers m) (sym (append-nil xs)) h

  -- pairs that were bound, and then others
  pub Binds-then : (old mid new ys zs : List (CoreDef × V)) (b : Bool) → Binds old mid ys true → Binds mid new zs b → Binds old new (ys ++ zs) b
  Binds-then old mid new ys zs true first next = λ xs h. subst (Covers new) (append_assoc xs ys zs) (next (xs ++ ys) (first xs h))
  Binds-then old mid new ys zs false first next =
      λ xs ws h c. next (xs ++ ys) ws (first xs h) (subst AreConsistent (ap (λ (l : List (CoreDef × V)). xs ++ l) (append_assoc ys zs ws) ∙ sym (append_assoc xs ys (zs ++ ws))) c)

  -- pairs that were not bound
  pub Binds-stopped : (old mid new ys zs : List (CoreDef × V)) → Binds old mid ys false → Binds old new (ys ++ zs) false
  Binds-stopped old mid new ys zs first = λ xs ws h c. first xs (zs ++ ws) h (subst AreConsistent (ap (λ (l : List (CoreDef × V)). xs ++ l) (append_assoc ys zs ws)) c)

  -- Pairs of a list that were offered in order: all of it, and up to one that was not bound.
  pub Binds-all : (old new ys rest all : List (CoreDef × V)) → all ≡ ys ++ rest → length rest ≡ 0 → Binds old new ys true → Binds old new all true
  Binds-all old new ys [] all is none h = subst (λ l. Binds old new l true) (sym (is ∙ append-nil ys)) h
  Binds-all old new ys (x ∷ rest) all is none h = absurd (omega (arith, none))

  pub Binds-offered : (old mid new ys rest behind all : List (CoreDef × V)) (d : CoreDef) (v : V) (b : Bool) → all ≡ ys ++ rest → rest ≡ (d, v) ∷ behind
      → Binds old mid ys true → Binds mid new ((d, v) ∷ []) b → b ≡ false → Binds old new all false
  Binds-offered old mid new ys rest behind all d v b is next first one stops =
      let both = Binds-then old mid new ys ((d, v) ∷ []) false first (subst (Binds mid new ((d, v) ∷ [])) stops one) in
      let split : all ≡ (ys ++ (d, v) ∷ []) ++ behind = is ∙ ap (λ (l : List (CoreDef × V)). ys ++ l) next ∙ sym (append_assoc ys ((d, v) ∷ []) behind) in
      subst (λ l. Binds old new l false) (sym split) (Binds-stopped old new new (ys ++ (d, v) ∷ []) behind both)

-- ---- names

-- no names
pub AddsNames-none : (names : List (List ℕ)) → AddsNames names names [] true
AddsNames-none names = (sym (append-nil names), λ d. d)

-- names that were added, and then others
pub AddsNames-then : (old mid new ys zs : List (List ℕ)) (b : Bool) → AddsNames old mid ys true → AddsNames mid new zs b → AddsNames old new (ys ++ zs) b
AddsNames-then old mid new ys zs true first next = (next.0 ∙ ap (λ (l : List (List ℕ)). l ++ zs) first.0 ∙ append_assoc old ys zs, λ d. next.1 (first.1 d))
AddsNames-then old mid new ys zs false first next =
    λ ws c. next ws (subst AreAllDifferent (ap (λ (l : List (List ℕ)). old ++ l) (append_assoc ys zs ws) ∙ sym (append_assoc old ys (zs ++ ws)) ∙ ap (λ (l : List (List ℕ)). l ++ (zs ++ ws)) (sym first.0)) c)

-- one name that was offered
pub AddsNames-one : (old new : List (List ℕ)) (name : List ℕ) (b : Bool)
    → (IsTrue b → new ≡ old ++ name ∷ []) → (IsFalse b → Contains old name) → AreAllDifferent new → AddsNames old new (name ∷ []) b
AddsNames-one old new name true added known distinct = (added refl, λ d. distinct)
AddsNames-one old new name false added known distinct = λ zs c. not_distinct old zs name (known refl) c

-- Names of a list that were offered in order: all of it, and up to one that was not added.
pub AddsNames-all : (old new ys rest all : List (List ℕ)) → all ≡ ys ++ rest → length rest ≡ 0 → AddsNames old new ys true → AddsNames old new all true
AddsNames-all old new ys [] all is none h = subst (λ l. AddsNames old new l true) (sym (is ∙ append-nil ys)) h
AddsNames-all old new ys (x ∷ rest) all is none h = absurd (omega (arith, none))

pub AddsNames-offered : (old mid new ys rest behind all : List (List ℕ)) (name : List ℕ) (b : Bool) → all ≡ ys ++ rest → rest ≡ name ∷ behind
    → AddsNames old mid ys true → AddsNames mid new (name ∷ []) b → b ≡ false → AddsNames old new all false
AddsNames-offered old mid new ys rest behind all name b is next first one stops =
    let both = AddsNames-then old mid new ys (name ∷ []) false first (subst (AddsNames mid new (name ∷ [])) stops one) in
    let split : all ≡ (ys ++ name ∷ []) ++ behind = is ∙ ap (λ (l : List (List ℕ)). ys ++ l) next ∙ sym (append_assoc ys (name ∷ []) behind) in
    λ ws c. both (behind ++ ws) (subst (λ (l : List (List ℕ)). AreAllDifferent (old ++ l)) (ap (λ (l : List (List ℕ)). l ++ ws) split ∙ append_assoc (ys ++ name ∷ []) behind ws) c)

-- three items, pushed one by one
pub three-pushed : {A : Type 0} (p q r s : List A) (x y z a b c : A) → q ≡ p ++ x ∷ [] → r ≡ q ++ y ∷ [] → s ≡ r ++ z ∷ [] → x ≡ a → y ≡ b → z ≡ c → s ≡ p ++ a ∷ b ∷ c ∷ []
three-pushed {A} p q r s x y z a b c first second third is_a is_b is_c =
    third ∙ ap (λ (l : List A). l ++ z ∷ []) (second ∙ ap (λ (l : List A). l ++ y ∷ []) first) ∙ ap (λ (l : List A). l ++ z ∷ []) (append_assoc p (x ∷ []) (y ∷ [])) ∙ append_assoc p (x ∷ y ∷ []) (z ∷ [])
    ∙ λ i. p ++ is_a i ∷ is_b i ∷ is_c i ∷ []
