-- Pairs of items and values that are consistent.
use Rattle.std.proofs.Common.{◌≡◌, ℕ, zero, suc, ◌<◌, List, [], ◌∷◌, ◌++◌, Some, Contains, sym, ap, ◌∙◌, subst, arith, length, map, slice_get, get_or, inl, inr}
use Rattle.std.specs.List.{flat_map}
use Rattle.std.proofs.lemmas.Bool.{cases_lt}
use Rattle.std.proofs.lemmas.Grind.{flat_map-append}
use Rattle.std.proofs.lemmas.List.{get_or_default}
use Rattle.std.proofs.lemmas.List.Elements.{Contains-append_left, Contains-append_right}
use Rattle.std.proofs.lemmas.Option.{slice_get-get_or}
use Rattle.fact_adapter_rules.specs.Bindings.{AreConsistent}
use Rattle.fact_adapter_rules.specs.declared.uses.Use.{Use}
use Rattle.fact_adapter_rules.specs.contracts.uses.UsePartialEq.TheImpl as use_eq
use Rattle.fact_adapter_rules.specs.contracts.uses.UseEq.TheImpl.Laws.{laws-law}
use Rattle.fact_adapter_rules.proofs.UseLaws.{exact_use}
use Rattle.fact_assembly.proofs.Stable.{IsStable, stable_equal}

-- ---- lists of pairs that are consistent

-- two pairs of one item are one, wherever they stand
pub one_value : {D V : Type 0} (xs : List (D × V)) (p q : D × V) → AreConsistent xs → Contains xs p → Contains xs q → p.0 ≡ q.0 → p.1 ≡ q.1
one_value xs p q h (i, i_in, i_is) (j, j_in, j_is) e =
    elim (cases_lt i j) [
      | inl below ↦ ordered i j p q below i_in j_in i_is j_is e
      | inr not_below ↦ elim (cases_lt j i) [
        | inl above ↦ sym (ordered j i q p above j_in i_in j_is i_is (sym e))
        | inr not_above ↦
            let same : i ≡ j = omega arith in
            let there : slice_get xs j ≡ Some p = ap (slice_get xs) (sym same) ∙ slice_get-get_or xs i p i_in ∙ ap Some i_is in
            let is_q : p ≡ q = inside (sym there ∙ slice_get-get_or xs j q j_in ∙ ap Some j_is) in
            ap (λ x. x.1) is_q
      ]
    ]
  where
    inside : {X : Type 0} {m n : X} → Some m ≡ Some n → m ≡ n
    inside e = cc

    ordered : (i j : ℕ) (p q : _) → i < j → i < length xs → j < length xs → get_or xs i p ≡ p → get_or xs j q ≡ q → p.0 ≡ q.0 → p.1 ≡ q.1
    ordered i j p q below i_in j_in i_is j_is e =
        let at_q : get_or xs j p ≡ q = get_or_default xs j p q j_in ∙ j_is in
        sym (ap (λ x. x.1) i_is) ∙ h i j p below j_in (ap (λ x. x.0) i_is ∙ e ∙ sym (ap (λ x. x.0) at_q)) ∙ ap (λ x. x.1) at_q

-- pairs that do not fail to be consistent are, where it can be told that values are the same
pub stable_consistent : {D V : Type 0} → ((v w : V) → IsStable (v ≡ w)) → (xs : List (D × V)) → IsStable (AreConsistent xs)
stable_consistent st xs h i j d below within e = st (get_or xs i d).1 (get_or xs j d).1 (λ n. h (λ c. n (c i j d below within e)))

pub stable_use : (a b : Use) → IsStable (a ≡ b)
stable_use a b h = stable_equal use_eq.ghosts.eq exact_use laws-law.refl a b h

pub contains_map : {X Y : Type 0} (f : X → Y) (xs : List X) (x : X) → Contains xs x → Contains (map f xs) (f x)
contains_map f [] x (k, within, is) = absurd (omega (arith, within))
contains_map f (y ∷ xs) x (zero, within, is) = (0, omega arith, ap f is)
contains_map f (y ∷ xs) x (suc k, within, is) = let r = contains_map f xs x (k, omega (arith, within), is) in (suc r.0, omega (arith, r.1), r.2)

-- the last of lists
pub contains_last : {X Y : Type 0} (f : X → List Y) (xs : List X) (x : X) (y : Y) → Contains (f x) y → Contains (flat_map f (xs ++ x ∷ [])) y
contains_last f xs x y c =
    subst (λ ys. Contains ys y) (sym (flat_map-append f xs (x ∷ []))) (Contains-append_right (flat_map f xs) (f x ++ []) y (Contains-append_left (f x) [] y c))
