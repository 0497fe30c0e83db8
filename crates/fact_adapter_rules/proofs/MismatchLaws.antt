-- Function types that agree, and those that do not.
use Rattle.std.proofs.Common.{◌≡◌, ◌≢◌, Bool, true, false, List, Result, Ok, Err, IfOk, inl, inr, refl, sym, subst, ◌∙◌}
use Rattle.std.proofs.lemmas.Bool.{true≢false}
use mathlib.Core.Bool.{beq}
use Rattle.std.specs.Prelude.{◌↔◌, IsTrue, not}
use Rattle.fact_types.specs.declared.interface.InterfaceType.{InterfaceType}
use Rattle.fact_types.specs.Agrees.{Agrees}
use Rattle.fact_types.specs.Shapes.{Shape}
use Rattle.fact_types.specs.Tables.{Tables, HasShape}
use Rattle.fact_agreement.specs.Lists.{AgreeAll}
use Rattle.fact_adapter_rules.specs.AdapterRules.{HasTypeMismatch, any_borrow}
use Rattle.fact_types.specs.Adapters.{LinkedAdapter}
use Rattle.fact_types.specs.Tuples.{tuple_of}
use Rattle.fact_adapter_rules.proofs.TupleLaws.{placed_agree}

-- What is told of the tuples of two functions' parameters, or results, is told of their members.
pub told-agree : {E : Type 0} (r : Result Bool E) (t u : Tables) (from to : InterfaceType) (P Q : List Shape → List Shape → Type 0) (pick : List Shape → List Shape → List Shape) → u ≡ t
    → ((ps rs : List Shape) → P ps rs → HasShape t from (tuple_of (pick ps rs))) → ((ps rs : List Shape) → Q ps rs → HasShape t to (tuple_of (pick ps rs)))
    → IfOk r (λ b. (s d : Shape) → HasShape u from s → HasShape u to d → (IsTrue b ↔ Agrees s d))
    → IfOk r (λ b. (ps rs qs us : List Shape) → P ps rs → Q qs us → (IsTrue b ↔ AgreeAll (pick ps rs) (pick qs us)))
told-agree (Err e) t u from to P Q pick same f g h = tt
told-agree (Ok b) t u from to P Q pick same f g h =
    λ ps rs qs us p q.
    let has = λ (ty : InterfaceType) (s : Shape) (x : HasShape t ty s). subst (λ (v : Tables). HasShape v ty s) (sym same) x in
    let k = h (tuple_of (pick ps rs)) (tuple_of (pick qs us)) (has from (tuple_of (pick ps rs)) (f ps rs p)) (has to (tuple_of (pick qs us)) (g qs us q)) in
    let l = placed_agree 0 0 (pick ps rs) (pick qs us) in
    (λ x. l.0 (k.0 x), λ x. k.1 (l.1 x))

-- bits that are not told apart, and those that are
pub same-bits : (x y : Bool) → not (beq x y) ≡ false → x ≡ y
same-bits true true e = refl
same-bits false false e = refl
same-bits true false e = absurd (true≢false e)
same-bits false true e = absurd (true≢false e)

pub apart : (x y : Bool) → not (beq x y) ≡ true → x ≢ y
apart true true e = absurd (true≢false (sym e))
apart false false e = absurd (true≢false (sym e))
apart true false e = true≢false
apart false true e = λ h. true≢false (sym h)

differ : (x y : Bool) → x ≢ y → not (beq x y) ≡ true
differ true true n = absurd (n refl)
differ false false n = absurd (n refl)
differ true false n = refl
differ false true n = refl

-- ---- the ways in which types do not agree

module _ (a : LinkedAdapter) where
  pub other-marks : (a.lift.async_type ≢ a.lower.async_type) → IsTrue true ↔ HasTypeMismatch a
  other-marks h = (λ _. inl h, λ _. refl)

  pub other-params : (AgreeAll a.lower.params a.lift.params → ⊥) → IsTrue true ↔ HasTypeMismatch a
  other-params h = (λ _. inr (inl h), λ _. refl)

  pub other-results : (AgreeAll a.lift.results a.lower.results → ⊥) → IsTrue true ↔ HasTypeMismatch a
  other-results h = (λ _. inr (inr (inl h)), λ _. refl)

  -- where all else agrees, the borrows decide
  pub other-borrows : (x y : Bool) → a.lift.async_type ≡ a.lower.async_type → AgreeAll a.lower.params a.lift.params → AgreeAll a.lift.results a.lower.results
      → x ≡ any_borrow a.lower.params → y ≡ any_borrow a.lift.params → IsTrue (not (beq x y)) ↔ HasTypeMismatch a
  other-borrows x y marks params results is_x is_y = (
    λ h. inr (inr (inr (λ e. apart x y h (is_x ∙ e ∙ sym is_y)))),
    λ h. elim h [
      | inl m ↦ absurd (m marks)
      | inr rest ↦
          elim rest [
            | inl p ↦ absurd (p params)
            | inr more ↦ elim more [ inl r ↦ absurd (r results) | inr b ↦ differ x y (λ e. b (sym is_x ∙ e ∙ is_y)) ]
          ]
    ],
  )
