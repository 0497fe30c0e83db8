-- What holds of a tuple holds of its members.
use Rattle.std.proofs.Common.{◌≡◌, ◌≢◌, ℕ, suc, Bool, List, [], ◌∷◌, length, refl, sym, ap, ◌∙◌, arith}
use Rattle.std.proofs.lemmas.Bool.{true≢false}
use Rattle.std.proofs.Math.Dec.{eqb-suc-zero}
use Rattle.std.specs.Prelude.{◌↔◌, ◌||◌, IsTrue, not, nat_eq}
use Rattle.fact_types.specs.Agrees.{AgreesPlaces}
use Rattle.fact_types.specs.declared.interface.InterfaceType.{InterfaceType}
use Rattle.fact_types.specs.Functions.{HaveShapes}
use Rattle.fact_types.specs.Shapes.{Shape}
use Rattle.fact_types.specs.Tables.{Tables}
use Rattle.fact_types.specs.Handles.{has_borrow, have_borrow}
use Rattle.fact_types.specs.PointerPairs.{any_pointer_pair, has_pointer_pair, have_pointer_pair}
use Rattle.fact_agreement.specs.Lists.{AgreeAll}
use Rattle.fact_adapter_rules.specs.AdapterRules.{any_borrow}
use Rattle.fact_types.specs.Tuples.{members_from}

pub placed_borrow : (n : ℕ) (ss : List Shape) → have_borrow (members_from n ss) ≡ any_borrow ss
placed_borrow n [] = refl
placed_borrow n (s ∷ ss) = ap (λ b. has_borrow s || b) (placed_borrow (suc n) ss)

pub placed_pointer_pair : (n : ℕ) (ss : List Shape) → have_pointer_pair (members_from n ss) ≡ any_pointer_pair ss
placed_pointer_pair n [] = refl
placed_pointer_pair n (s ∷ ss) = ap (λ b. has_pointer_pair s || b) (placed_pointer_pair (suc n) ss)

pub placed_agree : (n m : ℕ) (ss ds : List Shape) → AgreesPlaces (members_from n ss) (members_from m ds) ↔ AgreeAll ss ds
placed_agree n m [] [] = (λ h. h, λ h. h)
placed_agree n m [] (d ∷ ds) = (λ h. h, λ h. h)
placed_agree n m (s ∷ ss) [] = (λ h. h, λ h. h)
placed_agree n m (s ∷ ss) (d ∷ ds) =
    let rest = placed_agree (suc n) (suc m) ss ds in
    (λ h. (h.0, rest.0 h.1), λ h. (h.0, rest.1 h.1))

-- no types stand for no shapes
pub none-have : (t : Tables) (xs : List InterfaceType) (ss : List Shape) (b : Bool) → b ≡ nat_eq (length xs) 0 → HaveShapes t xs ss → IsTrue (not b) ↔ (ss ≢ [])
none-have t [] [] b e h = (λ f. absurd (true≢false (sym f ∙ ap not e)), λ f. absurd (f refl))
none-have t [] (s ∷ ss) b e h = absurd h
none-have t (x ∷ xs) [] b e h = absurd h
none-have t (x ∷ xs) (s ∷ ss) b e h = (λ f g. cons≢nil g, λ f. ap not (e ∙ eqb-suc-zero (length xs)))
  where
    cons≢nil : {A : Type 0} {y : A} {ys : List A} → y ∷ ys ≡ [] → ⊥
    cons≢nil g = omega (arith, ap length g)
