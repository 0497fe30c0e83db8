-- What is known of pairs of types, when one more is put in.
use Rattle.std.proofs.Common.{◌≡◌, Option, Some, Bool, true, false, ◌&&◌, cond, refl, sym, ◌∙◌, subst}
use Rattle.std.proofs.lemmas.Bool.{and_parts}
use Rattle.fact_types.specs.declared.interface.InterfaceType.{InterfaceType}
use Rattle.fact_types.specs.contracts.interface.InterfaceTypePartialEq.TheImpl as type_eq
use Rattle.fact_types.specs.Exact.{exact_type}
use Rattle.fact_types.specs.Tables.{Tables}
use Rattle.fact_types.proofs.ShapeLaws.{same_some}
use Rattle.fact_agreement.specs.Told.{Tells, AllTold}

abbrev pub Pair : Type 0
Pair = InterfaceType × InterfaceType

abbrev pub pair_eq : Pair → Pair → Bool
pair_eq x y = type_eq.ghosts.eq x.0 y.0 && type_eq.ghosts.eq x.1 y.1

-- the pair that was put in, or another one
by_test : (t : Tables) (old : Pair → Option Bool) (p : Pair) (b : Bool) (f g : InterfaceType) (c : Bool) (test : Bool) → pair_eq p (f, g) ≡ test → AllTold t old → Tells t p.0 p.1 b → cond test (Some b) (old (f, g)) ≡ Some c → Tells t f g c
by_test t old p b f g c true e a h k =
    let parts = and_parts (type_eq.ghosts.eq p.0 f) (type_eq.ghosts.eq p.1 g) e in
    subst (λ f. Tells t f g c) (exact_type p.0 f parts.0) (subst (λ g. Tells t p.0 g c) (exact_type p.1 g parts.1) (subst (Tells t p.0 p.1) (same_some (Some b) b c refl k) h))
by_test t old p b f g c false e a h k = a f g c k

pub one_more : (t : Tables) (old new : Pair → Option Bool) (p : Pair) (b : Bool) → AllTold t old → ((q : Pair) → new q ≡ cond (pair_eq p q) (Some b) (old q)) → Tells t p.0 p.1 b → AllTold t new
one_more t old new p b a puts h f g c e = by_test t old p b f g c (pair_eq p (f, g)) refl a h (sym (puts (f, g)) ∙ e)
