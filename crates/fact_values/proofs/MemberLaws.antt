-- Laws of members that laws of values and walks over values both cite.
use Rattle.std.proofs.Common.{◌≡◌, ℕ, List, [], ◌∷◌, map, Option, Some, None, refl, sym}
use Rattle.std.specs.Prelude.{Bool, true, false, ◌&&◌}
use Rattle.std.proofs.lemmas.Bool.{true≢false}
use Rattle.fact_types.specs.declared.interface.InterfaceType.{InterfaceType}
use Rattle.fact_types.specs.Agrees.{names_of}
use Rattle.fact_types.specs.Shapes.{Members, no_members, bare, typed}
use Rattle.fact_types.specs.Tables.{Tables, HasMembers}
use Rattle.fact_types.proofs.ShapeLaws.{none_some, more}

pub names_told : (t : Tables) (xs : List (List ℕ × Option InterfaceType)) (ms : Members) → HasMembers t xs ms → map (λ m. m.0) xs ≡ names_of ms
names_told t [] no_members h = refl
names_told t (x ∷ xs) no_members h = absurd h
names_told t [] (bare n ms) h = absurd h
names_told t (x ∷ xs) (bare n ms) h = more x.0 n (map (λ m. m.0) xs) (names_of ms) h.0 (names_told t xs ms h.2)
names_told t [] (typed n s ms) h = absurd h
names_told t (x ∷ xs) (typed n s ms) h = more x.0 n (map (λ m. m.0) xs) (names_of ms) h.0 (names_told t xs ms h.2)

pub both_true : (a b : Bool) → (a && b) ≡ true → (a ≡ true) × (b ≡ true)
both_true true b e = (refl, e)
both_true false b e = absurd (true≢false (sym e))
