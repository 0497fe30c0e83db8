-- Lists of types that agree one by one.
use Rattle.std.specs.Prelude.{List, [], ◌∷◌}
use Rattle.fact_types.specs.Agrees.{Agrees}
use Rattle.fact_types.specs.Shapes.{Shape}

-- As many of the one as of the other, and each agrees with the one at its place.
abbrev pub AgreeAll : List Shape → List Shape → Type 0
AgreeAll [] [] = Unit {0}
AgreeAll [] (d ∷ ds) = ⊥
AgreeAll (s ∷ ss) [] = ⊥
AgreeAll (s ∷ ss) (d ∷ ds) = Agrees s d × AgreeAll ss ds
