-- Tuples of types, as function types have them for their parameters and their results: a member is named by its place.
-- Component Model, canonical ABI, "Despecialization" (`despecialize`).
use Rattle.std.specs.Prelude.{ℕ, suc, List, [], ◌∷◌}
use Rattle.fact_types.specs.Shapes.{k_tuple, Shape, s_node, Members, no_members, typed}

abbrev pub members_from : ℕ → List Shape → Members
members_from n [] = no_members
members_from n (s ∷ ss) = typed (n ∷ []) s (members_from (suc n) ss)

abbrev pub tuple_members : List Shape → Members
tuple_members ss = members_from 0 ss

abbrev pub tuple_of : List Shape → Shape
tuple_of ss = s_node k_tuple (tuple_members ss)
