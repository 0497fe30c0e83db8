-- Cited by private clauses alone.
-- Joined flat types, a place at a time.
use Rattle.std.specs.Prelude.{List, [], ◌∷◌, Option, Some, None}
use Rattle.fact_types.specs.declared.flats.FlatType.{FlatType}
use Rattle.fact_types.specs.Flat.{join}

-- What stands at a place of two joined lists.
abbrev pub joined_at : Option FlatType → Option FlatType → Option FlatType
joined_at None b = b
joined_at (Some a) None = Some a
joined_at (Some a) (Some b) = Some (join a b)

-- What may be there, as a list.
abbrev pub item : {X : Type 0} → Option X → List X
item None = []
item (Some x) = x ∷ []
