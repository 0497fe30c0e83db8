-- How deep types go, told by the tables alone: the measure of a recursion over the types of the tables. (`depth` is that of
-- shapes, `nesting` how deep types nest by the rules.)
use Rattle.std.specs.Prelude.{ℕ, zero, suc, ◌+◌, ◌<◌, max, List, [], ◌∷◌, Option, Some, None}
use Rattle.fact_types.specs.declared.interface.InterfaceType.{InterfaceType}
use Rattle.fact_types.specs.Tables.{Tables, Node, node_of, IsLive, entries}

-- The greatest of the heights of members.
abbrev pub tallest : (InterfaceType → ℕ) → List (List ℕ × Option InterfaceType) → ℕ
tallest f [] = 0
tallest f ((n, None) ∷ xs) = tallest f xs
tallest f ((n, Some ty) ∷ xs) = max (f ty) (tallest f xs)

abbrev pub over_members : (InterfaceType → ℕ) → Option Node → ℕ
over_members f None = 0
over_members f (Some n) = 1 + tallest f n.members

-- The height as far as so many types within one another are looked at.
abbrev pub height_in : ℕ → Tables → InterfaceType → ℕ
height_in zero t ty = 0
height_in (suc n) t ty = over_members (height_in n t) (node_of t ty)

-- One more than the greatest height of the members, 0 for a plain type. No type goes deeper than there are entries.
unfoldable pub height : Tables → InterfaceType → ℕ
height t ty = height_in (entries t) t ty

-- A type that is a member of another one is lower, and it is live.
pub record IsMemberOf (t : Tables) (member ty : InterfaceType) : Type 0 where
  pub lower : height t member < height t ty
  pub live : IsLive t member
