-- The bytes that a value is read from, where it stands whole at its place: no strings, lists or maps within, whose further
-- bytes stand elsewhere.
use Rattle.std.specs.Prelude.{◌≡◌, ℕ, List, length, take, drop}
use Rattle.fact_types.specs.Shapes.{Kind, k_list, k_map, k_enum, k_future, k_stream, Shape, s_plain, s_node, Members, no_members, bare, typed}
use Rattle.fact_values.specs.Formed.{AreBare}
use Rattle.fact_values.specs.Numbers.{Plain, text, plain_of}

abbrev pub StandsWholePlain : Plain → Type 0
StandsWholePlain text = ⊥
StandsWholePlain _ = Unit {0}

-- A value of a kind stands whole where its members do.
abbrev pub StandsWholeBy : Kind → Members → Type 0 → Type 0
StandsWholeBy k_list ms P = ⊥
StandsWholeBy k_map ms P = ⊥
StandsWholeBy k_enum ms P = AreBare ms
StandsWholeBy (k_future table instance) ms P = Unit {0}
StandsWholeBy (k_stream table instance) ms P = Unit {0}
StandsWholeBy k ms P = P

abbrev mutual
  pub StandsWhole : Shape → Type 0
  StandsWhole (s_plain p) = StandsWholePlain (plain_of p)
  StandsWhole (s_node k ms) = StandsWholeBy k ms (StandWhole ms)

  pub StandWhole : Members → Type 0
  StandWhole no_members = Unit {0}
  StandWhole (bare n ms) = StandWhole ms
  StandWhole (typed n s ms) = StandsWhole s × StandWhole ms

-- Two memories of one length have the same n bytes from an address on.
pub record SameBytes (xs ys : List ℕ) (a n : ℕ) : Type 0 where
  pub long : length xs ≡ length ys
  pub same : take n (drop a xs) ≡ take n (drop a ys)
