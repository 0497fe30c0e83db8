-- Cited by private clauses alone.
-- What values ask for, as it is counted: it stops where it is more than any host gives.
use Rattle.std.specs.Prelude.{◌≡◌, ℕ, min, List, sum_by, Option, Some, None}
use Rattle.fact_types.specs.Shapes.{Shape, Members}
use Rattle.fact_values.specs.declared.value.Value.{Value}
use Rattle.fact_values.specs.Weight.{weight}
use Rattle.fact_lowering.specs.declared.room.Asked.{Asked}
use Rattle.fact_lowering.specs.Room.{Measure, inner_room, each_once, measured, or_own, shape_named}

abbrev pub stopped : ℕ → ℕ
stopped n = min n 2000000

-- so much room, so many texts, lists, maps and handles, and so heavy
pub record CountsFor (room pieces weight : ℕ) (a : Asked) : Type 0 where
  pub room_is : a.room ≡ stopped room
  pub pieces_are : a.pieces ≡ stopped pieces
  pub weight_is : a.weight ≡ stopped weight

-- what is counted, by a measure, and so heavy
abbrev pub AsksBy : (Measure → ℕ) → ℕ → Asked → Type 0
AsksBy count weight a = CountsFor (count inner_room) (count each_once) weight a

-- What is counted of a value of a type, carried to another one or, where there is none, to its own; and its weight. It is nothing where the
-- type or the value is missing.
abbrev pub measured_at : Measure → Option Shape → Option Shape → Option Value → ℕ
measured_at m None p v = 0
measured_at m (Some s) p None = 0
measured_at m (Some s) p (Some v) = measured m s (or_own s p) v

abbrev pub weight_at : Option Shape → Option Value → ℕ
weight_at None v = 0
weight_at (Some s) None = 0
weight_at (Some s) (Some v) = weight s v

-- the shape of the first member of the name that is there
abbrev pub shape_of_name : Option (List ℕ) → Members → Option Shape
shape_of_name None ns = None
shape_of_name (Some x) ns = shape_named x ns

-- the weights of payloads
abbrev pub weights_of : Option Shape → List Value → ℕ
weights_of x vs = sum_by (λ v. weight_at x (Some v)) vs
