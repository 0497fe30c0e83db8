-- The value that a value becomes where it is carried from a type to another, and the handles that cross with it.
use Rattle.std.specs.Prelude.{◌≡◌, ℕ, List, [], ◌∷◌, ◌++◌, Option, Some, None, option_map}
use Rattle.fact_types.specs.Agrees.{Agrees}
use Rattle.fact_types.specs.Shapes.{Shape}
use Rattle.fact_values.specs.declared.value.Value.{Value}
use Rattle.fact_values.specs.Handles.{Crossing, Asked, cross}
use Rattle.fact_values.specs.IsA.{IsA}

-- The next number of a list.
abbrev pub take_number : Asked (List ℕ)
take_number c [] = None
take_number c (n ∷ ns) = Some (n, ns)

-- A value with its handles by these numbers, in the order of the destination, and the numbers that are left.
abbrev pub crossed : Shape → Shape → Value → List ℕ → Option (Value × List ℕ)
crossed s d v numbers = cross take_number s d v numbers

-- A value of a source type is carried to a value of a destination type that agrees with it, with these numbers.
pub record Carries (s d : Shape) (v : Value) (numbers : List ℕ) (u : Value) : Type 0 where
  pub is_a : IsA s v
  pub agrees : Agrees s d
  pub is : option_map (λ r. r.0) (crossed s d v numbers) ≡ Some u

-- What a value is carried to: none where there is no such value.
abbrev pub IsCarried : Shape → Shape → Value → List ℕ → Option Value → Type 0
IsCarried s d v numbers (Some u) = Carries s d v numbers u
IsCarried s d v numbers None = (u : Value) → Carries s d v numbers u → ⊥

-- A handle is written down behind those before it.
abbrev pub note : Asked (List Crossing)
note c cs = Some (0, cs ++ c ∷ [])

abbrev pub noted : Option (Value × List Crossing) → List Crossing
noted None = []
noted (Some r) = r.1

-- The handles that cross, in the order of the destination.
abbrev pub handles : Shape → Shape → Value → List Crossing
handles s d v = noted (cross note s d v [])
