-- Laws of values: what is read is a value of its type, and such a value is carried to each type that agrees.
use Rattle.std.specs.Prelude.{◌≡◌, ℕ, ◌^◌, ◌<◌, ◌≤◌, Bool, List, length, drop, Some, None}
use Rattle.std.specs.List.{AllByRecursion}
use Rattle.fact_machine.specs.declared.types.CoreValue.{CoreValue}
use Rattle.fact_types.specs.declared.interface.InterfaceType.{InterfaceType}
use Rattle.fact_types.specs.Agrees.{Agrees}
use Rattle.fact_types.specs.Shapes.{Shape}
use Rattle.fact_types.specs.Tables.{Tables, HasShape}
use Rattle.fact_types.specs.Valid.{IsRuled, AreRuled}
use Rattle.fact_values.specs.Bytes.{AreBytes, AreCores}
use Rattle.fact_values.specs.Carry.{crossed, Carries, handles}
use Rattle.fact_values.specs.declared.side.SideAbi.{SideAbi}
use Rattle.fact_values.specs.declared.value.Value.{Value}
use Rattle.fact_values.specs.Formed.{IsFormed}
use Rattle.fact_values.specs.IsA.{IsA, AreMembers}
use Rattle.fact_values.specs.Lift.{lift}
use Rattle.fact_values.specs.Load.{load}
use Rattle.fact_values.specs.Own.{StandsWhole, SameBytes}
use Rattle.fact_values.specs.Places.{extent_on}
use Rattle.fact_values.specs.Tuples.{flat_or_behind, lower_result_values}
use Rattle.fact_types.specs.Tuples.{members_from}

-- A value that is loaded is a value of its type, and so is one that is lifted.
abbrev pub LoadedIsA : Type 0
LoadedIsA = (side : SideAbi) (bytes : List ℕ) → AreBytes bytes → (s : Shape) → IsRuled s → (a : ℕ) (v : Value) → load side bytes s a ≡ Some v → IsA s v

abbrev pub LiftedIsA : Type 0
LiftedIsA = (side : SideAbi) (bytes : List ℕ) → AreBytes bytes → (s : Shape) → IsRuled s → (cs : List CoreValue) (v : Value) → AreCores cs → lift side bytes s cs ≡ Some v → IsA s v

-- The values of a tuple are values of its types.
abbrev pub TuplesAre : Type 0
TuplesAre =
    (side : SideAbi) (bytes : List ℕ) → AreBytes bytes → (limit : ℕ) (ss : List Shape) → AreRuled (members_from 0 ss) → (cs : List CoreValue) (vs : List Value) → AreCores cs
    → flat_or_behind side bytes limit ss cs ≡ Some vs → AreMembers (members_from 0 ss) vs

-- The results of a side that lowers a function are values of their types.
abbrev pub ResultsAre : Type 0
ResultsAre =
    (async : Bool) (side : SideAbi) (bytes : List ℕ) → AreBytes bytes → (rs : List Shape) → AreRuled (members_from 0 rs) → (args results : List CoreValue) (vs : List Value) → AreCores args → AreCores results
    → lower_result_values async side bytes rs args results ≡ Some vs → AreMembers (members_from 0 rs) vs

-- A value that stands whole at its place is read from its own bytes alone. A string, a list or a map is read from further
-- bytes too, so that it is no such value.
abbrev pub LoadedAlone : Type 0
LoadedAlone = (side : SideAbi) (xs ys : List ℕ) (s : Shape) (a : ℕ) → StandsWhole s → SameBytes xs ys a (extent_on side s).size → load side xs s a ≡ load side ys s a

-- The shapes of types are formed.
abbrev pub ShapesAreFormed : Type 0
ShapesAreFormed = (t : Tables) (y : InterfaceType) (s : Shape) → HasShape t y s → IsFormed s

-- With enough numbers for the handles that cross there is one value, of the destination type, and the numbers that are
-- left are those behind as many as there are handles.
pub record CarriedBy (s d : Shape) (v : Value) (numbers : List ℕ) : Type 0 where
  pub value : Value
  pub crossed : crossed s d v numbers ≡ Some (value, drop (length (handles s d v)) numbers)
  pub is_a : IsA d value

abbrev pub EnoughNumbers : Type 0
EnoughNumbers =
    (s d : Shape) (v : Value) (numbers : List ℕ) → IsFormed s → IsFormed d → IsA s v → Agrees s d → length (handles s d v) ≤ length numbers
    → AllByRecursion (λ n. n < 2 ^ 32) numbers → CarriedBy s d v numbers

abbrev pub TooFewNumbers : Type 0
TooFewNumbers = (s d : Shape) (v : Value) (numbers : List ℕ) → IsFormed s → IsFormed d → IsA s v → Agrees s d → length numbers < length (handles s d v) → crossed s d v numbers ≡ None

-- A value is carried to one value.
abbrev pub CarriedToOne : Type 0
CarriedToOne = (s d : Shape) (v u w : Value) (numbers : List ℕ) → Carries s d v numbers u → Carries s d v numbers w → u ≡ w
