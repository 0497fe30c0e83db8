-- Carrying through a type between two others. A value that is carried to the type between, and from there on, becomes what it
-- becomes where it is carried directly, but for the numbers of the first way, which are forgotten.
use Rattle.std.specs.Prelude.{◌≡◌, ℕ, ◌^◌, ◌<◌, ◌≤◌, List, length, Some}
use Rattle.std.specs.List.{AllByRecursion}
use Rattle.fact_types.specs.Agrees.{Agrees, AgreesPlaces}
use Rattle.fact_types.specs.Shapes.{Shape, Members}
use Rattle.fact_values.specs.Carry.{take_number, crossed, Carries, handles}
use Rattle.fact_values.specs.declared.value.Value.{Value}
use Rattle.fact_values.specs.Formed.{IsFormed, AreFormed}
use Rattle.fact_values.specs.Handles.{cross_places}
use Rattle.fact_values.specs.IsA.{IsA}

-- Types agree through one between.
abbrev pub AgreesThrough : Type 0
AgreesThrough = (s m d : Shape) → Agrees s m → Agrees m d → Agrees s d

abbrev pub PlacesAgreeThrough : Type 0
PlacesAgreeThrough = (from between to : Members) → AgreesPlaces from between → AgreesPlaces between to → AgreesPlaces from to

-- A value that is carried to a type between, and from there on, and the same value carried directly.
pub record CarriedThrough (s m d : Shape) (v : Value) (first second : List ℕ) : Type 0 where
  pub agrees : Agrees s d
  pub between : Value
  pub value : Value
  pub to_between : Carries s m v first between
  pub onward : Carries m d between second value
  pub directly : Carries s d v second value

-- With enough numbers on each way it is one value.
abbrev pub Composed : Type 0
Composed =
    (s m d : Shape) (v : Value) (first second : List ℕ) → IsFormed s → IsFormed m → IsFormed d → IsA s v → Agrees s m → Agrees m d
    → length (handles s m v) ≤ length first → length (handles s d v) ≤ length second
    → AllByRecursion (λ n. n < 2 ^ 32) first → AllByRecursion (λ n. n < 2 ^ 32) second → CarriedThrough s m d v first second

-- Whatever the numbers: a value that was carried to a type between becomes from there on what it becomes directly, or nothing
-- where that is nothing, and the same numbers are left. So do the members of a tuple, one after another.
abbrev pub CrossedThrough : Type 0
CrossedThrough =
    (s m d : Shape) (v between : Value) (first left second : List ℕ) → IsFormed m → IsFormed d → Agrees m d
    → crossed s m v first ≡ Some (between, left) → crossed m d between second ≡ crossed s d v second

abbrev pub PlacesCrossedThrough : Type 0
PlacesCrossedThrough =
    (from middle to : Members) (vs between : List Value) (first left second : List ℕ) → AreFormed middle → AreFormed to → AgreesPlaces middle to
    → cross_places take_number from vs middle first ≡ Some (between, left)
    → cross_places take_number middle between to second ≡ cross_places take_number from vs to second

-- As many handles cross onward as directly.
abbrev pub SameHandleCount : Type 0
SameHandleCount =
    (s m d : Shape) (v between : Value) (first : List ℕ) → IsFormed s → IsFormed m → IsFormed d → Agrees m d → Carries s m v first between
    → AllByRecursion (λ n. n < 2 ^ 32) first → length (handles m d between) ≡ length (handles s d v)
