-- What walks over values find: places of names, members by their names, and what is left of a walk.
use Rattle.std.specs.Prelude.{◌≡◌, ℕ, zero, suc, ◌↔◌, List, [], ◌∷◌, drop, Option, Some, None, Bool, true, false, if◌then◌else◌, slice_get}
use Rattle.std.specs.List.{AllByRecursion}
use Rattle.std.specs.Str.{bytes_eq}
use Rattle.fact_types.specs.declared.interface.InterfaceType.{InterfaceType}
use Rattle.fact_types.specs.Agrees.{named, names_of}
use Rattle.fact_types.specs.Shapes.{Shape, Members}
use Rattle.fact_types.specs.Tables.{Tables, HasShape}
use Rattle.fact_values.specs.declared.value.Value.{Value}
use Rattle.fact_values.specs.declared.value.Value.TheOpen.{Value-F}
use Rattle.fact_values.specs.declared.value.Value.TheOpen as o
use Rattle.fact_values.specs.IsA.{IsA, AreMembers}
use Rattle.fact_abi.specs.Nodes.{AreOf}
use Rattle.fact_types.specs.Options.{◌>>=◌}

-- ---- names among names

-- The first of these names that is a name stands at a place.
abbrev pub IsFirstNamed : List ℕ → List (List ℕ) → ℕ → Type 0
IsFirstNamed x [] i = ⊥
IsFirstNamed x (n ∷ ns) zero = bytes_eq n x ≡ true
IsFirstNamed x (n ∷ ns) (suc i) = (bytes_eq n x ≡ false) × IsFirstNamed x ns i

-- None of these names is a name.
abbrev pub IsNowhere : List ℕ → List (List ℕ) → Type 0
IsNowhere x [] = Unit {0}
IsNowhere x (n ∷ ns) = (bytes_eq n x ≡ false) × IsNowhere x ns

abbrev pub IsIndexOf : List ℕ → List (List ℕ) → Option ℕ → Type 0
IsIndexOf x ns None = IsNowhere x ns
IsIndexOf x ns (Some i) = IsFirstNamed x ns i

-- Whether a name that is there is a name.
abbrev pub name_is : List ℕ → Option (List ℕ) → Bool
name_is x None = false
name_is x (Some n) = bytes_eq n x

-- ---- types of members

-- The type of the member of a place.
abbrev pub member_type_at : List (Option InterfaceType) → ℕ → Option InterfaceType
member_type_at types i = slice_get types i >>= (λ o. o)

-- The type of a member, where the member is of a name.
abbrev pub type_where_named : List ℕ → Option (List ℕ) → Option InterfaceType → Option InterfaceType
type_where_named x n y = if name_is x n then y else None

-- A type for a shape, where there is one.
abbrev pub IsTypeOf : Tables → Option InterfaceType → Option Shape → Type 0
IsTypeOf t None None = Unit {0}
IsTypeOf t None (Some s) = ⊥
IsTypeOf t (Some y) None = ⊥
IsTypeOf t (Some y) (Some s) = HasShape t y s

-- ---- whether values are of a type

-- A map of keys and values of which something holds.
abbrev pub IsMapOf : (Value → Type 0) → (Value → Type 0) → Value-F Value → Type 0
IsMapOf Key Item (o.Map entries) = AllByRecursion (λ e. Key e.0 × Item e.1) entries
IsMapOf Key Item _ = ⊥

-- How many of the values that are left are of the member of a place: the first of them where it has a type, and none where it
-- has none. There is no answer where the first is of another type, or missing.
abbrev pub IsTaken : Tables → Option InterfaceType → Option Value → Option ℕ → Type 0
IsTaken t None first o = o ≡ Some 0
IsTaken t (Some y) None o = o ≡ None
IsTaken t (Some y) (Some v) None = (s : Shape) → HasShape t y s → IsA s v → ⊥
IsTaken t (Some y) (Some v) (Some n) = (n ≡ 1) × ((s : Shape) → HasShape t y s → IsA s v)

-- In front of the member of a place, with so many values before it.
pub record Matching (t : Tables) (ms : Members) (types : List (Option InterfaceType)) (i at : ℕ) (values : List Value) : Type 0 where
  pub rest : Members
  pub has : AreOf t (drop i types) rest
  pub same : AreMembers ms values ↔ AreMembers rest (drop at values)

-- In front of the member of a place, with no member of a name and with a type before it.
pub record Seeking (t : Tables) (ms : Members) (names : List (List ℕ)) (types : List (Option InterfaceType)) (i : ℕ) (x : List ℕ) : Type 0 where
  pub rest : Members
  pub has : AreOf t (drop i types) rest
  pub names_left : drop i names ≡ names_of rest
  pub same : named x ms ≡ named x rest
