-- Function types that break a rule for types or for functions. They are seen by the names of their parameters and the
-- shapes of their parameters and results.
use Rattle.std.specs.Prelude.{◌≡◌, ℕ, ◌<◌, ◌≤◌, ◌⊎◌, List, length, Any, IsTrue}
use Rattle.fact_types.specs.declared.interface.InterfaceType.{InterfaceType}
use Rattle.fact_types.specs.declared.interface.InterfaceType.TheVariants.{Own as t_own, Borrow as t_borrow}
use Rattle.fact_types.specs.Agrees.{names_of}
use Rattle.fact_types.specs.Shapes.{Kind, k_record, k_variant, k_tuple, k_flags, k_enum, k_fixed, Shape, s_plain, s_node, Members, no_members, bare, typed}
use Rattle.fact_types.specs.Handles.{has_borrow}
use Rattle.fact_plan_types.specs.TypeRules.{IsPast, IsRepeated, IsTooLarge, most_entries, tuple_layout}

-- ---- a type with the types in it

-- A property of a type or of one in it: of a member or a payload, or of a type in one of these.
abbrev mutual
  pub AnyIn : (Shape → Type 0) → Shape → Type 0
  AnyIn P (s_plain p) = P (s_plain p)
  AnyIn P (s_node k ms) = P (s_node k ms) ⊎ AnyAmong P ms

  pub AnyAmong : (Shape → Type 0) → Members → Type 0
  AnyAmong P no_members = ⊥
  AnyAmong P (bare n ms) = AnyAmong P ms
  AnyAmong P (typed n s ms) = AnyIn P s ⊎ AnyAmong P ms

-- ---- types that are none

-- A record, variant, tuple, flags or enum without members, or a list of fixed length without elements.
abbrev pub IsEmptyKind : Kind → (members : ℕ) → Type 0
IsEmptyKind k_record n = n ≡ 0
IsEmptyKind k_variant n = n ≡ 0
IsEmptyKind k_tuple n = n ≡ 0
IsEmptyKind k_flags n = n ≡ 0
IsEmptyKind k_enum n = n ≡ 0
IsEmptyKind (k_fixed count) n = count ≡ 0
IsEmptyKind _ n = ⊥

-- A name stands twice among fields, cases or names.
abbrev pub HasRepeatedNames : Kind → List (List ℕ) → Type 0
HasRepeatedNames k_record names = IsRepeated names
HasRepeatedNames k_variant names = IsRepeated names
HasRepeatedNames k_flags names = IsRepeated names
HasRepeatedNames k_enum names = IsRepeated names
HasRepeatedNames _ names = ⊥

-- More than 32 flags.
abbrev pub AreManyFlags : Kind → (members : ℕ) → Type 0
AreManyFlags k_flags n = 32 < n
AreManyFlags _ n = ⊥

-- A kind of type is none with members of these names.
abbrev pub IsBadKind : Kind → List (List ℕ) → Type 0
IsBadKind k names = IsEmptyKind k (length names) ⊎ (HasRepeatedNames k names ⊎ AreManyFlags k (length names))

-- A type is none, whatever the types in it are.
abbrev pub IsBadShape : Shape → Type 0
IsBadShape (s_plain p) = ⊥
IsBadShape (s_node k ms) = IsBadKind k (names_of ms)

-- ---- types that are too large

-- An own or a borrow of a table that is not among the first 268,435,456.
abbrev pub IsFarHandle : InterfaceType → Type 0
IsFarHandle (t_own i) = most_entries ≤ i.number
IsFarHandle (t_borrow i) = most_entries ≤ i.number
IsFarHandle _ = ⊥

-- More than 268,435,456 fields, cases, members or names.
abbrev pub IsLongList : Kind → (members : ℕ) → Type 0
IsLongList k_record n = most_entries < n
IsLongList k_variant n = most_entries < n
IsLongList k_tuple n = most_entries < n
IsLongList k_flags n = most_entries < n
IsLongList k_enum n = most_entries < n
IsLongList _ n = ⊥

-- More than 4,096 cases.
abbrev pub AreManyCases : Kind → (members : ℕ) → Type 0
AreManyCases k_variant n = 4096 < n
AreManyCases _ n = ⊥

abbrev pub IsLongShape : Shape → Type 0
IsLongShape (s_plain p) = IsFarHandle p
IsLongShape (s_node k ms) = IsLongList k (length (names_of ms)) ⊎ AreManyCases k (length (names_of ms))

-- A type is too large by its table or its members, or its values are, or it nests too deep.
abbrev pub IsLargeShape : Shape → Type 0
IsLargeShape s = IsLongShape s ⊎ IsTooLarge s

-- ---- functions

-- A parameter's name is repeated, a result holds a borrow, or a type of a parameter or of a result, or one in it, is none.
abbrev pub IsBadFunction : List (List ℕ) → (params results : List Shape) → Type 0
IsBadFunction names params results =
    IsRepeated names ⊎ (Any (λ s. IsTrue (has_borrow s)) results ⊎ (Any (AnyIn IsBadShape) params ⊎ Any (AnyIn IsBadShape) results))

-- More than 268,435,456 types of parameters or of results.
abbrev pub HasManyTypes : (params results : List Shape) → Type 0
HasManyTypes params results = (most_entries < length params) ⊎ (most_entries < length results)

-- The same, or so many names of parameters.
abbrev pub IsLongFunction : List (List ℕ) → (params results : List Shape) → Type 0
IsLongFunction names params results = (most_entries < length names) ⊎ HasManyTypes params results

-- A list of the function is too long, the tuple of its parameters or of its results takes too many bytes, or a type of one,
-- or one in it, is too large.
abbrev pub IsLargeFunction : List (List ℕ) → (params results : List Shape) → Type 0
IsLargeFunction names params results =
    IsLongFunction names params results ⊎ ((IsPast (tuple_layout params) ⊎ IsPast (tuple_layout results)) ⊎ (Any (AnyIn IsLargeShape) params ⊎ Any (AnyIn IsLargeShape) results))
