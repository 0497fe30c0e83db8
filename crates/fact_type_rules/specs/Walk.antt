-- Cited by private clauses alone.
-- The walk over types and the types in them, by the entries of the tables.
use Rattle.std.specs.Prelude.{◌≡◌, ℕ, ◌≤◌, ◌⊎◌, ◌++◌, List, [], length, map, All, Any, Contains, Option, Some, None, Bool, true, false}
use Rattle.std.specs.List.{sum_by}
use Rattle.fact_types.specs.declared.interface.InterfaceType.{InterfaceType}
use Rattle.fact_types.specs.Layout.{payloads}
use Rattle.fact_types.specs.Shapes.{Shape}
use Rattle.fact_types.specs.Tables.{Tables, Node, node_of, HasShape}
use Rattle.fact_type_rules.specs.declared.rules.Rules.{Rules}
use Rattle.fact_type_rules.specs.declared.rules.Rules.TheVariants.{OfKind, OfSize}
use Rattle.fact_type_rules.specs.TypeFaults.{AnyIn, IsBadKind, IsBadShape, IsFarHandle, IsLargeShape, IsLongList, AreManyCases}

-- A type breaks one of the rules, whatever the types in it are.
abbrev pub BreaksRules : Rules → Shape → Type 0
BreaksRules OfKind s = IsBadShape s
BreaksRules OfSize s = IsLargeShape s

-- A type of the tables, or one in it, breaks one of the rules, or none does.
abbrev pub IsFaulty : Tables → Rules → InterfaceType → Type 0
IsFaulty t r ty = (s : Shape) × HasShape t ty s × AnyIn (BreaksRules r) s

abbrev pub IsClean : Tables → Rules → InterfaceType → Type 0
IsClean t r ty = (s : Shape) → HasShape t ty s → AnyIn (BreaksRules r) s → ⊥

-- The types of the members of an entry, and its payload.
abbrev pub types_of_node : Option Node → List InterfaceType
types_of_node None = []
types_of_node (Some n) = payloads (map (λ m. m.1) n.members)

-- An entry is no type, whatever the types of its members are.
abbrev pub IsBadNode : Option Node → Type 0
IsBadNode None = ⊥
IsBadNode (Some n) = IsBadKind n.kind (map (λ m. m.0) n.members)

-- A type is too large by its table or its members.
abbrev pub IsLongNode : Option Node → Type 0
IsLongNode None = ⊥
IsLongNode (Some n) = IsLongList n.kind (length n.members) ⊎ AreManyCases n.kind (length n.members)

abbrev pub IsLongType : Tables → InterfaceType → Type 0
IsLongType t ty = IsFarHandle ty ⊎ IsLongNode (node_of t ty)

-- Types are put behind others: those of given ones that are not among the clean ones, each once.
pub record PutsBehind (clean old new given : List InterfaceType) : Type 0 where
  pub added : List InterfaceType
  pub behind : new ≡ old ++ added
  pub of_given : (ty : InterfaceType) → Contains added ty → Contains given ty
  pub reached : (ty : InterfaceType) → Contains given ty → Contains new ty ⊎ Contains clean ty
  pub lighter : (weight : InterfaceType → ℕ) → sum_by weight added ≤ sum_by weight given

-- A type was looked at: it breaks none of the rules, and the types of its members were added.
pub record Looked (t : Tables) (r : Rules) (clean old new : List InterfaceType) (ty : InterfaceType) : Type 0 where
  pub kept : (s : Shape) → HasShape t ty s → BreaksRules r s → ⊥
  pub adds : PutsBehind clean old new (types_of_node (node_of t ty))

abbrev pub Looks : Tables → Rules → (clean old new : List InterfaceType) → InterfaceType → Bool → Type 0
Looks t r clean old new ty true = (s : Shape) → HasShape t ty s → BreaksRules r s
Looks t r clean old new ty false = Looked t r clean old new ty

-- The end of a walk from some types: one of them is faulty, or all that were met are clean.
abbrev pub EndsAt : Tables → Rules → (old new : List InterfaceType) → Bool → Type 0
EndsAt t r old new true = Any (IsFaulty t r) old
EndsAt t r old new false = All (IsClean t r) new × ((ty : InterfaceType) → Contains old ty → Contains new ty)
