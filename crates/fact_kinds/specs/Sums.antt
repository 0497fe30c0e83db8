-- Variants, options and results: their cases by name.
use Rattle.std.specs.Prelude.{◌≡◌, ℕ, suc, List, [], ◌∷◌, Option, Some, None, if◌then◌else◌}
use Rattle.std.specs.Str.{bytes_eq}
use Rattle.fact_types.specs.declared.interface.InterfaceType.{InterfaceType}
use Rattle.fact_types.specs.Shapes.{Kind, k_variant, k_option, k_result, case_parts}
use Rattle.fact_types.specs.Tables.{Tables, Node, node_of}
use Rattle.fact_kinds.specs.declared.sums.NumberedCase.{NumberedCase}
use Rattle.fact_kinds.specs.declared.sums.PairedCase.{PairedCase}
use Rattle.fact_kinds.specs.declared.sums.Sum.{Sum}

-- ---- cases by name

abbrev pub numbered_case : ℕ → Option InterfaceType → NumberedCase
numbered_case n q = record { number = n; payload = q }

-- the first case of a name, where the first of all cases has a number
abbrev pub case_at_name : List ℕ → ℕ → List (List ℕ × Option InterfaceType) → Option NumberedCase
case_at_name x n [] = None
case_at_name x n (y ∷ ys) = if bytes_eq y.0 x then Some (numbered_case n y.1) else case_at_name x (suc n) ys

-- a case of a source, with the case of its name at the destination
abbrev pub paired_case : (destination : List (List ℕ × Option InterfaceType)) → List ℕ × Option InterfaceType → PairedCase
paired_case ys x = record { payload = x.1; found = case_at_name x.0 0 ys }

abbrev pub paired_cases : (source destination : List (List ℕ × Option InterfaceType)) → List PairedCase
paired_cases [] ys = []
paired_cases (x ∷ xs) ys = paired_case ys x ∷ paired_cases xs ys

-- the kinds of types whose values are one of their cases, with its payload
abbrev pub IsSumKind : Kind → Type 0
IsSumKind k_variant = Unit {0}
IsSumKind k_option = Unit {0}
IsSumKind k_result = Unit {0}
IsSumKind _ = ⊥

-- what stands in the tables for a source type and a destination type of cases
pub record IsSumOf (t : Tables) (from to : InterfaceType) (s : Sum) : Type 0 where
  pub source : Node
  pub destination : Node
  pub source_is : node_of t from ≡ Some source
  pub destination_is : node_of t to ≡ Some destination
  pub source_kind : IsSumKind source.kind
  pub destination_kind : IsSumKind destination.kind
  pub source_info : source.parts ≡ case_parts s.from
  pub destination_info : destination.parts ≡ case_parts s.to
  pub cases : s.cases.items ≡ paired_cases source.members destination.members
