-- Which values are values of a type: the shape of the value is that of the type, with its names, lengths, ranges, and
-- kinds and tables of handles. Component Model, "Type Definitions".
use Rattle.std.specs.Prelude.{◌≡◌, ℤ, pos, negsuc, ℕ, ◌-◌, ◌^◌, ◌<◌, List, [], ◌∷◌, length, map}
use Rattle.std.specs.Char.{IsScalar}
use Rattle.std.specs.List.{AllByRecursion}
use Rattle.std.specs.Str.{bytes_eq}
use Rattle.fact_types.specs.Agrees.{chosen, names_of}
use Rattle.fact_types.specs.Shapes.{Kind, k_record, k_variant, k_list, k_tuple, k_map, k_flags, k_enum, k_option, k_result, k_fixed, k_future, k_stream, Shape, s_plain, s_node, Members, no_members, bare, typed}
use Rattle.fact_values.specs.declared.value.HandleKind.{HandleKind}
use Rattle.fact_values.specs.declared.value.HandleKind.TheVariants.{Future, Stream}
use Rattle.fact_values.specs.declared.value.Value.{Value, out-Value}
use Rattle.fact_values.specs.declared.value.Value.TheOpen.{Value-F}
use Rattle.fact_values.specs.declared.value.Value.TheOpen as o
use Rattle.fact_values.specs.Numbers.{Plain, boolean, unsigned, signed, float32, float64, character, text, handle, plain_of}
use Rattle.fact_values.specs.Places.{typed_names}

-- ---- types without members

abbrev pub IsUnsigned : ℕ → ℤ → Type 0
IsUnsigned bits (pos n) = n < 2 ^ bits
IsUnsigned bits (negsuc n) = ⊥

abbrev pub IsSigned : ℕ → ℤ → Type 0
IsSigned bits (pos n) = n < 2 ^ (bits - 1)
IsSigned bits (negsuc n) = n < 2 ^ (bits - 1)

-- A handle of a kind in a table; its number is any of 32 bits.
abbrev pub IsHandle : HandleKind → ℕ → Value-F Value → Type 0
IsHandle kind table (o.Handle k t n) = (k ≡ kind) × (t ≡ table) × (n < 2 ^ 32)
IsHandle kind table _ = ⊥

abbrev pub IsPlainValue : Plain → Value-F Value → Type 0
IsPlainValue boolean (o.Bool b) = Unit {0}
IsPlainValue (unsigned bits) (o.Int z) = IsUnsigned bits z
IsPlainValue (signed bits) (o.Int z) = IsSigned bits z
IsPlainValue float32 (o.Float32 n) = n < 2 ^ 32
IsPlainValue float64 (o.Float64 n) = n < 2 ^ 64
IsPlainValue character (o.Char c) = IsScalar c
IsPlainValue text (o.Str cs) = AllByRecursion IsScalar cs
IsPlainValue (handle kind table) v = IsHandle kind table v
IsPlainValue _ _ = ⊥

-- ---- types with members

abbrev pub IsRecord : Members → (List Value → Type 0) → Value-F Value → Type 0
IsRecord ms Are (o.Record fields) = (map (λ f. f.0) fields ≡ typed_names ms) × Are (map (λ f. f.1) fields)
IsRecord ms Are _ = ⊥

abbrev pub IsTuple : (List Value → Type 0) → Value-F Value → Type 0
IsTuple Are (o.Tuple vs) = Are vs
IsTuple Are _ = ⊥

abbrev pub IsListOf : (Value → Type 0) → Value-F Value → Type 0
IsListOf Is (o.List vs) = AllByRecursion Is vs
IsListOf Is _ = ⊥

abbrev pub IsFixedList : ℕ → (Value → Type 0) → Value-F Value → Type 0
IsFixedList n Is (o.List vs) = (length vs ≡ n) × AllByRecursion Is vs
IsFixedList n Is _ = ⊥

-- An entry of a map is a key and a value.
abbrev pub IsMap : (List Value → Type 0) → Value-F Value → Type 0
IsMap Are (o.Map entries) = AllByRecursion (λ e. Are (e.0 ∷ e.1 ∷ [])) entries
IsMap Are _ = ⊥

abbrev pub IsFlags : Members → Value-F Value → Type 0
IsFlags ms (o.Flags flags) = map (λ f. f.0) flags ≡ names_of ms
IsFlags ms _ = ⊥

abbrev pub IsCase : (List ℕ → List Value → Type 0) → Value-F Value → Type 0
IsCase Is (o.Case name payload) = Is name payload
IsCase Is _ = ⊥

-- One payload, of which something holds.
abbrev pub IsOnePayload : (Value → Type 0) → List Value → Type 0
IsOnePayload Is (v ∷ []) = Is v
IsOnePayload Is _ = ⊥

-- A value of a kind of type with members ms: Are says that values are those of ms one by one, Has that a payload is that
-- of the case of a name, and Is that a value is of the first of ms.
abbrev pub IsNodeValue : Kind → Members → (List Value → Type 0) → (List ℕ → List Value → Type 0) → (Value → Type 0) → Value-F Value → Type 0
IsNodeValue k_record ms Are Has Is v = IsRecord ms Are v
IsNodeValue k_tuple ms Are Has Is v = IsTuple Are v
IsNodeValue k_list ms Are Has Is v = IsListOf Is v
IsNodeValue (k_fixed n) ms Are Has Is v = IsFixedList n Is v
IsNodeValue k_map ms Are Has Is v = IsMap Are v
IsNodeValue k_flags ms Are Has Is v = IsFlags ms v
IsNodeValue k_variant ms Are Has Is v = IsCase Has v
IsNodeValue k_enum ms Are Has Is v = IsCase Has v
IsNodeValue k_option ms Are Has Is v = IsCase Has v
IsNodeValue k_result ms Are Has Is v = IsCase Has v
IsNodeValue (k_future table instance) ms Are Has Is v = IsHandle Future table v
IsNodeValue (k_stream table instance) ms Are Has Is v = IsHandle Stream table v

unfoldable mutual
  pub IsA : Shape → Value → Type 0
  IsA (s_plain p) v = IsPlainValue (plain_of p) (out-Value v)
  IsA (s_node k ms) v = IsNodeValue k ms (λ vs. AreMembers ms vs) (λ x vs. HasCase ms x vs) (λ w. IsElement ms w) (out-Value v)

  -- values of the members that have a type, one by one
  pub AreMembers : Members → List Value → Type 0
  AreMembers no_members [] = Unit {0}
  AreMembers no_members (v ∷ vs) = ⊥
  AreMembers (bare n ms) vs = AreMembers ms vs
  AreMembers (typed n s ms) [] = ⊥
  AreMembers (typed n s ms) (v ∷ vs) = IsA s v × AreMembers ms vs

  -- the first case of a name has this payload
  pub HasCase : Members → List ℕ → List Value → Type 0
  HasCase no_members x vs = ⊥
  HasCase (bare n ms) x vs = chosen (bytes_eq n x) (vs ≡ []) (HasCase ms x vs)
  HasCase (typed n s ms) x vs = chosen (bytes_eq n x) (IsOnePayload (λ v. IsA s v) vs) (HasCase ms x vs)

  -- a value of the first member
  pub IsElement : Members → Value → Type 0
  IsElement no_members v = ⊥
  IsElement (bare n ms) v = ⊥
  IsElement (typed n s ms) v = IsA s v
