-- Laws of values in JSON: what is printed is read as what it was printed of.
use Rattle.std.specs.Prelude.{◌≡◌, ℕ, List, Ok, IsUtf8}
use Rattle.serde_json.specs.Data.{Data, null, boolean, number, string, array, object, Items, no_items, item, Members, no_members, member}
use Rattle.serde_json.specs.View.{view}
use Rattle.serde_json.specs.declared.value.Value.{Value as json_value}
use Rattle.fact_types.specs.Shapes.{Shape}
use Rattle.fact_types.specs.Tuples.{tuple_members}
use Rattle.fact_types.specs.Valid.{IsRuled, AreRuled}
use Rattle.fact_values.specs.declared.value.Value.{Value}
use Rattle.fact_values.specs.Formed.{IsFormed, AreFormed}
use Rattle.fact_values.specs.IsA.{IsA, AreMembers}
use Rattle.fact_value_json.specs.Printing.{data_of, values_data}
use Rattle.fact_value_json.specs.Reading.{read, values_at}

-- Each text in a JSON value is UTF-8, as it is in every value that is read from UTF-8. The keys of objects count for nothing.
abbrev mutual
  pub HasTexts : Data → Type 0
  HasTexts null = Unit {0}
  HasTexts (boolean b) = Unit {0}
  HasTexts (number n) = Unit {0}
  HasTexts (string s) = IsUtf8 s
  HasTexts (array ds) = ItemsHaveTexts ds
  HasTexts (object ms) = MembersHaveTexts ms

  pub ItemsHaveTexts : Items → Type 0
  ItemsHaveTexts no_items = Unit {0}
  ItemsHaveTexts (item d ds) = HasTexts d × ItemsHaveTexts ds

  pub MembersHaveTexts : Members → Type 0
  MembersHaveTexts no_members = Unit {0}
  MembersHaveTexts (member k d ms) = HasTexts d × MembersHaveTexts ms

-- So are those of each value of the library, whose strings are UTF-8.
abbrev pub ValuesHaveTexts : Type 0
ValuesHaveTexts = (v : json_value) → HasTexts (view v)

-- What is read by a type is a value of the type, and what is read by several types, at each path.
abbrev pub ValuesReadAreOfTypes : Type 0
ValuesReadAreOfTypes = (s : Shape) (d : Data) (v : Value) → IsFormed s → HasTexts d → read s d ≡ Ok v → IsA s v

abbrev pub ListsReadAreOfTypes : Type 0
ListsReadAreOfTypes = (path : List ℕ) (ss : List Shape) (d : Data) (vs : List Value) → AreFormed (tuple_members ss) → HasTexts d → values_at path ss d ≡ Ok vs → AreMembers (tuple_members ss) vs

-- A value of a type that follows the rules is read from what it is printed as.
abbrev pub ValuesReadBack : Type 0
ValuesReadBack = (s : Shape) (v : Value) → IsFormed s → IsRuled s → IsA s v → read s (data_of s v) ≡ Ok v

-- So are values of several types, at each path.
abbrev pub ListsReadBack : Type 0
ListsReadBack =
    (path : List ℕ) (ss : List Shape) (vs : List Value) → AreFormed (tuple_members ss) → AreRuled (tuple_members ss) → AreMembers (tuple_members ss) vs
    → values_at path ss (values_data ss vs) ≡ Ok vs
