-- What a value holds, by its form.
use Rattle.std.specs.Prelude.{ℕ, Bool, List, Option, Some, None}
use Rattle.fact_values.specs.declared.value.Value.{Value}
use Rattle.fact_values.specs.declared.value.Value.TheOpen.{Value-F}
use Rattle.fact_values.specs.declared.value.Value.TheOpen as o

-- The fields of a record.
abbrev pub fields_in : Value-F Value → Option (List (List ℕ × Value))
fields_in (o.Record fields) = Some fields
fields_in _ = None

-- The members of a tuple, and the elements of a list.
abbrev pub members_in : Value-F Value → Option (List Value)
members_in (o.Tuple vs) = Some vs
members_in _ = None

abbrev pub elements_in : Value-F Value → Option (List Value)
elements_in (o.List vs) = Some vs
elements_in _ = None

-- Flags, with their names.
abbrev pub flags_in : Value-F Value → Option (List (List ℕ × Bool))
flags_in (o.Flags flags) = Some flags
flags_in _ = None

-- The entries of a map.
abbrev pub map_entries_in : Value-F Value → Option (List (Value × Value))
map_entries_in (o.Map entries) = Some entries
map_entries_in _ = None

-- A case: its name and its payload.
pub record CaseOf : Type 0 where
  pub name : List ℕ
  pub payload : List Value

abbrev pub case_in : Value-F Value → Option CaseOf
case_in (o.Case name payload) = Some (record { name = name; payload = payload })
case_in _ = None

-- The number of a handle.
abbrev pub number_of_handle : Value-F Value → Option ℕ
number_of_handle (o.Handle kind table number) = Some number
number_of_handle _ = None
