-- The kinds of faults of a plan, in the order in which they are looked for at an entry, and what it means that an entry has
-- its first.
use Rattle.std.specs.Prelude.{ℕ, ◌<◌}

pub data Fault : Type 0 where
  unknown_index : Fault
  bad_type : Fault
  too_large : Fault
  bad_options : Fault
  type_mismatch : Fault
  bad_memory : Fault
  bad_signature : Fault
  import_conflict : Fault
  duplicate_name : Fault

abbrev pub rank : Fault → ℕ
rank unknown_index = 0
rank bad_type = 1
rank too_large = 2
rank bad_options = 3
rank type_mismatch = 4
rank bad_memory = 5
rank bad_signature = 6
rank import_conflict = 7
rank duplicate_name = 8

-- Of the entries of a list, which faults each has: the entry at a place has this one and none that is looked for before it,
-- and no entry before has any.
pub record IsFirstFault (Has : ℕ → Fault → Type 0) (place : ℕ) (f : Fault) : Type 0 where
  pub has : Has place f
  pub no_rule_before : (g : Fault) → rank g < rank f → Has place g → ⊥
  pub no_entry_before : (j : ℕ) (g : Fault) → j < place → Has j g → ⊥

-- No entry has a fault.
abbrev pub HaveNoFault : (ℕ → Fault → Type 0) → Type 0
HaveNoFault Has = (j : ℕ) (g : Fault) → Has j g → ⊥
