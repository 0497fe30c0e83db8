-- Cited by private clauses alone.
-- How a cut of the operand stack is told.
use Rattle.std.specs.Prelude.{◌≡◌, List, Option, Some, None}
use Rattle.fact_machine.specs.declared.types.CoreValue.{CoreValue}

-- the values that are cut off and those that are left are these two, or there are too few values
abbrev pub IsCut : Option (List CoreValue × List CoreValue) → Option (List CoreValue) → List CoreValue → Type 0
IsCut None None left = Unit {0}
IsCut None (Some top) left = ⊥
IsCut (Some cut) None left = ⊥
IsCut (Some cut) (Some top) left = (top ≡ cut.0) × (left ≡ cut.1)
