use Rattle.std.proofs.Common.{◌≡◌, ℕ, List, take}
use Rattle.fact_agreement.specs.Named.{type_named, at_name}
use Rattle.fact_agreement.proofs.fields.types_by_name.Given as goal

abbrev pub invariant-loop-field : goal.invariant-loop-field
invariant-loop-field l = (x : List ℕ) → at_name l.types x ≡ type_named x (take l.field-index l.fields)
