-- Cited by private clauses alone.
-- The operands of a check that goes on.
use Rattle.std.specs.Prelude.{reverse}
use Rattle.fact_machine.specs.Typing.{Operands, Known, Open}
use Rattle.fact_check.specs.declared.operands.Operands as held
use Rattle.fact_check.specs.declared.operands.Operands.TheVariants as held_as

abbrev pub operands_of : held.Operands → Operands
operands_of (held_as.Known types) = Known (reverse types)
operands_of (held_as.Open types) = Open (reverse types)
