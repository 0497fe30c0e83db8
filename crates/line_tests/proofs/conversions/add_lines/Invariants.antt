use Rattle.fact_convert.specs.Conversion.{IsReadyFor}
use Rattle.line_tests.proofs.conversions.add_lines.Given as goal

-- each conversion leaves the builder ready for the next one
abbrev pub invariant-loop-number : goal.invariant-loop-number
invariant-loop-number l = IsReadyFor l.types l.builder
