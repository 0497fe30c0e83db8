use Rattle.fact_call_mode.proofs.NamedExports.{IsSoughtFrom}
use Rattle.fact_call_mode.proofs.places.func_named.Given as goal

abbrev pub invariant-loop-export : goal.invariant-loop-export
invariant-loop-export l = IsSoughtFrom l.name l.module.exports l.export-index
