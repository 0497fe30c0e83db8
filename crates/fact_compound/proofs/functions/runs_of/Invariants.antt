use Rattle.fact_compound.proofs.Runs.{RunsOn}
use Rattle.fact_compound.proofs.functions.runs_of.Given as goal

abbrev pub invariant-loop-at : goal.invariant-loop-at
invariant-loop-at l = RunsOn l.locals l.at l.runs
