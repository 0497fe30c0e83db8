use Rattle.std.proofs.Common.{drop}
use Rattle.std.specs.List.{sum_by}
use Rattle.fact_type_rules.proofs.WalkLaws.{IsWalk}
use Rattle.fact_type_rules.proofs.WeightLaws.{weight}
use Rattle.fact_type_rules.proofs.walk.reaches_fault.Given as goal

abbrev pub invariant-loop-at : goal.invariant-loop-at
invariant-loop-at l = IsWalk l.fn.builder.tables l.fn.rules l.fn.met.keys l.met.keys l.clean.keys l.at

abbrev pub decreases-loop-at : goal.decreases-loop-at
decreases-loop-at l = sum_by (weight l.fn.builder.tables) (drop l.at l.met.keys)
