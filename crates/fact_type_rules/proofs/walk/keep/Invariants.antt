use Rattle.std.proofs.Common.{All}
use Rattle.fact_type_rules.specs.Walk.{IsClean}
use Rattle.fact_type_rules.proofs.walk.keep.Given as goal

abbrev pub invariant-loop-ty : goal.invariant-loop-ty
invariant-loop-ty l = All (IsClean l.fn.builder.tables l.fn.rules) l.clean.keys
