use Rattle.std.proofs.Common.{◌≡◌, true, take}
use Rattle.std.specs.List.{list_all}
use Rattle.fact_machine.specs.Typing.{is_target}
use Rattle.fact_check.specs.Operands.{operands_of}
use Rattle.fact_check.specs.Sections.{context_of}
use Rattle.fact_check.proofs.typing.are_targets.Given as goal

abbrev pub invariant-loop-n : goal.invariant-loop-n
invariant-loop-n l = list_all (is_target (context_of l.context l.labels) l.arity (operands_of l.operands)) (take l.n-index l.table) ≡ true
