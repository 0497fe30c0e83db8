use Rattle.std.proofs.Common.{◌≡◌, true, take}
use Rattle.std.specs.List.{list_all}
use Rattle.fact_machine.specs.Typing.{is_catch}
use Rattle.fact_check.specs.Sections.{context_of}
use Rattle.fact_check.proofs.typing.are_catches.Given as goal

abbrev pub invariant-loop-n : goal.invariant-loop-n
invariant-loop-n l = list_all (is_catch (context_of l.context l.labels)) (take l.n-index l.catches) ≡ true
