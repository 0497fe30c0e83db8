use Rattle.std.proofs.Common.{◌≡◌, drop}
use Rattle.fact_machine.specs.Typing.{code_typing}
use Rattle.fact_check.specs.Operands.{operands_of}
use Rattle.fact_check.specs.Sections.{context_of}
use Rattle.fact_check.proofs.typing.+typed.Given as goal

abbrev pub invariant-code-loop-instr : goal.invariant-code-loop-instr
invariant-code-loop-instr l =
    (code_typing (context_of l.context l.initial.labels) l.code (operands_of l.initial.operands) ≡ code_typing (context_of l.context l.initial.labels) (drop l.instr-index l.code) (operands_of l.operands))
    × (l.labels ≡ l.initial.labels)
