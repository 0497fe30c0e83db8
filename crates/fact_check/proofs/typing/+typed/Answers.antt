use Rattle.std.proofs.Common.{◌≡◌, Some, IfOk, sym, subst}
use Rattle.fact_machine.specs.Typing.{only_if}
use Rattle.fact_check.specs.Operands.{operands_of}
use Rattle.fact_check.specs.Sections.{context_of}
use Rattle.fact_check.proofs.PlainTyping.{plain_typing}
use Rattle.fact_check.proofs.typing.+typed.Goals as goal

pub instruction-returns-in-Some-clause-typed : goal.instruction-returns-in-Some-clause-typed
instruction-returns-in-Some-clause-typed t c =
    subst (λ o. IfOk c.operate.result (λ typed. o ≡ only_if typed (Some (operands_of c.operate.new.operands))))
    (sym (plain_typing c.args.instr.now c.in-Some.plain (context_of c.args.context.now c.args.labels.now) (operands_of c.args.operands.now) c.in-Some.ensures)) c.operate.ensures
