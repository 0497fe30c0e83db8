use Rattle.std.proofs.Common.{ap, ◌∙◌}
use Rattle.fact_machine.specs.Machine.{block_arity}
use Rattle.fact_interpreter.proofs.Entries.{entered_label}
use Rattle.fact_interpreter.proofs.entering.again.Goals as goal

pub returns : goal.returns
returns c =
    entered_label (λ m n. m) c.args.run.now c.args.«module».now.types c.args.ty c.arity.result c.in-Some.takes c.in-Some.field-0-1 c.in_ok-top.field-0 c.grab.new.self c.in-Some-2.top c.replace-below.new.dest c.replace-below.result c.push.new.self c.args.to c.args.run.now.code c.args.body _
    (c.arity.ensures ∙ ap (λ t. block_arity t c.args.ty) c.as_slice.ensures) c.in-Some.is c.in_ok-top.ensures c.in-Some-2.is c.replace-below.ensures.after c.replace-below.ensures.value c.in_ok-push.ensures.ok
