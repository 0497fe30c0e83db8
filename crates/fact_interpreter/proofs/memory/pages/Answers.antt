use Rattle.std.proofs.Common.{◌/◌, ap, ◌∙◌, sym}
use Rattle.fact_machine.specs.Machine.{page_bytes}
use Rattle.fact_machine.proofs.Bytes.{no_page}
use Rattle.fact_interpreter.proofs.memory.pages.Goals as goal

pub returns-in-Some-2 : goal.returns-in-Some-2
returns-in-Some-2 c = no_page c.args.len c.in-Some.log2 c.ranges.len.fits c.if-log2-lt64.false ∙ sym (ap (λ p. c.args.len / page_bytes p) c.in-Some.is)
