use Rattle.std.proofs.Common.{sym, ap, ◌∙◌, slice_get}
use Rattle.fact_check.proofs.Sections.{globals_at}
use Rattle.fact_check.proofs.context.global.Goals as goal

pub returns : goal.returns
returns c = c.copied.ensures ∙ c.get.ensures.value ∙ ap (λ l. slice_get l c.args.n) c.requires.section.globals ∙ sym (globals_at c.args.context.now.module.now.imports c.args.n)
