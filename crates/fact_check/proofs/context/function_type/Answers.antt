use Rattle.std.proofs.Common.{sym, ap, ◌∙◌}
use Rattle.fact_machine.specs.Typing.{function_type}
use Rattle.fact_check.proofs.Sections.{import_type, no_import}
use Rattle.fact_check.proofs.context.function_type.Goals as goal

pub returns-in-Some : goal.returns-in-Some
returns-in-Some c =
    let M = c.args.context.now.module.now in
    c.get-in-Some.ensures.value ∙ import_type M c.args.context.now.section.now.functions c.in-Import.n c.in-Some.ty.now c.requires.section.functions c.in-Some.ensures.value ∙ ap (function_type M) (sym c.in-Import.is)

pub returns-in-None : goal.returns-in-None
returns-in-None c =
    let M = c.args.context.now.module.now in
    no_import M c.args.context.now.section.now.functions c.in-Import.n c.requires.section.functions c.in-None.ensures.value ∙ ap (function_type M) (sym c.in-Import.is)
