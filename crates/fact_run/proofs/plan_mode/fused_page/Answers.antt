use Rattle.std.proofs.Common.{subst}
use Rattle.fact_module.specs.Fused.{IsFused}
use Rattle.fact_run.proofs.Configured.{printed-page}
use Rattle.fact_run.proofs.plan_mode.fused_page.Goals as goal

pub returns-in-Ok : goal.returns-in-Ok
returns-in-Ok c = λ p is.
    let f = c.in-Ok.fused in
    let made = subst (IsFused f) is c.in-Ok.ensures.fused in
    printed-page c.args.options.now p f c.page_text-text.result made (λ m r s. c.bytes_spell_one_module.ensures f.bytes m f.«module» r made.in_range s made.spelled)
    (rw (c.as_slice-bytes.ensures, c.as_slice-imports.ensures) at c.page_text-text.ensures)
