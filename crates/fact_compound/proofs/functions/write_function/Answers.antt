use Rattle.std.proofs.Common.{sym, ◌∙◌}
use Rattle.fact_builder.proofs.RegisterLaws.{on_ok}
use Rattle.fact_compound.specs.Translated.{IsFullFuel}
use Rattle.fact_compound.proofs.WholeFunctions.{wrote_function}
use Rattle.fact_compound.proofs.OptionsImported.{can_same}
use Rattle.fact_compound.proofs.functions.write_function.Goals as goal

pub write_body-written-requires-clause-can : goal.write_body-written-requires-clause-can
write_body-written-requires-clause-can c = can_same (c.over-w.ensures.sections ∙ c.replace.ensures.value) c.requires.can

pub returns : goal.returns
returns c =
    let full : IsFullFuel c.full-fuel.result = record { full = c.full-fuel.ensures.left ∙ sym c.full-fuel.ensures.initial; small = c.full-fuel.ensures.small } in
    let body = on_ok _ c.write_body-written.result c.in_ok-function.ensures.written c.write_body-written.ensures in
    let locals = rw c.len.ensures at c.in_ok-function.ensures.locals in
    wrote_function full c.full-fuel.ensures.initial body (c.over-w.ensures.sections ∙ c.replace.ensures.value) c.in_ok-function.ensures.sections _ c.in_ok-function.ensures.ty c.in_ok-function.ensures.body locals
