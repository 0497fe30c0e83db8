use Rattle.std.proofs.Common.{arith, sym, ◌∙◌}
use Rattle.fact_builder.proofs.RegisterLaws.{on_ok}
use Rattle.fact_compound.specs.Translated.{IsFullFuel}
use Rattle.fact_compound.proofs.AsyncFunctions.{wrote_part}
use Rattle.fact_compound.proofs.OptionsImported.{options_same}
use Rattle.fact_compound.proofs.asyncs.write_part.Goals as goal

pub write_part_body-written-requires-clause-options_imported : goal.write_part_body-written-requires-clause-options_imported
write_part_body-written-requires-clause-options_imported c = options_same (c.over-w.ensures.sections ∙ c.replace.ensures.value) c.requires.options_imported

pub returns : goal.returns
returns c =
    let full : IsFullFuel c.full-fuel.result = record { full = c.full-fuel.ensures.left ∙ sym c.full-fuel.ensures.initial; small = omega (arith, c.full-fuel.ensures.initial, c.ranges.fuel) } in
    let body = on_ok _ c.write_part_body-written.result c.in_ok-function.ensures.written c.write_part_body-written.ensures in
    let locals = rw c.len.ensures at c.in_ok-function.ensures.locals in
    wrote_part full c.full-fuel.ensures.initial body (c.over-w.ensures.sections ∙ c.replace.ensures.value) c.in_ok-function.ensures.sections _ c.in_ok-function.ensures.ty c.in_ok-function.ensures.body locals
