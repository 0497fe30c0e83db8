use Rattle.std.proofs.Common.{ap, ◌∙◌, length}
use Rattle.fact_emit.proofs.DefinedKept.{defined_brought, defined_type}
use Rattle.fact_compound.proofs.AsyncFunctions.{compiled_part}
use Rattle.fact_compound.proofs.OptionsImported.{options_later}
use Rattle.fact_compound.proofs.asyncs.compile_part.Goals as goal

pub write_part-requires-clause-options_imported : goal.write_part-requires-clause-options_imported
write_part-requires-clause-options_imported c = options_later c.in_ok-ty.ensures.keeps c.requires.options_imported

pub returns-clause-number : goal.returns-clause-number
returns-clause-number c =
    let has = rw (c.as_slice.ensures, c.as_slice-2.ensures) at c.in_ok-ty.ensures.types in
    c.in_ok-number.ensures.number ∙ ap length ((defined_brought c.in_ok-function.ensures.brought).functions ∙ (defined_type has).functions)

pub returns-clause-compiled : goal.returns-clause-compiled
returns-clause-compiled c =
    let place = rw (c.as_slice.ensures, c.as_slice-2.ensures) at c.in_ok-ty.ensures.place in
    let has = rw (c.as_slice.ensures, c.as_slice-2.ensures) at c.in_ok-ty.ensures.types in
    let wrote = rw c.component_types-tables.ensures at c.in_ok-function.ensures in
    let named = rw c.as_str.ensures at c.in_ok-name.ensures in
    let exported = rw c.deref.ensures at c.in_ok-export.ensures.exported in
    compiled_part c.args.part c.requires.ahead c.in_ok-signature.ensures place has c.in_ok-ty.ensures.keeps c.in_ok-ty.ensures.once wrote c.in_ok-number.ensures.number c.in_ok-number.ensures.defined named exported
