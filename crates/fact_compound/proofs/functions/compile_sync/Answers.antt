use Rattle.fact_compound.proofs.WholeFunctions.{compiled}
use Rattle.fact_compound.proofs.OptionsImported.{can_later}
use Rattle.fact_compound.proofs.functions.compile_sync.Goals as goal

pub write_function-requires-clause-can : goal.write_function-requires-clause-can
write_function-requires-clause-can c = rw c.component_types-tables.ensures (can_later c.in_ok-ty.ensures.keeps c.requires.can)

pub returns : goal.returns
returns c =
    let place = rw (c.as_slice.ensures, c.as_slice-2.ensures) at c.in_ok-ty.ensures.place in
    let has = rw (c.as_slice.ensures, c.as_slice-2.ensures) at c.in_ok-ty.ensures.types in
    let wrote = rw c.component_types-tables.ensures at c.in_ok-function.ensures in
    let exported = rw c.as_str.ensures at c.in_ok-export.ensures.exported in
    compiled c.sync_side.result c.sync_side-2.result c.in_ok-lower.ensures c.in_ok-lift.ensures (record { ty_is = c.sync_side.ensures.ty; sync = c.sync_side.ensures.sync; wide = c.sync_side.ensures.wide }) (record { ty_is = c.sync_side-2.ensures.ty; sync = c.sync_side-2.ensures.sync; wide = c.sync_side-2.ensures.wide })
    c.requires.ahead place has c.in_ok-ty.ensures.keeps c.in_ok-ty.ensures.once wrote c.call_options-options.ensures c.in_ok-number.ensures.number c.in_ok-number.ensures.defined exported
