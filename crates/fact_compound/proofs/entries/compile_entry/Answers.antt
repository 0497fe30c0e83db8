use Rattle.fact_compound.proofs.EntryFunctions.{compiled_entry, entry_lower, entry_lift}
use Rattle.fact_compound.proofs.entries.compile_entry.Goals as goal

pub returns : goal.returns
returns c =
    let place = rw (c.as_slice.ensures, c.as_slice-2.ensures) at c.in_ok-ty.ensures.place in
    let has = rw (c.as_slice.ensures, c.as_slice-2.ensures) at c.in_ok-ty.ensures.types in
    let exported = rw c.as_str.ensures at c.in_ok-export.ensures.exported in
    compiled_entry (entry_lower c.args.adapter.now c.side_sig.ensures c.in_ok-lower.ensures) (entry_lift c.args.adapter.now c.side_sig-2.ensures c.in_ok-lift.ensures) place has c.in_ok-ty.ensures.keeps c.in_ok-ty.ensures.once c.in_ok-function.ensures c.in_ok-number.ensures.number c.in_ok-number.ensures.defined exported
