use Rattle.std.proofs.Common.{List, sym, subst, ◌∙◌}
use Rattle.fact_emit.specs.Places.{slots_of_locals}
use Rattle.fact_emit.specs.declared.places.TypedLocal.{TypedLocal}
use Rattle.fact_compound.specs.Functions.{AddedLocals}
use Rattle.fact_compound.proofs.AsyncFunctions.{wrote_part_body}
use Rattle.fact_compound.proofs.OptionsImported.{options_same}
use Rattle.fact_compound.proofs.asyncs.write_part_body.Goals as goal

pub put_part-requires-clause-options_imported : goal.put_part-requires-clause-options_imported
put_part-requires-clause-options_imported c = options_same (c.in_ok-given.ensures.imports ∙ c.in_ok-saved.ensures.imports ∙ c.in_ok-args.ensures.imports) c.requires.options_imported

pub returns : goal.returns
returns c =
    let args = rw c.as_slice.ensures at c.in_ok-args.ensures in
    let given = rw c.as_slice-2.ensures at c.in_ok-given.ensures in
    let taken = subst (λ (ls : List TypedLocal). AddedLocals c.args.w.now c.add_locals.new.w c.args.signature.now.params (slots_of_locals ls)) (sym c.as_slice-taken.ensures.value) args in
    let gives = subst (λ (ls : List TypedLocal). AddedLocals c.add_local.new.self c.add_locals-2.new.w c.args.signature.now.results (slots_of_locals ls)) (sym c.as_slice-3.ensures.value) given in
    wrote_part_body c.args.part c.requires.no_code c.requires.no_locals taken c.in_ok-saved.ensures gives c.part_values-values.ensures c.in_ok-put_part.ensures
