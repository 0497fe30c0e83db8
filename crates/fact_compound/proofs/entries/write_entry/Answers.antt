use Rattle.std.proofs.Common.{ap, length, refl, ◌∙◌}
use Rattle.fact_compound.specs.Entries.{entry_code}
use Rattle.fact_compound.proofs.EntryFunctions.{wrote_entry}
use Rattle.fact_compound.proofs.entries.write_entry.Goals as goal

pub returns : goal.returns
returns c =
    let body = c.in_ok-body.ensures ∙ (λ i. entry_code c.in_ok-places.places (c.as_slice-2.ensures i) c.in_ok-params.params (c.as_slice-3.ensures i)) in
    wrote_entry refl c.in_ok-places.ensures c.in_ok-facts.ensures c.in_ok-started.ensures (c.in_ok-params.ensures ∙ ap length c.as_slice.ensures) body c.new-locals.ensures
