use Rattle.std.proofs.Common.{ap, ◌∙◌}
use Rattle.fact_machine.specs.Numerics.{truth}
use Rattle.fact_compound.proofs.EntryFacts.{facts_are}
use Rattle.fact_compound.proofs.entries.call_facts.Goals as goal

pub returns : goal.returns
returns c = λ a h.
    c.from_vec.ensures ∙ c.in_ok-facts.ensures.items
    ∙ facts_are h c.as_u32.ensures c.as_u32-2.ensures c.tuple_and_mark-tuple.ensures.tuple (c.truth_number.ensures ∙ ap truth c.tuple_and_mark-tuple.ensures.mark) c.encoding_number.ensures (c.in_ok-results.ensures a.lower h.lower h.valid)
