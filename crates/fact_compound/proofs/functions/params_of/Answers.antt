use Rattle.std.proofs.Common.{ap, sym, ◌∙◌}
use Rattle.fact_emit.specs.Places.{slots_of_locals}
use Rattle.fact_compound.specs.Functions.{params_among}
use Rattle.fact_compound.proofs.LocalsAdded.{last_off_slots}
use Rattle.fact_compound.proofs.functions.params_of.Goals as goal

pub returns-else-flat : goal.returns-else-flat
returns-else-flat c = last_off_slots c.args.args.now _ c.all_but_last.ensures ∙ sym (ap (λ b. params_among b (slots_of_locals c.args.args.now)) c.if-flat.false)
