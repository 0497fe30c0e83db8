use Rattle.std.proofs.Common.{refl, sym, subst, ◌∙◌}
use Rattle.fact_emit.specs.Places.{slots_of_locals}
use Rattle.fact_compound.specs.Asyncs.{values_among}
use Rattle.fact_compound.specs.Functions.{params_among}
use Rattle.fact_compound.proofs.asyncs.part_values.Goals as goal

pub returns-in-Start : goal.returns-in-Start
returns-in-Start c = subst (λ x. values_among c.args.types.now c.args.adapter.now x (slots_of_locals c.args.args.now) (slots_of_locals c.args.args.now)) (sym c.in-Start.is) refl

pub returns-in-Return : goal.returns-in-Return
returns-in-Return c =
    subst (λ x. values_among c.args.types.now c.args.adapter.now x (slots_of_locals c.args.args.now) (slots_of_locals c.params_of.result.now)) (sym c.in-Return.is) (λ ps rs h counted m.
    c.params_of.ensures ∙ (λ i. params_among (c.are_flat_results-flat.ensures m rs (c.tuples_of.ensures.results ps rs h) counted i) (slots_of_locals c.args.args.now)))
