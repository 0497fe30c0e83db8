use Rattle.std.proofs.Common.{map, arith, sym, ◌∙◌, List}
use Rattle.std.proofs.lemmas.List.{at_drop_all}
use Rattle.fact_types.specs.declared.abi.CanonicalAbiInfo.{CanonicalAbiInfo}
use Rattle.fact_types.specs.Flat.{add_flat, flat_sum}
use Rattle.fact_types.proofs.FlatLaws.{flat_sum_within, add_flat-zero_left, add_flat-zero_right}
use Rattle.fact_types.proofs.flats.sum_of_flat_counts.Goals as goal

pub loop-field-init : goal.loop-field-init
loop-field-init c = record { rest = add_flat-zero_left _ (flat_sum_within (map (λ f. f.flat_count) c.args.fields.now)); within = omega arith }

pub returns : goal.returns
returns c =
    sym (add_flat-zero_right c.loop-field.sum c.loop-field.invariant.within)
    ∙ sym (at_drop_all (λ (xs : List CanonicalAbiInfo). add_flat c.loop-field.sum (flat_sum (map (λ f. f.flat_count) xs))) c.args.fields.now c.loop-field.field-index c.loop-field-test.false)
    ∙ c.loop-field.invariant.rest
