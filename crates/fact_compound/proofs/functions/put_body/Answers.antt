use Rattle.std.proofs.Common.{◌∙◌}
use Rattle.fact_emit.specs.Places.{slots_of_locals}
use Rattle.fact_compound.specs.Functions.{core_slots, params_among}
use Rattle.fact_compound.proofs.LocalsAdded.{same_places, emits_places}
use Rattle.fact_compound.proofs.functions.put_body.Goals as goal

pub returns : goal.returns
returns c =
    let core = c.core_of.ensures ∙ (λ i. core_slots c.args.passed (slots_of_locals c.params_of-params.result.now) (slots_of_locals (c.as_slice-3.ensures.value i))) in
    record {
      params = slots_of_locals c.params_of-params.result.now;
      put = emits_places (same_places (slots_of_locals c.params_of-params.result.now) c.args.locals.now c.as_slice-2.ensures.value core c.as_slice-4.ensures.value c.as_slice-5.ensures.value) c.in_ok-put_sync.ensures;
      split = λ ps rs h counted m. c.params_of-params.ensures ∙ (λ i. params_among (c.are_flat_results-flat.ensures m rs (c.tuples_of.ensures.results ps rs h) counted i) (slots_of_locals (c.as_slice.ensures.value i)));
    }
