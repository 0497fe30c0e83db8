use Rattle.std.proofs.Common.{◌∙◌, sym}
use Rattle.std.specs.Prelude.{nat_eq}
use Rattle.fact_chain_mode.proofs.PairLaws.{tested_params, tested_results}
use Rattle.fact_chain_mode.proofs.pairs.leads_to.Goals as goal

pub returns-then-same_params : goal.returns-then-same_params
returns-then-same_params c = λ a b first second.
    let from = sym first.lift.instance in
    let to = sym second.lower.instance in
    tested_results a b c.eq-is_there.result c.are_same-same_params.result c.are_same-same_results.result (c.eq-is_there.ensures ∙ (λ i. nat_eq (from i) (to i)))
    (c.are_same-same_params.ensures a.lift.params b.lower.params (c.params_of-passed.ensures.shaped a.lift.params a.lift.results first.lift.signature) (c.params_of-taken.ensures.shaped b.lower.params b.lower.results second.lower.signature))
    (c.are_same-same_results.ensures a.lift.results b.lower.results (c.results_of-answered.ensures.shaped a.lift.params a.lift.results first.lift.signature) (c.results_of-given.ensures.shaped b.lower.params b.lower.results second.lower.signature))
    c.if-is_there.true c.if-same_params.true

pub returns-else-same_params : goal.returns-else-same_params
returns-else-same_params c = λ a b first second.
    let from = sym first.lift.instance in
    let to = sym second.lower.instance in
    tested_params a b c.eq-is_there.result c.are_same-same_params.result c.are_same-same_results.result (c.eq-is_there.ensures ∙ (λ i. nat_eq (from i) (to i)))
    (c.are_same-same_params.ensures a.lift.params b.lower.params (c.params_of-passed.ensures.shaped a.lift.params a.lift.results first.lift.signature) (c.params_of-taken.ensures.shaped b.lower.params b.lower.results second.lower.signature))
    (c.are_same-same_results.ensures a.lift.results b.lower.results (c.results_of-answered.ensures.shaped a.lift.params a.lift.results first.lift.signature) (c.results_of-given.ensures.shaped b.lower.params b.lower.results second.lower.signature))
    c.if-is_there.true c.if-same_params.false
