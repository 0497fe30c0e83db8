use Rattle.std.proofs.lemmas.Result.{IfOk-weaker}
use Rattle.std.specs.Prelude.{string_bytes}
use Rattle.fact_call_mode.specs.Replies.{shapes_of}
use Rattle.fact_call_mode.proofs.CallTold.{is_told, params_there, results_there}
use Rattle.fact_call_mode.proofs.hosting.told.Goals as goal

pub outcome_of-requires-clause-callable : goal.outcome_of-requires-clause-callable
outcome_of-requires-clause-callable c =
    let h = c.requires.hosted.3 in
    rw c.as_slice.ensures (shapes_of c.requires.hosted.2, h.call.callable, h.carried)

pub outcome_text-text-requires-clause-params : goal.outcome_text-text-requires-clause-params
outcome_text-text-requires-clause-params c =
    let outcome = rw c.as_slice.ensures at c.in_ok-outcome.ensures in
    params_there c.laws_of_calls.ensures.carry c.laws_of_calls.ensures.ask c.requires.hosted.0 c.requires.hosted.1 c.requires.hosted.2 c.args.types.now c.args.fused.now c.args.host.now c.args.values c.requires.hosted.3 outcome.0 outcome.1 c.in_ok-outcome.outcome outcome.2

pub outcome_text-text-requires-clause-results : goal.outcome_text-text-requires-clause-results
outcome_text-text-requires-clause-results c =
    let outcome = rw c.as_slice.ensures at c.in_ok-outcome.ensures in
    results_there c.laws_of_calls.ensures.carry c.laws_of_calls.ensures.ask c.requires.hosted.0 c.requires.hosted.1 c.requires.hosted.2 c.args.types.now c.args.fused.now c.args.host.now c.args.values c.requires.hosted.3 outcome.0 outcome.1 c.in_ok-outcome.outcome outcome.2

pub returns : goal.returns
returns c = IfOk-weaker c.outcome_text-text.result _ _ (λ text has fuel p a h.
    let outcome = rw c.as_slice.ensures at c.in_ok-outcome.ensures in
    is_told c.laws_of_calls.ensures.carry c.laws_of_calls.ensures.ask fuel p a c.args.types.now c.args.fused.now c.args.host.now c.args.values h outcome.0 outcome.1 c.in_ok-outcome.outcome outcome.2 (string_bytes text) has)
    c.outcome_text-text.ensures
