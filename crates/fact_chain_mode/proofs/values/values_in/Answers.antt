use Rattle.std.proofs.lemmas.Result.{err_from_is_err_and}
use Rattle.std.proofs.Common.{inl, inr}
use Rattle.fact_lowering.specs.Room.{fits}
use Rattle.fact_call_mode.proofs.ReplyLaws.{bad_args, bad_results, not_fitting}
use Rattle.fact_chain_mode.specs.ChainReplies.{AreOverOneWay, input_with}
use Rattle.fact_chain_mode.specs.ChainTexts.{chain_args, chain_results}
use Rattle.fact_chain_mode.proofs.values.values_in.Goals as goal

pub returns-in_err-args : goal.returns-in_err-args
returns-in_err-args c = λ p a b first second.
    let q = err_from_is_err_and c.from_residual.result c.from_residual.ensures.1 in
    let given = c.params_of-given.ensures.shaped a.lower.params a.lower.results first.lower.signature in
    rw (q.1, q.2) (bad_args (chain_args a (input_with p c.args.asked.now)) (chain_results b (input_with p c.args.asked.now)) (AreOverOneWay a b (input_with p c.args.asked.now)) c.in_err-args.field-0.0 ((rw c.component_types-tables.ensures at c.in_err-args.ensures.values) a.lower.params given))

pub returns : goal.returns
returns c = λ p a b first second.
    let given = c.params_of-given.ensures.shaped a.lower.params a.lower.results first.lower.signature in
    let answered = c.results_of-answered.ensures.shaped b.lift.params b.lift.results second.lift.signature in
    let returned = c.results_of-returned.ensures.shaped b.lower.params b.lower.results second.lower.signature in
    record {
      values_are = record { args_are = (rw c.component_types-tables.ensures at c.in_ok-args.ensures.values) a.lower.params given; results_are = (rw c.component_types-tables.ensures at c.in_ok-results.ensures.values) b.lift.results answered };
      args_typed = (rw c.component_types-tables.ensures at c.in_ok-args.ensures.typed) a.lower.params given;
      results_typed = (rw c.component_types-tables.ensures at c.in_ok-results.ensures.typed) b.lift.results answered;
      results_fit = (rw (c.component_types-tables.ensures, c.as_slice.ensures) at c.in_ok-check_fits.ensures) b.lift.results b.lower.results answered returned;
    }

pub returns-in_err-results : goal.returns-in_err-results
returns-in_err-results c = λ p a b first second.
    let q = err_from_is_err_and c.from_residual-in_err-results.result c.from_residual-in_err-results.ensures.1 in
    let given = c.params_of-given.ensures.shaped a.lower.params a.lower.results first.lower.signature in
    let answered = c.results_of-answered.ensures.shaped b.lift.params b.lift.results second.lift.signature in
    rw (q.1, q.2)
    (bad_results (chain_args a (input_with p c.args.asked.now)) (chain_results b (input_with p c.args.asked.now)) (AreOverOneWay a b (input_with p c.args.asked.now)) c.in_ok-args.args c.in_err-results.field-0.0 ((rw c.component_types-tables.ensures at c.in_ok-args.ensures.values) a.lower.params given)
    ((rw c.component_types-tables.ensures at c.in_err-results.ensures.values) b.lift.results answered))

pub returns-in_err-check_fits : goal.returns-in_err-check_fits
returns-in_err-check_fits c = λ p a b first second.
    let q = err_from_is_err_and c.from_residual-in_err-check_fits.result c.from_residual-in_err-check_fits.ensures.1 in
    let given = c.params_of-given.ensures.shaped a.lower.params a.lower.results first.lower.signature in
    let answered = c.results_of-answered.ensures.shaped b.lift.params b.lift.results second.lift.signature in
    let returned = c.results_of-returned.ensures.shaped b.lower.params b.lower.results second.lower.signature in
    rw (q.1, q.2)
    (not_fitting (chain_args a (input_with p c.args.asked.now)) (chain_results b (input_with p c.args.asked.now)) (AreOverOneWay a b (input_with p c.args.asked.now)) (fits b.lift.results b.lower.results c.in_ok-results.results) c.in_err-check_fits.field-0.0
    (λ e. record {
      args = c.in_ok-args.args;
      results = c.in_ok-results.results;
      values = record { args_are = (rw c.component_types-tables.ensures at c.in_ok-args.ensures.values) a.lower.params given; results_are = (rw c.component_types-tables.ensures at c.in_ok-results.ensures.values) b.lift.results answered };
      over = inr (inr (inl e));
    })
    ((rw (c.component_types-tables.ensures, c.as_slice.ensures) at c.in_err-check_fits.ensures) b.lift.results b.lower.results answered returned))
