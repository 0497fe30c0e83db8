use Rattle.std.proofs.lemmas.Result.{err_from_is_err_and}
use Rattle.std.proofs.Common.{inl, inr}
use Rattle.fact_call_mode.specs.Calls.{AreOver, args_of, fits_args, fits_results, results_of}
use Rattle.fact_call_mode.specs.Replies.{input_with}
use Rattle.fact_call_mode.proofs.ReplyLaws.{bad_args, bad_results, not_fitting}
use Rattle.fact_call_mode.proofs.values.values_in.Goals as goal

pub returns-in_err-args-clause-values : goal.returns-in_err-args-clause-values
returns-in_err-args-clause-values c = λ p a sides.
    let q = err_from_is_err_and c.from_residual.result c.from_residual.ensures.1 in
    rw (q.1, q.2) (bad_args (args_of a (input_with p c.args.args.now c.args.results.now)) (results_of a (input_with p c.args.args.now c.args.results.now)) (AreOver a (input_with p c.args.args.now c.args.results.now)) c.in_err-args.field-0.0 ((rw c.component_types-tables.ensures at c.in_err-args.ensures.values) a.lower.params (c.params_of-given.ensures.shaped a.lower.params a.lower.results sides.lower.signature)))

pub returns-clause-values : goal.returns-clause-values
returns-clause-values c = λ p a sides.
    let given = c.params_of-given.ensures.shaped a.lower.params a.lower.results sides.lower.signature in
    let answered = c.results_of-answered.ensures.shaped a.lift.params a.lift.results sides.lift.signature in
    let passed = c.params_of-passed.ensures.shaped a.lift.params a.lift.results sides.lift.signature in
    let returned = c.results_of-returned.ensures.shaped a.lower.params a.lower.results sides.lower.signature in
    record {
      values = record { args_are = (rw c.component_types-tables.ensures at c.in_ok-args.ensures.values) a.lower.params given; results_are = (rw c.component_types-tables.ensures at c.in_ok-results.ensures.values) a.lift.results answered };
      args_fit = (rw (c.component_types-tables.ensures, c.as_slice.ensures) at c.in_ok-check_fits.ensures) a.lower.params a.lift.params given passed;
      results_fit = (rw (c.component_types-tables.ensures, c.as_slice-2.ensures) at c.in_ok-check_fits-2.ensures) a.lift.results a.lower.results answered returned;
    }

pub returns-in_err-results-clause-values : goal.returns-in_err-results-clause-values
returns-in_err-results-clause-values c = λ p a sides.
    let q = err_from_is_err_and c.from_residual-in_err-results.result c.from_residual-in_err-results.ensures.1 in
    let given = c.params_of-given.ensures.shaped a.lower.params a.lower.results sides.lower.signature in
    let answered = c.results_of-answered.ensures.shaped a.lift.params a.lift.results sides.lift.signature in
    rw (q.1, q.2) (bad_results (args_of a (input_with p c.args.args.now c.args.results.now)) (results_of a (input_with p c.args.args.now c.args.results.now)) (AreOver a (input_with p c.args.args.now c.args.results.now)) c.in_ok-args.args c.in_err-results.field-0.0 ((rw c.component_types-tables.ensures at c.in_ok-args.ensures.values) a.lower.params given) ((rw c.component_types-tables.ensures at c.in_err-results.ensures.values) a.lift.results answered))

pub returns-in_err-check_fits-clause-values : goal.returns-in_err-check_fits-clause-values
returns-in_err-check_fits-clause-values c = λ p a sides.
    let q = err_from_is_err_and c.from_residual-in_err-check_fits.result c.from_residual-in_err-check_fits.ensures.1 in
    let given = c.params_of-given.ensures.shaped a.lower.params a.lower.results sides.lower.signature in
    let answered = c.results_of-answered.ensures.shaped a.lift.params a.lift.results sides.lift.signature in
    let passed = c.params_of-passed.ensures.shaped a.lift.params a.lift.results sides.lift.signature in
    let returned = c.results_of-returned.ensures.shaped a.lower.params a.lower.results sides.lower.signature in
    rw (q.1, q.2) (not_fitting (args_of a (input_with p c.args.args.now c.args.results.now)) (results_of a (input_with p c.args.args.now c.args.results.now)) (AreOver a (input_with p c.args.args.now c.args.results.now)) (fits_args a c.in_ok-args.args) c.in_err-check_fits.field-0.0
    (λ e. record { args = c.in_ok-args.args; results = c.in_ok-results.results; values = record { args_are = ((rw c.component_types-tables.ensures at c.in_ok-args.ensures.values) a.lower.params given); results_are = ((rw c.component_types-tables.ensures at c.in_ok-results.ensures.values) a.lift.results answered) }; over = inl e })
    ((rw (c.component_types-tables.ensures, c.as_slice.ensures) at c.in_err-check_fits.ensures) a.lower.params a.lift.params given passed))

pub returns-in_err-check_fits-2-clause-values : goal.returns-in_err-check_fits-2-clause-values
returns-in_err-check_fits-2-clause-values c = λ p a sides.
    let q = err_from_is_err_and c.from_residual-in_err-check_fits-2.result c.from_residual-in_err-check_fits-2.ensures.1 in
    let given = c.params_of-given.ensures.shaped a.lower.params a.lower.results sides.lower.signature in
    let answered = c.results_of-answered.ensures.shaped a.lift.params a.lift.results sides.lift.signature in
    let passed = c.params_of-passed.ensures.shaped a.lift.params a.lift.results sides.lift.signature in
    let returned = c.results_of-returned.ensures.shaped a.lower.params a.lower.results sides.lower.signature in
    rw (q.1, q.2) (not_fitting (args_of a (input_with p c.args.args.now c.args.results.now)) (results_of a (input_with p c.args.args.now c.args.results.now)) (AreOver a (input_with p c.args.args.now c.args.results.now)) (fits_results a c.in_ok-results.results) c.in_err-check_fits-2.field-0.0
    (λ e. record { args = c.in_ok-args.args; results = c.in_ok-results.results; values = record { args_are = ((rw c.component_types-tables.ensures at c.in_ok-args.ensures.values) a.lower.params given); results_are = ((rw c.component_types-tables.ensures at c.in_ok-results.ensures.values) a.lift.results answered) }; over = inr e })
    ((rw (c.component_types-tables.ensures, c.as_slice-2.ensures) at c.in_err-check_fits-2.ensures) a.lift.results a.lower.results answered returned))

pub returns-clause-carried : goal.returns-clause-carried
returns-clause-carried c = λ a sides.
    let given = c.params_of-given.ensures.shaped a.lower.params a.lower.results sides.lower.signature in
    let answered = c.results_of-answered.ensures.shaped a.lift.params a.lift.results sides.lift.signature in
    let passed = c.params_of-passed.ensures.shaped a.lift.params a.lift.results sides.lift.signature in
    let returned = c.results_of-returned.ensures.shaped a.lower.params a.lower.results sides.lower.signature in
    record {
      suited = (
        (rw c.component_types-tables.ensures at c.in_ok-args.ensures.typed) a.lower.params given,
        (rw (c.component_types-tables.ensures, c.as_slice.ensures) at c.in_ok-check_fits.ensures) a.lower.params a.lift.params given passed,
      );
      results_typed = (rw c.component_types-tables.ensures at c.in_ok-results.ensures.typed) a.lift.results answered;
      results_fit = (rw (c.component_types-tables.ensures, c.as_slice-2.ensures) at c.in_ok-check_fits-2.ensures) a.lift.results a.lower.results answered returned;
    }
