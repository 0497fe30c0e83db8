use Rattle.std.proofs.Common.{◌≡◌, ◌∙◌, inl, subst, sym}
use Rattle.std.proofs.lemmas.Bool.{true≢false}
use Rattle.std.proofs.lemmas.Result.{err_from_is_err_and}
use Rattle.fact_types.specs.Functions.{HaveShapes}
use Rattle.fact_host.specs.declared.calling.HostOutcome.{HostOutcome}
use Rattle.fact_host.specs.Contract.{IsFresh, results_reached}
use Rattle.fact_host.specs.Lawful.{told_by}
use Rattle.fact_host.proofs.Outcomes.{callable_by, cause_of, no_cause_of, outcome_of, typed_log}
use Rattle.fact_host.proofs.Reached.{reached_by}
use Rattle.fact_host.proofs.calls.call.Goals as goal

pub returns-then-not-branch-clause-cause : goal.returns-then-not-branch-clause-cause
returns-then-not-branch-clause-cause g c = λ s shapes.
    let have = subst (λ tys. HaveShapes c.args.types.now tys s.lower_params) (sym c.as_slice-tys.ensures) shapes.lower_params in
    inl (λ are. true≢false (sym ((c.in_ok-are_values.ensures s.lower_params have).1 are) ∙ c.if-not-branch.true))

pub returns-then-not-branch-2-clause-cause : goal.returns-then-not-branch-2-clause-cause
returns-then-not-branch-2-clause-cause g c = λ s shapes.
    let have = subst (λ tys. HaveShapes c.args.types.now tys s.lower_params) (sym c.as_slice-tys.ensures) shapes.lower_params in
    let others = subst (λ tys. HaveShapes c.args.types.now tys s.lift_params) (sym c.as_slice.ensures) shapes.lift_params in
    inl ((c.in_ok-are_values.ensures s.lower_params have).0 c.if-not-branch.false, sym (c.in_ok-fits.ensures s.lower_params s.lift_params have others) ∙ c.if-not-branch-2.true)

pub start-requires-clause-suited : goal.start-requires-clause-suited
start-requires-clause-suited g c = λ s shapes.
    let have = subst (λ tys. HaveShapes c.args.types.now tys s.lower_params) (sym c.as_slice-tys.ensures) shapes.lower_params in
    let others = subst (λ tys. HaveShapes c.args.types.now tys s.lift_params) (sym c.as_slice.ensures) shapes.lift_params in
    ((c.in_ok-are_values.ensures s.lower_params have).0 c.if-not-branch.false, sym (c.in_ok-fits.ensures s.lower_params s.lift_params have others) ∙ c.if-not-branch-2.false)

pub returns-in_err-run-clause-cause : goal.returns-in_err-run-clause-cause
returns-in_err-run-clause-cause g c =
    let told = told_by g.C.Callee.last g.C.Callee.answered g.C.Callee.given c.run_on_host.new.callee in
    let p = err_from_is_err_and c.from_residual-in_err-run.result c.from_residual-in_err-run.ensures.1 in
    rw (p.1, p.2)
    (λ s shapes.
    let have = subst (λ tys. HaveShapes c.args.types.now tys s.lower_params) (sym c.as_slice-tys.ensures) shapes.lower_params in
    let others = subst (λ tys. HaveShapes c.args.types.now tys s.lift_params) (sym c.as_slice.ensures) shapes.lift_params in
    cause_of s c.args.args.now told c.in_err-run.field-0.0 ((c.in_ok-are_values.ensures s.lower_params have).0 c.if-not-branch.false, sym (c.in_ok-fits.ensures s.lower_params s.lift_params have others) ∙ c.if-not-branch-2.false) (c.in_err-run.ensures.cause s shapes))

pub returns-then-not-branch-clause-reached : goal.returns-then-not-branch-clause-reached
returns-then-not-branch-clause-reached g c = λ s shapes. inl c.requires.fresh.not_given

pub returns-then-not-branch-2-clause-reached : goal.returns-then-not-branch-2-clause-reached
returns-then-not-branch-2-clause-reached g c = λ s shapes. inl c.requires.fresh.not_given

pub returns-in_err-run-clause-reached : goal.returns-in_err-run-clause-reached
returns-in_err-run-clause-reached g c =
    let m = c.args.«module».now in
    let t = c.args.types.now in
    let call = c.args.call.now in
    let started = c.in_ok-started.started in
    let p = err_from_is_err_and c.from_residual-in_err-run.result c.from_residual-in_err-run.ensures.1 in
    rw (p.1, p.2)
    (λ s shapes.
    let at = c.in_ok-started.ensures s shapes in
    reached_by m t call s c.args.args.now at.before started.begun.state started.begun.args started.begun.cursor started.cursors (callable_by m t call c.requires.callable.0 s c.requires.callable.1 shapes) at.first at.begun at.at
    c.laws_of_typed_answers.ensures c.laws_of_seen.ensures c.read_constants.ensures (g.C.Callee.given c.run_on_host.new.callee) c.in_err-run.field-0.0 (c.in_err-run.ensures.given s shapes))

pub returns-in_err-run-clause-unasked : goal.returns-in_err-run-clause-unasked
returns-in_err-run-clause-unasked g c = λ s shapes not_so.
    let have = subst (λ tys. HaveShapes c.args.types.now tys s.lower_params) (sym c.as_slice-tys.ensures) shapes.lower_params in
    let others = subst (λ tys. HaveShapes c.args.types.now tys s.lift_params) (sym c.as_slice.ensures) shapes.lift_params in
    absurd {A = IsFresh (g.C.Callee.last c.run_on_host.new.callee) (g.C.Callee.answered c.run_on_host.new.callee) (g.C.Callee.given c.run_on_host.new.callee)} (not_so ((c.in_ok-are_values.ensures s.lower_params have).0 c.if-not-branch.false, sym (c.in_ok-fits.ensures s.lower_params s.lift_params have others) ∙ c.if-not-branch-2.false))

pub returns-in_err-results-clause-unasked : goal.returns-in_err-results-clause-unasked
returns-in_err-results-clause-unasked g c = λ s shapes not_so.
    let have = subst (λ tys. HaveShapes c.args.types.now tys s.lower_params) (sym c.as_slice-tys.ensures) shapes.lower_params in
    let others = subst (λ tys. HaveShapes c.args.types.now tys s.lift_params) (sym c.as_slice.ensures) shapes.lift_params in
    absurd {A = IsFresh (g.C.Callee.last c.run_on_host.new.callee) (g.C.Callee.answered c.run_on_host.new.callee) (g.C.Callee.given c.run_on_host.new.callee)} (not_so ((c.in_ok-are_values.ensures s.lower_params have).0 c.if-not-branch.false, sym (c.in_ok-fits.ensures s.lower_params s.lift_params have others) ∙ c.if-not-branch-2.false))

pub returns-clause-unasked : goal.returns-clause-unasked
returns-clause-unasked g c = λ s shapes not_so.
    let have = subst (λ tys. HaveShapes c.args.types.now tys s.lower_params) (sym c.as_slice-tys.ensures) shapes.lower_params in
    let others = subst (λ tys. HaveShapes c.args.types.now tys s.lift_params) (sym c.as_slice.ensures) shapes.lift_params in
    absurd {A = IsFresh (g.C.Callee.last c.run_on_host.new.callee) (g.C.Callee.answered c.run_on_host.new.callee) (g.C.Callee.given c.run_on_host.new.callee)} (not_so ((c.in_ok-are_values.ensures s.lower_params have).0 c.if-not-branch.false, sym (c.in_ok-fits.ensures s.lower_params s.lift_params have others) ∙ c.if-not-branch-2.false))

pub returns-clause-no_cause : goal.returns-clause-no_cause
returns-clause-no_cause g c = λ s shapes.
    let have = subst (λ tys. HaveShapes c.args.types.now tys s.lower_params) (sym c.as_slice-tys.ensures) shapes.lower_params in
    let others = subst (λ tys. HaveShapes c.args.types.now tys s.lift_params) (sym c.as_slice.ensures) shapes.lift_params in
    let told = told_by g.C.Callee.last g.C.Callee.answered g.C.Callee.given c.run_on_host.new.callee in
    no_cause_of c.args.«module».now c.args.types.now c.args.call.now s c.in_ok-started.started.cursors told c.in_ok-run.run'.outcome.log c.in_ok-run.run'.params c.args.args.now
    ((c.in_ok-are_values.ensures s.lower_params have).0 c.if-not-branch.false, sym (c.in_ok-fits.ensures s.lower_params s.lift_params have others) ∙ c.if-not-branch-2.false) (c.in_ok-run.ensures.came s shapes)

pub returns-clause-outcome : goal.returns-clause-outcome
returns-clause-outcome g c = λ s shapes.
    let m = c.args.«module».now in
    let t = c.args.types.now in
    let call = c.args.call.now in
    let told = told_by g.C.Callee.last g.C.Callee.answered g.C.Callee.given c.run_on_host.new.callee in
    let callable = callable_by m t call c.requires.callable.0 s c.requires.callable.1 shapes in
    let started = c.in_ok-started.started in
    let at = c.in_ok-started.ensures s shapes in
    let run = c.in_ok-run.run' in
    let came = c.in_ok-run.ensures.came s shapes in
    let o : HostOutcome = record { outcome = run.outcome; params = run.params; results = c.in_ok-results.results } in
    outcome_of m t call s c.args.args.now at.before started.begun.state started.begun.args started.begun.cursor started.cursors callable at.first at.begun at.at told o c.in_ok-run.ensures.runs c.in_ok-run.ensures.lacks_none came
    (subst (λ args. o.results ≡ results_reached call s args o.outcome.end o.outcome.state) c.as_slice-2.ensures (c.in_ok-results.ensures s shapes))
    (typed_log m t call s c.args.args.now at.before started.begun.state started.begun.args started.begun.cursor started.cursors c.laws_of_typed_answers.ensures c.laws_of_seen.ensures c.read_constants.ensures callable at.first at.begun told run.outcome
    run.params c.in_ok-run.ensures.runs came)
