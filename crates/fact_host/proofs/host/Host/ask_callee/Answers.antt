use Rattle.std.proofs.Common.{◌∙◌, Some, ap, refl, subst, sym}
use Rattle.std.specs.Prelude.{is_some}
use Rattle.std.proofs.lemmas.Result.{IfOk-weaker}
use Rattle.fact_machine.specs.declared.types.Answer.TheVariants.{Traps}
use Rattle.fact_host.specs.Callees.{MayKeepGiven}
use Rattle.fact_host.specs.Lawful.{told_by}
use Rattle.fact_host.proofs.HostSteps.{error_ends, refusal_ends, taken_answered}
use Rattle.fact_host.proofs.host.Host.ask_callee.Goals as goal

pub returns-in-Err-clause-asked : goal.returns-in-Err-clause-asked
returns-in-Err-clause-asked g c = (
  refl,
  (λ s k shapes waits known.
      error_ends k c.args.self.now.call.now s (told_by g.C.Callee.last g.C.Callee.answered g.C.Callee.given c.called-answered.new.self) c.args.params c.args.state.now Traps c.args.self.now.kept.now.known c.in-Err.error (Some c.in-Err.error) refl c.in-Err.ensures.error
      (subst (MayKeepGiven (g.C.Callee.given c.called-answered.new.self)) c.as_slice.ensures c.called-answered.ensures.given) refl),
)

pub returns-in-Some-clause-asked : goal.returns-in-Some-clause-asked
returns-in-Some-clause-asked g c = (
  refl,
  (λ s k shapes waits known.
      refusal_ends k c.args.self.now.call.now s (told_by g.C.Callee.last g.C.Callee.answered g.C.Callee.given c.called-answered.new.self) c.args.params c.args.state.now Traps c.args.self.now.kept.now.known c.as_slice-values.result.now c.in-Some.error
      (Some c.in-Some.error) refl (c.in-Ok.ensures.answers ∙ ap (λ z. Some z) (sym c.as_slice-values.ensures)) c.in-Ok.ensures.no_error (rw c.in-Some.is at (c.in_ok-error.ensures.why s shapes))
      (subst (MayKeepGiven (g.C.Callee.given c.called-answered.new.self)) c.as_slice.ensures c.called-answered.ensures.given) refl),
)

pub answer_of-requires-clause-suited : goal.answer_of-requires-clause-suited
answer_of-requires-clause-suited g c = c.in_ok-error.ensures.suited (ap is_some c.in_default.is)

pub returns-clause-asked : goal.returns-clause-asked
returns-clause-asked g c =
    let callee = c.called-answered.new.self in
    let values = c.as_slice-values.result.now in
    IfOk-weaker c.answer_of.result _ _
    (λ answer is. (
      refl,
      (λ s k shapes waits known.
          taken_answered k c.args.self.now.call.now s (told_by g.C.Callee.last g.C.Callee.answered g.C.Callee.given callee) c.args.params c.args.state.now answer c.answer_of.new.known values c.args.self.now.kept.now.error c.requires.no_error
          (c.in-Ok.ensures.answers ∙ ap (λ z. Some z) (sym c.as_slice-values.ensures)) c.in-Ok.ensures.no_error
          (subst (MayKeepGiven (g.C.Callee.given callee)) c.as_slice.ensures c.called-answered.ensures.given) (rw c.in_default.is at (c.in_ok-error.ensures.why s shapes)) (is s k shapes waits known)),
    ))
    c.answer_of.ensures
