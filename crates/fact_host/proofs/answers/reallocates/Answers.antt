use Rattle.std.proofs.Common.{ℕ, subst, sym}
use Rattle.std.specs.Prelude.{IfOk}
use Rattle.fact_host.specs.Hosts.{event_by}
use Rattle.fact_host.specs.Rules.{ReallocsAt}
use Rattle.fact_host.proofs.answers.reallocates.Goals as goal

pub returns-in-Some-clause-answers : goal.returns-in-Some-clause-answers
returns-in-Some-clause-answers c =
    subst (λ o. IfOk c.reallocates_in.result (λ answer. (func : ℕ) → ReallocsAt c.args.known.now c.args.side.now c.args.is_destination (event_by func c.args.args.now c.args.state.now answer) c.reallocates_in.new.known o)) (sym c.in-Some.is)
    c.reallocates_in.ensures.answers
