use Rattle.std.proofs.Common.{◌∙◌, [], ◌∷◌, ◌++◌}
use Rattle.fact_host.specs.Hosts.{event_by}
use Rattle.fact_host.specs.Lawful.{told_by}
use Rattle.fact_host.proofs.HostSteps.{kept_lawful}
use Rattle.fact_host.proofs.host.Host.keep.Goals as goal

pub returns-clause-lawful : goal.returns-clause-lawful
returns-clause-lawful g c =
    let e = event_by c.args.func c.args.args.now c.args.state.now c.in_ok-answer.answer in
    kept_lawful (told_by g.C.Callee.last g.C.Callee.answered g.C.Callee.given) c.args.self.now c.decide.new.self c.push.new.self e c.in_ok-answer.ensures.goes c.decide.ensures.events
    (c.in_ok-push.ensures.ok ∙ (λ i. c.decide.new.self.kept.now.events ++ record { func = c.args.func; args = c.in_ok-copied.ensures i; before = c.in_ok-try_clone.ensures i; answer = c.in_ok-try_clone-2.ensures i } ∷ []))
