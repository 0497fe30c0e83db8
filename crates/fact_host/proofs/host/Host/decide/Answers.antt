use Rattle.std.proofs.Common.{refl, subst, sym}
use Rattle.std.proofs.lemmas.Result.{IfOk-weaker}
use Rattle.fact_host.specs.Hosts.{event_by}
use Rattle.fact_host.specs.Lawful.{GoesOnBy, RoleAt, told_by}
use Rattle.fact_host.proofs.HostSteps.{decided_quiet}
use Rattle.fact_host.proofs.host.Host.decide.Goals as goal

pub returns-in-Callee-clause-goes : goal.returns-in-Callee-clause-goes
returns-in-Callee-clause-goes g c =
    let host = c.args.self.now in
    let at = subst (RoleAt host.kept.now.roles c.args.func) c.in-Callee.is c.in-Some.ensures in
    let here = (c.requires.hosting.callee c.args.func).0 at in
    IfOk-weaker c.call_callee.result _ _
    (λ answer goes. subst (λ n. GoesOnBy (told_by g.C.Callee.last g.C.Callee.answered g.C.Callee.given) (event_by n c.args.args.now c.args.state.now answer) host c.call_callee.new.self) (sym here) goes) c.call_callee.ensures.goes

pub returns-in_default-role : goal.returns-in_default-role
returns-in_default-role g c =
    let host = c.args.self.now in
    let last = record host { kept = record host.kept { now = record host.kept.now { known = c.answered.new.known } } } in
    record {
      ready = c.requires.ready;
      same = record { types = refl; call = refl; roles = refl; callee = refl; kept = refl };
      events = refl;
      callee = λ first x. x;
      goes =
          IfOk-weaker c.answered.result _ _
          (λ answer is.
          decided_quiet (told_by g.C.Callee.last g.C.Callee.answered g.C.Callee.given) host last (event_by c.args.func c.args.args.now c.args.state.now answer) c.in-Some.role (record { types = refl; call = refl; roles = refl; callee = refl; kept = refl }) refl refl refl
          c.requires.hosting c.in-Some.ensures c.in_default-role.not-Callee (λ s values. is c.args.func s values) c.answered.ensures.returned)
          c.answered.ensures.answers;
    }
