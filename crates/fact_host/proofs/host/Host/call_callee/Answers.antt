use Rattle.std.proofs.Common.{◌∙◌, refl, sym, true}
use Rattle.std.proofs.lemmas.Result.{IfOk-weaker}
use Rattle.fact_machine.specs.declared.types.Answer.TheVariants.{Traps}
use Rattle.fact_host.specs.Lawful.{told_by}
use Rattle.fact_host.proofs.HostSteps.{decided_again, decided_asked, decided_unlifted}
use Rattle.fact_host.proofs.host.Host.call_callee.Goals as goal

pub returns-then-is_over-clause-goes : goal.returns-then-is_over-clause-goes
returns-then-is_over-clause-goes g c =
    let host = c.args.self.now in
    decided_again (told_by g.C.Callee.last g.C.Callee.answered g.C.Callee.given) host host c.args.args.now c.args.state.now (record { types = refl; call = refl; roles = refl; callee = refl; kept = refl }) refl refl refl refl c.requires.hosting
    (c.is_over.ensures.yes c.if-is_over.true)

pub returns-in-None-clause-goes : goal.returns-in-None-clause-goes
returns-in-None-clause-goes g c =
    let host = c.args.self.now in
    let free = c.is_over.ensures.no c.if-is_over.false in
    let last = record host { kept = record host.kept { now = record host.kept.now { known = record host.kept.now.known { returned = true; live = c.new.result } } } } in
    decided_unlifted (told_by g.C.Callee.last g.C.Callee.answered g.C.Callee.given) host last c.args.args.now c.args.state.now (record { types = refl; call = refl; roles = refl; callee = refl; kept = refl }) refl refl free.0 c.requires.hosting free.0 free.1 refl
    (λ s shapes. sym (c.in_ok-lifted.ensures host.call.now.callee Traps s.lift_params shapes.lift_params) ∙ c.in-None.is)

pub returns-in-Some-clause-goes : goal.returns-in-Some-clause-goes
returns-in-Some-clause-goes g c =
    let host = c.args.self.now in
    let free = c.is_over.ensures.no c.if-is_over.false in
    let same = c.ask_callee.ensures.same in
    IfOk-weaker c.ask_callee.result _ _
    (λ answer asked.
    decided_asked (told_by g.C.Callee.last g.C.Callee.answered g.C.Callee.given) host c.ask_callee.new.self c.args.args.now c.args.state.now answer c.in-Some.params
    (record { types = same.types; call = same.call; roles = same.roles; callee = same.callee; kept = same.kept }) asked.0 c.requires.hosting free.0 free.1
    (λ s shapes. sym (c.in_ok-lifted.ensures host.call.now.callee answer s.lift_params shapes.lift_params) ∙ c.in-Some.is)
    (λ s shapes. asked.1 s host.kept.now.known shapes free.1 (λ i. record { cursors = host.kept.now.known.cursors; live = c.new.ensures i; returned = true; transfers = host.kept.now.known.transfers })))
    c.ask_callee.ensures.asked
