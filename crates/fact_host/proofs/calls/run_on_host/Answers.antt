use Rattle.std.proofs.Common.{◌++◌, ◌∙◌, ap, false, refl, subst, sym}
use Rattle.fact_host.specs.declared.host.Kept.{Kept}
use Rattle.fact_host.specs.Lawful.{CameOf, HasGivenBy, IsCalleeCause, told_by}
use Rattle.fact_host.proofs.HostRuns.{begins_lawful, came_of, cause_at, given_at}
use Rattle.fact_host.proofs.Outcomes.{hosting_of}
use Rattle.fact_host.proofs.calls.run_on_host.Goals as goal

pub run_with_host-run-requires-clause-hosting : goal.run_with_host-run-requires-clause-hosting
run_with_host-run-requires-clause-hosting g c = hosting_of c.args.«module».now c.args.types.now c.args.call.now c.requires.callable.0 c.in_ok-roles.roles c.requires.callable.1 c.requires.live c.in_ok-roles.ensures

pub returns-in_err-outcome-clause-stays : goal.returns-in_err-outcome-clause-stays
returns-in_err-outcome-clause-stays g c = λ first h.
    let stay = c.run_with_host-run.ensures in
    subst (λ x. g.C.Callee.stays first x) (sym (c.callee-1.given.1 (sym stay.same_callee))) (stay.callee first h)

pub returns-in-Some-clause-stays : goal.returns-in-Some-clause-stays
returns-in-Some-clause-stays g c = λ first h.
    let stay = c.run_with_host-run.ensures in
    subst (λ x. g.C.Callee.stays first x) (sym (c.callee-1.given.1 (sym stay.same_callee))) (stay.callee first h)

pub returns-in-Some-clause-cause : goal.returns-in-Some-clause-cause
returns-in-Some-clause-cause g c = λ s shapes.
    let tells = told_by g.C.Callee.last g.C.Callee.answered g.C.Callee.given in
    let last = c.run_with_host-run.new.host in
    let stay = c.run_with_host-run.ensures in
    subst (λ x. IsCalleeCause s (tells x) c.in-Some.error) (sym (c.callee-1.given.1 (sym stay.same_callee)))
    (cause_at tells c.args.types.now c.args.call.now s c.args.cursors c.in_ok-roles.roles last c.in-Some.error stay.same.types stay.same.call stay.same.roles
    (stay.lawful c.args.cursors (begins_lawful tells c.args.cursors (record last { types = record last.types { now = c.args.types.now }; call = record last.call { now = c.args.call.now }; callee = record last.callee { now = c.args.callee.now }; kept = record last.kept { now = _ } }) c.new-2.ensures (λ i. record { cursors = c.args.cursors; live = c.new.ensures i; returned = false; transfers = 0 }) refl refl c.requires.fresh)) (ap (λ (k : Kept). k.error) (sym (c.kept-2-1.given.1 (sym stay.same_kept))) ∙ c.in-Some.is) shapes)

pub returns-in-Some-clause-given : goal.returns-in-Some-clause-given
returns-in-Some-clause-given g c = λ s shapes.
    let tells = told_by g.C.Callee.last g.C.Callee.answered g.C.Callee.given in
    let last = c.run_with_host-run.new.host in
    let stay = c.run_with_host-run.ensures in
    let outcome = c.in_ok-outcome.outcome in
    subst (λ x. HasGivenBy c.args.«module».now c.args.types.now c.args.call.now s c.args.cursors c.args.begun.now.args c.args.begun.now.state (tells x).given c.in-Some.error) (sym (c.callee-1.given.1 (sym stay.same_callee)))
    (given_at tells c.args.«module».now c.args.types.now c.args.call.now s c.args.cursors c.in_ok-roles.roles last c.in-Some.error c.args.begun.now.args c.args.begun.now.state outcome stay.same.types stay.same.call stay.same.roles
    (stay.lawful c.args.cursors (begins_lawful tells c.args.cursors (record last { types = record last.types { now = c.args.types.now }; call = record last.call { now = c.args.call.now }; callee = record last.callee { now = c.args.callee.now }; kept = record last.kept { now = _ } }) c.new-2.ensures (λ i. record { cursors = c.args.cursors; live = c.new.ensures i; returned = false; transfers = 0 }) refl refl c.requires.fresh)) (ap (λ (k : Kept). k.error) (sym (c.kept-2-1.given.1 (sym stay.same_kept))) ∙ c.in-Some.is)
    (c.in_ok-outcome.ensures.events ∙ ap (λ z. z ++ outcome.log) c.new-2.ensures) c.in_ok-roles.ensures shapes c.in_ok-outcome.ensures.runs)

pub returns-clause-stays : goal.returns-clause-stays
returns-clause-stays g c = λ first h.
    let stay = c.run_with_host-run.ensures in
    subst (λ x. g.C.Callee.stays first x) (sym (c.callee-1.given.1 (sym stay.same_callee))) (stay.callee first h)

pub returns-clause-came : goal.returns-clause-came
returns-clause-came g c = λ s shapes.
    let tells = told_by g.C.Callee.last g.C.Callee.answered g.C.Callee.given in
    let last = c.run_with_host-run.new.host in
    let stay = c.run_with_host-run.ensures in
    let log = c.in_ok-outcome.outcome.log in
    let kept = c.kept-2-1.given.1 (sym stay.same_kept) in
    let callee = c.callee-1.given.1 (sym stay.same_callee) in
    subst (λ (k : Kept). CameOf c.args.«module».now c.args.types.now c.args.call.now s c.args.cursors (tells c.callee-1.given.0) log k.params) (sym kept)
    (subst (λ x. CameOf c.args.«module».now c.args.types.now c.args.call.now s c.args.cursors (tells x) log last.kept.now.params) (sym callee)
    (came_of tells c.args.«module».now c.args.types.now c.args.call.now s c.args.cursors c.in_ok-roles.roles last log stay.same.types stay.same.call stay.same.roles
    (stay.lawful c.args.cursors (begins_lawful tells c.args.cursors (record last { types = record last.types { now = c.args.types.now }; call = record last.call { now = c.args.call.now }; callee = record last.callee { now = c.args.callee.now }; kept = record last.kept { now = _ } }) c.new-2.ensures (λ i. record { cursors = c.args.cursors; live = c.new.ensures i; returned = false; transfers = 0 }) refl refl c.requires.fresh)) (ap (λ (k : Kept). k.error) (sym kept) ∙ c.in-None.is)
    (c.in_ok-outcome.ensures.events ∙ ap (λ z. z ++ log) c.new-2.ensures) c.in_ok-roles.ensures shapes))
