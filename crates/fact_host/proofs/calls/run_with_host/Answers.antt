use Rattle.fact_host.specs.Lawful.{told_by}
use Rattle.fact_host.proofs.HostRuns.{stays_itself}
use Rattle.fact_host.proofs.calls.run_with_host.Goals as goal

pub returns-clause-same_callee : goal.returns-clause-same_callee
returns-clause-same_callee g c =
    let stay = c.run_with.ensures.stays _ (stays_itself (told_by g.C.Callee.last g.C.Callee.answered g.C.Callee.given) g.C.Callee.stays _) in
    stay.same.callee

pub returns-clause-same_kept : goal.returns-clause-same_kept
returns-clause-same_kept g c =
    let stay = c.run_with.ensures.stays _ (stays_itself (told_by g.C.Callee.last g.C.Callee.answered g.C.Callee.given) g.C.Callee.stays _) in
    stay.same.kept

pub returns-clause-same : goal.returns-clause-same
returns-clause-same g c =
    let stay = c.run_with.ensures.stays _ (stays_itself (told_by g.C.Callee.last g.C.Callee.answered g.C.Callee.given) g.C.Callee.stays _) in
    stay.same

pub returns-clause-callee : goal.returns-clause-callee
returns-clause-callee g c =
    let stay = c.run_with.ensures.stays _ (stays_itself (told_by g.C.Callee.last g.C.Callee.answered g.C.Callee.given) g.C.Callee.stays _) in
    stay.callee

pub returns-clause-lawful : goal.returns-clause-lawful
returns-clause-lawful g c =
    let stay = c.run_with.ensures.stays _ (stays_itself (told_by g.C.Callee.last g.C.Callee.answered g.C.Callee.given) g.C.Callee.stays _) in
    stay.lawful
