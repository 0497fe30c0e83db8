use Rattle.std.proofs.Common.{Some, refl}
use Rattle.fact_host.specs.declared.callee.HostError.TheVariants.{OutOfMemory}
use Rattle.fact_host.specs.Lawful.{told_by}
use Rattle.fact_host.proofs.HostSteps.{hosting_on, out_of_memory, stays_on}
use Rattle.fact_host.proofs.host.HostOutside.answer.Goals as goal

pub returns-in-Ok-clause-lawful : goal.returns-in-Ok-clause-lawful
returns-in-Ok-clause-lawful g c = (hosting_on c.args.self.now c.keep.new.self c.keep.ensures.same c.requires.0, c.keep.ensures.ready)

pub returns-in-Err-clause-lawful : goal.returns-in-Err-clause-lawful
returns-in-Err-clause-lawful g c = (hosting_on c.args.self.now c.keep.new.self c.keep.ensures.same c.requires.0, c.keep.ensures.ready)

pub returns-in-Ok-clause-stays : goal.returns-in-Ok-clause-stays
returns-in-Ok-clause-stays g c = λ first h.
    stays_on (told_by g.C.Callee.last g.C.Callee.answered g.C.Callee.given) g.C.Callee.stays first c.args.self.now c.keep.new.self c.keep.ensures.same c.keep.ensures.callee c.in-Ok.ensures.lawful h

pub returns-in-Err-clause-stays : goal.returns-in-Err-clause-stays
returns-in-Err-clause-stays g c = λ first h.
    let tells = told_by g.C.Callee.last g.C.Callee.answered g.C.Callee.given in
    let last = record c.keep.new.self { kept = record c.keep.new.self.kept { now = record c.keep.new.self.kept.now { error = Some OutOfMemory } } } in
    let same = c.keep.ensures.same in
    stays_on tells g.C.Callee.stays first c.args.self.now last (record { types = same.types; call = same.call; roles = same.roles; callee = same.callee; kept = same.kept }) c.keep.ensures.callee (λ cursors x. out_of_memory tells cursors last refl) h
