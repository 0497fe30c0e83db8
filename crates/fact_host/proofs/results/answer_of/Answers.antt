use Rattle.std.proofs.Common.{◌∙◌, ap, arith, refl, subst, sym}
use Rattle.std.proofs.lemmas.Result.{IfOk-weaker}
use Rattle.fact_types.specs.Functions.{HaveShapes}
use Rattle.fact_lowering.specs.TupleSteps.{IsTupleLowerable}
use Rattle.fact_host.specs.Hosts.{cursor_in, left_known}
use Rattle.fact_host.proofs.Resulting.{answer_lacks, answer_taken, results_lowerable}
use Rattle.fact_host.proofs.results.answer_of.Goals as goal

pub lower_tuple-requires-clause-lowerable : goal.lower_tuple-requires-clause-lowerable
lower_tuple-requires-clause-lowerable c =
    let s = c.requires.sound.shapes in
    let shapes = c.requires.sound.shaped in
    subst (λ tys. IsTupleLowerable c.args.types.now c.args.call.now.lift.abi tys c.args.values.now c.in_ok-store.store.cursor c.in_ok-store.store.bytes.items) (sym c.as_slice-tys.ensures)
    (results_lowerable c.args.types.now c.args.call.now s c.args.values.now c.in_ok-store.store.cursor c.in_ok-store.store.bytes.items shapes (c.requires.suited s shapes) (omega arith) (omega arith))

pub returns-in-Some : goal.returns-in-Some
returns-in-Some c =
    let memory = c.args.call.now.lift.memory in
    let high = c.lower_tuple.new.store in
    IfOk-weaker c.left.result _ _
    (λ answer leaves s k shapes waits known.
    let have = subst (λ tys. HaveShapes c.args.types.now tys s.lift_results) (sym c.as_slice-tys.ensures) shapes.lift_results in
    let lowered = rw c.in-Some.is at (c.in_ok-results.ensures s.lift_results have) in
    answer_taken k c.args.call.now s c.args.values.now c.args.state.now waits c.in-Some.results high.bytes.items c.in_ok-store.store.cursor high.cursor c.in_ok-store.store.bytes.items answer c.left.new.known c.left.ensures.bytes
    (c.in_ok-store.ensures.cursor ∙ ap (cursor_in memory) known) c.in_ok-store.ensures.bytes lowered leaves.0 (leaves.1 ∙ ap (λ z. left_known memory z high.cursor) known))
    c.left.ensures.leaves

pub returns-in-None : goal.returns-in-None
returns-in-None c = λ s k shapes waits known.
    let have = subst (λ tys. HaveShapes c.args.types.now tys s.lift_results) (sym c.as_slice-tys.ensures) shapes.lift_results in
    let lacks = rw c.in-None.is at (c.in_ok-results.ensures s.lift_results have) in
    answer_lacks k c.args.call.now s c.args.values.now c.args.state.now waits c.in_ok-store.store.cursor c.in_ok-store.store.bytes.items _ c.args.known.now (c.in_ok-store.ensures.cursor ∙ ap (cursor_in c.args.call.now.lift.memory) known)
    c.in_ok-store.ensures.bytes (c.requires.sound.needs s shapes) lacks refl known
