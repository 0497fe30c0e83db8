use Rattle.std.proofs.Common.{◌≡◌, ◌-◌, ◌+◌, suc, Some, None, sym, subst, arith}
use Rattle.std.proofs.lemmas.Result.{IfOk-weaker}
use Rattle.fact_machine.specs.World.{log_of}
use Rattle.fact_interpreter.specs.Running.{world_of}
use Rattle.fact_interpreter.specs.Asked.{DoesAsked, step_with}
use Rattle.fact_interpreter.proofs.Asked.{HasAsked, asked_next, asked_ends, asked_rests}
use Rattle.fact_interpreter.proofs.run.go_on_asking.Goals as goal

pub returns-in-Some-clause-runs : goal.returns-in-Some-clause-runs
returns-in-Some-clause-runs g c =
    let M = c.args.«module».now in
    let n = c.args.steps in
    let more : n - c.loop.counter ≡ suc (n - (c.loop.counter + 1)) = omega arith in
    asked_ends M n (n - (c.loop.counter + 1)) c.in-Some.end
    (subst (λ k. HasAsked M n k (g.O.Outside.events c.args.outside.now) (g.O.Outside.events c.loop.outside) (log_of (world_of c.args.run.now)) c.args.run.now c.loop.run) more c.loop.invariant.asked)
    (subst (λ o. DoesAsked (step_with M c.loop.run) (g.O.Outside.events c.loop.outside) (g.O.Outside.events c.advance_asking.new.outside) (log_of (world_of c.loop.run)) o c.advance_asking.new.run) c.in-Some.is c.in_ok-end.ensures.does)

pub loop-preserved : goal.loop-preserved
loop-preserved g c =
    let M = c.args.«module».now in
    let n = c.args.steps in
    let more : n - c.loop.counter ≡ suc (n - (c.loop.counter + 1)) = omega arith in
    record {
      lawful = c.in_ok-end.ensures.lawful;
      stays = λ first h. c.in_ok-end.ensures.stays first (c.loop.invariant.stays first h);
      asked = asked_next M n (n - (c.loop.counter + 1))
          (subst (λ k. HasAsked M n k (g.O.Outside.events c.args.outside.now) (g.O.Outside.events c.loop.outside) (log_of (world_of c.args.run.now)) c.args.run.now c.loop.run) more c.loop.invariant.asked)
          (subst (λ o. DoesAsked (step_with M c.loop.run) (g.O.Outside.events c.loop.outside) (g.O.Outside.events c.advance_asking.new.outside) (log_of (world_of c.loop.run)) o c.advance_asking.new.run) c.in_default.is c.in_ok-end.ensures.does);
    }

pub returns-clause-runs : goal.returns-clause-runs
returns-clause-runs g c =
    let M = c.args.«module».now in
    let n = c.args.steps in
    let none : n - c.loop.counter ≡ 0 = omega arith in
    IfOk-weaker c.rest.result _ _
    (λ end e. asked_rests M n end
    (subst (λ k. HasAsked M n k (g.O.Outside.events c.args.outside.now) (g.O.Outside.events c.loop.outside) (log_of (world_of c.args.run.now)) c.args.run.now c.loop.run) none c.loop.invariant.asked) e) c.rest.ensures
