use Rattle.std.proofs.Common.{[], ◌∷◌, length-append, ap, length, ◌∙◌, arith}
use Rattle.fact_interpreter.proofs.Entries.{left_label, left_frame, broken_frame}
use Rattle.fact_interpreter.proofs.settle.settle.Goals as goal

pub loop-run-preserved-in-Some-Label : goal.loop-run-preserved-in-Some-Label
loop-run-preserved-in-Some-Label c =
    left_label c.loop-run.run c.lay_on.new.self c.in-Some-Label.below c.pop.new.self c.in-Some-Label.field-0 _ _ c.in-Some-Label.rest _
    c.loop-run-test.ensures c.in-Some-Label.ensures c.in-Some-Label.field-0-is c.in_ok-lay_on-in-Some-Label.ensures
    ∙ c.loop-run.invariant

pub returns-then-not-have_types : goal.returns-then-not-have_types
returns-then-not-have_types c = record {
  same =
      broken_frame c.loop-run.run c.in-Some-Frame.below c.as_slice.result.now c.in-Some-Frame.locals c.pop.new.self c.in-Some-Frame.field-0 c.in-Some-Frame.results c.in-Some-Frame.rest
      c.loop-run-test.ensures c.in-Some-Frame.ensures c.in-Some-Frame.field-0-is c.as_slice.ensures c.if-not-have_types.ensures
      ∙ c.loop-run.invariant;
  has = tt;
}

pub loop-run-preserved : goal.loop-run-preserved
loop-run-preserved c =
    left_frame c.loop-run.run c.lay_on-in-Some-Frame.new.self c.in-Some-Frame.below c.as_slice.result.now c.in-Some-Frame.locals c.pop.new.self c.in-Some-Frame.field-0 c.in-Some-Frame.results c.in-Some-Frame.rest
    c.loop-run-test.ensures c.in-Some-Frame.ensures c.in-Some-Frame.field-0-is c.as_slice.ensures c.if-not-have_types.ensures c.in_ok-lay_on-in-Some-Frame.ensures
    ∙ c.loop-run.invariant

-- what stands around the code gets less

pub loop-run-smaller-in-Some-Label : goal.loop-run-smaller-in-Some-Label
loop-run-smaller-in-Some-Label c = omega (arith, ap length c.in-Some-Label.ensures, length-append c.pop.new.self (c.in-Some-Label.field-0 ∷ []))

pub loop-run-smaller : goal.loop-run-smaller
loop-run-smaller c = omega (arith, ap length c.in-Some-Frame.ensures, length-append c.pop.new.self (c.in-Some-Frame.field-0 ∷ []))
