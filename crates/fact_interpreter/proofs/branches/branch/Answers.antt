use Rattle.std.proofs.Common.{◌≡◌, ◌-◌, ◌+◌, suc, ◌∙◌, arith}
use Rattle.fact_interpreter.proofs.Entries.{frame_branch, label_out}
use Rattle.fact_interpreter.proofs.branches.branch.Goals as goal

pub returns-in-Some-Frame : goal.returns-in-Some-Frame
returns-in-Some-Frame c =
    frame_branch c.loop.run c.pop.new.self c.in-Some-Frame.field-0 _ _ _ _ _ c.in-Some-Frame.ensures c.in-Some-Frame.field-0-is ∙ c.loop.invariant

pub loop-preserved : goal.loop-preserved
loop-preserved c =
    let n : c.args.label - c.loop.counter ≡ suc (c.args.label - (c.loop.counter + 1)) = omega arith in
    label_out c.loop.run c.pop.new.self c.in-Some-Label.field-0 _ _ _ _ _ (c.args.label - (c.loop.counter + 1)) _ c.in-Some-Label.ensures c.in-Some-Label.field-0-is n ∙ c.loop.invariant
