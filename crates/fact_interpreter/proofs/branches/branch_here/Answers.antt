use Rattle.fact_interpreter.proofs.Entries.{frame_branch, here_none, here_some}
use Rattle.fact_interpreter.proofs.branches.branch_here.Goals as goal

pub returns-in-Some-Frame : goal.returns-in-Some-Frame
returns-in-Some-Frame c = frame_branch c.args.run.now c.pop.new.self c.in-Some-Frame.field-0 _ _ _ _ 0 c.in-Some-Frame.ensures c.in-Some-Frame.field-0-is

pub returns-in_default : goal.returns-in_default
returns-in_default c =
    here_none c.args.run.now c.pop.new.self c.in-Some-Label.field-0 _ _ _ _ _ c.in_ok-top-in-Some-Label.field-0 c.grab.new.self
    c.in-Some-Label.ensures c.in-Some-Label.field-0-is c.in_ok-top-in-Some-Label.ensures c.in_default.is

pub returns : goal.returns
returns c =
    here_some c.args.run.now c.pop.new.self c.in-Some-Label.field-0 _ c.in-Some-Label.below c.lay_on.new.self c.in-Some.top c.in-Some-Label.to _ _ c.in_ok-top-in-Some-Label.field-0 c.grab.new.self
    c.in-Some-Label.ensures c.in-Some-Label.field-0-is c.in_ok-top-in-Some-Label.ensures c.in-Some.is c.in_ok-lay_on-in-Some-Label.ensures
