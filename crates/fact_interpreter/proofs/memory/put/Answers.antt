use Rattle.std.proofs.Common.{◌<◌, length, ap, ◌∙◌, arith, sym}
use Rattle.std.proofs.lemmas.List.{length-set}
use Rattle.fact_machine.proofs.Bytes.{put_step, put_all}
use Rattle.fact_interpreter.proofs.memory.put.Goals as goal

pub loop-at-preserved : goal.loop-at-preserved
loop-at-preserved c =
    let room : c.loop-at.at < length c.loop-at.memory = omega (arith, c.loop-at.invariant.same_length) in
    record {
      same_length = ap length c.set-old.ensures.is ∙ length-set c.loop-at.memory c.loop-at.at _ ∙ c.loop-at.invariant.same_length;
      left_to_put = put_step c.loop-at.memory c.set-old.new.self c.loop-at.at c.args.end c.loop-at.left c.loop-at-test.true room c.set-old.ensures.is ∙ c.loop-at.invariant.left_to_put;
    }

pub returns : goal.returns
returns c = sym (put_all c.loop-at.memory c.loop-at.at c.args.end c.loop-at.left c.loop-at-test.false) ∙ c.loop-at.invariant.left_to_put
