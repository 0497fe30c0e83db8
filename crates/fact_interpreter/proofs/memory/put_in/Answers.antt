use Rattle.fact_machine.proofs.Bytes.{put_back}
use Rattle.fact_interpreter.proofs.memory.put_in.Goals as goal

pub returns : goal.returns
returns c =
    put_back c.args.memories.now c.set-memory.new.self c.set-hole.new.self c.args.index c.args.start c.set-memory.result _ _ _
    c.set-memory.ensures.was c.set-memory.ensures.is c.put.ensures c.set-hole.ensures.is
