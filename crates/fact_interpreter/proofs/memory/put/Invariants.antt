use Rattle.std.proofs.Common.{◌≡◌, ◌-◌, length}
use Rattle.fact_machine.specs.World.{put_at, bytes_of}
use Rattle.fact_interpreter.proofs.memory.put.Given as goal

abbrev pub invariant-loop-at : goal.invariant-loop-at
invariant-loop-at l = record {
  same_length : length l.memory ≡ length l.fn.memory;
  left_to_put : put_at l.memory l.at (bytes_of (l.end - l.at) l.left) ≡ put_at l.fn.memory l.start (bytes_of (l.end - l.start) l.number);
}
