use Rattle.std.proofs.Common.{◌≡◌, ◌+◌, ◌*◌, ◌++◌, length}
use Rattle.fact_binary.specs.Grammar.{body_nodes, codes, AreNodes}
use Rattle.fact_binary.specs.Rebuild.{instrs_of}
use Rattle.fact_binary.proofs.read_code.+read.Given as goal

abbrev pub decreases-instr_at : goal.decreases-instr_at
decreases-instr_at l = 3 * length l.bytes.now

abbrev pub decreases-nest_at : goal.decreases-nest_at
decreases-nest_at l = 3 * length l.bytes.now + 2

abbrev pub decreases-choice_at : goal.decreases-choice_at
decreases-choice_at l = 3 * length l.bytes.now + 2

abbrev pub decreases-body_at : goal.decreases-body_at
decreases-body_at l = 3 * length l.bytes.now + 1

abbrev pub invariant-body_at-loop-body : goal.invariant-body_at-loop-body
invariant-body_at-loop-body l = record {
  bytes : l.bytes ≡ codes (body_nodes l.imports l.body) ++ l.left;
  fit : AreNodes (body_nodes l.imports l.body);
  own : instrs_of l.imports (body_nodes l.imports l.body) ≡ l.body;
}

abbrev pub decreases-body_at-loop-body : goal.decreases-body_at-loop-body
decreases-body_at-loop-body l = length l.left
