use Rattle.std.proofs.Common.{◌≡◌, ◌+◌, ◌*◌, ◌++◌, drop, take, length}
use Rattle.fact_binary.specs.Encode.{ArePlaced}
use Rattle.fact_binary.specs.Grammar.{AreNodes, node, body_nodes, code, codes}
use Rattle.fact_binary.proofs.code.+push.Given as goal

abbrev pub decreases-push_instr : goal.decreases-push_instr
decreases-push_instr l = 2 * length (code (node l.imports l.instr.now))

abbrev pub decreases-push_ended : goal.decreases-push_ended
decreases-push_ended l = 2 * length (codes (body_nodes l.imports l.body.now)) + 2

abbrev pub decreases-push_body : goal.decreases-push_body
decreases-push_body l = 2 * length (codes (body_nodes l.imports l.body.now)) + 1

abbrev pub invariant-push_body-loop-instr : goal.invariant-push_body-loop-instr
invariant-push_body-loop-instr l = record {
  rows : ArePlaced (take l.instr-index l.body) → AreNodes (body_nodes l.imports (take l.instr-index l.body));
  bytes : l.out.items ++ codes (body_nodes l.imports (drop l.instr-index l.body)) ≡ l.fn.out.items ++ codes (body_nodes l.imports l.body);
}
