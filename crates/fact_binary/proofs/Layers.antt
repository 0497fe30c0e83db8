-- The tree that an instruction is, by its outermost layer, at which the definitions compute.
use Rattle.std.proofs.Common.{◌≡◌, ℕ, sym, ap, ◌∙◌}
use Rattle.fact_wasm.specs.declared.instr.Instr.{Instr, Instr-F, roll-Instr, map-Instr, fold-roll-Instr}
use Rattle.fact_binary.specs.Grammar.{InstrNode, instr_node, node, opcode}

module _ (i : Instr) (x : Instr-F Instr) (e : roll-Instr x ≡ i) where
  pub node-layer : (n : ℕ) → node n i ≡ instr_node n (map-Instr Instr InstrNode (node n) x)
  node-layer n = ap (node n) (sym e) ∙ fold-roll-Instr InstrNode (instr_node n) x

  pub opcode-layer : (n : ℕ) → opcode (node n i) ≡ opcode (instr_node n (map-Instr Instr InstrNode (node n) x))
  opcode-layer n = ap opcode (node-layer n)
