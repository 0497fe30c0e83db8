use Rattle.std.proofs.Common.{◌≡◌, take}
use Rattle.fact_wasm.proofs.copies.+copied.Given as goal

abbrev pub invariant-copy_body-loop-instr : goal.invariant-copy_body-loop-instr
invariant-copy_body-loop-instr l = l.copies ≡ take l.instr-index l.body
