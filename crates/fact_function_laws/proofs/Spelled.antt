-- Worked modules as bytes.
use Rattle.std.proofs.Common.{◌≡◌, ℕ}
use Rattle.fact_wasm.specs.declared.instr.Instr.{Instr, out-Instr, fold_out-Instr, map-Instr}
use Rattle.fact_wasm.specs.declared.instr.Instr.TheVariants as I
use Rattle.fact_binary.specs.Grammar.{InstrNode, code, instr_node, node}
use Rattle.fact_binary.specs.Numbers.{groups, needed, count, unsigned}
use Rattle.fact_function_laws.specs.Worked.{OneNumberIsSpelled}
use Rattle.fact_function_laws.specs.WorkedTexts.{OneTextIsSpelled}

-- an instruction by its row
node_at : (n : ℕ) (i : Instr) → node n i ≡ instr_node n (map-Instr Instr InstrNode (node n) (out-Instr i))
node_at n i = fold_out-Instr InstrNode (instr_node n) i

pub one_number_is_spelled : OneNumberIsSpelled
unfolding code groups needed count unsigned
one_number_is_spelled =
    simp (node_at, I.outs-Block, I.outs-GlobalGet, I.outs-GlobalSet, I.outs-LocalGet, I.outs-LocalSet, I.outs-LocalTee, I.outs-BrIf, I.outs-Call, I.outs-Unreachable, I.outs-I32Const)

pub one_text_is_spelled : OneTextIsSpelled
unfolding code groups needed count unsigned
one_text_is_spelled =
    simp (node_at, I.outs-Block, I.outs-Loop, I.outs-GlobalGet, I.outs-GlobalSet, I.outs-LocalGet, I.outs-LocalSet, I.outs-LocalTee, I.outs-Br, I.outs-BrIf, I.outs-Call, I.outs-Unreachable, I.outs-I32Const, I.outs-I64Const, I.outs-I32Load, I.outs-I32Store, I.outs-MemorySize, I.outs-I64ExtendI32U, I.outs-I32WrapI64, I.outs-I64Mul, I.outs-I64LtU, I.outs-I64GeU, I.outs-I64Sub, I.outs-I64And, I.outs-I64Eqz, I.outs-I32And, I.outs-I32Add)
