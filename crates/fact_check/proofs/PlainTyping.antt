-- Instructions of one type wherever they stand.
use Rattle.std.proofs.Common.{◌≡◌, ◌∷◌, [], Some, refl, sym, ◌∙◌}
use Rattle.fact_wasm.specs.declared.instr.Instr.{Instr, out-Instr, map-Instr}
use Rattle.fact_wasm.specs.declared.instr.Instr.TheOpen as o
use Rattle.fact_wasm.specs.declared.instr.Instr.TheOpen.{Instr-F}
use Rattle.fact_machine.specs.Typing.{Context, Operands, Typing, change, instruction_type, typing}
use Rattle.fact_machine.proofs.TypingRows.{plain_row}
use Rattle.fact_check.specs.Sections.{row_of, types_of_plain}
use Rattle.fact_check.specs.declared.plain.Plain.{Plain}

-- its type does not hang on bodies
same_type : (y : Instr-F Instr) → instruction_type (map-Instr Instr Typing typing y) ≡ instruction_type y
same_type o.Unreachable = refl
same_type _ = refl

pub plain_typing : (i : Instr) (p : Plain) (G : Context) (s : Operands) → Some (types_of_plain p) ≡ instruction_type (out-Instr i) → row_of i G s ≡ change (types_of_plain p).0 ((types_of_plain p).1 ∷ []) s
plain_typing i p G s h = plain_row (map-Instr Instr Typing typing (out-Instr i)) (types_of_plain p) G s (same_type (out-Instr i) ∙ sym h)
