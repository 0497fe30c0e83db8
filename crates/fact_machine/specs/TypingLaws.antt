-- Laws of well typed code: stretches in a row, and what stands below and around a stretch (core specification, "Validation",
-- "Instruction Sequences"). By them pieces of code that are typed each on its own make typed functions.
use Rattle.std.specs.Prelude.{◌≡◌, List, [], ◌++◌, Some, option_and_then}
use Rattle.fact_wasm.specs.declared.types.ValType.{ValType}
use Rattle.fact_wasm.specs.declared.instr.Instr.{Instr}
use Rattle.fact_machine.specs.Typing.{Operands, Known, Open, Context, code_typing}

-- operands with others below them
abbrev pub above_operands : (below : List ValType) → Operands → Operands
above_operands below (Known ts) = Known (ts ++ below)
above_operands below (Open ts) = Open ts

-- a context with more labels around its own
abbrev pub outward : (more : List (List ValType)) → Context → Context
outward more G = record G { labels = G.labels ++ more }

-- No code is well typed anywhere, and changes nothing.
abbrev pub NothingIsTyped : Type 0
NothingIsTyped = (G : Context) (s : Operands) → code_typing G [] s ≡ Some s

-- A stretch behind another is typed by what that one makes of the operands.
abbrev pub SequenceIsTyped : Type 0
SequenceIsTyped = (G : Context) (a b : List Instr) (s : Operands) → code_typing G (a ++ b) s ≡ option_and_then (λ s'. code_typing G b s') (code_typing G a s)

-- Code that is well typed is so above any operands and where any more labels stand around it, and makes the same of its own
-- operands.
abbrev pub FrameIsKept : Type 0
FrameIsKept =
    (code : List Instr) (G : Context) (s s' : Operands) (more : List (List ValType)) (below : List ValType)
    → code_typing G code s ≡ Some s' → code_typing (outward more G) code (above_operands below s) ≡ Some (above_operands below s')

-- So operands below change nothing,
abbrev pub OperandsBelow : Type 0
OperandsBelow = (code : List Instr) (G : Context) (s s' : Operands) (below : List ValType) → code_typing G code s ≡ Some s' → code_typing G code (above_operands below s) ≡ Some (above_operands below s')

-- and neither do labels outside.
abbrev pub LabelsOutside : Type 0
LabelsOutside = (code : List Instr) (G : Context) (s s' : Operands) (more : List (List ValType)) → code_typing G code s ≡ Some s' → code_typing (outward more G) code s ≡ Some s'
