-- The instructions that change the operand stack alone: numeric and parametric ones (core specification, "Execution",
-- "Instructions", "Numeric Instructions" and "Parametric Instructions"). The stack has its top first, so the last operand
-- comes first. Where operands are missing or of another type there is no result.
use Rattle.std.specs.Prelude.{ℕ, zero, suc, Bool, true, false, List, [], ◌∷◌, Option, Some, None, bit_and, bit_or, bit_xor, if◌then◌else◌}
use Rattle.fact_wasm.specs.declared.instr.Instr.{Instr}
use Rattle.fact_wasm.specs.declared.instr.Instr.TheOpen as instr
use Rattle.fact_wasm.specs.declared.instr.Instr.TheOpen.{Instr-F}
use Rattle.fact_machine.specs.declared.types.CoreValue.{CoreValue}
use Rattle.fact_machine.specs.declared.types.CoreValue.TheVariants.{I32, I64, F32, F64}
use Rattle.fact_machine.specs.Numerics.{iadd, isub, imul, ishl, ishr_u, ieqz, ieq, ine, ilt_u, igt_u, ige_u, wrap_32, extend_s}

-- one operand of a type
abbrev pub unary_i32 : (ℕ → CoreValue) → List CoreValue → Option (List CoreValue)
unary_i32 f (I32 i ∷ vs) = Some (f i ∷ vs)
unary_i32 f _ = None

abbrev pub unary_i64 : (ℕ → CoreValue) → List CoreValue → Option (List CoreValue)
unary_i64 f (I64 i ∷ vs) = Some (f i ∷ vs)
unary_i64 f _ = None

abbrev pub unary_f32 : (ℕ → CoreValue) → List CoreValue → Option (List CoreValue)
unary_f32 f (F32 i ∷ vs) = Some (f i ∷ vs)
unary_f32 f _ = None

abbrev pub unary_f64 : (ℕ → CoreValue) → List CoreValue → Option (List CoreValue)
unary_f64 f (F64 i ∷ vs) = Some (f i ∷ vs)
unary_f64 f _ = None

-- two operands of one type
abbrev pub binary_i32 : (ℕ → ℕ → CoreValue) → List CoreValue → Option (List CoreValue)
binary_i32 f (I32 j ∷ I32 i ∷ vs) = Some (f i j ∷ vs)
binary_i32 f _ = None

abbrev pub binary_i64 : (ℕ → ℕ → CoreValue) → List CoreValue → Option (List CoreValue)
binary_i64 f (I64 j ∷ I64 i ∷ vs) = Some (f i j ∷ vs)
binary_i64 f _ = None

abbrev pub drop_one : List CoreValue → Option (List CoreValue)
drop_one [] = None
drop_one (v ∷ vs) = Some vs

-- whether two values are numbers of one type
abbrev pub alike : CoreValue → CoreValue → Bool
alike (I32 i) (I32 j) = true
alike (I64 i) (I64 j) = true
alike (F32 i) (F32 j) = true
alike (F64 i) (F64 j) = true
alike _ _ = false

-- the first value where the condition is not 0, and else the second
abbrev pub pick : ℕ → CoreValue → CoreValue → CoreValue
pick zero u v = v
pick (suc c) u v = u

abbrev pub select_one : List CoreValue → Option (List CoreValue)
select_one (I32 c ∷ v ∷ u ∷ vs) = if alike u v then Some (pick c u v ∷ vs) else None
select_one _ = None

-- the stack after such an instruction; every other one has no row here
abbrev pub operate : Instr-F Instr → List CoreValue → Option (List CoreValue)
operate instr.Drop vs = drop_one vs
operate instr.Select vs = select_one vs
operate (instr.I32Const n) vs = Some (I32 n ∷ vs)
operate (instr.I64Const n) vs = Some (I64 n ∷ vs)
operate (instr.F32Const n) vs = Some (F32 n ∷ vs)
operate (instr.F64Const n) vs = Some (F64 n ∷ vs)
operate instr.I32Eqz vs = unary_i32 (λ i. I32 (ieqz i)) vs
operate instr.I32Eq vs = binary_i32 (λ i j. I32 (ieq i j)) vs
operate instr.I32Ne vs = binary_i32 (λ i j. I32 (ine i j)) vs
operate instr.I32LtU vs = binary_i32 (λ i j. I32 (ilt_u i j)) vs
operate instr.I32GtU vs = binary_i32 (λ i j. I32 (igt_u i j)) vs
operate instr.I32GeU vs = binary_i32 (λ i j. I32 (ige_u i j)) vs
operate instr.I64Eqz vs = unary_i64 (λ i. I32 (ieqz i)) vs
operate instr.I64Eq vs = binary_i64 (λ i j. I32 (ieq i j)) vs
operate instr.I64Ne vs = binary_i64 (λ i j. I32 (ine i j)) vs
operate instr.I64LtU vs = binary_i64 (λ i j. I32 (ilt_u i j)) vs
operate instr.I64GtU vs = binary_i64 (λ i j. I32 (igt_u i j)) vs
operate instr.I64GeU vs = binary_i64 (λ i j. I32 (ige_u i j)) vs
operate instr.I32Add vs = binary_i32 (λ i j. I32 (iadd 32 i j)) vs
operate instr.I32Sub vs = binary_i32 (λ i j. I32 (isub 32 i j)) vs
operate instr.I32Mul vs = binary_i32 (λ i j. I32 (imul 32 i j)) vs
operate instr.I32And vs = binary_i32 (λ i j. I32 (bit_and i j)) vs
operate instr.I32Or vs = binary_i32 (λ i j. I32 (bit_or i j)) vs
operate instr.I32Xor vs = binary_i32 (λ i j. I32 (bit_xor i j)) vs
operate instr.I32Shl vs = binary_i32 (λ i j. I32 (ishl 32 i j)) vs
operate instr.I32ShrU vs = binary_i32 (λ i j. I32 (ishr_u 32 i j)) vs
operate instr.I64Add vs = binary_i64 (λ i j. I64 (iadd 64 i j)) vs
operate instr.I64Sub vs = binary_i64 (λ i j. I64 (isub 64 i j)) vs
operate instr.I64Mul vs = binary_i64 (λ i j. I64 (imul 64 i j)) vs
operate instr.I64And vs = binary_i64 (λ i j. I64 (bit_and i j)) vs
operate instr.I64Or vs = binary_i64 (λ i j. I64 (bit_or i j)) vs
operate instr.I64Xor vs = binary_i64 (λ i j. I64 (bit_xor i j)) vs
operate instr.I64Shl vs = binary_i64 (λ i j. I64 (ishl 64 i j)) vs
operate instr.I64ShrU vs = binary_i64 (λ i j. I64 (ishr_u 64 i j)) vs
operate instr.I32WrapI64 vs = unary_i64 (λ i. I32 (wrap_32 i)) vs
operate instr.I64ExtendI32U vs = unary_i32 (λ i. I64 i) vs
operate instr.I32ReinterpretF32 vs = unary_f32 (λ i. I32 i) vs
operate instr.I64ReinterpretF64 vs = unary_f64 (λ i. I64 i) vs
operate instr.F32ReinterpretI32 vs = unary_i32 (λ i. F32 i) vs
operate instr.F64ReinterpretI64 vs = unary_i64 (λ i. F64 i) vs
operate instr.I32Extend8S vs = unary_i32 (λ i. I32 (extend_s 8 32 i)) vs
operate instr.I32Extend16S vs = unary_i32 (λ i. I32 (extend_s 16 32 i)) vs
operate _ vs = None
