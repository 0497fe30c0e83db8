-- How each numeric and parametric instruction is left, one lemma for each row.
use Rattle.std.proofs.Common.{ℕ, List, ◌∷◌, [], Option, refl, ap}
use Rattle.std.specs.Prelude.{◌≡◌, true, bit_and, bit_or, bit_xor, if◌then◌else◌, Some, None}
use Rattle.fact_wasm.specs.declared.instr.Instr.TheVariants as I
use Rattle.fact_wasm.specs.declared.module.WasmModule.{WasmModule}
use Rattle.fact_machine.specs.declared.types.CoreValue.{CoreValue}
use Rattle.fact_machine.specs.declared.types.CoreValue.TheVariants.{I32, I64, F32, F64}
use Rattle.fact_machine.specs.World.{World}
use Rattle.fact_machine.specs.Numerics.{iadd, isub, imul, ishl, ishr_u, ieqz, ieq, ine, ilt_u, igt_u, ige_u, wrap_32, extend_s}
use Rattle.fact_machine.specs.Operands.{alike, pick}
use Rattle.fact_machine.specs.Machine.{At, Goes, or_stuck}
use Rattle.fact_machine.specs.Exits.{Falls, Leaves}
use Rattle.fact_machine.proofs.RowLaws.{leaves_row}

module _ {M : WasmModule} {w : World} {vs : List CoreValue} {ls : List (Option CoreValue)} where
  -- ---- constants

  pub leaves_i64_const : {n : ℕ} → Leaves M 1 (I.I64Const n ∷ []) w vs ls (Falls w (I64 n ∷ vs) ls)
  leaves_i64_const {n} = leaves_row _ (I.outs-I64Const n) (λ rest k. refl)

  pub leaves_f32_const : {n : ℕ} → Leaves M 1 (I.F32Const n ∷ []) w vs ls (Falls w (F32 n ∷ vs) ls)
  leaves_f32_const {n} = leaves_row _ (I.outs-F32Const n) (λ rest k. refl)

  pub leaves_f64_const : {n : ℕ} → Leaves M 1 (I.F64Const n ∷ []) w vs ls (Falls w (F64 n ∷ vs) ls)
  leaves_f64_const {n} = leaves_row _ (I.outs-F64Const n) (λ rest k. refl)

  -- ---- drop and select

  pub leaves_drop : {v : CoreValue} → Leaves M 1 (I.Drop ∷ []) w (v ∷ vs) ls (Falls w vs ls)
  leaves_drop = leaves_row _ I.outs-Drop (λ rest k. refl)

  -- of two numbers of one type
  pub leaves_select : {c : ℕ} {u v : CoreValue} → alike u v ≡ true → Leaves M 1 (I.Select ∷ []) w (I32 c ∷ v ∷ u ∷ vs) ls (Falls w (pick c u v ∷ vs) ls)
  leaves_select {c} {u} {v} h = leaves_row _ I.outs-Select (λ rest k. ap (λ b. or_stuck w (if b then Some (pick c u v ∷ vs) else None) (λ us. Goes (At w us ls rest k))) h)

  -- ---- one operand

  pub leaves_i32_eqz : {i : ℕ} → Leaves M 1 (I.I32Eqz ∷ []) w (I32 i ∷ vs) ls (Falls w (I32 (ieqz i) ∷ vs) ls)
  leaves_i32_eqz = leaves_row _ I.outs-I32Eqz (λ rest k. refl)

  pub leaves_i64_eqz : {i : ℕ} → Leaves M 1 (I.I64Eqz ∷ []) w (I64 i ∷ vs) ls (Falls w (I32 (ieqz i) ∷ vs) ls)
  leaves_i64_eqz = leaves_row _ I.outs-I64Eqz (λ rest k. refl)

  pub leaves_i32_wrap_i64 : {i : ℕ} → Leaves M 1 (I.I32WrapI64 ∷ []) w (I64 i ∷ vs) ls (Falls w (I32 (wrap_32 i) ∷ vs) ls)
  leaves_i32_wrap_i64 = leaves_row _ I.outs-I32WrapI64 (λ rest k. refl)

  pub leaves_i64_extend_i32_u : {i : ℕ} → Leaves M 1 (I.I64ExtendI32U ∷ []) w (I32 i ∷ vs) ls (Falls w (I64 i ∷ vs) ls)
  leaves_i64_extend_i32_u = leaves_row _ I.outs-I64ExtendI32U (λ rest k. refl)

  pub leaves_i32_reinterpret_f32 : {i : ℕ} → Leaves M 1 (I.I32ReinterpretF32 ∷ []) w (F32 i ∷ vs) ls (Falls w (I32 i ∷ vs) ls)
  leaves_i32_reinterpret_f32 = leaves_row _ I.outs-I32ReinterpretF32 (λ rest k. refl)

  pub leaves_i64_reinterpret_f64 : {i : ℕ} → Leaves M 1 (I.I64ReinterpretF64 ∷ []) w (F64 i ∷ vs) ls (Falls w (I64 i ∷ vs) ls)
  leaves_i64_reinterpret_f64 = leaves_row _ I.outs-I64ReinterpretF64 (λ rest k. refl)

  pub leaves_f32_reinterpret_i32 : {i : ℕ} → Leaves M 1 (I.F32ReinterpretI32 ∷ []) w (I32 i ∷ vs) ls (Falls w (F32 i ∷ vs) ls)
  leaves_f32_reinterpret_i32 = leaves_row _ I.outs-F32ReinterpretI32 (λ rest k. refl)

  pub leaves_f64_reinterpret_i64 : {i : ℕ} → Leaves M 1 (I.F64ReinterpretI64 ∷ []) w (I64 i ∷ vs) ls (Falls w (F64 i ∷ vs) ls)
  leaves_f64_reinterpret_i64 = leaves_row _ I.outs-F64ReinterpretI64 (λ rest k. refl)

  pub leaves_i32_extend8_s : {i : ℕ} → Leaves M 1 (I.I32Extend8S ∷ []) w (I32 i ∷ vs) ls (Falls w (I32 (extend_s 8 32 i) ∷ vs) ls)
  leaves_i32_extend8_s = leaves_row _ I.outs-I32Extend8S (λ rest k. refl)

  pub leaves_i32_extend16_s : {i : ℕ} → Leaves M 1 (I.I32Extend16S ∷ []) w (I32 i ∷ vs) ls (Falls w (I32 (extend_s 16 32 i) ∷ vs) ls)
  leaves_i32_extend16_s = leaves_row _ I.outs-I32Extend16S (λ rest k. refl)

  -- ---- two operands, the second on top

  pub leaves_i32_eq : {i j : ℕ} → Leaves M 1 (I.I32Eq ∷ []) w (I32 j ∷ I32 i ∷ vs) ls (Falls w (I32 (ieq i j) ∷ vs) ls)
  leaves_i32_eq = leaves_row _ I.outs-I32Eq (λ rest k. refl)

  pub leaves_i32_ne : {i j : ℕ} → Leaves M 1 (I.I32Ne ∷ []) w (I32 j ∷ I32 i ∷ vs) ls (Falls w (I32 (ine i j) ∷ vs) ls)
  leaves_i32_ne = leaves_row _ I.outs-I32Ne (λ rest k. refl)

  pub leaves_i32_lt_u : {i j : ℕ} → Leaves M 1 (I.I32LtU ∷ []) w (I32 j ∷ I32 i ∷ vs) ls (Falls w (I32 (ilt_u i j) ∷ vs) ls)
  leaves_i32_lt_u = leaves_row _ I.outs-I32LtU (λ rest k. refl)

  pub leaves_i32_gt_u : {i j : ℕ} → Leaves M 1 (I.I32GtU ∷ []) w (I32 j ∷ I32 i ∷ vs) ls (Falls w (I32 (igt_u i j) ∷ vs) ls)
  leaves_i32_gt_u = leaves_row _ I.outs-I32GtU (λ rest k. refl)

  pub leaves_i32_ge_u : {i j : ℕ} → Leaves M 1 (I.I32GeU ∷ []) w (I32 j ∷ I32 i ∷ vs) ls (Falls w (I32 (ige_u i j) ∷ vs) ls)
  leaves_i32_ge_u = leaves_row _ I.outs-I32GeU (λ rest k. refl)

  pub leaves_i32_add : {i j : ℕ} → Leaves M 1 (I.I32Add ∷ []) w (I32 j ∷ I32 i ∷ vs) ls (Falls w (I32 (iadd 32 i j) ∷ vs) ls)
  leaves_i32_add = leaves_row _ I.outs-I32Add (λ rest k. refl)

  pub leaves_i32_sub : {i j : ℕ} → Leaves M 1 (I.I32Sub ∷ []) w (I32 j ∷ I32 i ∷ vs) ls (Falls w (I32 (isub 32 i j) ∷ vs) ls)
  leaves_i32_sub = leaves_row _ I.outs-I32Sub (λ rest k. refl)

  pub leaves_i32_mul : {i j : ℕ} → Leaves M 1 (I.I32Mul ∷ []) w (I32 j ∷ I32 i ∷ vs) ls (Falls w (I32 (imul 32 i j) ∷ vs) ls)
  leaves_i32_mul = leaves_row _ I.outs-I32Mul (λ rest k. refl)

  pub leaves_i32_and : {i j : ℕ} → Leaves M 1 (I.I32And ∷ []) w (I32 j ∷ I32 i ∷ vs) ls (Falls w (I32 (bit_and i j) ∷ vs) ls)
  leaves_i32_and = leaves_row _ I.outs-I32And (λ rest k. refl)

  pub leaves_i32_or : {i j : ℕ} → Leaves M 1 (I.I32Or ∷ []) w (I32 j ∷ I32 i ∷ vs) ls (Falls w (I32 (bit_or i j) ∷ vs) ls)
  leaves_i32_or = leaves_row _ I.outs-I32Or (λ rest k. refl)

  pub leaves_i32_xor : {i j : ℕ} → Leaves M 1 (I.I32Xor ∷ []) w (I32 j ∷ I32 i ∷ vs) ls (Falls w (I32 (bit_xor i j) ∷ vs) ls)
  leaves_i32_xor = leaves_row _ I.outs-I32Xor (λ rest k. refl)

  pub leaves_i32_shl : {i j : ℕ} → Leaves M 1 (I.I32Shl ∷ []) w (I32 j ∷ I32 i ∷ vs) ls (Falls w (I32 (ishl 32 i j) ∷ vs) ls)
  leaves_i32_shl = leaves_row _ I.outs-I32Shl (λ rest k. refl)

  pub leaves_i32_shr_u : {i j : ℕ} → Leaves M 1 (I.I32ShrU ∷ []) w (I32 j ∷ I32 i ∷ vs) ls (Falls w (I32 (ishr_u 32 i j) ∷ vs) ls)
  leaves_i32_shr_u = leaves_row _ I.outs-I32ShrU (λ rest k. refl)

  pub leaves_i64_eq : {i j : ℕ} → Leaves M 1 (I.I64Eq ∷ []) w (I64 j ∷ I64 i ∷ vs) ls (Falls w (I32 (ieq i j) ∷ vs) ls)
  leaves_i64_eq = leaves_row _ I.outs-I64Eq (λ rest k. refl)

  pub leaves_i64_ne : {i j : ℕ} → Leaves M 1 (I.I64Ne ∷ []) w (I64 j ∷ I64 i ∷ vs) ls (Falls w (I32 (ine i j) ∷ vs) ls)
  leaves_i64_ne = leaves_row _ I.outs-I64Ne (λ rest k. refl)

  pub leaves_i64_lt_u : {i j : ℕ} → Leaves M 1 (I.I64LtU ∷ []) w (I64 j ∷ I64 i ∷ vs) ls (Falls w (I32 (ilt_u i j) ∷ vs) ls)
  leaves_i64_lt_u = leaves_row _ I.outs-I64LtU (λ rest k. refl)

  pub leaves_i64_gt_u : {i j : ℕ} → Leaves M 1 (I.I64GtU ∷ []) w (I64 j ∷ I64 i ∷ vs) ls (Falls w (I32 (igt_u i j) ∷ vs) ls)
  leaves_i64_gt_u = leaves_row _ I.outs-I64GtU (λ rest k. refl)

  pub leaves_i64_ge_u : {i j : ℕ} → Leaves M 1 (I.I64GeU ∷ []) w (I64 j ∷ I64 i ∷ vs) ls (Falls w (I32 (ige_u i j) ∷ vs) ls)
  leaves_i64_ge_u = leaves_row _ I.outs-I64GeU (λ rest k. refl)

  pub leaves_i64_add : {i j : ℕ} → Leaves M 1 (I.I64Add ∷ []) w (I64 j ∷ I64 i ∷ vs) ls (Falls w (I64 (iadd 64 i j) ∷ vs) ls)
  leaves_i64_add = leaves_row _ I.outs-I64Add (λ rest k. refl)

  pub leaves_i64_sub : {i j : ℕ} → Leaves M 1 (I.I64Sub ∷ []) w (I64 j ∷ I64 i ∷ vs) ls (Falls w (I64 (isub 64 i j) ∷ vs) ls)
  leaves_i64_sub = leaves_row _ I.outs-I64Sub (λ rest k. refl)

  pub leaves_i64_mul : {i j : ℕ} → Leaves M 1 (I.I64Mul ∷ []) w (I64 j ∷ I64 i ∷ vs) ls (Falls w (I64 (imul 64 i j) ∷ vs) ls)
  leaves_i64_mul = leaves_row _ I.outs-I64Mul (λ rest k. refl)

  pub leaves_i64_and : {i j : ℕ} → Leaves M 1 (I.I64And ∷ []) w (I64 j ∷ I64 i ∷ vs) ls (Falls w (I64 (bit_and i j) ∷ vs) ls)
  leaves_i64_and = leaves_row _ I.outs-I64And (λ rest k. refl)

  pub leaves_i64_or : {i j : ℕ} → Leaves M 1 (I.I64Or ∷ []) w (I64 j ∷ I64 i ∷ vs) ls (Falls w (I64 (bit_or i j) ∷ vs) ls)
  leaves_i64_or = leaves_row _ I.outs-I64Or (λ rest k. refl)

  pub leaves_i64_xor : {i j : ℕ} → Leaves M 1 (I.I64Xor ∷ []) w (I64 j ∷ I64 i ∷ vs) ls (Falls w (I64 (bit_xor i j) ∷ vs) ls)
  leaves_i64_xor = leaves_row _ I.outs-I64Xor (λ rest k. refl)

  pub leaves_i64_shl : {i j : ℕ} → Leaves M 1 (I.I64Shl ∷ []) w (I64 j ∷ I64 i ∷ vs) ls (Falls w (I64 (ishl 64 i j) ∷ vs) ls)
  leaves_i64_shl = leaves_row _ I.outs-I64Shl (λ rest k. refl)

  pub leaves_i64_shr_u : {i j : ℕ} → Leaves M 1 (I.I64ShrU ∷ []) w (I64 j ∷ I64 i ∷ vs) ls (Falls w (I64 (ishr_u 64 i j) ∷ vs) ls)
  leaves_i64_shr_u = leaves_row _ I.outs-I64ShrU (λ rest k. refl)
