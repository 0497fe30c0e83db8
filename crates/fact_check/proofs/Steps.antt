-- Every instruction of a typed machine, and any number of steps.
use Rattle.std.proofs.Common.{◌≡◌, ℕ, zero, suc, Bool, true, ◌&&◌, List, [], Option, Some, None, refl, subst, length, map, reverse, slice_get}
use Rattle.std.specs.Prelude.{option_and_then, bit_and, bit_or, bit_xor}
use Rattle.std.specs.List.{list_all}
use Rattle.std.proofs.lemmas.Bool.{false≢true}
use Rattle.fact_wasm.specs.declared.types.ValType.{ValType}
use Rattle.fact_wasm.specs.declared.types.ValType.TheVariants as val
use Rattle.fact_wasm.specs.declared.instr.BlockType.{BlockType}
use Rattle.fact_wasm.specs.declared.instr.Instr.{Instr, map-Instr}
use Rattle.fact_wasm.specs.declared.instr.Instr.TheOpen as o
use Rattle.fact_wasm.specs.declared.instr.Instr.TheOpen.{Instr-F}
use Rattle.fact_wasm.specs.declared.module.WasmModule.{WasmModule}
use Rattle.fact_machine.specs.declared.types.CoreValue.{CoreValue}
use Rattle.fact_machine.specs.declared.types.CoreValue.TheVariants.{I32, I64, F32, F64}
use Rattle.fact_machine.specs.World.{World}
use Rattle.fact_machine.specs.Numerics.{iadd, isub, imul, ishl, ishr_u, ieqz, ieq, ine, ilt_u, igt_u, ige_u, wrap_32, extend_s}
use Rattle.fact_machine.specs.Machine.{Around, At, Did, Goes, has_type, have_types, i32_of, i64_of, f32_of, f64_of, with_i32, when, block, branch, label_at, act}
use Rattle.fact_machine.specs.Typing.{Operands, Known, Typing, only_if, pop, change, jump, is_target, is_body, in_block, typing, typing_row, is_typed_function}
use Rattle.fact_machine.proofs.Tests.{first_of, second_of}
use Rattle.fact_check.proofs.Known.{GoesOn, takes_one, found}
use Rattle.fact_check.proofs.Invariant.{context, Stands, LeadsOn}
use Rattle.fact_check.proofs.Rows as rows
use Rattle.fact_check.proofs.Control as control

-- ---- numbers in values of a type

number_of_i32 : (v : CoreValue) → has_type v val.I32 ≡ true → (i : ℕ) × (i32_of v ≡ Some i)
number_of_i32 (I32 n) h = (n, refl)
number_of_i32 _ h = absurd (false≢true h)

number_of_i64 : (v : CoreValue) → has_type v val.I64 ≡ true → (i : ℕ) × (i64_of v ≡ Some i)
number_of_i64 (I64 n) h = (n, refl)
number_of_i64 _ h = absurd (false≢true h)

number_of_f32 : (v : CoreValue) → has_type v val.F32 ≡ true → (i : ℕ) × (f32_of v ≡ Some i)
number_of_f32 (F32 n) h = (n, refl)
number_of_f32 _ h = absurd (false≢true h)

number_of_f64 : (v : CoreValue) → has_type v val.F64 ≡ true → (i : ℕ) × (f64_of v ≡ Some i)
number_of_f64 (F64 n) h = (n, refl)
number_of_f64 _ h = absurd (false≢true h)

-- one way or the other
either : (M : WasmModule) (c : ℕ) (on off : Did) → LeadsOn M on → LeadsOn M off → LeadsOn M (when c on off)
either M zero on off p q = q
either M (suc c) on off p q = p

module _ (M : WasmModule) (valid : list_all (is_typed_function M) M.funcs ≡ true) (w : World) (ls : List (Option CoreValue)) (rest : List Instr) (k : Around) (locals : List ValType) (labels : List (List ValType)) (gives : List ValType) (s : Stands M w ls k locals labels gives) where
  abbrev go : Operands → Option Operands
  go z = control.go M valid w ls rest k locals labels gives s z

  -- one of two bodies
  chooses : (bt : BlockType) (body other : List Instr) (vs : List CoreValue) (us : List ValType) → have_types vs us ≡ true
      → GoesOn gives go (option_and_then (λ z. in_block (context M locals labels) bt (λ params results. is_body (context M locals labels) results params results (map typing body) && is_body (context M locals labels) results params results (map typing other)) z) (pop val.I32 (Known us)))
      → LeadsOn M (with_i32 w vs (λ c vs'. when c (block M bt body w vs' ls rest k) (block M bt other w vs' ls rest k)))
  chooses bt body other vs us h e =
      let first : List ValType → List ValType → Bool = λ params results. is_body (context M locals labels) results params results (map typing body) in
      let second : List ValType → List ValType → Bool = λ params results. is_body (context M locals labels) results params results (map typing other) in
      let r = takes_one gives val.I32 us go (in_block (context M locals labels) bt (λ params results. first params results && second params results)) e in
      rows.takes_i32 M w ls rest k locals labels gives s vs r.0 (λ c vs'. when c (block M bt body w vs' ls rest k) (block M bt other w vs' ls rest k)) (subst (λ l. have_types vs l ≡ true) r.1 h) (λ c vs' q.
      either M c (block M bt body w vs' ls rest k) (block M bt other w vs' ls rest k)
      (control.blocks M valid w ls rest k locals labels gives s bt body vs' r.0 q (control.weaker M valid w ls rest k locals labels gives s bt r.0 (λ params results. first params results && second params results) first (λ params results p. first_of (first params results) (second params results) p) r.2))
      (control.blocks M valid w ls rest k locals labels gives s bt other vs' r.0 q (control.weaker M valid w ls rest k locals labels gives s bt r.0 (λ params results. first params results && second params results) second (λ params results p. second_of (first params results) (second params results) p) r.2)))

  conditional : (bt : BlockType) (body : List Instr) (other : Option (List Instr)) (vs : List CoreValue) (us : List ValType) → have_types vs us ≡ true
      → GoesOn gives go (typing_row (map-Instr Instr Typing typing (o.If bt body other)) (context M locals labels) (Known us)) → LeadsOn M (act M (o.If bt body other) w vs ls rest k)
  conditional bt body None vs us h e = chooses bt body [] vs us h e
  conditional bt body (Some other) vs us h e = chooses bt body other vs us h e

  may_branch : (l : ℕ) (vs : List CoreValue) (us : List ValType) → have_types vs us ≡ true
      → GoesOn gives go (typing_row (map-Instr Instr Typing typing (o.BrIf l)) (context M locals labels) (Known us)) → LeadsOn M (act M (o.BrIf l) w vs ls rest k)
  may_branch l vs us h e =
      let f = found gives go (λ ts. option_and_then (λ z. change (reverse ts) (reverse ts) z) (pop val.I32 (Known us))) (slice_get labels l) e in
      let r = takes_one gives val.I32 us go (λ z. change (reverse f.0) (reverse f.0) z) f.2 in
      rows.takes_i32 M w ls rest k locals labels gives s vs r.0 (λ c vs'. when c (branch w l vs' ls k) (Goes (At w vs' ls rest k))) (subst (λ x. have_types vs x ≡ true) r.1 h) (λ c vs' q.
      let both_ways = control.may_jump M valid w ls rest k locals labels gives s l vs' f.0 r.0 f.1 q r.2 in
      either M c (branch w l vs' ls k) (Goes (At w vs' ls rest k)) both_ways.0 both_ways.1)

  branches_by : (table : List ℕ) (last : ℕ) (vs : List CoreValue) (us : List ValType) → have_types vs us ≡ true
      → GoesOn gives go (typing_row (map-Instr Instr Typing typing (o.BrTable table last)) (context M locals labels) (Known us)) → LeadsOn M (act M (o.BrTable table last) w vs ls rest k)
  branches_by table last vs us h e =
      let f = found gives go (λ ts. option_and_then (λ z. only_if (list_all (is_target (context M locals labels) (length ts) z) table) (jump (reverse ts) z)) (pop val.I32 (Known us))) (slice_get labels last) e in
      let r = takes_one gives val.I32 us go (λ z. only_if (list_all (is_target (context M locals labels) (length f.0) z) table) (jump (reverse f.0) z)) f.2 in
      rows.takes_i32 M w ls rest k locals labels gives s vs r.0 (λ i vs'. branch w (label_at table last i) vs' ls k) (subst (λ x. have_types vs x ≡ true) r.1 h) (λ i vs' q.
      control.by_table M valid w ls rest k locals labels gives s table last i vs' f.0 r.0 f.1 q r.2)

  -- an instruction with its operands leads on
  pub acts : (y : Instr-F Instr) (vs : List CoreValue) (us : List ValType) → have_types vs us ≡ true → GoesOn gives go (typing_row (map-Instr Instr Typing typing y) (context M locals labels) (Known us)) → LeadsOn M (act M y w vs ls rest k)
  acts o.Unreachable vs us h e = tt
  acts (o.Block bt body) vs us h e = control.blocks M valid w ls rest k locals labels gives s bt body vs us h e
  acts (o.Loop bt body) vs us h e = control.loops M valid w ls rest k locals labels gives s bt body vs us h e
  acts (o.If bt body other) vs us h e = conditional bt body other vs us h e
  acts (o.TryTable bt catches body) vs us h e = control.tries M valid w ls rest k locals labels gives s bt catches body vs us h e
  acts (o.Br l) vs us h e = control.jumps_to M valid w ls rest k locals labels gives s l vs us h e
  acts (o.BrIf l) vs us h e = may_branch l vs us h e
  acts (o.BrTable table last) vs us h e = branches_by table last vs us h e
  acts (o.Call f) vs us h e = control.does_call M valid w ls rest k locals labels gives s f vs us h e
  acts (o.RefFunc f) vs us h e = control.refers M valid w ls rest k locals labels gives s f vs us h e
  acts o.Drop vs us h e = rows.drops M w ls rest k locals labels gives s vs us h e
  acts o.Select vs us h e = rows.selects M w ls rest k locals labels gives s vs us h e
  acts (o.LocalGet n) vs us h e = rows.gets_local M w ls rest k locals labels gives s n vs us h e
  acts (o.LocalSet n) vs us h e = rows.sets_local M w ls rest k locals labels gives s n vs us h e
  acts (o.LocalTee n) vs us h e = rows.tees_local M w ls rest k locals labels gives s n vs us h e
  acts (o.GlobalGet n) vs us h e = rows.gets_global M w ls rest k locals labels gives s n vs us h e
  acts (o.GlobalSet n) vs us h e = rows.sets_global M w ls rest k locals labels gives s n vs us h e
  acts (o.I32Load m) vs us h e = rows.loads M w ls rest k locals labels gives s 4 2 (λ n. I32 n) val.I32 (λ i. refl) m vs us h e
  acts (o.I64Load m) vs us h e = rows.loads M w ls rest k locals labels gives s 8 3 (λ n. I64 n) val.I64 (λ i. refl) m vs us h e
  acts (o.F32Load m) vs us h e = rows.loads M w ls rest k locals labels gives s 4 2 (λ n. F32 n) val.F32 (λ i. refl) m vs us h e
  acts (o.F64Load m) vs us h e = rows.loads M w ls rest k locals labels gives s 8 3 (λ n. F64 n) val.F64 (λ i. refl) m vs us h e
  acts (o.I32Load8S m) vs us h e = rows.loads M w ls rest k locals labels gives s 1 0 (λ n. I32 (extend_s 8 32 n)) val.I32 (λ i. refl) m vs us h e
  acts (o.I32Load8U m) vs us h e = rows.loads M w ls rest k locals labels gives s 1 0 (λ n. I32 n) val.I32 (λ i. refl) m vs us h e
  acts (o.I32Load16S m) vs us h e = rows.loads M w ls rest k locals labels gives s 2 1 (λ n. I32 (extend_s 16 32 n)) val.I32 (λ i. refl) m vs us h e
  acts (o.I32Load16U m) vs us h e = rows.loads M w ls rest k locals labels gives s 2 1 (λ n. I32 n) val.I32 (λ i. refl) m vs us h e
  acts (o.I32Store m) vs us h e = rows.stores M w ls rest k locals labels gives s 4 2 i32_of val.I32 number_of_i32 m vs us h e
  acts (o.I64Store m) vs us h e = rows.stores M w ls rest k locals labels gives s 8 3 i64_of val.I64 number_of_i64 m vs us h e
  acts (o.F32Store m) vs us h e = rows.stores M w ls rest k locals labels gives s 4 2 f32_of val.F32 number_of_f32 m vs us h e
  acts (o.F64Store m) vs us h e = rows.stores M w ls rest k locals labels gives s 8 3 f64_of val.F64 number_of_f64 m vs us h e
  acts (o.I32Store8 m) vs us h e = rows.stores M w ls rest k locals labels gives s 1 0 i32_of val.I32 number_of_i32 m vs us h e
  acts (o.I32Store16 m) vs us h e = rows.stores M w ls rest k locals labels gives s 2 1 i32_of val.I32 number_of_i32 m vs us h e
  acts (o.MemorySize n) vs us h e = rows.sizes M w ls rest k locals labels gives s n vs us h e
  acts (o.I32Const n) vs us h e = rows.constant M w ls rest k locals labels gives s (I32 n) val.I32 refl vs us h e
  acts (o.I64Const n) vs us h e = rows.constant M w ls rest k locals labels gives s (I64 n) val.I64 refl vs us h e
  acts (o.F32Const n) vs us h e = rows.constant M w ls rest k locals labels gives s (F32 n) val.F32 refl vs us h e
  acts (o.F64Const n) vs us h e = rows.constant M w ls rest k locals labels gives s (F64 n) val.F64 refl vs us h e
  acts o.I32Eqz vs us h e = rows.unary32 M w ls rest k locals labels gives s val.I32 vs us h (λ i. I32 (ieqz i)) (λ i. refl) e
  acts o.I32Eq vs us h e = rows.binary32 M w ls rest k locals labels gives s val.I32 vs us h (λ i j. I32 (ieq i j)) (λ i j. refl) e
  acts o.I32Ne vs us h e = rows.binary32 M w ls rest k locals labels gives s val.I32 vs us h (λ i j. I32 (ine i j)) (λ i j. refl) e
  acts o.I32LtU vs us h e = rows.binary32 M w ls rest k locals labels gives s val.I32 vs us h (λ i j. I32 (ilt_u i j)) (λ i j. refl) e
  acts o.I32GtU vs us h e = rows.binary32 M w ls rest k locals labels gives s val.I32 vs us h (λ i j. I32 (igt_u i j)) (λ i j. refl) e
  acts o.I32GeU vs us h e = rows.binary32 M w ls rest k locals labels gives s val.I32 vs us h (λ i j. I32 (ige_u i j)) (λ i j. refl) e
  acts o.I64Eqz vs us h e = rows.unary64 M w ls rest k locals labels gives s val.I32 vs us h (λ i. I32 (ieqz i)) (λ i. refl) e
  acts o.I64Eq vs us h e = rows.binary64 M w ls rest k locals labels gives s val.I32 vs us h (λ i j. I32 (ieq i j)) (λ i j. refl) e
  acts o.I64Ne vs us h e = rows.binary64 M w ls rest k locals labels gives s val.I32 vs us h (λ i j. I32 (ine i j)) (λ i j. refl) e
  acts o.I64LtU vs us h e = rows.binary64 M w ls rest k locals labels gives s val.I32 vs us h (λ i j. I32 (ilt_u i j)) (λ i j. refl) e
  acts o.I64GtU vs us h e = rows.binary64 M w ls rest k locals labels gives s val.I32 vs us h (λ i j. I32 (igt_u i j)) (λ i j. refl) e
  acts o.I64GeU vs us h e = rows.binary64 M w ls rest k locals labels gives s val.I32 vs us h (λ i j. I32 (ige_u i j)) (λ i j. refl) e
  acts o.I32Add vs us h e = rows.binary32 M w ls rest k locals labels gives s val.I32 vs us h (λ i j. I32 (iadd 32 i j)) (λ i j. refl) e
  acts o.I32Sub vs us h e = rows.binary32 M w ls rest k locals labels gives s val.I32 vs us h (λ i j. I32 (isub 32 i j)) (λ i j. refl) e
  acts o.I32Mul vs us h e = rows.binary32 M w ls rest k locals labels gives s val.I32 vs us h (λ i j. I32 (imul 32 i j)) (λ i j. refl) e
  acts o.I32And vs us h e = rows.binary32 M w ls rest k locals labels gives s val.I32 vs us h (λ i j. I32 (bit_and i j)) (λ i j. refl) e
  acts o.I32Or vs us h e = rows.binary32 M w ls rest k locals labels gives s val.I32 vs us h (λ i j. I32 (bit_or i j)) (λ i j. refl) e
  acts o.I32Xor vs us h e = rows.binary32 M w ls rest k locals labels gives s val.I32 vs us h (λ i j. I32 (bit_xor i j)) (λ i j. refl) e
  acts o.I32Shl vs us h e = rows.binary32 M w ls rest k locals labels gives s val.I32 vs us h (λ i j. I32 (ishl 32 i j)) (λ i j. refl) e
  acts o.I32ShrU vs us h e = rows.binary32 M w ls rest k locals labels gives s val.I32 vs us h (λ i j. I32 (ishr_u 32 i j)) (λ i j. refl) e
  acts o.I64Add vs us h e = rows.binary64 M w ls rest k locals labels gives s val.I64 vs us h (λ i j. I64 (iadd 64 i j)) (λ i j. refl) e
  acts o.I64Sub vs us h e = rows.binary64 M w ls rest k locals labels gives s val.I64 vs us h (λ i j. I64 (isub 64 i j)) (λ i j. refl) e
  acts o.I64Mul vs us h e = rows.binary64 M w ls rest k locals labels gives s val.I64 vs us h (λ i j. I64 (imul 64 i j)) (λ i j. refl) e
  acts o.I64And vs us h e = rows.binary64 M w ls rest k locals labels gives s val.I64 vs us h (λ i j. I64 (bit_and i j)) (λ i j. refl) e
  acts o.I64Or vs us h e = rows.binary64 M w ls rest k locals labels gives s val.I64 vs us h (λ i j. I64 (bit_or i j)) (λ i j. refl) e
  acts o.I64Xor vs us h e = rows.binary64 M w ls rest k locals labels gives s val.I64 vs us h (λ i j. I64 (bit_xor i j)) (λ i j. refl) e
  acts o.I64Shl vs us h e = rows.binary64 M w ls rest k locals labels gives s val.I64 vs us h (λ i j. I64 (ishl 64 i j)) (λ i j. refl) e
  acts o.I64ShrU vs us h e = rows.binary64 M w ls rest k locals labels gives s val.I64 vs us h (λ i j. I64 (ishr_u 64 i j)) (λ i j. refl) e
  acts o.I32WrapI64 vs us h e = rows.unary64 M w ls rest k locals labels gives s val.I32 vs us h (λ i. I32 (wrap_32 i)) (λ i. refl) e
  acts o.I64ExtendI32U vs us h e = rows.unary32 M w ls rest k locals labels gives s val.I64 vs us h (λ i. I64 i) (λ i. refl) e
  acts o.I32ReinterpretF32 vs us h e = rows.of_f32 M w ls rest k locals labels gives s val.I32 vs us h (λ i. I32 i) (λ i. refl) e
  acts o.I64ReinterpretF64 vs us h e = rows.of_f64 M w ls rest k locals labels gives s val.I64 vs us h (λ i. I64 i) (λ i. refl) e
  acts o.F32ReinterpretI32 vs us h e = rows.unary32 M w ls rest k locals labels gives s val.F32 vs us h (λ i. F32 i) (λ i. refl) e
  acts o.F64ReinterpretI64 vs us h e = rows.unary64 M w ls rest k locals labels gives s val.F64 vs us h (λ i. F64 i) (λ i. refl) e
  acts o.I32Extend8S vs us h e = rows.unary32 M w ls rest k locals labels gives s val.I32 vs us h (λ i. I32 (extend_s 8 32 i)) (λ i. refl) e
  acts o.I32Extend16S vs us h e = rows.unary32 M w ls rest k locals labels gives s val.I32 vs us h (λ i. I32 (extend_s 16 32 i)) (λ i. refl) e
