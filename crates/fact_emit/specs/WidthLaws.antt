-- What the instructions of each width do.
use Rattle.std.proofs.Common.{◌≡◌, ℤ, FitsSigned, pos, negsuc, ℕ, ◌+◌, ◌%◌, ◌^◌, ◌≤◌, ◌<◌, Bool, true, false, List, [], ◌∷◌, ◌++◌, Option, Some, refl, sym, ap, ◌∙◌, subst, arith, length, map, slice_get}
use Rattle.std.specs.Int.{w32, w64, cast_unsigned}
use Rattle.fact_wasm.specs.declared.types.ValType.TheVariants as val
use Rattle.fact_wasm.specs.declared.instr.MemArg.{MemArg}
use Rattle.fact_wasm.specs.declared.instr.Instr.{Instr, out-Instr, map-Instr}
use Rattle.fact_wasm.specs.declared.instr.Instr.TheOpen.{Instr-F}
use Rattle.fact_wasm.specs.declared.instr.Instr.TheVariants as I
use Rattle.fact_wasm.specs.declared.module.WasmModule.{WasmModule}
use Rattle.fact_types.specs.Signatures.{pointer_bytes, width}
use Rattle.fact_machine.specs.declared.types.CoreValue.{CoreValue}
use Rattle.fact_machine.specs.World.{World, Done, read, written, with_number}
use Rattle.fact_machine.specs.Machine.{Around, act, type_of}
use Rattle.fact_machine.specs.Typing.{address_bits, address_operand, Operands, Context, Typing, instruction_type, typing}
use Rattle.fact_machine.specs.Exits.{Falls, leads, Leaves, res_exit}
use Rattle.fact_code_laws.proofs.Lists.{get_set_here}
use Rattle.fact_machine.proofs.MemoryRows.{read_within, write_within, leaves_i32_load, leaves_i64_load, leaves_i32_store, leaves_i64_store}
use Rattle.fact_machine.proofs.Places.{load_after_store, store_keeps_length}
use Rattle.fact_machine.proofs.RowLaws.{leaves_row}
use Rattle.fact_machine.proofs.TypingRows.{typing_is, row_of, plain_row}
use Rattle.fact_emit.specs.Widths.{integer_modulo, ReplacesOperands, PushesPointer, LoadsPointer, StoresPointer, LoadGivesStored, IsPointerCode, IsPointerType, code_32, code_64, pointer_code}

-- ---- instructions on operands

row_typed : (i : Instr) {f : Instr-F Instr} → out-Instr i ≡ f → (G : Context) (s : Operands) → typing i G s ≡ row_of f G s
row_typed i {f} e G s = ap (λ (x : Typing). x G s) (typing_is i) ∙ ap (λ g. row_of g G s) e

-- an instruction that looks at nothing but operands
replaces_operands : {ins : List CoreValue} {out : CoreValue} {i : Instr} {f : Instr-F Instr} → out-Instr i ≡ f
    → instruction_type (map-Instr Instr Typing typing f) ≡ Some (map type_of ins, type_of out)
    → ((M : WasmModule) (w : World) (vs : List CoreValue) (ls : List (Option CoreValue)) (rest : List Instr) (k : Around) → act M f w (ins ++ vs) ls rest k ≡ leads (Falls w (out ∷ vs) ls) rest k)
    → ReplacesOperands ins out i
replaces_operands {ins} {out} {i} {f} e t h = record {
  typed = λ G s. row_typed i e G s ∙ plain_row (map-Instr Instr Typing typing f) (map type_of ins, type_of out) G s t;
  leaves = λ M w vs ls. leaves_row _ e (λ rest k. h M w vs ls rest k);
}

-- ---- constants with a sign

modulo_32 : (n : ℤ) → FitsSigned w32 n → cast_unsigned w32 n ≡ integer_modulo 32 n
modulo_32 (pos a) h = omega (arith, h.sfits)
modulo_32 (negsuc a) h = omega (arith, h.sfits)

modulo_64 : (n : ℤ) → FitsSigned w32 n → cast_unsigned w64 n ≡ integer_modulo 64 n
modulo_64 (pos a) h = omega (arith, h.sfits)
modulo_64 (negsuc a) h = omega (arith, h.sfits)

-- ---- instructions on memory

-- a pointer has no more bits than its bytes
pointer_kept : (memory64 : Bool) (x : ℕ) → x < 2 ^ address_bits memory64 → x % 256 ^ pointer_bytes (width memory64) ≡ x
pointer_kept true x below = omega arith
pointer_kept false x below = omega arith

-- a number of either width is put into memory, and read there again
reads_stored : (memory64 : Bool) (w : World) (index : ℕ) (bytes : List ℕ) (a x : ℕ) → a + pointer_bytes (width memory64) ≤ length bytes → x < 2 ^ address_bits memory64
    → read (pointer_bytes (width memory64)) (with_number (pointer_bytes (width memory64)) bytes a x) a (written (pointer_bytes (width memory64)) index bytes a x w) ≡ Done x (written (pointer_bytes (width memory64)) index bytes a x w)
reads_stored memory64 w index bytes a x fits below =
    let n = pointer_bytes (width memory64) in
    let stored = with_number n bytes a x in
    let after : World = written n index bytes a x w in
    read_within n a stored after (subst (λ k. a + n ≤ k) (sym (store_keeps_length bytes n a x fits)) fits)
    ∙ ap (λ k. Done k after) (load_after_store bytes n a x fits ∙ pointer_kept memory64 x below)

-- a memory is there after a write to it, with the bytes that were written
still_there : (w : World) (index : ℕ) (bytes : List ℕ) (n a x : ℕ) → slice_get w.state.memories index ≡ Some bytes → slice_get (written n index bytes a x w).state.memories index ≡ Some (with_number n bytes a x)
still_there w index bytes n a x there = get_set_here w.state.memories index (with_number n bytes a x) bytes there

-- what loads and stores a pointer gives what was stored
load_gives_stored : (memory64 : Bool) (at : MemArg) (store load : Instr) → StoresPointer memory64 at store → LoadsPointer memory64 at load → LoadGivesStored memory64 at store load
load_gives_stored memory64 at store load stores loads M w ls wide log2 bytes base x imported there fits below =
    let n = pointer_bytes (width memory64) in
    let a = base + at.offset in
    let place = address_operand wide base in
    let value = address_operand memory64 x in
    let after : World = written n at.memory_index bytes a x w in
    record {
      after = after;
      stores = λ vs. subst (λ r. Leaves M 1 (store ∷ []) w (value ∷ place ∷ vs) ls (res_exit r ls (λ done w'. Falls w' vs ls))) (write_within n at.memory_index a x bytes w fits) (stores.leaves M w vs ls wide log2 bytes base x imported there);
      loads = λ vs. subst (λ r. Leaves M 1 (load ∷ []) after (place ∷ vs) ls (res_exit r ls (λ x w'. Falls w' (address_operand memory64 x ∷ vs) ls))) (reads_stored memory64 w at.memory_index bytes a x fits below) (loads.leaves M after vs ls wide log2 (with_number n bytes a x) base imported (still_there w at.memory_index bytes n a x there));
    }

-- ---- the two widths

pub pointer_32_is : IsPointerType false val.I32 4
pointer_32_is = record { has_type = refl; has_size = refl }

pub pointer_64_is : IsPointerType true val.I64 8
pointer_64_is = record { has_type = refl; has_size = refl }

-- loads and stores of each width
loads_32 : (at : MemArg) → LoadsPointer false at (I.I32Load at)
loads_32 at = record { typed = row_typed _ (I.outs-I32Load at); leaves = λ M w vs ls wide log2 bytes base imported there. leaves_i32_load base (record { log2 = log2; imported = imported; there = there }) }

stores_32 : (at : MemArg) → StoresPointer false at (I.I32Store at)
stores_32 at = record { typed = row_typed _ (I.outs-I32Store at); leaves = λ M w vs ls wide log2 bytes base x imported there. leaves_i32_store base (record { log2 = log2; imported = imported; there = there }) }

loads_64 : (at : MemArg) → LoadsPointer true at (I.I64Load at)
loads_64 at = record { typed = row_typed _ (I.outs-I64Load at); leaves = λ M w vs ls wide log2 bytes base imported there. leaves_i64_load base (record { log2 = log2; imported = imported; there = there }) }

stores_64 : (at : MemArg) → StoresPointer true at (I.I64Store at)
stores_64 at = record { typed = row_typed _ (I.outs-I64Store at); leaves = λ M w vs ls wide log2 bytes base x imported there. leaves_i64_store base (record { log2 = log2; imported = imported; there = there }) }

pub code_32_is : IsPointerCode false code_32
code_32_is = record {
  adds = λ x y. replaces_operands I.outs-I32Add refl (λ M w vs ls rest k. refl);
  subtracts = λ x y. replaces_operands I.outs-I32Sub refl (λ M w vs ls rest k. refl);
  multiplies = λ x y. replaces_operands I.outs-I32Mul refl (λ M w vs ls rest k. refl);
  shifts = λ x y. replaces_operands I.outs-I32Shl refl (λ M w vs ls rest k. refl);
  ands = λ x y. replaces_operands I.outs-I32And refl (λ M w vs ls rest k. refl);
  ors = λ x y. replaces_operands I.outs-I32Or refl (λ M w vs ls rest k. refl);
  xors = λ x y. replaces_operands I.outs-I32Xor refl (λ M w vs ls rest k. refl);
  is_equal = λ x y. replaces_operands I.outs-I32Eq refl (λ M w vs ls rest k. refl);
  is_unequal = λ x y. replaces_operands I.outs-I32Ne refl (λ M w vs ls rest k. refl);
  is_zero = λ x. replaces_operands I.outs-I32Eqz refl (λ M w vs ls rest k. refl);
  is_above = λ x y. replaces_operands I.outs-I32GtU refl (λ M w vs ls rest k. refl);
  is_below = λ x y. replaces_operands I.outs-I32LtU refl (λ M w vs ls rest k. refl);
  unsigned = λ n. replaces_operands (I.outs-I32Const n) refl (λ M w vs ls rest k. refl);
  signed = λ n fits. subst (λ k. PushesPointer false k (I.I32Const (cast_unsigned w32 n))) (modulo_32 n fits) (replaces_operands (I.outs-I32Const (cast_unsigned w32 n)) refl (λ M w vs ls rest k. refl));
  loads = loads_32;
  stores = stores_32;
  gives_stored = λ at. load_gives_stored false at (I.I32Store at) (I.I32Load at) (stores_32 at) (loads_32 at);
}

pub code_64_is : IsPointerCode true code_64
code_64_is = record {
  adds = λ x y. replaces_operands I.outs-I64Add refl (λ M w vs ls rest k. refl);
  subtracts = λ x y. replaces_operands I.outs-I64Sub refl (λ M w vs ls rest k. refl);
  multiplies = λ x y. replaces_operands I.outs-I64Mul refl (λ M w vs ls rest k. refl);
  shifts = λ x y. replaces_operands I.outs-I64Shl refl (λ M w vs ls rest k. refl);
  ands = λ x y. replaces_operands I.outs-I64And refl (λ M w vs ls rest k. refl);
  ors = λ x y. replaces_operands I.outs-I64Or refl (λ M w vs ls rest k. refl);
  xors = λ x y. replaces_operands I.outs-I64Xor refl (λ M w vs ls rest k. refl);
  is_equal = λ x y. replaces_operands I.outs-I64Eq refl (λ M w vs ls rest k. refl);
  is_unequal = λ x y. replaces_operands I.outs-I64Ne refl (λ M w vs ls rest k. refl);
  is_zero = λ x. replaces_operands I.outs-I64Eqz refl (λ M w vs ls rest k. refl);
  is_above = λ x y. replaces_operands I.outs-I64GtU refl (λ M w vs ls rest k. refl);
  is_below = λ x y. replaces_operands I.outs-I64LtU refl (λ M w vs ls rest k. refl);
  unsigned = λ n. replaces_operands (I.outs-I64Const n) refl (λ M w vs ls rest k. refl);
  signed = λ n fits. subst (λ k. PushesPointer true k (I.I64Const (cast_unsigned w64 n))) (modulo_64 n fits) (replaces_operands (I.outs-I64Const (cast_unsigned w64 n)) refl (λ M w vs ls rest k. refl));
  loads = loads_64;
  stores = stores_64;
  gives_stored = λ at. load_gives_stored true at (I.I64Store at) (I.I64Load at) (stores_64 at) (loads_64 at);
}

-- the instructions of the two widths are those of each
pub code_32_of : code_32 ≡ pointer_code false
code_32_of = refl

pub code_64_of : code_64 ≡ pointer_code true
code_64_of = refl
