-- The instructions on pointers of a width, and what each of them does on the machine (core specification, "Execution",
-- "Instructions", "Numeric Instructions" and "Memory Instructions"; "Validation", "Instructions"). A pointer of a width is an
-- unsigned number of so many bits, as an operand of the type of that width's addresses.
use Rattle.std.specs.Prelude.{◌≡◌, ℤ, FitsSigned, pos, negsuc, ℕ, suc, ◌+◌, ◌-◌, ◌%◌, ◌^◌, ◌≤◌, ◌<◌, Bool, true, false, List, [], ◌∷◌, ◌++◌, length, map, slice_get, Option, Some, bit_and, bit_or, bit_xor}
use Rattle.std.specs.Int.{w32, w64, cast_unsigned}
use Rattle.fact_wasm.specs.declared.types.ValType.{ValType}
use Rattle.fact_wasm.specs.declared.instr.MemArg.{MemArg}
use Rattle.fact_wasm.specs.declared.instr.Instr.{Instr}
use Rattle.fact_wasm.specs.declared.instr.Instr.TheVariants as I
use Rattle.fact_wasm.specs.declared.module.WasmModule.{WasmModule}
use Rattle.fact_types.specs.Signatures.{pointer_bytes, width}
use Rattle.fact_machine.specs.declared.types.CoreValue.{CoreValue}
use Rattle.fact_machine.specs.declared.types.CoreValue.TheVariants.{I32}
use Rattle.fact_machine.specs.World.{World, read, write}
use Rattle.fact_machine.specs.Numerics.{iadd, isub, imul, ishl, ieqz, ieq, ine, ilt_u, igt_u}
use Rattle.fact_machine.specs.Machine.{type_of, memory_import}
use Rattle.fact_machine.specs.Typing.{address_bits, address_type, address_operand, Operands, change, Context, load_typing, store_typing, typing}
use Rattle.fact_machine.specs.Exits.{Falls, Leaves, res_exit}

-- ---- numbers

-- the exponent of the number of bytes of a pointer
abbrev pub address_exponent : (memory64 : Bool) → ℕ
address_exponent true = 3
address_exponent false = 2

-- an integer modulo 2 to the power of n
abbrev pub integer_modulo : ℕ → ℤ → ℕ
integer_modulo n (pos a) = a % 2 ^ n
integer_modulo n (negsuc a) = 2 ^ n - suc (a % 2 ^ n)

-- ---- what an instruction does

-- An instruction that takes these operands, the topmost first, and gives a value, in one step and wherever it stands. It is of
-- their types, and changes nothing else.
pub record ReplacesOperands (ins : List CoreValue) (out : CoreValue) (i : Instr) : Type 0 where
  pub typed : (G : Context) (s : Operands) → typing i G s ≡ change (map type_of ins) (type_of out ∷ []) s
  pub leaves : (M : WasmModule) (w : World) (vs : List CoreValue) (ls : List (Option CoreValue)) → Leaves M 1 (i ∷ []) w (ins ++ vs) ls (Falls w (out ∷ vs) ls)

-- a pointer is given
abbrev pub PushesPointer : (memory64 : Bool) → ℕ → Instr → Type 0
PushesPointer memory64 x i = ReplacesOperands [] (address_operand memory64 x) i

-- two pointers become one, the second being on top
abbrev pub ComputesPointer : (memory64 : Bool) → (ℕ → ℕ → ℕ) → Instr → Type 0
ComputesPointer memory64 value i = (x y : ℕ) → ReplacesOperands (address_operand memory64 y ∷ address_operand memory64 x ∷ []) (address_operand memory64 (value x y)) i

-- two pointers are tested, the second being on top
abbrev pub TestsPointers : (memory64 : Bool) → (ℕ → ℕ → ℕ) → Instr → Type 0
TestsPointers memory64 value i = (x y : ℕ) → ReplacesOperands (address_operand memory64 y ∷ address_operand memory64 x ∷ []) (I32 (value x y)) i

-- a pointer is tested
abbrev pub TestsPointer : (memory64 : Bool) → (ℕ → ℕ) → Instr → Type 0
TestsPointer memory64 value i = (x : ℕ) → ReplacesOperands (address_operand memory64 x ∷ []) (I32 (value x)) i

-- An instruction that loads a pointer: from so many bytes behind the address on top, in a memory of either width that the module
-- imports, and that has these bytes. It traps where not all bytes of the pointer are there.
pub record LoadsPointer (memory64 : Bool) (at : MemArg) (i : Instr) : Type 0 where
  pub typed : (G : Context) (s : Operands) → typing i G s ≡ load_typing (address_exponent memory64) (address_type memory64) at G s
  pub leaves : (M : WasmModule) (w : World) (vs : List CoreValue) (ls : List (Option CoreValue)) (wide : Bool) (log2 : Option ℕ) (bytes : List ℕ) (base : ℕ) → memory_import M.imports at.memory_index ≡ Some (wide, log2) → slice_get w.state.memories at.memory_index ≡ Some bytes
      → Leaves M 1 (i ∷ []) w (address_operand wide base ∷ vs) ls (res_exit (read (pointer_bytes (width memory64)) bytes (base + at.offset) w) ls (λ x w'. Falls w' (address_operand memory64 x ∷ vs) ls))

-- An instruction that stores the pointer on top: at so many bytes behind the address below it. It traps where there is no room for
-- all bytes of the pointer, and then changes nothing.
pub record StoresPointer (memory64 : Bool) (at : MemArg) (i : Instr) : Type 0 where
  pub typed : (G : Context) (s : Operands) → typing i G s ≡ store_typing (address_exponent memory64) (address_type memory64) at G s
  pub leaves : (M : WasmModule) (w : World) (vs : List CoreValue) (ls : List (Option CoreValue)) (wide : Bool) (log2 : Option ℕ) (bytes : List ℕ) (base x : ℕ) → memory_import M.imports at.memory_index ≡ Some (wide, log2) → slice_get w.state.memories at.memory_index ≡ Some bytes
      → Leaves M 1 (i ∷ []) w (address_operand memory64 x ∷ address_operand wide base ∷ vs) ls (res_exit (write (pointer_bytes (width memory64)) at.memory_index bytes (base + at.offset) x w) ls (λ done w'. Falls w' vs ls))

-- a store that goes on, and a load of the same place behind it
pub record StoredThenLoaded (M : WasmModule) (w : World) (ls : List (Option CoreValue)) (place x : CoreValue) (store load : Instr) : Type 0 where
  pub after : World
  pub stores : (vs : List CoreValue) → Leaves M 1 (store ∷ []) w (x ∷ place ∷ vs) ls (Falls after vs ls)
  pub loads : (vs : List CoreValue) → Leaves M 1 (load ∷ []) after (place ∷ vs) ls (Falls after (x ∷ vs) ls)

-- A load after a store at the same place gives what was stored.
abbrev pub LoadGivesStored : (memory64 : Bool) → MemArg → (store load : Instr) → Type 0
LoadGivesStored memory64 at store load =
    (M : WasmModule) (w : World) (ls : List (Option CoreValue)) (wide : Bool) (log2 : Option ℕ) (bytes : List ℕ) (base x : ℕ) → memory_import M.imports at.memory_index ≡ Some (wide, log2) → slice_get w.state.memories at.memory_index ≡ Some bytes
    → base + at.offset + pointer_bytes (width memory64) ≤ length bytes → x < 2 ^ address_bits memory64
    → StoredThenLoaded M w ls (address_operand wide base) (address_operand memory64 x) store load

-- ---- the instructions of a width

pub record PointerCode : Type 0 where
  pub add : Instr
  pub sub : Instr
  pub mul : Instr
  pub shl : Instr
  pub and : Instr
  pub or : Instr
  pub xor : Instr
  pub eq : Instr
  pub ne : Instr
  pub eqz : Instr
  pub gt_u : Instr
  pub lt_u : Instr
  pub uconst : ℕ → Instr
  pub iconst : ℤ → Instr
  pub load : MemArg → Instr
  pub store : MemArg → Instr

abbrev pub code_32 : PointerCode
code_32 = record {
  add = I.I32Add;
  sub = I.I32Sub;
  mul = I.I32Mul;
  shl = I.I32Shl;
  and = I.I32And;
  or = I.I32Or;
  xor = I.I32Xor;
  eq = I.I32Eq;
  ne = I.I32Ne;
  eqz = I.I32Eqz;
  gt_u = I.I32GtU;
  lt_u = I.I32LtU;
  uconst = λ n. I.I32Const n;
  iconst = λ n. I.I32Const (cast_unsigned w32 n);
  load = λ at. I.I32Load at;
  store = λ at. I.I32Store at;
}

abbrev pub code_64 : PointerCode
code_64 = record {
  add = I.I64Add;
  sub = I.I64Sub;
  mul = I.I64Mul;
  shl = I.I64Shl;
  and = I.I64And;
  or = I.I64Or;
  xor = I.I64Xor;
  eq = I.I64Eq;
  ne = I.I64Ne;
  eqz = I.I64Eqz;
  gt_u = I.I64GtU;
  lt_u = I.I64LtU;
  uconst = λ n. I.I64Const n;
  iconst = λ n. I.I64Const (cast_unsigned w64 n);
  load = λ at. I.I64Load at;
  store = λ at. I.I64Store at;
}

-- the instructions of each width
abbrev pub pointer_code : (memory64 : Bool) → PointerCode
pointer_code true = code_64
pointer_code false = code_32

-- What they do: numbers modulo 2 to the power of the width's bits, comparisons unsigned, constants by their values, and loads and
-- stores of whole pointers.
pub record IsPointerCode (memory64 : Bool) (code : PointerCode) : Type 0 where
  pub adds : ComputesPointer memory64 (iadd (address_bits memory64)) code.add
  pub subtracts : ComputesPointer memory64 (isub (address_bits memory64)) code.sub
  pub multiplies : ComputesPointer memory64 (imul (address_bits memory64)) code.mul
  pub shifts : ComputesPointer memory64 (ishl (address_bits memory64)) code.shl
  pub ands : ComputesPointer memory64 bit_and code.and
  pub ors : ComputesPointer memory64 bit_or code.or
  pub xors : ComputesPointer memory64 bit_xor code.xor
  pub is_equal : TestsPointers memory64 ieq code.eq
  pub is_unequal : TestsPointers memory64 ine code.ne
  pub is_zero : TestsPointer memory64 ieqz code.eqz
  pub is_above : TestsPointers memory64 igt_u code.gt_u
  pub is_below : TestsPointers memory64 ilt_u code.lt_u
  pub unsigned : (n : ℕ) → PushesPointer memory64 n (code.uconst n)
  pub signed : (n : ℤ) → FitsSigned w32 n → PushesPointer memory64 (integer_modulo (address_bits memory64) n) (code.iconst n)
  pub loads : (at : MemArg) → LoadsPointer memory64 at (code.load at)
  pub stores : (at : MemArg) → StoresPointer memory64 at (code.store at)
  pub gives_stored : (at : MemArg) → LoadGivesStored memory64 at (code.store at) (code.load at)

-- the type of a pointer, and how many bytes it has
pub record IsPointerType (memory64 : Bool) (type : ValType) (size : ℕ) : Type 0 where
  pub has_type : type ≡ address_type memory64
  pub has_size : size ≡ pointer_bytes (width memory64)
