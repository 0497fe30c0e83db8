-- Cited by private clauses alone.
-- The configuration that a running machine stands for, and what its functions do to it. The public clauses cite `Machine` and
-- `World`.
use Rattle.std.specs.Prelude.{◌≡◌, ◌≢◌, ℕ, Bool, true, false, bit_and, bit_or, bit_xor, slice_get, List, [], ◌∷◌, ◌++◌, length, map, reverse, Option, Some, None}
use Rattle.fact_wasm.specs.declared.types.ValType.{ValType}
use Rattle.fact_wasm.specs.declared.types.FuncType.{FuncType}
use Rattle.fact_wasm.specs.declared.instr.BlockType.{BlockType}
use Rattle.fact_wasm.specs.declared.instr.MemArg.{MemArg}
use Rattle.fact_wasm.specs.declared.instr.Instr.{Instr}
use Rattle.fact_wasm.specs.declared.instr.Instr.TheOpen as instr
use Rattle.fact_wasm.specs.declared.instr.Instr.TheOpen.{Instr-F}
use Rattle.fact_wasm.specs.declared.module.WasmFunc.{WasmFunc}
use Rattle.fact_wasm.specs.declared.module.WasmModule.{WasmModule}
use Rattle.fact_machine.specs.declared.types.CoreValue.{CoreValue}
use Rattle.fact_machine.specs.declared.types.CoreValue.TheVariants.{I32, I64, F32, F64}
use Rattle.fact_machine.specs.declared.types.Answer.{Answer}
use Rattle.fact_machine.specs.declared.types.Answer.TheVariants.{Returns, Traps, Throws}
use Rattle.fact_machine.specs.declared.types.End.{End}
use Rattle.fact_machine.specs.declared.types.End.TheVariants.{Trapped}
use Rattle.fact_interpreter.specs.declared.running.Entry.{Entry}
use Rattle.fact_interpreter.specs.declared.running.Entry.TheVariants as entry
use Rattle.fact_interpreter.specs.declared.running.Running.{Running}
use Rattle.fact_interpreter.specs.declared.settle.Settled.{Settled}
use Rattle.fact_interpreter.specs.declared.settle.Settled.TheVariants as settled
use Rattle.fact_interpreter.specs.declared.numeric.Binary.{Binary}
use Rattle.fact_interpreter.specs.declared.numeric.Binary.TheVariants as binary
use Rattle.fact_interpreter.specs.declared.numeric.UnaryI32.{UnaryI32}
use Rattle.fact_interpreter.specs.declared.numeric.UnaryI32.TheVariants as unary32
use Rattle.fact_interpreter.specs.declared.numeric.UnaryI64.{UnaryI64}
use Rattle.fact_interpreter.specs.declared.numeric.UnaryI64.TheVariants as unary64
use Rattle.fact_interpreter.specs.declared.begin.Operation.{Operation}
use Rattle.fact_interpreter.specs.declared.begin.Operation.TheVariants as operation
use Rattle.fact_interpreter.specs.declared.memory.LoadKind.{LoadKind}
use Rattle.fact_interpreter.specs.declared.memory.LoadKind.TheVariants as load_kind
use Rattle.fact_interpreter.specs.declared.memory.StoreKind.{StoreKind}
use Rattle.fact_interpreter.specs.declared.memory.StoreKind.TheVariants as store_kind
use Rattle.fact_machine.specs.Operands.{binary_i32, binary_i64, unary_i32, unary_i64}
use Rattle.fact_machine.specs.World.{World, read, write}
use Rattle.fact_machine.specs.Numerics.{iadd, isub, imul, ishl, ishr_u, ieqz, ieq, ine, ilt_u, igt_u, ige_u, wrap_32, extend_s}
use Rattle.fact_machine.specs.Machine.{Around, Bottom, Label, Frame, Config, At, Did, Goes, Ends, Next, Breaks, next, or_stuck, check, grab, have_types, set_local, branch, throw, call_outside, call_inside, call_import, some_of, locals_of, enter, with_address, on_res, load, store, i32_of, i64_of, f32_of, f64_of, act}

-- an entry on what stands around it
abbrev pub put : Entry → Around → Around
put (entry.Label arity below to rest catches) k = Label arity below to.now rest.now catches.now k
put (entry.Frame results locals below rest) k = Frame results.now locals below rest.now k

-- the entries, of which the last is innermost, on what stands around them
abbrev pub around_of : List Entry → Around → Around
around_of [] k = k
around_of (e ∷ es) k = around_of es (put e k)

abbrev pub world_of : Running → World
world_of r = record { state = r.state; answers = r.answers.now; trace = r.trace }

abbrev pub config_of : Running → Config
config_of r = At (world_of r) r.stack r.locals r.code.now (around_of r.around Bottom)

-- what a step led to, by the end that it answers
abbrev pub did_of : Option End → Running → Did
did_of None r = Goes (config_of r)
did_of (Some e) r = Ends e (world_of r)

-- what is left to run
abbrev pub HasLeft : Settled → Running → Type 0
HasLeft settled.Begins r = r.code.now ≢ []
HasLeft settled.Finished r = (r.code.now ≡ []) × (r.around ≡ [])
HasLeft settled.Breaks r = Unit {0}

-- what comes next for a running machine that is settled so
abbrev pub next_so : Settled → Running → Next
next_so settled.Begins r = next (config_of r)
next_so settled.Finished r = next (config_of r)
next_so settled.Breaks r = Breaks (world_of r)

-- only ends of bodies lie between the two
pub record IsSettled (how : Settled) (old new : Running) : Type 0 where
  pub same : next_so how new ≡ next (config_of old)
  pub has : HasLeft how new

-- what is done at a world, a stack and locals, with the code and what stands around it
abbrev pub Row : Type 0
Row = World → List CoreValue → List (Option CoreValue) → List Instr → Around → Did

-- a row at a running machine, whose code is what comes after the instruction
abbrev pub at : Running → Row → Did
at r plain_row = plain_row (world_of r) r.stack r.locals r.code.now (around_of r.around Bottom)

-- an instruction that looks at no part of the module
abbrev pub plain_row : Instr-F Instr → Row
plain_row i w vs ls rest k = act (record { types = []; imports = []; funcs = []; exports = [] }) i w vs ls rest k

-- a local gets a value that is off the stack
abbrev pub assign : ℕ → CoreValue → Row
assign n v w vs ls rest k = set_local w n v ls (λ l. Goes (At w vs l rest k))

abbrev pub branching : ℕ → Row
branching l w vs ls rest k = branch w l vs ls k

abbrev pub throwing : Row
throwing w vs ls rest k = throw w ls k

-- a body whose outermost label ends it
abbrev pub bodied : List Instr → ℕ → Row
bodied body n w vs ls rest k = Goes (At w vs ls body (Label n [] [] [] [] k))

-- a function's body, with its operands off the stack
abbrev pub framed : WasmFunc → List CoreValue → List ValType → Row
framed f args results w vs ls rest k =
    Goes (At w [] (map some_of args ++ locals_of f.locals) f.body (Label (length results) [] [] [] [] (Frame results ls vs rest k)))

-- a call of a function of a type
abbrev pub typed : WasmFunc → FuncType → Row
typed f t w vs ls rest k =
    or_stuck w (grab (length t.params) vs) (λ p. check w (have_types (reverse p.0) t.params) (framed f (reverse p.0) t.results w p.1 ls rest k))

abbrev pub defined : WasmModule → ℕ → Row
defined M n w vs ls rest k = call_inside M n w vs ls rest k

-- an answer that is in the trace already
abbrev pub answering : Answer → Row
answering (Returns results state) w vs ls rest k = Goes (At (record w { state = state }) (reverse results ++ vs) ls rest k)
answering Traps w vs ls rest k = Ends Trapped w
answering Throws w vs ls rest k = throw w ls k

abbrev pub asking : ℕ → List CoreValue → Row
asking f args w vs ls rest k = call_outside f args w vs ls rest k

-- a call of an imported function of a type
abbrev pub imported_typed : ℕ → FuncType → Row
imported_typed n t w vs ls rest k =
    or_stuck w (grab (length t.params) vs) (λ p. check w (have_types (reverse p.0) t.params) (call_outside n (reverse p.0) w p.1 ls rest k))

abbrev pub imported : WasmModule → ℕ → Row
imported M n w vs ls rest k = call_import M n w vs ls rest k

-- ---- the operand stack

-- the operand stack alone changes
abbrev pub operated : (List CoreValue → Option (List CoreValue)) → Row
operated f w vs ls rest k = or_stuck w (f vs) (λ us. Goes (At w us ls rest k))

abbrev pub pushing : CoreValue → Row
pushing v w vs ls rest k = Goes (At w (v ∷ vs) ls rest k)

-- what an instruction of two operands of n bits computes, where `value` makes a value of their type
abbrev pub binary_meaning : ℕ → (ℕ → CoreValue) → Binary → ℕ → ℕ → CoreValue
binary_meaning n value binary.Eq i j = I32 (ieq i j)
binary_meaning n value binary.Ne i j = I32 (ine i j)
binary_meaning n value binary.LtU i j = I32 (ilt_u i j)
binary_meaning n value binary.GtU i j = I32 (igt_u i j)
binary_meaning n value binary.GeU i j = I32 (ige_u i j)
binary_meaning n value binary.Add i j = value (iadd n i j)
binary_meaning n value binary.Sub i j = value (isub n i j)
binary_meaning n value binary.Mul i j = value (imul n i j)
binary_meaning n value binary.And i j = value (bit_and i j)
binary_meaning n value binary.Or i j = value (bit_or i j)
binary_meaning n value binary.Xor i j = value (bit_xor i j)
binary_meaning n value binary.Shl i j = value (ishl n i j)
binary_meaning n value binary.ShrU i j = value (ishr_u n i j)

abbrev pub unary_i32_meaning : UnaryI32 → ℕ → CoreValue
unary_i32_meaning unary32.Eqz i = I32 (ieqz i)
unary_i32_meaning unary32.ExtendU i = I64 i
unary_i32_meaning unary32.Reinterpret i = F32 i
unary_i32_meaning unary32.Extend8S i = I32 (extend_s 8 32 i)
unary_i32_meaning unary32.Extend16S i = I32 (extend_s 16 32 i)

abbrev pub unary_i64_meaning : UnaryI64 → ℕ → CoreValue
unary_i64_meaning unary64.Eqz i = I32 (ieqz i)
unary_i64_meaning unary64.Wrap i = I32 (wrap_32 i)
unary_i64_meaning unary64.Reinterpret i = F64 i

-- what a numeric instruction does
abbrev pub operation_row : Operation → Row
operation_row (operation.BinaryI32 op) = operated (binary_i32 (binary_meaning 32 (λ n. I32 n) op))
operation_row (operation.BinaryI64 op) = operated (binary_i64 (binary_meaning 64 (λ n. I64 n) op))
operation_row (operation.UnaryI32 op) = operated (unary_i32 (unary_i32_meaning op))
operation_row (operation.UnaryI64 op) = operated (unary_i64 (unary_i64_meaning op))
operation_row operation.I32OfF32 = plain_row instr.I32ReinterpretF32
operation_row operation.I64OfF64 = plain_row instr.I64ReinterpretF64

-- ---- blocks

-- a block whose branches take its parameters and go on at some code
abbrev pub looping : WasmModule → BlockType → List Instr → List Instr → Row
looping M bt body to w vs ls rest k = enter M.types bt w vs (λ m n top below. Goes (At w top ls body (Label m below to rest [] k)))

-- ---- memories

abbrev pub load_length : LoadKind → ℕ
load_length load_kind.I32 = 4
load_length load_kind.I64 = 8
load_length load_kind.F32 = 4
load_length load_kind.F64 = 8
load_length load_kind.I32From8S = 1
load_length load_kind.I32From8U = 1
load_length load_kind.I32From16S = 2
load_length load_kind.I32From16U = 2

abbrev pub load_value : LoadKind → ℕ → CoreValue
load_value load_kind.I32 n = I32 n
load_value load_kind.I64 n = I64 n
load_value load_kind.F32 n = F32 n
load_value load_kind.F64 n = F64 n
load_value load_kind.I32From8S n = I32 (extend_s 8 32 n)
load_value load_kind.I32From8U n = I32 n
load_value load_kind.I32From16S n = I32 (extend_s 16 32 n)
load_value load_kind.I32From16U n = I32 n

abbrev pub store_length : StoreKind → ℕ
store_length store_kind.I32 = 4
store_length store_kind.I64 = 8
store_length store_kind.F32 = 4
store_length store_kind.F64 = 8
store_length store_kind.I32To8 = 1
store_length store_kind.I32To16 = 2

abbrev pub store_number : StoreKind → CoreValue → Option ℕ
store_number store_kind.I32 v = i32_of v
store_number store_kind.I64 v = i64_of v
store_number store_kind.F32 v = f32_of v
store_number store_kind.F64 v = f64_of v
store_number store_kind.I32To8 v = i32_of v
store_number store_kind.I32To16 v = i32_of v

abbrev pub loaded : WasmModule → LoadKind → MemArg → Row
loaded M kind m w vs ls rest k = load M (load_length kind) (load_value kind) m w vs ls rest k

-- a load with its address off the stack
abbrev pub loading : LoadKind → ℕ → ℕ → Row
loading kind index address w vs ls rest k =
    or_stuck w (slice_get w.state.memories index) (λ bytes. on_res (read (load_length kind) bytes address w) ls k (λ number w'. Goes (At w' (load_value kind number ∷ vs) ls rest k)))

abbrev pub store_row : WasmModule → StoreKind → MemArg → Row
store_row M kind m w vs ls rest k = store M (store_length kind) (store_number kind) m w vs ls rest k

-- a store with its operands off the stack
abbrev pub storing : StoreKind → ℕ → ℕ → ℕ → Row
storing kind index address value w vs ls rest k =
    or_stuck w (slice_get w.state.memories index) (λ bytes. on_res (write (store_length kind) index bytes address value w) ls k (λ done w'. Goes (At w' vs ls rest k)))

-- a store with the number off the stack
abbrev pub addressed : Bool → (ℕ → Row) → Row
addressed memory64 go w vs ls rest k = with_address memory64 w vs (λ base us. go base w us ls rest k)

-- the control instructions, with the one that makes a reference to a function
abbrev pub is_control : Instr-F Instr → Bool
is_control instr.Unreachable = true
is_control (instr.Block bt body) = true
is_control (instr.Loop bt body) = true
is_control (instr.If bt body other) = true
is_control (instr.Br l) = true
is_control (instr.BrIf l) = true
is_control (instr.BrTable labels last) = true
is_control (instr.Call f) = true
is_control (instr.TryTable bt catches body) = true
is_control (instr.RefFunc f) = true
is_control _ = false

-- the loads and the stores
abbrev pub is_access : Instr-F Instr → Bool
is_access (instr.I32Load m) = true
is_access (instr.I64Load m) = true
is_access (instr.F32Load m) = true
is_access (instr.F64Load m) = true
is_access (instr.I32Load8S m) = true
is_access (instr.I32Load8U m) = true
is_access (instr.I32Load16S m) = true
is_access (instr.I32Load16U m) = true
is_access (instr.I32Store m) = true
is_access (instr.I64Store m) = true
is_access (instr.F32Store m) = true
is_access (instr.F64Store m) = true
is_access (instr.I32Store8 m) = true
is_access (instr.I32Store16 m) = true
is_access _ = false

-- the numeric instructions
abbrev pub is_numeric : Instr-F Instr → Bool
is_numeric instr.I32Eqz = true
is_numeric instr.I32Eq = true
is_numeric instr.I32Ne = true
is_numeric instr.I32LtU = true
is_numeric instr.I32GtU = true
is_numeric instr.I32GeU = true
is_numeric instr.I64Eqz = true
is_numeric instr.I64Eq = true
is_numeric instr.I64Ne = true
is_numeric instr.I64LtU = true
is_numeric instr.I64GtU = true
is_numeric instr.I64GeU = true
is_numeric instr.I32Add = true
is_numeric instr.I32Sub = true
is_numeric instr.I32Mul = true
is_numeric instr.I32And = true
is_numeric instr.I32Or = true
is_numeric instr.I32Xor = true
is_numeric instr.I32Shl = true
is_numeric instr.I32ShrU = true
is_numeric instr.I64Add = true
is_numeric instr.I64Sub = true
is_numeric instr.I64Mul = true
is_numeric instr.I64And = true
is_numeric instr.I64Or = true
is_numeric instr.I64Xor = true
is_numeric instr.I64Shl = true
is_numeric instr.I64ShrU = true
is_numeric instr.I32WrapI64 = true
is_numeric instr.I64ExtendI32U = true
is_numeric instr.I32ReinterpretF32 = true
is_numeric instr.I64ReinterpretF64 = true
is_numeric instr.F32ReinterpretI32 = true
is_numeric instr.F64ReinterpretI64 = true
is_numeric instr.I32Extend8S = true
is_numeric instr.I32Extend16S = true
is_numeric _ = false
