-- The machine: what one instruction does, and runs of it (core specification, "Execution").
use Rattle.std.specs.Prelude.{ℕ, zero, suc, ◌+◌, ◌/◌, ◌^◌, Bool, true, false, ◌&&◌, nat_lt, if◌then◌else◌, List, [], ◌∷◌, ◌++◌, length, map, reverse, Option, Some, None, slice_get, slice_set}
use Rattle.fact_wasm.specs.declared.types.ValType.{ValType}
use Rattle.fact_wasm.specs.declared.types.ValType.TheVariants as val
use Rattle.fact_wasm.specs.declared.types.FuncType.{FuncType}
use Rattle.fact_wasm.specs.declared.instr.FuncName.{FuncName}
use Rattle.fact_wasm.specs.declared.instr.FuncName.TheVariants.{Import, Defined}
use Rattle.fact_wasm.specs.declared.instr.BlockType.{BlockType}
use Rattle.fact_wasm.specs.declared.instr.BlockType.TheVariants.{Empty, Result, FunctionType}
use Rattle.fact_wasm.specs.declared.instr.MemArg.{MemArg}
use Rattle.fact_wasm.specs.declared.instr.Instr.{Instr, out-Instr}
use Rattle.fact_wasm.specs.declared.instr.Instr.TheVariants as whole
use Rattle.fact_wasm.specs.declared.instr.Instr.TheOpen as instr
use Rattle.fact_wasm.specs.declared.instr.Instr.TheOpen.{Instr-F}
use Rattle.fact_wasm.specs.declared.module.ImportType.TheVariants as import
use Rattle.fact_wasm.specs.declared.module.WasmImport.{WasmImport}
use Rattle.fact_wasm.specs.declared.module.WasmFunc.{WasmFunc}
use Rattle.fact_wasm.specs.declared.module.WasmModule.{WasmModule}
use Rattle.fact_machine.specs.declared.types.CoreValue.{CoreValue}
use Rattle.fact_machine.specs.declared.types.CoreValue.TheVariants.{I32, I64, F32, F64, Func}
use Rattle.fact_machine.specs.declared.types.MachineState.{MachineState}
use Rattle.fact_machine.specs.declared.types.Answer.{Answer}
use Rattle.fact_machine.specs.declared.types.End.{End}
use Rattle.fact_machine.specs.declared.types.End.TheVariants.{Returned, Trapped, Thrown, Lacks, Going, Stuck}
use Rattle.fact_machine.specs.declared.types.Outcome.{Outcome}
use Rattle.fact_machine.specs.World.{World, log_of, Res, Done, Halt, Stop, Trap, Throw, Lack, outside, set_global, read, write}
use Rattle.fact_machine.specs.Numerics.{extend_s}
use Rattle.fact_machine.specs.Operands.{operate}

-- What stands around the code that runs. The operand stack has its top first; what stands around keeps the stack below
-- it.
pub data Around : Type 0 where
  Bottom : Around
  -- a label: how many values a branch to it takes, where a branch and where its end goes on, and the labels, counted from
  -- outside it, that its catch_all clauses branch to
  Label : (arity : ℕ) (below : List CoreValue) (to rest : List Instr) (catches : List ℕ) (k : Around) → Around
  -- a call: the types of its results, and the caller's locals, stack and rest
  Frame : (results : List ValType) (locals : List (Option CoreValue)) (below : List CoreValue) (rest : List Instr) (k : Around) → Around

-- The code that runs, in its frame. A local of a reference type has no value until it is set.
pub data Config : Type 0 where
  At : (w : World) (stack : List CoreValue) (locals : List (Option CoreValue)) (code : List Instr) (k : Around) → Config

-- what a step leads to
pub data Did : Type 0 where
  Goes : Config → Did
  Ends : End → World → Did

abbrev pub outcome : End → World → Outcome
outcome e w = record { end = e; state = w.state; log = log_of w }

-- whether a value has a type
abbrev pub has_type : CoreValue → ValType → Bool
has_type (I32 n) val.I32 = true
has_type (I64 n) val.I64 = true
has_type (F32 n) val.F32 = true
has_type (F64 n) val.F64 = true
has_type (Func f) val.FuncRef = true
has_type _ _ = false

abbrev pub have_types : List CoreValue → List ValType → Bool
have_types [] [] = true
have_types (v ∷ vs) (t ∷ ts) = has_type v t && have_types vs ts
have_types [] (t ∷ ts) = false
have_types (v ∷ vs) [] = false

-- the type of a value
abbrev pub type_of : CoreValue → ValType
type_of (I32 n) = val.I32
type_of (I64 n) = val.I64
type_of (F32 n) = val.F32
type_of (F64 n) = val.F64
type_of (Func f) = val.FuncRef

-- what a declared local holds at first
abbrev pub zero_of : ValType → Option CoreValue
zero_of val.I32 = Some (I32 0)
zero_of val.I64 = Some (I64 0)
zero_of val.F32 = Some (F32 0)
zero_of val.F64 = Some (F64 0)
zero_of val.FuncRef = None

-- the number in a value of a type
abbrev pub i32_of : CoreValue → Option ℕ
i32_of (I32 n) = Some n
i32_of _ = None

abbrev pub i64_of : CoreValue → Option ℕ
i64_of (I64 n) = Some n
i64_of _ = None

abbrev pub f32_of : CoreValue → Option ℕ
f32_of (F32 n) = Some n
f32_of _ = None

abbrev pub f64_of : CoreValue → Option ℕ
f64_of (F64 n) = Some n
f64_of _ = None

abbrev pub some_of : CoreValue → Option CoreValue
some_of v = Some v

-- goes on with what an option holds, and else is stuck
abbrev pub or_stuck : {A : Type 0} → World → Option A → (A → Did) → Did
or_stuck w None go = Ends Stuck w
or_stuck w (Some a) go = go a

abbrev pub check : World → Bool → Did → Did
check w true d = d
check w false d = Ends Stuck w

abbrev pub onto : CoreValue → Option (List CoreValue × List CoreValue) → Option (List CoreValue × List CoreValue)
onto v None = None
onto v (Some p) = Some (v ∷ p.0, p.1)

-- the n topmost values and the rest
abbrev pub grab : ℕ → List CoreValue → Option (List CoreValue × List CoreValue)
grab zero vs = Some ([], vs)
grab (suc n) [] = None
grab (suc n) (v ∷ vs) = onto v (grab n vs)

-- whether a new value of a local may follow what it held: a local that holds nothing is of a reference type
abbrev pub may_follow : Option CoreValue → CoreValue → Bool
may_follow None v = has_type v val.FuncRef
may_follow (Some u) v = has_type v (type_of u)

-- numbers of parameters and results of a block
abbrev pub block_arity : List FuncType → BlockType → Option (ℕ × ℕ)
block_arity types Empty = Some (0, 0)
block_arity types (Result t) = Some (0, 1)
block_arity types (FunctionType n) = elim (slice_get types n) [ None ↦ None | Some t ↦ Some (length t.params, length t.results) ]

-- the type index of the nth imported function
abbrev pub func_import : List WasmImport → ℕ → Option ℕ
func_import [] n = None
func_import (i ∷ is) n = elim i.ty [ import.Func t ↦ elim n [ zero ↦ Some t | suc m ↦ func_import is m ] | import.Memory a b c ↦ func_import is n | import.Global a b ↦ func_import is n ]

-- the nth imported memory: whether its addresses have 64 bits, and the exponent of its page size where that is a custom one
abbrev pub memory_import : List WasmImport → ℕ → Option (Bool × Option ℕ)
memory_import [] n = None
memory_import (i ∷ is) n = elim i.ty [ import.Func t ↦ memory_import is n | import.Memory minimum memory64 log2 ↦ elim n [ zero ↦ Some (memory64, log2) | suc m ↦ memory_import is m ] | import.Global a b ↦ memory_import is n ]

-- a branch to a label
abbrev pub branch : World → ℕ → List CoreValue → List (Option CoreValue) → Around → Did
branch w l vs locals Bottom = Ends Stuck w
branch w l vs locals (Frame ts f below rest k) = Ends Stuck w
branch w zero vs locals (Label a below to rest catches k) = or_stuck w (grab a vs) (λ p. Goes (At w (p.0 ++ below) locals to k))
branch w (suc l) vs locals (Label a below to rest catches k) = branch w l vs locals k

-- a throw: it leaves frames and labels up to the first that catches, and goes on as a branch from outside that one
abbrev pub throw : World → List (Option CoreValue) → Around → Did
throw w locals Bottom = Ends Thrown w
throw w locals (Frame ts f below rest k) = throw w f k
throw w locals (Label a below to rest [] k) = throw w locals k
throw w locals (Label a below to rest (l ∷ ls) k) = branch w l [] locals k

-- where a primitive leads
abbrev pub stop_at : Stop → World → List (Option CoreValue) → Around → Did
stop_at Trap w locals k = Ends Trapped w
stop_at Throw w locals k = throw w locals k
stop_at Lack w locals k = Ends Lacks w

abbrev pub on_res : {A : Type 0} → Res A → List (Option CoreValue) → Around → (A → World → Did) → Did
on_res (Done a w) locals k go = go a w
on_res (Halt s w) locals k go = stop_at s w locals k

abbrev pub call_outside : ℕ → List CoreValue → World → List CoreValue → List (Option CoreValue) → List Instr → Around → Did
call_outside f args w vs locals rest k = on_res (outside f args w) locals k (λ results w'. Goes (At w' (reverse results ++ vs) locals rest k))

abbrev pub several : ℕ → Option CoreValue → List (Option CoreValue) → List (Option CoreValue)
several zero v t = t
several (suc n) v t = v ∷ several n v t

-- the declared locals at the start
abbrev pub locals_of : List (ℕ × ValType) → List (Option CoreValue)
locals_of [] = []
locals_of (p ∷ ps) = several p.0 (zero_of p.1) [] ++ locals_of ps

-- a call of the nth function of the module
abbrev pub call_inside : WasmModule → ℕ → World → List CoreValue → List (Option CoreValue) → List Instr → Around → Did
call_inside M n w vs locals rest k =
    or_stuck w (slice_get M.funcs n) (λ f.
    or_stuck w (slice_get M.types f.ty) (λ t.
    or_stuck w (grab (length t.params) vs) (λ p.
    check w (have_types (reverse p.0) t.params) (
    Goes (At w [] (map some_of (reverse p.0) ++ locals_of f.locals) f.body (Label (length t.results) [] [] [] [] (Frame t.results locals p.1 rest k)))))))

abbrev pub call_import : WasmModule → ℕ → World → List CoreValue → List (Option CoreValue) → List Instr → Around → Did
call_import M n w vs locals rest k =
    or_stuck w (func_import M.imports n) (λ ty.
    or_stuck w (slice_get M.types ty) (λ t.
    or_stuck w (grab (length t.params) vs) (λ p.
    check w (have_types (reverse p.0) t.params) (
    call_outside n (reverse p.0) w p.1 locals rest k))))

abbrev pub call : WasmModule → FuncName → World → List CoreValue → List (Option CoreValue) → List Instr → Around → Did
call M (Import n) w vs locals rest k = call_import M n w vs locals rest k
call M (Defined n) w vs locals rest k = call_inside M n w vs locals rest k

-- into a block
abbrev pub enter : List FuncType → BlockType → World → List CoreValue → (ℕ → ℕ → List CoreValue → List CoreValue → Did) → Did
enter types bt w vs go = or_stuck w (block_arity types bt) (λ a. or_stuck w (grab a.0 vs) (λ p. go a.0 a.1 p.0 p.1))

abbrev pub with_top : World → List CoreValue → (CoreValue → List CoreValue → Did) → Did
with_top w [] go = Ends Stuck w
with_top w (v ∷ vs) go = go v vs

abbrev pub with_i32 : World → List CoreValue → (ℕ → List CoreValue → Did) → Did
with_i32 w [] go = Ends Stuck w
with_i32 w (I32 n ∷ vs) go = go n vs
with_i32 w (I64 n ∷ vs) go = Ends Stuck w
with_i32 w (F32 n ∷ vs) go = Ends Stuck w
with_i32 w (F64 n ∷ vs) go = Ends Stuck w
with_i32 w (Func n ∷ vs) go = Ends Stuck w

abbrev pub with_i64 : World → List CoreValue → (ℕ → List CoreValue → Did) → Did
with_i64 w [] go = Ends Stuck w
with_i64 w (I32 n ∷ vs) go = Ends Stuck w
with_i64 w (I64 n ∷ vs) go = go n vs
with_i64 w (F32 n ∷ vs) go = Ends Stuck w
with_i64 w (F64 n ∷ vs) go = Ends Stuck w
with_i64 w (Func n ∷ vs) go = Ends Stuck w

abbrev pub when : ℕ → Did → Did → Did
when zero on off = off
when (suc n) on off = on

abbrev pub set_local : World → ℕ → CoreValue → List (Option CoreValue) → (List (Option CoreValue) → Did) → Did
set_local w i v locals go = or_stuck w (slice_get locals i) (λ old. check w (may_follow old v) (go (slice_set locals i (Some v))))

-- ---- blocks and references ("Instructions", "Control Instructions" and "Reference Instructions")

-- a block: a branch to its label ends it
abbrev pub block : WasmModule → BlockType → List Instr → World → List CoreValue → List (Option CoreValue) → List Instr → Around → Did
block M bt body w vs locals rest k = enter M.types bt w vs (λ m n top below. Goes (At w top locals body (Label n below rest rest [] k)))

-- a loop: a branch to its label takes its parameters and begins it again
abbrev pub loop : WasmModule → BlockType → List Instr → World → List CoreValue → List (Option CoreValue) → List Instr → Around → Did
loop M bt body w vs locals rest k = enter M.types bt w vs (λ m n top below. Goes (At w top locals body (Label m below (whole.Loop bt body ∷ rest) rest [] k)))

-- a block that catches: each catch_all clause has a label, counted from outside the block
abbrev pub try_table : WasmModule → BlockType → List ℕ → List Instr → World → List CoreValue → List (Option CoreValue) → List Instr → Around → Did
try_table M bt catches body w vs locals rest k = enter M.types bt w vs (λ m n top below. Goes (At w top locals body (Label n below rest rest catches k)))

-- the code where the condition is 0
abbrev pub or_empty : Option (List Instr) → List Instr
or_empty None = []
or_empty (Some code) = code

-- the label at a place of a table, and past its end the last one
abbrev pub label_at : List ℕ → ℕ → ℕ → ℕ
label_at labels last i = elim (slice_get labels i) [ None ↦ last | Some l ↦ l ]

-- a reference to a function that is there
abbrev pub ref_func : WasmModule → FuncName → World → List CoreValue → List (Option CoreValue) → List Instr → Around → Did
ref_func M (Import n) w vs locals rest k = or_stuck w (func_import M.imports n) (λ ty. Goes (At w (Func (Import n) ∷ vs) locals rest k))
ref_func M (Defined n) w vs locals rest k = or_stuck w (slice_get M.funcs n) (λ f. Goes (At w (Func (Defined n) ∷ vs) locals rest k))

-- ---- memories ("Instructions", "Memory Instructions")

-- an address: an i64 for a memory of 64-bit addresses, an i32 for any other
abbrev pub with_address : Bool → World → List CoreValue → (ℕ → List CoreValue → Did) → Did
with_address true w vs go = with_i64 w vs go
with_address false w vs go = with_i32 w vs go

-- A load of n bytes, lowest first, which make a value. The effective address is the operand plus the offset, and it does not
-- wrap. Any alignment serves. Without a memory of that index in the module and in the state no rule applies.
abbrev pub load : WasmModule → ℕ → (ℕ → CoreValue) → MemArg → World → List CoreValue → List (Option CoreValue) → List Instr → Around → Did
load M n value m w vs locals rest k =
    or_stuck w (memory_import M.imports m.memory_index) (λ t.
    with_address t.0 w vs (λ base vs'.
    or_stuck w (slice_get w.state.memories m.memory_index) (λ bytes.
    on_res (read n bytes (base + m.offset) w) locals k (λ number w'. Goes (At w' (value number ∷ vs') locals rest k)))))

-- A store of the n lowest bytes of the number on top of the stack, which has to be of the right type.
abbrev pub store : WasmModule → ℕ → (CoreValue → Option ℕ) → MemArg → World → List CoreValue → List (Option CoreValue) → List Instr → Around → Did
store M n number m w vs locals rest k =
    with_top w vs (λ v vs'.
    or_stuck w (number v) (λ value.
    or_stuck w (memory_import M.imports m.memory_index) (λ t.
    with_address t.0 w vs' (λ base vs''.
    or_stuck w (slice_get w.state.memories m.memory_index) (λ bytes.
    on_res (write n m.memory_index bytes (base + m.offset) value w) locals k (λ done w'. Goes (At w' vs'' locals rest k)))))))

-- the bytes of a page
abbrev pub page_bytes : Option ℕ → ℕ
page_bytes None = 65536
page_bytes (Some log2) = 2 ^ log2

-- a number of pages as a value of the type of a memory's addresses
abbrev pub size_value : Bool → ℕ → Option CoreValue
size_value true n = if nat_lt n (2 ^ 64) then Some (I64 n) else None
size_value false n = if nat_lt n (2 ^ 32) then Some (I32 n) else None

-- the size of a memory, in pages of its own size
abbrev pub memory_size : WasmModule → ℕ → World → List CoreValue → List (Option CoreValue) → List Instr → Around → Did
memory_size M n w vs locals rest k =
    or_stuck w (memory_import M.imports n) (λ t.
    or_stuck w (slice_get w.state.memories n) (λ bytes.
    or_stuck w (size_value t.0 (length bytes / page_bytes t.1)) (λ v. Goes (At w (v ∷ vs) locals rest k))))

-- ---- the table of instructions

-- The meaning of an instruction, with what comes after it. The rows that are left out change the operand stack alone. A
-- global is looked up in the state alone, neither among the module's imports nor for leave to change it: a typed state has
-- one global for each import of one, and a valid module sets none but those that may change.
abbrev pub act : WasmModule → Instr-F Instr → World → List CoreValue → List (Option CoreValue) → List Instr → Around → Did
act M instr.Unreachable w vs locals rest k = Ends Trapped w
act M (instr.Block bt body) w vs locals rest k = block M bt body w vs locals rest k
act M (instr.Loop bt body) w vs locals rest k = loop M bt body w vs locals rest k
act M (instr.If bt body other) w vs locals rest k = with_i32 w vs (λ c vs'. when c (block M bt body w vs' locals rest k) (block M bt (or_empty other) w vs' locals rest k))
act M (instr.TryTable bt catches body) w vs locals rest k = try_table M bt catches body w vs locals rest k
act M (instr.Br l) w vs locals rest k = branch w l vs locals k
act M (instr.BrIf l) w vs locals rest k = with_i32 w vs (λ c vs'. when c (branch w l vs' locals k) (Goes (At w vs' locals rest k)))
act M (instr.BrTable labels last) w vs locals rest k = with_i32 w vs (λ i vs'. branch w (label_at labels last i) vs' locals k)
act M (instr.Call f) w vs locals rest k = call M f w vs locals rest k
act M (instr.RefFunc f) w vs locals rest k = ref_func M f w vs locals rest k
act M (instr.LocalGet n) w vs locals rest k = or_stuck w (slice_get locals n) (λ o. or_stuck w o (λ v. Goes (At w (v ∷ vs) locals rest k)))
act M (instr.LocalSet n) w vs locals rest k = with_top w vs (λ v vs'. set_local w n v locals (λ ls. Goes (At w vs' ls rest k)))
act M (instr.LocalTee n) w vs locals rest k = with_top w vs (λ v vs'. set_local w n v locals (λ ls. Goes (At w vs ls rest k)))
act M (instr.GlobalGet n) w vs locals rest k = or_stuck w (slice_get w.state.globals n) (λ v. Goes (At w (v ∷ vs) locals rest k))
act M (instr.GlobalSet n) w vs locals rest k =
    with_top w vs (λ v vs'. or_stuck w (slice_get w.state.globals n) (λ old. check w (has_type v (type_of old))
    (Goes (At (set_global n v w) vs' locals rest k))))
act M (instr.I32Load m) w vs locals rest k = load M 4 (λ n. I32 n) m w vs locals rest k
act M (instr.I64Load m) w vs locals rest k = load M 8 (λ n. I64 n) m w vs locals rest k
act M (instr.F32Load m) w vs locals rest k = load M 4 (λ n. F32 n) m w vs locals rest k
act M (instr.F64Load m) w vs locals rest k = load M 8 (λ n. F64 n) m w vs locals rest k
act M (instr.I32Load8S m) w vs locals rest k = load M 1 (λ n. I32 (extend_s 8 32 n)) m w vs locals rest k
act M (instr.I32Load8U m) w vs locals rest k = load M 1 (λ n. I32 n) m w vs locals rest k
act M (instr.I32Load16S m) w vs locals rest k = load M 2 (λ n. I32 (extend_s 16 32 n)) m w vs locals rest k
act M (instr.I32Load16U m) w vs locals rest k = load M 2 (λ n. I32 n) m w vs locals rest k
act M (instr.I32Store m) w vs locals rest k = store M 4 i32_of m w vs locals rest k
act M (instr.I64Store m) w vs locals rest k = store M 8 i64_of m w vs locals rest k
act M (instr.F32Store m) w vs locals rest k = store M 4 f32_of m w vs locals rest k
act M (instr.F64Store m) w vs locals rest k = store M 8 f64_of m w vs locals rest k
act M (instr.I32Store8 m) w vs locals rest k = store M 1 i32_of m w vs locals rest k
act M (instr.I32Store16 m) w vs locals rest k = store M 2 i32_of m w vs locals rest k
act M (instr.MemorySize n) w vs locals rest k = memory_size M n w vs locals rest k
act M i w vs locals rest k = or_stuck w (operate i vs) (λ us. Goes (At w us locals rest k))

-- The instruction that is begun next, or the end: the end of a body is silent. The body of a call ends in values of the types
-- of its results, as many and in their order; at any others the run breaks.
pub data Next : Type 0 where
  Begins : (w : World) (stack : List CoreValue) (locals : List (Option CoreValue)) (i : Instr) (rest : List Instr) (k : Around) → Next
  Finished : (w : World) (stack : List CoreValue) → Next
  Breaks : (w : World) → Next

-- what comes next behind a call, where its body ends in its results
abbrev pub leaving : Bool → World → Next → Next
leaving true w x = x
leaving false w x = Breaks w

abbrev pub next_in : World → List CoreValue → List (Option CoreValue) → List Instr → Around → Next
next_in w vs locals (i ∷ rest) k = Begins w vs locals i rest k
next_in w vs locals [] Bottom = Finished w vs
next_in w vs locals [] (Label a below to rest catches k) = next_in w (vs ++ below) locals rest k
next_in w vs locals [] (Frame ts f below rest k) = leaving (have_types (reverse vs) ts) w (next_in w (vs ++ below) f rest k)

abbrev pub next : Config → Next
next (At w vs locals code k) = next_in w vs locals code k

abbrev pub begin : WasmModule → Next → Did
begin M (Begins w vs locals i rest k) = act M (out-Instr i) w vs locals rest k
begin M (Finished w vs) = Ends (Returned (reverse vs)) w
begin M (Breaks w) = Ends Stuck w

-- with no step left
abbrev pub at_rest : Next → Outcome
at_rest (Begins w vs locals i rest k) = outcome Going w
at_rest (Finished w vs) = outcome (Returned (reverse vs)) w
at_rest (Breaks w) = outcome Stuck w

abbrev pub after : (Config → Outcome) → Did → Outcome
after go (Goes c) = go c
after go (Ends e w) = outcome e w

-- The outcome of at most n steps. Beginning an instruction is one step; the end of a body is none.
abbrev pub exec : WasmModule → ℕ → Config → Outcome
exec M zero c = at_rest (next c)
exec M (suc n) c = after (exec M n) (begin M (next c))

abbrev pub takes_type : List CoreValue → Option FuncType → Bool
takes_type args None = false
takes_type args (Some t) = have_types args t.params

abbrev pub takes_func : WasmModule → List CoreValue → Option WasmFunc → Bool
takes_func M args None = false
takes_func M args (Some f) = takes_type args (slice_get M.types f.ty)

-- whether the nth function that the module defines is there, and takes these arguments
abbrev pub takes : WasmModule → ℕ → List CoreValue → Bool
takes M f args = takes_func M args (slice_get M.funcs f)

-- A run of the nth function that the module defines.
abbrev pub start : WasmModule → ℕ → List CoreValue → MachineState → List Answer → Did
start M f args state answers =
    let w : World = record { state = state; answers = answers; trace = [] } in
    check w (takes M f args) (call_inside M f w (reverse args) [] [] Bottom)

abbrev pub run_of : WasmModule → ℕ → List CoreValue → MachineState → List Answer → ℕ → Outcome
run_of M f args state answers n = after (exec M n) (start M f args state answers)
