-- What a row of the instruction table does is chosen by the state alone, without the answers and the trace.
use Rattle.std.proofs.Common.{◌≡◌, ℕ, zero, suc, List, [], ◌∷◌, ◌++◌, Option, Some, None, Bool, true, false, length, reverse, refl}
use Rattle.std.proofs.lemmas.Bool.{leb-true}
use Rattle.std.specs.Prelude.{◌+◌, ◌≤◌, ◌/◌, nat_le, if◌then◌else◌, slice_get}
use Rattle.fact_wasm.specs.declared.types.FuncType.{FuncType}
use Rattle.fact_wasm.specs.declared.instr.BlockType.{BlockType}
use Rattle.fact_wasm.specs.declared.instr.FuncName.{FuncName}
use Rattle.fact_wasm.specs.declared.instr.FuncName.TheVariants.{Import, Defined}
use Rattle.fact_wasm.specs.declared.instr.Instr.{Instr}
use Rattle.fact_wasm.specs.declared.instr.MemArg.{MemArg}
use Rattle.fact_wasm.specs.declared.instr.Instr.TheOpen as instr
use Rattle.fact_wasm.specs.declared.instr.Instr.TheOpen.{Instr-F}
use Rattle.fact_wasm.specs.declared.module.WasmModule.{WasmModule}
use Rattle.fact_machine.specs.declared.types.CoreValue.{CoreValue}
use Rattle.fact_machine.specs.declared.types.CoreValue.TheVariants.{I32, I64, F32, F64, Func}
use Rattle.fact_machine.specs.declared.types.MachineState.{MachineState}
use Rattle.fact_machine.specs.declared.types.Answer.{Answer}
use Rattle.fact_machine.specs.declared.types.TraceEntry.{TraceEntry}
use Rattle.fact_machine.specs.declared.types.End.{End}
use Rattle.fact_machine.specs.declared.types.End.TheVariants.{Trapped, Thrown, Lacks, Going, Stuck}
use Rattle.fact_machine.specs.World.{World, Done, Halt, Trap, set_global, written}
use Rattle.fact_machine.specs.Operands.{operate}
use Rattle.fact_machine.specs.Machine.{Around, Bottom, Label, Frame, At, Did, Goes, Ends, or_stuck, check, grab, has_type, have_types, type_of, block_arity, func_import, branch, throw, call_outside, call_inside, call_import, memory_import, enter, with_top, with_i32, with_i64, with_address, when, set_local, on_res, block, or_empty, label_at, ref_func, i32_of, i64_of, f32_of, f64_of, load, store, page_bytes, size_value, act, takes}

-- an end that comes from neither the answers nor the steps
abbrev pub IsPlain : End → Type 0
IsPlain Lacks = ⊥
IsPlain Going = ⊥
IsPlain _ = Unit {0}

-- what needs no more than the frames: to go on elsewhere, or to end
pub data Leap : Type 0 where
  To : (vs : List CoreValue) (ls : List (Option CoreValue)) (code : List Instr) (k : Around) → Leap
  Stops : (e : End) → IsPlain e → Leap

abbrev pub leaps : Leap → World → Did
leaps (To vs ls code k) w = Goes (At w vs ls code k)
leaps (Stops e h) w = Ends e w

pub data Plan : Type 0 where
  Leaps : Leap → Plan
  Sets : (n : ℕ) (v : CoreValue) (vs : List CoreValue) (ls : List (Option CoreValue)) (code : List Instr) (k : Around) → Plan
  Writes : (n index : ℕ) (memory : List ℕ) (address value : ℕ) (vs : List CoreValue) (ls : List (Option CoreValue)) (code : List Instr) (k : Around) → Plan
  Asks : (f : ℕ) (args : List CoreValue) (vs : List CoreValue) (ls : List (Option CoreValue)) (code : List Instr) (k : Around) → Plan

abbrev pub does : Plan → World → Did
does (Leaps l) w = leaps l w
does (Sets n v vs ls code k) w = Goes (At (set_global n v w) vs ls code k)
does (Writes n index memory address value vs ls code k) w = Goes (At (written n index memory address value w) vs ls code k)
does (Asks f args vs ls code k) w = call_outside f args w vs ls code k

abbrev pub world : MachineState → List Answer → List TraceEntry → World
world s a t = record { state = s; answers = a; trace = t }

-- a memory that is written is there, and has room for what is written
abbrev pub IsThere : MachineState → Plan → Type 0
IsThere s (Writes n index memory address value vs ls code k) = (slice_get s.memories index ≡ Some memory) × (address + n ≤ length memory)
IsThere s (Leaps l) = Unit {0}
IsThere s (Sets n v vs ls code k) = Unit {0}
IsThere s (Asks f args vs ls code k) = Unit {0}

-- one plan serves all answers and traces
pub record Planned (s : MachineState) (go : List Answer → List TraceEntry → Did) : Type 0 where
  pub plan : Plan
  pub there : IsThere s plan
  pub is : (a : List Answer) (t : List TraceEntry) → go a t ≡ does plan (world s a t)

-- ---- branches and throws

pub record Leaping (go : World → Did) : Type 0 where
  pub leap : Leap
  pub is : (w : World) → go w ≡ leaps leap w

ends : (e : End) → IsPlain e → Leaping (λ w. Ends e w)
ends e h = record { leap = Stops e h; is = λ w. refl }

or_leaping : {A : Type 0} → (o : Option A) (go : A → World → Did) → ((x : A) → Leaping (go x)) → Leaping (λ w. or_stuck w o (λ x. go x w))
or_leaping None go h = ends Stuck tt
or_leaping (Some x) go h = h x

pub branch_leaping : (l : ℕ) (vs : List CoreValue) (ls : List (Option CoreValue)) (k : Around) → Leaping (λ w. branch w l vs ls k)
branch_leaping l vs ls Bottom = ends Stuck tt
branch_leaping l vs ls (Frame ts f below rest k) = ends Stuck tt
branch_leaping zero vs ls (Label a below to rest cs k) =
    or_leaping (grab a vs) (λ p w. Goes (At w (p.0 ++ below) ls to k)) (λ p. record { leap = To (p.0 ++ below) ls to k; is = λ w. refl })
branch_leaping (suc l) vs ls (Label a below to rest cs k) = branch_leaping l vs ls k

pub throw_leaping : (ls : List (Option CoreValue)) (k : Around) → Leaping (λ w. throw w ls k)
throw_leaping ls Bottom = ends Thrown tt
throw_leaping ls (Frame ts f below rest k) = throw_leaping f k
throw_leaping ls (Label a below to rest [] k) = throw_leaping ls k
throw_leaping ls (Label a below to rest (c ∷ cs) k) = branch_leaping c [] ls k

-- ---- rows

-- whether an instruction calls a function that the module imports
abbrev pub asks_outside : Instr-F Instr → Bool
asks_outside (instr.Call (Import n)) = true
asks_outside _ = false

-- a plan that asks the outside is one of a row that may
abbrev pub MayBe : Plan → Bool → Type 0
MayBe (Leaps l) b = Unit {0}
MayBe (Sets n v vs ls code k) b = Unit {0}
MayBe (Writes n index memory address value vs ls code k) b = Unit {0}
MayBe (Asks f args vs ls code k) true = Unit {0}
MayBe (Asks f args vs ls code k) false = ⊥

-- one plan serves all answers and traces, and asks the outside where it may
pub record Acts (b : Bool) (s : MachineState) (go : List Answer → List TraceEntry → Did) : Type 0 where
  pub plan : Plan
  pub there : IsThere s plan
  pub may : MayBe plan b
  pub is : (a : List Answer) (t : List TraceEntry) → go a t ≡ does plan (world s a t)

planned : {b : Bool} {s : MachineState} {go : List Answer → List TraceEntry → Did} → Acts b s go → Planned s go
planned h = record { plan = h.plan; there = h.there; is = h.is }

leaping : {b : Bool} → (s : MachineState) (go : World → Did) → Leaping go → Acts b s (λ a t. go (world s a t))
leaping s go h = record { plan = Leaps h.leap; there = tt; may = tt; is = λ a t. h.is (world s a t) }

goes : {b : Bool} → (s : MachineState) (vs : List CoreValue) (ls : List (Option CoreValue)) (code : List Instr) (k : Around) → Acts b s (λ a t. Goes (At (world s a t) vs ls code k))
goes s vs ls code k = record { plan = Leaps (To vs ls code k); there = tt; may = tt; is = λ a t. refl }

stuck : {b : Bool} → (s : MachineState) → Acts b s (λ a t. Ends Stuck (world s a t))
stuck s = record { plan = Leaps (Stops Stuck tt); there = tt; may = tt; is = λ a t. refl }

or_planned : {b : Bool} {A : Type 0} → (s : MachineState) (o : Option A) (go : A → List Answer → List TraceEntry → Did) → ((x : A) → Acts b s (go x)) → Acts b s (λ a t. or_stuck (world s a t) o (λ x. go x a t))
or_planned s None go h = stuck s
or_planned s (Some x) go h = h x

-- the same, where it is known what the option gave
or_there : {b : Bool} {A : Type 0} → (s : MachineState) (o : Option A) (go : A → List Answer → List TraceEntry → Did) → ((x : A) → o ≡ Some x → Acts b s (go x)) → Acts b s (λ a t. or_stuck (world s a t) o (λ x. go x a t))
or_there s None go h = stuck s
or_there s (Some x) go h = h x refl

check_planned : {b : Bool} → (s : MachineState) (test : Bool) (go : List Answer → List TraceEntry → Did) → Acts b s go → Acts b s (λ a t. check (world s a t) test (go a t))
check_planned s true go h = h
check_planned s false go h = stuck s

top_planned : {b : Bool} → (s : MachineState) (vs : List CoreValue) (go : CoreValue → List CoreValue → List Answer → List TraceEntry → Did) → ((v : CoreValue) (us : List CoreValue) → Acts b s (go v us)) → Acts b s (λ a t. with_top (world s a t) vs (λ v us. go v us a t))
top_planned s [] go h = stuck s
top_planned s (v ∷ vs) go h = h v vs

i32_planned : {b : Bool} → (s : MachineState) (vs : List CoreValue) (go : ℕ → List CoreValue → List Answer → List TraceEntry → Did) → ((n : ℕ) (us : List CoreValue) → Acts b s (go n us)) → Acts b s (λ a t. with_i32 (world s a t) vs (λ n us. go n us a t))
i32_planned s [] go h = stuck s
i32_planned s (I32 n ∷ vs) go h = h n vs
i32_planned s (I64 n ∷ vs) go h = stuck s
i32_planned s (F32 n ∷ vs) go h = stuck s
i32_planned s (F64 n ∷ vs) go h = stuck s
i32_planned s (Func n ∷ vs) go h = stuck s

i64_planned : {b : Bool} → (s : MachineState) (vs : List CoreValue) (go : ℕ → List CoreValue → List Answer → List TraceEntry → Did) → ((n : ℕ) (us : List CoreValue) → Acts b s (go n us)) → Acts b s (λ a t. with_i64 (world s a t) vs (λ n us. go n us a t))
i64_planned s [] go h = stuck s
i64_planned s (I32 n ∷ vs) go h = stuck s
i64_planned s (I64 n ∷ vs) go h = h n vs
i64_planned s (F32 n ∷ vs) go h = stuck s
i64_planned s (F64 n ∷ vs) go h = stuck s
i64_planned s (Func n ∷ vs) go h = stuck s

address_planned : {b : Bool} → (s : MachineState) (memory64 : Bool) (vs : List CoreValue) (go : ℕ → List CoreValue → List Answer → List TraceEntry → Did) → ((n : ℕ) (us : List CoreValue) → Acts b s (go n us)) → Acts b s (λ a t. with_address memory64 (world s a t) vs (λ n us. go n us a t))
address_planned s true vs go h = i64_planned s vs go h
address_planned s false vs go h = i32_planned s vs go h

-- a primitive that goes on where a test holds, and traps where it does not
tested_planned : {b : Bool} {A : Type 0} → (s : MachineState) (test : Bool) (x : A) (after : World → World) (ls : List (Option CoreValue)) (k : Around) (go : A → World → Did)
    → (test ≡ true → Acts b s (λ a t. go x (after (world s a t)))) → Acts b s (λ a t. on_res (if test then Done x (after (world s a t)) else Halt Trap (world s a t)) ls k go)
tested_planned s true x after ls k go h = h refl
tested_planned s false x after ls k go h = record { plan = Leaps (Stops Trapped tt); there = tt; may = tt; is = λ a t. refl }

when_planned : {b : Bool} → (s : MachineState) (n : ℕ) (on off : List Answer → List TraceEntry → Did) → Acts b s on → Acts b s off → Acts b s (λ a t. when n (on a t) (off a t))
when_planned s zero on off h g = g
when_planned s (suc n) on off h g = h

enter_planned : {b : Bool} → (s : MachineState) (types : List FuncType) (bt : BlockType) (vs : List CoreValue) (go : ℕ → ℕ → List CoreValue → List CoreValue → List Answer → List TraceEntry → Did)
    → ((m n : ℕ) (top below : List CoreValue) → Acts b s (go m n top below)) → Acts b s (λ a t. enter types bt (world s a t) vs (λ m n top below. go m n top below a t))
enter_planned s types bt vs go h = or_planned s (block_arity types bt) _ (λ b. or_planned s (grab b.0 vs) _ (λ p. h b.0 b.1 p.0 p.1))

local_planned : {b : Bool} → (s : MachineState) (n : ℕ) (v : CoreValue) (ls : List (Option CoreValue)) (go : List (Option CoreValue) → List Answer → List TraceEntry → Did) → ((l : List (Option CoreValue)) → Acts b s (go l)) → Acts b s (λ a t. set_local (world s a t) n v ls (λ l. go l a t))
local_planned s n v ls go h = or_planned s (slice_get ls n) _ (λ old. check_planned s _ _ (h _))

inside_planned : {b : Bool} → (M : WasmModule) (n : ℕ) (s : MachineState) (vs : List CoreValue) (ls : List (Option CoreValue)) (rest : List Instr) (k : Around) → Acts b s (λ a t. call_inside M n (world s a t) vs ls rest k)
inside_planned M n s vs ls rest k =
    or_planned s (slice_get M.funcs n) _ (λ f. or_planned s (slice_get M.types f.ty) _ (λ t. or_planned s (grab (length t.params) vs) _ (λ p. check_planned s (have_types (reverse p.0) t.params) _ (goes s _ _ _ _))))

import_planned : (M : WasmModule) (n : ℕ) (s : MachineState) (vs : List CoreValue) (ls : List (Option CoreValue)) (rest : List Instr) (k : Around) → Acts true s (λ a t. call_import M n (world s a t) vs ls rest k)
import_planned M n s vs ls rest k =
    or_planned s (func_import M.imports n) _ (λ ty. or_planned s (slice_get M.types ty) _ (λ t. or_planned s (grab (length t.params) vs) _ (λ p. check_planned s (have_types (reverse p.0) t.params) _
    (record { plan = Asks n (reverse p.0) p.1 ls rest k; there = tt; may = tt; is = λ a t. refl }))))

block_planned : {b : Bool} → (M : WasmModule) (bt : BlockType) (body : List Instr) (s : MachineState) (vs : List CoreValue) (ls : List (Option CoreValue)) (rest : List Instr) (k : Around) → Acts b s (λ a t. block M bt body (world s a t) vs ls rest k)
block_planned M bt body s vs ls rest k = enter_planned s M.types bt vs _ (λ m n top below. goes s _ _ _ _)

load_planned : {b : Bool} → (M : WasmModule) (n : ℕ) (value : ℕ → CoreValue) (m : MemArg) (s : MachineState) (vs : List CoreValue) (ls : List (Option CoreValue)) (rest : List Instr) (k : Around) → Acts b s (λ a t. load M n value m (world s a t) vs ls rest k)
load_planned M n value m s vs ls rest k =
    or_planned s (memory_import M.imports m.memory_index) _ (λ t. address_planned s t.0 vs _ (λ base us. or_planned s (slice_get s.memories m.memory_index) _ (λ bytes.
    tested_planned s (nat_le (base + m.offset + n) (length bytes)) _ (λ w. w) ls k (λ number w. Goes (At w (value number ∷ us) ls rest k)) (λ e. goes s _ _ _ _))))

store_planned : {b : Bool} → (M : WasmModule) (n : ℕ) (number : CoreValue → Option ℕ) (m : MemArg) (s : MachineState) (vs : List CoreValue) (ls : List (Option CoreValue)) (rest : List Instr) (k : Around) → Acts b s (λ a t. store M n number m (world s a t) vs ls rest k)
store_planned M n number m s vs ls rest k =
    top_planned s vs _ (λ v us. or_planned s (number v) _ (λ value. or_planned s (memory_import M.imports m.memory_index) _ (λ t. address_planned s t.0 us _ (λ base us'. or_there s (slice_get s.memories m.memory_index) _ (λ bytes there.
    tested_planned s (nat_le (base + m.offset + n) (length bytes)) tt (written n m.memory_index bytes (base + m.offset) value) ls k (λ done w. Goes (At w us' ls rest k))
    (λ e. record { plan = Writes n m.memory_index bytes (base + m.offset) value us' ls rest k; there = (there, leb-true (base + m.offset + n) (length bytes) e); may = tt; is = λ a t. refl }))))))

ref_planned : {b : Bool} → (M : WasmModule) (f : FuncName) (s : MachineState) (vs : List CoreValue) (ls : List (Option CoreValue)) (rest : List Instr) (k : Around) → Acts b s (λ a t. ref_func M f (world s a t) vs ls rest k)
ref_planned M (Import n) s vs ls rest k = or_planned s (func_import M.imports n) _ (λ ty. goes s _ _ _ _)
ref_planned M (Defined n) s vs ls rest k = or_planned s (slice_get M.funcs n) _ (λ f. goes s _ _ _ _)

pub act_acts : (M : WasmModule) (i : Instr-F Instr) (s : MachineState) (vs : List CoreValue) (ls : List (Option CoreValue)) (rest : List Instr) (k : Around) → Acts (asks_outside i) s (λ a t. act M i (world s a t) vs ls rest k)
act_acts M instr.Unreachable s vs ls rest k = leaping s _ (ends Trapped tt)
act_acts M (instr.Block bt body) s vs ls rest k = block_planned M bt body s vs ls rest k
act_acts M (instr.Loop bt body) s vs ls rest k = enter_planned s M.types bt vs _ (λ m n top below. goes s _ _ _ _)
act_acts M (instr.If bt body other) s vs ls rest k = i32_planned s vs _ (λ c us. when_planned s c _ _ (block_planned M bt body s us ls rest k) (block_planned M bt (or_empty other) s us ls rest k))
act_acts M (instr.TryTable bt catches body) s vs ls rest k = enter_planned s M.types bt vs _ (λ m n top below. goes s _ _ _ _)
act_acts M (instr.Br l) s vs ls rest k = leaping s _ (branch_leaping l vs ls k)
act_acts M (instr.BrIf l) s vs ls rest k = i32_planned s vs _ (λ c us. when_planned s c _ _ (leaping s _ (branch_leaping l us ls k)) (goes s _ _ _ _))
act_acts M (instr.BrTable labels last) s vs ls rest k = i32_planned s vs _ (λ i us. leaping s _ (branch_leaping (label_at labels last i) us ls k))
act_acts M (instr.Call (Import n)) s vs ls rest k = import_planned M n s vs ls rest k
act_acts M (instr.Call (Defined n)) s vs ls rest k = inside_planned M n s vs ls rest k
act_acts M (instr.RefFunc f) s vs ls rest k = ref_planned M f s vs ls rest k
act_acts M (instr.LocalGet n) s vs ls rest k = or_planned s (slice_get ls n) _ (λ o. or_planned s o _ (λ v. goes s _ _ _ _))
act_acts M (instr.LocalSet n) s vs ls rest k = top_planned s vs _ (λ v us. local_planned s n v ls _ (λ l. goes s us l rest k))
act_acts M (instr.LocalTee n) s vs ls rest k = top_planned s vs _ (λ v us. local_planned s n v ls _ (λ l. goes s vs l rest k))
act_acts M (instr.GlobalGet n) s vs ls rest k = or_planned s (slice_get s.globals n) _ (λ v. goes s _ _ _ _)
act_acts M (instr.GlobalSet n) s vs ls rest k =
    top_planned s vs _ (λ v us. or_planned s (slice_get s.globals n) _ (λ old. check_planned s (has_type v (type_of old)) _ (record { plan = Sets n v us ls rest k; there = tt; may = tt; is = λ a t. refl })))
act_acts M (instr.I32Load m) s vs ls rest k = load_planned M 4 _ m s vs ls rest k
act_acts M (instr.I64Load m) s vs ls rest k = load_planned M 8 _ m s vs ls rest k
act_acts M (instr.F32Load m) s vs ls rest k = load_planned M 4 _ m s vs ls rest k
act_acts M (instr.F64Load m) s vs ls rest k = load_planned M 8 _ m s vs ls rest k
act_acts M (instr.I32Load8S m) s vs ls rest k = load_planned M 1 _ m s vs ls rest k
act_acts M (instr.I32Load8U m) s vs ls rest k = load_planned M 1 _ m s vs ls rest k
act_acts M (instr.I32Load16S m) s vs ls rest k = load_planned M 2 _ m s vs ls rest k
act_acts M (instr.I32Load16U m) s vs ls rest k = load_planned M 2 _ m s vs ls rest k
act_acts M (instr.I32Store m) s vs ls rest k = store_planned M 4 i32_of m s vs ls rest k
act_acts M (instr.I64Store m) s vs ls rest k = store_planned M 8 i64_of m s vs ls rest k
act_acts M (instr.F32Store m) s vs ls rest k = store_planned M 4 f32_of m s vs ls rest k
act_acts M (instr.F64Store m) s vs ls rest k = store_planned M 8 f64_of m s vs ls rest k
act_acts M (instr.I32Store8 m) s vs ls rest k = store_planned M 1 i32_of m s vs ls rest k
act_acts M (instr.I32Store16 m) s vs ls rest k = store_planned M 2 i32_of m s vs ls rest k
act_acts M (instr.MemorySize n) s vs ls rest k = or_planned s (memory_import M.imports n) _ (λ t. or_planned s (slice_get s.memories n) _ (λ bytes. or_planned s (size_value t.0 (length bytes / page_bytes t.1)) _ (λ v. goes s _ _ _ _)))
act_acts M i s vs ls rest k = or_planned s (operate i vs) _ (λ us. goes s us ls rest k)

pub act_planned : (M : WasmModule) (i : Instr-F Instr) (s : MachineState) (vs : List CoreValue) (ls : List (Option CoreValue)) (rest : List Instr) (k : Around) → Planned s (λ a t. act M i (world s a t) vs ls rest k)
act_planned M i s vs ls rest k = planned (act_acts M i s vs ls rest k)

pub start_planned : (M : WasmModule) (f : ℕ) (args : List CoreValue) (s : MachineState) → Planned s (λ a t. let w : World = world s a t in check w (takes M f args) (call_inside M f w (reverse args) [] [] Bottom))
start_planned M f args s = planned (check_planned {b = false} s (takes M f args) _ (inside_planned M f s (reverse args) [] [] Bottom))
