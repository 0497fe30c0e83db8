-- The order of the outside calls of a sync adapter that returns, and the globals meanwhile (canonical ABI, "`canon lift`", "`canon
-- lower`").
use Rattle.std.specs.Prelude.{◌≡◌, ◌≢◌, ℕ, zero, suc, ◌⊎◌, Bool, true, false, ◌&&◌, List, [], ◌∷◌, ◌++◌, map, slice_get, slice_set, Option, Some, None, is_some}
use Rattle.fact_types.specs.declared.outside.CoreDef.{CoreDef}
use Rattle.fact_types.specs.declared.outside.UnsafeIntrinsic.{UnsafeIntrinsic}
use Rattle.fact_types.specs.declared.outside.UnsafeIntrinsic.TheVariants as slot
use Rattle.fact_machine.specs.declared.types.CoreValue.{CoreValue}
use Rattle.fact_machine.specs.declared.types.CoreValue.TheVariants.{I32}
use Rattle.fact_machine.specs.declared.types.MachineState.{MachineState}
use Rattle.fact_types.specs.declared.import.Import.{Import}
use Rattle.fact_types.specs.declared.import.Import.TheVariants as import
use Rattle.fact_types.specs.declared.outside.MemoryOption.{MemoryOption}
use Rattle.fact_types.specs.Adapters.{LinkedAdapter}
use Rattle.fact_actions.specs.Running.{ImportPlaces, Call}
use Rattle.fact_machine.specs.Numerics.{truth}
use Rattle.fact_actions.specs.Adapters.{AdapterTunables, enters}
use Rattle.fact_actions.specs.Calls.{results, state_after, side_memory}
use Rattle.fact_actions.specs.Sides.{LiftLowerOptions, options_of}

-- a call without its answer
abbrev pub AskedCall : Type 0
AskedCall = Import × List CoreValue

abbrev pub asks : Call → AskedCall
asks c = (c.what, c.args)

abbrev pub get_slot : UnsafeIntrinsic → AskedCall
get_slot s = (import.UnsafeIntrinsic s, [])

abbrev pub set_slot : UnsafeIntrinsic → List CoreValue → AskedCall
set_slot s args = (import.UnsafeIntrinsic s, args)

-- what the nth of calls gave
abbrev pub result_of : List Call → ℕ → List CoreValue
result_of [] n = []
result_of (c ∷ cs) zero = results c
result_of (c ∷ cs) (suc n) = result_of cs n

-- ---- calls of a transfer

-- The calls that a call of realloc comes with: with concurrency on both slots of the context are read and set to 0 directly
-- before it, and set to what they were directly behind it.
abbrev pub request_calls : (concurrency : Bool) → CoreDef → (args : List CoreValue) → (group : List Call) → List AskedCall
request_calls false f args group = (import.CoreDef f, args) ∷ []
request_calls true f args group =
    get_slot slot.ContextGetI32_0 ∷ get_slot slot.ContextGetI32_1
    ∷ set_slot slot.ContextSetI32_0 (I32 0 ∷ []) ∷ set_slot slot.ContextSetI32_1 (I32 0 ∷ [])
    ∷ (import.CoreDef f, args)
    ∷ set_slot slot.ContextSetI32_0 (result_of group 0) ∷ set_slot slot.ContextSetI32_1 (result_of group 1) ∷ []

pub record IsRequest (concurrency : Bool) (to : LiftLowerOptions) (group : List Call) : Type 0 where
  pub realloc : CoreDef
  pub realloc_is : to.realloc ≡ Some realloc
  pub args : List CoreValue
  pub calls_are : map asks group ≡ request_calls concurrency realloc args group

-- a memory of a side, by its definition and whether its addresses have 64 bits
pub record IsMemoryOf (o : LiftLowerOptions) (def : CoreDef) (memory64 : Bool) : Type 0 where
  pub memory : MemoryOption
  pub memory_is : o.memory ≡ Some memory
  pub def_is : memory.def ≡ def
  pub width_is : memory.memory64 ≡ memory64

-- a transcoder between the memories of both sides, or a handle that changes tables
abbrev pub IsValueCall : (from to : LiftLowerOptions) → Import → Type 0
IsValueCall from to (import.Transcode o read read64 written written64) =
    IsMemoryOf from read read64 × IsMemoryOf to written written64
IsValueCall from to import.ResourceTransferOwn = Unit {0}
IsValueCall from to import.ResourceTransferBorrow = Unit {0}
IsValueCall from to import.FutureTransfer = Unit {0}
IsValueCall from to import.StreamTransfer = Unit {0}
IsValueCall from to import.ErrorContextTransfer = Unit {0}
IsValueCall from to _ = ⊥

abbrev pub IsOne : (Import → Type 0) → List Call → Type 0
IsOne P group = (c : Call) × (group ≡ c ∷ []) × P c.what

abbrev pub all_of : List (List Call) → List Call
all_of [] = []
all_of (group ∷ groups) = group ++ all_of groups

-- each group is a call of realloc, with what it comes with, or one call that moves a value
abbrev pub AreTransferGroups : (concurrency : Bool) (from to : LiftLowerOptions) → List (List Call) → Type 0
AreTransferGroups concurrency from to [] = Unit {0}
AreTransferGroups concurrency from to (group ∷ groups) = (IsRequest concurrency to group ⊎ IsOne (IsValueCall from to) group) × AreTransferGroups concurrency from to groups

-- calls of a transfer, group by group
pub record AreOfTransfer (concurrency : Bool) (from to : LiftLowerOptions) (calls : List Call) : Type 0 where
  pub groups : List (List Call)
  pub calls_are : calls ≡ all_of groups
  pub each : AreTransferGroups concurrency from to groups

-- ---- calls around transfers

abbrev pub where_due : Bool → List AskedCall → List AskedCall
where_due true calls = calls
where_due false calls = []

abbrev pub enter_calls : AdapterTunables → LinkedAdapter → List AskedCall
enter_calls u a = where_due (enters u a) ((import.EnterSyncCall, I32 (truth a.lift.async_type) ∷ I32 a.lift.instance ∷ []) ∷ [])

abbrev pub exit_calls : AdapterTunables → LinkedAdapter → List AskedCall
exit_calls u a = where_due (enters u a) ((import.ExitSyncCall, []) ∷ [])

abbrev pub context_reads : AdapterTunables → LinkedAdapter → List AskedCall
context_reads u a = where_due (u.concurrency && is_some a.lift.post_return) (get_slot slot.ContextGetI32_0 ∷ get_slot slot.ContextGetI32_1 ∷ [])

-- Post-return takes the callee's results. With concurrency on it runs in the context that the callee left, which was read
-- before, and the adapter's own is read, and set back afterwards.
abbrev pub post_return_calls : (concurrency : Bool) → Option CoreDef → (given : List CoreValue) → (reads group : List Call) → List AskedCall
post_return_calls concurrency None given reads group = []
post_return_calls false (Some f) given reads group = (import.CoreDef f, given) ∷ []
post_return_calls true (Some f) given reads group =
    get_slot slot.ContextGetI32_0 ∷ get_slot slot.ContextGetI32_1
    ∷ set_slot slot.ContextSetI32_0 (result_of reads 0) ∷ set_slot slot.ContextSetI32_1 (result_of reads 1)
    ∷ (import.CoreDef f, given)
    ∷ set_slot slot.ContextSetI32_0 (result_of group 0) ∷ set_slot slot.ContextSetI32_1 (result_of group 1) ∷ []

-- ---- globals

-- Calls one after another from globals on, between which the adapter changes none, and the globals behind them.
abbrev pub KeepsGlobals : (first : List CoreValue) → List Call → (last : List CoreValue) → Type 0
KeepsGlobals first [] last = last ≡ first
KeepsGlobals first (c ∷ cs) last = (c.before.globals ≡ first) × KeepsGlobals (state_after c).globals cs last

abbrev pub flag_in : ImportPlaces → (instance : ℕ) → List CoreValue → CoreValue
flag_in p i globals = elim (slice_get globals (p.flags i)) [ None ↦ I32 0 | Some v ↦ v ]

abbrev pub with_flag : ImportPlaces → (instance : ℕ) → CoreValue → List CoreValue → List CoreValue
with_flag p i v globals = slice_set globals (p.flags i) v

-- ---- the whole

-- The calls of a run that began and ended in these states.
pub record AreOrderedCalls (p : ImportPlaces) (u : AdapterTunables) (a : LinkedAdapter) (first : MachineState) (calls : List Call) (last : MachineState) : Type 0 where
  -- the enter call, the calls of the parameter transfer, the callee, the reads of the context, the exit call, the calls of the
  -- result transfer, and those of post-return
  pub enter : List Call
  pub params : List Call
  pub callee : Call
  pub reads : List Call
  pub exit : List Call
  pub results_moved : List Call
  pub finish : List Call
  pub calls_are : calls ≡ enter ++ (params ++ (callee ∷ (reads ++ (exit ++ (results_moved ++ finish)))))
  pub enter_is : map asks enter ≡ enter_calls u a
  pub params_are : AreOfTransfer u.concurrency (options_of a.lower) (options_of a.lift) params
  pub callee_is : callee.what ≡ import.CoreDef a.callee
  pub reads_are : map asks reads ≡ context_reads u a
  pub exit_is : map asks exit ≡ exit_calls u a
  pub results_are : AreOfTransfer u.concurrency (options_of a.lift) (options_of a.lower) results_moved
  pub finish_is : map asks finish ≡ post_return_calls u.concurrency a.lift.post_return (results callee) reads finish
  -- the lower side may leave
  pub may_leave : flag_in p a.lower.instance first.globals ≢ I32 0
  -- the lift side's flags are 0 while parameters are moved, and before the callee what they were before that
  pub before_params : List CoreValue
  pub behind_params : List CoreValue
  pub to_params : KeepsGlobals first.globals enter before_params
  pub in_params : KeepsGlobals (with_flag p a.lift.instance (I32 0) before_params) params behind_params
  pub at_callee : callee.before.globals ≡ with_flag p a.lift.instance (flag_in p a.lift.instance before_params) behind_params
  -- the lower side's flags are 0 while results are moved, and then what they were at the start
  pub before_results : List CoreValue
  pub behind_results : List CoreValue
  pub to_results : KeepsGlobals (state_after callee).globals (reads ++ exit) before_results
  pub in_results : KeepsGlobals (with_flag p a.lower.instance (I32 0) before_results) results_moved behind_results
  pub to_end : KeepsGlobals (with_flag p a.lower.instance (flag_in p a.lower.instance first.globals) behind_results) finish last.globals

-- The calls of a transfer of its own, while the flags of an instance are 0, which are then what they were before.
pub record IsTransfer (p : ImportPlaces) (concurrency : Bool) (instance : ℕ) (from to : LiftLowerOptions) (first : MachineState) (calls : List Call) (last : MachineState) : Type 0 where
  pub are : AreOfTransfer concurrency from to calls
  pub behind : List CoreValue
  pub meanwhile : KeepsGlobals (with_flag p instance (I32 0) first.globals) calls behind
  pub restored : last.globals ≡ with_flag p instance (flag_in p instance first.globals) behind

-- ---- memories

-- Calls one after another from a state on, between which the adapter changes nothing of a side's memory.
abbrev pub KeepsMemory : ImportPlaces → LiftLowerOptions → (first : MachineState) → List Call → (last : MachineState) → Type 0
KeepsMemory p o first [] last = side_memory p o last ≡ side_memory p o first
KeepsMemory p o first (c ∷ cs) last = (side_memory p o c.before ≡ side_memory p o first) × KeepsMemory p o (state_after c) cs last

-- Two sides have two memories.
abbrev pub HaveTwoMemories : ImportPlaces → LiftLowerOptions → LiftLowerOptions → Type 0
HaveTwoMemories p o q = (m n : MemoryOption) → o.memory ≡ Some m → q.memory ≡ Some n → p.memory m.def ≢ p.memory n.def

-- Up to the call of the callee an adapter leaves the lower side's memory, and from then on the lift side's.
pub record LeavesSources (p : ImportPlaces) (a : LinkedAdapter) (first : MachineState) (calls : List Call) (last : MachineState) : Type 0 where
  pub before : List Call
  pub callee : Call
  pub behind : List Call
  pub calls_are : calls ≡ before ++ (callee ∷ behind)
  pub callee_is : callee.what ≡ import.CoreDef a.callee
  pub lower_kept : KeepsMemory p (options_of a.lower) first before callee.before
  pub lift_kept : KeepsMemory p (options_of a.lift) (state_after callee) behind last
