-- The steps of adapters that name functions of the module, as pieces of code: the test whether an instance may leave, what the runtime is told of
-- a call, and the call of a post-return.
use Rattle.std.specs.Prelude.{◌≡◌, ℕ, Bool, true, false, List, [], ◌++◌, Option, Some, None}
use Rattle.fact_wasm.specs.declared.instr.Instr.{Instr}
use Rattle.fact_wasm.specs.declared.module.WasmModule.{WasmModule}
use Rattle.fact_wasm.specs.declared.types.ValType.{ValType}
use Rattle.fact_entity.specs.declared.id.Id.{Id}
use Rattle.fact_entity.specs.declared.table.Funcs.{Funcs}
use Rattle.fact_types.specs.declared.import.Import.TheVariants as import
use Rattle.fact_types.specs.declared.outside.Trap.TheVariants.{CannotLeaveComponent}
use Rattle.fact_actions.specs.Running.{ImportPlaces}
use Rattle.fact_code_laws.specs.Context.{CanReadSlotsIf, CanWriteSlotsIf}
use Rattle.fact_code_laws.specs.Knows.{KnowsFunction}
use Rattle.fact_code_laws.specs.Places.{Slot}
use Rattle.fact_emit.specs.Options.{number_if_any}
use Rattle.fact_emit.specs.RuntimeCalls.{KnowsRuntime, slots_of}
use Rattle.fact_emit.specs.declared.context.ContextLocals.{ContextLocals}
use Rattle.fact_emit.specs.declared.imported.RuntimeFunction.{RuntimeFunction}
use Rattle.fact_emit.specs.declared.imported.RuntimeFunction.TheVariants as runtime
use Rattle.fact_steps.specs.Code.{back_code, enter_code, exit_code, finish_code, may_leave_code}

-- the flags of an instance are kept in a local, with a trap where they are 0
pub record ChecksMayLeave (flags saved : ℕ) (M : WasmModule) (p : ImportPlaces) (locals : List ValType) (code : List Instr) : Type 0 where
  pub trap : ℕ
  pub has : KnowsFunction M p (import.Trap CannotLeaveComponent) trap [] []
  pub is : code ≡ may_leave_code flags saved trap

-- ---- what the runtime is told

-- a function of the runtime is there where it is called
abbrev pub KnowsRuntimeIf : Bool → WasmModule → ImportPlaces → RuntimeFunction → Type 0
KnowsRuntimeIf false M p f = Unit {0}
KnowsRuntimeIf true M p f = KnowsRuntime M p f

pub record EntersCall (told : Bool) (instance : ℕ) (M : WasmModule) (p : ImportPlaces) (locals : List ValType) (code : List Instr) : Type 0 where
  pub is : code ≡ enter_code told instance (p.function import.EnterSyncCall)
  pub has : KnowsRuntimeIf told M p runtime.EnterSyncCall

pub record ExitsCall (told : Bool) (M : WasmModule) (p : ImportPlaces) (locals : List ValType) (code : List Instr) : Type 0 where
  pub is : code ≡ exit_code told (p.function import.ExitSyncCall)
  pub has : KnowsRuntimeIf told M p runtime.ExitSyncCall

-- ---- the post-return

-- the functions of the slots that the call of a post-return uses
pub record CanReturnPost (context : Bool) (callee own : ContextLocals) (M : WasmModule) (p : ImportPlaces) : Type 0 where
  pub reads_own : CanReadSlotsIf context M p (slots_of p own)
  pub writes : CanWriteSlotsIf context M p (slots_of p callee)
  pub writes_own : CanWriteSlotsIf context M p (slots_of p own)

pub record ReturnsPost (function : ℕ) (context : Bool) (callee own : ContextLocals) (given : List Slot) (M : WasmModule) (p : ImportPlaces) (locals : List ValType) (code : List Instr) : Type 0 where
  pub is : code ≡ finish_code context (Some function) (slots_of p callee) (slots_of p own) given
  pub can : CanReturnPost context callee own M p

abbrev pub CanFinish : Option (Id Funcs) → (context : Bool) → (callee own : ContextLocals) → WasmModule → ImportPlaces → Type 0
CanFinish None context callee own M p = Unit {0}
CanFinish (Some f) context callee own M p = CanReturnPost context callee own M p

pub record FinishesCall (post_return : Option (Id Funcs)) (context : Bool) (callee own : ContextLocals) (given : List Slot) (M : WasmModule) (p : ImportPlaces) (locals : List ValType) (code : List Instr) : Type 0 where
  pub is : code ≡ finish_code context (number_if_any post_return) (slots_of p callee) (slots_of p own) given
  pub can : CanFinish post_return context callee own M p

-- the flags of an instance are what a local holds before the post-return is called
pub record RestoresAndFinishes (flags saved : ℕ) (post_return : Option (Id Funcs)) (context : Bool) (callee own : ContextLocals) (given : List Slot) (M : WasmModule) (p : ImportPlaces) (locals : List ValType) (code : List Instr) : Type 0 where
  pub is : code ≡ back_code flags saved ++ finish_code context (number_if_any post_return) (slots_of p callee) (slots_of p own) given
  pub can : CanFinish post_return context callee own M p
