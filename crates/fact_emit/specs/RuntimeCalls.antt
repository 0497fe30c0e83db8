-- Calls of functions of the runtime, as pieces of code.
use Rattle.std.specs.Prelude.{◌≡◌, Bool, List, [], ◌∷◌, ◌++◌}
use Rattle.fact_wasm.specs.declared.instr.FuncName.TheVariants as func
use Rattle.fact_wasm.specs.declared.instr.Instr.{Instr}
use Rattle.fact_wasm.specs.declared.instr.Instr.TheVariants as I
use Rattle.fact_wasm.specs.declared.module.WasmModule.{WasmModule}
use Rattle.fact_wasm.specs.declared.types.ValType.{ValType}
use Rattle.fact_actions.specs.Running.{ImportPlaces}
use Rattle.fact_code_laws.specs.Context.{ContextSlots, slots_at, read_slots_code, zero_slots_code, save_code, restore_code, HasSlotsIf, CanReadSlotsIf, CanWriteSlotsIf}
use Rattle.fact_code_laws.specs.Knows.{KnowsFunction}
use Rattle.fact_emit.specs.declared.context.ContextLocals.{ContextLocals}
use Rattle.fact_emit.specs.declared.imported.RuntimeFunction.{RuntimeFunction}
use Rattle.fact_emit.specs.Runtime.{import_of, type_of_runtime}

-- the call of a function of the runtime, which has its place
abbrev pub runtime_call : ImportPlaces → RuntimeFunction → Instr
runtime_call p f = I.Call (func.Import (p.function (import_of f)))

-- the function is there
abbrev pub KnowsRuntime : WasmModule → ImportPlaces → RuntimeFunction → Type 0
KnowsRuntime M p f = KnowsFunction M p (import_of f) (p.function (import_of f)) (type_of_runtime f).params (type_of_runtime f).results

pub record CallsRuntime (f : RuntimeFunction) (M : WasmModule) (p : ImportPlaces) (locals : List ValType) (code : List Instr) : Type 0 where
  pub is : code ≡ runtime_call p f ∷ []
  pub has : KnowsRuntime M p f

-- with code in front of it and behind it
pub record CallsAmid (f : RuntimeFunction) (front behind : List Instr) (M : WasmModule) (p : ImportPlaces) (locals : List ValType) (code : List Instr) : Type 0 where
  pub is : code ≡ front ++ runtime_call p f ∷ behind
  pub has : KnowsRuntime M p f

-- ---- the slots of the context

-- the functions of the slots, and these locals
abbrev pub slots_of : ImportPlaces → ContextLocals → ContextSlots
slots_of p l = slots_at p l.first l.second

pub record ReadsSlots (is_on : Bool) (l : ContextLocals) (M : WasmModule) (p : ImportPlaces) (locals : List ValType) (code : List Instr) : Type 0 where
  pub is : code ≡ read_slots_code is_on (slots_of p l)
  pub can : CanReadSlotsIf is_on M p (slots_of p l)

-- what they are set to hangs on no local
pub record ZeroesSlots (is_on : Bool) (M : WasmModule) (p : ImportPlaces) (locals : List ValType) (code : List Instr) : Type 0 where
  pub is : (l : ContextLocals) → code ≡ zero_slots_code is_on (slots_of p l)
  pub can : (l : ContextLocals) → CanWriteSlotsIf is_on M p (slots_of p l)

pub record SavesSlots (is_on : Bool) (l : ContextLocals) (M : WasmModule) (p : ImportPlaces) (locals : List ValType) (code : List Instr) : Type 0 where
  pub is : code ≡ save_code is_on (slots_of p l)
  pub has : HasSlotsIf is_on M p (slots_of p l)

pub record WritesSlots (is_on : Bool) (l : ContextLocals) (M : WasmModule) (p : ImportPlaces) (locals : List ValType) (code : List Instr) : Type 0 where
  pub is : code ≡ restore_code is_on (slots_of p l)
  pub can : CanWriteSlotsIf is_on M p (slots_of p l)
