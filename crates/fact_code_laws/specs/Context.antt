-- The code that reads and writes the slots of a task's context (canonical ABI, `context.get`, `context.set`).
use Rattle.std.specs.Prelude.{ℕ, Bool, true, false, List, [], ◌∷◌, ◌++◌}
use Rattle.fact_wasm.specs.declared.types.ValType.TheVariants as val
use Rattle.fact_wasm.specs.declared.instr.FuncName.TheVariants as func
use Rattle.fact_wasm.specs.declared.instr.Instr.{Instr}
use Rattle.fact_wasm.specs.declared.instr.Instr.TheVariants as I
use Rattle.fact_wasm.specs.declared.module.WasmModule.{WasmModule}
use Rattle.fact_types.specs.declared.outside.UnsafeIntrinsic.TheVariants as slot
use Rattle.fact_types.specs.declared.import.Import.TheVariants as import
use Rattle.fact_actions.specs.Running.{ImportPlaces}
use Rattle.fact_code_laws.specs.Knows.{KnowsFunction}

-- the places of the functions of the slots, and two locals that hold what is in the slots
pub record ContextSlots : Type 0 where
  pub get0 : ℕ
  pub get1 : ℕ
  pub set0 : ℕ
  pub set1 : ℕ
  pub saved0 : ℕ
  pub saved1 : ℕ

-- those of a module, with these locals
abbrev pub slots_at : ImportPlaces → (saved0 saved1 : ℕ) → ContextSlots
slots_at p saved0 saved1 = record {
  get0 = p.function (import.UnsafeIntrinsic slot.ContextGetI32_0);
  get1 = p.function (import.UnsafeIntrinsic slot.ContextGetI32_1);
  set0 = p.function (import.UnsafeIntrinsic slot.ContextSetI32_0);
  set1 = p.function (import.UnsafeIntrinsic slot.ContextSetI32_1);
  saved0 = saved0;
  saved1 = saved1;
}

-- the slots are read into the locals
abbrev pub read_slots_code : Bool → ContextSlots → List Instr
read_slots_code false s = []
read_slots_code true s = I.Call (func.Import s.get0) ∷ I.LocalSet s.saved0 ∷ I.Call (func.Import s.get1) ∷ I.LocalSet s.saved1 ∷ []

abbrev pub zero_slots_code : Bool → ContextSlots → List Instr
zero_slots_code false s = []
zero_slots_code true s = I.I32Const 0 ∷ I.Call (func.Import s.set0) ∷ I.I32Const 0 ∷ I.Call (func.Import s.set1) ∷ []

-- they are saved in the locals, and are 0 from then on
abbrev pub save_code : Bool → ContextSlots → List Instr
save_code b s = read_slots_code b s ++ zero_slots_code b s

-- they are what the locals hold
abbrev pub restore_code : Bool → ContextSlots → List Instr
restore_code false s = []
restore_code true s = I.LocalGet s.saved0 ∷ I.Call (func.Import s.set0) ∷ I.LocalGet s.saved1 ∷ I.Call (func.Import s.set1) ∷ []

-- ---- the functions

pub record CanReadSlots (M : WasmModule) (p : ImportPlaces) (s : ContextSlots) : Type 0 where
  pub gets0 : KnowsFunction M p (import.UnsafeIntrinsic slot.ContextGetI32_0) s.get0 [] (val.I32 ∷ [])
  pub gets1 : KnowsFunction M p (import.UnsafeIntrinsic slot.ContextGetI32_1) s.get1 [] (val.I32 ∷ [])

pub record CanWriteSlots (M : WasmModule) (p : ImportPlaces) (s : ContextSlots) : Type 0 where
  pub sets0 : KnowsFunction M p (import.UnsafeIntrinsic slot.ContextSetI32_0) s.set0 (val.I32 ∷ []) []
  pub sets1 : KnowsFunction M p (import.UnsafeIntrinsic slot.ContextSetI32_1) s.set1 (val.I32 ∷ []) []

pub record HasContextSlots (M : WasmModule) (p : ImportPlaces) (s : ContextSlots) : Type 0 where
  pub reads : CanReadSlots M p s
  pub writes : CanWriteSlots M p s

-- where the slots are looked at
abbrev pub HasSlotsIf : Bool → WasmModule → ImportPlaces → ContextSlots → Type 0
HasSlotsIf false M p s = Unit {0}
HasSlotsIf true M p s = HasContextSlots M p s

abbrev pub CanReadSlotsIf : Bool → WasmModule → ImportPlaces → ContextSlots → Type 0
CanReadSlotsIf false M p s = Unit {0}
CanReadSlotsIf true M p s = CanReadSlots M p s

abbrev pub CanWriteSlotsIf : Bool → WasmModule → ImportPlaces → ContextSlots → Type 0
CanWriteSlotsIf false M p s = Unit {0}
CanWriteSlotsIf true M p s = CanWriteSlots M p s
