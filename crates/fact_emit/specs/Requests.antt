-- Regions that are asked for.
use Rattle.std.specs.Prelude.{◌≡◌, ℕ, ◌<◌, nat_eq, Bool, List, [], ◌∷◌, ◌++◌, length, Option, Some, None}
use Rattle.fact_wasm.specs.declared.types.ValType.{ValType}
use Rattle.fact_wasm.specs.declared.types.ValType.TheVariants as val
use Rattle.fact_wasm.specs.declared.instr.Instr.{Instr}
use Rattle.fact_wasm.specs.declared.instr.Instr.TheVariants as I
use Rattle.fact_wasm.specs.declared.module.WasmModule.{WasmModule}
use Rattle.fact_machine.specs.Typing.{address_type}
use Rattle.fact_types.specs.declared.outside.CoreDef.{CoreDef}
use Rattle.fact_types.specs.declared.outside.Trap.{Trap}
use Rattle.fact_types.specs.declared.outside.Trap.TheVariants.{UnalignedPointer}
use Rattle.fact_types.specs.declared.import.Import.TheVariants as import
use Rattle.fact_actions.specs.Running.{ImportPlaces}
use Rattle.fact_actions.specs.Sides.{LiftLowerOptions}
use Rattle.fact_code_laws.specs.Context.{ContextSlots, HasSlotsIf, save_code, restore_code}
use Rattle.fact_code_laws.specs.Knows.{KnowsFunction}
use Rattle.fact_code_laws.specs.Lists.{ask_code}
use Rattle.fact_code_laws.specs.Places.{widen}
use Rattle.fact_code_laws.specs.Tests.{HasUnaligned, pointer_of_width, region_code}
use Rattle.fact_emit.specs.declared.places.LinearMemory.{LinearMemory}
use Rattle.fact_emit.specs.declared.requests.NewRegion.{NewRegion}
use Rattle.fact_emit.specs.Areas.{IsLinearMemoryOf}
use Rattle.fact_emit.specs.RuntimeCalls.{slots_of}
use Rattle.fact_emit.specs.States.{ModuleSoFar, functions_of}

-- A side's realloc, where it has one, is among the functions that were imported.
pub record IsReallocImported (m : LinearMemory) (s : ModuleSoFar) : Type 0 where
  pub below : (place : ℕ) → m.realloc ≡ Some place → place < length (functions_of s)

-- realloc is called for a new region, where there is one
abbrev pub ask_code_if : Option ℕ → Bool → (align bytes : ℕ) → List Instr
ask_code_if (Some place) memory64 align bytes = ask_code memory64 align bytes place
ask_code_if None memory64 align bytes = I.Unreachable ∷ []

-- with the slots of the context saved around it, and 0, with concurrency on
abbrev pub request_code : (concurrency : Bool) → ContextSlots → Option ℕ → Bool → (align bytes : ℕ) → List Instr
request_code concurrency s realloc memory64 align bytes = save_code concurrency s ++ (ask_code_if realloc memory64 align bytes ++ restore_code concurrency s)

-- realloc is called so; the functions of the slots are there
pub record CallsRealloc (concurrency : Bool) (m : LinearMemory) (r : NewRegion) (M : WasmModule) (p : ImportPlaces) (locals : List ValType) (code : List Instr) : Type 0 where
  pub slots : HasSlotsIf concurrency M p (slots_of p r.context)
  pub is : code ≡ request_code concurrency (slots_of p r.context) m.realloc m.memory64 r.align r.bytes

-- A region is asked for, its address is kept, and the region is checked. The functions of the slots and of the traps are there.
pub record AsksRegion (concurrency : Bool) (m : LinearMemory) (r : NewRegion) (t : Trap) (M : WasmModule) (p : ImportPlaces) (locals : List ValType) (code : List Instr) : Type 0 where
  pub slots : HasSlotsIf concurrency M p (slots_of p r.context)
  pub unaligned : HasUnaligned (nat_eq r.align 1) M p (p.function (import.Trap UnalignedPointer))
  pub outside : KnowsFunction M p (import.Trap t) (p.function (import.Trap t)) [] []
  pub is : code ≡ request_code concurrency (slots_of p r.context) m.realloc m.memory64 r.align r.bytes ++ ((widen (pointer_of_width m.memory64) val.I64 ++ I.LocalSet r.address ∷ [])
      ++ region_code m.memory m.memory64 m.page_size_log2 r.align r.address r.bytes r.length (p.function (import.Trap UnalignedPointer)) (p.function (import.Trap t)))

-- ---- what requests ask for

-- The realloc of a side is the function of this place.
pub record IsReallocOf (M : WasmModule) (p : ImportPlaces) (o : LiftLowerOptions) (m : LinearMemory) : Type 0 where
  pub place : ℕ
  pub is : m.realloc ≡ Some place
  pub def : CoreDef
  pub given : o.realloc ≡ Some def
  pub knows : KnowsFunction M p (import.CoreDef def) place (address_type m.memory64 ∷ address_type m.memory64 ∷ address_type m.memory64 ∷ address_type m.memory64 ∷ []) (address_type m.memory64 ∷ [])

-- Values of lists, maps and strings can be moved between two sides: both memories and the destination's realloc are there.
pub record ServesLists (from to : LinearMemory) (M : WasmModule) (p : ImportPlaces) (a b : LiftLowerOptions) : Type 0 where
  pub from_memory : IsLinearMemoryOf M p a from
  pub to_memory : IsLinearMemoryOf M p b to
  pub realloc : IsReallocOf M p b to
