-- A new area that a tuple is passed through: the code that asks for it, and what that code does.
use Rattle.std.specs.Prelude.{◌≡◌, ℕ, ◌≤◌, ◌+◌, ◌^◌, ◌<◌, nat_eq, Bool, true, false, List, [], ◌∷◌, ◌++◌, Some, slice_get}
use Rattle.std.specs.Int.{IsPowerOfTwo}
use Rattle.fact_wasm.specs.declared.types.ValType.{ValType}
use Rattle.fact_wasm.specs.declared.types.ValType.TheVariants as val
use Rattle.fact_wasm.specs.declared.instr.Instr.{Instr}
use Rattle.fact_wasm.specs.declared.instr.Instr.TheVariants as I
use Rattle.fact_wasm.specs.declared.module.WasmModule.{WasmModule}
use Rattle.fact_types.specs.declared.import.Import.TheVariants as import
use Rattle.fact_types.specs.declared.outside.Trap.TheVariants.{MemoryOutOfBounds, UnalignedPointer}
use Rattle.fact_machine.specs.Typing.{address_bits, address_type, address_operand}
use Rattle.fact_actions.specs.Actions.{Give}
use Rattle.fact_actions.specs.Running.{ImportPlaces}
use Rattle.fact_actions.specs.Sides.{LiftLowerOptions, reallocate}
use Rattle.fact_code_laws.specs.Context.{HasSlotsIf}
use Rattle.fact_code_laws.specs.Does.{Locals, Onward, held_types, Does}
use Rattle.fact_code_laws.specs.Knows.{KnowsFunction}
use Rattle.fact_code_laws.specs.Lists.{address_code}
use Rattle.fact_code_laws.specs.Places.{KeepsLocals, widen}
use Rattle.fact_code_laws.specs.Typed.{OnStack, IsTyped}
use Rattle.fact_code_laws.specs.Tests.{HasUnaligned, pointer_of_width, region_code}
use Rattle.fact_emit.specs.Areas.{IsLinearMemoryOf}
use Rattle.fact_emit.specs.Requests.{IsReallocOf, request_code}
use Rattle.fact_emit.specs.RuntimeCalls.{slots_of}
use Rattle.fact_emit.specs.declared.context.ContextLocals.{ContextLocals}
use Rattle.fact_emit.specs.declared.places.LinearMemory.{LinearMemory}
use Rattle.fact_emit.specs.declared.pointers.AreaLocals.{AreaLocals}

-- So many bytes are asked for, the region is checked, and its address is put into a local. The functions of the slots are there, and
-- the traps have their places.
pub record NewAreaCode (concurrency : Bool) (m : LinearMemory) (address size align : ℕ) (t : AreaLocals) (c : ContextLocals) (M : WasmModule) (p : ImportPlaces) (locals : List ValType) (code : List Instr) : Type 0 where
  pub slots : HasSlotsIf concurrency M p (slots_of p c)
  pub unaligned : HasUnaligned (nat_eq align 1) M p (p.function (import.Trap UnalignedPointer))
  pub outside : KnowsFunction M p (import.Trap MemoryOutOfBounds) (p.function (import.Trap MemoryOutOfBounds)) [] []
  pub is : code ≡ I.I64Const size ∷ I.LocalSet t.bytes ∷ (request_code concurrency (slots_of p c) m.realloc m.memory64 align t.bytes ++ ((widen (pointer_of_width m.memory64) val.I64 ++ I.LocalSet t.pointer ∷ [])
      ++ (region_code m.memory m.memory64 m.page_size_log2 align t.pointer t.bytes t.length (p.function (import.Trap UnalignedPointer)) (p.function (import.Trap MemoryOutOfBounds))
      ++ (address_code m.memory64 t.pointer ++ I.LocalSet address ∷ []))))

-- A local holds the address of a new area of so many bytes, all of which have addresses, and the locals in use hold what they held.
pub record HoldsArea (m : LinearMemory) (used : ℕ → Bool) (address size : ℕ) (ls : Locals) (at : ℕ) (ls' : Locals) : Type 0 where
  pub there : slice_get ls' address ≡ Some (Some (address_operand m.memory64 at))
  pub below : at < 2 ^ address_bits m.memory64
  pub room : at + size ≤ 2 ^ address_bits m.memory64
  pub keeps : KeepsLocals used ls ls'

-- Code that asks a side for an area of so many bytes: what realloc answers is checked, and put into a local. It keeps all other
-- locals in use.
pub record AsksArea (concurrency : Bool) (m : LinearMemory) (taken : ℕ → Bool) (address size align : ℕ) (M : WasmModule) (p : ImportPlaces) (locals : List ValType) (code : List Instr) : Type 0 where
  pub does : (o : LiftLowerOptions) (used : ℕ → Bool) (ls : Locals) → IsLinearMemoryOf M p o m → IsReallocOf M p o m → ((i : ℕ) → used i ≡ true → taken i ≡ true) → used address ≡ false → IsPowerOfTwo align → size < 2 ^ 32
      → held_types ls ≡ locals → slice_get locals address ≡ Some (address_type m.memory64)
      → Does M p Onward 60 0 [] ls code (reallocate concurrency o MemoryOutOfBounds 0 0 align size (λ at. Give at)) (λ at. []) (λ at ls'. HoldsArea m used address size ls at ls')
  pub typed : (o : LiftLowerOptions) → IsLinearMemoryOf M p o m → IsReallocOf M p o m → slice_get locals address ≡ Some (address_type m.memory64) → IsTyped M locals [] code [] (OnStack [])
