-- The area that results are passed through: the code that checks it, and what that code does.
use Rattle.std.specs.Prelude.{◌≡◌, ℕ, ◌≤◌, ◌+◌, ◌^◌, ◌<◌, nat_eq, Bool, true, List, [], ◌∷◌, ◌++◌, Some, slice_get}
use Rattle.std.specs.Int.{IsPowerOfTwo}
use Rattle.fact_wasm.specs.declared.types.ValType.{ValType}
use Rattle.fact_wasm.specs.declared.types.ValType.TheVariants as val
use Rattle.fact_wasm.specs.declared.instr.Instr.{Instr}
use Rattle.fact_wasm.specs.declared.instr.Instr.TheVariants as I
use Rattle.fact_wasm.specs.declared.module.WasmModule.{WasmModule}
use Rattle.fact_types.specs.declared.import.Import.TheVariants as import
use Rattle.fact_types.specs.declared.outside.Trap.TheVariants.{MemoryOutOfBounds}
use Rattle.fact_machine.specs.declared.types.CoreValue.{CoreValue}
use Rattle.fact_machine.specs.Typing.{address_bits, address_type, address_operand}
use Rattle.fact_actions.specs.Actions.{Give}
use Rattle.fact_actions.specs.Running.{ImportPlaces}
use Rattle.fact_actions.specs.Sides.{LiftLowerOptions, check_region as check_region_of}
use Rattle.fact_code_laws.specs.Does.{Locals, Onward, held_types, Does}
use Rattle.fact_code_laws.specs.Knows.{KnowsFunction}
use Rattle.fact_code_laws.specs.Places.{SideMemory, KeepsLocals, widen}
use Rattle.fact_code_laws.specs.Typed.{OnStack, IsTyped}
use Rattle.fact_code_laws.specs.Tests.{HasUnaligned, pointer_of_width, region_code}
use Rattle.fact_emit.specs.declared.places.LinearMemory.{LinearMemory}
use Rattle.fact_emit.specs.declared.pointers.AreaLocals.{AreaLocals}

-- an address in a local as an i64 in another one
abbrev pub widened_code : (memory64 : Bool) → (address local : ℕ) → List Instr
widened_code memory64 address local = I.LocalGet address ∷ (widen (pointer_of_width memory64) val.I64 ++ I.LocalSet local ∷ [])

-- the check of so many bytes at an address, whose traps have their places
pub record AreaCode (m : LinearMemory) (address size align : ℕ) (t : AreaLocals) (M : WasmModule) (p : ImportPlaces) (locals : List ValType) (code : List Instr) : Type 0 where
  pub unaligned : ℕ
  pub outside : ℕ
  pub has_unaligned : HasUnaligned (nat_eq align 1) M p unaligned
  pub has_outside : KnowsFunction M p (import.Trap MemoryOutOfBounds) outside [] []
  pub is : code ≡ widened_code m.memory64 address t.pointer ++ (I.I64Const size ∷ I.LocalSet t.bytes ∷ region_code m.memory m.memory64 m.page_size_log2 align t.pointer t.bytes t.length unaligned outside)

-- A side whose memory this one is, and whose texts stand in it so.
pub record IsLinearMemoryOf (M : WasmModule) (p : ImportPlaces) (o : LiftLowerOptions) (m : LinearMemory) : Type 0 where
  pub side : SideMemory M p o m.memory64 m.memory
  pub log2 : side.log2 ≡ m.page_size_log2
  pub there : m.has_memory ≡ true
  pub encoding : o.encoding ≡ m.encoding

-- Code that checks the area of so many bytes at an address in a local: it is aligned, and lies within its side's memory, with a
-- trap where not. It keeps all locals in use. Behind it, all bytes of the area have addresses.
pub record ChecksArea (m : LinearMemory) (taken : ℕ → Bool) (address size align : ℕ) (M : WasmModule) (p : ImportPlaces) (locals : List ValType) (code : List Instr) : Type 0 where
  pub does : (o : LiftLowerOptions) (used : ℕ → Bool) (ls : Locals) (at : ℕ) → IsLinearMemoryOf M p o m → ((i : ℕ) → used i ≡ true → taken i ≡ true) → IsPowerOfTwo align → size < 2 ^ 64 → at < 2 ^ address_bits m.memory64
      → held_types ls ≡ locals → slice_get ls address ≡ Some (Some (address_operand m.memory64 at))
      → Does M p Onward 40 0 [] ls code (check_region_of o MemoryOutOfBounds at size align (Give [])) (λ (vs : List CoreValue). []) (λ vs ls'. KeepsLocals used ls ls' × (at + size ≤ 2 ^ address_bits m.memory64))
  pub typed : (o : LiftLowerOptions) → IsLinearMemoryOf M p o m → slice_get locals address ≡ Some (address_type m.memory64) → IsTyped M locals [] code [] (OnStack [])
