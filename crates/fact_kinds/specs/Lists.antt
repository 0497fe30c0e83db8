-- Code of lists and maps around their elements.
use Rattle.std.specs.Prelude.{◌≡◌, ℕ, ◌<◌, ◌≤◌, nat_eq, Bool, List, [], ◌∷◌, ◌++◌}
use Rattle.fact_wasm.specs.declared.types.ValType.{ValType}
use Rattle.fact_wasm.specs.declared.types.ValType.TheVariants as val
use Rattle.fact_wasm.specs.declared.instr.Instr.{Instr}
use Rattle.fact_wasm.specs.declared.instr.Instr.TheVariants as I
use Rattle.fact_wasm.specs.declared.module.WasmModule.{WasmModule}
use Rattle.fact_machine.specs.Typing.{address_type}
use Rattle.fact_types.specs.declared.abi.CanonicalAbiInfo.{CanonicalAbiInfo}
use Rattle.fact_types.specs.declared.outside.Trap.TheVariants.{UnalignedPointer, ListOutOfBounds}
use Rattle.fact_types.specs.declared.import.Import.TheVariants as import
use Rattle.fact_types.specs.Layout.{extent}
use Rattle.fact_types.specs.Signatures.{width}
use Rattle.fact_actions.specs.Running.{ImportPlaces}
use Rattle.fact_code_laws.specs.Code.{counted_code}
use Rattle.fact_code_laws.specs.Context.{HasSlotsIf}
use Rattle.fact_code_laws.specs.Knows.{KnowsFunction}
use Rattle.fact_code_laws.specs.Lists.{is_few, few_guard, bytes_code, bump_code, count_code, left_code, address_code}
use Rattle.fact_code_laws.specs.Places.{Slot, From, To, widen}
use Rattle.fact_code_laws.specs.Tests.{HasUnaligned, pointer_of_width, read_into, region_code}
use Rattle.fact_emit.specs.declared.context.ContextLocals.{ContextLocals}
use Rattle.fact_emit.specs.declared.places.LinearMemory.{LinearMemory}
use Rattle.fact_emit.specs.declared.places.Sides.{Sides}
use Rattle.fact_emit.specs.declared.writer.Writer.{Writer}
use Rattle.fact_emit.specs.Numbers.{HasUpperAt}
use Rattle.fact_emit.specs.Pairs.{length_from, put_pair_code}
use Rattle.fact_emit.specs.Places.{checks_at}
use Rattle.fact_emit.specs.Requests.{request_code}
use Rattle.fact_emit.specs.RuntimeCalls.{slots_of}
use Rattle.fact_kinds.specs.declared.lists.Elements.{Elements}
use Rattle.fact_kinds.specs.declared.lists.ListLocals.{ListLocals}

-- ---- locals

-- the locals of a list, and their types
abbrev pub list_slots : (from64 to64 : Bool) → ListLocals → List Slot
list_slots from64 to64 l =
    (l.pointer, val.I64) ∷ (l.number, val.I64) ∷ (l.bytes, val.I64) ∷ (l.address, val.I64) ∷ (l.length, val.I64) ∷ (l.left, val.I64)
    ∷ (l.source, address_type from64) ∷ (l.target, address_type to64) ∷ (l.saved0, val.I32) ∷ (l.saved1, val.I32) ∷ []

abbrev pub list_numbers : ListLocals → List ℕ
list_numbers l = l.pointer ∷ l.number ∷ l.bytes ∷ l.address ∷ l.length ∷ l.left ∷ l.source ∷ l.target ∷ l.saved0 ∷ l.saved1 ∷ []

-- those for the slots of the context
abbrev pub list_context : ListLocals → ContextLocals
list_context l = record { first = l.saved0; second = l.saved1 }

-- ---- entries

-- The bytes and the alignment of entries of a layout, where they take some.
pub record IsEntryOf (memory64 : Bool) (abi : CanonicalAbiInfo) (size align : ℕ) : Type 0 where
  pub bytes : 0 < (extent (width memory64) abi).size → size ≡ (extent (width memory64) abi).size
  pub alignment : 0 < (extent (width memory64) abi).align → align ≡ (extent (width memory64) abi).align
  pub small : (extent (width memory64) abi).size ≤ 4294967295

-- ---- what is read and checked

-- so many things of a size have fewer than 2 to the power of 32 bytes, with a trap where not
pub record ChecksFew (memory64 : Bool) (size number : ℕ) (M : WasmModule) (p : ImportPlaces) (locals : List ValType) (code : List Instr) : Type 0 where
  pub is : code ≡ few_guard (is_few memory64 size) number size (p.function (import.Trap ListOutOfBounds))

-- a source region is checked
pub record ChecksBytes (m : LinearMemory) (size align : ℕ) (l : ListLocals) (M : WasmModule) (p : ImportPlaces) (locals : List ValType) (code : List Instr) : Type 0 where
  pub unaligned : HasUnaligned (nat_eq align 1) M p (p.function (import.Trap UnalignedPointer))
  pub outside : KnowsFunction M p (import.Trap ListOutOfBounds) (p.function (import.Trap ListOutOfBounds)) [] []
  pub is : code ≡ bytes_code l.number size ++ (I.LocalSet l.bytes ∷ region_code m.memory m.memory64 m.page_size_log2 align l.pointer l.bytes l.length (p.function (import.Trap UnalignedPointer)) (p.function (import.Trap ListOutOfBounds)))

-- a new region is asked for and checked
abbrev pub asks_code : (concurrency : Bool) → ImportPlaces → LinearMemory → (size align : ℕ) → ListLocals → List Instr
asks_code concurrency p m size align l =
    bytes_code l.number size ++ (I.LocalSet l.bytes ∷ (request_code concurrency (slots_of p (list_context l)) m.realloc m.memory64 align l.bytes ++ ((widen (pointer_of_width m.memory64) val.I64 ++ I.LocalSet l.address ∷ [])
    ++ region_code m.memory m.memory64 m.page_size_log2 align l.address l.bytes l.length (p.function (import.Trap UnalignedPointer)) (p.function (import.Trap ListOutOfBounds)))))

pub record AsksList (concurrency : Bool) (m : LinearMemory) (size align : ℕ) (l : ListLocals) (M : WasmModule) (p : ImportPlaces) (locals : List ValType) (code : List Instr) : Type 0 where
  pub slots : HasSlotsIf concurrency M p (slots_of p (list_context l))
  pub unaligned : HasUnaligned (nat_eq align 1) M p (p.function (import.Trap UnalignedPointer))
  pub is : code ≡ asks_code concurrency p m size align l

-- the first elements, and how many are left
abbrev pub begin_code : (from64 to64 : Bool) → ListLocals → List Instr
begin_code from64 to64 l =
    address_code from64 l.pointer ++ (I.LocalSet l.source ∷ (address_code to64 l.address ++ (I.LocalSet l.target ∷ I.LocalGet l.number ∷ I.LocalSet l.left ∷ [])))

-- All that stands in front of the elements: what is read, the tests of the lengths in both layouts, the source's region, and the new
-- one. The functions of the traps and of the slots are there.
pub record OpensList (sides : Sides) (e : Elements) (l : ListLocals) (src : From) (M : WasmModule) (p : ImportPlaces) (locals : List ValType) (code : List Instr) : Type 0 where
  pub has_pointer : HasUpperAt M p (checks_at sides.debug p) (pointer_of_width sides.from.memory64) src
  pub has_number : HasUpperAt M p (checks_at sides.debug p) (pointer_of_width sides.from.memory64) (length_from sides.from.memory64 src)
  pub from_unaligned : HasUnaligned (nat_eq e.from_align 1) M p (p.function (import.Trap UnalignedPointer))
  pub to_unaligned : HasUnaligned (nat_eq e.to_align 1) M p (p.function (import.Trap UnalignedPointer))
  pub outside : KnowsFunction M p (import.Trap ListOutOfBounds) (p.function (import.Trap ListOutOfBounds)) [] []
  pub slots : HasSlotsIf sides.concurrency M p (slots_of p (list_context l))
  pub is : code ≡ read_into (checks_at sides.debug p) sides.from.memory64 src l.pointer ++ (read_into (checks_at sides.debug p) sides.from.memory64 (length_from sides.from.memory64 src) l.number
      ++ (few_guard (is_few sides.from.memory64 e.from_size) l.number e.from_size (p.function (import.Trap ListOutOfBounds)) ++ (few_guard (is_few sides.to.memory64 e.to_size) l.number e.to_size (p.function (import.Trap ListOutOfBounds))
      ++ (bytes_code l.number e.from_size ++ (I.LocalSet l.bytes ∷ (region_code sides.from.memory sides.from.memory64 sides.from.page_size_log2 e.from_align l.pointer l.bytes l.length (p.function (import.Trap UnalignedPointer)) (p.function (import.Trap ListOutOfBounds))
      ++ (asks_code sides.concurrency p sides.to e.to_size e.to_align l ++ begin_code sides.from.memory64 sides.to.memory64 l)))))))

-- ---- the elements

-- an element was moved
abbrev pub turn_end_code : (from64 to64 : Bool) → Elements → ListLocals → List Instr
turn_end_code from64 to64 e l = bump_code from64 l.source e.from_size ++ (bump_code to64 l.target e.to_size ++ count_code l.left)

-- The code of an element, which was all the code, became that of all elements behind the code from before it, and the new list is
-- written behind them.
pub record ClosesList (sides : Sides) (e : Elements) (l : ListLocals) (outer : List Instr) (dst : To) (old new : Writer) : Type 0 where
  pub code : new.code.items ≡ outer ++ (counted_code (left_code l.left) (old.code.items ++ turn_end_code sides.from.memory64 sides.to.memory64 e l) ++ put_pair_code sides.to.memory64 l.address l.number dst)
  pub locals : new.locals ≡ old.locals
  pub imports : new.sections ≡ old.sections
