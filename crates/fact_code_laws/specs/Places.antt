-- Where code finds the values that it moves and where it puts them, and what is said of code that moves values of two types.
use Rattle.std.specs.Prelude.{◌≡◌, ℕ, ◌+◌, ◌-◌, ◌^◌, ◌<◌, ◌≤◌, nat_eq, Bool, true, false, List, [], ◌∷◌, ◌++◌, Option, Some, drop, slice_get}
use Rattle.fact_wasm.specs.declared.types.ValType.{ValType}
use Rattle.fact_wasm.specs.declared.types.ValType.TheVariants as val
use Rattle.fact_wasm.specs.declared.instr.MemArg.{MemArg}
use Rattle.fact_wasm.specs.declared.instr.Instr.{Instr}
use Rattle.fact_wasm.specs.declared.instr.Instr.TheVariants as I
use Rattle.fact_wasm.specs.declared.module.WasmModule.{WasmModule}
use Rattle.fact_machine.specs.declared.types.CoreValue.{CoreValue}
use Rattle.fact_machine.specs.declared.types.CoreValue.TheVariants.{I32, I64}
use Rattle.fact_actions.specs.Actions.{Action}
use Rattle.fact_actions.specs.Running.{ImportPlaces}
use Rattle.fact_types.specs.declared.outside.MemoryOption.{MemoryOption}
use Rattle.fact_actions.specs.Sides.{LiftLowerOptions, Transfer, Source, Values, AtAddress, Target, Slots, Into}
use Rattle.fact_code_laws.specs.Does.{Locals, Onward, held_types, Does}
use Rattle.fact_types.specs.declared.import.Import.TheVariants as import
use Rattle.fact_types.specs.declared.outside.Trap.TheVariants.{DebugAssertPointerAligned, DebugAssertUpperBitsUnset}
use Rattle.fact_code_laws.specs.Code.{guard_code}
use Rattle.fact_code_laws.specs.Knows.{KnowsFunction, KnowsMemory}
use Rattle.fact_code_laws.specs.Rows.{Load, LoadU8, LoadU16, LoadI32, LoadI64, load_code, load_align, Store, StoreI8, StoreI16, StoreI32, StoreI64, store_code, store_align}
use Rattle.fact_code_laws.specs.Typed.{OnStack, IsTyped}
use Rattle.fact_machine.specs.Typing.{address_bits, address_type, address_operand}
use Rattle.fact_machine.specs.Typed.{is_value}

-- ---- places

-- a local and its type
abbrev pub Slot : Type 0
Slot = ℕ × ValType

-- in locals, or in a memory from an address on that a local holds, and an offset
pub data From : Type 0 where
  InLocals : List Slot → From
  InMemory : (memory base offset : ℕ) → From

pub data To : Type 0 where
  ToLocals : List Slot → To
  ToMemory : (memory base offset : ℕ) → To

-- a local that holds a value of its type
pub record Held (ls : Locals) (slot : Slot) (v : CoreValue) : Type 0 where
  pub there : slice_get ls slot.0 ≡ Some (Some v)
  pub value : is_value v slot.1 ≡ true

abbrev pub AreHeld : Locals → List Slot → List CoreValue → Type 0
AreHeld ls [] [] = Unit {0}
AreHeld ls (s ∷ ss) (v ∷ vs) = Held ls s v × AreHeld ls ss vs
AreHeld ls [] (v ∷ vs) = ⊥
AreHeld ls (s ∷ ss) [] = ⊥

-- a local holds an address from which another is so far
pub record Based (ls : Locals) (memory64 : Bool) (base offset at : ℕ) : Type 0 where
  pub start : ℕ
  pub there : slice_get ls base ≡ Some (Some (address_operand memory64 start))
  pub is : at ≡ start + offset

-- the value of a move stands there
abbrev pub StandsAt : Locals → Bool → From → Source → Type 0
StandsAt ls memory64 (InLocals slots) (Values vs) = AreHeld ls slots vs
StandsAt ls memory64 (InMemory memory base offset) (AtAddress a) = Based ls memory64 base offset a
StandsAt ls memory64 (InLocals slots) (AtAddress a) = ⊥
StandsAt ls memory64 (InMemory memory base offset) (Values vs) = ⊥

-- locals of these types that may be changed
abbrev pub AreFree : (ℕ → Bool) → Locals → List Slot → List ValType → Type 0
AreFree used ls [] [] = Unit {0}
AreFree used ls (s ∷ ss) (t ∷ ts) = (s.1 ≡ t) × (slice_get (held_types ls) s.0 ≡ Some t) × (used s.0 ≡ false) × AreFree used ls ss ts
AreFree used ls [] (t ∷ ts) = ⊥
AreFree used ls (s ∷ ss) [] = ⊥

-- the value of a move may go there
abbrev pub MayGo : (ℕ → Bool) → Locals → Bool → To → Target → Type 0
MayGo used ls memory64 (ToLocals slots) (Slots ts) = AreFree used ls slots ts
MayGo used ls memory64 (ToMemory memory base offset) (Into a) = Based ls memory64 base offset a
MayGo used ls memory64 (ToLocals slots) (Into a) = ⊥
MayGo used ls memory64 (ToMemory memory base offset) (Slots ts) = ⊥

-- the core values that it is there
abbrev pub Stood : Locals → To → List CoreValue → Type 0
Stood ls (ToLocals slots) vs = AreHeld ls slots vs
Stood ls (ToMemory memory base offset) vs = vs ≡ []

-- locals in use hold what they held, and all have their types
pub record KeepsLocals (used : ℕ → Bool) (ls ls' : Locals) : Type 0 where
  pub same : (i : ℕ) → used i ≡ true → slice_get ls' i ≡ slice_get ls i
  pub types : held_types ls' ≡ held_types ls

-- ---- moves

-- Debug checks: none; or on, with the places of the functions of the traps that they call where the upper half of an i64 is not 0
-- and where a pointer is not aligned.
pub data DebugChecks : Type 0 where
  Off : DebugChecks
  On : (upper aligned : ℕ) → DebugChecks

abbrev pub is_on : DebugChecks → Bool
is_on Off = false
is_on (On upper aligned) = true

-- How many bytes from the address in a local on lie within the addresses of its memory: of the local that a source in memory is
-- found by, and of that of a target in memory.
pub record Rooms : Type 0 where
  pub from : ℕ
  pub to : ℕ

-- What code of moves stands in: a module, the places of its imports, the two sides with the widths of their memories'
-- addresses, what room there is behind the addresses of places, debug checks, and the types of the locals.
pub record Setting : Type 0 where
  pub whole : WasmModule
  pub places : ImportPlaces
  pub from : LiftLowerOptions
  pub to : LiftLowerOptions
  pub from64 : Bool
  pub to64 : Bool
  pub rooms : Rooms
  pub concurrency : Bool
  pub checks : DebugChecks
  pub locals : List ValType

abbrev pub transfer : Setting → Transfer
transfer S = record { from = S.from; to = S.to; concurrency = S.concurrency; debug = is_on S.checks }

-- so many bytes from the address in a local on have addresses
pub record HasRoom (ls : Locals) (memory64 : Bool) (base bytes : ℕ) : Type 0 where
  pub within : (start : ℕ) → slice_get ls base ≡ Some (Some (address_operand memory64 start)) → start + bytes ≤ 2 ^ address_bits memory64

abbrev pub FromRoom : Locals → Bool → From → ℕ → Type 0
FromRoom ls memory64 (InLocals slots) bytes = Unit {0}
FromRoom ls memory64 (InMemory memory base offset) bytes = HasRoom ls memory64 base bytes

abbrev pub ToRoom : Locals → Bool → To → ℕ → Type 0
ToRoom ls memory64 (ToLocals slots) bytes = Unit {0}
ToRoom ls memory64 (ToMemory memory base offset) bytes = HasRoom ls memory64 base bytes

-- behind the addresses of the places there is the room of the setting
pub record InRooms (S : Setting) (ls : Locals) (from : From) (to : To) : Type 0 where
  pub source : FromRoom ls S.from64 from S.rooms.from
  pub target : ToRoom ls S.to64 to S.rooms.to

-- Code that moves a value from one place to another: where the value stands there, the other place is free and there is room behind
-- their addresses, it does the move, leaves the locals in use as they were, and its operands have their types.
pub record Moves (S : Setting) (used : ℕ → Bool) (extra spare : ℕ) (from : From) (to : To) (move : Source → Target → Action (List CoreValue)) (code : List Instr) : Type 0 where
  pub effect : (ls : Locals) (s : Source) (d : Target) → held_types ls ≡ S.locals → StandsAt ls S.from64 from s → MayGo used ls S.to64 to d → InRooms S ls from to
      → Does S.whole S.places Onward extra spare [] ls code (move s d) (λ vs. []) (λ vs ls'. Stood ls' to vs × KeepsLocals used ls ls')
  pub typed : IsTyped S.whole S.locals [] code [] (OnStack [])

-- ---- numbers

-- a number of one, two, four or eight bytes
pub data Number : Type 0 where
  N8 : Number
  N16 : Number
  N32 : Number
  N64 : Number

abbrev pub size_of : Number → ℕ
size_of N8 = 1
size_of N16 = 2
size_of N32 = 4
size_of N64 = 8

-- on the stack it is an i32, or an i64 of eight bytes
abbrev pub stack_type : Number → ValType
stack_type N64 = val.I64
stack_type _ = val.I32

abbrev pub stacked : Number → ℕ → CoreValue
stacked N64 x = I64 x
stacked _ x = I32 x

abbrev pub limit_of : Number → ℕ
limit_of N64 = 2 ^ 64
limit_of _ = 2 ^ 32

abbrev pub load_of : Number → Load
load_of N8 = LoadU8
load_of N16 = LoadU16
load_of N32 = LoadI32
load_of N64 = LoadI64

abbrev pub store_of : Number → Store
store_of N8 = StoreI8
store_of N16 = StoreI16
store_of N32 = StoreI32
store_of N64 = StoreI64

-- locals that may hold a number of an i32 or of an i64: those of its type, of a float of its size, and joined slots of cases
abbrev pub MayHoldI32 : ValType → Type 0
MayHoldI32 val.I32 = Unit {0}
MayHoldI32 val.I64 = Unit {0}
MayHoldI32 val.F32 = Unit {0}
MayHoldI32 _ = ⊥

abbrev pub MayHoldI64 : ValType → Type 0
MayHoldI64 val.I64 = Unit {0}
MayHoldI64 val.F64 = Unit {0}
MayHoldI64 _ = ⊥

abbrev pub MayHold : Number → ValType → Type 0
MayHold N64 t = MayHoldI64 t
MayHold _ t = MayHoldI32 t

-- what is in a local as an i32, or as an i64
abbrev pub to_i32 : ValType → List Instr
to_i32 val.I64 = I.I32WrapI64 ∷ []
to_i32 val.F32 = I.I32ReinterpretF32 ∷ []
to_i32 _ = []

abbrev pub to_i64 : ValType → List Instr
to_i64 val.F64 = I.I64ReinterpretF64 ∷ []
to_i64 _ = []

abbrev pub narrow : Number → ValType → List Instr
narrow N64 t = to_i64 t
narrow _ t = to_i32 t

-- an i32, or an i64, as a value of a local's type
abbrev pub from_i32 : ValType → List Instr
from_i32 val.I64 = I.I64ExtendI32U ∷ []
from_i32 val.F32 = I.F32ReinterpretI32 ∷ []
from_i32 _ = []

abbrev pub from_i64 : ValType → List Instr
from_i64 val.F64 = I.F64ReinterpretI64 ∷ []
from_i64 _ = []

abbrev pub widen : Number → ValType → List Instr
widen N64 t = from_i64 t
widen _ t = from_i32 t

-- the memory of a side, by its place among the imported memories
pub record SideMemory (M : WasmModule) (p : ImportPlaces) (o : LiftLowerOptions) (memory64 : Bool) (memory : ℕ) : Type 0 where
  pub option : MemoryOption
  pub is : o.memory ≡ Some option
  pub wide : option.memory64 ≡ memory64
  pub log2 : Option ℕ
  pub has : KnowsMemory M p option.def memory memory64 log2

-- the upper half of an i64 is left out where 32 bits are read of it
abbrev pub is_halved : Number → ValType → Bool
is_halved N64 t = false
is_halved n val.I64 = true
is_halved n t = false

-- with debug checks on it has to be 0, and the function of that trap is there
abbrev pub HasUpper : WasmModule → ImportPlaces → DebugChecks → (halved : Bool) → Type 0
HasUpper M p (On upper aligned) true = KnowsFunction M p (import.Trap DebugAssertUpperBitsUnset) upper [] []
HasUpper M p _ _ = Unit {0}

-- a number may be read from there
abbrev pub Readable : WasmModule → ImportPlaces → DebugChecks → LiftLowerOptions → Bool → Number → From → Type 0
Readable M p checks o memory64 n (InLocals []) = ⊥
Readable M p checks o memory64 n (InLocals (s ∷ ss)) = MayHold n s.1 × HasUpper M p checks (is_halved n s.1)
Readable M p checks o memory64 n (InMemory memory base offset) = SideMemory M p o memory64 memory

-- a number may be put there, in place of all else
abbrev pub Writable : WasmModule → ImportPlaces → LiftLowerOptions → Bool → Number → To → Type 0
Writable M p o memory64 n (ToLocals (s ∷ [])) = MayHold n s.1
Writable M p o memory64 n (ToLocals _) = ⊥
Writable M p o memory64 n (ToMemory memory base offset) = SideMemory M p o memory64 memory

abbrev pub memarg_at : (align offset memory : ℕ) → MemArg
memarg_at align offset memory = record { offset = offset; align = align; memory_index = memory }

-- whether the upper half of a local is 0
abbrev pub upper_test : ℕ → List Instr
upper_test i = I.LocalGet i ∷ I.I64Const 32 ∷ I.I64ShrU ∷ I.I64Eqz ∷ []

abbrev pub upper_check : DebugChecks → (halved : Bool) → ℕ → List Instr
upper_check (On upper aligned) true i = guard_code (upper_test i) upper
upper_check _ _ i = []

abbrev pub read_code : DebugChecks → Number → From → List Instr
read_code checks n (InLocals []) = []
read_code checks n (InLocals (s ∷ ss)) = upper_check checks (is_halved n s.1) s.0 ++ I.LocalGet s.0 ∷ narrow n s.1
read_code checks n (InMemory memory base offset) = I.LocalGet base ∷ load_code (load_of n) (memarg_at (load_align (load_of n)) offset memory) ∷ []

-- what stands in front of the code that makes the number
abbrev pub code_before : To → List Instr
code_before (ToLocals slots) = []
code_before (ToMemory memory base offset) = I.LocalGet base ∷ []

-- and what behind it
abbrev pub code_behind : Number → To → List Instr
code_behind n (ToLocals []) = []
code_behind n (ToLocals (s ∷ ss)) = widen n s.1 ++ I.LocalSet s.0 ∷ []
code_behind n (ToMemory memory base offset) = store_code (store_of n) (memarg_at (store_align (store_of n)) offset memory) ∷ []

-- ---- debug checks of places

-- whether an address is a multiple of an alignment
abbrev pub place_test : (memory64 : Bool) → (base offset align : ℕ) → List Instr
place_test true base offset align = I.LocalGet base ∷ I.I64Const offset ∷ I.I64Add ∷ I.I64Const (align - 1) ∷ I.I64And ∷ I.I64Eqz ∷ []
place_test false base offset align = I.LocalGet base ∷ I.I32Const offset ∷ I.I32Add ∷ I.I32Const (align - 1) ∷ I.I32And ∷ I.I32Eqz ∷ []

-- with debug checks on it has to be one, which needs no test where the alignment is one byte
abbrev pub place_check : (one : Bool) → DebugChecks → (memory64 : Bool) → (base offset align : ℕ) → List Instr
place_check true checks memory64 base offset align = []
place_check false Off memory64 base offset align = []
place_check false (On upper aligned) memory64 base offset align = guard_code (place_test memory64 base offset align) aligned

abbrev pub from_check : DebugChecks → (memory64 : Bool) → (align : ℕ) → From → List Instr
from_check checks memory64 align (InLocals slots) = []
from_check checks memory64 align (InMemory memory base offset) = place_check (nat_eq align 1) checks memory64 base offset align

abbrev pub to_check : DebugChecks → (memory64 : Bool) → (align : ℕ) → To → List Instr
to_check checks memory64 align (ToLocals slots) = []
to_check checks memory64 align (ToMemory memory base offset) = place_check (nat_eq align 1) checks memory64 base offset align

-- the checks of the two places of a node, by their alignments
abbrev pub node_check : Setting → (from_align to_align : ℕ) → From → To → List Instr
node_check S from_align to_align from to = from_check S.checks S.from64 from_align from ++ to_check S.checks S.to64 to_align to

-- the function of the trap is there where there is a test
abbrev pub HasAligned : (one : Bool) → WasmModule → ImportPlaces → DebugChecks → Type 0
HasAligned true M p checks = Unit {0}
HasAligned false M p Off = Unit {0}
HasAligned false M p (On upper aligned) = KnowsFunction M p (import.Trap DebugAssertPointerAligned) aligned [] []

abbrev pub FromChecked : WasmModule → ImportPlaces → DebugChecks → (align : ℕ) → From → Type 0
FromChecked M p checks align (InLocals slots) = Unit {0}
FromChecked M p checks align (InMemory memory base offset) = HasAligned (nat_eq align 1) M p checks

abbrev pub ToChecked : WasmModule → ImportPlaces → DebugChecks → (align : ℕ) → To → Type 0
ToChecked M p checks align (ToLocals slots) = Unit {0}
ToChecked M p checks align (ToMemory memory base offset) = HasAligned (nat_eq align 1) M p checks

-- ---- types of places

abbrev pub AreLocals : List ValType → List Slot → Type 0
AreLocals locals [] = Unit {0}
AreLocals locals (s ∷ ss) = (slice_get locals s.0 ≡ Some s.1) × AreLocals locals ss

-- the local of an address, and an offset that its memory's addresses reach
pub record BasedAt (locals : List ValType) (memory64 : Bool) (base offset : ℕ) : Type 0 where
  pub local : slice_get locals base ≡ Some (address_type memory64)
  pub reached : offset < 2 ^ address_bits memory64

abbrev pub FromTyped : List ValType → Bool → From → Type 0
FromTyped locals memory64 (InLocals slots) = AreLocals locals slots
FromTyped locals memory64 (InMemory memory base offset) = BasedAt locals memory64 base offset

abbrev pub ToTyped : List ValType → Bool → To → Type 0
ToTyped locals memory64 (ToLocals slots) = AreLocals locals slots
ToTyped locals memory64 (ToMemory memory base offset) = BasedAt locals memory64 base offset

-- a number may be moved from the one place to the other
pub record FitsNumber (S : Setting) (n : Number) (from : From) (to : To) : Type 0 where
  pub readable : Readable S.whole S.places S.checks S.from S.from64 n from
  pub writable : Writable S.whole S.places S.to S.to64 n to
  pub from_typed : FromTyped S.locals S.from64 from
  pub to_typed : ToTyped S.locals S.to64 to

-- ---- places in use

abbrev pub AreUsed : (ℕ → Bool) → List Slot → Type 0
AreUsed used [] = Unit {0}
AreUsed used (s ∷ ss) = (used s.0 ≡ true) × AreUsed used ss

-- what code reads from is in use
abbrev pub FromUsed : (ℕ → Bool) → From → Type 0
FromUsed used (InLocals slots) = AreUsed used slots
FromUsed used (InMemory memory base offset) = used base ≡ true

-- and the address of what it writes to
abbrev pub ToUsed : (ℕ → Bool) → To → Type 0
ToUsed used (ToLocals slots) = Unit {0}
ToUsed used (ToMemory memory base offset) = used base ≡ true

-- ---- parts

abbrev pub to_past : (count : ℕ) → To → To
to_past count (ToLocals ss) = ToLocals (drop count ss)
to_past count (ToMemory memory base offset) = ToMemory memory base offset

-- a local is none of these
abbrev pub IsNone : ℕ → List Slot → Type 0
IsNone i [] = Unit {0}
IsNone i (s ∷ ss) = (nat_eq i s.0 ≡ false) × IsNone i ss

-- no local stands in two slots
abbrev pub AreDistinctSlots : List Slot → Type 0
AreDistinctSlots [] = Unit {0}
AreDistinctSlots (s ∷ ss) = IsNone s.0 ss × AreDistinctSlots ss
