-- Places that have room for values of shapes.
use Rattle.std.specs.Prelude.{◌≡◌, ℕ, ◌+◌, ◌≤◌, Bool, true, List, [], ◌∷◌, length, Some, slice_get}
use Rattle.fact_wasm.specs.declared.types.ValType.{ValType}
use Rattle.fact_wasm.specs.declared.types.ValType.TheVariants as val
use Rattle.fact_wasm.specs.declared.module.WasmModule.{WasmModule}
use Rattle.fact_machine.specs.Typing.{address_type}
use Rattle.fact_types.specs.declared.flats.FlatType.{FlatType}
use Rattle.fact_types.specs.declared.flats.FlatType.TheVariants as flat_type
use Rattle.fact_types.specs.declared.extents.MemoryWidth.{MemoryWidth}
use Rattle.fact_types.specs.Adapters.{is_wide}
use Rattle.fact_types.specs.FlatShapes.{flat, flat_members}
use Rattle.fact_types.specs.Layout.{extent}
use Rattle.fact_types.specs.PointerPairs.{has_pointer_pair, have_pointer_pair}
use Rattle.fact_types.specs.Shapes.{Shape, s_plain, s_node, Members, layout_of, ends_of}
use Rattle.fact_actions.specs.Actions.{Visit}
use Rattle.fact_actions.specs.Moves.{move, move_fields, move_case, move_to_plain, move_to_node}
use Rattle.fact_actions.specs.Running.{ImportPlaces}
use Rattle.fact_actions.specs.Sides.{LiftLowerOptions, width_of_side}
use Rattle.fact_code_laws.specs.Places.{Slot, From, InLocals, InMemory, To, ToLocals, ToMemory, Number, N32, N64, SideMemory, AreLocals, Rooms, Setting}
use Rattle.fact_emit.specs.declared.places.Sides.{Sides}
use Rattle.fact_emit.specs.MovesValue.{Act, MovesValue}
use Rattle.fact_emit.specs.Pieces.{Piece}
use Rattle.fact_emit.specs.Requests.{ServesLists}

-- ---- room

-- a flat type as a number on the operand stack
abbrev pub number_for_flat : FlatType → Number
number_for_flat flat_type.I32 = N32
number_for_flat flat_type.I64 = N64
number_for_flat flat_type.F32 = N32
number_for_flat flat_type.F64 = N64

-- the types of slots of a flat type: its own, and those that it has where it is joined with others (canonical ABI, `join`)
abbrev pub IsSlotFor : FlatType → ValType → Type 0
IsSlotFor flat_type.I32 val.I32 = Unit {0}
IsSlotFor flat_type.I32 val.I64 = Unit {0}
IsSlotFor flat_type.I64 val.I64 = Unit {0}
IsSlotFor flat_type.F32 val.F32 = Unit {0}
IsSlotFor flat_type.F32 val.I32 = Unit {0}
IsSlotFor flat_type.F32 val.I64 = Unit {0}
IsSlotFor flat_type.F64 val.F64 = Unit {0}
IsSlotFor flat_type.F64 val.I64 = Unit {0}
IsSlotFor _ _ = ⊥

-- slots that may hold values of these flat types, one for each
abbrev pub AreRoom : List Slot → List FlatType → Type 0
AreRoom [] [] = Unit {0}
AreRoom (s ∷ ss) (t ∷ ts) = IsSlotFor t s.1 × AreRoom ss ts
AreRoom [] (t ∷ ts) = ⊥
AreRoom (s ∷ ss) [] = ⊥

pub record SlotsFit (locals : List ValType) (slots : List Slot) (types : List FlatType) : Type 0 where
  pub room : AreRoom slots types
  pub typed : AreLocals locals slots
  pub few : length slots ≤ 16

-- an address in a side's memory, behind which so many bytes have offsets
pub record AddressFits (M : WasmModule) (p : ImportPlaces) (locals : List ValType) (o : LiftLowerOptions) (memory64 : Bool) (memory base offset bytes : ℕ) : Type 0 where
  pub side : SideMemory M p o memory64 memory
  pub local : slice_get locals base ≡ Some (address_type memory64)
  pub reach : offset + bytes ≤ 4294967295

-- a value of these flat types and of so many bytes can be read there
abbrev pub CanRead : WasmModule → ImportPlaces → List ValType → LiftLowerOptions → Bool → From → List FlatType → ℕ → Type 0
CanRead M p locals o memory64 (InLocals slots) types bytes = SlotsFit locals slots types
CanRead M p locals o memory64 (InMemory memory base offset) types bytes = AddressFits M p locals o memory64 memory base offset bytes

-- and written there
abbrev pub CanWrite : WasmModule → ImportPlaces → List ValType → LiftLowerOptions → Bool → To → List FlatType → ℕ → Type 0
CanWrite M p locals o memory64 (ToLocals slots) types bytes = SlotsFit locals slots types
CanWrite M p locals o memory64 (ToMemory memory base offset) types bytes = AddressFits M p locals o memory64 memory base offset bytes

-- so many bytes of a place in memory are within the room behind the address that it is found by
abbrev pub FromWithin : (room : ℕ) → From → (bytes : ℕ) → Type 0
FromWithin room (InLocals slots) bytes = Unit {0}
FromWithin room (InMemory memory base offset) bytes = offset + bytes ≤ room

abbrev pub ToWithin : (room : ℕ) → To → (bytes : ℕ) → Type 0
ToWithin room (ToLocals slots) bytes = Unit {0}
ToWithin room (ToMemory memory base offset) bytes = offset + bytes ≤ room

pub record AreWithin (rooms : Rooms) (src : From) (dst : To) (from_bytes to_bytes : ℕ) : Type 0 where
  pub source : FromWithin rooms.from src from_bytes
  pub target : ToWithin rooms.to dst to_bytes

abbrev pub bytes_of_shape : MemoryWidth → Shape → ℕ
bytes_of_shape w t = (extent w (layout_of t)).size

-- A value of a source type can be read, and one of a destination type written, in this setting; and lists, where the source may hold
-- some. A destination may have more cases, whose lists never come.
pub record FitsShapes (sides : Sides) (S : Setting) (t u : Shape) (src : From) (dst : To) : Type 0 where
  pub from_wide : is_wide S.from.memory ≡ S.from64
  pub to_wide : is_wide S.to.memory ≡ S.to64
  pub reads : CanRead S.whole S.places S.locals S.from S.from64 src (flat (width_of_side S.from) t) (bytes_of_shape (width_of_side S.from) t)
  pub writes : CanWrite S.whole S.places S.locals S.to S.to64 dst (flat (width_of_side S.to) u) (bytes_of_shape (width_of_side S.to) u)
  pub within : AreWithin S.rooms src dst (bytes_of_shape (width_of_side S.from) t) (bytes_of_shape (width_of_side S.to) u)
  pub lists : has_pointer_pair t ≡ true → ServesLists sides.from sides.to S.whole S.places S.from S.to

-- The same of the fields of a record, where its last fields are still to be written, behind so many bytes.
pub record FitsFields (sides : Sides) (S : Setting) (ms ns : Members) (end : ℕ) (src : From) (dst : To) : Type 0 where
  pub from_wide : is_wide S.from.memory ≡ S.from64
  pub to_wide : is_wide S.to.memory ≡ S.to64
  pub reads : CanRead S.whole S.places S.locals S.from S.from64 src (flat_members (width_of_side S.from) ms) (ends_of (width_of_side S.from) ms 0)
  pub writes : CanWrite S.whole S.places S.locals S.to S.to64 dst (flat_members (width_of_side S.to) ns) (ends_of (width_of_side S.to) ns end)
  pub within : AreWithin S.rooms src dst (ends_of (width_of_side S.from) ms 0) (ends_of (width_of_side S.to) ns end)
  pub lists : have_pointer_pair ms ≡ true → ServesLists sides.from sides.to S.whole S.places S.from S.to

-- ---- what the code does

abbrev pub shape_moves : Shape → Shape → Act
shape_moves t u tr s d = move tr t u s d

-- the same behind the debug checks of its places
abbrev pub node_moves : Shape → Shape → Act
node_moves t (s_plain u) tr s d = Visit 1 (move_to_plain tr t u s d)
node_moves t (s_node l ns) tr s d = move_to_node tr t l ns (record { fields = λ ms s' d'. move_fields tr ms ns 0 s' d'; case = λ ms c s' d'. move_case tr ms ns c ns 0 s' d' }) s d

abbrev pub field_moves : Members → Members → ℕ → Act
field_moves ms ns end tr s d = move_fields tr ms ns end s d

-- Code that moves a value of a source type to a place of a destination type, and leaves 500 of the steps of its weight.
abbrev pub MovesShape : Sides → From → To → (ℕ → Bool) → Shape → Shape → Piece
MovesShape sides src dst taken t u = MovesValue sides src dst taken 500 (λ S. FitsShapes sides S t u src dst) (shape_moves t u)

-- The same behind the debug checks of its places, which take 16 steps.
abbrev pub MovesNode : Sides → From → To → (ℕ → Bool) → Shape → Shape → Piece
MovesNode sides src dst taken t u = MovesValue sides src dst taken 516 (λ S. FitsShapes sides S t u src dst) (node_moves t u)

-- The same of a tuple, whose own weight takes no steps.
abbrev pub MovesTuple : Sides → From → To → (ℕ → Bool) → Shape → Shape → Piece
MovesTuple sides src dst taken t u = MovesValue sides src dst taken 900 (λ S. FitsShapes sides S t u src dst) (node_moves t u)

-- Code that moves the fields of a record that are left.
abbrev pub MovesFields : Sides → From → To → (ℕ → Bool) → Members → Members → ℕ → Piece
MovesFields sides src dst taken ms ns end = MovesValue sides src dst taken 0 (λ S. FitsFields sides S ms ns end src dst) (field_moves ms ns end)
