-- The room behind the addresses of areas: all bytes of an area that was checked have addresses.
use Rattle.std.proofs.Common.{◌≡◌, ℕ, ◌+◌, ◌^◌, ◌≤◌, Bool, true, false, List, Option, Some, None, ap, arith}
use Rattle.std.specs.Prelude.{is_some}
use Rattle.fact_wasm.specs.declared.types.ValType.{ValType}
use Rattle.fact_machine.specs.Typing.{address_bits, address_operand}
use Rattle.fact_types.specs.Shapes.{Shape}
use Rattle.std.specs.Prelude.{slice_get}
use Rattle.fact_code_laws.specs.Does.{Locals}
use Rattle.fact_code_laws.specs.Places.{Slot, Rooms, FromRoom, ToRoom}
use Rattle.fact_code_laws.proofs.Keeping.{room_at}
use Rattle.fact_emit.specs.Fitting.{FromWithin, ToWithin}
use Rattle.fact_emit.specs.declared.places.LinearMemory.{LinearMemory}
use Rattle.fact_compound.specs.Passing.{last_local, tuple_from, tuple_to, tuple_size}

-- the bytes of the tuples on either side
abbrev pub tuple_rooms : (from to : LinearMemory) → (from_types to_types : List Shape) → Rooms
tuple_rooms from to ss ds = record { from = tuple_size from.memory64 ss; to = tuple_size to.memory64 ds }

-- an area is as large as its tuple
pub from_within : (m : LinearMemory) (wide : Bool) (ts : List Shape) (flat : Bool) (slots : List Slot) → wide ≡ m.memory64 → FromWithin (tuple_size m.memory64 ts) (tuple_from m flat slots) (tuple_size wide ts)
from_within m wide ts true slots e = tt
from_within m wide ts false slots e = let same : tuple_size wide ts ≡ tuple_size m.memory64 ts = ap (λ b. tuple_size b ts) e in omega (arith, same)

pub to_within : (m : LinearMemory) (wide : Bool) (ts : List Shape) (flat : Bool) (results args : List Slot) → wide ≡ m.memory64 → ToWithin (tuple_size m.memory64 ts) (tuple_to m flat results args) (tuple_size wide ts)
to_within m wide ts true results args e = tt
to_within m wide ts false results args e = let same : tuple_size wide ts ≡ tuple_size m.memory64 ts = ap (λ b. tuple_size b ts) e in omega (arith, same)

-- where values are not flat, so many bytes from an address on have addresses
abbrev pub RoomBy : Option (List ValType) → (memory64 : Bool) → (at size : ℕ) → Type 0
RoomBy (Some flats) memory64 at size = Unit {0}
RoomBy None memory64 at size = at + size ≤ 2 ^ address_bits memory64

pub record HasArea (flats : Option (List ValType)) (memory64 : Bool) (at size : ℕ) : Type 0 where
  pub by : RoomBy flats memory64 at size

-- and a local holds the address
abbrev pub AddressBy : Option (List ValType) → Locals → (memory64 : Bool) → (address at : ℕ) → Type 0
AddressBy (Some flats) ls memory64 address at = Unit {0}
AddressBy None ls memory64 address at = slice_get ls address ≡ Some (Some (address_operand memory64 at))

pub from_room : (flats : Option (List ValType)) (flat : Bool) (m : LinearMemory) (slots : List Slot) (ls : Locals) (at size : ℕ) → flat ≡ is_some flats → AddressBy flats ls m.memory64 (last_local slots) at → HasArea flats m.memory64 at size
    → FromRoom ls m.memory64 (tuple_from m flat slots) size
from_room flats true m slots ls at size f there r = tt
from_room (Some fs) false m slots ls at size f there r = absurd (let no : false ≡ true = f in cc)
from_room None false m slots ls at size f there r = room_at m.memory64 (last_local slots) at size there r.by

pub to_room : (flats : Option (List ValType)) (flat : Bool) (m : LinearMemory) (results args : List Slot) (ls : Locals) (at size : ℕ) → flat ≡ is_some flats → AddressBy flats ls m.memory64 (last_local args) at → HasArea flats m.memory64 at size
    → ToRoom ls m.memory64 (tuple_to m flat results args) size
to_room flats true m results args ls at size f there r = tt
to_room (Some fs) false m results args ls at size f there r = absurd (let no : false ≡ true = f in cc)
to_room None false m results args ls at size f there r = room_at m.memory64 (last_local args) at size there r.by
