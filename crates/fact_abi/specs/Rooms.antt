-- Cited by private clauses alone.
-- Numbers that a walk over a memory computes stay within 128 bits.
use Rattle.std.specs.Prelude.{◌≡◌, ℕ, ◌+◌, ◌≤◌, ◌^◌, List, Option, Some, slice_get}
use Rattle.fact_types.specs.declared.interface.InterfaceType.{InterfaceType}
use Rattle.fact_types.specs.declared.interface.InterfaceType.TheVariants as ty
use Rattle.fact_types.specs.declared.extents.MemoryWidth.{MemoryWidth}
use Rattle.fact_types.specs.Layout.{extent}
use Rattle.fact_types.specs.Shapes.{Members, ends_of}
use Rattle.fact_types.specs.Tables.{Tables, abi_at}
use Rattle.fact_values.specs.declared.side.SideAbi.{SideAbi}
use Rattle.fact_abi.specs.Nodes.{AreOf}
use Rattle.fact_values.specs.Places.{width_of, payload_place}

-- The bytes of a value of a type without members, but for a string.
abbrev pub plain_bytes : InterfaceType → ℕ
plain_bytes ty.Bool = 1
plain_bytes ty.S8 = 1
plain_bytes ty.U8 = 1
plain_bytes ty.S16 = 2
plain_bytes ty.U16 = 2
plain_bytes ty.S64 = 8
plain_bytes ty.U64 = 8
plain_bytes ty.Float64 = 8
plain_bytes _ = 4

-- A value of a type has room behind an address.
abbrev pub RoomFor : Tables → MemoryWidth → ℕ → InterfaceType → Type 0
RoomFor t w address y = address + (extent w (abi_at t y)).size ≤ 2 ^ 90

-- Members that stand one behind the other end within 32 bits, and have room behind an address.
pub record IsFitting (w : MemoryWidth) (address : ℕ) (ms : Members) : Type 0 where
  pub ends : ends_of w ms 0 ≤ 4294967295
  pub room : address + ends_of w ms 0 ≤ 2 ^ 90

pub record RoomForMembers (t : Tables) (w : MemoryWidth) (address : ℕ) (types : List (Option InterfaceType)) : Type 0 where
  pub members : Members
  pub are : AreOf t types members
  pub fits : IsFitting w address members

-- Each payload has room behind an address.
pub record RoomForPayload (t : Tables) (w : MemoryWidth) (address : ℕ) (types : List (Option InterfaceType)) : Type 0 where
  pub each : (i : ℕ) (y : InterfaceType) → slice_get types i ≡ Some (Some y) → RoomFor t w address y

-- The payload of each case has room behind the place of the payload of these cases.
pub record RoomForCases (t : Tables) (side : SideAbi) (address : ℕ) (types : List (Option InterfaceType)) : Type 0 where
  pub members : Members
  pub are : AreOf t types members
  pub payload : RoomForPayload t (width_of side) (address + payload_place side members) types
