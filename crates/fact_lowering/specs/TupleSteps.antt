-- The steps by which tuples are lowered and lifted.
use Rattle.std.specs.Prelude.{◌≡◌, ℕ, ◌+◌, ◌^◌, ◌<◌, ◌≤◌, List, [], ◌∷◌, length, take, drop, Option, Some, None, if◌then◌else◌}
use Rattle.fact_machine.specs.declared.types.CoreValue.{CoreValue}
use Rattle.fact_types.specs.declared.interface.InterfaceType.{InterfaceType}
use Rattle.fact_types.specs.declared.flats.FlatType.{FlatType}
use Rattle.fact_types.specs.FlatShapes.{flat, flat_each, pointer}
use Rattle.fact_types.specs.Functions.{HaveShapes}
use Rattle.fact_types.specs.Shapes.{Shape, ends_of}
use Rattle.fact_types.specs.Tables.{Tables}
use Rattle.fact_types.specs.Tuples.{members_from, tuple_members, tuple_of}
use Rattle.fact_values.specs.declared.side.SideAbi.{SideAbi}
use Rattle.fact_values.specs.declared.value.Value.{Value}
use Rattle.fact_values.specs.IsA.{AreMembers}
use Rattle.fact_values.specs.Lift.{can_stand, lift, number_as}
use Rattle.fact_values.specs.Places.{extent_on, width_of}
use Rattle.fact_values.specs.Tuples.{lift_all}
use Rattle.fact_lowering.specs.Lowered.{AreLowered, CanStore, IsLoweredTo, IsTakenFor, IsWritten, LacksRoom, ReadsMembers, own_rooms, tuple_room}
use Rattle.fact_lowering.specs.Lowerings.{core_of}
use Rattle.fact_lowering.specs.TextForms.{AreByForm}

-- the number of a pointer, where a core value can stand for one
abbrev pub pointer_number : SideAbi → CoreValue → Option ℕ
pointer_number side c = if can_stand (pointer (width_of side)) c then Some (number_as (pointer (width_of side)) c) else None

-- The value of the first core values, as many as flat types, and the others behind so many.
abbrev pub IsPartLifted : SideAbi → List ℕ → Shape → List CoreValue → Option (Value × ℕ) → Type 0
IsPartLifted side bytes s cs None = lift side bytes s (take (length (flat (width_of side) s)) cs) ≡ None
IsPartLifted side bytes s cs (Some p) =
    (lift side bytes s (take (length (flat (width_of side) s)) cs) ≡ Some p.0) × (drop p.1 cs ≡ drop (length (flat (width_of side) s)) cs) × (p.1 ≤ length cs)

-- Values of the types of a tuple.
pub record IsTupleLowerable (t : Tables) (side : SideAbi) (tys : List InterfaceType) (vs : List Value) (cursor : ℕ) (bytes : List ℕ) : Type 0 where
  pub shapes : List Shape
  pub shaped : HaveShapes t tys shapes
  pub are : AreMembers (tuple_members shapes) vs
  pub can : CanStore cursor bytes

-- They were lowered, or there was less room.
abbrev pub TupleLoweredOr : SideAbi → ℕ → List Shape → List Value → Option (List CoreValue) → (low high : ℕ) → (before after : List ℕ) → Type 0
TupleLoweredOr side limit ss vs None low high before after = LacksRoom low (tuple_room side limit ss vs) before
TupleLoweredOr side limit ss vs (Some cores) low high before after = AreLowered side limit ss vs cores low high before after

-- Values of a tuple, whose members are named from a place on, as core values.
abbrev pub ReadsTuple : SideAbi → ℕ → List Shape → List Value → List CoreValue → List ℕ → Type 0
ReadsTuple side n ss vs cs bytes = (lift_all side bytes ss cs ≡ Some vs) × AreByForm side bytes (members_from n ss) cs

-- A region was taken for a tuple, or there is no room for it.
abbrev pub TakenOr : SideAbi → List Shape → Option ℕ → (low high : ℕ) → List ℕ → Type 0
TakenOr side ss None low high bytes = (length bytes < low + 8 + (extent_on side (tuple_of ss)).size) × (high ≡ low)
TakenOr side ss (Some place) low high bytes = IsTakenFor side ss place low high bytes

-- Values of a tuple were lowered one behind the other, or there was less room.
abbrev pub FlatLoweredOr : SideAbi → List Shape → List Value → Option (List CoreValue) → (low high : ℕ) → (before after : List ℕ) → Type 0
FlatLoweredOr side ss vs None low high before after = LacksRoom low (own_rooms side (tuple_members ss) vs) before
FlatLoweredOr side ss vs (Some cores) low high before after =
    (fs : List FlatType) → flat_each (width_of side) ss ≡ Some fs → IsLoweredTo (λ cs other. ReadsTuple side 0 ss vs cs other) fs low high (own_rooms side (tuple_members ss) vs) before after [] cores

-- Values of a tuple stand at a place behind the old cursor, and a pointer to them is the one core value.
pub record StandsBehind (side : SideAbi) (ss : List Shape) (vs : List Value) (cores : List CoreValue) (low high : ℕ) (before after : List ℕ) : Type 0 where
  pub place : ℕ
  pub middle : ℕ
  pub taken : IsTakenFor side ss place low middle before
  pub small : place < 2 ^ 32
  pub pointer : cores ≡ core_of (pointer (width_of side)) place ∷ []
  pub written : IsWritten (ReadsMembers side (tuple_members ss) vs place 0) place (ends_of (width_of side) (tuple_members ss) 0) middle high (own_rooms side (tuple_members ss) vs) before after

abbrev pub BehindLoweredOr : SideAbi → List Shape → List Value → Option (List CoreValue) → (low high : ℕ) → (before after : List ℕ) → Type 0
BehindLoweredOr side ss vs None low high before after = LacksRoom low (8 + (extent_on side (tuple_of ss)).size + own_rooms side (tuple_members ss) vs) before
BehindLoweredOr side ss vs (Some cores) low high before after = StandsBehind side ss vs cores low high before after
