-- The steps by which values become core values.
use Rattle.std.specs.Prelude.{◌≡◌, ℕ, ◌≤◌, List, [], ◌∷◌, length, map, take, Bool, Option, Some, None}
use Rattle.fact_machine.specs.declared.types.CoreValue.{CoreValue}
use Rattle.fact_types.specs.declared.flats.FlatType.{FlatType}
use Rattle.fact_types.specs.declared.interface.InterfaceType.{InterfaceType}
use Rattle.fact_types.specs.Agrees.{chosen}
use Rattle.fact_types.specs.FlatShapes.{flat}
use Rattle.fact_types.specs.Shapes.{Shape}
use Rattle.fact_types.specs.Tables.{Tables, IsLive, HasShape}
use Rattle.fact_abi.specs.declared.nodes.Node.{Node}
use Rattle.fact_abi.specs.declared.nodes.NodeKind.{NodeKind}
use Rattle.fact_abi.specs.declared.nodes.NodeKind.TheVariants as is
use Rattle.fact_abi.specs.Nodes.{HasNode}
use Rattle.fact_values.specs.declared.side.SideAbi.{SideAbi}
use Rattle.fact_values.specs.declared.value.Value.{Value}
use Rattle.fact_values.specs.IsA.{IsA}
use Rattle.fact_values.specs.Places.{width_of}
use Rattle.fact_lowering.specs.Lowered.{AreWideFor, BeginWideFor, CanStore, IsLowered, LacksRoom, own_room}
use Rattle.fact_lowering.specs.Lowerings.{core_of}

-- A value of a type can be lowered to slots: they are as many as its flat types, at most 16, and as wide.
pub record IsLowerable (t : Tables) (side : SideAbi) (ty : InterfaceType) (v : Value) (slots : List FlatType) (cursor : ℕ) (bytes : List ℕ) : Type 0 where
  pub shape : Shape
  pub shaped : HasShape t ty shape
  pub is : IsA shape v
  pub wide : AreWideFor (flat (width_of side) shape) slots
  pub few : length slots ≤ 16
  pub can : CanStore cursor bytes

-- So to the first of some slots.
pub record IsMemberLowerable (t : Tables) (side : SideAbi) (ty : InterfaceType) (v : Value) (slots : List FlatType) (cursor : ℕ) (bytes : List ℕ) : Type 0 where
  pub shape : Shape
  pub shaped : HasShape t ty shape
  pub is : IsA shape v
  pub wide : BeginWideFor (flat (width_of side) shape) slots
  pub few : length slots ≤ 16
  pub can : CanStore cursor bytes

-- A value was lowered to slots, or there was less room.
abbrev pub LoweredOr : Tables → SideAbi → InterfaceType → Value → List FlatType → (done : Bool) → (low high : ℕ) → (before after : List ℕ) → (out out' : List CoreValue) → Type 0
LoweredOr t side ty v slots done low high before after out out' =
    (s : Shape) → HasShape t ty s → chosen done (IsLowered side s v slots low high before after out out') (LacksRoom low (own_room side s v) before)

-- So to the first of some slots, as many as its flat types.
abbrev pub MemberLowered : SideAbi → Shape → Value → List FlatType → (count : Option ℕ) → (low high : ℕ) → (before after : List ℕ) → (out out' : List CoreValue) → Type 0
MemberLowered side s v slots None low high before after out out' = LacksRoom low (own_room side s v) before
MemberLowered side s v slots (Some n) low high before after out out' = (n ≡ length (flat (width_of side) s)) × IsLowered side s v (take n slots) low high before after out out'

abbrev pub MemberLoweredOr : Tables → SideAbi → InterfaceType → Value → List FlatType → (count : Option ℕ) → (low high : ℕ) → (before after : List ℕ) → (out out' : List CoreValue) → Type 0
MemberLoweredOr t side ty v slots count low high before after out out' = (s : Shape) → HasShape t ty s → MemberLowered side s v slots count low high before after out out'

-- The payload of a case, where its case has one.
abbrev pub IsPayloadLowerable : Tables → SideAbi → Option InterfaceType → (payload : List Value) → List FlatType → (cursor : ℕ) → (bytes : List ℕ) → Type 0
IsPayloadLowerable t side None vs slots cursor bytes = cursor ≤ length bytes
IsPayloadLowerable t side (Some y) [] slots cursor bytes = ⊥
IsPayloadLowerable t side (Some y) (v ∷ vs) slots cursor bytes = IsMemberLowerable t side y v slots cursor bytes

-- No core values and nothing else were written.
pub record LeavesAll (count : Option ℕ) (low high : ℕ) (before after : List ℕ) (out out' : List CoreValue) : Type 0 where
  pub none : count ≡ Some 0
  pub cursor : high ≡ low
  pub bytes : after ≡ before
  pub cores : out' ≡ out

abbrev pub PayloadLoweredOr : Tables → SideAbi → Option InterfaceType → (payload : List Value) → List FlatType → (count : Option ℕ) → (low high : ℕ) → (before after : List ℕ) → (out out' : List CoreValue) → Type 0
PayloadLoweredOr t side None vs slots count low high before after out out' = LeavesAll count low high before after out out'
PayloadLoweredOr t side (Some y) [] slots count low high before after out out' = ⊥
PayloadLoweredOr t side (Some y) (v ∷ vs) slots count low high before after out out' = MemberLoweredOr t side y v slots count low high before after out out'

-- zeros of flat types
abbrev pub zeros_of : List FlatType → List CoreValue
zeros_of fs = map (λ f. core_of f 0) fs

-- The type of a node of a kind.
pub record IsNodeOfKind (t : Tables) (ty : InterfaceType) (x : Node) (k : NodeKind) : Type 0 where
  pub live : IsLive t ty
  pub told : HasNode t ty x
  pub kind : x.kind ≡ k

-- futures and streams
abbrev pub IsHandleKind : NodeKind → Type 0
IsHandleKind (is.Future table instance) = Unit {0}
IsHandleKind (is.Stream table instance) = Unit {0}
IsHandleKind _ = ⊥
