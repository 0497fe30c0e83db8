-- The places of a move: what stands at a source, and how a value lands at a target.
use Rattle.std.specs.Prelude.{◌≡◌, ℕ, ◌+◌, ◌^◌, ◌<◌, ◌≤◌, ◌&&◌, Bool, true, false, List, [], ◌∷◌, length, Option, Some, None, get_or, slice_get}
use Rattle.fact_wasm.specs.declared.types.ValType.{ValType}
use Rattle.fact_wasm.specs.declared.types.ValType.TheVariants as val
use Rattle.fact_types.specs.declared.flats.FlatType.{FlatType}
use Rattle.fact_types.specs.declared.flats.FlatType.TheVariants as flat_type
use Rattle.fact_types.specs.Flat.{join}
use Rattle.fact_types.specs.Shapes.{Shape}
use Rattle.fact_machine.specs.declared.types.CoreValue.{CoreValue}
use Rattle.fact_machine.specs.declared.types.CoreValue.TheVariants.{I32, I64, F32, F64, Func}
use Rattle.fact_machine.specs.World.{World}
use Rattle.fact_machine.specs.Typed.{are_values}
use Rattle.fact_actions.specs.Sides.{LiftLowerOptions, Source, Values, AtAddress, Target, Slots, Into, side_abi}
use Rattle.fact_values.specs.declared.side.SideAbi.{SideAbi}
use Rattle.fact_values.specs.declared.value.Value.{Value}
use Rattle.fact_values.specs.Canonical.{IsCanonicalAt, IsCanonicalFlat}
use Rattle.fact_values.specs.Lift.{is_same, lift_leading}
use Rattle.fact_values.specs.Load.{load}
use Rattle.fact_action_laws.specs.Regions.{TransferSetting, AreBytesOf}
use Rattle.fact_actions.specs.Order.{HaveTwoMemories}
use Rattle.fact_actions.specs.Running.{ImportPlaces}
use Rattle.fact_types.specs.declared.outside.MemoryOption.{MemoryOption}

abbrev pub from_side : TransferSetting → SideAbi
from_side c = side_abi c.transfer.from

abbrev pub to_side : TransferSetting → SideAbi
to_side c = side_abi c.transfer.to

abbrev pub HasSideMemory : LiftLowerOptions → Type 0
HasSideMemory o = elim o.memory [ None ↦ ⊥ | Some m ↦ Unit {0} ]

-- ---- sources

-- the value that stands at a source
abbrev pub value_at_source : TransferSetting → Shape → Source → Option Value
value_at_source c t (Values vs) = lift_leading (from_side c) c.source t vs
value_at_source c t (AtAddress a) = load (from_side c) c.source t a

-- a core value by bits of its type
abbrev pub IsInRange : CoreValue → Type 0
IsInRange (I32 n) = n < 2 ^ 32
IsInRange (I64 n) = n < 2 ^ 64
IsInRange (F32 n) = n < 2 ^ 32
IsInRange (F64 n) = n < 2 ^ 64
IsInRange (Func f) = ⊥

abbrev pub AreInRange : List CoreValue → Type 0
AreInRange [] = Unit {0}
AreInRange (v ∷ vs) = IsInRange v × AreInRange vs

-- so many core values, or an address of a memory that is there
abbrev pub IsSource : TransferSetting → (flats : ℕ) → Source → Type 0
IsSource c n (Values vs) = (length vs ≡ n) × AreInRange vs
IsSource c n (AtAddress a) = HasSideMemory c.transfer.from

-- ---- targets

-- a slot of a type that can stand for a flat type: it may be the wider one of another case
abbrev pub can_hold : FlatType → ValType → Bool
can_hold f val.I32 = is_same (join f flat_type.I32) flat_type.I32
can_hold f val.I64 = is_same (join f flat_type.I64) flat_type.I64
can_hold f val.F32 = is_same (join f flat_type.F32) flat_type.F32
can_hold f val.F64 = is_same (join f flat_type.F64) flat_type.F64
can_hold f val.FuncRef = false

abbrev pub can_hold_all : List FlatType → List ValType → Bool
can_hold_all [] [] = true
can_hold_all [] (t ∷ ts) = false
can_hold_all (f ∷ fs) [] = false
can_hold_all (f ∷ fs) (t ∷ ts) = can_hold f t && can_hold_all fs ts

-- Slots for flat types, or so many bytes in a memory of these bytes, all of them in live regions or the return area.
abbrev pub IsTarget : TransferSetting → (flats : List FlatType) → (size : ℕ) → (live : ℕ → Type 0) → List ℕ → Target → Type 0
IsTarget c fs n live m (Slots ts) = can_hold_all fs ts ≡ true
IsTarget c fs n live m (Into b) = HasSideMemory c.transfer.to × (b + n ≤ length m) × ((j : ℕ) → b ≤ j → j < b + n → live j)

-- the addresses of a target
abbrev pub IsAtTarget : ℕ → Target → ℕ → Type 0
IsAtTarget n (Slots ts) j = ⊥
IsAtTarget n (Into b) j = (b ≤ j) × (j < b + n)

-- what is given for a target: values of its slots, and none where it lies in memory
abbrev pub IsGiven : Target → List CoreValue → Type 0
IsGiven (Slots ts) vs = are_values vs ts ≡ true
IsGiven (Into b) vs = vs ≡ []

-- A value stands at a target, canonically, where the memory has these bytes.
abbrev pub StandsAtTarget : TransferSetting → Shape → Value → Target → List CoreValue → List ℕ → Type 0
StandsAtTarget c u v (Slots ts) vs bytes = (lift_leading (to_side c) bytes u vs ≡ Some v) × IsCanonicalFlat (to_side c) bytes u vs
StandsAtTarget c u v (Into b) vs bytes = (load (to_side c) bytes u b ≡ Some v) × IsCanonicalAt (to_side c) bytes u b

-- ---- memories

-- The memories of both sides in a world: that of the source has the bytes that it had in the beginning.
pub record HoldsMemories (c : TransferSetting) (bytes : List ℕ) (w : World) : Type 0 where
  pub from : AreBytesOf c.places c.transfer.from w.state c.source
  pub to : AreBytesOf c.places c.transfer.to w.state bytes

-- A fact about bytes that rests on these addresses alone: it holds of all bytes that agree there.
pub record Agree (F : ℕ → Type 0) (m m' : List ℕ) : Type 0 where
  pub same : (j : ℕ) → F j → get_or m' j 0 ≡ get_or m j 0
  pub room : length m ≤ length m'

pub record Rests (F : ℕ → Type 0) (m : List ℕ) (P : List ℕ → Type 0) : Type 0 where
  pub holds : (m' : List ℕ) → Agree F m m' → P m'

-- What a transfer stands on is in order: the memory of the source holds bytes, the memories are apart, and there are no debug
-- checks.
pub record IsGrounded (c : TransferSetting) : Type 0 where
  pub quiet : c.transfer.debug ≡ false
  pub bytes : (j : ℕ) → get_or c.source j 0 < 256
  pub apart : HaveTwoMemories c.places c.transfer.from c.transfer.to

-- A module tells the width of a memory, beside its page size.
pub record IsKnownMemory (p : ImportPlaces) (m : MemoryOption) : Type 0 where
  pub page : Option ℕ
  pub is : slice_get p.memory_types (p.memory m.def) ≡ Some (m.memory64, page)

-- so it does where a side has a memory
abbrev pub HasKnownMemory : ImportPlaces → Option MemoryOption → Type 0
HasKnownMemory p None = Unit {0}
HasKnownMemory p (Some m) = IsKnownMemory p m
