-- What is proved of the moves of two types, and of the fields of two records.
use Rattle.std.proofs.Common.{◌≡◌, ℕ, ◌+◌, ◌≤◌, ◌<◌, List, ◌++◌, length, Option, Some, true}
use Rattle.std.specs.List.{zip}
use Rattle.fact_types.specs.Agrees.{named}
use Rattle.fact_types.specs.FlatShapes.{flat_members}
use Rattle.fact_types.specs.Shapes.{Shape, Members, no_members, bare, typed, ends_of}
use Rattle.fact_machine.specs.declared.types.CoreValue.{CoreValue}
use Rattle.fact_machine.specs.World.{World}
use Rattle.fact_actions.specs.Moves.{move_fields}
use Rattle.fact_actions.specs.Running.{Call}
use Rattle.fact_actions.specs.Sides.{Source, Values, AtAddress, Target, Slots, Into, width_of_side}
use Rattle.fact_values.specs.declared.value.Value.{Value}
use Rattle.fact_values.specs.Canonical.{AreCanonicalAt, AreCanonicalFlat}
use Rattle.fact_values.specs.Carry.{take_number}
use Rattle.fact_values.specs.Handles.{cross_fields, value_named}
use Rattle.fact_values.specs.Lift.{lift_members}
use Rattle.fact_values.specs.Limits.{AreWithinLimits, AreWithinAt}
use Rattle.fact_values.specs.Load.{load_members}
use Rattle.fact_values.specs.Places.{typed_names}
use Rattle.fact_values.specs.Weight.{weight}
use Rattle.fact_action_laws.specs.Footprints.{HasChanged}
use Rattle.fact_action_laws.specs.Items.{items_fields, numbers, AreItemCalls}
use Rattle.fact_action_laws.specs.MoveTerms.{moving, MayStop}
use Rattle.fact_action_laws.specs.Places.{to_side, IsSource, can_hold_all, IsGiven, HoldsMemories, HasSideMemory}
use Rattle.fact_actions.specs.Regions.{Region}
use Rattle.fact_action_laws.specs.Regions.{TransferSetting, IsInHand}
use Rattle.fact_action_laws.proofs.Fields.{members_taken}
use Rattle.fact_action_laws.specs.Judged.{RunsHonestly}

-- ---- the fields of a record, from an offset on

abbrev pub IsMembersTarget : TransferSetting → Members → (end : ℕ) → (live : ℕ → Type 0) → List ℕ → Target → Type 0
IsMembersTarget c ns e live m (Slots ts) = can_hold_all (flat_members (width_of_side c.transfer.to) ns) ts ≡ true
IsMembersTarget c ns e live m (Into b) =
    HasSideMemory c.transfer.to × (b + ends_of (width_of_side c.transfer.to) ns e ≤ length m) × ((j : ℕ) → b + e ≤ j → j < b + ends_of (width_of_side c.transfer.to) ns e → live j)

abbrev pub IsAmong : TransferSetting → Members → (end : ℕ) → Target → ℕ → Type 0
IsAmong c ns e (Slots ts) j = ⊥
IsAmong c ns e (Into b) j = (b + e ≤ j) × (j < b + ends_of (width_of_side c.transfer.to) ns e)

abbrev pub MembersStand : TransferSetting → Members → (end : ℕ) → List Value → Target → List CoreValue → List ℕ → Type 0
MembersStand c ns e outs (Slots ts) us bytes = (lift_members (to_side c) bytes ns us ≡ Some outs) × AreCanonicalFlat (to_side c) bytes ns us
MembersStand c ns e outs (Into b) us bytes = (load_members (to_side c) bytes ns b e ≡ Some outs) × AreCanonicalAt (to_side c) bytes ns b e

abbrev pub AreFit : TransferSetting → (ms ns : Members) → Source → Type 0
AreFit c ms ns (Values vs) = AreWithinLimits (moving c) ms ns vs
AreFit c ms ns (AtAddress a) = AreWithinAt (moving c) ms ns a

-- the weight of the fields of a destination, each by its name among those of a source
abbrev pub field_weight : Option Shape → Option Value → ℕ
field_weight (Some s) (Some v) = weight s v
field_weight _ _ = 0

abbrev pub fields_weight : Members → List (List ℕ × Value) → Members → ℕ
fields_weight ms fs no_members = 0
fields_weight ms fs (bare x ns) = fields_weight ms fs ns
fields_weight ms fs (typed x u ns) = field_weight (named x ms) (value_named x fs) + fields_weight ms fs ns

pub record AreMoved (c : TransferSetting) (gs : List Region) (m : List ℕ) (ms ns : Members) (e : ℕ) (d : Target) (vs : List Value) (n : ℕ) (cs : List Call) (us : List CoreValue) (w : World) : Type 0 where
  pub outs : List Value
  pub crosses : (rest : List ℕ) → cross_fields take_number ms (zip (typed_names ms) vs) ns (numbers cs ++ rest) ≡ Some (outs, rest)
  pub told : AreItemCalls (items_fields (to_side c) ms (zip (typed_names ms) vs) ns) cs
  pub weighs : n ≡ fields_weight ms (zip (typed_names ms) vs) ns
  pub given : IsGiven d us
  pub leaves : HasChanged c gs m (IsAmong c ns e d) (λ b. MembersStand c ns e outs d us b) cs w

pub record AreLawfulMoves (c : TransferSetting) (ms ns : Members) (e : ℕ) : Type 0 where
  pub by : (s : Source) (d : Target) (vs : List Value) (gs : List Region) (w : World) (m : List ℕ)
      → IsSource c (length (flat_members (width_of_side c.transfer.from) ms)) s → members_taken c ms s ≡ Some vs → HoldsMemories c m w
      → IsMembersTarget c ns e (IsInHand c gs) m d
      → RunsHonestly c gs (MayStop (AreFit c ms ns s) (items_fields (to_side c) ms (zip (typed_names ms) vs) ns)) (AreMoved c gs m ms ns e d vs) (move_fields c.transfer ms ns e s d) w
