-- The law of moves: a value of a source type that stands at a source is moved to any target of a destination type, and where none
-- stands nothing is moved.
use Rattle.std.specs.Prelude.{◌≡◌, ℕ, List, length, Some, None}
use Rattle.fact_types.specs.declared.interface.InterfaceType.TheVariants as ty
use Rattle.fact_types.specs.Agrees.{Agrees}
use Rattle.fact_types.specs.FlatShapes.{flat}
use Rattle.fact_types.specs.Shapes.{Shape, s_plain}
use Rattle.fact_types.specs.Valid.{IsValid}
use Rattle.fact_machine.specs.World.{World}
use Rattle.fact_actions.specs.Moves.{move}
use Rattle.fact_actions.specs.Regions.{Region}
use Rattle.fact_actions.specs.Sides.{Source, Target, width_of_side}
use Rattle.fact_values.specs.declared.value.Value.{Value}
use Rattle.fact_action_laws.specs.Items.{items}
use Rattle.fact_action_laws.specs.Judged.{RunsHonestly, GivesNothing}
use Rattle.fact_action_laws.specs.MoveTerms.{IsFit, IsMoved, MayStop, HasPointers, IsSupplied, IsWellFormed, size_on}
use Rattle.fact_action_laws.specs.Places.{to_side, value_at_source, IsSource, IsTarget, HoldsMemories, IsGrounded}
use Rattle.fact_action_laws.specs.Regions.{TransferSetting, IsInHand}

-- A value of a source type at any source is moved to any target of a destination type.
pub record IsLawfulMove (c : TransferSetting) (t u : Shape) : Type 0 where
  pub by : (s : Source) (d : Target) (v : Value) (gs : List Region) (w : World) (m : List ℕ)
      → IsSource c (length (flat (width_of_side c.transfer.from) t)) s → value_at_source c t s ≡ Some v → HoldsMemories c m w
      → IsTarget c (flat (width_of_side c.transfer.to) u) (size_on c.transfer.to u) (IsInHand c gs) m d
      → RunsHonestly c gs (MayStop (IsFit c t u s) (items (to_side c) t u v)) (IsMoved c gs m t u d v) (move c.transfer t u s d) w

-- Where nothing of a type lifts at a source, a move never gives anything.
pub record Refuses (c : TransferSetting) (t u : Shape) : Type 0 where
  pub by : (s : Source) (d : Target) (gs : List Region) (w : World) (m : List ℕ)
      → IsSource c (length (flat (width_of_side c.transfer.from) t)) s → value_at_source c t s ≡ None → HoldsMemories c m w
      → IsTarget c (flat (width_of_side c.transfer.to) u) (size_on c.transfer.to u) (IsInHand c gs) m d → GivesNothing c gs (move c.transfer t u s d) w

-- both of them for strings
pub record Texts (c : TransferSetting) : Type 0 where
  pub carries : HasPointers c.transfer.from c.transfer.to → IsLawfulMove c (s_plain ty.String) (s_plain ty.String)
  pub refuses : HasPointers c.transfer.from c.transfer.to → Refuses c (s_plain ty.String) (s_plain ty.String)

-- ---- laws

-- Two types between which values go: they agree, they are valid and well formed, and strings, lists and maps can go.
pub record AreTypesOfMove (c : TransferSetting) (t u : Shape) : Type 0 where
  pub agree : Agrees t u
  pub from_valid : IsValid t
  pub to_valid : IsValid u
  pub from_formed : IsWellFormed t
  pub to_formed : IsWellFormed u
  pub supplied : IsSupplied c t

-- Each value of a type is moved, where it is proved of strings.
abbrev pub MovesAreLawful : Type 0
MovesAreLawful = (c : TransferSetting) → IsGrounded c → Texts c → (t u : Shape) → AreTypesOfMove c t u → IsLawfulMove c t u

-- Where a source stands for no value nothing is moved, where it is proved of strings.
abbrev pub MovesRefuse : Type 0
MovesRefuse = (c : TransferSetting) → IsGrounded c → Texts c → (t u : Shape) → AreTypesOfMove c t u → Refuses c t u
