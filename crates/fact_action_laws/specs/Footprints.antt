-- What a move does to the memory of its destination.
use Rattle.std.specs.Prelude.{◌≡◌, ℕ, ◌≤◌, ◌⊎◌, List, length, get_or}
use Rattle.fact_machine.specs.World.{World}
use Rattle.fact_actions.specs.Running.{Call}
use Rattle.fact_actions.specs.Regions.{Region}
use Rattle.fact_action_laws.specs.Regions.{TransferSetting, IsInHand, regions_after}
use Rattle.fact_action_laws.specs.Places.{HoldsMemories, Rests}

-- The bytes m became m', and what was live became what is live now. Live bytes changed at the addresses D alone; what was
-- live is so still; and P, of what stands at D, rests on D and on what has become live.
pub record HasPlaced (m m' : List ℕ) (Live Live' D : ℕ → Type 0) (P : List ℕ → Type 0) : Type 0 where
  pub frame : (j : ℕ) → Live j → (D j → ⊥) → get_or m' j 0 ≡ get_or m j 0
  pub grows : (j : ℕ) → Live j → Live' j
  pub room : length m ≤ length m'
  pub stands : Rests (λ j. D j ⊎ (Live' j × (Live j → ⊥))) m' P

-- The world behind calls: the memory of the source is as before, and that of the destination is changed so.
pub record HasChanged (c : TransferSetting) (gs : List Region) (m : List ℕ) (D : ℕ → Type 0) (P : List ℕ → Type 0) (cs : List Call) (w : World) : Type 0 where
  pub now : List ℕ
  pub ready : HoldsMemories c now w
  pub placed : HasPlaced m now (IsInHand c gs) (IsInHand c (regions_after gs cs)) D P
