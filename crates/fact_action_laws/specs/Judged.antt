-- What is said of runs of actions whose calls are all honest.
use Rattle.std.specs.Prelude.{ℕ, List}
use Rattle.fact_machine.specs.World.{World, Stop}
use Rattle.fact_actions.specs.Actions.{Action}
use Rattle.fact_actions.specs.Regions.{Region}
use Rattle.fact_actions.specs.Running.{Call, Ended, Gave, Halted, Strayed, run}
use Rattle.fact_action_laws.specs.HonestMoves.{AreHonestCalls}
use Rattle.fact_action_laws.specs.Regions.{TransferSetting}

-- An end in which all calls are honest, from live regions on: what is given has a property, and a stop has one.
abbrev pub Judged : TransferSetting → {A : Type 0} → List Region → (Stop → List Call → Type 0) → (ℕ → List Call → A → World → Type 0) → Ended A → Type 0
Judged c gs H P (Gave n cs a w) = AreHonestCalls c gs cs → P n cs a w
Judged c gs H P (Halted n cs s w) = AreHonestCalls c gs cs → H s cs
Judged c gs H P (Strayed n cs w) = Unit {0}

pub record Judges (c : TransferSetting) {A : Type 0} (gs : List Region) (H : Stop → List Call → Type 0) (P : ℕ → List Call → A → World → Type 0) (e : Ended A) : Type 0 where
  pub by : Judged c gs H P e

-- so it is with the run of an action from a world on
pub record RunsHonestly (c : TransferSetting) {A : Type 0} (gs : List Region) (H : Stop → List Call → Type 0) (P : ℕ → List Call → A → World → Type 0) (q : Action A) (w : World) : Type 0 where
  pub judged : Judges c gs H P (run c.places q w)

-- where all answers are honest, nothing is given
abbrev pub GivesNothing : TransferSetting → {A : Type 0} → List Region → Action A → World → Type 0
GivesNothing c gs q w = RunsHonestly c gs (λ s cs. Unit {0}) (λ n cs a w'. ⊥) q w
