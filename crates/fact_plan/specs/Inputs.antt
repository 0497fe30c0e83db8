-- What the bytes of an input hold that is read as JSON, by how what is asked for is read in the JSON value; and where that is a plan, one of these.
use Rattle.std.specs.Prelude.{ℕ, ◌≡◌, ◌<◌, ◌≤◌, Bool, ◌||◌, List, length, Some, None, Result, Ok, Err}
use Rattle.serde_json.specs.Data.{Data}
use Rattle.fact_plan.specs.declared.plan.FusePlan.{FusePlan}
use Rattle.fact_plan.specs.declared.fault.PlanFault.{PlanFault}
use Rattle.fact_plan.specs.Reading.{value_in}
use Rattle.fact_plan.specs.Plan.{plan_of}

-- the most bytes that an input may have
abbrev pub limit : ℕ
limit = 67_108_864

-- The bytes are more than an input may have.
abbrev pub IsTooLong : List ℕ → Type 0
IsTooLong bytes = limit < length bytes

-- The bytes are no JSON text, as `serde_json` reads it.
pub record HoldsNoJson (bytes : List ℕ) : Type 0 where
  pub within : length bytes ≤ limit
  pub no_json : value_in bytes ≡ None

-- They are a JSON text in whose value what is asked for is read, and this is its first fault.
pub record HoldsFaultyInput {I : Type 0} (read : Data → Result I PlanFault) (bytes : List ℕ) (f : PlanFault) : Type 0 where
  pub within : length bytes ≤ limit
  pub value : Data
  pub is_json : value_in bytes ≡ Some value
  pub is_fault : read value ≡ Err f

-- They are a JSON text whose value is this input.
pub record HoldsInput {I : Type 0} (read : Data → Result I PlanFault) (bytes : List ℕ) (i : I) : Type 0 where
  pub within : length bytes ≤ limit
  pub value : Data
  pub is_json : value_in bytes ≡ Some value
  pub is_input : read value ≡ Ok i

-- They are that of an input of which this is so.
pub record HasInput {I : Type 0} (read : Data → Result I PlanFault) (bytes : List ℕ) (P : I → Type 0) : Type 0 where
  pub input : I
  pub holds : HoldsInput read bytes input
  pub is_so : P input

-- ---- of a plan

-- They are a JSON text whose value has this first fault as a plan, or is this plan.
abbrev pub HoldsBadPlan : List ℕ → PlanFault → Type 0
HoldsBadPlan bytes f = HoldsFaultyInput plan_of bytes f

abbrev pub HoldsPlan : List ℕ → FusePlan → Type 0
HoldsPlan bytes p = HoldsInput plan_of bytes p

-- the plan with debug checks where it or its user asks for them, and with its user's fuel
abbrev pub tuned : (debug : Bool) (fuel : ℕ) → FusePlan → FusePlan
tuned debug fuel p = record p { tunables = record p.tunables { debug = p.tunables.debug || debug; fuel = fuel } }
