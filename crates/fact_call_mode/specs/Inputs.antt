-- The input of a call in JSON: a plan, the arguments of one of its adapters, and what the callee answers.
use Rattle.std.specs.Prelude.{ℕ, List, [], ◌∷◌, Result, Ok, codes}
use Rattle.serde_json.specs.Data.{Data}
use Rattle.fact_plan.specs.declared.fault.PlanFault.{PlanFault}
use Rattle.fact_plan.specs.declared.plan.FusePlan.{FusePlan}
use Rattle.fact_plan.specs.Fault.{at_step, ◌>>=◌}
use Rattle.fact_plan.specs.Plan.{plan_in}
use Rattle.fact_plan.specs.Parts.{field, known_keys, required_keys}

-- the keys, in the order in which they are read
abbrev pub call_keys : List (List ℕ)
call_keys = codes "plan" ∷ codes "args" ∷ codes "results" ∷ []

-- a plan, and the JSON values of arguments and results, whose types only the plan tells
pub record CallInput : Type 0 where
  pub plan : FusePlan
  pub args : Data
  pub results : Data

-- a JSON value as it is
abbrev pub any_in : Data → Result Data PlanFault
any_in d = Ok d

-- an object of exactly these keys, or a fault whose path begins below it
unfoldable pub input_in : Data → Result CallInput PlanFault
input_in d = do
  _ ← known_keys call_keys d
  _ ← required_keys call_keys d
  plan ← field plan_in (codes "plan") d
  args ← field any_in (codes "args") d
  results ← field any_in (codes "results") d
  Ok (record { plan = plan; args = args; results = results })

-- what stands in a JSON value, or a fault with its whole path
unfoldable pub call_input : Data → Result CallInput PlanFault
call_input d = at_step (codes "call") (input_in d)
