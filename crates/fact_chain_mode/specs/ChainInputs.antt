-- The input of a chain in JSON: a plan, the names of two of its adapters, the arguments of the first, and what the callee of the second answers.
use Rattle.std.specs.Prelude.{ℕ, List, [], ◌∷◌, Result, Ok, codes}
use Rattle.serde_json.specs.Data.{Data}
use Rattle.fact_plan.specs.declared.fault.PlanFault.{PlanFault}
use Rattle.fact_plan.specs.declared.plan.FusePlan.{FusePlan}
use Rattle.fact_plan.specs.Fault.{at_step, ◌>>=◌}
use Rattle.fact_plan.specs.Plan.{plan_in}
use Rattle.fact_plan.specs.Parts.{field, known_keys, required_keys, text_in}
use Rattle.fact_call_mode.specs.Inputs.{any_in}

-- the keys, in the order in which they are read
abbrev pub chain_keys : List (List ℕ)
chain_keys = codes "plan" ∷ codes "first" ∷ codes "second" ∷ codes "args" ∷ codes "results" ∷ []

-- a plan, two names, and the JSON values of arguments and results, whose types only the plan tells
pub record ChainInput : Type 0 where
  pub plan : FusePlan
  pub first : List ℕ
  pub second : List ℕ
  pub args : Data
  pub results : Data

-- an object of exactly these keys, or a fault whose path begins below it
unfoldable pub chain_input_in : Data → Result ChainInput PlanFault
chain_input_in d = do
  _ ← known_keys chain_keys d
  _ ← required_keys chain_keys d
  plan ← field plan_in (codes "plan") d
  first ← field text_in (codes "first") d
  second ← field text_in (codes "second") d
  args ← field any_in (codes "args") d
  results ← field any_in (codes "results") d
  Ok (record { plan = plan; first = first; second = second; args = args; results = results })

-- what stands in a JSON value, or a fault with its whole path
unfoldable pub chain_input : Data → Result ChainInput PlanFault
chain_input d = at_step (codes "chain") (chain_input_in d)
