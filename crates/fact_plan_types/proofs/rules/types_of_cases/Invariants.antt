use Rattle.std.proofs.Common.{◌≡◌, take}
use Rattle.std.specs.List.{flat_map}
use Rattle.fact_plan_types.specs.TypeRules.{optional}
use Rattle.fact_plan_types.proofs.rules.types_of_cases.Given as goal

abbrev pub invariant-loop-payload : goal.invariant-loop-payload
invariant-loop-payload l = l.types.items ≡ flat_map (λ c. optional c.1) (take l.payload-index l.cases)
