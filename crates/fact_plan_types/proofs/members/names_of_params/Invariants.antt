use Rattle.std.proofs.Common.{◌≡◌, map, take}
use Rattle.fact_plan_types.proofs.members.names_of_params.Given as goal

abbrev pub invariant-loop-name : goal.invariant-loop-name
invariant-loop-name l = l.names ≡ map (λ x. x.0) (take l.name-index l.params)
