use Rattle.std.proofs.Common.{◌≡◌, map, take}
use Rattle.fact_plan_types.proofs.names.names_of.Given as goal

abbrev pub invariant-loop-name : goal.invariant-loop-name
invariant-loop-name g l = map (λ n. n.now) l.names.items ≡ map (λ m. m.0) (take l.name-index l.members)
