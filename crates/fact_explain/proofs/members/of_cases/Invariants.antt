use Rattle.std.proofs.Common.{◌≡◌, map, take}
use Rattle.fact_explain.proofs.members.of_cases.Given as goal

abbrev pub invariant-loop-name : goal.invariant-loop-name
invariant-loop-name l = map (λ m. m.ty) l.members.items ≡ map (λ x. x.1) (take l.name-index l.cases)
