use Rattle.std.proofs.Common.{◌≡◌, map, take, None}
use Rattle.fact_explain.proofs.members.of_names.Given as goal

abbrev pub invariant-loop-name : goal.invariant-loop-name
invariant-loop-name l = map (λ m. m.ty) l.members.items ≡ map (λ x. None) (take l.name-index l.names)
