use Rattle.std.proofs.Common.{◌≡◌, map, take, Some}
use Rattle.fact_explain.proofs.members.of_types.Given as goal

abbrev pub invariant-loop-ty : goal.invariant-loop-ty
invariant-loop-ty l = map (λ m. m.ty) l.members.items ≡ map (λ x. Some x) (take l.ty-index l.types)
