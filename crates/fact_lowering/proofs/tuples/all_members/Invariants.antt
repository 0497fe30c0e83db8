use Rattle.std.proofs.Common.{◌≡◌, Some, map, take}
use Rattle.fact_lowering.proofs.tuples.all_members.Given as goal

abbrev pub invariant-loop-ty : goal.invariant-loop-ty
invariant-loop-ty l = l.members ≡ map (λ ty. Some ty) (take l.ty-index l.tys)
