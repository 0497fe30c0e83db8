use Rattle.std.proofs.Common.{◌≡◌, map, take}
use Rattle.fact_convert.proofs.members.named_types.Given as goal

abbrev pub invariant-loop-ty : goal.invariant-loop-ty
invariant-loop-ty l = l.types ≡ map (λ f. f.1) (take l.ty-index l.fields)
