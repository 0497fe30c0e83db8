use Rattle.std.proofs.Common.{◌≡◌, map, take}
use Rattle.fact_convert.proofs.funcs.names_of.Given as goal

abbrev pub invariant-loop-name : goal.invariant-loop-name
invariant-loop-name l = l.names ≡ map (λ p. p.0) (take l.name-index l.params)
