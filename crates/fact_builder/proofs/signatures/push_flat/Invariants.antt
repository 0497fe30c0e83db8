use Rattle.std.proofs.Common.{◌≡◌, ◌++◌, map, take}
use Rattle.fact_types.specs.Flat.{value_type}
use Rattle.fact_builder.proofs.signatures.push_flat.Given as goal

abbrev pub invariant-loop-ty : goal.invariant-loop-ty
invariant-loop-ty l = l.values ≡ l.initial.values ++ map value_type (take l.ty-index l.types)
