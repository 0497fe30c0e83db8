use Rattle.std.proofs.Common.{◌≡◌, map, take}
use Rattle.fact_types.specs.Tables.{abi_at}
use Rattle.fact_builder.proofs.layouts.layouts_of_types.Given as goal

abbrev pub invariant-loop-ty : goal.invariant-loop-ty
invariant-loop-ty l = l.layouts.items ≡ map (abi_at l.builder.tables) (take l.ty-index l.types)
