-- The flat values of so many levels are there.
use Rattle.std.proofs.Common.{◌≡◌}
use Rattle.std.specs.Prelude.{map}
use Rattle.fact_types.specs.Flat.{value_type}
use Rattle.fact_types.specs.FlatShapes.{flat}
use Rattle.fact_types.specs.Signatures.{width}
use Rattle.fact_generate.specs.Linked.{nest_shape}
use Rattle.fact_generate.proofs.core_types.nest_values.Given as goal

abbrev pub invariant-loop : goal.invariant-loop
invariant-loop l = l.values ≡ map value_type (flat (width l.lifts) (nest_shape l.counter))
