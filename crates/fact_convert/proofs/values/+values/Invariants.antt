use Rattle.std.proofs.Common.{◌+◌, ◌*◌, take}
use Rattle.std.specs.Prelude.{flat_map, Ok}
use Rattle.std.specs.List.{AllZip}
use Rattle.fact_convert.specs.Converted.{IsTypeFrom}
use Rattle.fact_convert.specs.Progress.{Comes}
use Rattle.fact_convert.specs.Tasks.{value_tasks}
use Rattle.fact_convert.proofs.Measures.{height, heights}
use Rattle.fact_convert.proofs.values.+values.Given as goal

abbrev pub decreases-type_of_defined : goal.decreases-type_of_defined
decreases-type_of_defined l = 3 * l.id.number + 3

abbrev pub decreases-types_of_values : goal.decreases-types_of_values
decreases-types_of_values l = 3 * heights l.tys.now + 2

abbrev pub decreases-type_of_value : goal.decreases-type_of_value
decreases-type_of_value l = 3 * height l.ty + 1

abbrev pub invariant-types_of_values-loop-i : goal.invariant-types_of_values-loop-i
invariant-types_of_values-loop-i l = Comes l.types l.fn.builder (flat_map (value_tasks l.types) (take l.i l.tys)) (λ c ts. AllZip (IsTypeFrom l.types c) (take l.i l.tys) ts) l.builder (Ok l.value_types)
