use Rattle.std.specs.Prelude.{◌+◌, ◌*◌, ◌≤◌, length}
use Rattle.fact_types.specs.declared.interface.InterfaceType.TheVariants.{Record as t_record, Variant as t_variant, List as t_list, Tuple as t_tuple, Map as t_map, Option as t_option, Result as t_result, FixedLengthList as t_fixed_length_list}
use Rattle.fact_types.specs.Heights.{height}
use Rattle.fact_emit.specs.Places.{from_of, to_of}
use Rattle.fact_translate.specs.MovedSums.{WroteBodies, numbered_height, payload_height}
use Rattle.fact_translate.proofs.ElementRuns.{ElementsRun}
use Rattle.fact_kinds.proofs.MemberRuns.{MembersRun}
use Rattle.fact_translate.proofs.translate.+moving.Given as goal

abbrev pub decreases-translate : goal.decreases-translate
decreases-translate l = 16 * height l.types.now l.to + 15

abbrev pub decreases-translate_in_place : goal.decreases-translate_in_place
decreases-translate_in_place l = 16 * height l.types.now l.to + 14

abbrev pub decreases-move_node : goal.decreases-move_node
decreases-move_node l = 16 * height l.types.now l.to + 13

abbrev pub decreases-move_record : goal.decreases-move_record
decreases-move_record l = 16 * height l.types.now (t_record l.to) + 12

abbrev pub decreases-move_tuple : goal.decreases-move_tuple
decreases-move_tuple l = 16 * height l.types.now (t_tuple l.to) + 12

abbrev pub decreases-move_pairs : goal.decreases-move_pairs
decreases-move_pairs l = 16 * height l.types.now l.whole + 11

abbrev pub decreases-move_list : goal.decreases-move_list
decreases-move_list l = 16 * height l.types.now (t_list l.to) + 12

abbrev pub decreases-move_map : goal.decreases-move_map
decreases-move_map l = 16 * height l.types.now (t_map l.to) + 12

abbrev pub decreases-move_fixed_list : goal.decreases-move_fixed_list
decreases-move_fixed_list l = 16 * height l.types.now (t_fixed_length_list l.to) + 12

abbrev pub decreases-move_by_loop : goal.decreases-move_by_loop
decreases-move_by_loop l = 16 * height l.types.now l.to + 16

abbrev pub decreases-move_one_by_one : goal.decreases-move_one_by_one
decreases-move_one_by_one l = 16 * height l.types.now l.to + 16

abbrev pub decreases-move_member : goal.decreases-move_member
decreases-move_member l = 16 * height l.types.now l.to + 16

abbrev pub decreases-move_variant : goal.decreases-move_variant
decreases-move_variant l = 16 * height l.types.now (t_variant l.to) + 12

abbrev pub decreases-move_option : goal.decreases-move_option
decreases-move_option l = 16 * height l.types.now (t_option l.to) + 12

abbrev pub decreases-move_result : goal.decreases-move_result
decreases-move_result l = 16 * height l.types.now (t_result l.to) + 12

abbrev pub decreases-move_sum : goal.decreases-move_sum
decreases-move_sum l = 16 * height l.types.now l.to + 11

abbrev pub decreases-move_sum_by : goal.decreases-move_sum_by
decreases-move_sum_by l = 16 * height l.types.now l.to + 10

abbrev pub decreases-case_bodies : goal.decreases-case_bodies
decreases-case_bodies l = 16 * height l.types.now l.to + 9

abbrev pub decreases-move_case : goal.decreases-move_case
decreases-move_case l = 16 * numbered_height l.types.now l.case.found + 2

abbrev pub decreases-move_payload : goal.decreases-move_payload
decreases-move_payload l = 16 * payload_height l.types.now l.to + 1

abbrev pub decreases-move_some : goal.decreases-move_some
decreases-move_some l = 16 * height l.types.now l.to + 16

abbrev pub invariant-move_pairs-loop-pair : goal.invariant-move_pairs-loop-pair
invariant-move_pairs-loop-pair l = MembersRun l.types l.fn.whole l.pairs l.pair-index l.end l.sides (from_of l.sides.from l.source) (to_of l.sides.to l.fn.target) (to_of l.sides.to l.rest) l.fn.fuel l.fuel l.fn.w l.w

abbrev pub invariant-case_bodies-loop-case : goal.invariant-case_bodies-loop-case
invariant-case_bodies-loop-case l = WroteBodies l.types l.fn.from l.fn.to l.sides (from_of l.sides.from l.source) (to_of l.sides.to l.target) l.case-index l.bodies.items l.fn.fuel l.fuel l.fn.w l.w × (l.case-index ≤ length l.sum.cases.items)

abbrev pub invariant-move_one_by_one-loop-n : goal.invariant-move_one_by_one-loop-n
invariant-move_one_by_one-loop-n l = ElementsRun l.types l.fn.from l.fn.to l.fn.e l.n l.sides (from_of l.sides.from l.source) (to_of l.sides.to l.fn.target) (to_of l.sides.to l.rest) l.fn.fuel l.fuel l.fn.w l.w
