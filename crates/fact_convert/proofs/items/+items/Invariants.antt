use Rattle.std.proofs.Common.{◌+◌, ◌*◌, take}
use Rattle.std.specs.Prelude.{flat_map, Ok}
use Rattle.fact_source.specs.declared.items.ComponentEntityType.TheVariants as entity
use Rattle.fact_source.specs.Live.{reach_of}
use Rattle.fact_convert.specs.Progress.{Comes, AreItemsMade}
use Rattle.fact_convert.specs.Tasks.{item_tasks, tasks_of}
use Rattle.fact_convert.proofs.Measures.{reach_of_items}
use Rattle.fact_convert.proofs.items.+items.Given as goal

abbrev pub decreases-def_of_entity : goal.decreases-def_of_entity
decreases-def_of_entity l = 5 * reach_of l.types.now l.ty + 2

abbrev pub decreases-extern_of_item : goal.decreases-extern_of_item
decreases-extern_of_item l = 5 * reach_of l.types.now l.item.now.ty + 3

abbrev pub decreases-registered_extern : goal.decreases-registered_extern
decreases-registered_extern l = 5 * reach_of l.types.now l.item.now.ty + 4

abbrev pub decreases-externs_of_items : goal.decreases-externs_of_items
decreases-externs_of_items l = 5 * reach_of_items l.types.now l.items.now + 5

abbrev pub decreases-instance_type : goal.decreases-instance_type
decreases-instance_type l = 5 * reach_of l.types.now (entity.Instance l.id) + 1

abbrev pub decreases-component_type : goal.decreases-component_type
decreases-component_type l = 5 * reach_of l.types.now (entity.Component l.id) + 1

abbrev pub invariant-externs_of_items-loop-name : goal.invariant-externs_of_items-loop-name
invariant-externs_of_items-loop-name l = Comes l.types l.fn.builder (flat_map (item_tasks l.types (tasks_of l.types)) (take l.name-index l.items)) (λ c externs. AreItemsMade l.types l.fn.builder c (take l.name-index l.items) externs) l.builder (Ok l.externs.entries)
