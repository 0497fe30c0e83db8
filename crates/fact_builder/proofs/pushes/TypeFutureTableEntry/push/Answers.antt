use Rattle.std.proofs.Common.{◌∙◌, ap, sym}
use Rattle.indexmap.specs.IndexMap.{get}
use Rattle.fact_types.specs.contracts.interface.InterfaceTypePartialEq.TheImpl as type_eq
use Rattle.fact_types.specs.Tables.{payload_in}
use Rattle.fact_builder.specs.Information.{as_handle, joined_member, known_payload}
use Rattle.fact_builder.proofs.GrowthLaws.{future_table_keeps}
use Rattle.fact_builder.proofs.KeptLaws.{same_map}
use Rattle.fact_builder.proofs.SplitLaws.{pushed_future_table}
use Rattle.fact_builder.proofs.pushes.TypeFutureTableEntry.push.Goals as goal

pub invariant_of-types : goal.invariant_of-types
invariant_of-types c = same_map _ _ _ c.types.invariant c.in_err-keep.ensures.refused

pub invariant_of-types-2 : goal.invariant_of-types-2
invariant_of-types-2 c =
    let kept = get type_eq.ghosts.eq c.types.inside.kept in
    pushed_future_table _ _ _ _ c.args.self c.args.index c.as_handle-information.result c.push_future_table.result _ c.types.invariant c.reveal.ensures.sound c.types.view_is c.requires.index c.in_ok-keep.ensures.kept
    (c.as_handle-information.ensures ∙ ap as_handle (c.with_payload.ensures ∙ (λ i. joined_member (c.new.ensures i) (known_payload kept (payload_in (λ f. f.payload) (sym c.index.ensures i))))))
    c.push_future_table.ensures.table c.push_future_table.ensures.refused

pub returns-clause-keeps : goal.returns-clause-keeps
returns-clause-keeps c = future_table_keeps _ _ _ c.types.view_is c.args.self c.push_future_table.result c.push_future_table.ensures.table c.push_future_table.ensures.refused
