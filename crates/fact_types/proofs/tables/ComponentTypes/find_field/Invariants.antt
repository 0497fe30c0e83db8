use Rattle.fact_types.specs.Shapes.{Members}
use Rattle.fact_types.specs.Tables.{HasMembers}
use Rattle.fact_types.proofs.FindLaws.{of_fields, Remains}
use Rattle.fact_types.proofs.tables.ComponentTypes.find_field.Given as goal

abbrev pub invariant-loop-field : goal.invariant-loop-field
invariant-loop-field l = (ms : Members) → HasMembers l.self (of_fields l.field-items) ms → Remains l.self l.name l.field-items ms l.field-index l.flat_place l.end32 l.end64
