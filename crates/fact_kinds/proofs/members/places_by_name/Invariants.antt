use Rattle.fact_types.specs.Shapes.{Members}
use Rattle.fact_types.specs.Tables.{HasMembers}
use Rattle.fact_types.proofs.FindLaws.{of_fields}
use Rattle.fact_kinds.specs.MemberPairs.{place_named}
use Rattle.fact_kinds.proofs.SourceMembers.{FieldsRead}
use Rattle.fact_kinds.proofs.members.places_by_name.Given as goal

abbrev pub invariant-loop-field : goal.invariant-loop-field
invariant-loop-field l = (ms : Members) → HasMembers l.types (of_fields l.fields) ms → FieldsRead l.types (of_fields l.fields) (place_named l.places) ms l.field-index l.end
