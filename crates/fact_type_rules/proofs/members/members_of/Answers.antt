use Rattle.std.proofs.Common.{◌<◌, length, sym, ◌∙◌}
use Rattle.fact_types.specs.Tables.{of_future_tables, of_stream_tables}
use Rattle.fact_type_rules.proofs.KindLaws.{no-types, record-types, tuple-types}
use Rattle.fact_type_rules.proofs.ListLaws.{all-contained, contains-at}
use Rattle.fact_type_rules.proofs.members.members_of.Goals as goal

pub index-requires-in-Future-2 : goal.index-requires-in-Future-2
index-requires-in-Future-2 c =
    all-contained (λ e. e.ty.number < length c.args.types.now.futures) c.args.types.now.future_tables _ (c.reveal.ensures.sound.held_live of_future_tables)
    (contains-at c.args.types.now.future_tables _ _ c.index-in-Future.ensures)

pub index-requires-in-Stream-2 : goal.index-requires-in-Stream-2
index-requires-in-Stream-2 c =
    all-contained (λ e. e.ty.number < length c.args.types.now.streams) c.args.types.now.stream_tables _ (c.reveal.ensures.sound.held_live of_stream_tables)
    (contains-at c.args.types.now.stream_tables _ _ c.index-in-Stream.ensures)

pub returns-in-Record : goal.returns-in-Record
returns-in-Record c =
    let e = c.index.result.now in
    rw (c.in-Record.is, ← record-types c.args.types.now c.in-Record.i e c.index.ensures, ← c.as_slice.ensures) c.types_of_fields.ensures

pub returns-in-Tuple : goal.returns-in-Tuple
returns-in-Tuple c =
    let e = c.index-in-Tuple.result.now in
    rw (c.in-Tuple.is, ← tuple-types c.args.types.now c.in-Tuple.i e c.index-in-Tuple.ensures, ← c.as_slice-in-Tuple.ensures) c.from_slice.ensures.items

pub returns-in_default : goal.returns-in_default
returns-in_default c =
    let h = c.in_default in
    c.new.ensures.items ∙ sym (no-types c.args.types.now c.args.ty.now h.not-Record h.not-Variant h.not-Tuple h.not-List h.not-Map h.not-Option h.not-Result h.not-FixedLengthList h.not-Future h.not-Stream)
