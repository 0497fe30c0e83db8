use Rattle.std.proofs.Common.{◌≡◌, ◌≤◌, length, Err, ap, ◌∙◌, arith}
use Rattle.std.proofs.lemmas.Option.{slice_get_within}
use Rattle.std.proofs.lemmas.Result.{err_from_is_err_and}
use Rattle.fact_types.specs.Tables.{entries}
use Rattle.fact_builder.specs.Builder.{Builder}
use Rattle.fact_plan_types.proofs.ReadyLaws.{not_payload}
use Rattle.fact_plan_types.proofs.TableLaws.{full_adds, stream_adds}
use Rattle.fact_plan_types.proofs.handles.add_stream.Goals as goal

pub payload_of-payload-requires : goal.payload_of-payload-requires
payload_of-payload-requires c = not_payload _ c.args.payload c.requires.known

pub add_stream_type-requires : goal.add_stream_type-requires
add_stream_type-requires c = c.payload_of-payload.ensures.live c.args.builder.now.tables c.requires.live

pub add_stream_table_type-requires : goal.add_stream_table_type-requires
add_stream_table_type-requires c = slice_get_within _ _ _ c.in_ok-ty.ensures.entry

pub returns-in_err-ty : goal.returns-in_err-ty
returns-in_err-ty c =
    let p = err_from_is_err_and c.from_residual.result c.from_residual.ensures.1 in
    full_adds _ _ _ _ _ _ _ p.1 p.2 (λ q n l f. omega (arith, (c.add_stream_type.ensures.too_large.0 (c.in_err-ty.was ∙ ap Err q)).1, f.streams, l))

-- the tables of streams are no more than the entries with members
pub returns-in_err-table : goal.returns-in_err-table
returns-in_err-table c =
    let p = err_from_is_err_and c.from_residual-in_err-table.result c.from_residual-in_err-table.ensures.1 in
    let same : c.add_stream_type.new.self.tables.stream_tables ≡ c.args.builder.now.tables.stream_tables = ap (λ (b : Builder). b.tables.stream_tables) c.in_ok-ty.ensures.rest in
    let few : length c.args.builder.now.tables.stream_tables ≤ entries c.args.builder.now.tables = omega arith in
    full_adds _ _ _ _ _ _ _ p.1 p.2 (λ q n l f. omega (arith, (c.add_stream_table_type.ensures.too_large.0 (c.in_err-table.was ∙ ap Err q)).1, ap length same, few, f.members, l))

pub returns : goal.returns
returns c =
    stream_adds _ c.add_stream_type.new.self _ c.payload_of-payload.result c.in_ok-ty.ty c.in_ok-table.table c.from_u32-instance.result
    (record {
      sound = c.reveal.ensures.sound;
      type_interned = c.in_ok-ty.ensures.interned;
      type_entry = c.in_ok-ty.ensures.entry;
      type_rest = c.in_ok-ty.ensures.rest;
      type_keeps = c.in_ok-ty.ensures.keeps;
      one_index = c.reveal-2.ensures.one_index;
      distinct = c.reveal-2.ensures.streams;
      table_interned = c.in_ok-table.ensures.interned;
      table_entry = c.in_ok-table.ensures.entry;
      table_rest = c.in_ok-table.ensures.rest;
      table_keeps = c.in_ok-table.ensures.keeps;
    })
    c.args.types.now c.args.payload c.args.instance (ap (λ i. i.number) c.from_u32-instance.ensures) (c.payload_of-payload.ensures.shaped c.args.builder.now.tables)
