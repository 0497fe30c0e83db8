use Rattle.std.proofs.Common.{refl, subst, sym}
use Rattle.fact_emit.specs.declared.places.Sides.{Sides}
use Rattle.fact_emit.specs.StringPieces.{AreSidesImported}
use Rattle.fact_emit.proofs.SidesImported.{sides_later}
use Rattle.fact_kinds.specs.Asks.{AreSidesTold}
use Rattle.fact_compound.proofs.TuplesWritten.{moved_params}
use Rattle.fact_compound.proofs.tuples.move_params.Goals as goal

pub ask_tuple_area-requires : goal.ask_tuple_area-requires
ask_tuple_area-requires c = record {
  live = c.tuples_of-2.ensures.params_live;
  realloc = (sides_later c.in_ok-check_tuple_area.ensures.grew.imports (subst (λ (s : Sides). AreSidesImported s c.args.w.now.sections) (sym c.params_sides-sides.ensures) c.requires.sides)).realloc;
}

pub move_tuple-requires : goal.move_tuple-requires
move_tuple-requires c = record {
  from_live = c.tuples_of.ensures.params_live;
  to_live = c.tuples_of-2.ensures.params_live;
  tables = c.requires.tables;
  told = subst AreSidesTold (sym c.params_sides-sides.ensures) (record { from = refl; to = refl });
  sides = sides_later c.in_ok-ask_tuple_area.ensures.grew.imports (sides_later c.in_ok-check_tuple_area.ensures.grew.imports (subst (λ (s : Sides). AreSidesImported s c.args.w.now.sections) (sym c.params_sides-sides.ensures) c.requires.sides));
}

pub returns : goal.returns
returns c = moved_params c.args.adapter.now c.args.debug c.args.concurrency c.params_sides-sides.ensures _ _ _ _ _ _ c.last_of.ensures c.last_of-2.ensures (c.tuple_source-source.ensures c.params_sides-sides.result.from) (c.tuple_target-target.ensures c.params_sides-sides.result.to)
    c.are_flat_params-source_flat.ensures c.are_flat_values-flat.ensures c.tuples_of.ensures.params c.tuples_of-2.ensures.params c.in_ok-check_tuple_area.ensures c.in_ok-ask_tuple_area.ensures c.in_ok-move_tuple.ensures
