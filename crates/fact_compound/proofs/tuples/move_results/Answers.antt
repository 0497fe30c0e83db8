use Rattle.std.proofs.Common.{refl, subst, sym}
use Rattle.fact_emit.specs.declared.places.Sides.{Sides}
use Rattle.fact_emit.specs.StringPieces.{AreSidesImported}
use Rattle.fact_emit.proofs.SidesImported.{sides_later}
use Rattle.fact_kinds.specs.Asks.{AreSidesTold}
use Rattle.fact_compound.proofs.TuplesWritten.{moved_results}
use Rattle.fact_compound.proofs.tuples.move_results.Goals as goal

pub move_tuple-requires : goal.move_tuple-requires
move_tuple-requires c = record {
  from_live = c.tuples_of.ensures.results_live;
  to_live = c.tuples_of-2.ensures.results_live;
  tables = c.requires.tables;
  told = subst AreSidesTold (sym c.results_sides-sides.ensures) (record { from = refl; to = refl });
  sides = sides_later c.in_ok-check_tuple_area-2.ensures.grew.imports (sides_later c.in_ok-check_tuple_area.ensures.grew.imports (subst (λ (s : Sides). AreSidesImported s c.args.w.now.sections) (sym c.results_sides-sides.ensures) c.requires.sides));
}

pub returns : goal.returns
returns c = moved_results c.args.adapter.now c.args.debug c.args.concurrency c.results_sides-sides.ensures _ _ _ _ _ _ _ c.last_of.ensures c.last_of-2.ensures (c.tuple_source-source.ensures c.results_sides-sides.result.from) (c.tuple_target-target.ensures c.results_sides-sides.result.to)
    c.are_flat_given-given_flat.ensures c.are_flat_results-flat.ensures c.tuples_of.ensures.results c.tuples_of-2.ensures.results c.in_ok-check_tuple_area.ensures c.in_ok-check_tuple_area-2.ensures c.in_ok-move_tuple.ensures
