use Rattle.fact_emit.proofs.SidesImported.{sides_later, sides_same}
use Rattle.fact_compound.specs.Written.{sync_places}
use Rattle.fact_compound.proofs.OptionsImported.{results_imported}
use Rattle.fact_compound.proofs.SyncWritten.{finish_there, written_return}
use Rattle.fact_compound.proofs.syncs.put_return.Goals as goal

pub move_results-requires : goal.move_results-requires
move_results-requires c = record {
  lower_live = c.requires.can.lower_live;
  lift_live = c.requires.can.lift_live;
  tables = c.requires.tables;
  sides = sides_same c.in_ok-clear_flags.ensures.imports (sides_later c.in_ok-exit_call.ensures.grew.imports (sides_later c.in_ok-read_context.ensures.grew.imports (results_imported c.requires.can.options_imported)));
}

pub restore_and_finish-requires : goal.restore_and_finish-requires
restore_and_finish-requires c = finish_there _ c.in_ok-read_context.ensures c.in_ok-exit_call.ensures c.in_ok-clear_flags.ensures c.in_ok-move_results.ensures.grew c.requires.can.post_return

pub returns : goal.returns
returns c = written_return c.args.adapter.now c.args.debug c.args.options (sync_places c.args.locals) c.in_ok-read_context.ensures c.in_ok-exit_call.ensures c.in_ok-clear_flags.ensures c.in_ok-move_results.ensures c.in_ok-restore_and_finish.ensures
