use Rattle.fact_emit.proofs.SidesImported.{sides_later, sides_same}
use Rattle.fact_compound.proofs.OptionsImported.{params_imported}
use Rattle.fact_compound.specs.Written.{sync_places}
use Rattle.fact_compound.proofs.SyncWritten.{written_call}
use Rattle.fact_compound.proofs.syncs.put_call.Goals as goal

pub returns : goal.returns
returns c = written_call c.args.adapter.now c.args.debug c.args.options (sync_places c.args.locals) c.requires.can.callee c.in_ok-check_may_leave.ensures c.in_ok-enter_call.ensures c.in_ok-hold_flags.ensures c.in_ok-pass_params.ensures c.in_ok-call_callee.ensures

pub pass_params-requires : goal.pass_params-requires
pass_params-requires c = record {
  lower_live = c.requires.can.lower_live;
  lift_live = c.requires.can.lift_live;
  tables = c.requires.tables;
  sides = sides_same c.in_ok-hold_flags.ensures.imports (sides_later c.in_ok-enter_call.ensures.grew.imports (sides_later c.in_ok-check_may_leave.ensures.grew.imports (params_imported c.requires.can.options_imported)));
}
