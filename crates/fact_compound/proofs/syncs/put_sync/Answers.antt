use Rattle.std.proofs.Common.{subst, sym}
use Rattle.fact_emit.specs.Writers.{Wrote}
use Rattle.fact_steps.specs.Code.{pushed_code}
use Rattle.fact_compound.specs.Written.{sync_places}
use Rattle.fact_compound.proofs.SyncBodies.{sync_emits}
use Rattle.fact_compound.proofs.SyncWritten.{WrittenSync, sync_alone, sync_barred}
use Rattle.fact_compound.proofs.syncs.put_sync.Goals as goal
use Rattle.fact_compound.proofs.syncs.put_sync.Goals.{then-options+in_ok-put_barred, else-options+in_ok-put_steps}

pub returns : goal.returns
returns c = sync_emits (sync_places c.args.locals) (elim c.if-options.branch [
  | then-options+in_ok-put_barred w ↦
      subst (λ f. WrittenSync c.args.types.now c.args.adapter.now c.args.debug c.args.options (sync_places c.args.locals) c.args.fuel.now f c.args.w.now c.push_locals.new.w) (sym w.fuel-is)
      (sync_barred w.if-options.true w.in_ok-put_barred.ensures (subst (λ w'. Wrote w' c.push_locals.new.w (pushed_code (sync_places c.args.locals).results)) w.w-is c.in_ok-push_locals.ensures))
  | else-options+in_ok-put_steps w ↦
      subst (λ f. WrittenSync c.args.types.now c.args.adapter.now c.args.debug c.args.options (sync_places c.args.locals) c.args.fuel.now f c.args.w.now c.push_locals.new.w) (sym w.fuel-is)
      (sync_alone w.if-options.false w.in_ok-put_steps.ensures (subst (λ w'. Wrote w' c.push_locals.new.w (pushed_code (sync_places c.args.locals).results)) w.w-is c.in_ok-push_locals.ensures))
])
