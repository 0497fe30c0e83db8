use Rattle.std.proofs.Common.{of_calls}
use Rattle.std.specs.Fn.{CalledAt}
use Rattle.fact_builder.specs.Walk.{RegistersAnswer}
use Rattle.fact_builder.proofs.RegisterLaws.{none_registered, one_more_registered, all_registered, stopped_registered, on_err}
use Rattle.fact_builder.proofs.known_resources.ResourcesBuilder.register_found.Goals as goal

pub loop-path-init : goal.loop-path-init
loop-path-init g c = (search of_calls, none_registered _ _ _)

pub loop-path-preserved : goal.loop-path-preserved
loop-path-preserved g c = (
  c.in_ok-register_next.ensures.callable,
  one_more_registered (RegistersAnswer g.R.Registrable.registration (CalledAt g.F.FnMut)) _ _ _ _ _ _ _ _ _ c.loop-path-test.true c.loop-path-item.is c.loop-path.invariant.1
      c.in_ok-register_next.ensures.told c.in_ok-register_next.ensures.rest,
)

pub returns-in_err-register_next-clause-first : goal.returns-in_err-register_next-clause-first
returns-in_err-register_next-clause-first g c =
    on_err _ _ (stopped_registered (RegistersAnswer g.R.Registrable.registration (CalledAt g.F.FnMut)) _ _ _ _ _ _ _ _ c.loop-path.invariant.1 c.in_err-register_next.ensures.refused)

pub returns-clause-all : goal.returns-clause-all
returns-clause-all g c = all_registered _ _ _ _ _ c.args.found.now c.loop-path.path-index c.loop-path-test.false c.loop-path.invariant.1
