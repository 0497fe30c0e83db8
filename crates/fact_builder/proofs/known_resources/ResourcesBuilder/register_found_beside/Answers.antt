use Rattle.std.proofs.Common.{of_calls}
use Rattle.fact_builder.specs.Beside.{CalledBeside}
use Rattle.fact_builder.specs.Walk.{RegistersAnswer}
use Rattle.fact_builder.proofs.RegisterLaws.{none_registered, one_more_registered, all_registered, stopped_registered, on_err}
use Rattle.fact_builder.proofs.known_resources.ResourcesBuilder.register_found_beside.Goals as goal

pub loop-path-init : goal.loop-path-init
loop-path-init g c = (search of_calls, none_registered _ _ _)

pub loop-path-preserved : goal.loop-path-preserved
loop-path-preserved g c = (
  c.in_ok-register_next_beside.ensures.callable,
  one_more_registered (RegistersAnswer g.R.Registrable.registration (CalledBeside g.F.FnMut c.args.beside.now)) _ _ _ _ _ _ _ _ _ c.loop-path-test.true c.loop-path-item.is c.loop-path.invariant.1
      c.in_ok-register_next_beside.ensures.told c.in_ok-register_next_beside.ensures.rest,
)

pub returns-in_err-register_next_beside-clause-first : goal.returns-in_err-register_next_beside-clause-first
returns-in_err-register_next_beside-clause-first g c =
    on_err _ _ (stopped_registered (RegistersAnswer g.R.Registrable.registration (CalledBeside g.F.FnMut c.args.beside.now)) _ _ _ _ _ _ _ _ c.loop-path.invariant.1 c.in_err-register_next_beside.ensures.refused)

pub returns-clause-all : goal.returns-clause-all
returns-clause-all g c = all_registered _ _ _ _ _ c.args.found.now c.loop-path.path-index c.loop-path-test.false c.loop-path.invariant.1
