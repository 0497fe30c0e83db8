use Rattle.std.proofs.Common.{take}
use Rattle.fact_builder.specs.Beside.{CalledBeside}
use Rattle.fact_builder.specs.Walk.{RegistersAnswer}
use Rattle.fact_builder.proofs.RegisterLaws.{RegisteredTo}
use Rattle.fact_builder.proofs.known_resources.ResourcesBuilder.register_found_beside.Given as goal

abbrev pub invariant-loop-path : goal.invariant-loop-path
invariant-loop-path g l =
    goal.F-IsAlwaysCallable g l.register
    × RegisteredTo (RegistersAnswer g.R.Registrable.registration (CalledBeside g.F.FnMut l.beside)) l.fn.register l.fn.self (take l.path-index l.found) l.register l.self
