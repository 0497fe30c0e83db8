use Rattle.fact_host.specs.Begun.{AreMade}
use Rattle.fact_host.proofs.beginning.first_state.Given as goal

abbrev pub invariant-loop-import : goal.invariant-loop-import
invariant-loop-import l = AreMade l.call l.fn.module.imports l.import-index l.memories l.globals
