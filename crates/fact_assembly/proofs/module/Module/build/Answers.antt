use Rattle.std.proofs.Common.{refl}
use Rattle.fact_assembly.proofs.TakeLaws.{keeps-promises}
use Rattle.fact_assembly.proofs.module.Module.build.Goals as goal

pub returns-clause-built : goal.returns-clause-built
returns-clause-built c = rw (← c.self.view_is) c.in_ok-copy.ensures.copy

pub returns-clause-promised : goal.returns-clause-promised
returns-clause-promised c =
    rw (← c.self.view_is) (keeps-promises _ c.self.inside.checks c.self.inside.state.sections c.self.invariant.0 refl refl c.if-not-self.false c.copy.ensures.numbered)
