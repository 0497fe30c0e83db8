use Rattle.std.proofs.Common.{refl}
use Rattle.fact_assembly.proofs.TakeLaws.{promised-of}
use Rattle.fact_assembly.proofs.module.Module.imports.Goals as goal

pub returns-clause-named : goal.returns-clause-named
returns-clause-named c =
    rw (← c.self.view_is, c.imports.ensures) (λ whole adapters taken. (promised-of _ c.self.inside.checks c.self.inside.state.sections c.self.invariant.0 refl refl whole adapters taken).faithful.imports)

pub returns-clause-ordered : goal.returns-clause-ordered
returns-clause-ordered c =
    rw (← c.self.view_is, c.imports.ensures) (λ whole adapters taken. (promised-of _ c.self.inside.checks c.self.inside.state.sections c.self.invariant.0 refl refl whole adapters taken).order)
