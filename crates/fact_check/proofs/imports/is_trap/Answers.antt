use Rattle.std.specs.Prelude.{codes}
use Rattle.fact_check.proofs.ImportRows.{trap_decided}
use Rattle.fact_check.proofs.imports.is_trap.Goals as goal

pub returns-in-Some : goal.returns-in-Some
returns-in-Some c = trap_decided 12 (codes "trap") c.args.name.now c.in-Some.number c.in-Some.ensures
