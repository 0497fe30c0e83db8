use Rattle.std.proofs.Common.{◌≡◌, drop}
use Rattle.fact_machine.specs.Machine.{memory_import}
use Rattle.fact_host.proofs.roles.is_wide.Given as goal

abbrev pub invariant-loop-import : goal.invariant-loop-import
invariant-loop-import l = memory_import (drop l.import-index l.fn.module.imports) l.before ≡ memory_import l.fn.module.imports l.fn.number
