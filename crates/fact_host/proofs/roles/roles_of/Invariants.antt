use Rattle.std.proofs.Common.{List, ◌++◌, drop, length}
use Rattle.std.specs.Prelude.{filter}
use Rattle.fact_host.specs.declared.roles.Role.{Role}
use Rattle.fact_host.specs.Roles.{HaveRoles, function_imports, is_function}
use Rattle.fact_host.proofs.roles.roles_of.Given as goal

abbrev pub invariant-loop-import : goal.invariant-loop-import
invariant-loop-import l =
    (rest : List Role) → HaveRoles l.fn.module l.fn.call (length l.roles) (filter is_function (drop l.import-index l.fn.module.imports)) rest
    → HaveRoles l.fn.module l.fn.call 0 (function_imports l.fn.module) (l.roles ++ rest)
