-- What a change of the module types through a reference makes of the tables.
use Rattle.std.specs.Prelude.{List, Some}
use Rattle.std.specs.Borrow.{Lends, MutBor, Fml}
use Rattle.fact_wasm.specs.declared.types.FuncType.{FuncType}
use Rattle.fact_types.specs.contracts.module_types.ModuleTypes.{the_row as types_row}
use Rattle.fact_types.specs.contracts.tables.ComponentTypes.{the_row as tables_row}
use Rattle.fact_types.specs.Tables.{Tables}

-- The tables end with the module types that were left behind r.
abbrev pub LendsTypes : MutBor Tables → MutBor (List FuncType) → Fml
LendsTypes s r = Lends tables_row types_row s r (λ w. record s.now { module_types = Some w })
