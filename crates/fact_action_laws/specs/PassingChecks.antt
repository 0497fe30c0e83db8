-- What debug checks ask of the values of a run: those that cross in core values have upper halves of 0 where 32 bits are read.
-- Values behind a pointer stand in memory, and nothing is asked of them.
use Rattle.std.specs.Prelude.{◌≡◌, true, List, ◌∷◌, ◌++◌, Option, Some, None}
use Rattle.fact_wasm.specs.declared.types.ValType.{ValType}
use Rattle.fact_machine.specs.declared.types.CoreValue.{CoreValue}
use Rattle.fact_types.specs.Adapters.{LinkedAdapter, is_wide}
use Rattle.fact_types.specs.Shapes.{Shape}
use Rattle.fact_types.specs.Signatures.{flat_values, lower_limit, lift_results_limit}
use Rattle.fact_types.specs.Tuples.{tuple_members}
use Rattle.fact_types.specs.declared.import.Import.TheVariants as import
use Rattle.fact_types.specs.declared.extents.MemoryWidth.{MemoryWidth}
use Rattle.fact_values.specs.UpperHalves.{AreNarrowThroughout}
use Rattle.fact_actions.specs.Adapters.{AdapterTunables}
use Rattle.fact_actions.specs.Calls.{results}
use Rattle.fact_actions.specs.Running.{Call}
use Rattle.fact_actions.specs.Sides.{options_of, width_of_side}

-- of values that are flat
abbrev pub AreNarrowValues : MemoryWidth → Option (List ValType) → List Shape → (given : List CoreValue) → Type 0
AreNarrowValues w (Some flats) ts given = AreNarrowThroughout w (tuple_members ts) given
AreNarrowValues w None ts given = Unit {0}

-- of the parameters, behind which a return pointer may stand
abbrev pub AreNarrowParams : LinkedAdapter → (args : List CoreValue) → Type 0
AreNarrowParams a args = AreNarrowValues (width_of_side (options_of a.lower)) (flat_values (is_wide a.lower.memory) (lower_limit a.lower.async_side) a.lower.params) a.lower.params args

-- of the results that the callee answers, or that the runtime hands on, where a return pointer may stand behind them
abbrev pub AreNarrowResults : LinkedAdapter → (given : List CoreValue) → Type 0
AreNarrowResults a given = AreNarrowValues (width_of_side (options_of a.lift)) (flat_values (is_wide a.lift.memory) (lift_results_limit a.lift.async_side) a.lift.results) a.lift.results given

-- Of a run of a sync adapter with debug checks on: of the parameters, and of the results where the callee answered.
pub record PassChecks (u : AdapterTunables) (a : LinkedAdapter) (args : List CoreValue) (calls : List Call) : Type 0 where
  pub params : u.debug ≡ true → AreNarrowParams a args
  pub results : u.debug ≡ true → (before : List Call) (callee : Call) (behind : List Call) → calls ≡ before ++ (callee ∷ behind) → callee.what ≡ import.CoreDef a.callee → AreNarrowResults a (results callee)

-- Of the functions of an async adapter that move parameters and results.
abbrev pub ParamsPassChecks : AdapterTunables → LinkedAdapter → (args : List CoreValue) → Type 0
ParamsPassChecks u a args = u.debug ≡ true → AreNarrowParams a args

abbrev pub ResultsPassChecks : AdapterTunables → LinkedAdapter → (args : List CoreValue) → Type 0
ResultsPassChecks u a args = u.debug ≡ true → AreNarrowResults a args
