-- Laws of hosts: what their rules answer is honest, and typed.
use Rattle.std.specs.Prelude.{◌≡◌, ℕ, All, List, slice_get, Option, Some}
use Rattle.fact_wasm.specs.declared.module.WasmImport.{WasmImport}
use Rattle.fact_wasm.specs.declared.module.WasmModule.{WasmModule}
use Rattle.fact_types.specs.declared.import.Import.{Import}
use Rattle.fact_types.specs.Adapters.{LinkedAdapter}
use Rattle.fact_types.specs.Tables.{Tables}
use Rattle.fact_machine.specs.declared.types.CoreValue.{CoreValue}
use Rattle.fact_machine.specs.declared.types.Event.{Event}
use Rattle.fact_machine.specs.LastTrap.{TrapIsLast}
use Rattle.fact_machine.specs.Lengths.{SeeLengths}
use Rattle.fact_machine.specs.Typed.{TypedAnswer}
use Rattle.fact_check.specs.Accepted.{IsAdapterModule}
use Rattle.fact_check.specs.Soundness.{SeeTyped}
use Rattle.fact_values.specs.declared.value.Value.{Value}
use Rattle.fact_actions.specs.Honest.{AreHonestSync}
use Rattle.fact_actions.specs.Running.{ImportPlaces}
use Rattle.fact_action_laws.specs.Trapped.{AreHonestUntilTrap}
use Rattle.fact_host.specs.declared.calling.HostCall.{HostCall}
use Rattle.fact_host.specs.declared.roles.Role.{Role}
use Rattle.fact_host.specs.Beginning.{BeginsHosting}
use Rattle.fact_host.specs.Contract.{HasSideMeans, HasSyncTypes, NamesEachOnce}
use Rattle.fact_host.specs.Describes.{Describes, named_calls}
use Rattle.fact_host.specs.Roles.{IsRole, function_imports}
use Rattle.fact_host.specs.declared.known.Known.{Known}
use Rattle.fact_host.specs.Rules.{AreAnswers, CallShapes}

-- the nth imported function has a role
abbrev pub HasRole : WasmModule → HostCall → ℕ → Role → Type 0
HasRole m c n r = (w : WasmImport) × (slice_get (function_imports m) n ≡ Some w) × IsRole m c n w r

-- A log that is answered by the rules is honest up to a trap, whatever adapter the call is described as. That the calls see the lengths and a
-- trap is the last holds of each run.
abbrev pub AnswersAreHonest : Type 0
AnswersAreHonest =
    (m : WasmModule) (t : Tables) (c : HostCall) (p : ImportPlaces) (a : LinkedAdapter) (names : ℕ → Import) (s : CallShapes)
    (args : List CoreValue) (lengths : List ℕ) (answered : Option (List Value)) (k : Known) (log : List Event)
    → Describes m t c p a names → NamesEachOnce c → BeginsHosting c a args lengths k
    → AreAnswers (HasRole m c) c s answered k log → SeeLengths lengths log → TrapIsLast log
    → AreHonestUntilTrap (AreHonestSync p a args) (named_calls names log)

-- A log that is answered by the rules, and whose calls see what they do in runs, is answered by typed answers, where the functions that the call
-- names have their types.
abbrev pub AnswersAreTyped : Type 0
AnswersAreTyped =
    (m : WasmModule) (c : HostCall) (s : CallShapes) (answered : Option (List Value)) (k : Known) (log : List Event)
    → IsAdapterModule m → HasSyncTypes m c s → HasSideMeans m c.lower → HasSideMeans m c.lift
    → AreAnswers (HasRole m c) c s answered k log → SeeTyped m log → All (λ e. TypedAnswer m e.func e.before e.answer) log
