-- A call of an adapter on a host, and what is known of its run.
use Rattle.std.proofs.Common.{◌≡◌, ◌≢◌, ℕ, zero, suc, true, false, All, List, [], ◌∷◌, Option, Some, None, refl, sym, ap, ◌∙◌, subst, arith, slice_get}
use Rattle.std.specs.List.{AllZip, filter_map}
use Rattle.std.proofs.lemmas.List.Elements.{All-head, All-tail}
use Rattle.fact_wasm.specs.declared.module.WasmImport.{WasmImport}
use Rattle.fact_wasm.specs.declared.module.WasmModule.{WasmModule}
use Rattle.fact_wasm.specs.declared.types.ValType.TheVariants as val
use Rattle.fact_types.specs.declared.import.Import.{Import}
use Rattle.fact_types.specs.declared.interface.InterfaceType.{InterfaceType}
use Rattle.fact_types.specs.Adapters.{LinkedAdapter, is_wide}
use Rattle.fact_types.specs.Functions.{HaveShapes}
use Rattle.fact_types.specs.Shapes.{Shape}
use Rattle.fact_types.specs.Signatures.{lower_by, sync_lower}
use Rattle.fact_types.specs.Tables.{Tables}
use Rattle.fact_types.proofs.ShapeLaws.{none_some, one_shape, same_some}
use Rattle.fact_machine.specs.declared.types.CoreValue.{CoreValue}
use Rattle.fact_machine.specs.declared.types.CoreValue.TheVariants.{I32}
use Rattle.fact_machine.specs.declared.types.Event.{Event}
use Rattle.fact_machine.specs.declared.types.End.{End}
use Rattle.fact_machine.specs.declared.types.End.TheVariants.{Returned, Trapped, Thrown, Lacks, Going, Stuck}
use Rattle.fact_machine.specs.declared.types.MachineState.{MachineState}
use Rattle.fact_machine.specs.declared.types.Outcome.{Outcome}
use Rattle.fact_machine.specs.Causes.{answers_of}
use Rattle.fact_machine.specs.Lengths.{SeeLengths, lengths_of}
use Rattle.fact_machine.specs.Machine.{run_of}
use Rattle.fact_machine.specs.Typed.{IsValue, TypedAnswer, TypedState, type_of_global}
use Rattle.fact_machine.proofs.Lengths.{lengths_stay}
use Rattle.fact_values.specs.declared.value.Value.{Value}
use Rattle.fact_values.specs.Lift.{bits_of}
use Rattle.fact_values.specs.Tuples.{lower_param_values}
use Rattle.fact_actions.specs.Adapters.{AdapterTunables}
use Rattle.fact_actions.specs.Confined.{GiveUpLive}
use Rattle.fact_actions.specs.Honest.{AreHonestSync}
use Rattle.fact_actions.specs.Order.{flag_in}
use Rattle.fact_actions.specs.Regions.{landed, params_landing, sync_moved_on}
use Rattle.fact_actions.specs.Running.{ImportPlaces, Call}
use Rattle.fact_action_laws.specs.Requested.{HaveAskedSoFar, StopsFinishing}
use Rattle.fact_action_laws.specs.Trapped.{AreHonestUntilTrap}
use Rattle.fact_lowering.specs.Room.{fits}
use Rattle.fact_host.specs.declared.calling.HostCall.{HostCall}
use Rattle.fact_host.specs.declared.calling.HostOutcome.{HostOutcome}
use Rattle.fact_host.specs.declared.known.Known.{Known}
use Rattle.fact_host.specs.declared.roles.Role.{Role}
use Rattle.fact_host.specs.Beginning.{BeginsHosting}
use Rattle.fact_host.specs.Contract.{AreOfTypes, AreSuited, HasFirstMemory, IsHostAreaSound, IsCallable, IsFirstKnown, IsOutcomeOf, ones, steps_given}
use Rattle.fact_host.specs.Describes.{Describes, IsImportOf, named_calls}
use Rattle.fact_host.specs.Roles.{IsRole, function_imports}
use Rattle.fact_host.specs.Rules.{AreAnswers, CallShapes, side_bytes}
use Rattle.fact_emit.specs.ImportSection.{mentions}
use Rattle.fact_function_laws.specs.Names.{AreCalls, IsNamedLog, places_in}
use Rattle.fact_function_laws.specs.Runs.{HasAsked, IsHonestUntilTrapSoFar, IsTypedRun}
use Rattle.fact_function_laws.proofs.ImportNumbers.{named_log}
use Rattle.fact_function_laws.proofs.LoggedImports.{run_told}
use Rattle.fact_call_laws.specs.Carrying.{CallsAdapter, IsPromised}
use Rattle.fact_call_laws.proofs.Bridge.{are_named, describes, names_in}

-- A run on a host, whose callee answers so, after so many steps: what an outcome says of the run, but for what it came to.
pub record IsRunOf (m : WasmModule) (t : Tables) (c : HostCall) (s : CallShapes) (values : List Value) (answered : Option (List Value)) (steps : ℕ) (o : Outcome) : Type 0 where
  pub first : MachineState
  pub args : List CoreValue
  pub is_run : o ≡ run_of m c.func args first (answers_of o.log) steps
  pub known : Known
  pub known_first : IsFirstKnown c s values known
  pub ruled : AreAnswers (λ n r. (w : WasmImport) × (slice_get (function_imports m) n ≡ Some w) × IsRole m c n w r) c s answered known o.log
  pub state_typed : TypedState m first
  pub args_typed : AllZip (λ v ty. IsValue v ty) args (sync_lower c.lower.abi.memory64 s.lower_params s.lower_results).params
  pub answers_typed : All (λ e. TypedAnswer m e.func e.before e.answer) o.log
  pub flags : ones first
  pub lower_memory : HasFirstMemory c.lower first
  pub lift_memory : HasFirstMemory c.lift first
  pub area : IsHostAreaSound c s args first
  pub begins : (p : ImportPlaces) (a : LinkedAdapter) (names : ℕ → Import) → Describes m t c p a names → BeginsHosting c a args (lengths_of first) known
  pub honest : (p : ImportPlaces) (a : LinkedAdapter) (names : ℕ → Import) → Describes m t c p a names → AreHonestUntilTrap (AreHonestSync p a args) (named_calls names o.log)
  pub stored : lower_param_values false c.lower.abi (side_bytes c.lower first) s.lower_params args ≡ Some values

-- An outcome is the run after the steps that are given.
abbrev pub run_of_outcome : (m : WasmModule) (t : Tables) (c : HostCall) (s : CallShapes) (values : List Value) (answered given : Option (List Value)) (o : HostOutcome) → IsOutcomeOf m t c s values answered given o → IsRunOf m t c s values answered steps_given o.outcome
run_of_outcome m t c s values answered given o h = record {
  first = h.first;
  args = h.args;
  is_run = h.is_run;
  known = h.known;
  known_first = h.known_first;
  ruled = h.ruled;
  state_typed = h.state_typed;
  args_typed = h.args_typed;
  answers_typed = h.answers_typed;
  flags = h.flags;
  lower_memory = h.lower_memory;
  lift_memory = h.lift_memory;
  area = h.area;
  begins = h.begins;
  honest = h.honest;
  stored = h.stored;
}

-- A call of an adapter on a host, the values that the callee answers, and what came of it after so many steps.
pub record Setting : Type 0 where
  pub code : WasmModule
  pub imports : List Import
  pub tunables : AdapterTunables
  pub adapter : LinkedAdapter
  pub adapters : List LinkedAdapter
  pub function : ℕ
  pub types : Tables
  pub call : HostCall
  pub shapes : CallShapes
  pub values : List Value
  pub answered : List Value
  pub steps : ℕ
  pub outcome : HostOutcome

-- What is known of it.
pub record Called (x : Setting) : Type 0 where
  pub promised : IsPromised x.code x.imports x.tunables x.adapter x.adapters x.function
  pub calls : CallsAdapter x.code x.imports x.types x.call x.adapter x.function
  pub callable : IsCallable x.code x.types x.call x.shapes
  pub suited : AreSuited x.shapes x.values
  pub answer_suited : AreOfTypes x.shapes.lift_results x.answered
  pub answer_fits : fits x.shapes.lift_results x.shapes.lower_results x.answered ≡ true
  pub outcome : IsRunOf x.code x.types x.call x.shapes x.values (Some x.answered) x.steps x.outcome.outcome

abbrev pub places : Setting → ImportPlaces
places x = places_in x.code x.imports

abbrev pub names : Setting → ℕ → Import
names x = names_in x.code x.imports

abbrev pub log : Setting → List Event
log x = x.outcome.outcome.log

abbrev pub calls : Setting → List Call
calls x = named_calls (names x) (log x)

-- the nth imported function has a role
abbrev pub Named : Setting → ℕ → Role → Type 0
Named x n r = (w : WasmImport) × (slice_get (function_imports x.code) n ≡ Some w) × IsRole x.code x.call n w r

-- ---- lists

pub one_shapes : (t : Tables) (tys : List InterfaceType) (ss zs : List Shape) → HaveShapes t tys ss → HaveShapes t tys zs → ss ≡ zs
one_shapes t [] [] [] h g = refl
one_shapes t [] [] (z ∷ zs) h g = absurd g
one_shapes t [] (s ∷ ss) zs h g = absurd h
one_shapes t (ty ∷ tys) [] zs h g = absurd h
one_shapes t (ty ∷ tys) (s ∷ ss) [] h g = absurd g
one_shapes t (ty ∷ tys) (s ∷ ss) (z ∷ zs) h g = λ k. one_shape t s z ty h.0 g.0 k ∷ one_shapes t tys ss zs h.1 g.1 k

zip_at : {A B : Type 0} (R : A → B → Type 0) (xs : List A) (ys : List B) (k : ℕ) (x : A) → AllZip R xs ys → slice_get xs k ≡ Some x → (y : B) × (slice_get ys k ≡ Some y)
zip_at R [] ys k x h e = absurd (none_some (slice_get [] k) x refl e)
zip_at R (z ∷ xs) [] k x h e = absurd h
zip_at R (z ∷ xs) (y ∷ ys) zero x h e = (y, refl)
zip_at R (z ∷ xs) (y ∷ ys) (suc k) x h e = zip_at R xs ys k x h.1 e

all_at : {A : Type 0} (P : A → Type 0) (xs : List A) (k : ℕ) (x : A) → All P xs → slice_get xs k ≡ Some x → P x
all_at P [] k x h e = absurd (none_some (slice_get [] k) x refl e)
all_at P (y ∷ xs) zero x h e = subst P (same_some (Some y) y x refl e) (All-head P y xs h)
all_at P (y ∷ xs) (suc k) x h e = all_at P xs k x (All-tail P y xs h) e

-- ---- the run

module _ (x : Setting) (h : Called x) where
  pub described : Describes x.code x.types x.call (places x) x.adapter (names x)
  described = describes x.code x.imports x.adapters h.promised.names h.callable.adapter x.types x.call x.adapter x.function h.calls h.promised.checked.own_callee

  pub is_import : (n : ℕ) (r : Role) → Named x n r → IsImportOf (places x) x.adapter r (names x n)
  is_import n r q = described.functions n q.0 r q.1 q.2

  abbrev pub run : Outcome
  run = run_of x.code x.function h.outcome.args h.outcome.first (answers_of (log x)) x.steps

  pub run_is : x.outcome.outcome ≡ run
  run_is = h.outcome.is_run ∙ ap (λ n. run_of x.code n h.outcome.args h.outcome.first (answers_of (log x)) x.steps) h.calls.func

  -- ---- types

  pub lower_params_are : x.adapter.lower.params ≡ x.shapes.lower_params
  lower_params_are = one_shapes x.types x.call.lower.params _ _ h.calls.lower.params h.callable.shapes.lower_params

  pub lower_results_are : x.adapter.lower.results ≡ x.shapes.lower_results
  lower_results_are = one_shapes x.types x.call.lower.results _ _ h.calls.lower.results h.callable.shapes.lower_results

  pub lift_params_are : x.adapter.lift.params ≡ x.shapes.lift_params
  lift_params_are = one_shapes x.types x.call.lift.params _ _ h.calls.lift.params h.callable.shapes.lift_params

  pub lift_results_are : x.adapter.lift.results ≡ x.shapes.lift_results
  lift_results_are = one_shapes x.types x.call.lift.results _ _ h.calls.lift.results h.callable.shapes.lift_results

  core_params_are : (sync_lower x.call.lower.abi.memory64 x.shapes.lower_params x.shapes.lower_results).params ≡ x.adapter.lower.core_type.params
  core_params_are =
      sym (h.promised.core_params
      ∙ ap (λ b. (lower_by b (is_wide x.adapter.lower.memory) x.adapter.lower.params x.adapter.lower.results).params) h.calls.lower.is_sync
      ∙ ap (λ w. (sync_lower w x.adapter.lower.params x.adapter.lower.results).params) h.calls.lower.memory64
      ∙ ap (λ ps. (sync_lower x.call.lower.abi.memory64 ps x.adapter.lower.results).params) lower_params_are
      ∙ ap (λ rs. (sync_lower x.call.lower.abi.memory64 x.shapes.lower_params rs).params) lower_results_are)

  pub typed_log : IsTypedRun x.code x.adapter h.outcome.args h.outcome.first (log x)
  typed_log = record {
    state = h.outcome.state_typed;
    arguments = subst (λ ts. AllZip (λ v t. IsValue v t) h.outcome.args ts) core_params_are h.outcome.args_typed;
    answers = h.outcome.answers_typed;
  }

  pub typed : IsTypedRun x.code x.adapter h.outcome.args h.outcome.first run.log
  typed = subst (λ (o : Outcome). IsTypedRun x.code x.adapter h.outcome.args h.outcome.first o.log) run_is typed_log

  -- ---- calls

  pub are_calls : AreCalls x.code x.imports run.log (calls x)
  are_calls =
      let n : IsNamedLog x.code x.imports run.log = named_log x.code x.imports (mentions x.adapters) h.promised.names.named run.log (run_told x.code x.function h.outcome.args h.outcome.first (answers_of (log x)) x.steps) in
      subst (λ (o : Outcome). AreCalls x.code x.imports run.log (named_calls (names x) o.log)) (sym run_is) (are_named x.code x.imports run.log n.calls n.are_calls)

  pub honest : AreHonestUntilTrap (AreHonestSync (places x) x.adapter h.outcome.args) (calls x)
  honest = h.outcome.honest (places x) x.adapter (names x) described

  abbrev pub to_trap : IsHonestUntilTrapSoFar x.code x.imports x.adapter h.outcome.args h.outcome.first run.log
  to_trap = record { typed = typed; calls = calls x; are_calls = are_calls; honest = honest }

  -- the lower side may leave
  pub may_leave : flag_in (places x) x.adapter.lower.instance h.outcome.first.globals ≢ I32 0
  may_leave e =
      let at = zip_at (λ t v. IsValue v t) (filter_map type_of_global x.code.imports) h.outcome.first.globals ((places x).flags x.adapter.lower.instance) val.I32 h.outcome.state_typed.globals h.promised.places.lower_flags in
      let one : at.0 ≡ I32 1 = all_at (λ v. v ≡ I32 1) h.outcome.first.globals ((places x).flags x.adapter.lower.instance) at.0 h.outcome.flags at.1 in
      let flag : flag_in (places x) x.adapter.lower.instance h.outcome.first.globals ≡ at.0 = ap (λ o. elim o as (λ (z : Option CoreValue). CoreValue) [ None ↦ I32 0 | Some v ↦ v ]) at.1 in
      let bad : 1 ≡ 0 = ap bits_of (sym one ∙ sym flag ∙ e) in
      omega (arith, bad)

  -- how far it came
  pub so_far : HaveAskedSoFar (places x) x.tunables x.adapter h.outcome.args h.outcome.first (calls x)
  so_far = by run.end (h.promised.behaves.requests_are_called_for h.outcome.args h.outcome.first (answers_of (log x)) x.steps to_trap)
    where
      by : (e : End) → HasAsked (places x) x.tunables x.adapter h.outcome.args h.outcome.first e (calls x) → HaveAskedSoFar (places x) x.tunables x.adapter h.outcome.args h.outcome.first (calls x)
      by (Returned results) q = StopsFinishing q
      by Trapped q = q may_leave
      by Thrown q = q may_leave
      by Lacks q = q may_leave
      by Going q = q may_leave
      by Stuck q = absurd q

  pub gives_up : GiveUpLive x.adapter (sync_moved_on x.adapter h.outcome.args) (landed (params_landing x.adapter)) (calls x)
  gives_up = h.promised.behaves.gives_up_live h.outcome.args h.outcome.first (answers_of (log x)) x.steps (calls x) typed are_calls

  pub see_lengths : SeeLengths (lengths_of h.outcome.first) (log x)
  see_lengths = subst (λ (o : Outcome). SeeLengths (lengths_of h.outcome.first) o.log) (sym run_is) (lengths_stay x.code x.function h.outcome.args h.outcome.first (answers_of (log x)) x.steps)
