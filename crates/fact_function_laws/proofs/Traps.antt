-- A function of an adapter within one instance only traps: its runs make the one outside call of the adapter's action, and write
-- nothing.
use Rattle.std.proofs.Common.{◌≡◌, ℕ, Bool, true, false, List, [], ◌∷◌, ◌++◌, filter, Some, refl, sym, ap, ◌∙◌, subst, reverse}
use Rattle.std.proofs.lemmas.List.Elements.{filter-append}
use Rattle.fact_wasm.specs.declared.module.WasmModule.{WasmModule}
use Rattle.fact_machine.specs.declared.types.Answer.{Answer}
use Rattle.fact_machine.specs.declared.types.Answer.TheVariants.{Returns, Traps, Throws}
use Rattle.fact_machine.specs.declared.types.CoreValue.{CoreValue}
use Rattle.fact_machine.specs.declared.types.MachineState.{MachineState}
use Rattle.fact_machine.specs.declared.types.TraceEntry.{TraceEntry}
use Rattle.fact_machine.specs.declared.types.TraceEntry.TheVariants.{Called}
use Rattle.fact_machine.specs.Exits.{entry_locals, first_world}
use Rattle.fact_machine.specs.Machine.{run_of}
use Rattle.fact_machine.specs.Trace.{trace_of}
use Rattle.fact_machine.specs.World.{World}
use Rattle.fact_types.specs.declared.import.Import.{Import}
use Rattle.fact_types.specs.declared.import.Import.TheVariants as import
use Rattle.fact_types.specs.declared.outside.Trap.TheVariants.{CannotEnterComponent}
use Rattle.fact_types.specs.Adapters.{LinkedAdapter}
use Rattle.fact_actions.specs.Actions.{Unreachable}
use Rattle.fact_actions.specs.Adapters.{same_instance}
use Rattle.fact_actions.specs.Laws.{call_event}
use Rattle.fact_actions.specs.Running.{ImportPlaces, Call, if_typed, is_answer, later, run, world_in}
use Rattle.fact_actions.proofs.AdapterEnds.{same_instance_traps}
use Rattle.fact_actions.proofs.Follows.{runs_follow}
use Rattle.fact_actions.proofs.Stays.{typed_same_instance_stays}
use Rattle.fact_function_laws.specs.Functions.{IsTrapFunction, core_results, start_results}
use Rattle.fact_function_laws.specs.Laws.{TrapFunctionsTrap}
use Rattle.fact_function_laws.specs.Names.{places_in}
use Rattle.fact_actions.specs.AdapterLaws.{is_write}
use Rattle.fact_function_laws.specs.Runs.{IsNamedPlainRun, IsTypedRun, same_instance_outcome}
use Rattle.fact_function_laws.proofs.ImportNumbers.{places_name}
use Rattle.fact_function_laws.proofs.TypedCalls.{are_places, named_types}
use Rattle.fact_function_laws.proofs.FunctionRuns.{EndsIn, is_named_plain, not_stuck, straight, trace_front}
use Rattle.fact_wasm.specs.declared.types.FuncType.{FuncType}
use Rattle.fact_machine.specs.Typed.{are_values}
use Rattle.fact_actions.specs.TypedAnswers.{result_types}
use Rattle.fact_code_laws.specs.Does.{EndsSo, Onward}
use Rattle.fact_code_laws.specs.PieceLaws.{HaveResultTypes}
use Rattle.fact_compound.specs.Syncs.{lower_type_of}
use Rattle.fact_emit.specs.ImportSection.{mentions}

-- ---- writes

abbrev pub WritesNothing : List TraceEntry → Type 0
WritesNothing entries = filter is_write entries ≡ []

-- what is written in a front of a trace is written in it
pub front_writes : (entries more : List TraceEntry) → WritesNothing (entries ++ more) → WritesNothing entries
front_writes entries more h = none_before (filter is_write entries) (filter is_write more) (sym (filter-append is_write entries more) ∙ h)
  where
    none_before : (xs ys : List TraceEntry) → xs ++ ys ≡ [] → xs ≡ []
    none_before [] ys e = refl
    none_before (x ∷ xs) ys e = cc

-- the action itself writes nothing, whatever is answered
action_writes_nothing : (p : ImportPlaces) (before : MachineState) (answers : List Answer) → WritesNothing (world_in (run p same_instance (first_world before answers))).trace
action_writes_nothing p before [] = refl
action_writes_nothing p before (Traps ∷ more) = refl
action_writes_nothing p before (Throws ∷ more) = refl
action_writes_nothing p before (Returns results after ∷ more) = by (is_answer p [] before results after)
  where
    call : Call
    call = record { what = import.Trap CannotEnterComponent; args = []; before = before; answer = Returns results after }

    behind : World
    behind = record { state = after; answers = more; trace = Called (call_event p call) ∷ [] }

    by : (b : Bool) → WritesNothing (world_in (later (call ∷ []) (if_typed b behind (run {A = List CoreValue} p Unreachable behind)))).trace
    by true = refl
    by false = refl

-- ---- runs

module _ (m : WasmModule) (is : List Import) (a : LinkedAdapter) (adapters : List LinkedAdapter) (f : ℕ) (h : IsTrapFunction m is a adapters f) where
  ends_in : EndsIn m is (places_in m is) (result_types (core_results m is) (start_results m is)) adapters f a.lower.core_type 1 (λ args w. run (places_in m is) same_instance w)
  ends_in = record {
    function = h.function;
    function_is = h.function_is;
    type_is = h.type_is ∙ ap Some (sym h.core_type);
    names = h.names;
    naming = places_name m is;
    are = are_places m is;
    types_are = named_types m is (mentions adapters) h.names.named;
    ends = λ args w typed.
        let own : are_values args (lower_type_of a).params ≡ true = subst (λ (t : FuncType). are_values args t.params ≡ true) h.core_type typed in
        subst (λ (t : FuncType). EndsSo m (places_in m is) Onward 1 0 w [] (entry_locals h.function args) h.function.body reverse (HaveResultTypes t) (run (places_in m is) same_instance w)) (sym h.core_type) ((h.does.does args own).by w);
    follows = λ args w. runs_follow (places_in m is) same_instance w;
    stays_typed = λ args w. typed_same_instance_stays (places_in m is) w (core_results m is) (start_results m is);
  }

  plain : (args : List CoreValue) (before : MachineState) (answers : List Answer) → ((steps : ℕ) → IsTypedRun m a args before (run_of m f args before answers steps).log)
      → IsNamedPlainRun m is f args before answers (same_instance_outcome before answers)
  plain args before answers all =
      let goes_straight = straight m is (places_in m is) _ adapters f a.lower.core_type 1 _ ends_in args before answers all in
      subst (IsNamedPlainRun m is f args before answers) (same_instance_traps (places_in m is) before answers goes_straight) (is_named_plain m is (places_in m is) _ adapters f a.lower.core_type 1 _ ends_in args before answers all)

  writes_nothing : (args : List CoreValue) (before : MachineState) (answers : List Answer) (steps : ℕ) → IsTypedRun m a args before (run_of m f args before answers steps).log
      → WritesNothing (trace_of m f args before answers steps)
  writes_nothing args before answers steps typed =
      let front = trace_front m is (places_in m is) _ adapters f a.lower.core_type 1 _ ends_in args before answers steps typed in
      front_writes (trace_of m f args before answers steps) front.more (subst WritesNothing front.is (action_writes_nothing (places_in m is) before answers))

pub trap_functions_trap : TrapFunctionsTrap
trap_functions_trap m is a adapters f h = record {
  plain = plain m is a adapters f h;
  not_stuck = λ args before answers steps typed. not_stuck m is (places_in m is) _ adapters f a.lower.core_type 1 _ (ends_in m is a adapters f h) args before answers steps typed;
  writes_nothing = writes_nothing m is a adapters f h;
}
