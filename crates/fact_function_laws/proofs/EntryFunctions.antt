-- The function of an async adapter that has its name: its runs make the two calls, one after the other, and write nothing.
use Rattle.std.proofs.Common.{◌≡◌, ℕ, zero, suc, Bool, true, false, List, [], ◌∷◌, Option, Some, None, if◌then◌else◌, refl, sym, ap, ◌∙◌, subst, cond, filter, reverse, slice_get}
use Rattle.fact_wasm.specs.declared.instr.FuncName.TheVariants as func
use Rattle.fact_wasm.specs.declared.module.ImportType.{ImportType}
use Rattle.fact_wasm.specs.declared.module.ImportType.TheVariants as kind
use Rattle.fact_wasm.specs.declared.module.WasmImport.{WasmImport}
use Rattle.fact_wasm.specs.declared.module.WasmModule.{WasmModule}
use Rattle.fact_wasm.specs.declared.types.FuncType.{FuncType}
use Rattle.fact_wasm.specs.declared.types.ValType.{ValType}
use Rattle.fact_machine.specs.declared.types.Answer.{Answer}
use Rattle.fact_machine.specs.declared.types.CoreValue.{CoreValue}
use Rattle.fact_machine.specs.declared.types.MachineState.{MachineState}
use Rattle.fact_machine.specs.Exits.{entry_locals}
use Rattle.fact_machine.specs.Machine.{func_import, run_of}
use Rattle.fact_machine.specs.Trace.{trace_of}
use Rattle.fact_machine.specs.Typed.{are_values, type_of_import}
use Rattle.fact_types.specs.Adapters.{LinkedAdapter}
use Rattle.fact_types.specs.declared.import.Import.{Import}
use Rattle.fact_types.specs.declared.import.Import.TheVariants as known
use Rattle.fact_types.specs.declared.outside.CoreDef.{CoreDef}
use Rattle.fact_types.specs.declared.outside.UnsafeIntrinsic.TheVariants as slot
use Rattle.fact_actions.specs.AdapterLaws.{entry_outcome}
use Rattle.fact_actions.specs.Adapters.{References, async_call, def_of_memory, lower_signature_of}
use Rattle.fact_actions.specs.Running.{ImportPlaces, run}
use Rattle.fact_actions.specs.Sides.{options_of}
use Rattle.fact_actions.specs.TypedAnswers.{result_types}
use Rattle.fact_actions.proofs.AdapterEnds.{async_calls_twice, async_calls_write_nothing}
use Rattle.fact_actions.proofs.Follows.{runs_follow}
use Rattle.fact_actions.proofs.Stays.{typed_async_calls_stay}
use Rattle.fact_code_laws.specs.Does.{EndsSo, Onward}
use Rattle.fact_code_laws.specs.PieceLaws.{HaveResultTypes}
use Rattle.fact_emit.specs.ImportSection.{a_function, imported_function, imported_type, imports_of, is_of, mentions, same_sort, sort_of}
use Rattle.fact_emit.specs.PlacesOf.{same_import}
use Rattle.fact_emit.specs.TaskTypes.{prepare_call_type, start_call_type}
use Rattle.fact_emit.proofs.PlacesOfLaws.{exact_import, import_self, placed_is}
use Rattle.fact_compound.specs.Entries.{with_task_calls}
use Rattle.fact_compound.specs.Syncs.{lower_type_of}
use Rattle.fact_function_laws.specs.Functions.{IsEntryFunctionOf, core_results, start_results}
use Rattle.fact_function_laws.specs.Laws.{EntryFunctionsHandOver}
use Rattle.fact_function_laws.specs.Names.{places_in}
use Rattle.fact_function_laws.specs.Runs.{IsNamedRun, IsTypedRun}
use Rattle.fact_function_laws.proofs.FunctionRuns.{EndsIn, is_named_plain, not_stuck, straight, trace_front}
use Rattle.fact_function_laws.proofs.ImportNumbers.{IsNaming}
use Rattle.fact_function_laws.proofs.Traps.{WritesNothing, front_writes}
use Rattle.fact_function_laws.proofs.TypedCalls.{named_types}

-- ---- the type of the function imported at a number

abbrev FunctionOf : List FuncType → Option ℕ → Option FuncType
FunctionOf types o = elim o as (λ (x : Option ℕ). Option FuncType) [ None ↦ None | Some t ↦ slice_get types t ]

function_typed : (types : List FuncType) (ws : List WasmImport) (n : ℕ) (w : WasmImport) (ty : FuncType)
    → slice_get (filter (is_of a_function) ws) n ≡ Some w → imported_type types w.ty ≡ Some ty → FunctionOf types (func_import ws n) ≡ Some ty
function_typed types [] n w ty there typed = cc
function_typed types (v ∷ ws) n w ty there typed = by_type v.ty refl n (λ m e. function_typed types ws m w ty e typed) there
  where
    behind : List WasmImport
    behind = filter (is_of a_function) ws

    by_type : (t : ImportType) → v.ty ≡ t → (k : ℕ) → ((m : ℕ) → slice_get behind m ≡ Some w → FunctionOf types (func_import ws m) ≡ Some ty)
        → slice_get (cond (same_sort a_function (sort_of t)) (v ∷ behind) behind) k ≡ Some w
        → FunctionOf types (elim t as (λ (x : ImportType). Option ℕ) [ kind.Func u ↦ elim k [ zero ↦ Some u | suc m ↦ func_import ws m ] | kind.Memory a b c ↦ func_import ws k | kind.Global a b ↦ func_import ws k ]) ≡ Some ty
    by_type (kind.Func u) e zero rest h =
        let same : v ≡ w = cc in
        ap (imported_type types) (sym e) ∙ ap (λ (x : WasmImport). imported_type types x.ty) same ∙ typed
    by_type (kind.Func u) e (suc m) rest h = rest m h
    by_type (kind.Memory a b c) e k rest h = rest k h
    by_type (kind.Global a b) e k rest h = rest k h

-- ---- functions

module _ (m : WasmModule) (is : List Import) (a : LinkedAdapter) (r : References) (adapters : List LinkedAdapter) (f : ℕ) (h : IsEntryFunctionOf m is a r adapters f) where
  abbrev prepare : Import
  prepare = known.PrepareCall (def_of_memory (options_of a.lift))

  abbrev start : Import
  start = known.StartCall a.lift.callback a.lift.post_return

  abbrev p : ImportPlaces
  p = with_task_calls a h.prepare_call h.start_call (places_in m is)

  -- ---- what stands at its places

  prepare_typed : type_of_import m h.prepare_call ≡ Some (prepare_call_type a.lower.core_type.params)
  prepare_typed = function_typed m.types m.imports h.prepare_call h.prepare_is.import _ h.prepare_is.there h.prepare_is.named.is_typed

  start_typed : type_of_import m h.start_call ≡ Some (start_call_type a.lower.core_type.results)
  start_typed = function_typed m.types m.imports h.start_call h.start_is.named.import _ h.start_is.named.there h.start_is.named.named.is_typed

  -- each of its two calls stands at its number, and each other import at its first place
  placed : (b c : Bool) (i j : Import) → same_import prepare i ≡ b → same_import start i ≡ c
      → imported_function m is (func.Import (if b then h.prepare_call else (if c then h.start_call else (places_in m is).function i))) ≡ Some j → j ≡ i
  placed true c i j e g there =
      let same : Some prepare ≡ Some j = sym h.prepare_is.is_what ∙ there in
      let is_j : prepare ≡ j = cc in
      sym is_j ∙ exact_import prepare i e
  placed false true i j e g there =
      let same : Some start ≡ Some j = sym h.start_is.named.is_what ∙ there in
      let is_j : start ≡ j = cc in
      sym is_j ∙ exact_import start i g
  placed false false i j e g there = placed_is i j (imports_of a_function m.imports is) there

  naming : IsNaming m is p
  naming = record { names = λ i j there. placed (same_import prepare i) (same_import start i) i j refl refl there }

  -- ---- what is answered to its calls

  -- what the start-calls give that stand at its places
  abbrev starts_give : (callback post_return : Option CoreDef) → List ValType
  starts_give callback post_return = elim (type_of_import m (p.function (known.StartCall callback post_return))) [ None ↦ [] | Some t ↦ t.results ]

  abbrev gives : Import → List ValType
  gives = result_types (core_results m is) starts_give

  named : (i : Import) (t : FuncType) → type_of_import m ((places_in m is).function i) ≡ Some t → result_types (core_results m is) (start_results m is) i ≡ t.results
  named = named_types m is (mentions adapters) h.names.named

  prepare_gives : (b : Bool) (memory : Option CoreDef) (t : FuncType) → type_of_import m (if b then h.prepare_call else (places_in m is).function (known.PrepareCall memory)) ≡ Some t → [] ≡ t.results
  prepare_gives true memory t typed =
      let same : Some (prepare_call_type a.lower.core_type.params) ≡ Some t = sym prepare_typed ∙ typed in
      let is_t : prepare_call_type a.lower.core_type.params ≡ t = cc in
      ap (λ (u : FuncType). u.results) is_t
  prepare_gives false memory t typed = named (known.PrepareCall memory) t typed

  types_are : (i : Import) (t : FuncType) → type_of_import m (p.function i) ≡ Some t → gives i ≡ t.results
  types_are (known.CoreDef d) t typed = named (known.CoreDef d) t typed
  types_are (known.PrepareCall memory) t typed = prepare_gives (same_import prepare (known.PrepareCall memory)) memory t typed
  types_are (known.StartCall callback post_return) t typed = ap (λ o. elim o as (λ (x : Option FuncType). List ValType) [ None ↦ [] | Some s ↦ s.results ]) typed
  types_are (known.Transcode o from wide to wide') t typed = named (known.Transcode o from wide to wide') t typed
  types_are (known.Trap u) t typed = named (known.Trap u) t typed
  types_are known.ResourceTransferOwn t typed = named known.ResourceTransferOwn t typed
  types_are known.ResourceTransferBorrow t typed = named known.ResourceTransferBorrow t typed
  types_are known.FutureTransfer t typed = named known.FutureTransfer t typed
  types_are known.StreamTransfer t typed = named known.StreamTransfer t typed
  types_are known.ErrorContextTransfer t typed = named known.ErrorContextTransfer t typed
  types_are known.EnterSyncCall t typed = named known.EnterSyncCall t typed
  types_are known.ExitSyncCall t typed = named known.ExitSyncCall t typed
  types_are (known.UnsafeIntrinsic slot.ContextGetI32_0) t typed = named (known.UnsafeIntrinsic slot.ContextGetI32_0) t typed
  types_are (known.UnsafeIntrinsic slot.ContextGetI32_1) t typed = named (known.UnsafeIntrinsic slot.ContextGetI32_1) t typed
  types_are (known.UnsafeIntrinsic slot.ContextSetI32_0) t typed = named (known.UnsafeIntrinsic slot.ContextSetI32_0) t typed
  types_are (known.UnsafeIntrinsic slot.ContextSetI32_1) t typed = named (known.UnsafeIntrinsic slot.ContextSetI32_1) t typed

  -- its own start-call gives what the adapter gives
  start_place : p.function start ≡ h.start_call
  start_place = ap (λ b. if b then h.start_call else (places_in m is).function start) (import_self start)

  start_gives : starts_give a.lift.callback a.lift.post_return ≡ (lower_signature_of a).results
  start_gives =
      let at = ap (type_of_import m) start_place ∙ start_typed in
      ap (λ o. elim o as (λ (x : Option FuncType). List ValType) [ None ↦ [] | Some s ↦ s.results ]) at ∙ ap (λ (t : FuncType). t.results) h.core_type

  -- ---- runs

  ends_in : EndsIn m is p gives adapters f a.lower.core_type 100 (λ args w. run p (async_call a r args) w)
  ends_in = record {
    function = h.function;
    function_is = h.function_is;
    type_is = h.type_is ∙ ap Some (sym h.core_type);
    names = h.names;
    naming = naming;
    are = record { memories = refl; globals = refl };
    types_are = types_are;
    ends = λ args w typed.
        let own : are_values args (lower_type_of a).params ≡ true = subst (λ (t : FuncType). are_values args t.params ≡ true) h.core_type typed in
        subst (λ (t : FuncType). EndsSo m p Onward 100 0 w [] (entry_locals h.function args) h.function.body reverse (HaveResultTypes t) (run p (async_call a r args) w)) (sym h.core_type) ((h.does.does h.references args own).by w);
    follows = λ args w. runs_follow p (async_call a r args) w;
    stays_typed = λ args w. typed_async_calls_stay p a r args w (core_results m is) starts_give start_gives;
  }

  plain : (args : List CoreValue) (before : MachineState) (answers : List Answer) → ((steps : ℕ) → IsTypedRun m a args before (run_of m f args before answers steps).log)
      → IsNamedRun m is p f args before answers (entry_outcome a r args before answers)
  plain args before answers all =
      let goes_straight = straight m is p _ adapters f a.lower.core_type 100 _ ends_in args before answers all in
      subst (IsNamedRun m is p f args before answers) (async_calls_twice p a r args before answers goes_straight) (is_named_plain m is p _ adapters f a.lower.core_type 100 _ ends_in args before answers all)

  writes_nothing : (args : List CoreValue) (before : MachineState) (answers : List Answer) (steps : ℕ) → IsTypedRun m a args before (run_of m f args before answers steps).log
      → WritesNothing (trace_of m f args before answers steps)
  writes_nothing args before answers steps typed =
      let front = trace_front m is p _ adapters f a.lower.core_type 100 _ ends_in args before answers steps typed in
      front_writes (trace_of m f args before answers steps) front.more (subst WritesNothing front.is (async_calls_write_nothing p a r args before answers))

pub entry_functions_hand_over : EntryFunctionsHandOver
entry_functions_hand_over m is a r adapters f h = record {
  prepare_call = h.prepare_call;
  start_call = h.start_call;
  prepare_is = h.prepare_is;
  start_is = h.start_is;
  plain = plain m is a r adapters f h;
  not_stuck = λ args before answers steps typed. not_stuck m is (p m is a r adapters f h) _ adapters f a.lower.core_type 100 _ (ends_in m is a r adapters f h) args before answers steps typed;
  writes_nothing = writes_nothing m is a r adapters f h;
}
