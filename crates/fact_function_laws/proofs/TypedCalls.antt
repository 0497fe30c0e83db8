-- The answers that the machine's rules type are typed by the types under which the module imports what is called.
use Rattle.std.proofs.Common.{◌≡◌, ℕ, List, [], ◌∷◌, Option, Some, None, refl, sym, ap, ◌∙◌, subst, map, slice_get, All}
use Rattle.std.proofs.lemmas.List.Elements.{All-head, All-tail}
use Rattle.fact_wasm.specs.declared.types.FuncType.{FuncType}
use Rattle.fact_wasm.specs.declared.types.ValType.{ValType}
use Rattle.fact_wasm.specs.declared.module.ImportType.TheVariants as import
use Rattle.fact_wasm.specs.declared.module.WasmImport.{WasmImport}
use Rattle.fact_wasm.specs.declared.module.WasmModule.{WasmModule}
use Rattle.fact_machine.specs.Machine.{func_import}
use Rattle.fact_machine.specs.Typed.{AreResults, TypedAnswer, type_of_import}
use Rattle.fact_machine.specs.declared.types.Answer.{Answer}
use Rattle.fact_machine.specs.declared.types.Answer.TheVariants.{Returns, Traps, Throws}
use Rattle.fact_machine.specs.declared.types.CoreValue.{CoreValue}
use Rattle.fact_machine.specs.declared.types.Event.{Event}
use Rattle.fact_machine.specs.declared.types.MachineState.{MachineState}
use Rattle.fact_types.specs.declared.import.Import.{Import}
use Rattle.fact_types.specs.declared.import.Import.TheVariants as known
use Rattle.fact_types.specs.declared.outside.UnsafeIntrinsic.TheVariants as slot
use Rattle.fact_actions.specs.Laws.{call_event}
use Rattle.fact_actions.specs.Running.{ImportPlaces, Call}
use Rattle.fact_actions.specs.TypedAnswers.{HasTypedAnswer, HaveTypedAnswers, result_types}
use Rattle.fact_code_laws.specs.Knows.{ArePlacesOf, KnowsFunction}
use Rattle.fact_code_laws.proofs.TypedStates.{answers_agree}
use Rattle.fact_emit.specs.ImportSection.{Mention, AreNamed, IsNamed, a_function, imported_type, imports_of}
use Rattle.fact_function_laws.specs.Functions.{core_results, start_results}
use Rattle.fact_function_laws.specs.Names.{places_in}
use Rattle.fact_emit.proofs.PlacesOfLaws.{placed_is}
use Rattle.fact_function_laws.proofs.ImportNumbers.{stands_at}

-- the number of a function's type, where an imported function has one
type_number : (types : List FuncType) (o : Option ℕ) (t : FuncType) → elim o as (λ (x : Option ℕ). Option FuncType) [ None ↦ None | Some n ↦ slice_get types n ] ≡ Some t
    → (n : ℕ) × (o ≡ Some n) × (slice_get types n ≡ Some t)
type_number types None t h = cc
type_number types (Some n) t h = (n, refl, h)

module _ (m : WasmModule) (is : List Import) where
  -- the memories and globals of the places are those that the module imports
  pub are_places : ArePlacesOf m (places_in m is)
  are_places = record { memories = refl; globals = refl }

  module _ (ms : List Mention) (named : AreNamed m.types ms [] m.imports is) where
    -- an import of a type gives the results of that type
    by_type : (entry : WasmImport) (s t : FuncType) (n : ℕ) → imported_type m.types entry.ty ≡ Some s → entry.ty ≡ import.Func n → slice_get m.types n ≡ Some t → s.results ≡ t.results
    by_type entry s t n typed at there =
        let same : Some s ≡ Some t = sym typed ∙ ap (imported_type m.types) at ∙ there in
        let is : s ≡ t = cc in
        ap (λ (s : FuncType). s.results) is

    -- what an import gives is what the type says under which it is imported
    results_by : (i : Import) (before : List WasmImport) (entry : WasmImport) (n : ℕ) (t : FuncType) → IsNamed m.types ms before entry i → entry.ty ≡ import.Func n → slice_get m.types n ≡ Some t
        → type_of_import m ((places_in m is).function i) ≡ Some t → result_types (core_results m is) (start_results m is) i ≡ t.results
    results_by (known.CoreDef d) before entry n t named_so at there typed = ap (λ o. elim o as (λ (x : Option FuncType). List ValType) [ None ↦ [] | Some s ↦ s.results ]) typed
    results_by (known.Trap r) before entry n t named_so at there typed = by_type entry _ t n named_so.is_typed at there
    results_by known.ResourceTransferOwn before entry n t named_so at there typed = by_type entry _ t n named_so.is_typed at there
    results_by known.ResourceTransferBorrow before entry n t named_so at there typed = by_type entry _ t n named_so.is_typed at there
    results_by known.FutureTransfer before entry n t named_so at there typed = by_type entry _ t n named_so.is_typed at there
    results_by known.StreamTransfer before entry n t named_so at there typed = by_type entry _ t n named_so.is_typed at there
    results_by known.ErrorContextTransfer before entry n t named_so at there typed = by_type entry _ t n named_so.is_typed at there
    results_by known.EnterSyncCall before entry n t named_so at there typed = by_type entry _ t n named_so.is_typed at there
    results_by known.ExitSyncCall before entry n t named_so at there typed = by_type entry _ t n named_so.is_typed at there
    results_by (known.UnsafeIntrinsic slot.ContextGetI32_0) before entry n t named_so at there typed = by_type entry _ t n named_so.is_typed at there
    results_by (known.UnsafeIntrinsic slot.ContextGetI32_1) before entry n t named_so at there typed = by_type entry _ t n named_so.is_typed at there
    results_by (known.UnsafeIntrinsic slot.ContextSetI32_0) before entry n t named_so at there typed = by_type entry _ t n named_so.is_typed at there
    results_by (known.UnsafeIntrinsic slot.ContextSetI32_1) before entry n t named_so at there typed = by_type entry _ t n named_so.is_typed at there
    results_by (known.Transcode a b c d e) before entry n t named_so at there typed = by_type entry _ t n named_so at there
    results_by (known.PrepareCall a) before entry n t named_so at there typed = by_type entry _ t n named_so.1 at there
    results_by (known.StartCall a b) before entry n t named_so at there typed = ap (λ o. elim o as (λ (x : Option FuncType). List ValType) [ None ↦ [] | Some s ↦ s.results ]) typed

    -- so the types of answers are those of the module's imports
    pub named_types : (i : Import) (t : FuncType) → type_of_import m ((places_in m is).function i) ≡ Some t → result_types (core_results m is) (start_results m is) i ≡ t.results
    named_types i t typed =
        let number = type_number m.types (func_import m.imports ((places_in m is).function i)) t typed in
        let s = stands_at m.types ms [] m.imports is ((places_in m is).function i) number.0 named number.1 in
        let what : s.what ≡ i = placed_is i s.what (imports_of a_function m.imports is) s.there in
        let named_so = subst (λ j. IsNamed m.types ms s.before s.entry j) what s.named in
        results_by i s.before s.entry number.0 t named_so s.type_is number.2 typed

-- Answers of these types, at these places, are those that the module's types say.
module _ (m : WasmModule) (p : ImportPlaces) (types : Import → List ValType) (are : ArePlacesOf m p) (types_are : (i : Import) (t : FuncType) → type_of_import m (p.function i) ≡ Some t → types i ≡ t.results) where
  knows_import : (i : Import) (t : FuncType) → type_of_import m (p.function i) ≡ Some t → KnowsFunction m p i (p.function i) t.params (types i)
  knows_import i t typed =
      let number = type_number m.types (func_import m.imports (p.function i)) t typed in
      record {
        type_at = number.0;
        placed = refl;
        imported = number.1;
        type_is = number.2 ∙ ap (λ rs. Some (record { params = t.params; results = rs })) (sym (types_are i t typed));
      }

  returned_by : (c : Call) (o : Option FuncType) (rs : List CoreValue) → type_of_import m (p.function c.what) ≡ o → AreResults o rs → TypedAnswer m (p.function c.what) c.before c.answer → HasTypedAnswer p types c
  returned_by c None rs e some t = absurd some
  returned_by c (Some type) rs e some t = (answers_agree m p types c (p.function c.what) type.params are (knows_import c.what type e)).1 t

  answer_typed : (what : Import) (args : List CoreValue) (before : MachineState) (answer : Answer) → TypedAnswer m (p.function what) before answer
      → HasTypedAnswer p types (record { what = what; args = args; before = before; answer = answer })
  answer_typed what args before (Returns rs after) t = returned_by (record { what = what; args = args; before = before; answer = Returns rs after }) (type_of_import m (p.function what)) rs refl t.0 t
  answer_typed what args before Traps t = tt
  answer_typed what args before Throws t = tt

  -- so typed answers to the events of calls are typed answers to those calls
  pub typed_calls : (cs : List Call) → All (λ e. TypedAnswer m e.func e.before e.answer) (map (call_event p) cs) → HaveTypedAnswers p types cs
  typed_calls [] h = tt
  typed_calls (c ∷ cs) h =
      let events : List Event = map (call_event p) cs in
      let one = All-head (λ (e : Event). TypedAnswer m e.func e.before e.answer) (call_event p c) events h in
      (answer_typed c.what c.args c.before c.answer one, typed_calls cs (All-tail (λ (e : Event). TypedAnswer m e.func e.before e.answer) (call_event p c) events h))
