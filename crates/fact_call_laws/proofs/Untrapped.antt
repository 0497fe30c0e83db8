-- The last call of a run is of no trap, where the state in which it was made is typed.
use Rattle.std.proofs.Common.{◌≡◌, ℕ, zero, suc, ◌≤◌, All, Bool, true, false, cond, filter, List, [], ◌∷◌, ◌++◌, Option, Some, None, inr, refl, sym, ap, ◌∙◌, subst, arith, length, slice_get}
use Rattle.std.specs.List.{AllZip}
use Rattle.std.proofs.lemmas.Bool.{true≢false}
use Rattle.std.proofs.lemmas.List.Elements.{All-push}
use Rattle.fact_wasm.specs.declared.types.FuncType.{FuncType}
use Rattle.fact_wasm.specs.declared.module.ImportType.{ImportType}
use Rattle.fact_wasm.specs.declared.module.ImportType.TheVariants as import_type
use Rattle.fact_wasm.specs.declared.module.WasmImport.{WasmImport}
use Rattle.fact_types.specs.declared.outside.Trap.{Trap}
use Rattle.fact_types.specs.declared.import.Import.TheVariants as import
use Rattle.fact_types.specs.Adapters.{LinkedAdapter}
use Rattle.fact_types.proofs.ShapeLaws.{none_some, same_some}
use Rattle.fact_machine.specs.declared.types.Answer.{Answer}
use Rattle.fact_machine.specs.declared.types.Answer.TheVariants.{Returns}
use Rattle.fact_machine.specs.declared.types.Event.{Event}
use Rattle.fact_machine.specs.Causes.{answers_of}
use Rattle.fact_machine.specs.Machine.{func_import, run_of}
use Rattle.fact_machine.specs.Typed.{AreResults, TypedAnswer, TypedState, type_of_import}
use Rattle.fact_actions.specs.Honest.{AreHonest, AreHonestSync, HasReturned, IsHonestBy}
use Rattle.fact_actions.specs.Regions.{Position}
use Rattle.fact_actions.specs.Running.{Call, ImportPlaces}
use Rattle.fact_actions.specs.Sides.{options_of}
use Rattle.fact_action_laws.specs.Faithful.{IsInLimits}
use Rattle.fact_action_laws.specs.PassingChecks.{PassChecks}
use Rattle.fact_host.specs.Describes.{named_calls}
use Rattle.fact_host.specs.Roles.{is_function}
use Rattle.fact_emit.specs.ImportSection.{IsNamed, imported_type, mentions}
use Rattle.fact_emit.specs.Runtime.{type_of_runtime}
use Rattle.fact_emit.specs.declared.imported.RuntimeFunction.TheVariants as runtime
use Rattle.fact_function_laws.specs.Laws.{IsAnsweredInLimits}
use Rattle.fact_function_laws.specs.Names.{AreCalls, IsNamedLog}
use Rattle.fact_function_laws.specs.Runs.{CallNoTrap, IsHonestSoFar, is_trap_import}
use Rattle.fact_function_laws.proofs.AtOne.{answered_at_one}
use Rattle.fact_function_laws.proofs.FewCalls.{runs_stay_short}
use Rattle.fact_function_laws.proofs.Fronts.{grown_all}
use Rattle.fact_function_laws.proofs.ImportNumbers.{named_log}
use Rattle.fact_function_laws.proofs.LoggedImports.{run_told}
use Rattle.fact_call_laws.proofs.Another.{another, taken}
use Rattle.fact_call_laws.proofs.Area.{area_sound}
use Rattle.fact_call_laws.proofs.Asking.{call_answered}
use Rattle.fact_call_laws.proofs.Bridge.{are_named, is_what, stands_so}
use Rattle.fact_call_laws.proofs.Positions.{position_after}
use Rattle.fact_call_laws.proofs.Setting.{Called, Setting, log, may_leave, names, places, run_is, typed_log}
use Rattle.fact_call_laws.proofs.Steps.{call_by}
use Rattle.fact_call_laws.proofs.Trapped.{AtTrap, before, map_on, next, start}
use Rattle.fact_call_laws.proofs.Within.{params_there, results_there}

-- ---- lists

-- what stands among values and one more, and is not that one, stands among the values
pub record Among {A : Type 0} (xs front : List A) (c : A) : Type 0 where
  pub rest : List A
  pub is : xs ≡ front ++ (c ∷ rest)

no_more : {A : Type 0} (front : List A) (c : A) (behind : List A) → [] ≡ front ++ (c ∷ behind) → ⊥
no_more [] c behind e = cc
no_more (f ∷ front) c behind e = cc

pub not_last : {A : Type 0} (xs : List A) (z : A) (front : List A) (c : A) (behind : List A) → xs ++ z ∷ [] ≡ front ++ (c ∷ behind) → (c ≡ z → ⊥) → Among xs front c
not_last [] z [] c behind e other = let same : z ≡ c = cc in absurd (other (sym same))
not_last [] z (f ∷ front) c behind e other = let none : [] ≡ front ++ (c ∷ behind) = cc in absurd (no_more front c behind none)
not_last (x ∷ xs) z [] c behind e other = let same : x ≡ c = cc in record { rest = xs; is = ap (λ y. y ∷ xs) same }
not_last (x ∷ xs) z (f ∷ front) c behind e other =
    let first : x ≡ f = cc in
    let more : xs ++ z ∷ [] ≡ front ++ (c ∷ behind) = cc in
    let m = not_last xs z front c behind more other in
    record { rest = m.rest; is = λ k. first k ∷ m.is k }

trap_last : (cs : List Call) (z : Call) → is_trap_import z.what ≡ true → CallNoTrap (cs ++ z ∷ []) → ⊥
trap_last [] z is none = let one : z ∷ [] ≡ [] = sym (ap (λ b. cond b (z ∷ []) []) is) ∙ none in cc
trap_last (c ∷ cs) z is none = by (λ g. trap_last cs z is g) (is_trap_import c.what) none
  where
    by : (CallNoTrap (cs ++ z ∷ []) → ⊥) → (b : Bool) → cond b (c ∷ filter (λ (x : Call). is_trap_import x.what) (cs ++ z ∷ [])) (filter (λ (x : Call). is_trap_import x.what) (cs ++ z ∷ [])) ≡ [] → ⊥
    by more true none = cc
    by more false none = more none

honest_on : (p : ImportPlaces) (a : LinkedAdapter) (next : Call → Position → Position) (x : Position) (cs : List Call) (z : Call) → AreHonest p a next x cs → HasReturned z → IsHonestBy z.what p (options_of a.lower) a.lift.post_return (position_after next x cs) z
    → AreHonest p a next x (cs ++ z ∷ [])
honest_on p a next x [] z h returned honest = (returned, honest, tt)
honest_on p a next x (c ∷ cs) z h returned honest = (h.0, h.1, honest_on p a next (next c x) cs z h.2 returned honest)

-- ---- the type of a trap

-- the type of the nth imported function, by its import
type_at : (types : List FuncType) (ws : List WasmImport) (n : ℕ) (w : WasmImport) (t : FuncType) → slice_get (filter is_function ws) n ≡ Some w → imported_type types w.ty ≡ Some t
    → (elim (func_import ws n) as (λ (z : Option ℕ). Option FuncType) [ None ↦ None | Some k ↦ slice_get types k ]) ≡ Some t
type_at types [] n w t at typed = absurd (none_some (slice_get {X = WasmImport} [] n) w refl at)
type_at types (v ∷ ws) n w t at typed = by (λ m at. type_at types ws m w t at typed) v.ty refl n at
  where
    by : ((m : ℕ) → slice_get (filter is_function ws) m ≡ Some w → (elim (func_import ws m) as (λ (z : Option ℕ). Option FuncType) [ None ↦ None | Some k ↦ slice_get types k ]) ≡ Some t) → (ty : ImportType) → v.ty ≡ ty → (n : ℕ)
        → slice_get (cond (elim ty as (λ (x : ImportType). Bool) [ import_type.Func k ↦ true | import_type.Memory a b c ↦ false | import_type.Global a b ↦ false ]) (v ∷ filter is_function ws) (filter is_function ws)) n ≡ Some w
        → (elim (elim ty as (λ (x : ImportType). Option ℕ) [ import_type.Func k ↦ elim n [ zero ↦ Some k | suc m ↦ func_import ws m ] | import_type.Memory a b c ↦ func_import ws n | import_type.Global a b ↦ func_import ws n ]) as (λ (z : Option ℕ). Option FuncType) [ None ↦ None | Some k ↦ slice_get types k ]) ≡ Some t
    by more (import_type.Func k) e zero at = let same : v ≡ w = same_some (Some v) v w refl at in ap (imported_type types) (sym e ∙ ap (λ (z : WasmImport). z.ty) same) ∙ typed
    by more (import_type.Func k) e (suc m) at = more m at
    by more (import_type.Memory a b c) e m at = more m at
    by more (import_type.Global a b) e m at = more m at

no_shorter : (ms : List (List ℕ)) → AllZip (λ old new. length old ≤ length new) ms ms
no_shorter [] = tt
no_shorter (m ∷ ms) = (omega arith, no_shorter ms)

module _ (x : Setting) (h : Called x) (t : AtTrap x h) (seen : TypedState x.code t.event.before) (r : Trap) (what : names x t.event.func ≡ import.Trap r) where
  -- the last call, answered as no trap is
  abbrev answer : Answer
  answer = Returns [] t.event.before

  abbrev event : Event
  event = call_answered t.event.func t.event.args t.event.before answer

  abbrev call : Call
  call = call_by (names x t.event.func) t.event.args t.event.before answer

  abbrev answers : List Answer
  answers = answers_of t.front ++ answer ∷ []

  abbrev other_log : List Event
  other_log = (run_of x.code x.function h.outcome.args h.outcome.first answers x.steps).log

  log_is : (run_of x.code x.function h.outcome.args h.outcome.first (answers_of (t.front ++ t.event ∷ [])) x.steps).log ≡ t.front ++ t.event ∷ []
  log_is = ap (λ l. (run_of x.code x.function h.outcome.args h.outcome.first (answers_of l) x.steps).log) (sym t.log_is) ∙ ap (λ o. o.log) (sym (run_is x h)) ∙ t.log_is

  run_log : (run_of x.code x.function h.outcome.args h.outcome.first answers x.steps).log ≡ t.front ++ event ∷ []
  run_log = another x.code x.function h.outcome.args h.outcome.first x.steps t.front t.event log_is answer

  -- ---- it is typed

  trap_type : type_of_import x.code t.event.func ≡ Some (type_of_runtime (runtime.Trap r))
  trap_type =
      let at = stands_so x.code x.imports x.adapters h.promised.names h.callable.adapter x.types x.call x.adapter x.function h.calls t.event.func t.named.0 t.named.1 in
      let is : at.what ≡ import.Trap r = sym (is_what x.code x.imports x.adapters h.promised.names h.callable.adapter x.types x.call x.adapter x.function h.calls t.event.func t.named.0 t.named.1) ∙ what in
      let named : IsNamed x.code.types (mentions x.adapters) at.before t.named.0 (import.Trap r) = subst (λ i. IsNamed x.code.types (mentions x.adapters) at.before t.named.0 i) is at.named in
      type_at x.code.types x.code.imports t.event.func t.named.0 (type_of_runtime (runtime.Trap r)) t.named.1 named.is_typed

  answer_typed : TypedAnswer x.code t.event.func t.event.before answer
  answer_typed = (subst (λ o. AreResults o []) (sym trap_type) tt, seen, no_shorter t.event.before.memories)

  all_typed : All (λ e. TypedAnswer x.code e.func e.before e.answer) (t.front ++ event ∷ [])
  all_typed =
      let front : All (λ (e : Event). TypedAnswer x.code e.func e.before e.answer) t.front = grown_all (λ (e : Event). TypedAnswer x.code e.func e.before e.answer) t.front (log x) (record { more = t.event ∷ []; is = t.log_is }) (typed_log x h).answers in
      All-push (λ (e : Event). TypedAnswer x.code e.func e.before e.answer) t.front event front answer_typed

  -- ---- and honest

  calls_are : named_calls (names x) (t.front ++ event ∷ []) ≡ before x h t ++ call ∷ []
  calls_are = map_on (λ (e : Event). call_by (names x e.func) e.args e.before e.answer) t.front (event ∷ [])

  all_honest : AreHonestSync (places x) x.adapter h.outcome.args (before x h t ++ call ∷ [])
  all_honest =
      let honest : IsHonestBy (names x t.event.func) (places x) (options_of x.adapter.lower) x.adapter.lift.post_return (position_after (next x h) (start x h) (before x h t)) call =
      subst (λ i. IsHonestBy i (places x) (options_of x.adapter.lower) x.adapter.lift.post_return (position_after (next x h) (start x h) (before x h t)) call) (sym what) refl in
      honest_on (places x) x.adapter (next x h) (start x h) (before x h t) call t.honest tt honest

  are_calls : AreCalls x.code x.imports (t.front ++ event ∷ []) (before x h t ++ call ∷ [])
  are_calls =
      let n : IsNamedLog x.code x.imports other_log =
      named_log x.code x.imports (mentions x.adapters) h.promised.names.named other_log (run_told x.code x.function h.outcome.args h.outcome.first answers x.steps) in
      subst (AreCalls x.code x.imports (t.front ++ event ∷ [])) calls_are (are_named x.code x.imports (t.front ++ event ∷ []) n.calls (subst (λ l. AreCalls x.code x.imports l n.calls) run_log n.are_calls))

  abbrev so_far : IsHonestSoFar x.code x.imports x.adapter h.outcome.args h.outcome.first other_log
  so_far = record {
    typed = record {
      state = (typed_log x h).state;
      arguments = (typed_log x h).arguments;
      answers = subst (λ (l : List Event). All (λ (e : Event). TypedAnswer x.code e.func e.before e.answer) l) (sym run_log) all_typed;
    };
    calls = before x h t ++ call ∷ [];
    are_calls = subst (λ l. AreCalls x.code x.imports l (before x h t ++ call ∷ [])) (sym run_log) are_calls;
    honest = all_honest;
  }

  -- ---- within limits

  checks : (cs : List Call) → PassChecks x.tunables x.adapter h.outcome.args cs
  checks cs = record {
    params = λ debug. absurd (true≢false (sym debug ∙ h.promised.no_debug));
    results = λ debug. absurd (true≢false (sym debug ∙ h.promised.no_debug));
  }

  core_no_trap : import.CoreDef x.adapter.callee ≡ import.Trap r → ⊥
  core_no_trap e = cc

  limits : IsInLimits (places x) x.adapter h.outcome.args h.outcome.first (before x h t ++ call ∷ [])
  limits = record {
    may_leave = may_leave x h;
    params = params_there x h;
    area = area_sound x h;
    results = λ front callee behind is callee_is.
        let m = not_last (before x h t) call front callee behind is (λ same. core_no_trap (sym callee_is ∙ ap (λ (c : Call). c.what) same ∙ what)) in
        results_there x h t.front (t.event ∷ []) t.last t.log_is t.ruled t.honest front callee m.rest m.is callee_is;
  }

  -- ---- so it calls no trap

  pub no_trap : ⊥
  no_trap =
      let answered : IsAnsweredInLimits x.code x.imports x.tunables x.adapter x.function h.outcome.args h.outcome.first answers =
      answered_at_one x.code x.imports x.tunables x.adapter x.function h.outcome.args h.outcome.first answers x.steps (inr (taken x.code x.function h.outcome.args h.outcome.first x.steps t.front t.event log_is answer)) so_far (checks so_far.calls) limits in
      let short = runs_stay_short x.code x.imports x.tunables x.adapter x.function h.outcome.args h.outcome.first answers h.promised.behaves answered in
      trap_last (before x h t) call (ap is_trap_import what) (short.no_trap x.steps (before x h t ++ call ∷ []) so_far.are_calls)
