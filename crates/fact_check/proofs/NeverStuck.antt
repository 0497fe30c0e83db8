-- Runs of well typed modules.
use Rattle.std.proofs.Common.{◌≡◌, ◌≢◌, ℕ, zero, suc, Bool, true, false, ◌&&◌, List, [], ◌∷◌, ◌++◌, Option, Some, None, refl, sym, subst, reverse, slice_get, append-nil}
use Rattle.std.specs.Prelude.{All}
use Rattle.std.specs.List.{list_all}
use Rattle.std.proofs.lemmas.Bool.{false≢true}
use Rattle.std.proofs.lemmas.List.Elements.{All-nil, All-cons, All-head, All-tail}
use Rattle.fact_wasm.specs.declared.types.FuncType.{FuncType}
use Rattle.fact_wasm.specs.declared.instr.Instr.{out-Instr}
use Rattle.fact_wasm.specs.declared.module.WasmFunc.{WasmFunc}
use Rattle.fact_wasm.specs.declared.module.WasmModule.{WasmModule}
use Rattle.fact_machine.specs.declared.types.CoreValue.{CoreValue}
use Rattle.fact_machine.specs.declared.types.MachineState.{MachineState}
use Rattle.fact_machine.specs.declared.types.Answer.{Answer}
use Rattle.fact_machine.specs.declared.types.Event.{Event}
use Rattle.fact_machine.specs.declared.types.End.{End}
use Rattle.fact_machine.specs.declared.types.End.TheVariants.{Stuck}
use Rattle.fact_machine.specs.declared.types.Outcome.{Outcome}
use Rattle.fact_machine.specs.World.{World, calls, log_of}
use Rattle.fact_machine.specs.Machine.{Bottom, Config, At, Did, Goes, Ends, Next, Begins, Finished, Breaks, next, begin, check, have_types, call_inside, takes, takes_type, run_of}
use Rattle.fact_machine.specs.Trace.{Grows, reach, reached_after, reached_at_rest, run_reach}
use Rattle.fact_machine.specs.Typed.{TypedState, TypedAnswer}
use Rattle.fact_machine.specs.Typing.{Known, Typing, code_typing, is_typed_import, is_typed_export, are_distinct, is_typed_function, typed_module}
use Rattle.fact_machine.proofs.Grows.{trace_grows, calls_grow}
use Rattle.fact_machine.proofs.Laws.{run_is}
use Rattle.fact_machine.proofs.Tests.{second_of}
use Rattle.fact_machine.proofs.TypingRows.{typing_is}
use Rattle.fact_check.specs.Soundness.{HasTypedAnswers, WellTypedIsNeverStuck}
use Rattle.fact_check.proofs.Known.{GoesOn, ends_with, reversed}
use Rattle.fact_check.proofs.Invariant.{context, Stands, IsTyped, IsNotStuck, LeadsOn, ComesTyped}
use Rattle.fact_check.proofs.States.{typed_has}
use Rattle.fact_check.proofs.Branches.{comes}
use Rattle.fact_check.proofs.Control as control
use Rattle.fact_check.proofs.Steps.{acts}

-- ---- logs

-- what holds of a list holds of its front
front : {A : Type 0} (P : A → Type 0) (xs ys : List A) → All P (xs ++ ys) → All P xs
front P [] ys h = All-nil P
front P (x ∷ xs) ys h = All-cons P x xs (All-head P x (xs ++ ys) h) (front P xs ys (All-tail P x (xs ++ ys) h))

earlier : (M : WasmModule) (a b : List Event) → Grows a b → HasTypedAnswers M b → HasTypedAnswers M a
earlier M a b g h = front (λ e. TypedAnswer M e.func e.before e.answer) a g.more (subst (HasTypedAnswers M) g.is h)

-- ---- steps

module _ (M : WasmModule) (valid : list_all (is_typed_function M) M.funcs ≡ true) where
  begins : (x : Next) → ComesTyped M x → LeadsOn M (begin M x)
  begins (Begins w vs ls i rest k) h =
      let row : Typing → Type 0 = λ t. GoesOn h.gives (λ z. code_typing (context M h.locals h.labels) rest z) (t (context M h.locals h.labels) (Known h.operands)) in
      acts M valid w ls rest k h.locals h.labels h.gives h.stands (out-Instr i) vs h.operands h.values (subst row (typing_is i) h.behind)
  begins (Finished w vs) h = tt
  begins (Breaks w) h = absurd h

  rests : (x : Next) → ComesTyped M x → IsNotStuck (reached_at_rest x).end
  rests (Begins w vs ls i rest k) h = tt
  rests (Finished w vs) h = tt
  rests (Breaks w) h = absurd h

  nexts : (c : Config) → IsTyped M c → ComesTyped M (next c)
  nexts (At w vs ls code k) h = comes M k code w vs ls h.locals h.labels h.gives h.operands h.stands h.values h.behind

  -- from a typed machine on
  abbrev Goes_well : ℕ → Config → Type 0
  Goes_well n c = IsTyped M c → HasTypedAnswers M (log_of (reach M n c).world) → IsNotStuck (reach M n c).end

  led : (n : ℕ) (d : Did) → ((c : Config) → Goes_well n c) → LeadsOn M d → HasTypedAnswers M (log_of (reached_after (reach M n) d).world) → IsNotStuck (reached_after (reach M n) d).end
  led n (Goes (At w vs ls code k)) each h typed =
      each (At w vs ls code k) (h (earlier M (calls w.trace) (calls (reach M n (At w vs ls code k)).world.trace) (calls_grow (trace_grows M n (At w vs ls code k))) typed)) typed
  led n (Ends e w) each h typed = h

  goes_well : (n : ℕ) (c : Config) → Goes_well n c
  goes_well zero c h typed = rests (next c) (nexts c h)
  goes_well (suc n) c h typed = led n (begin M (next c)) (goes_well n) (begins (next c) (nexts c h)) typed

  -- ---- runs

  -- a function that takes the arguments is there, and its type
  record Taken (f : ℕ) (args : List CoreValue) : Type 0 where
    func : WasmFunc
    ty : FuncType
    func_is : slice_get M.funcs f ≡ Some func
    type_is : slice_get M.types func.ty ≡ Some ty
    typed : have_types args ty.params ≡ true

  taken : (f : ℕ) (args : List CoreValue) → takes M f args ≡ true → Taken f args
  taken f args h = by_func (slice_get M.funcs f) refl h
    where
      by_type : (func : WasmFunc) (x : Option FuncType) → slice_get M.funcs f ≡ Some func → slice_get M.types func.ty ≡ x → takes_type args x ≡ true → Taken f args
      by_type func None p q h = absurd (false≢true h)
      by_type func (Some t) p q h = record { func = func; ty = t; func_is = p; type_is = q; typed = h }

      by_func : (x : Option WasmFunc) → slice_get M.funcs f ≡ x → elim x as (λ (x : Option WasmFunc). Bool) [ None ↦ false | Some func ↦ takes_type args (slice_get M.types func.ty) ] ≡ true → Taken f args
      by_func None p h = absurd (false≢true h)
      by_func (Some func) p h = by_type func (slice_get M.types func.ty) p refl h

  run_well : (f : ℕ) (args : List CoreValue) (state : MachineState) (answers : List Answer) (n : ℕ) → takes M f args ≡ true → TypedState M state
      → HasTypedAnswers M (log_of (run_reach M f args state answers n).world) → IsNotStuck (run_reach M f args state answers n).end
  run_well f args state answers n h typed =
      let t = taken f args h in
      let w : World = record { state = state; answers = answers; trace = [] } in
      let stands : Stands M w [] Bottom [] [] t.ty.results = record { state = typed_has M state typed; holds = refl; around = tt } in
      let operands : have_types (reverse args) (reverse t.ty.params ++ []) ≡ true = subst (λ l. have_types (reverse args) l ≡ true) (sym (append-nil (reverse t.ty.params))) (reversed args t.ty.params t.typed) in
      let leads : LeadsOn M (call_inside M f w (reverse args) [] [] Bottom) =
      control.calls_inside M valid w [] [] Bottom [] [] t.ty.results stands f t.func t.ty (reverse args) [] t.func_is t.type_is operands (ends_with t.ty.results (reverse t.ty.results ++ []) (append-nil (reverse t.ty.results)))
      in
      led n (check w (takes M f args) (call_inside M f w (reverse args) [] [] Bottom)) (goes_well n) (subst (λ b. LeadsOn M (check w b (call_inside M f w (reverse args) [] [] Bottom))) (sym h) leads)

-- the functions of a well typed module are
functions_typed : (M : WasmModule) → typed_module M ≡ true → list_all (is_typed_function M) M.funcs ≡ true
functions_typed M h =
    second_of (are_distinct M.exports) (list_all (is_typed_function M) M.funcs)
    (second_of (list_all (is_typed_export M) M.exports) (are_distinct M.exports && list_all (is_typed_function M) M.funcs)
    (second_of (list_all (is_typed_import M) M.imports) (list_all (is_typed_export M) M.exports && (are_distinct M.exports && list_all (is_typed_function M) M.funcs)) h))

not_stuck : (e : End) → IsNotStuck e → e ≢ Stuck
not_stuck e h p = subst IsNotStuck p h

pub well_typed_is_never_stuck : WellTypedIsNeverStuck
well_typed_is_never_stuck M h f args state answers n takes typed log =
    let is = run_is M f args state answers n in
    let well : IsNotStuck (run_reach M f args state answers n).end = run_well M (functions_typed M h) f args state answers n takes typed (subst (λ (x : Outcome). HasTypedAnswers M x.log) is log) in
    not_stuck (run_of M f args state answers n).end (subst (λ (x : Outcome). IsNotStuck x.end) (sym is) well)
