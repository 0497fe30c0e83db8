-- Calls of functions that the module defines, barriers, and runs of whole functions.
use Rattle.std.proofs.Common.{◌≡◌, ◌≤◌, ℕ, suc, ◌+◌, true, List, [], ◌∷◌, ◌++◌, refl, sym, ap, ◌∙◌, subst, arith, append-nil, length, map, reverse}
use Rattle.std.proofs.lemmas.List.{reverse-reverse}
use Rattle.fact_wasm.specs.declared.types.ValType.{ValType}
use Rattle.fact_wasm.specs.declared.types.FuncType.{FuncType}
use Rattle.fact_wasm.specs.declared.instr.BlockType.TheVariants.{Empty}
use Rattle.fact_wasm.specs.declared.instr.FuncName.TheVariants.{Defined}
use Rattle.fact_wasm.specs.declared.instr.Instr.{Instr}
use Rattle.fact_wasm.specs.declared.instr.Instr.TheVariants as I
use Rattle.fact_wasm.specs.declared.module.WasmFunc.{WasmFunc}
use Rattle.fact_wasm.specs.declared.module.WasmModule.{WasmModule}
use Rattle.fact_types.specs.declared.outside.Trap.TheVariants.{UncaughtException}
use Rattle.fact_machine.specs.declared.types.CoreValue.{CoreValue}
use Rattle.fact_machine.specs.declared.types.MachineState.{MachineState}
use Rattle.fact_machine.specs.declared.types.Answer.{Answer}
use Rattle.fact_machine.specs.declared.types.End.TheVariants.{Returned}
use Rattle.fact_machine.specs.declared.types.End.{End}
use Rattle.fact_machine.specs.declared.types.Outcome.{Outcome}
use Rattle.fact_machine.specs.World.{World, Stop, log_of}
use Rattle.fact_machine.specs.World as stopped
use Rattle.fact_machine.specs.Machine.{Label, Frame, At, act, have_types}
use Rattle.fact_machine.specs.Trace.{Reached, reached, outcome_of, world_at, run_reach}
use Rattle.fact_machine.proofs.Laws.{leaves_as, leaves_then, leaves_early}
use Rattle.fact_machine.proofs.Structure.{call_inside_is, leaves_call, enters_empty, leaves_block, leaves_try}
use Rattle.fact_machine.proofs.RowLaws.{leaves_br}
use Rattle.fact_machine.proofs.WholeRuns.{outermost, run_begins, run_ends, run_outcome, run_returns}
use Rattle.fact_machine.proofs.Grows as grows
use Rattle.fact_types.specs.declared.import.Import.TheVariants as import
use Rattle.fact_actions.specs.Actions.{Action, Give, trap}
use Rattle.fact_actions.specs.Laws.{call_event, Follows}
use Rattle.fact_actions.specs.Plain as plain
use Rattle.fact_actions.specs.Plain.{guarded, end_of}
use Rattle.fact_actions.specs.Running.{ImportPlaces, Call, Ended, Gave, Halted, Strayed, later, is_state, run}
use Rattle.fact_code_laws.specs.Code.{trap_code, barrier_code}
use Rattle.fact_code_laws.specs.Does.{Locals, Onward, Outward, stop_exit, EndsOn, EndsSo, Does}
use Rattle.fact_code_laws.specs.Knows.{KnowsFunction}
use Rattle.fact_actions.specs.Honest.{IsStraight}
use Rattle.fact_code_laws.specs.PieceLaws.{HaveResultTypes}
use Rattle.fact_code_laws.specs.Runs.{ComesTo, RunsAs, numbered_outcome, IsPlainRun}
use Rattle.fact_code_laws.proofs.Runs.{no_heavier, then_given}
use Rattle.fact_code_laws.proofs.Rules.{within, stretch, ends_then, ends_after, ends_later, ends_heavier, strays_early}
use Rattle.fact_code_laws.proofs.Blocks.{Into, strays_into, ends_target, into_block, never_ends}
use Rattle.fact_code_laws.proofs.Primitives.{calls_trap}
use Rattle.fact_machine.specs.Exits.{Exit, Falls, Leaves, Calls, entry_locals, call_exit, results_exit, try_exit, first_world, run_exit}

-- ---- calls

call_stop : (results : List ValType) (below : List CoreValue) (outer : Locals) (s : Stop) (w : World) (ls : Locals) → call_exit results below outer (stop_exit s w ls) ≡ stop_exit s w outer
call_stop results below outer stopped.Trap w ls = refl
call_stop results below outer stopped.Throw w ls = refl
call_stop results below outer stopped.Lack w ls = refl

into_call : {M : WasmModule} {f : ℕ} {args : List CoreValue} {func : WasmFunc} {ty : FuncType} {ls : Locals} → Calls M f args func ty → (w : World) (vs : List CoreValue)
    → Into M (I.Call (Defined f)) w (reverse args ++ vs) ls [] (entry_locals func args) func.body
into_call {M} {f} {args} {func} {ty} {ls} h w vs = record {
  around = λ rest k. Label (length ty.results) [] [] [] [] (Frame ty.results ls vs rest k);
  is = λ rest k. ap (λ o. act M o w (reverse args ++ vs) ls rest k) (I.outs-Call (Defined f)) ∙ call_inside_is M f w args vs ls rest k func ty h;
}

module _ {A : Type 0} {M : WasmModule} {p : ImportPlaces} {f : ℕ} {args : List CoreValue} {func : WasmFunc} {ty : FuncType} {ls : Locals} {out : A → List CoreValue} {Holds : A → Locals → Type 0} {extra spare : ℕ}
    (h : Calls M f args func ty) (typed : (a : A) (ls' : Locals) → Holds a ls' → have_types (reverse (out a)) ty.results ≡ true) where
  ends_call : {w : World} (below : List CoreValue) (e : Ended A) → EndsOn M p Onward extra spare w [] (entry_locals func args) func.body [] out Holds e
      → EndsOn M p Onward (suc extra) spare w (reverse args ++ below) ls (I.Call (Defined f) ∷ []) below out (λ a ls'. (ls' ≡ ls) × ((inner : Locals) × Holds a inner)) e
  ends_call below (Gave n cs a w') d =
      let us : out a ++ [] ≡ out a = append-nil (out a) in
      let ends : call_exit ty.results below ls (Falls w' (out a ++ []) d.by.locals) ≡ Falls w' (out a ++ below) ls =
      ap (λ u. call_exit ty.results below ls (Falls w' u d.by.locals)) us ∙ ap (λ b. results_exit b w' (Falls w' (out a ++ below) ls)) (typed a d.by.locals d.by.holds) in
      record {
        by = record {
          steps = suc d.by.steps;
          locals = ls;
          under = [];
          holds = (refl, (d.by.locals, d.by.holds));
          typed = d.by.typed;
          bound = omega (arith, d.by.bound);
          leaves = leaves_as ends (leaves_call below h d.by.leaves);
        };
      }
  ends_call below (Halted m cs s w') d = record { by = record { steps = suc d.by.steps; locals = ls; typed = d.by.typed; leaves = leaves_as (call_stop ty.results below ls s w' d.by.locals) (leaves_call below h d.by.leaves) } }
  ends_call {w} below (Strayed m cs w') d = record { by = strays_into (into_call h w below) d.by }

  -- a call does what the function's body does, on the locals of its own
  pub calls_helper : {q : Action A} → Does M p Onward extra spare [] (entry_locals func args) func.body q out Holds
      → Does M p Onward (suc extra) spare (reverse args) ls (I.Call (Defined f) ∷ []) q out (λ a ls'. (ls' ≡ ls) × ((inner : Locals) × Holds a inner))
  calls_helper {q = q} d = record { by = λ w. record { by = λ ty below. ends_call below (run p q w) ((d.by w).by ty []) } }

-- The bound of a call: what the body spares pays for its arguments and the call itself.
pub helps : {A : Type 0} {M : WasmModule} {p : ImportPlaces} {f : ℕ} {args : List CoreValue} {func : WasmFunc} {ty : FuncType} {ls : Locals} {out : A → List CoreValue} {Holds : A → Locals → Type 0} {q : Action A} {pushed : List Instr} (steps : ℕ) → steps ≤ 399
    → Calls M f args func ty → ((a : A) (ls' : Locals) → Holds a ls' → have_types (reverse (out a)) ty.results ≡ true)
    → ((w : World) (below : List CoreValue) → Leaves M steps pushed w ([] ++ below) ls (Falls w (reverse args ++ below) ls)) → Does M p Onward 0 500 [] (entry_locals func args) func.body q out Holds
    → Does M p Onward 0 100 [] ls (pushed ++ I.Call (Defined f) ∷ []) q out (λ a ls'. (ls' ≡ ls) × ((inner : Locals) × Holds a inner))
helps steps few h typed l d = within (omega (arith, few)) (stretch {t = steps} l (calls_helper h typed d))

-- ---- barriers

into_try : {M : WasmModule} {w : World} {vs : List CoreValue} {ls : Locals} {body : List Instr} (catches : List ℕ) → Into M (I.TryTable Empty catches body) w vs ls [] ls body
into_try {M} {w} {vs} {ls} {body} catches = record { around = λ rest k. Label 0 vs rest rest catches k; is = λ rest k. ap (λ o. act M o w vs ls rest k) (I.outs-TryTable Empty catches body) }

tried : {M : WasmModule} {ls : Locals} {body : List Instr} {w : World} {x : Exit} {steps : ℕ} → Leaves M steps body w [] ls x → Leaves M (suc steps) (I.TryTable Empty (0 ∷ []) body ∷ []) w [] ls (try_exit 0 (0 ∷ []) [] x)
tried l = leaves_try (0 ∷ []) enters_empty l

module _ {A : Type 0} {M : WasmModule} {p : ImportPlaces} {ls : Locals} {body : List Instr} {Holds : A → Locals → Type 0} {extra spare : ℕ} {place : ℕ} where
  ends_barrier : KnowsFunction M p (import.Trap UncaughtException) place [] [] → {w : World} {vs : List CoreValue} (e : Ended A) → EndsOn M p Onward extra spare w [] ls body [] (λ a. []) Holds e
      → EndsOn M p Onward (extra + 4) spare w vs ls (barrier_code body place) vs (λ a. []) Holds (guarded p e)
  ends_barrier h (Gave n cs a w') d = record {
    by = record {
      steps = suc (suc (suc d.by.steps + 1));
      locals = d.by.locals;
      under = [];
      holds = d.by.holds;
      typed = d.by.typed;
      bound = omega (arith, d.by.bound);
      leaves = leaves_block enters_empty (leaves_early (trap_code place) tt (leaves_block enters_empty (leaves_then (tried d.by.leaves) leaves_br)));
    };
  }
  ends_barrier h {w} {vs} (Halted m cs stopped.Trap w') d = record {
    by = record {
      steps = suc (suc (suc d.by.steps));
      locals = d.by.locals;
      typed = d.by.typed;
      leaves = leaves_block enters_empty (leaves_early (trap_code place) tt (leaves_block enters_empty (leaves_early (I.Br 1 ∷ []) tt (tried d.by.leaves))));
    };
  }
  ends_barrier h {w} {vs} (Halted m cs stopped.Lack w') d = record {
    by = record {
      steps = suc (suc (suc d.by.steps));
      locals = d.by.locals;
      typed = d.by.typed;
      leaves = leaves_block enters_empty (leaves_early (trap_code place) tt (leaves_block enters_empty (leaves_early (I.Br 1 ∷ []) tt (tried d.by.leaves))));
    };
  }
  ends_barrier h {w} {vs} (Halted m cs stopped.Throw w') d =
      let caught : Leaves M (suc (suc d.by.steps)) (I.Block Empty (I.TryTable Empty (0 ∷ []) body ∷ I.Br 1 ∷ []) ∷ []) w [] ls (Falls w' [] d.by.locals) =
      leaves_block enters_empty (leaves_early (I.Br 1 ∷ []) tt (tried d.by.leaves)) in
      let trapped : Does M p (Outward 0) 1 0 [] d.by.locals (trap_code place) (trap UncaughtException) (λ (a : A). []) (λ a ls'. ⊥) = calls_trap h in
      let e = run {A = A} p (trap {A = A} UncaughtException) w' in
      let behind = ends_after {extra = 3 + d.by.steps} {spare = 0} 0 e (omega arith) caught ((trapped.by w').by d.by.typed []) in
      ends_heavier m (later cs e) (omega arith) (ends_later cs e (never_ends {extra' = extra + 4} {spare' = spare} [] e (ends_target e (subst (EndsOn M p (Outward 0) (3 + d.by.steps) 0 w [] ls _ [] (λ (a : A). []) (λ a ls'. ⊥)) (no_heavier e) behind))))
  ends_barrier h {w} {vs} (Strayed m cs w') d = record { by = strays_into into_block (strays_early (trap_code place) (strays_into into_block (strays_early (I.Br 1 ∷ []) (strays_into (into_try (0 ∷ [])) d.by)))) }

  -- a barrier round a body
  pub bars : {q : Action A} → KnowsFunction M p (import.Trap UncaughtException) place [] [] → Does M p Onward extra spare [] ls body q (λ a. []) Holds → (w : World)
      → EndsSo M p Onward (extra + 4) spare w [] ls (barrier_code body place) (λ a. []) Holds (guarded p (run p q w))
  bars {q} h d w = record { by = λ ty below. ends_barrier h (run p q w) ((d.by w).by ty []) }

  -- and behind it code that goes on with what the body's action gave, whose results are pushed out of locals
  pub bars_then : {q : Action A} {c : List Instr} {out : A → List CoreValue} {Holds' : A → Locals → Type 0} {extra' spare' : ℕ}
      → KnowsFunction M p (import.Trap UncaughtException) place [] [] → Does M p Onward extra spare [] ls body q (λ a. []) Holds
      → ((a : A) (ls' : Locals) → Holds a ls' → Does M p Onward extra' spare' [] ls' c (Give a) out Holds') → (w : World)
      → EndsSo M p Onward (extra + 4 + extra') (spare + spare') w [] ls (barrier_code body place ++ c) out Holds' (guarded p (run p q w))
  bars_then {q} {c} {out} {Holds'} {extra'} {spare'} h d d' w = record {
    by = λ ty below.
        subst (EndsOn M p Onward (extra + 4 + extra') (spare + spare') w below ls (barrier_code body place ++ c) below out Holds') (then_given (guarded p (run p q w)))
        (ends_then (guarded p (run p q w)) ((bars h d w).by ty below) d');
  }

-- ---- runs

module _ {M : WasmModule} {f : ℕ} {args : List CoreValue} {func : WasmFunc} {ty : FuncType} (state : MachineState) (answers : List Answer) (h : Calls M f args func ty) where
  comes_to : {t : ℕ} {x : Exit} {r : Reached} → run_exit ty.results x ≡ r → Leaves M t func.body (first_world state answers) [] (entry_locals func args) x → ComesTo M f args state answers t r
  comes_to {t} {x} {r} e l = record {
    reaches = λ n le. run_ends state answers h l n le ∙ e;
    outcome = λ n le. run_outcome state answers h l n le ∙ ap outcome_of e;
    front = λ n.
        let last : run_reach M f args state answers (n + t) ≡ r = run_ends state answers h l (n + t) (omega arith) ∙ e in
        grows.grows_to (ap (λ (r : Reached). r.world.trace) last) (grows.run_trace_more M f args state answers n (n + t) (omega arith));
  }

  stop_run : (s : Stop) (w : World) (ls : Locals) → run_exit ty.results (stop_exit s w ls) ≡ reached (end_of s) w
  stop_run stopped.Trap w ls = refl
  stop_run stopped.Throw w ls = refl
  stop_run stopped.Lack w ls = refl

  module _ {A : Type 0} {p : ImportPlaces} {out : A → List CoreValue} {Holds : A → Locals → Type 0} {extra spare : ℕ} (typed : (a : A) (ls' : Locals) → Holds a ls' → have_types (reverse (out a)) ty.results ≡ true) where
    run_of_ends : (e : Ended A) → EndsOn M p Onward extra spare (first_world state answers) [] (entry_locals func args) func.body [] out Holds e → RunsAs M f args state answers extra spare (λ a. reverse (out a)) e
    run_of_ends (Gave n cs a w) d =
        let us : out a ++ [] ≡ out a = append-nil (out a) in
        let good : have_types (reverse (out a ++ [])) ty.results ≡ true = ap (λ u. have_types (reverse u) ty.results) us ∙ typed a d.by.locals d.by.holds in
        let r : run_exit ty.results (Falls w (out a ++ []) d.by.locals) ≡ reached (Returned (reverse (out a))) w =
        run_returns ty.results w (out a ++ []) d.by.locals good ∙ ap (λ u. reached (Returned (reverse u)) w) us in
        record { steps = d.by.steps; bound = d.by.bound; comes = comes_to r d.by.leaves }
    run_of_ends (Halted m cs s w) d = record { steps = d.by.steps; comes = comes_to (stop_run s w d.by.locals) d.by.leaves }
    run_of_ends (Strayed m cs w) d =
        let at : (run_reach M f args state answers d.by.steps).world ≡ w =
        ap (λ (r : Reached). r.world) (run_begins state answers h d.by.steps)
        ∙ ap (λ code. world_at M d.by.steps (At (first_world state answers) [] (entry_locals func args) code (outermost ty.results))) (sym (append-nil func.body))
        ∙ d.by.by [] (outermost ty.results) in
        record { steps = d.by.steps; reaches = at; front = λ n le. grows.grows_from (sym (ap (λ (v : World). v.trace) at)) (grows.run_trace_more M f args state answers d.by.steps n le) }

    -- A run of a function from a typed state is what its body's action comes to.
    pub runs_so : {e : Ended A} → is_state p state ≡ true → EndsSo M p Onward extra spare (first_world state answers) [] (entry_locals func args) func.body out Holds e
        → RunsAs M f args state answers extra spare (λ a. reverse (out a)) e
    runs_so {e} ty d = run_of_ends e (d.by ty [])

-- ---- outcomes without a word of code

named : (p : ImportPlaces) (o : Outcome) (end : End) (w : World) (cs : List Call) → o ≡ outcome_of (reached end w) → log_of w ≡ map (call_event p) cs → o ≡ numbered_outcome p (record { end = end; state = w.state; log = cs })
named p o end w cs e l = e ∙ ap (λ log. record { end = end; state = w.state; log = log }) l

-- A run that ends as an action does has the outcome of that action, its calls named by their imports.
pub is_plain : {M : WasmModule} {p : ImportPlaces} {f : ℕ} {args : List CoreValue} {state : MachineState} {answers : List Answer} (extra spare : ℕ) (e : Ended (List CoreValue)) → Follows p (first_world state answers) e → IsStraight e → RunsAs M f args state answers extra spare (λ vs. vs) e → IsPlainRun M p f args state answers (plain.named_outcome e)
is_plain {p = p} extra spare (Gave n cs vs w) h straight r = record { steps = r.steps; is = λ m le. named p _ (Returned vs) w cs (r.comes.outcome m le) h.log }
is_plain {p = p} extra spare (Halted n cs s w) h straight r = record { steps = r.steps; is = λ m le. named p _ (end_of s) w cs (r.comes.outcome m le) h.log }
is_plain extra spare (Strayed n cs w) h straight r = absurd straight

-- ---- bodies whose results are on the stack

results_same : (M : WasmModule) (f : ℕ) (args : List CoreValue) (state : MachineState) (answers : List Answer) (extra spare : ℕ) (e : Ended (List CoreValue)) → RunsAs M f args state answers extra spare (λ vs. reverse (reverse vs)) e → RunsAs M f args state answers extra spare (λ vs. vs) e
results_same M f args state answers extra spare (Gave n cs vs w) r = record {
  steps = r.steps;
  bound = r.bound;
  comes = subst (λ us. ComesTo M f args state answers r.steps (reached (Returned us) w)) (reverse-reverse vs) r.comes;
}
results_same M f args state answers extra spare (Halted n cs s w) r = r
results_same M f args state answers extra spare (Strayed n cs w) r = r

pub bodies_run : (M : WasmModule) (p : ImportPlaces) (f : ℕ) (args : List CoreValue) (func : WasmFunc) (t : FuncType) (state : MachineState) (answers : List Answer) (extra spare : ℕ) (e : Ended (List CoreValue))
    → Calls M f args func t → is_state p state ≡ true → EndsSo M p Onward extra spare (first_world state answers) [] (entry_locals func args) func.body reverse (HaveResultTypes t) e
    → RunsAs M f args state answers extra spare (λ vs. vs) e
bodies_run M p f args func t state answers extra spare e h ty d =
    results_same M f args state answers extra spare e (runs_so state answers h (λ vs ls r. subst (λ us. have_types us t.results ≡ true) (sym (reverse-reverse vs)) r) {e = e} ty d)

pub bodies_are_plain : (M : WasmModule) (p : ImportPlaces) (f : ℕ) (args : List CoreValue) (func : WasmFunc) (t : FuncType) (state : MachineState) (answers : List Answer) (extra spare : ℕ) (e : Ended (List CoreValue))
    → Calls M f args func t → is_state p state ≡ true → EndsSo M p Onward extra spare (first_world state answers) [] (entry_locals func args) func.body reverse (HaveResultTypes t) e
    → Follows p (first_world state answers) e → IsStraight e → IsPlainRun M p f args state answers (plain.named_outcome e)
bodies_are_plain M p f args func t state answers extra spare e h ty d follows straight =
    is_plain extra spare e follows straight (bodies_run M p f args func t state answers extra spare e h ty d)
