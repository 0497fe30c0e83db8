-- Whole runs, by how the function's body is left.
use Rattle.std.proofs.Common.{◌≡◌, ◌≢◌, ℕ, zero, suc, ◌+◌, ◌-◌, ◌≤◌, ◌<◌, inl, inr, List, [], ◌++◌, Option, Some, None, refl, sym, ap, ◌∙◌, subst, arith, append-nil, length, reverse, Bool, true, false}
use Rattle.std.proofs.lemmas.Bool.{cases_lt}
use Rattle.fact_wasm.specs.declared.types.ValType.{ValType}
use Rattle.fact_wasm.specs.declared.types.FuncType.{FuncType}
use Rattle.fact_wasm.specs.declared.module.WasmFunc.{WasmFunc}
use Rattle.fact_wasm.specs.declared.module.WasmModule.{WasmModule}
use Rattle.fact_machine.specs.declared.types.CoreValue.{CoreValue}
use Rattle.fact_machine.specs.declared.types.MachineState.{MachineState}
use Rattle.fact_machine.specs.declared.types.Answer.{Answer}
use Rattle.fact_machine.specs.declared.types.End.TheVariants.{Returned, Going, Stuck}
use Rattle.fact_machine.specs.declared.types.Outcome.{Outcome}
use Rattle.fact_machine.specs.World.{World}
use Rattle.fact_machine.specs.Machine.{Around, Bottom, Label, Frame, At, Goes, Finished, leaving, next_in, have_types, grab, or_stuck, check, call_inside, after, exec, takes, start, run_of}
use Rattle.fact_machine.specs.Trace.{Reached, reached, reached_after, reach, run_reach, trace_of, outcome_of}
use Rattle.fact_machine.specs.Exits.{Exit, Falls, Branches, Throws, Halts, leads, Leaves, Calls, entry_locals, first_world, returned, top_returned, run_exit}
use Rattle.fact_machine.proofs.Laws.{IsOver, over_of, run_is, stays, one_end, reach_finished, reach_broken, same_next, leaves_whole, leaves_whole_going}
use Rattle.fact_machine.proofs.Structure.{call_inside_is}

-- a body that ends in its results returns them
pub run_returns : (results : List ValType) (w : World) (vs : List CoreValue) (ls : List (Option CoreValue)) → have_types (reverse vs) results ≡ true → run_exit results (Falls w vs ls) ≡ reached (Returned (reverse vs)) w
run_returns results w vs ls h = ap (λ b. returned b w vs) h

-- what stands around the body
abbrev pub outermost : List ValType → Around
outermost results = Label (length results) [] [] [] [] (Frame results [] [] [] Bottom)

frame_returns : (M : WasmModule) (results : List ValType) (j : ℕ) (w : World) (vs : List CoreValue) (ls : List (Option CoreValue)) (b : Bool)
    → have_types (reverse vs) results ≡ b → reach M j (At w vs ls [] (Frame results [] [] [] Bottom)) ≡ returned b w vs
frame_returns M results j w vs ls true h = reach_finished M j _ w vs (ap (λ b. leaving b w (Finished w (vs ++ []))) h ∙ ap (Finished w) (append-nil vs))
frame_returns M results j w vs ls false h = reach_broken M j _ w (ap (λ b. leaving b w (Finished w (vs ++ []))) h)

branch_returns : (M : WasmModule) (results : List ValType) (j : ℕ) (w : World) (o : Option (List CoreValue × List CoreValue)) (ls : List (Option CoreValue))
    → reached_after (reach M j) (or_stuck w o (λ p. Goes (At w (p.0 ++ []) ls [] (Frame results [] [] [] Bottom)))) ≡ top_returned results w o
branch_returns M results j w None ls = refl
branch_returns M results j w (Some p) ls = ap (λ s. reach M j (At w s ls [] (Frame results [] [] [] Bottom))) (append-nil p.0) ∙ frame_returns M results j w p.0 ls _ refl

body_ends : (M : WasmModule) (results : List ValType) (j : ℕ) (x : Exit) → reached_after (reach M j) (leads x [] (outermost results)) ≡ run_exit results x
body_ends M results j (Falls w vs ls) =
    same_next M j _ (At w vs ls [] (Frame results [] [] [] Bottom)) (ap (λ s. next_in w s ls [] (Frame results [] [] [] Bottom)) (append-nil vs))
    ∙ frame_returns M results j w vs ls _ refl
body_ends M results j (Branches w zero vs ls) = branch_returns M results j w (grab (length results) vs) ls
body_ends M results j (Branches w (suc l) vs ls) = refl
body_ends M results j (Throws w ls) = refl
body_ends M results j (Halts e w) = refl

module _ {M : WasmModule} {f : ℕ} {args : List CoreValue} {func : WasmFunc} {ty : FuncType} (state : MachineState) (answers : List Answer) where
  taken : Calls M f args func ty → takes M f args ≡ true
  taken h = rw (h.func_is, h.type_is) h.typed

  -- a run begins with the function's body
  pub run_begins : Calls M f args func ty → (n : ℕ)
      → run_reach M f args state answers n ≡ reach M n (At (first_world state answers) [] (entry_locals func args) func.body (outermost ty.results))
  run_begins h n =
      ap (λ b. reached_after (reach M n) (check (first_world state answers) b (call_inside M f (first_world state answers) (reverse args) [] [] Bottom))) (taken h)
      ∙ ap (λ vs. reached_after (reach M n) (call_inside M f (first_world state answers) vs [] [] Bottom)) (sym (append-nil (reverse args)))
      ∙ ap (reached_after (reach M n)) (call_inside_is M f (first_world state answers) args [] [] [] Bottom func ty h)

  module _ {t : ℕ} {x : Exit} (h : Calls M f args func ty) (p : Leaves M t func.body (first_world state answers) [] (entry_locals func args) x) where
    -- from the step on at which its body is left, a run is what that comes to
    pub run_ends : (n : ℕ) → t ≤ n → run_reach M f args state answers n ≡ run_exit ty.results x
    run_ends n le =
        let e : n ≡ t + (n - t) = omega arith in
        ap (λ m. run_reach M f args state answers m) e ∙ run_begins h (t + (n - t)) ∙ leaves_whole p (outermost ty.results) (n - t) ∙ body_ends M ty.results (n - t) x

    -- with this outcome
    pub run_outcome : (n : ℕ) → t ≤ n → run_of M f args state answers n ≡ outcome_of (run_exit ty.results x)
    run_outcome n le = run_is M f args state answers n ∙ ap outcome_of (run_ends n le)

    -- and this trace
    pub run_trace : (n : ℕ) → t ≤ n → trace_of M f args state answers n ≡ (run_exit ty.results x).world.trace
    run_trace n le = ap (λ (r : Reached). r.world.trace) (run_ends n le)

    -- before it the run goes on
    pub run_going : (n : ℕ) → n < t → (run_of M f args state answers n).end ≡ Going
    run_going n lt =
        ap (λ (o : Outcome). o.end) (run_is M f args state answers n)
        ∙ ap (λ (r : Reached). r.end) (run_begins h n)
        ∙ leaves_whole_going p (outermost ty.results) n lt

    -- so a run that is over has taken all those steps
    pub run_over : (n : ℕ) → IsOver (run_of M f args state answers n).end → t ≤ n
    run_over n over = elim (cases_lt n t) [ inl less ↦ absurd (subst IsOver (run_going n less) over) | inr le ↦ le ]

over_reached : (M : WasmModule) (f : ℕ) (args : List CoreValue) (state : MachineState) (answers : List Answer) (n : ℕ) → (run_of M f args state answers n).end ≢ Going → IsOver (run_reach M f args state answers n).end
over_reached M f args state answers n h = subst (λ (o : Outcome). IsOver o.end) (run_is M f args state answers n) (over_of (run_of M f args state answers n).end h)

-- a run that is over stays what it is
pub run_stays : (M : WasmModule) (f : ℕ) (args : List CoreValue) (state : MachineState) (answers : List Answer) (n m : ℕ)
    → (run_of M f args state answers n).end ≢ Going → n ≤ m → run_reach M f args state answers m ≡ run_reach M f args state answers n
run_stays M f args state answers n m h le = stays M n m (start M f args state answers) (over_reached M f args state answers n h) le

-- and reaches one end
pub run_one_end : (M : WasmModule) (f : ℕ) (args : List CoreValue) (state : MachineState) (answers : List Answer) (n m : ℕ)
    → (run_of M f args state answers n).end ≢ Going → (run_of M f args state answers m).end ≢ Going → run_reach M f args state answers n ≡ run_reach M f args state answers m
run_one_end M f args state answers n m hn hm =
    one_end M n m (start M f args state answers) (over_reached M f args state answers n hn) (over_reached M f args state answers m hm)

-- a run that does not take its arguments is stuck at once
pub run_untyped : (M : WasmModule) (f : ℕ) (args : List CoreValue) (state : MachineState) (answers : List Answer) (n : ℕ)
    → takes M f args ≡ false → run_of M f args state answers n ≡ record { end = Stuck; state = state; log = [] }
run_untyped M f args state answers n h =
    ap (λ b. after (exec M n) (check (first_world state answers) b (call_inside M f (first_world state answers) (reverse args) [] [] Bottom))) h
