-- The logs of a run at other numbers of steps than one at which it has ended, or has taken all its answers.
use Rattle.std.proofs.Common.{◌≡◌, ◌≢◌, ℕ, ◌≤◌, List, [], ◌∷◌, ◌++◌, All, sym, ap, ◌∙◌, subst, arith, inl, inr, length, length-append}
use Rattle.std.proofs.lemmas.Bool.{cases_lt}
use Rattle.std.proofs.lemmas.List.Elements.{All-nil, All-cons, All-head, All-tail}
use Rattle.fact_wasm.specs.declared.module.WasmModule.{WasmModule}
use Rattle.fact_machine.specs.declared.types.Answer.{Answer}
use Rattle.fact_machine.specs.declared.types.CoreValue.{CoreValue}
use Rattle.fact_machine.specs.declared.types.End.TheVariants.{Going}
use Rattle.fact_machine.specs.declared.types.MachineState.{MachineState}
use Rattle.fact_machine.specs.declared.types.Outcome.{Outcome}
use Rattle.fact_machine.specs.Causes.{answers_of}
use Rattle.fact_machine.specs.Machine.{run_of}
use Rattle.fact_machine.specs.Trace.{Grows, outcome_of}
use Rattle.fact_machine.proofs.Answered.{no_more_calls}
use Rattle.fact_machine.proofs.Grows.{grows_from, grows_none, run_log_more}
use Rattle.fact_machine.proofs.Laws.{run_is}
use Rattle.fact_machine.proofs.WholeRuns.{run_stays}

-- what holds of each element of a list holds of each of a front
front_all : {A : Type 0} (P : A → Type 0) (xs ys : List A) → All P (xs ++ ys) → All P xs
front_all P [] ys h = All-nil P
front_all P (x ∷ xs) ys h = All-cons P x xs (All-head P x (xs ++ ys) h) (front_all P xs ys (All-tail P x (xs ++ ys) h))

pub grown_all : {A : Type 0} (P : A → Type 0) (xs ys : List A) → Grows xs ys → All P ys → All P xs
grown_all P xs ys g h = front_all P xs g.more (subst (All P) g.is h)

pub grown_length : {A : Type 0} (xs ys : List A) → Grows xs ys → length xs ≤ length ys
grown_length xs ys g = omega (arith, ap length g.is, length-append xs g.more)

module _ (m : WasmModule) (f : ℕ) (args : List CoreValue) (before : MachineState) (answers : List Answer) (last : ℕ) (over : (run_of m f args before answers last).end ≢ Going) where
  -- behind its end a run is what it is there
  pub stays : (steps : ℕ) → last ≤ steps → run_of m f args before answers steps ≡ run_of m f args before answers last
  stays steps more =
      run_is m f args before answers steps ∙ ap outcome_of (run_stays m f args before answers last steps over more) ∙ sym (run_is m f args before answers last)

  -- at each number of steps its log is a front of the one at its end
  pub fronts : (steps : ℕ) → Grows (run_of m f args before answers steps).log (run_of m f args before answers last).log
  fronts steps = elim (cases_lt steps last) [
    | inl less ↦ run_log_more m f args before answers steps last (omega (arith, less))
    | inr more ↦ subst (λ (o : Outcome). Grows o.log (run_of m f args before answers last).log) (sym (stays steps more)) (grows_none (run_of m f args before answers last).log)
  ]

-- so it is where a run has taken all its answers, since it then makes no more calls
pub taken_fronts : (m : WasmModule) (f : ℕ) (args : List CoreValue) (before : MachineState) (answers : List Answer) (last : ℕ) → answers_of (run_of m f args before answers last).log ≡ answers
    → (steps : ℕ) → Grows (run_of m f args before answers steps).log (run_of m f args before answers last).log
taken_fronts m f args before answers last all steps = elim (cases_lt steps last) [
  | inl less ↦ run_log_more m f args before answers steps last (omega (arith, less))
  | inr more ↦ grows_from (no_more_calls m f args before answers last steps (omega (arith, more)) all) (grows_none (run_of m f args before answers last).log)
]
