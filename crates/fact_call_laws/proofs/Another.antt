-- A run whose last call was answered by a trap, with another answer to that call.
use Rattle.std.proofs.Common.{◌≡◌, ◌⊎◌, inl, inr, ℕ, List, [], ◌∷◌, ◌++◌, refl, sym, ap, ◌∙◌, arith, length, length-append}
use Rattle.std.proofs.lemmas.List.{length-map, nil_from_length}
use Rattle.fact_wasm.specs.declared.module.WasmModule.{WasmModule}
use Rattle.fact_machine.specs.declared.types.Answer.{Answer}
use Rattle.fact_machine.specs.declared.types.CoreValue.{CoreValue}
use Rattle.fact_machine.specs.declared.types.End.TheVariants.{Lacks}
use Rattle.fact_machine.specs.declared.types.Event.{Event}
use Rattle.fact_machine.specs.declared.types.MachineState.{MachineState}
use Rattle.fact_machine.specs.declared.types.Outcome.{Outcome}
use Rattle.fact_machine.specs.Causes.{answers_of}
use Rattle.fact_machine.specs.Machine.{run_of}
use Rattle.fact_machine.specs.RunLaws.{LacksOne}
use Rattle.fact_machine.specs.Trace.{run_reach}
use Rattle.fact_machine.proofs.Answered.{log_takes, more_answers}
use Rattle.fact_machine.proofs.Causes.{run_lacks}
use Rattle.fact_call_laws.proofs.Asking.{LacksCall, call_answered, lacks_call}

-- lists of one length with one more behind each
split_same : {A : Type 0} (xs ys : List A) (x y : A) (more : List A) → length xs ≡ length ys → xs ++ x ∷ [] ≡ ys ++ (y ∷ more) → (xs ≡ ys) × (x ≡ y)
split_same [] [] x y more h e = (refl, cc)
split_same [] (b ∷ ys) x y more h e = absurd (omega (arith, h))
split_same (a ∷ xs) [] x y more h e = absurd (omega (arith, h))
split_same (a ∷ xs) (b ∷ ys) x y more h e =
    let first : a ≡ b = cc in
    let rest : xs ++ x ∷ [] ≡ ys ++ (y ∷ more) = cc in
    let s = split_same xs ys x y more (omega (arith, h)) rest in
    ((λ k. first k ∷ s.0 k), s.1)

pub answers_on : (xs ys : List Event) → answers_of (xs ++ ys) ≡ answers_of xs ++ answers_of ys
answers_on [] ys = refl
answers_on (e ∷ xs) ys = ap (λ l. e.answer ∷ l) (answers_on xs ys)

module _ (M : WasmModule) (f : ℕ) (args : List CoreValue) (s : MachineState) (n : ℕ) (front : List Event) (e : Event) (is : (run_of M f args s (answers_of (front ++ e ∷ [])) n).log ≡ front ++ e ∷ []) where
  abbrev pub first_answers : List Answer
  first_answers = answers_of front

  abbrev log : List Answer → List Event
  log answers = (run_of M f args s answers n).log

  many : (l : List Event) → length (answers_of l) ≡ length l
  many l = length-map l (λ (v : Event). v.answer)

  whole : log (first_answers ++ e.answer ∷ []) ≡ front ++ e ∷ []
  whole = ap log (sym (answers_on front (e ∷ []))) ∙ is

  -- it lacked the answer
  lacked : (run_of M f args s first_answers n).end ≡ Lacks
  lacked = by (more_answers M f args s first_answers (e.answer ∷ []) n)
    where
      by : (run_of M f args s first_answers n ≡ run_of M f args s (first_answers ++ e.answer ∷ []) n) ⊎ LacksOne (run_of M f args s first_answers n) (run_of M f args s (first_answers ++ e.answer ∷ []) n) → (run_of M f args s first_answers n).end ≡ Lacks
      by (inl same) =
          let takes = log_takes M f args s first_answers n in
          absurd (omega (
            arith,
            ap (λ (o : Outcome). length o.log) same,
            ap length whole,
            length-append front (e ∷ []),
            ap length takes.is,
            length-append (answers_of (log first_answers)) takes.more,
            many (log first_answers),
            many front,
          ))
      by (inr short) = short.lacks

  lacks : LacksCall M f args s first_answers n
  lacks = lacks_call M f args s first_answers n lacked

  long : length front ≡ length (log first_answers)
  long = omega (arith, ap length (run_lacks M f args s first_answers n lacked), many front, many (log first_answers))

  abbrev there : MachineState
  there = (run_reach M f args s first_answers n).world.state

  -- what came before, and the call
  same : (front ≡ log first_answers) × (e ≡ call_answered lacks.func lacks.given there e.answer)
  same =
      let one = lacks.each e.answer [] in
      split_same front (log first_answers) e (call_answered lacks.func lacks.given there e.answer) one.0 long (sym whole ∙ one.1)

  -- the same call by another answer
  pub another : (a : Answer) → log (first_answers ++ a ∷ []) ≡ front ++ call_answered e.func e.args e.before a ∷ []
  another a =
      let one = lacks.each a [] in
      let takes = log_takes M f args s (first_answers ++ a ∷ []) n in
      let none : length one.0 ≡ 0 = omega (
        arith,
        ap length takes.is,
        length-append (answers_of (log (first_answers ++ a ∷ []))) takes.more,
        many (log (first_answers ++ a ∷ [])),
        length-append first_answers (a ∷ []),
        many front,
        ap length one.1,
        length-append (log first_answers) (call_answered lacks.func lacks.given there a ∷ one.0),
        long,
      ) in
      let call : call_answered lacks.func lacks.given there a ≡ call_answered e.func e.args e.before a = ap (λ (v : Event). call_answered v.func v.args v.before a) (sym same.1) in
      one.1 ∙ (λ k. sym same.0 k ++ (call k ∷ nil_from_length one.0 none k))

  -- all answers are taken
  pub taken : (a : Answer) → answers_of (log (first_answers ++ a ∷ [])) ≡ first_answers ++ a ∷ []
  taken a = ap answers_of (another a) ∙ answers_on front (call_answered e.func e.args e.before a ∷ [])
