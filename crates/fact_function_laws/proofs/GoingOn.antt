-- A run that could go on to its return is over within the steps of one that returns, also where it lacks an answer.
use Rattle.std.proofs.Common.{◌≡◌, ℕ, zero, suc, ◌+◌, ◌*◌, ◌≤◌, inl, inr, List, [], ◌∷◌, ◌++◌, sym, ap, ◌∙◌, subst, arith, length, length-append}
use Rattle.std.proofs.lemmas.List.{length-map}
use Rattle.fact_wasm.specs.declared.module.WasmModule.{WasmModule}
use Rattle.fact_machine.specs.declared.types.Answer.{Answer}
use Rattle.fact_machine.specs.declared.types.CoreValue.{CoreValue}
use Rattle.fact_machine.specs.declared.types.End.TheVariants.{Lacks, Returned}
use Rattle.fact_machine.specs.declared.types.Event.{Event}
use Rattle.fact_machine.specs.declared.types.MachineState.{MachineState}
use Rattle.fact_machine.specs.declared.types.Outcome.{Outcome}
use Rattle.fact_machine.specs.Machine.{run_of}
use Rattle.fact_machine.proofs.Answered.{more_answers}
use Rattle.fact_machine.proofs.Causes.{run_lacks}
use Rattle.fact_types.specs.declared.import.Import.{Import}
use Rattle.fact_types.specs.Adapters.{LinkedAdapter}
use Rattle.fact_actions.specs.Adapters.{AdapterTunables}
use Rattle.fact_action_laws.specs.Faithful.{whole_weight}
use Rattle.fact_function_laws.specs.Laws.{GoesOnFor, IsFollowed, LackingRunsEndSoon}
use Rattle.fact_function_laws.specs.Names.{places_in}
use Rattle.fact_function_laws.specs.Runs.{Behaves, EndsSoon, IsOver}
use Rattle.fact_function_laws.proofs.Fronts.{stays}
use Rattle.fact_function_laws.proofs.Outcomes.{returned_not_going}

module _ (m : WasmModule) (is : List Import) (u : AdapterTunables) (a : LinkedAdapter) (f : ℕ) (args : List CoreValue) (before : MachineState) (most : ℕ) (h : Behaves m is u a f) where
  -- the run with these answers, after so many steps
  abbrev after : List Answer → ℕ → Outcome
  after answers steps = run_of m f args before answers steps

  -- It is over in time: it returned so, or it lacks an answer with which it would be over in time.
  one_more : (answers : List Answer) (More : Answer → Type 0) → IsFollowed m is u a f args before most answers More
      → (length answers ≤ 30 * (most + 1) → (answer : Answer) → More answer → IsOver (after (answers ++ answer ∷ []) (1000 * (most + 1))).end)
      → IsOver (after answers (1000 * (most + 1))).end
  one_more answers More g go = by_end soon.over
    where
      ends : (steps : ℕ) × EndsSoon m is a args before (after answers steps)
      ends = h.comes_to_end args before answers g.answered.honest g.answered.checks g.answered.limits

      soon : EndsSoon m is a args before (after answers ends.0)
      soon = ends.1

      -- all answers are taken, and no more than its values account for
      few : (after answers ends.0).end ≡ Lacks → length answers ≤ 30 * (most + 1)
      few lacks =
          let all = ap length (run_lacks m f args before answers ends.0 lacks) in
          omega (arith, all, length-map (after answers ends.0).log (λ (e : Event). e.answer), soon.few, g.light ends.0 soon.calls soon.are_calls)

      from_more : (answer : Answer) → IsOver (after (answers ++ answer ∷ []) (1000 * (most + 1))).end → IsOver (after answers (1000 * (most + 1))).end
      from_more answer over = elim (more_answers m f args before answers (answer ∷ []) (1000 * (most + 1))) [
        | inl same ↦ subst (λ (o : Outcome). IsOver o.end) (sym same) over
        | inr short ↦ inr short.lacks
      ]

      by_end : IsOver (after answers ends.0).end → IsOver (after answers (1000 * (most + 1))).end
      by_end (inl returned) =
          let honest = g.answered.honest ends.0 in
          let weight : ℕ = whole_weight (places_in m is) a args before honest.calls in
          let here : (after answers (1000 * (weight + 1))).end ≡ Returned returned.0 = ap (λ (o : Outcome). o.end) (h.takes_few_steps args before answers ends.0 returned.0 honest returned.1) ∙ returned.1 in
          let light : weight ≤ most = g.light ends.0 honest.calls honest.are_calls in
          inl (returned.0, ap (λ (o : Outcome). o.end) (stays m f args before answers (1000 * (weight + 1)) (returned_not_going here) (1000 * (most + 1)) (omega (arith, light))) ∙ here)
      by_end (inr lacks) = let next = g.next ends.0 lacks in from_more next.0 (go (few lacks) next.0 next.1)

  over_soon : (times : ℕ) (answers : List Answer) → 2 + 30 * (most + 1) ≤ length answers + suc times → GoesOnFor m is u a f args before most (suc times) answers → IsOver (after answers (1000 * (most + 1))).end
  over_soon zero answers enough g = one_more answers _ g (λ few answer more. absurd (omega (arith, enough, few)))
  over_soon (suc times) answers enough g = one_more answers _ g (λ few answer more. over_soon times (answers ++ answer ∷ []) (omega (arith, enough, length-append answers (answer ∷ []))) more)

pub lacking_runs_end_soon : LackingRunsEndSoon
lacking_runs_end_soon m is u a f args before most answers h g =
    let times : 2 + 30 * (most + 1) ≡ suc (1 + 30 * (most + 1)) = omega arith in
    over_soon m is u a f args before most h (1 + 30 * (most + 1)) answers (omega arith) (subst (λ n. GoesOnFor m is u a f args before most n answers) times g)
