-- A run whose answers are all honest does not go on behind the steps that a host gives: wherever it lacks an answer, the host's rules have one.
use Rattle.std.proofs.Common.{◌≡◌, ◌≢◌, ℕ, zero, suc, ◌+◌, ◌*◌, ◌<◌, ◌≤◌, ◌⊎◌, inl, inr, List, [], ◌∷◌, ◌++◌, sym, ap, ◌∙◌, subst, arith}
use Rattle.std.proofs.lemmas.Bool.{cases_lt}
use Rattle.fact_machine.specs.declared.types.End.TheVariants.{Going, Lacks}
use Rattle.fact_machine.specs.declared.types.Event.{Event}
use Rattle.fact_machine.specs.Causes.{answers_of}
use Rattle.fact_machine.proofs.Answered.{no_more_calls}
use Rattle.fact_machine.proofs.Causes.{run_lacks}
use Rattle.fact_actions.specs.Honest.{AreHonestSync}
use Rattle.fact_action_laws.specs.Faithful.{whole_weight}
use Rattle.fact_host.specs.Contract.{steps_given}
use Rattle.fact_host.specs.Describes.{named_calls}
use Rattle.fact_function_laws.specs.Laws.{GoesOnFor}
use Rattle.fact_function_laws.specs.Runs.{IsOver}
use Rattle.fact_function_laws.proofs.GoingOn.{lacking_runs_end_soon}
use Rattle.fact_function_laws.proofs.Outcomes.{over_not_going}
use Rattle.fact_call_laws.proofs.Another.{answers_on}
use Rattle.fact_call_laws.proofs.Ends.{answered, light}
use Rattle.fact_call_laws.proofs.Lacking.{AllRead}
use Rattle.fact_call_laws.proofs.Later.{IsLog, Laws, later, later_called, run_by}
use Rattle.fact_call_laws.proofs.Onward.{AllStored, GoesOn, goes_on}
use Rattle.fact_call_laws.proofs.Setting.{Called, Setting, calls, log, names, places, run, run_is}

module _ (laws : Laws) (reads : AllRead) (stored : AllStored) (x : Setting) (h : Called x) where
  -- all answers are taken also at another number of steps, at which one is lacking
  log_at : (steps last : ℕ) (events : List Event) → IsLog x h last events → (run_by x h events steps).end ≡ Lacks → IsLog x h steps events
  log_at steps last events g lacks = record { log_is = by (cases_lt steps last); ruled = g.ruled }
    where
      taken : answers_of (run_by x h events steps).log ≡ answers_of events
      taken = run_lacks x.code x.function h.outcome.args h.outcome.first (answers_of events) steps lacks

      by : (steps < last) ⊎ (last ≤ steps) → (run_by x h events steps).log ≡ events
      by (inl lt) = sym (no_more_calls x.code x.function h.outcome.args h.outcome.first (answers_of events) steps last (omega (arith, lt)) taken) ∙ g.log_is
      by (inr le) = no_more_calls x.code x.function h.outcome.args h.outcome.first (answers_of events) last steps le (ap answers_of g.log_is) ∙ g.log_is

  -- a run with these answers goes on as often as one likes
  follow : (most times : ℕ) → 2000000 ≤ most → (events : List Event) (last : ℕ) → IsLog x h last events → AreHonestSync (places x) x.adapter h.outcome.args (named_calls (names x) events)
      → GoesOnFor x.code x.imports x.tunables x.adapter x.function h.outcome.args h.outcome.first most times (answers_of events)
  follow most zero heavy events last g whole = tt
  follow most (suc times) heavy events last g whole =
      let y : Setting = later x h last events in
      let hy : Called y = later_called x h laws last events g in
      record {
        answered = answered y hy whole;
        light = λ steps cs are. let weight : whole_weight (places x) x.adapter h.outcome.args h.outcome.first cs ≤ 2000000 = light y hy whole steps cs are in omega (arith, weight, heavy);
        next = λ steps lacks.
            let more : GoesOn laws reads stored x h steps events (log_at steps last events g lacks) whole lacks = goes_on laws reads stored x h steps events (log_at steps last events g lacks) whole lacks in (
              more.next.answer,
              subst (GoesOnFor x.code x.imports x.tunables x.adapter x.function h.outcome.args h.outcome.first most times) (answers_on events (more.next ∷ []))
                  (follow most times heavy (events ++ more.next ∷ []) steps more.is_log more.honestly),
            );
      }

  module _ (whole : AreHonestSync (places x) x.adapter h.outcome.args (calls x)) where
    own_log : IsLog x h x.steps (log x)
    own_log = record { log_is = ap (λ o. o.log) (sym (run_is x h)); ruled = h.outcome.ruled }

    over_soon : (most : ℕ) → 2000000 ≤ most → IsOver (run_by x h (log x) (1000 * (most + 1))).end
    over_soon most heavy =
        lacking_runs_end_soon x.code x.imports x.tunables x.adapter x.function h.outcome.args h.outcome.first most (answers_of (log x)) h.promised.behaves
        (follow most (2 + 30 * (most + 1)) heavy (log x) x.steps own_log whole)

    -- So it is over behind the steps of the heaviest values.
    pub stops : x.steps ≡ steps_given → (run x h).end ≢ Going
    stops given =
        let steps : 1000 * (2000000 + 1) ≡ x.steps = (let all : 1000 * (2000000 + 1) ≡ steps_given = omega arith in all ∙ sym given) in
        over_not_going (run x h).end (subst (λ n. IsOver (run_by x h (log x) n).end) steps (over_soon 2000000 (omega arith)))
