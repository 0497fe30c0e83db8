-- Logs of a run by answers that are thought of: where the host's rules give them, they are those of a call on a host.
use Rattle.std.proofs.Common.{◌≡◌, ℕ, All, List, Some, None, sym, ap, ◌∙◌, subst}
use Rattle.fact_machine.specs.declared.types.Event.{Event}
use Rattle.fact_machine.specs.declared.types.Outcome.{Outcome}
use Rattle.fact_machine.specs.Causes.{answers_of}
use Rattle.fact_machine.specs.LastTrap.{TrapIsLast}
use Rattle.fact_machine.specs.Lengths.{SeeLengths, lengths_of}
use Rattle.fact_machine.specs.Machine.{run_of}
use Rattle.fact_machine.specs.Typed.{TypedAnswer}
use Rattle.fact_machine.proofs.LastTrap.{traps_are_last}
use Rattle.fact_machine.proofs.Lengths.{lengths_stay}
use Rattle.fact_check.specs.Soundness.{RunsSeeTyped, SeeTyped}
use Rattle.fact_types.specs.declared.import.Import.{Import}
use Rattle.fact_types.specs.Adapters.{LinkedAdapter}
use Rattle.fact_actions.specs.Honest.{AreHonestSync}
use Rattle.fact_actions.specs.Running.{ImportPlaces}
use Rattle.fact_action_laws.specs.Trapped.{AreHonestUntilTrap}
use Rattle.fact_host.specs.Describes.{Describes, named_calls}
use Rattle.fact_host.specs.HonestLaws.{AnswersAreHonest, AnswersAreTyped}
use Rattle.fact_host.specs.Rules.{AreAnswers}
use Rattle.fact_call_laws.proofs.Seen.{bits_of_typed}
use Rattle.fact_call_laws.proofs.Setting.{Called, Named, Setting}

-- The laws of hosts, and of what the outside sees of runs.
pub record Laws : Type 0 where
  pub seen : RunsSeeTyped
  pub honest : AnswersAreHonest
  pub typed : AnswersAreTyped

module _ (x : Setting) (h : Called x) where
  -- the run with the answers of these events
  abbrev pub run_by : (events : List Event) → (steps : ℕ) → Outcome
  run_by events steps = run_of x.code x.function h.outcome.args h.outcome.first (answers_of events) steps

  -- By their answers the run makes these calls in so many steps, and the host's rules answer them so.
  pub record IsLog (steps : ℕ) (events : List Event) : Type 0 where
    pub log_is : (run_by events steps).log ≡ events
    pub ruled : AreAnswers (Named x) x.call x.shapes (Some x.answered) h.outcome.known events

  -- the same call, whose run made these calls
  abbrev pub later : (steps : ℕ) → List Event → Setting
  later steps events = record x { steps = steps; outcome = record { outcome = record { end = (run_by events steps).end; state = (run_by events steps).state; log = events }; params = None; results = None } }

  module _ (laws : Laws) (steps : ℕ) (events : List Event) (g : IsLog steps events) where
    pub run_is : (later steps events).outcome.outcome ≡ run_of x.code x.call.func h.outcome.args h.outcome.first (answers_of events) steps
    run_is =
        let same : (later steps events).outcome.outcome ≡ run_by events steps = λ k. record { end = (run_by events steps).end; state = (run_by events steps).state; log = sym g.log_is k } in
        same ∙ ap (λ n. run_of x.code n h.outcome.args h.outcome.first (answers_of events) steps) (sym h.calls.func)

    pub log_seen : SeeTyped x.code events
    log_seen =
        subst (SeeTyped x.code) g.log_is
        (laws.seen x.code x.function h.outcome.args h.outcome.first (answers_of events) steps h.promised.constants (bits_of_typed h.outcome.args _ h.outcome.args_typed) h.outcome.state_typed)

    pub log_typed : All (λ e. TypedAnswer x.code e.func e.before e.answer) events
    log_typed = laws.typed x.code x.call x.shapes (Some x.answered) h.outcome.known events h.callable.adapter h.callable.types h.callable.lower_means h.callable.lift_means g.ruled log_seen

    log_lengths : SeeLengths (lengths_of h.outcome.first) events
    log_lengths = subst (SeeLengths (lengths_of h.outcome.first)) g.log_is (lengths_stay x.code x.function h.outcome.args h.outcome.first (answers_of events) steps)

    log_traps : TrapIsLast events
    log_traps = subst TrapIsLast g.log_is (traps_are_last x.code x.function h.outcome.args h.outcome.first (answers_of events) steps)

    pub log_honest : (p : ImportPlaces) (a : LinkedAdapter) (names : ℕ → Import) → Describes x.code x.types x.call p a names → AreHonestUntilTrap (AreHonestSync p a h.outcome.args) (named_calls names events)
    log_honest p a names d =
        laws.honest x.code x.types x.call p a names x.shapes h.outcome.args (lengths_of h.outcome.first) (Some x.answered) h.outcome.known events d h.callable.once (h.outcome.begins p a names d) g.ruled log_lengths log_traps

    -- what is known of it
    abbrev pub later_called : Called (later steps events)
    later_called = record {
      promised = h.promised;
      calls = h.calls;
      callable = h.callable;
      suited = h.suited;
      answer_suited = h.answer_suited;
      answer_fits = h.answer_fits;
      outcome = record {
        first = h.outcome.first;
        args = h.outcome.args;
        is_run = run_is;
        known = h.outcome.known;
        known_first = h.outcome.known_first;
        ruled = g.ruled;
        state_typed = h.outcome.state_typed;
        args_typed = h.outcome.args_typed;
        answers_typed = log_typed;
        flags = h.outcome.flags;
        lower_memory = h.outcome.lower_memory;
        lift_memory = h.outcome.lift_memory;
        area = h.outcome.area;
        begins = h.outcome.begins;
        honest = log_honest;
        stored = h.outcome.stored;
      };
    }
