-- What the callee was given where an error ended the call: what its parameters lift to in a run that came to its first call.
use Rattle.std.proofs.Common.{◌≡◌, ℕ, inl, inr, ◌⊎◌, List, [], ◌∷◌, ◌++◌, Option, Some, None, refl, sym, ap, ◌∙◌, subst}
use Rattle.fact_wasm.specs.declared.module.WasmModule.{WasmModule}
use Rattle.fact_types.specs.declared.import.Import.{Import}
use Rattle.fact_types.specs.Tables.{Tables}
use Rattle.fact_machine.specs.declared.types.Answer.TheVariants.{Traps}
use Rattle.fact_machine.specs.declared.types.CoreValue.{CoreValue}
use Rattle.fact_machine.specs.declared.types.Event.{Event}
use Rattle.fact_machine.specs.declared.types.MachineState.{MachineState}
use Rattle.fact_machine.specs.declared.types.Outcome.{Outcome}
use Rattle.fact_machine.specs.Causes.{answers_of}
use Rattle.fact_machine.specs.LastTrap.{TrapIsLast}
use Rattle.fact_machine.specs.Lengths.{SeeLengths, lengths_behind, lengths_of}
use Rattle.fact_machine.proofs.LastTrap.{traps_are_last}
use Rattle.fact_machine.proofs.Lengths.{lengths_stay}
use Rattle.fact_check.specs.Constants.{HasTypedConstants}
use Rattle.fact_check.specs.Soundness.{RunsSeeTyped, SeeTyped}
use Rattle.fact_values.specs.declared.value.Value.{Value}
use Rattle.fact_actions.specs.Running.{Call}
use Rattle.fact_host.specs.declared.callee.HostError.{HostError}
use Rattle.fact_host.specs.declared.callee.HostError.TheVariants.{OutOfMemory, Unsuited, OverLimit, NoResults}
use Rattle.fact_host.specs.declared.calling.HostCall.{HostCall}
use Rattle.fact_host.specs.Begun.{AreBegun, IsBegun, IsFirstState}
use Rattle.fact_host.specs.Contract.{HasReached, IsCallable, IsReached, IsReachedBy, steps_given}
use Rattle.fact_host.specs.Describes.{named_calls}
use Rattle.fact_host.specs.HonestLaws.{AnswersAreTyped, HasRole}
use Rattle.fact_host.specs.Lawful.{CameToGive, HasGivenBy, first_known}
use Rattle.fact_host.specs.Rules.{AreAnswers, CallShapes}
use Rattle.fact_host.proofs.FirstStates.{begun_flags, begun_lift, begun_lower, begun_typed}
use Rattle.fact_host.proofs.Honest.{law}
use Rattle.fact_host.proofs.Outcomes.{begins_at, bits_of_typed, first_is, rules_of}

-- ---- the front of a log

-- behind a trap there is nothing
last_behind : (front : List Event) (e : Event) (behind : List Event) → e.answer ≡ Traps → TrapIsLast (front ++ (e ∷ behind)) → behind ≡ []
last_behind [] e behind traps h = h.0 traps
last_behind (x ∷ front) e behind traps h = last_behind front e behind traps h.1

none_before : (front rest : List Event) → front ++ rest ≡ [] → front ≡ []
none_before [] rest q = refl
none_before (x ∷ front) rest q = absurd cc

-- and no trap before something
abbrev NoTraps : List Event → Type 0
NoTraps [] = Unit {0}
NoTraps (e ∷ es) = (e.answer ≡ Traps → ⊥) × NoTraps es

not_none : (front : List Event) (e : Event) (behind : List Event) → front ++ (e ∷ behind) ≡ [] → ⊥
not_none [] e behind q = cc
not_none (x ∷ front) e behind q = cc

no_traps : (front : List Event) (e : Event) (behind : List Event) → TrapIsLast (front ++ (e ∷ behind)) → NoTraps front
no_traps [] e behind h = tt
no_traps (x ∷ front) e behind h = ((λ q. not_none front e behind (h.0 q)), no_traps front e behind h.1)

abbrev call_at : (names : ℕ → Import) → Event → Call
call_at names e = record { what = names e.func; args = e.args; before = e.before; answer = e.answer }

last_returned : (names : ℕ → Import) (front : List Event) (zs : List Call) (z : Call) → NoTraps front → named_calls names front ≡ zs ++ z ∷ [] → z.answer ≡ Traps → ⊥
last_returned names [] [] z h e traps = cc
last_returned names [] (y ∷ zs) z h e traps = cc
last_returned names (x ∷ front) [] z h e traps =
    let same : call_at names x ≡ z = cc in
    h.0 (ap (λ (c : Call). c.answer) same ∙ traps)
last_returned names (x ∷ front) (y ∷ zs) z h e traps =
    let more : named_calls names front ≡ zs ++ z ∷ [] = cc in
    last_returned names front zs z h.1 more traps

front_traps : (front rest : List Event) → TrapIsLast (front ++ rest) → TrapIsLast front
front_traps [] rest h = tt
front_traps (x ∷ front) rest h = ((λ q. none_before front rest (h.0 q)), front_traps front rest h.1)

front_lengths : (lengths : List ℕ) (front rest : List Event) → SeeLengths lengths (front ++ rest) → SeeLengths lengths front
front_lengths lengths [] rest h = tt
front_lengths lengths (x ∷ front) rest h = (h.0, front_lengths (lengths_behind lengths x.answer) front rest h.1)

front_seen : (m : WasmModule) (front rest : List Event) → SeeTyped m (front ++ rest) → SeeTyped m front
front_seen m [] rest h = tt
front_seen m (x ∷ front) rest h = (h.0, h.1, λ typed. front_seen m front rest (h.2 typed))

-- ---- runs

module _ (m : WasmModule) (t : Tables) (c : HostCall) (s : CallShapes) (values : List Value) (before state : MachineState) (args : List CoreValue) (cursor : ℕ) (cursors : List ℕ)
    (callable : IsCallable m t c s) (first : IsFirstState c m.imports before) (begun : IsBegun c s values before state args cursor) (at : AreBegun c cursor state cursors) (answers : AnswersAreTyped) (seen : RunsSeeTyped) (constants : HasTypedConstants m)
    (given : Option (List Value)) where
  module _ (came : CameToGive m t c s cursors args state given) where
    abbrev front : List Event
    front = came.was.front

    abbrev rest : List Event
    rest = came.was.event ∷ came.was.behind

    split_traps : TrapIsLast (front ++ rest)
    split_traps = subst TrapIsLast came.was.events_are (subst TrapIsLast (sym (ap (λ (z : Outcome). z.log) came.is_run)) (traps_are_last m c.func args state (answers_of came.outcome.log) steps_given))

    split_lengths : SeeLengths (lengths_of state) (front ++ rest)
    split_lengths =
        subst (SeeLengths (lengths_of state)) came.was.events_are
        (subst (SeeLengths (lengths_of state)) (sym (ap (λ (z : Outcome). z.log) came.is_run)) (lengths_stay m c.func args state (answers_of came.outcome.log) steps_given))

    split_seen : SeeTyped m (front ++ rest)
    split_seen =
        subst (SeeTyped m) came.was.events_are
        (subst (SeeTyped m) (sym (ap (λ (z : Outcome). z.log) came.is_run))
        (seen m c.func args state (answers_of came.outcome.log) steps_given constants (bits_of_typed args _ begun.typed) (begun_typed m c before state callable.adapter first begun.differs begun.same_length)))

    front_ruled : (answered : Option (List Value)) → AreAnswers (HasRole m c) c s answered (first_known cursors) front
    front_ruled answered = rules_of m c s came.roles came.have answered (first_known cursors) came.was.known front (came.was.ruled answered)

    reached : HasReached m t c s values came.was.params
    reached = record {
      first = state;
      args = args;
      outcome = came.outcome;
      is_run = came.is_run;
      front = front;
      event = came.was.event;
      log_is = came.was.events_are ∙ ap (λ l. front ++ (came.was.event ∷ l)) (last_behind front came.was.event came.was.behind came.was.traps split_traps);
      is_callee = came.was.is_callee;
      traps = came.was.traps;
      uncalled = came.was.uncalled;
      lifts = came.was.lifts;
      known = first_known cursors;
      known_first = first_is m t c s values before state args cursor cursors callable first begun at;
      known_cursors = at.count;
      ruled = front_ruled;
      answers_typed = answers m c s None (first_known cursors) front callable.adapter callable.types callable.lower_means callable.lift_means (front_ruled None) (front_seen m front rest split_seen);
      honest = λ p a names d.
          (elim (law m t c p a names s args (lengths_of state) None (first_known cursors) front d callable.once (begins_at m t c s values before state args cursor cursors callable first begun at p a names d) (front_ruled None)
          (front_lengths (lengths_of state) front rest split_lengths) (front_traps front rest split_traps)) [
            | inl whole ↦ whole
            | inr t ↦ absurd (last_returned names front t.front t.last (no_traps front came.was.event came.was.behind split_traps) t.calls_are t.last_traps)
          ]);
      state_typed = begun_typed m c before state callable.adapter first begun.differs begun.same_length;
      args_typed = begun.typed;
      flags = begun_flags m c before state callable.adapter first begun.differs;
      lower_memory = begun_lower m c before state first callable.lower_means begun.differs begun.same_length;
      lift_memory = begun_lift m c before state first callable.lift_means begun.differs begun.same_length;
      area = begun.area;
      stored = begun.stored;
      stored_forms = begun.forms;
    }

    is_reached : IsReached m t c s values given
    is_reached = by came.was.given_is
      where
        by : (given ≡ None) ⊎ (given ≡ Some came.was.params) → IsReached m t c s values given
        by (inl none) = inl none
        by (inr some) = inr (came.was.params, some, reached)

  pub reached_by : (e : HostError) → HasGivenBy m t c s cursors args state given e → IsReachedBy m t c s values given e
  reached_by OutOfMemory h = tt
  reached_by Unsuited h = is_reached h
  reached_by OverLimit h = is_reached h
  reached_by NoResults h = is_reached h
