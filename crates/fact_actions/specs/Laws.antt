-- Laws of actions and of what they come to, whatever they do.
use Rattle.std.specs.Prelude.{◌≡◌, ℕ, List, [], ◌++◌, map}
use Rattle.fact_machine.specs.declared.types.Answer.{Answer}
use Rattle.fact_machine.specs.declared.types.Event.{Event}
use Rattle.fact_machine.specs.declared.types.TraceEntry.{TraceEntry}
use Rattle.fact_machine.specs.World.{World, log_of}
use Rattle.fact_machine.specs.Trace.{Grows}
use Rattle.fact_types.specs.declared.import.Import.{Import}
use Rattle.fact_actions.specs.Actions.{Action, ◌>>=◌}
use Rattle.fact_actions.specs.Running.{ImportPlaces, Call, Ended, Gave, Halted, Strayed, calls_in, world_in, then_ended, run}

-- ---- one action after another

-- It does not matter how actions one after another are grouped.
abbrev pub BindsAssociate : (A B C : Type 0) → Type 0
BindsAssociate A B C =
    (q : Action A) (f : A → Action B) (g : B → Action C)
    → ((q >>= f) >>= g) ≡ (q >>= (λ a. f a >>= g))

-- A run of one action after another is a run of the first and then of the second.
abbrev pub BindsRun : (A B : Type 0) → Type 0
BindsRun A B =
    (p : ImportPlaces) (q : Action A) (f : A → Action B) (w : World)
    → run p (q >>= f) w ≡ then_ended (run p q w) (λ a w'. run p (f a) w')

-- ---- traces, answers and calls

-- the event of a call, by the number of its import
abbrev pub call_event : ImportPlaces → Call → Event
call_event p c = record { func = p.function c.what; args = c.args; before = c.before; answer = c.answer }

abbrev pub answer_in : Call → Answer
answer_in c = c.answer

-- A run that began in a world has put its entries behind the trace; its calls took the answers, in order; and they are the
-- outside calls that it put into the log.
pub record Follows {A : Type 0} (p : ImportPlaces) (w : World) (e : Ended A) : Type 0 where
  pub grows : Grows w.trace (world_in e).trace
  pub answers : w.answers ≡ map answer_in (calls_in e) ++ (world_in e).answers
  pub log : log_of (world_in e) ≡ log_of w ++ map (call_event p) (calls_in e)

abbrev pub RunsFollow : (A : Type 0) → Type 0
RunsFollow A = (p : ImportPlaces) (q : Action A) (w : World) → Follows p w (run p q w)

-- ---- names

-- an end without the trace of its world
abbrev pub untraced : {A : Type 0} → Ended A → Ended A
untraced (Gave n cs a w) = Gave n cs a (record w { trace = [] })
untraced (Halted n cs s w) = Halted n cs s (record w { trace = [] })
untraced (Strayed n cs w) = Strayed n cs (record w { trace = [] })

-- What an action comes to, its trace aside, does not hang on where a module has its imported functions, nor on what happened
-- before.
abbrev pub RunsAreNamed : (A : Type 0) → Type 0
RunsAreNamed A =
    (p : ImportPlaces) (function : Import → ℕ) (q : Action A) (w : World) (trace : List TraceEntry)
    → untraced (run p q w) ≡ untraced (run (record p { function = function }) q (record w { trace = trace }))
