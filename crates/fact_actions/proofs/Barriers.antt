-- Calls and traces behind the barrier of a sync adapter.
use Rattle.std.proofs.Common.{◌≡◌, ℕ, Bool, true, false, List, ◌++◌, map, sym, ap, ◌∙◌, append_assoc}
use Rattle.std.proofs.lemmas.List.{map-append}
use Rattle.fact_types.specs.declared.outside.Trap.TheVariants.{UncaughtException}
use Rattle.fact_types.specs.Adapters.{LinkedAdapter}
use Rattle.fact_machine.specs.declared.types.CoreValue.{CoreValue}
use Rattle.fact_machine.specs.declared.types.Answer.{Answer}
use Rattle.fact_machine.specs.declared.types.Event.{Event}
use Rattle.fact_machine.specs.World.{World, Trap, Throw, Lack, log_of}
use Rattle.fact_machine.specs.Trace.{Grows}
use Rattle.fact_machine.proofs.Grows.{grows_on}
use Rattle.fact_actions.specs.Actions.{trap}
use Rattle.fact_actions.specs.Adapters.{AdapterTunables, sync}
use Rattle.fact_actions.specs.Laws.{call_event, answer_in, Follows}
use Rattle.fact_actions.specs.Plain.{guarded, guarded_if, ended_sync}
use Rattle.fact_actions.specs.Running.{ImportPlaces, Call, Ended, Gave, Halted, Strayed, heavier, later, run}
use Rattle.fact_actions.proofs.Follows.{runs_follow}

-- What follows a world that was reached by calls follows the first world, by these calls and its own.
module _ (p : ImportPlaces) (w u : World) (n : ℕ) (cs : List Call) (grown : Grows w.trace u.trace) (given : w.answers ≡ map answer_in cs ++ u.answers) (logged : log_of u ≡ log_of w ++ map (call_event p) cs) where
  all_answers : (ds : List Call) (left : List Answer) → u.answers ≡ map answer_in ds ++ left → w.answers ≡ map answer_in (cs ++ ds) ++ left
  all_answers ds left h =
      given ∙ ap (λ x. map answer_in cs ++ x) h ∙ sym (append_assoc (map answer_in cs) (map answer_in ds) left) ∙ ap (λ x. x ++ left) (sym (map-append answer_in cs ds))

  all_calls : (ds : List Call) (events : List Event) → events ≡ log_of u ++ map (call_event p) ds → events ≡ log_of w ++ map (call_event p) (cs ++ ds)
  all_calls ds events h =
      h ∙ ap (λ x. x ++ map (call_event p) ds) logged ∙ append_assoc (log_of w) (map (call_event p) cs) (map (call_event p) ds)
      ∙ ap (λ x. log_of w ++ x) (sym (map-append (call_event p) cs ds))

  follows_behind : (e : Ended (List CoreValue)) → Follows p u e → Follows p w (heavier n (later cs e))
  follows_behind (Gave m ds a v) h = record { grows = grows_on grown h.grows; answers = all_answers ds v.answers h.answers; log = all_calls ds (log_of v) h.log }
  follows_behind (Halted m ds s v) h = record { grows = grows_on grown h.grows; answers = all_answers ds v.answers h.answers; log = all_calls ds (log_of v) h.log }
  follows_behind (Strayed m ds v) h = record { grows = grows_on grown h.grows; answers = all_answers ds v.answers h.answers; log = all_calls ds (log_of v) h.log }

guarded_follows : (p : ImportPlaces) (w : World) (e : Ended (List CoreValue)) → Follows p w e → Follows p w (guarded p e)
guarded_follows p w (Gave n cs a v) h = h
guarded_follows p w (Halted n cs Throw v) h = follows_behind p w v n cs h.grows h.answers h.log (run p (trap UncaughtException) v) (runs_follow p (trap UncaughtException) v)
guarded_follows p w (Halted n cs Trap v) h = h
guarded_follows p w (Halted n cs Lack v) h = h
guarded_follows p w (Strayed n cs v) h = h

pub sync_runs_follow : (p : ImportPlaces) (u : AdapterTunables) (a : LinkedAdapter) (args : List CoreValue) (w : World) → Follows p w (ended_sync p u a args w)
sync_runs_follow p u a args w = by_barrier u.exceptions
  where
    by_barrier : (b : Bool) → Follows p w (guarded_if b p (run p (sync u a args) w))
    by_barrier true = guarded_follows p w (run p (sync u a args) w) (runs_follow p (sync u a args) w)
    by_barrier false = runs_follow p (sync u a args) w
