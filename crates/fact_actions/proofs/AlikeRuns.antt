-- Runs of actions that are alike are alike.
use Rattle.std.proofs.Common.{ℕ, ◌+◌, Bool, true, false, List, ◌++◌, length, Option, Some, None, refl, ap}
use Rattle.std.specs.Prelude.{slice_get}
use Rattle.fact_types.specs.Shapes.{Shape}
use Rattle.fact_machine.specs.declared.types.CoreValue.TheVariants.{I32}
use Rattle.fact_machine.specs.World.{World, Res, Done, Halt, read, write, outside, set_global}
use Rattle.fact_machine.specs.Machine.{i32_of}
use Rattle.fact_actions.specs.Actions.{Action}
use Rattle.fact_actions.specs.Alike.{AreEndsAlike, AreTargetsAlike, HaveSameBits, IsSourceInRange, source_as_i64}
use Rattle.fact_actions.specs.Moves.{move}
use Rattle.fact_actions.specs.Running.{ImportPlaces, Ended, Gave, Halted, Strayed, Call, call_of, run, heavier, later, ended, if_typed, is_answer, or_strayed}
use Rattle.fact_actions.specs.Sides.{Transfer, Source, Target}
use Rattle.fact_actions.proofs.Alike.{Alike, gives, visits, reads, writes, lengths, gets, sets, asks, stops}
use Rattle.fact_actions.proofs.AlikeMoves.{alike_move}

-- ends that are alike
pub record EndsAlike {A B : Type 0} (R : A → B → Type 0) (e : Ended A) (f : Ended B) : Type 0 where
  pub by : AreEndsAlike R e f

module _ {A B : Type 0} {R : A → B → Type 0} where
  alike_heavier : (n : ℕ) (e : Ended A) (f : Ended B) → EndsAlike R e f → EndsAlike R (heavier n e) (heavier n f)
  alike_heavier n (Gave m cs a w) (Gave k ds b x) h = record { by = (ap (λ i. n + i) h.by.0, h.by.1, h.by.2, h.by.3) }
  alike_heavier n (Halted m cs s w) (Halted k ds r x) h = record { by = (ap (λ i. n + i) h.by.0, h.by.1, h.by.2, h.by.3) }
  alike_heavier n (Strayed m cs w) (Strayed k ds x) h = record { by = (ap (λ i. n + i) h.by.0, h.by.1, h.by.2) }
  alike_heavier n (Gave m cs a w) (Halted k ds r x) h = absurd h.by
  alike_heavier n (Gave m cs a w) (Strayed k ds x) h = absurd h.by
  alike_heavier n (Halted m cs s w) (Gave k ds b x) h = absurd h.by
  alike_heavier n (Halted m cs s w) (Strayed k ds x) h = absurd h.by
  alike_heavier n (Strayed m cs w) (Gave k ds b x) h = absurd h.by
  alike_heavier n (Strayed m cs w) (Halted k ds r x) h = absurd h.by

  alike_later : (cs : List Call) (e : Ended A) (f : Ended B) → EndsAlike R e f → EndsAlike R (later cs e) (later cs f)
  alike_later cs (Gave m ds a w) (Gave k es b x) h = record { by = (h.by.0, ap (λ l. cs ++ l) h.by.1, h.by.2, h.by.3) }
  alike_later cs (Halted m ds s w) (Halted k es r x) h = record { by = (h.by.0, ap (λ l. cs ++ l) h.by.1, h.by.2, h.by.3) }
  alike_later cs (Strayed m ds w) (Strayed k es x) h = record { by = (h.by.0, ap (λ l. cs ++ l) h.by.1, h.by.2) }
  alike_later cs (Gave m ds a w) (Halted k es r x) h = absurd h.by
  alike_later cs (Gave m ds a w) (Strayed k es x) h = absurd h.by
  alike_later cs (Halted m ds s w) (Gave k es b x) h = absurd h.by
  alike_later cs (Halted m ds s w) (Strayed k es x) h = absurd h.by
  alike_later cs (Strayed m ds w) (Gave k es b x) h = absurd h.by
  alike_later cs (Strayed m ds w) (Halted k es r x) h = absurd h.by

  alike_there : {X : Type 0} (w : World) (o : Option X) {f : X → Ended A} {g : X → Ended B} → ((x : X) → EndsAlike R (f x) (g x)) → EndsAlike R (or_strayed w o f) (or_strayed w o g)
  alike_there w None h = record { by = (refl, refl, refl) }
  alike_there w (Some a) h = h a

  alike_done : {X : Type 0} (r : Res X) {f : X → World → Ended A} {g : X → World → Ended B} → ((x : X) (w : World) → EndsAlike R (f x w) (g x w)) → EndsAlike R (ended r f) (ended r g)
  alike_done (Done a w) h = h a w
  alike_done (Halt s w) h = record { by = (refl, refl, refl, refl) }

  alike_typed : (b : Bool) (w : World) {e : Ended A} {f : Ended B} → EndsAlike R e f → EndsAlike R (if_typed b w e) (if_typed b w f)
  alike_typed true w h = h
  alike_typed false w h = record { by = (refl, refl, refl) }

  alike_run : (p : ImportPlaces) {q : Action A} {r : Action B} → Alike R q r → (w : World) → EndsAlike R (run p q w) (run p r w)
  alike_run p (gives a b h) w = record { by = (refl, refl, h, refl) }
  alike_run p (visits n {q = q} {r = r} c) w = alike_heavier n (run p q w) (run p r w) (alike_run p c w)
  alike_run p (reads n m a c) w = alike_there w (slice_get w.state.memories (p.memory m)) (λ bytes. alike_done (read n bytes a w) (λ x w'. alike_run p (c x) w'))
  alike_run p (writes n m a x c) w = alike_there w (slice_get w.state.memories (p.memory m)) (λ bytes. alike_done (write n (p.memory m) bytes a x w) (λ u w'. alike_run p c w'))
  alike_run p (lengths m c) w = alike_there w (slice_get w.state.memories (p.memory m)) (λ bytes. alike_run p (c (length bytes)) w)
  alike_run p (gets i c) w = alike_there w (slice_get w.state.globals (p.flags i)) (λ v. alike_there w (i32_of v) (λ n. alike_run p (c n) w))
  alike_run p (sets i x c) w = alike_there w (slice_get w.state.globals (p.flags i)) (λ v. alike_run p c (set_global (p.flags i) (I32 x) w))
  alike_run p (asks i args ts c) w =
      alike_later (call_of i args w.state w.answers) _ _ (alike_done (outside (p.function i) args w) (λ rs w'. alike_typed (is_answer p ts w.state rs w'.state) w' (alike_run p (c rs) w')))
  alike_run p stops w = record { by = (refl, refl, refl, refl) }

pub moves_are_alike : (tr : Transfer) (t u : Shape) (s : Source) (d e : Target) (p : ImportPlaces) (w : World)
    → IsSourceInRange s → AreTargetsAlike d e → AreEndsAlike HaveSameBits (run p (move tr t u s d) w) (run p (move tr t u (source_as_i64 s) e) w)
moves_are_alike tr t u s d e p w h g = (alike_run p (alike_move tr t u s d e h g) w).by
