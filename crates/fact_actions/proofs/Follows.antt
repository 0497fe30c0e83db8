-- Traces, answers and calls of runs.
use Rattle.std.proofs.Common.{◌≡◌, ℕ, ◌+◌, Bool, true, false, List, [], ◌∷◌, ◌++◌, map, Option, Some, None, refl, sym, ap, ◌∙◌, append_assoc, append-nil}
use Rattle.std.specs.Prelude.{nat_le, length, slice_get, if◌then◌else◌, ◌%◌, ◌^◌}
use Rattle.fact_wasm.specs.declared.types.ValType.{ValType}
use Rattle.fact_machine.specs.declared.types.CoreValue.{CoreValue}
use Rattle.fact_machine.specs.declared.types.CoreValue.TheVariants.{I32}
use Rattle.fact_machine.specs.declared.types.Answer.{Answer}
use Rattle.fact_machine.specs.declared.types.Answer.TheVariants.{Returns, Traps, Throws}
use Rattle.fact_machine.specs.declared.types.TraceEntry.TheVariants.{Called, Stored, GlobalSet}
use Rattle.fact_machine.specs.declared.types.MachineState.{MachineState}
use Rattle.fact_machine.specs.declared.types.Event.{Event}
use Rattle.fact_machine.specs.World.{World, calls, Done, Halt, Trap, Throw, Lack, number_at, written, asked, set_global}
use Rattle.fact_machine.specs.Trace.{Grows}
use Rattle.fact_machine.specs.Machine.{i32_of}
use Rattle.fact_machine.proofs.Grows.{grows_by, grows_on}
use Rattle.fact_machine.proofs.Traces.{calls-append}
use Rattle.fact_types.specs.declared.import.Import.{Import}
use Rattle.fact_actions.specs.Actions as action
use Rattle.fact_actions.specs.Actions.{Action}
use Rattle.fact_actions.specs.Running.{ImportPlaces, Ended, Gave, Halted, Strayed, calls_in, world_in, heavier, later, or_strayed, ended, if_typed, is_answer, with_answer, call_of, run}
use Rattle.fact_actions.specs.Laws.{call_event, answer_in, Follows}

module _ (p : ImportPlaces) where
  -- an end at which nothing happened
  follows_none : {A : Type 0} (w : World) (e : Ended A) → calls_in e ≡ [] → world_in e ≡ w → Follows p w e
  follows_none w e c h = record {
    grows = record { more = []; is = ap (λ u. u.trace) h ∙ sym (append-nil w.trace) };
    answers = ap (λ u. u.answers) (sym h) ∙ ap (λ cs. map answer_in cs ++ (world_in e).answers) (sym c);
    log = ap (λ u. calls u.trace) h ∙ sym (append-nil (calls w.trace)) ∙ ap (λ cs. calls w.trace ++ map (call_event p) cs) (sym c);
  }

  -- with more weight
  follows_heavier : {A : Type 0} (n : ℕ) (w : World) (e : Ended A) → Follows p w e → Follows p w (heavier n e)
  follows_heavier n w (Gave m cs a w') h = record { grows = h.grows; answers = h.answers; log = h.log }
  follows_heavier n w (Halted m cs s w') h = record { grows = h.grows; answers = h.answers; log = h.log }
  follows_heavier n w (Strayed m cs w') h = record { grows = h.grows; answers = h.answers; log = h.log }

  -- from a world to the next, by an entry that is no call
  record IsNext (w u : World) : Type 0 where
    grows : Grows w.trace u.trace
    answers : w.answers ≡ u.answers
    calls_same : calls u.trace ≡ calls w.trace

  follows_next : {A : Type 0} {w u : World} (e : Ended A) → IsNext w u → Follows p u e → Follows p w e
  follows_next e n h = record {
    grows = grows_on n.grows h.grows;
    answers = n.answers ∙ h.answers;
    log = h.log ∙ ap (λ l. l ++ map (call_event p) (calls_in e)) n.calls_same;
  }

  -- behind a call
  abbrev called : Import → List CoreValue → World → Answer → List Answer → MachineState → World
  called i args w a more state = record { state = state; answers = more; trace = w.trace ++ Called (record { func = p.function i; args = args; before = w.state; answer = a }) ∷ [] }

  logged : {A : Type 0} (i : Import) (args : List CoreValue) (w : World) (a : Answer) (more : List Answer) (state : MachineState) (e : Ended A)
      → w.answers ≡ a ∷ more → Follows p (called i args w a more state) e
      → (calls (world_in e).trace ≡ calls w.trace ++ map (call_event p) (call_of i args w.state (a ∷ more) ++ calls_in e))
      × (w.answers ≡ map answer_in (call_of i args w.state (a ∷ more) ++ calls_in e) ++ (world_in e).answers)
  logged i args w a more state e at h = (
    h.log ∙ ap (λ l. l ++ map (call_event p) (calls_in e)) (calls-append w.trace (Called event ∷ [])) ∙ append_assoc (calls w.trace) (event ∷ []) (map (call_event p) (calls_in e)),
    at ∙ ap (λ l. a ∷ l) h.answers,
  )
    where
      event : Event
      event = record { func = p.function i; args = args; before = w.state; answer = a }

  follows_called : {A : Type 0} (i : Import) (args : List CoreValue) (w : World) (a : Answer) (more : List Answer) (state : MachineState) (e : Ended A)
      → w.answers ≡ a ∷ more → Follows p (called i args w a more state) e → Follows p w (later (call_of i args w.state (a ∷ more)) e)
  follows_called i args w a more state (Gave n cs x u) at h = let l = logged i args w a more state (Gave n cs x u) at h in record { grows = grows_on (grows_by w.trace _) h.grows; answers = l.1; log = l.0 }
  follows_called i args w a more state (Halted n cs s u) at h = let l = logged i args w a more state (Halted n cs s u) at h in record { grows = grows_on (grows_by w.trace _) h.grows; answers = l.1; log = l.0 }
  follows_called i args w a more state (Strayed n cs u) at h = let l = logged i args w a more state (Strayed n cs u) at h in record { grows = grows_on (grows_by w.trace _) h.grows; answers = l.1; log = l.0 }

  -- ---- what goes on from a part

  stray : {A X : Type 0} (w : World) (o : Option X) {F : X → Ended A} → ((x : X) → Follows p w (F x)) → Follows p w (or_strayed w o F)
  stray w None h = follows_none w (Strayed 0 [] w) refl refl
  stray w (Some x) h = h x

  if_so : {A : Type 0} (b : Bool) (w : World) {e : Ended A} → Follows p w e → Follows p w (if_typed b w e)
  if_so true w h = h
  if_so false w h = follows_none w (Strayed 0 [] w) refl refl

  -- a read or a write, which goes on or traps
  if_done : {A X : Type 0} (b : Bool) (x : X) (u w : World) (F : X → World → Ended A) → Follows p w (F x u) → Follows p w (ended (if b then Done x u else Halt Trap w) F)
  if_done true x u w F h = h
  if_done false x u w F h = follows_none w (Halted 0 [] Trap w) refl refl

  stored : (w : World) (state : MachineState) (m a n v : ℕ) → IsNext w (record { state = state; answers = w.answers; trace = w.trace ++ Stored m a n v ∷ [] })
  stored w state m a n v = record { grows = grows_by w.trace _; answers = refl; calls_same = calls-append w.trace (Stored m a n v ∷ []) ∙ append-nil (calls w.trace) }

  flagged : (w : World) (i : ℕ) (v : CoreValue) → IsNext w (set_global i v w)
  flagged w i v = record { grows = grows_by w.trace _; answers = refl; calls_same = calls-append w.trace (GlobalSet i v ∷ []) ∙ append-nil (calls w.trace) }

  -- the answer of a call
  asked_follows : {A : Type 0} (i : Import) (args : List CoreValue) (ts : List ValType) (w : World) (left : List Answer) {F : List CoreValue → World → Ended A}
      → w.answers ≡ left → ((rs : List CoreValue) (w' : World) → Follows p w' (F rs w'))
      → Follows p w (later (call_of i args w.state left) (with_answer p ts w (asked (p.function i) args w left) F))
  asked_follows i args ts w [] at h = follows_none w (Halted 0 [] Lack w) refl refl
  asked_follows i args ts w (Returns rs state ∷ more) at h =
      let u = called i args w (Returns rs state) more state in
      follows_called i args w (Returns rs state) more state _ at (if_so (is_answer p ts w.state rs state) u (h rs u))
  asked_follows i args ts w (Traps ∷ more) at h = let u = called i args w Traps more w.state in follows_called i args w Traps more w.state (Halted 0 [] Trap u) at (follows_none u (Halted 0 [] Trap u) refl refl)
  asked_follows i args ts w (Throws ∷ more) at h = let u = called i args w Throws more w.state in follows_called i args w Throws more w.state (Halted 0 [] Throw u) at (follows_none u (Halted 0 [] Throw u) refl refl)

pub runs_follow : {A : Type 0} (p : ImportPlaces) (q : Action A) (w : World) → Follows p w (run p q w)
runs_follow p (action.Give a) w = follows_none p w _ refl refl
runs_follow p (action.Visit n q) w = follows_heavier p n w (run p q w) (runs_follow p q w)
runs_follow p (action.Read n m a k) w =
    stray p w (slice_get w.state.memories (p.memory m)) (λ bytes. if_done p (nat_le (a + n) (length bytes)) (number_at n bytes a) w w _ (runs_follow p (k (number_at n bytes a)) w))
runs_follow p (action.Write n m a x q) w =
    stray p w (slice_get w.state.memories (p.memory m)) (λ bytes.
    let u = written n (p.memory m) bytes a x w in
    if_done p (nat_le (a + n) (length bytes)) tt u w _ (follows_next p (run p q u) (stored p w u.state (p.memory m) a n (x % 256 ^ n)) (runs_follow p q u)))
runs_follow p (action.MemoryLength m k) w = stray p w (slice_get w.state.memories (p.memory m)) (λ bytes. runs_follow p (k (length bytes)) w)
runs_follow p (action.GetFlags i k) w = stray p w (slice_get w.state.globals (p.flags i)) (λ v. stray p w (i32_of v) (λ n. runs_follow p (k n) w))
runs_follow p (action.SetFlags i x q) w =
    stray p w (slice_get w.state.globals (p.flags i)) (λ v. follows_next p _ (flagged p w (p.flags i) (I32 x)) (runs_follow p q (set_global (p.flags i) (I32 x) w)))
runs_follow p (action.Ask i args ts k) w = asked_follows p i args ts w w.answers refl (λ rs w'. runs_follow p (k rs) w')
runs_follow p action.Unreachable w = follows_none p w _ refl refl
