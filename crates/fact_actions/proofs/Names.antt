-- Runs hang on the names of imports alone.
use Rattle.std.proofs.Common.{◌≡◌, ℕ, Bool, true, false, List, [], ◌∷◌, Option, Some, None, refl, sym, ap, ◌∙◌}
use Rattle.std.specs.Prelude.{nat_le, ◌+◌, length, slice_get, if◌then◌else◌}
use Rattle.fact_wasm.specs.declared.types.ValType.{ValType}
use Rattle.fact_machine.specs.declared.types.CoreValue.{CoreValue}
use Rattle.fact_machine.specs.declared.types.CoreValue.TheVariants.{I32}
use Rattle.fact_machine.specs.declared.types.Answer.{Answer}
use Rattle.fact_machine.specs.declared.types.Answer.TheVariants.{Returns, Traps, Throws}
use Rattle.fact_machine.specs.declared.types.TraceEntry.{TraceEntry}
use Rattle.fact_machine.specs.World.{World, Done, Halt, Trap, number_at, written, asked, set_global}
use Rattle.fact_machine.specs.Machine.{i32_of}
use Rattle.fact_types.specs.declared.import.Import.{Import}
use Rattle.fact_actions.specs.Actions as action
use Rattle.fact_actions.specs.Actions.{Action}
use Rattle.fact_actions.specs.Running.{ImportPlaces, Call, Ended, Gave, Halted, Strayed, heavier, later, or_strayed, ended, if_typed, is_answer, with_answer, call_of, run}
use Rattle.fact_actions.specs.Laws.{untraced}

-- ends that are equal, their traces aside
record IsAlike {A : Type 0} (d e : Ended A) : Type 0 where
  is : untraced d ≡ untraced e

pub untraced_heavier : {A : Type 0} (n : ℕ) (e : Ended A) → untraced (heavier n e) ≡ heavier n (untraced e)
untraced_heavier n (Gave m cs a w) = refl
untraced_heavier n (Halted m cs s w) = refl
untraced_heavier n (Strayed m cs w) = refl

pub untraced_later : {A : Type 0} (cs : List Call) (e : Ended A) → untraced (later cs e) ≡ later cs (untraced e)
untraced_later cs (Gave m ds a w) = refl
untraced_later cs (Halted m ds s w) = refl
untraced_later cs (Strayed m ds w) = refl

module _ {A : Type 0} where
  weighed : (n : ℕ) (d e : Ended A) → IsAlike d e → IsAlike (heavier n d) (heavier n e)
  weighed n d e h = record { is = untraced_heavier n d ∙ ap (heavier n) h.is ∙ sym (untraced_heavier n e) }

  delayed : (cs : List Call) (d e : Ended A) → IsAlike d e → IsAlike (later cs d) (later cs e)
  delayed cs d e h = record { is = untraced_later cs d ∙ ap (later cs) h.is ∙ sym (untraced_later cs e) }

  stray : {X : Type 0} (w : World) (t : List TraceEntry) (o : Option X) {F G : X → Ended A} → ((x : X) → IsAlike (F x) (G x)) → IsAlike (or_strayed w o F) (or_strayed (record w { trace = t }) o G)
  stray w t None h = record { is = refl }
  stray w t (Some x) h = h x

  if_done : {X : Type 0} (b : Bool) (x : X) (w u u' : World) (t : List TraceEntry) (F G : X → World → Ended A) → IsAlike (F x u) (G x u')
      → IsAlike (ended (if b then Done x u else Halt Trap w) F) (ended (if b then Done x u' else Halt Trap (record w { trace = t })) G)
  if_done true x w u u' t F G h = h
  if_done false x w u u' t F G h = record { is = refl }

  if_so : (b : Bool) (w : World) (t : List TraceEntry) {d e : Ended A} → IsAlike d e → IsAlike (if_typed b w d) (if_typed b (record w { trace = t }) e)
  if_so true w t h = h
  if_so false w t h = record { is = refl }

  asked_alike : (p : ImportPlaces) (f f' : ℕ) (args : List CoreValue) (ts : List ValType) (w : World) (t : List TraceEntry) (left : List Answer) (F G : List CoreValue → World → Ended A)
      → ((rs : List CoreValue) (u : World) (t' : List TraceEntry) → IsAlike (F rs u) (G rs (record u { trace = t' })))
      → IsAlike (with_answer p ts w (asked f args w left) F) (with_answer p ts (record w { trace = t }) (asked f' args (record w { trace = t }) left) G)
  asked_alike p f f' args ts w t [] F G h = record { is = refl }
  asked_alike p f f' args ts w t (Returns rs state ∷ more) F G h = if_so (is_answer p ts w.state rs state) _ _ (h rs _ _)
  asked_alike p f f' args ts w t (Traps ∷ more) F G h = record { is = refl }
  asked_alike p f f' args ts w t (Throws ∷ more) F G h = record { is = refl }

module _ (p : ImportPlaces) (g : Import → ℕ) where
  abbrev other : ImportPlaces
  other = record p { function = g }

  runs_alike : {A : Type 0} (q : Action A) (w : World) (t : List TraceEntry) → IsAlike (run p q w) (run other q (record w { trace = t }))
  runs_alike (action.Give a) w t = record { is = refl }
  runs_alike (action.Visit n q) w t = weighed n _ _ (runs_alike q w t)
  runs_alike (action.Read n m a k) w t =
      stray w t (slice_get w.state.memories (p.memory m)) (λ bytes. if_done (nat_le (a + n) (length bytes)) (number_at n bytes a) w w (record w { trace = t }) t _ _ (runs_alike (k _) w t))
  runs_alike (action.Write n m a x q) w t =
      stray w t (slice_get w.state.memories (p.memory m)) (λ bytes.
      if_done (nat_le (a + n) (length bytes)) tt w (written n (p.memory m) bytes a x w) (written n (p.memory m) bytes a x (record w { trace = t })) t _ _ (runs_alike q (written n (p.memory m) bytes a x w) _))
  runs_alike (action.MemoryLength m k) w t = stray w t (slice_get w.state.memories (p.memory m)) (λ bytes. runs_alike (k (length bytes)) w t)
  runs_alike (action.GetFlags i k) w t = stray w t (slice_get w.state.globals (p.flags i)) (λ v. stray w t (i32_of v) (λ n. runs_alike (k n) w t))
  runs_alike (action.SetFlags i x q) w t = stray w t (slice_get w.state.globals (p.flags i)) (λ v. runs_alike q (set_global (p.flags i) (I32 x) w) _)
  runs_alike (action.Ask i args ts k) w t =
      delayed (call_of i args w.state w.answers) _ _ (asked_alike p (p.function i) (g i) args ts w t w.answers _ _ (λ rs u t'. runs_alike (k rs) u t'))
  runs_alike action.Unreachable w t = record { is = refl }

pub are_named : {A : Type 0} (p : ImportPlaces) (g : Import → ℕ) (q : Action A) (w : World) (t : List TraceEntry) → untraced (run p q w) ≡ untraced (run (record p { function = g }) q (record w { trace = t }))
are_named p g q w t = (runs_alike p g q w t).is
