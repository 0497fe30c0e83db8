-- Runs whose transcoder calls all stay in their ranges where transcoders answer honestly: one rule for each form of action.
use Rattle.std.proofs.Common.{◌≡◌, ℕ, ◌+◌, Bool, true, false, List, [], ◌∷◌, ◌++◌, length, Option, Some, None, refl, sym, subst}
use Rattle.std.specs.Prelude.{slice_get, slice_set, nat_le, if◌then◌else◌}
use Rattle.fact_wasm.specs.declared.types.ValType.{ValType}
use Rattle.fact_types.specs.declared.outside.CoreDef.{CoreDef}
use Rattle.fact_types.specs.declared.outside.Trap.{Trap as TrapCode}
use Rattle.fact_types.specs.declared.import.Import.{Import}
use Rattle.fact_machine.specs.declared.types.Answer.{Answer}
use Rattle.fact_machine.specs.declared.types.Answer.TheVariants.{Returns, Traps, Throws}
use Rattle.fact_machine.specs.declared.types.CoreValue.{CoreValue}
use Rattle.fact_machine.specs.declared.types.CoreValue.TheVariants.{I32}
use Rattle.fact_machine.specs.declared.types.MachineState.{MachineState}
use Rattle.fact_machine.specs.declared.types.TraceEntry.TheVariants.{Called}
use Rattle.fact_machine.specs.Machine.{i32_of}
use Rattle.fact_machine.specs.World.{World, Done, Halt, Trap, read, write, written, with_number, number_at, asked, set_global}
use Rattle.fact_actions.specs.Actions.{Action, Give, Visit, Read, Write, MemoryLength, GetFlags, SetFlags, Ask, Unreachable, ◌>>=◌, trap, unless}
use Rattle.fact_actions.specs.Confined.{HaveHonestTranscoders}
use Rattle.fact_actions.specs.Regions.{Position}
use Rattle.fact_actions.specs.Running.{ImportPlaces, Call, Ended, Gave, Halted, Strayed, heavier, later, then_ended, or_strayed, ended, if_typed, is_answer, with_answer, call_of, run}
use Rattle.fact_actions.proofs.Binds.{binds_run}
use Rattle.fact_action_laws.proofs.Answered.{position_after}
use Rattle.fact_action_laws.proofs.Served.{IsServedBy, AreServedCalls}

module _ (p : ImportPlaces) (next : Call → Position → Position) where
  abbrev Honest : List Call → Type 0
  Honest cs = HaveHonestTranscoders p cs

  abbrev InRange : Position → List Call → Type 0
  InRange x cs = AreServedCalls p next x cs

  honest_split : (cs ds : List Call) → Honest (cs ++ ds) → Honest cs × Honest ds
  honest_split [] ds h = (tt, h)
  honest_split (k ∷ cs) ds h = let r = honest_split cs ds h.1 in ((h.0, r.0), r.1)

  range_append : (x : Position) (cs ds : List Call) → InRange x cs → InRange (position_after next x cs) ds → InRange x (cs ++ ds)
  range_append x [] ds h k = k
  range_append x (c ∷ cs) ds h k = (h.0, range_append (next c x) cs ds h.1 k)

  after_append : (x : Position) (cs ds : List Call) → position_after next (position_after next x cs) ds ≡ position_after next x (cs ++ ds)
  after_append x [] ds = refl
  after_append x (c ∷ cs) ds = after_append (next c x) cs ds

  -- An end of a run from a position on. Behind an answer that is not typed nothing is said.
  abbrev pub IsRangedEnd : {A : Type 0} → Position → (Position → A → World → Type 0) → Ended A → Type 0
  IsRangedEnd x P (Gave n cs a w) = Honest cs → InRange x cs × P (position_after next x cs) a w
  IsRangedEnd x P (Halted n cs s w) = Honest cs → InRange x cs
  IsRangedEnd x P (Strayed n cs w) = Unit {0}

  -- a run stays in ranges, and where it gives something, this holds
  pub record StaysRanged {A : Type 0} (x : Position) (P : Position → A → World → Type 0) (q : Action A) (w : World) : Type 0 where
    pub by : IsRangedEnd x P (run p q w)

  pub ranged_heavier : {A : Type 0} (x : Position) (P : Position → A → World → Type 0) (n : ℕ) (d : Ended A) → IsRangedEnd x P d → IsRangedEnd x P (heavier n d)
  ranged_heavier x P n (Gave m cs a w) h = h
  ranged_heavier x P n (Halted m cs s w) h = h
  ranged_heavier x P n (Strayed m cs w) h = tt

  -- behind calls that stay in ranges
  pub ranged_later : {A : Type 0} (x : Position) (P : Position → A → World → Type 0) (cs : List Call) (d : Ended A) → (Honest cs → InRange x cs × IsRangedEnd (position_after next x cs) P d) → IsRangedEnd x P (later cs d)
  ranged_later x P cs (Gave m ds a w) f = λ o.
      let r = honest_split cs ds o in let t = f r.0 in let h = t.1 r.1 in (range_append x cs ds t.0 h.0, subst (λ y. P y a w) (after_append x cs ds) h.1)
  ranged_later x P cs (Halted m ds s w) f = λ o. let r = honest_split cs ds o in let t = f r.0 in range_append x cs ds t.0 (t.1 r.1)
  ranged_later x P cs (Strayed m ds w) f = tt

  module _ {A : Type 0} {x : Position} {P : Position → A → World → Type 0} where
    pub ranged_give : {a : A} {w : World} → P x a w → StaysRanged x P (Give a) w
    ranged_give h = record { by = λ o. (tt, h) }

    pub ranged_stop : {w : World} → StaysRanged x P Unreachable w
    ranged_stop = record { by = λ o. tt }

    pub ranged_so : {Q : Position → A → World → Type 0} {q : Action A} {w : World} → ((y : Position) (a : A) (w' : World) → P y a w' → Q y a w') → StaysRanged x P q w → StaysRanged x Q q w
    ranged_so {Q} {q} {w} f h = record { by = by_end (run p q w) h.by }
      where
        by_end : (d : Ended A) → IsRangedEnd x P d → IsRangedEnd x Q d
        by_end (Gave n cs a w') j = λ o. let k = j o in (k.0, f (position_after next x cs) a w' k.1)
        by_end (Halted n cs s w') j = j
        by_end (Strayed n cs w') j = tt

    pub ranged_visit : {n : ℕ} {q : Action A} {w : World} → StaysRanged x P q w → StaysRanged x P (Visit n q) w
    ranged_visit {n} {q} {w} h = record { by = ranged_heavier x P n (run p q w) h.by }

    -- what is read may be anything
    pub ranged_read : {n a : ℕ} {m : CoreDef} {k : ℕ → Action A} {w : World} → ((v : ℕ) → StaysRanged x P (k v) w) → StaysRanged x P (Read n m a k) w
    ranged_read {n} {a} {m} {k} {w} on = record { by = by_memory (slice_get w.state.memories (p.memory m)) }
      where
        within : (b : Bool) (bytes : List ℕ) → IsRangedEnd x P (ended (if b then Done (number_at n bytes a) w else Halt Trap w) (λ v w'. run p (k v) w'))
        within true bytes = (on (number_at n bytes a)).by
        within false bytes = λ o. tt

        by_memory : (o : Option (List ℕ)) → IsRangedEnd x P (or_strayed w o (λ bytes. ended (read n bytes a w) (λ v w'. run p (k v) w')))
        by_memory None = tt
        by_memory (Some bytes) = within (nat_le (a + n) (length bytes)) bytes

    pub ranged_length : {m : CoreDef} {k : ℕ → Action A} {w : World} → ((bytes : List ℕ) → slice_get w.state.memories (p.memory m) ≡ Some bytes → StaysRanged x P (k (length bytes)) w) → StaysRanged x P (MemoryLength m k) w
    ranged_length {m} {k} {w} on = record { by = by_memory (slice_get w.state.memories (p.memory m)) refl }
      where
        by_memory : (o : Option (List ℕ)) → slice_get w.state.memories (p.memory m) ≡ o → IsRangedEnd x P (or_strayed w o (λ bytes. run p (k (length bytes)) w))
        by_memory None e = tt
        by_memory (Some bytes) e = (on bytes e).by

    pub ranged_get_flags : {i : ℕ} {k : ℕ → Action A} {w : World} → ((v : ℕ) → StaysRanged x P (k v) w) → StaysRanged x P (GetFlags i k) w
    ranged_get_flags {i} {k} {w} on = record { by = by_global (slice_get w.state.globals (p.flags i)) }
      where
        by_number : (o : Option ℕ) → IsRangedEnd x P (or_strayed w o (λ n. run p (k n) w))
        by_number None = tt
        by_number (Some n) = (on n).by

        by_global : (o : Option CoreValue) → IsRangedEnd x P (or_strayed w o (λ v. or_strayed w (i32_of v) (λ n. run p (k n) w)))
        by_global None = tt
        by_global (Some v) = by_number (i32_of v)

    -- memories stay as they are
    pub ranged_set_flags : {i v : ℕ} {q : Action A} {w : World} → ((w' : World) → w'.state.memories ≡ w.state.memories → StaysRanged x P q w') → StaysRanged x P (SetFlags i v q) w
    ranged_set_flags {i} {v} {q} {w} on = record { by = by_global (slice_get w.state.globals (p.flags i)) }
      where
        by_global : (o : Option CoreValue) → IsRangedEnd x P (or_strayed w o (λ old. run p q (set_global (p.flags i) (I32 v) w)))
        by_global None = tt
        by_global (Some old) = (on (set_global (p.flags i) (I32 v) w) refl).by

    -- one memory changes, and none comes or goes
    pub ranged_write : {n a v : ℕ} {m : CoreDef} {q : Action A} {w : World}
        → ((bytes : List ℕ) (w' : World) → w'.state.memories ≡ slice_set w.state.memories (p.memory m) bytes → StaysRanged x P q w') → StaysRanged x P (Write n m a v q) w
    ranged_write {n} {a} {v} {m} {q} {w} on = record { by = by_memory (slice_get w.state.memories (p.memory m)) }
      where
        within : (b : Bool) (bytes : List ℕ) → IsRangedEnd x P (ended (if b then Done (tt {0}) (written n (p.memory m) bytes a v w) else Halt Trap w) (λ u w'. run p q w'))
        within true bytes = (on (with_number n bytes a v) (written n (p.memory m) bytes a v w) refl).by
        within false bytes = λ o. tt

        by_memory : (o : Option (List ℕ)) → IsRangedEnd x P (or_strayed w o (λ bytes. ended (write n (p.memory m) bytes a v w) (λ u w'. run p q w')))
        by_memory None = tt
        by_memory (Some bytes) = within (nat_le (a + n) (length bytes)) bytes

    -- a call of anything, where a transcoder's is in its ranges
    pub ranged_ask : {i : Import} {args : List CoreValue} {ts : List ValType} {k : List CoreValue → Action A} {w : World}
        → ((a : Answer) → IsServedBy i p x (record { what = i; args = args; before = w.state; answer = a }))
        → ((rs : List CoreValue) (w' : World) → is_answer p ts w.state rs w'.state ≡ true → StaysRanged (next (record { what = i; args = args; before = w.state; answer = Returns rs w'.state }) x) P (k rs) w')
        → StaysRanged x P (Ask i args ts k) w
    ranged_ask {i} {args} {ts} {k} {w} ranged on = record { by = by_answers w.answers }
      where
        returned : List CoreValue → MachineState → List Answer → World
        returned rs after l = record { state = after; answers = l; trace = w.trace ++ Called (record { func = p.function i; args = args; before = w.state; answer = Returns rs after }) ∷ [] }

        if_so : (t : Bool) (c : Call) (w' : World) (d : Ended A) → InRange x (c ∷ []) → (t ≡ true → IsRangedEnd (next c x) P d) → IsRangedEnd x P (later (c ∷ []) (if_typed t w' d))
        if_so true c w' d r h = ranged_later x P (c ∷ []) d (λ o. (r, h refl))
        if_so false c w' d r h = tt

        by_answers : (l : List Answer) → IsRangedEnd x P (later (call_of i args w.state l) (with_answer p ts w (asked (p.function i) args w l) (λ rs w'. run p (k rs) w')))
        by_answers [] = λ o. tt
        by_answers (Returns rs after ∷ l) =
            if_so (is_answer p ts w.state rs after) (record { what = i; args = args; before = w.state; answer = Returns rs after }) (returned rs after l) (run p (k rs) (returned rs after l)) (ranged (Returns rs after), tt)
            (λ typed. (on rs (returned rs after l) typed).by)
        by_answers (Traps ∷ l) = λ o. (ranged Traps, tt)
        by_answers (Throws ∷ l) = λ o. (ranged Throws, tt)

  module _ {A : Type 0} {x : Position} {P : Position → A → World → Type 0} where
    pub ranged_trap : {t : TrapCode} {w : World} → StaysRanged x P (trap t) w
    ranged_trap {t} = ranged_ask (λ a. tt) (λ rs w' typed. ranged_stop)

    pub ranged_unless : {q : Action A} {w : World} (t : TrapCode) (b : Bool) → (b ≡ true → StaysRanged x P q w) → StaysRanged x P (unless t b q) w
    ranged_unless t true h = h refl
    ranged_unless t false h = ranged_trap

  -- one action after another
  pub ranged_bind : {A B : Type 0} {x : Position} {P : Position → A → World → Type 0} {Q : Position → B → World → Type 0} (q : Action A) (f : A → Action B) (w : World) → StaysRanged x P q w
      → ((y : Position) (a : A) (w' : World) → P y a w' → StaysRanged y Q (f a) w') → StaysRanged x Q (q >>= f) w
  ranged_bind {A} {B} {x} {P} {Q} q f w h g = record { by = subst (IsRangedEnd x Q) (sym (binds_run p q f w)) (by_end (run p q w) h.by) }
    where
      by_end : (d : Ended A) → IsRangedEnd x P d → IsRangedEnd x Q (then_ended d (λ a w'. run p (f a) w'))
      by_end (Gave n cs a w') h = ranged_heavier x Q n (later cs (run p (f a) w')) (ranged_later x Q cs (run p (f a) w') (λ o. let k = h o in (k.0, (g (position_after next x cs) a w' k.1).by)))
      by_end (Halted n cs s w') h = h
      by_end (Strayed n cs w') h = tt
