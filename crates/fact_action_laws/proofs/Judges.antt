-- What is said of runs of actions whose calls are all honest, one rule for each form of action.
use Rattle.std.proofs.Common.{◌≡◌, ℕ, ◌+◌, ◌≤◌, Bool, true, false, List, [], ◌∷◌, ◌++◌, length, Option, Some, None, refl, sym, subst, add-zero}
use Rattle.std.specs.Prelude.{slice_get, nat_le, if◌then◌else◌}
use Rattle.std.proofs.lemmas.List.{append-nil}
use Rattle.fact_wasm.specs.declared.types.ValType.{ValType}
use Rattle.fact_types.specs.declared.outside.CoreDef.{CoreDef}
use Rattle.fact_types.proofs.ShapeLaws.{same_some, none_some}
use Rattle.fact_types.specs.declared.outside.Trap.{Trap as TrapCode}
use Rattle.fact_machine.specs.declared.types.CoreValue.{CoreValue}
use Rattle.fact_machine.specs.declared.types.MachineState.{MachineState}
use Rattle.fact_machine.specs.declared.types.Answer.{Answer}
use Rattle.fact_machine.specs.declared.types.Answer.TheVariants.{Returns, Traps, Throws}
use Rattle.fact_machine.specs.declared.types.TraceEntry.TheVariants.{Called}
use Rattle.fact_machine.specs.World.{World, Res, Done, Halt, Stop, Trap, Throw, Lack, read, write, written, outside, number_at}
use Rattle.fact_machine.specs.World as machine
use Rattle.fact_machine.proofs.MemoryRows.{write_within}
use Rattle.fact_types.specs.declared.import.Import.{Import}
use Rattle.fact_actions.specs.Actions.{Action, Give, Visit, Read, Write, MemoryLength, Ask, ◌>>=◌, trap, unless}
use Rattle.fact_actions.specs.Running.{Call, Ended, Gave, Halted, Strayed, heavier, later, then_ended, or_strayed, ended, if_typed, is_answer, with_answer, call_of, run}
use Rattle.fact_values.specs.Numbers.{number_in}
use Rattle.fact_actions.specs.Regions.{Region}
use Rattle.fact_action_laws.specs.Regions.{TransferSetting, regions_by, regions_after}
use Rattle.fact_action_laws.specs.HonestMoves.{IsHonestResult, AreHonestCalls}
use Rattle.fact_actions.proofs.Binds.{binds_run}
use Rattle.fact_action_laws.specs.Judged.{Judged, Judges, RunsHonestly}

-- ---- calls one after another

pub honest_split : (c : TransferSetting) (gs : List Region) (cs ds : List Call) → AreHonestCalls c gs (cs ++ ds) → AreHonestCalls c gs cs × AreHonestCalls c (regions_after gs cs) ds
honest_split c gs [] ds h = (tt, h)
honest_split c gs (x ∷ cs) ds h = let r = honest_split c (regions_by x.what x.args x.answer gs) cs ds h.1 in ((h.0, r.0), r.1)

pub regions_append : (gs : List Region) (cs ds : List Call) → regions_after gs (cs ++ ds) ≡ regions_after (regions_after gs cs) ds
regions_append gs [] ds = refl
regions_append gs (x ∷ cs) ds = regions_append (regions_by x.what x.args x.answer gs) cs ds

-- ---- ends

module _ {c : TransferSetting} where
  module _ {A : Type 0} {gs : List Region} where
    pub judges_more : {H H' : Stop → List Call → Type 0} {P P' : ℕ → List Call → A → World → Type 0} {e : Ended A}
        → ((s : Stop) (cs : List Call) → AreHonestCalls c gs cs → H s cs → H' s cs) → ((n : ℕ) (cs : List Call) (a : A) (w : World) → AreHonestCalls c gs cs → P n cs a w → P' n cs a w)
        → Judges c gs H P e → Judges c gs H' P' e
    judges_more {H} {H'} {P} {P'} {e} f g j = record { by = go e j.by }
      where
        go : (e : Ended A) → Judged c gs H P e → Judged c gs H' P' e
        go (Gave n cs a w) h = λ o. g n cs a w o (h o)
        go (Halted n cs s w) h = λ o. f s cs o (h o)
        go (Strayed n cs w) h = tt

    pub judges_heavier : {H : Stop → List Call → Type 0} {P : ℕ → List Call → A → World → Type 0} (n : ℕ) (e : Ended A)
        → Judges c gs H (λ m cs a w. P (n + m) cs a w) e → Judges c gs H P (heavier n e)
    judges_heavier {H} {P} n e j = record { by = go e j.by }
      where
        go : (e : Ended A) → Judged c gs H (λ m cs a w. P (n + m) cs a w) e → Judged c gs H P (heavier n e)
        go (Gave m cs a w) h = h
        go (Halted m cs s w) h = h
        go (Strayed m cs w) h = tt

    pub judges_later : {H : Stop → List Call → Type 0} {P : ℕ → List Call → A → World → Type 0} (cs : List Call) (e : Ended A)
        → (AreHonestCalls c gs cs → Judges c (regions_after gs cs) (λ s ds. H s (cs ++ ds)) (λ n ds a w. P n (cs ++ ds) a w) e) → Judges c gs H P (later cs e)
    judges_later {H} {P} cs e j = record { by = go e (λ o. (j o).by) }
      where
        go : (e : Ended A) → (AreHonestCalls c gs cs → Judged c (regions_after gs cs) (λ s ds. H s (cs ++ ds)) (λ n ds a w. P n (cs ++ ds) a w) e) → Judged c gs H P (later cs e)
        go (Gave m ds a w) h = λ o. let r = honest_split c gs cs ds o in h r.0 r.1
        go (Halted m ds s w) h = λ o. let r = honest_split c gs cs ds o in h r.0 r.1
        go (Strayed m ds w) h = tt

  -- one end after another
  pub judges_then : {A B : Type 0} {gs : List Region} {H H' : Stop → List Call → Type 0} {P : ℕ → List Call → A → World → Type 0} {Q : ℕ → List Call → B → World → Type 0} (e : Ended A) (f : A → World → Ended B)
      → Judges c gs H P e → ((s : Stop) (cs : List Call) → H s cs → H' s cs)
      → ((n : ℕ) (cs : List Call) (a : A) (w : World) → AreHonestCalls c gs cs → P n cs a w → Judges c (regions_after gs cs) (λ s ds. H' s (cs ++ ds)) (λ m ds b w'. Q (n + m) (cs ++ ds) b w') (f a w))
      → Judges c gs H' Q (then_ended e f)
  judges_then {A} {B} {gs} {H} {H'} {P} {Q} e f j h g = go e j.by
    where
      go : (e : Ended A) → Judged c gs H P e → Judges c gs H' Q (then_ended e f)
      go (Gave n cs a w) k = judges_heavier n (later cs (f a w)) (judges_later cs (f a w) (λ o. g n cs a w o (k o)))
      go (Halted n cs s w) k = record { by = λ o. h s cs (k o) }
      go (Strayed n cs w) k = record { by = tt }

  -- ---- actions

  module _ {A : Type 0} {gs : List Region} {H : Stop → List Call → Type 0} {P : ℕ → List Call → A → World → Type 0} where
    pub does_more : {H' : Stop → List Call → Type 0} {P' : ℕ → List Call → A → World → Type 0} {q : Action A} {w : World}
        → ((s : Stop) (cs : List Call) → AreHonestCalls c gs cs → H s cs → H' s cs) → ((n : ℕ) (cs : List Call) (a : A) (w : World) → AreHonestCalls c gs cs → P n cs a w → P' n cs a w)
        → RunsHonestly c gs H P q w → RunsHonestly c gs H' P' q w
    does_more f g d = record { judged = judges_more f g d.judged }

    pub does_give : {a : A} {w : World} → P 0 [] a w → RunsHonestly c gs H P (Give a) w
    does_give h = record { judged = record { by = λ o. h } }

    pub does_visit : {n : ℕ} {q : Action A} {w : World} → RunsHonestly c gs H (λ m cs a w'. P (n + m) cs a w') q w → RunsHonestly c gs H P (Visit n q) w
    does_visit {n} {q} {w} d = record { judged = judges_heavier n (run c.places q w) d.judged }

    stray : {X : Type 0} {x : X} (o : Option X) (w : World) (f : X → Ended A) → o ≡ Some x → Judges c gs H P (f x) → Judges c gs H P (or_strayed w o f)
    stray o w f e j = subst (λ o. Judges c gs H P (or_strayed w o f)) (sym e) j

    pub does_read : {n a x : ℕ} {m : CoreDef} {k : ℕ → Action A} {w : World} {bytes : List ℕ} → slice_get w.state.memories (c.places.memory m) ≡ Some bytes → number_in bytes n a ≡ Some x
        → RunsHonestly c gs H P (k x) w → RunsHonestly c gs H P (Read n m a k) w
    does_read {n} {a} {x} {m} {k} {w} {bytes} e i d =
        record { judged = stray (slice_get w.state.memories (c.places.memory m)) w (λ bytes. ended (read n bytes a w) (λ x w'. run c.places (k x) w')) e (go (nat_le (a + n) (length bytes)) i) }
      where
        go : (b : Bool) → (if b then Some (number_at n bytes a) else None) ≡ Some x → Judges c gs H P (ended (if b then Done (number_at n bytes a) w else Halt Trap w) (λ x w'. run c.places (k x) w'))
        go true e = subst (λ x. Judges c gs H P (run c.places (k x) w)) (same_some (Some x) x (number_at n bytes a) refl (sym e)) d.judged
        go false e = absurd (none_some None x refl e)

    pub does_write : {n a x : ℕ} {m : CoreDef} {q : Action A} {w : World} {bytes : List ℕ} → slice_get w.state.memories (c.places.memory m) ≡ Some bytes → a + n ≤ length bytes
        → RunsHonestly c gs H P q (written n (c.places.memory m) bytes a x w) → RunsHonestly c gs H P (Write n m a x q) w
    does_write {n} {a} {x} {m} {q} {w} {bytes} e le d =
        record {
          judged = stray (slice_get w.state.memories (c.places.memory m)) w (λ bytes. ended (write n (c.places.memory m) bytes a x w) (λ u w'. run c.places q w')) e
              (subst (λ r. Judges c gs H P (ended r (λ u w'. run c.places q w'))) (sym (write_within n (c.places.memory m) a x bytes w le)) d.judged);
        }

    pub does_length : {m : CoreDef} {k : ℕ → Action A} {w : World} {bytes : List ℕ} → slice_get w.state.memories (c.places.memory m) ≡ Some bytes
        → RunsHonestly c gs H P (k (length bytes)) w → RunsHonestly c gs H P (MemoryLength m k) w
    does_length {m} {k} {w} e d = record { judged = stray (slice_get w.state.memories (c.places.memory m)) w (λ bytes. run c.places (k (length bytes)) w) e d.judged }

    -- a call: where no answer is left, and where an honest one comes
    pub does_ask : {i : Import} {args : List CoreValue} {ts : List ValType} {k : List CoreValue → Action A} {w : World} → H Lack []
        → ((rs : List CoreValue) (w' : World) → is_answer c.places ts w.state rs w'.state ≡ true → IsHonestResult c gs i args rs w.state w'.state
        → RunsHonestly c (regions_by i args (Returns rs w'.state) gs) (λ s ds. H s (record { what = i; args = args; before = w.state; answer = Returns rs w'.state } ∷ ds))
        (λ n ds a w''. P n (record { what = i; args = args; before = w.state; answer = Returns rs w'.state } ∷ ds) a w'') (k rs) w')
        → RunsHonestly c gs H P (Ask i args ts k) w
    does_ask {i} {args} {ts} {k} {w} lack next = record { judged = go w.answers }
      where
        if_so : (b : Bool) (cs : List Call) (w' : World) (e : Ended A) → (b ≡ true → AreHonestCalls c gs cs → Judges c (regions_after gs cs) (λ s ds. H s (cs ++ ds)) (λ n ds a w''. P n (cs ++ ds) a w'') e) → Judges c gs H P (later cs (if_typed b w' e))
        if_so true cs w' e j = judges_later cs e (j refl)
        if_so false cs w' e j = record { by = tt }

        returned : List CoreValue → MachineState → List Answer → World
        returned rs after l = record { state = after; answers = l; trace = w.trace ++ Called (record { func = c.places.function i; args = args; before = w.state; answer = Returns rs after }) ∷ [] }

        go : (l : List Answer) → Judges c gs H P (later (call_of i args w.state l) (with_answer c.places ts w (machine.asked (c.places.function i) args w l) (λ rs w'. run c.places (k rs) w')))
        go [] = record { by = λ o. lack }
        go (Returns rs after ∷ l) =
            if_so (is_answer c.places ts w.state rs after) (record { what = i; args = args; before = w.state; answer = Returns rs after } ∷ []) (returned rs after l) (run c.places (k rs) (returned rs after l))
            (λ e o. (next rs (returned rs after l) e o.0).judged)
        go (Traps ∷ l) = record { by = λ o. absurd o.0 }
        go (Throws ∷ l) = record { by = λ o. absurd o.0 }

    -- a trap where none may be
    pub does_trap : {t : TrapCode} {w : World} → H Lack [] → ((cs : List Call) → H Trap cs) → RunsHonestly c gs H P (trap t) w
    does_trap lack never = does_ask lack (λ rs w' e o. record { judged = record { by = λ o. never _ } })

    -- a test that holds, or at which nothing may stop
    pub does_unless : {q : Action A} {w : World} (t : TrapCode) (b : Bool) → H Lack [] → (b ≡ false → (cs : List Call) → H Trap cs) → (b ≡ true → RunsHonestly c gs H P q w) → RunsHonestly c gs H P (unless t b q) w
    does_unless t true lack never d = d refl
    does_unless t false lack never d = does_trap lack (never refl)

  -- one action after another
  pub does_bind : {A B : Type 0} {gs : List Region} {H H' : Stop → List Call → Type 0} {P : ℕ → List Call → A → World → Type 0} {Q : ℕ → List Call → B → World → Type 0} (q : Action A) (f : A → Action B) (w : World)
      → RunsHonestly c gs H P q w → ((s : Stop) (cs : List Call) → H s cs → H' s cs)
      → ((n : ℕ) (cs : List Call) (a : A) (w' : World) → AreHonestCalls c gs cs → P n cs a w' → RunsHonestly c (regions_after gs cs) (λ s ds. H' s (cs ++ ds)) (λ m ds b w''. Q (n + m) (cs ++ ds) b w'') (f a) w')
      → RunsHonestly c gs H' Q (q >>= f) w
  does_bind {A} {B} {gs} {H} {H'} {P} {Q} q f w d h g =
      record { judged = subst (λ e. Judges c gs H' Q e) (sym (binds_run c.places q f w)) (judges_then (run c.places q w) (λ a w'. run c.places (f a) w') d.judged h (λ n cs a w' o k. (g n cs a w' o k).judged)) }

  -- an action, and something made of what it gives
  pub does_map : {A B : Type 0} {gs : List Region} {H : Stop → List Call → Type 0} {P : ℕ → List Call → B → World → Type 0} (q : Action A) (f : A → B) (w : World)
      → RunsHonestly c gs H (λ n cs a w'. P n cs (f a) w') q w → RunsHonestly c gs H P (q >>= (λ a. Give (f a))) w
  does_map {A} {B} {gs} {H} {P} q f w d =
      does_bind q (λ a. Give (f a)) w d (λ s cs h. h) (λ n cs a w' o h. does_give (subst (λ k. P k (cs ++ []) (f a) w') (sym (add-zero n)) (subst (λ l. P n l (f a) w') (sym (append-nil cs)) h)))
