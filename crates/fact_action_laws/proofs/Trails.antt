-- What is said of runs that only call the outside, one rule for each form of action.
use Rattle.std.proofs.Common.{◌≡◌, ℕ, ◌+◌, ◌≤◌, Bool, true, false, List, [], ◌∷◌, ◌++◌, length, Some, refl, sym, ap, ◌∙◌, subst, arith, length-append}
use Rattle.std.specs.Prelude.{slice_get}
use Rattle.fact_wasm.specs.declared.types.ValType.{ValType}
use Rattle.fact_types.specs.declared.outside.CoreDef.{CoreDef}
use Rattle.fact_types.specs.declared.outside.Trap.{Trap as TrapCode}
use Rattle.fact_machine.specs.declared.types.CoreValue.{CoreValue}
use Rattle.fact_machine.specs.declared.types.MachineState.{MachineState}
use Rattle.fact_machine.specs.declared.types.Answer.{Answer}
use Rattle.fact_machine.specs.declared.types.Answer.TheVariants.{Returns, Traps, Throws}
use Rattle.fact_machine.specs.declared.types.TraceEntry.TheVariants.{Called}
use Rattle.fact_machine.specs.World.{World, Res, Done, Halt, Stop, Trap, Throw, Lack, outside}
use Rattle.fact_machine.specs.World as machine
use Rattle.fact_types.specs.declared.import.Import.{Import}
use Rattle.fact_types.specs.declared.import.Import.TheVariants as import
use Rattle.fact_actions.specs.Actions as action
use Rattle.fact_actions.specs.Actions.{Action, Give, MemoryLength, Ask, ◌>>=◌, trap, unless}
use Rattle.fact_actions.specs.Running.{Call, Ended, Gave, Halted, Strayed, heavier, later, then_ended, or_strayed, if_typed, is_answer, with_answer, call_of, run}
use Rattle.fact_actions.specs.Regions.{Region, Position}
use Rattle.fact_action_laws.specs.Regions.{TransferSetting, regions_by, regions_after}
use Rattle.fact_action_laws.specs.Items.{crossing, crossings}
use Rattle.fact_actions.proofs.Binds.{binds_run}
use Rattle.fact_action_laws.proofs.Stopping.{AreReturned, returned_behind}
use Rattle.fact_action_laws.proofs.Judges.{regions_append}
use Rattle.fact_action_laws.proofs.Telling.{crossings_append}
use Rattle.fact_action_laws.specs.ReadTexts.{ReadsTextBy, ReadTexts}
use Rattle.fact_action_laws.proofs.ReadCalls.{reads_append}
use Rattle.fact_action_laws.proofs.Served.{IsServedBy, AreServedCalls}
use Rattle.fact_action_laws.proofs.Answered.{IsReturnHonest, AreAnswersHonest, position, position_after}

module _ (c : TransferSetting) (next : Call → Position → Position) (Kept Good Text : Type 0) where
  -- calls that stay in their ranges, move no handles, and are few; and if Kept, transcoders read whole texts where the source is Text
  pub record Trail (most : ℕ) (gs : List Region) (cs : List Call) : Type 0 where
    pub ranged : AreServedCalls c.places next (position c gs) cs
    pub moved : position_after next (position c gs) cs ≡ position c (regions_after gs cs)
    pub crosses : crossings cs ≡ []
    pub few : length cs ≤ most
    pub reads : Kept → Text → ReadTexts c.places cs

  -- where a run may stop: by a trap that answers no call only if not Good, and by what is thrown only if not Kept
  abbrev pub MayEnd : ℕ → List Region → Stop → List Call → Type 0
  MayEnd most gs Trap cs = AreServedCalls c.places next (position c gs) cs × (Kept → Text → ReadTexts c.places cs) × (AreReturned cs → Good → ⊥)
  MayEnd most gs Throw cs = AreServedCalls c.places next (position c gs) cs × (Kept → ⊥)
  MayEnd most gs Lack cs = Trail most gs cs

  abbrev pub Judged : {A : Type 0} → ℕ → List Region → (List Region → A → World → Type 0) → Ended A → Type 0
  Judged most gs P (Gave n cs a w) = AreAnswersHonest Kept c gs cs → (n ≡ 0) × Trail most gs cs × P (regions_after gs cs) a w
  Judged most gs P (Halted n cs s w) = AreAnswersHonest Kept c gs cs → MayEnd most gs s cs
  Judged most gs P (Strayed n cs w) = Unit {0}

  -- Where honest answers lead from live regions on: with so many calls at most, to live regions, something given and a world.
  pub record Walks {A : Type 0} (most : ℕ) (gs : List Region) (P : List Region → A → World → Type 0) (q : Action A) (w : World) : Type 0 where
    pub judged : Judged most gs P (run c.places q w)

module _ (c : TransferSetting) (next : Call → Position → Position) (Kept Good Text : Type 0) where
  pub honest_split : (gs : List Region) (cs ds : List Call) → AreAnswersHonest Kept c gs (cs ++ ds) → AreAnswersHonest Kept c gs cs × AreAnswersHonest Kept c (regions_after gs cs) ds
  honest_split gs [] ds h = (tt, h)
  honest_split gs (x ∷ cs) ds h = let r = honest_split (regions_by x.what x.args x.answer gs) cs ds h.1 in ((h.0, r.0), r.1)

  pub ranged_append : (x : Position) (cs ds : List Call) → AreServedCalls c.places next x cs → AreServedCalls c.places next (position_after next x cs) ds → AreServedCalls c.places next x (cs ++ ds)
  ranged_append x [] ds h k = k
  ranged_append x (q ∷ cs) ds h k = (h.0, ranged_append (next q x) cs ds h.1 k)

  pub position_append : (x : Position) (cs ds : List Call) → position_after next x (cs ++ ds) ≡ position_after next (position_after next x cs) ds
  position_append x [] ds = refl
  position_append x (q ∷ cs) ds = position_append (next q x) cs ds

  -- behind a trail
  ranged_behind : {a : ℕ} (gs : List Region) (cs ds : List Call) → Trail c next Kept Good Text a gs cs → AreServedCalls c.places next (position c (regions_after gs cs)) ds → AreServedCalls c.places next (position c gs) (cs ++ ds)
  ranged_behind gs cs ds h k = ranged_append (position c gs) cs ds h.ranged (subst (λ x. AreServedCalls c.places next x ds) (sym h.moved) k)

  trail_then : (a b most : ℕ) (gs : List Region) (cs ds : List Call) → a + b ≤ most → Trail c next Kept Good Text a gs cs → Trail c next Kept Good Text b (regions_after gs cs) ds → Trail c next Kept Good Text most gs (cs ++ ds)
  trail_then a b most gs cs ds le h k = record {
    ranged = ranged_behind gs cs ds h k.ranged;
    moved = position_append (position c gs) cs ds ∙ ap (λ x. position_after next x ds) h.moved ∙ k.moved ∙ ap (position c) (sym (regions_append gs cs ds));
    crosses = crossings_append cs ds ∙ ap (λ l. l ++ crossings ds) h.crosses ∙ k.crosses;
    few = omega (arith, length-append cs ds, h.few, k.few, le);
    reads = λ z t. reads_append c.places cs ds (h.reads z t) (k.reads z t);
  }

  end_then : (a b most : ℕ) (gs : List Region) (cs ds : List Call) (s : Stop) → a + b ≤ most → Trail c next Kept Good Text a gs cs → MayEnd c next Kept Good Text b (regions_after gs cs) s ds → MayEnd c next Kept Good Text most gs s (cs ++ ds)
  end_then a b most gs cs ds Trap le h k = (ranged_behind gs cs ds h k.0, (λ z t. reads_append c.places cs ds (h.reads z t) (k.1 z t)), (λ r. k.2 (returned_behind cs ds r)))
  end_then a b most gs cs ds Throw le h k = (ranged_behind gs cs ds h k.0, k.1)
  end_then a b most gs cs ds Lack le h k = trail_then a b most gs cs ds le h k

  no_calls : (most : ℕ) (gs : List Region) → Trail c next Kept Good Text most gs []
  no_calls most gs = record { ranged = tt; moved = refl; crosses = refl; few = omega arith; reads = λ z t. tt }

  -- an end with calls before it
  judged_later : {A : Type 0} (P : List Region → A → World → Type 0) (a b most : ℕ) (gs : List Region) (cs : List Call) (e : Ended A) → a + b ≤ most
      → (AreAnswersHonest Kept c gs cs → Trail c next Kept Good Text a gs cs × Judged c next Kept Good Text b (regions_after gs cs) P e) → Judged c next Kept Good Text most gs P (later cs e)
  judged_later P a b most gs cs (Gave n ds x w) le f = λ o.
      let r = honest_split gs cs ds o in let t = f r.0 in let h = t.1 r.1 in
      (h.0, trail_then a b most gs cs ds le t.0 h.1, subst (λ rs. P rs x w) (sym (regions_append gs cs ds)) h.2)
  judged_later P a b most gs cs (Halted n ds s w) le f = λ o. let r = honest_split gs cs ds o in let t = f r.0 in end_then a b most gs cs ds s le t.0 (t.1 r.1)
  judged_later P a b most gs cs (Strayed n ds w) le f = tt

  -- the same behind nodes of values, of which there are none
  judged_then : {A : Type 0} (P : List Region → A → World → Type 0) (a b most : ℕ) (gs : List Region) (n : ℕ) (cs : List Call) (e : Ended A) → a + b ≤ most
      → (AreAnswersHonest Kept c gs cs → (n ≡ 0) × Trail c next Kept Good Text a gs cs × Judged c next Kept Good Text b (regions_after gs cs) P e) → Judged c next Kept Good Text most gs P (heavier n (later cs e))
  judged_then P a b most gs n cs (Gave m ds x w) le f = λ o.
      let r = honest_split gs cs ds o in let t = f r.0 in let h = t.2 r.1 in
      (omega (arith, t.0, h.0), trail_then a b most gs cs ds le t.1 h.1, subst (λ rs. P rs x w) (sym (regions_append gs cs ds)) h.2)
  judged_then P a b most gs n cs (Halted m ds s w) le f = λ o. let r = honest_split gs cs ds o in let t = f r.0 in end_then a b most gs cs ds s le t.1 (t.2 r.1)
  judged_then P a b most gs n cs (Strayed m ds w) le f = tt

module _ {c : TransferSetting} {next : Call → Position → Position} {Kept Good Text : Type 0} where
  module _ {A : Type 0} {gs : List Region} {P : List Region → A → World → Type 0} where
    pub walks_give : {most : ℕ} {a : A} {w : World} → P gs a w → Walks c next Kept Good Text most gs P (Give a) w
    walks_give {most} h = record { judged = λ o. (refl, no_calls c next Kept Good Text most gs, h) }

    pub walks_more : {a b : ℕ} {Q : List Region → A → World → Type 0} {q : Action A} {w : World} → a ≤ b → ((rs : List Region) (x : A) (w' : World) → P rs x w' → Q rs x w') → Walks c next Kept Good Text a gs P q w → Walks c next Kept Good Text b gs Q q w
    walks_more {a} {b} {Q} {q} {w} le f h = record { judged = go (run c.places q w) h.judged }
      where
        longer : (cs : List Call) → Trail c next Kept Good Text a gs cs → Trail c next Kept Good Text b gs cs
        longer cs t = record { ranged = t.ranged; moved = t.moved; crosses = t.crosses; few = omega (arith, t.few, le); reads = t.reads }

        stops : (s : Stop) (cs : List Call) → MayEnd c next Kept Good Text a gs s cs → MayEnd c next Kept Good Text b gs s cs
        stops Trap cs h = h
        stops Throw cs h = h
        stops Lack cs h = longer cs h

        go : (e : Ended A) → Judged c next Kept Good Text a gs P e → Judged c next Kept Good Text b gs Q e
        go (Gave n cs x w') h = λ o. let k = h o in (k.0, longer cs k.1, f (regions_after gs cs) x w' k.2)
        go (Halted n cs s w') h = λ o. stops s cs (h o)
        go (Strayed n cs w') h = tt

    pub walks_length : {most : ℕ} {m : CoreDef} {k : ℕ → Action A} {w : World} {bytes : List ℕ} → slice_get w.state.memories (c.places.memory m) ≡ Some bytes
        → Walks c next Kept Good Text most gs P (k (length bytes)) w → Walks c next Kept Good Text most gs P (MemoryLength m k) w
    walks_length {most} {m} {k} {w} {bytes} e h = record { judged = subst (λ o. Judged c next Kept Good Text most gs P (or_strayed w o (λ bytes. run c.places (k (length bytes)) w))) (sym e) h.judged }

    -- a call, whose answer may be anything that is typed and honest
    pub walks_ask : {b most : ℕ} {i : Import} {args : List CoreValue} {ts : List ValType} {k : List CoreValue → Action A} {w : World} → 1 + b ≤ most → crossing i args ≡ []
        → ((a : Answer) → IsServedBy i c.places (position c gs) (record { what = i; args = args; before = w.state; answer = a }))
        → ((a : Answer) → Kept → Text → ReadsTextBy i c.places (record { what = i; args = args; before = w.state; answer = a }))
        → ((rs : List CoreValue) (after : MachineState) → next (record { what = i; args = args; before = w.state; answer = Returns rs after }) (position c gs) ≡ position c (regions_by i args (Returns rs after) gs))
        → ((rs : List CoreValue) (w' : World) → is_answer c.places ts w.state rs w'.state ≡ true → IsReturnHonest Kept c gs i args rs w.state w'.state
        → Walks c next Kept Good Text b (regions_by i args (Returns rs w'.state) gs) P (k rs) w')
        → Walks c next Kept Good Text most gs P (Ask i args ts k) w
    walks_ask {b} {most} {i} {args} {ts} {k} {w} le quiet ranged reads moves behind = record { judged = go w.answers }
      where
        one : (rs : List CoreValue) (after : MachineState) → Trail c next Kept Good Text 1 gs (record { what = i; args = args; before = w.state; answer = Returns rs after } ∷ [])
        one rs after = record { ranged = (ranged (Returns rs after), tt); moved = moves rs after; crosses = ap (λ l. l ++ []) quiet; few = omega arith; reads = λ z t. (reads (Returns rs after) z t, tt) }

        if_so : (t : Bool) (cs : List Call) (w' : World) (e : Ended A) → (t ≡ true → AreAnswersHonest Kept c gs cs → Trail c next Kept Good Text 1 gs cs × Judged c next Kept Good Text b (regions_after gs cs) P e) → Judged c next Kept Good Text most gs P (later cs (if_typed t w' e))
        if_so true cs w' e j = judged_later c next Kept Good Text P 1 b most gs cs e le (j refl)
        if_so false cs w' e j = tt

        returned : List CoreValue → MachineState → List Answer → World
        returned rs after l = record { state = after; answers = l; trace = w.trace ++ Called (record { func = c.places.function i; args = args; before = w.state; answer = Returns rs after }) ∷ [] }

        go : (l : List Answer) → Judged c next Kept Good Text most gs P (later (call_of i args w.state l) (with_answer c.places ts w (machine.asked (c.places.function i) args w l) (λ rs w'. run c.places (k rs) w')))
        go [] = λ o. no_calls c next Kept Good Text most gs
        go (Returns rs after ∷ l) =
            if_so (is_answer c.places ts w.state rs after) (record { what = i; args = args; before = w.state; answer = Returns rs after } ∷ []) (returned rs after l) (run c.places (k rs) (returned rs after l))
            (λ e o. (one rs after, (behind rs (returned rs after l) e o.0).judged))
        go (Traps ∷ l) = λ o. ((ranged Traps, tt), (λ z t. (reads Traps z t, tt)), (λ r g. r.0))
        go (Throws ∷ l) = λ o. ((ranged Throws, tt), o.0)

    pub walks_stop : {most : ℕ} {w : World} → (Good → ⊥) → Walks c next Kept Good Text most gs P action.Unreachable w
    walks_stop never = record { judged = λ o. (tt, (λ z t. tt), (λ r. never)) }

  module _ {A : Type 0} {gs : List Region} {P : List Region → A → World → Type 0} where
    -- a trap, which nothing good comes to
    pub walks_trap : {most : ℕ} {t : TrapCode} {w : World} → (Good → ⊥) → Walks c next Kept Good Text most gs P (trap t) w
    walks_trap {most} {t} {w} never = record { judged = go w.answers }
      where
        stops : (b : Bool) (a : Answer) (w' : World) → Judged c next Kept Good Text most gs P (later (record { what = import.Trap t; args = []; before = w.state; answer = a } ∷ []) (if_typed b w' (Halted 0 [] Trap w')))
        stops true a w' = λ o. ((tt, tt), (λ z t. (tt, tt)), (λ r. never))
        stops false a w' = tt

        returned : List CoreValue → MachineState → List Answer → World
        returned rs after l = record { state = after; answers = l; trace = w.trace ++ Called (record { func = c.places.function (import.Trap t); args = []; before = w.state; answer = Returns rs after }) ∷ [] }

        go : (l : List Answer) → Judged c next Kept Good Text most gs P (later (call_of (import.Trap t) [] w.state l) (with_answer c.places [] w (machine.asked (c.places.function (import.Trap t)) [] w l) (λ rs w'. run c.places action.Unreachable w')))
        go [] = λ o. no_calls c next Kept Good Text most gs
        go (Returns rs after ∷ l) = stops (is_answer c.places [] w.state rs after) (Returns rs after) (returned rs after l)
        go (Traps ∷ l) = λ o. ((tt, tt), (λ z t. (tt, tt)), (λ r. never))
        go (Throws ∷ l) = λ o. ((tt, tt), o.0)

    -- a test, at which nothing good stops
    pub walks_unless : {most : ℕ} {q : Action A} {w : World} (t : TrapCode) (b : Bool) → (b ≡ false → Good → ⊥) → (b ≡ true → Walks c next Kept Good Text most gs P q w) → Walks c next Kept Good Text most gs P (unless t b q) w
    walks_unless t true never h = h refl
    walks_unless t false never h = walks_trap (never refl)

  -- one action after another
  pub walks_bind : {A B : Type 0} {gs : List Region} {P : List Region → A → World → Type 0} {Q : List Region → B → World → Type 0} {a b most : ℕ} (q : Action A) (f : A → Action B) (w : World) → a + b ≤ most
      → Walks c next Kept Good Text a gs P q w → ((rs : List Region) (x : A) (w' : World) → P rs x w' → Walks c next Kept Good Text b rs Q (f x) w') → Walks c next Kept Good Text most gs Q (q >>= f) w
  walks_bind {A} {B} {gs} {P} {Q} {a} {b} {most} q f w le h g = record { judged = subst (Judged c next Kept Good Text most gs Q) (sym (binds_run c.places q f w)) (go (run c.places q w) h.judged) }
    where
      longer : (cs : List Call) → Trail c next Kept Good Text a gs cs → Trail c next Kept Good Text most gs cs
      longer cs t = record { ranged = t.ranged; moved = t.moved; crosses = t.crosses; few = omega (arith, t.few, le); reads = t.reads }

      stops : (s : Stop) (cs : List Call) → MayEnd c next Kept Good Text a gs s cs → MayEnd c next Kept Good Text most gs s cs
      stops Trap cs h = h
      stops Throw cs h = h
      stops Lack cs h = longer cs h

      go : (e : Ended A) → Judged c next Kept Good Text a gs P e → Judged c next Kept Good Text most gs Q (then_ended e (λ x w'. run c.places (f x) w'))
      go (Gave n cs x w') h = judged_then c next Kept Good Text Q a b most gs n cs (run c.places (f x) w') le (λ o. let k = h o in (k.0, k.1, (g (regions_after gs cs) x w' k.2).judged))
      go (Halted n cs s w') h = λ o. stops s cs (h o)
      go (Strayed n cs w') h = tt
