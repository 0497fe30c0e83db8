-- Runs by calls that are honest until a trap, of whose answers something holds: one rule for each form of action.
use Rattle.std.proofs.Common.{◌≡◌, ℕ, ◌+◌, ◌%◌, Bool, true, false, List, [], ◌∷◌, ◌++◌, length, Option, Some, None, refl, sym, ap, ◌∙◌, subst, append_assoc, map, cond}
use Rattle.std.specs.Prelude.{slice_get, nat_eq, nat_le, ◌&&◌, ◌||◌}
use Rattle.fact_wasm.specs.declared.types.ValType.{ValType}
use Rattle.fact_wasm.specs.declared.types.ValType.TheVariants as val
use Rattle.fact_types.specs.declared.import.Import.{Import}
use Rattle.fact_types.specs.declared.import.Import.TheVariants as import
use Rattle.fact_types.specs.declared.outside.CoreDef.{CoreDef}
use Rattle.fact_types.specs.declared.outside.MemoryOption.{MemoryOption}
use Rattle.fact_types.specs.declared.outside.Trap.{Trap as TrapCode}
use Rattle.fact_types.specs.declared.outside.UnsafeIntrinsic.TheVariants as slot
use Rattle.fact_machine.specs.Typed.{are_values, is_grown}
use Rattle.fact_machine.specs.World.{World, asked}
use Rattle.fact_machine.specs.declared.types.Answer.{Answer}
use Rattle.fact_machine.specs.declared.types.Answer.TheVariants.{Returns, Traps, Throws}
use Rattle.fact_machine.specs.declared.types.CoreValue.{CoreValue}
use Rattle.fact_machine.specs.declared.types.CoreValue.TheVariants.{I32}
use Rattle.fact_machine.specs.declared.types.MachineState.{MachineState}
use Rattle.fact_machine.specs.declared.types.TraceEntry.TheVariants.{Called}
use Rattle.fact_actions.specs.Actions.{Action, Give, Visit, MemoryLength, Ask, Unreachable, ◌>>=◌, unless}
use Rattle.fact_actions.specs.Calls.{is_import_of, is_call_of_any, results}
use Rattle.fact_actions.specs.Regions.{Region, Landing, is_request}
use Rattle.fact_actions.specs.Requests.{is_transcode}
use Rattle.fact_actions.specs.Running.{Call, Ended, Gave, Halted, Strayed, heavier, later, then_ended, or_strayed, if_typed, is_answer, is_state, with_answer, call_of, run}
use Rattle.fact_actions.specs.Sides.{LiftLowerOptions, with_memory, first_bits, address_value, type_of_addresses, check_region, get_slots, set_slots, reallocate}
use Rattle.fact_actions.proofs.Binds.{binds_run}
use Rattle.fact_actions.proofs.OwnParts.{same_self}
use Rattle.fact_actions.proofs.States.{and_left, and_right}
use Rattle.fact_action_laws.specs.HonestMoves.{IsHonestResult, AreHonestCalls}
use Rattle.fact_action_laws.specs.Regions.{TransferSetting, AreBytesOf, regions_after}
use Rattle.fact_action_laws.proofs.Stopping.{AreReturned}
use Rattle.fact_action_laws.specs.Trapped.{AreHonestUntilTrap}
use Rattle.fact_action_laws.proofs.Answered.{position}
use Rattle.fact_action_laws.proofs.Asking.{Answers, told_to, so_far_append, source_kept, honest_leaves, honest_split, until_split, no_request}
use Rattle.fact_action_laws.proofs.Fine.{HasKnownSides}
use Rattle.fact_action_laws.proofs.Trapped.{GivesReturned, gives_returned}

module _ (c : TransferSetting) (known : HasKnownSides c) where
  abbrev L : Landing
  L = (position c []).landing

  abbrev told : List Call → Answers
  told cs = told_to c known cs

  -- Something holds of the answers so far, where it holds of those behind what is given, of which something is known.
  module _ {A : Type 0} (Fact : A → Type 0) (Behind : A → Answers → Type 0) where
    abbrev pub TellsEnd : List Region → (Answers → Type 0) → Ended A → Type 0
    TellsEnd gs S (Gave n cs a w) = AreHonestCalls c gs cs → Fact a × ((more : Answers) → Behind a more → S (told cs ++ more)) × AreBytesOf c.places c.transfer.from w.state c.source
    TellsEnd gs S (Halted n cs s w) = AreHonestUntilTrap (AreHonestCalls c gs) cs → S (told cs)
    TellsEnd gs S (Strayed n cs w) = Unit {0}

    -- So it is wherever an action begins with the bytes of the source, and where nothing is answered.
    pub record Tells (S : Answers → Type 0) (q : Action A) : Type 0 where
      pub starts : S []
      pub by : (gs : List Region) (w : World) → AreBytesOf c.places c.transfer.from w.state c.source → TellsEnd gs S (run c.places q w)

  tells_heavier : {A : Type 0} (Fact : A → Type 0) (Behind : A → Answers → Type 0) (gs : List Region) (n : ℕ) (S : Answers → Type 0) (e : Ended A) → TellsEnd Fact Behind gs S e → TellsEnd Fact Behind gs S (heavier n e)
  tells_heavier F B gs n S (Gave m ds a w) h = h
  tells_heavier F B gs n S (Halted m ds s w) h = h
  tells_heavier F B gs n S (Strayed m ds w) h = tt

  tells_later : {A : Type 0} (Fact : A → Type 0) (Behind : A → Answers → Type 0) (gs : List Region) (cs : List Call) (S R : Answers → Type 0) (e : Ended A) → AreReturned cs
      → (AreHonestCalls c gs cs → ((more : Answers) → R more → S (told cs ++ more)) × TellsEnd Fact Behind (regions_after gs cs) R e) → TellsEnd Fact Behind gs S (later cs e)
  tells_later {A} Fact Behind gs cs S R e returned f = by_end e f
    where
      by_end : (e : Ended A) → (AreHonestCalls c gs cs → ((more : Answers) → R more → S (told cs ++ more)) × TellsEnd Fact Behind (regions_after gs cs) R e) → TellsEnd Fact Behind gs S (later cs e)
      by_end (Gave n ds a w) f = λ o.
          let r = honest_split c known gs cs ds o in
          let t = f r.0 in
          let h = t.1 r.1 in
          (h.0, λ more x. subst S (sym (ap (λ l. l ++ more) (so_far_append L cs ds) ∙ append_assoc (told cs) (told ds) more)) (t.0 (told ds ++ more) (h.1 more x)), h.2)
      by_end (Halted n ds s w) f = λ o.
          let r = until_split c known gs cs ds returned o in
          let t = f r.0 in
          subst S (sym (so_far_append L cs ds)) (t.0 (told ds) (t.1 r.1))
      by_end (Strayed n ds w) f = tt

  module _ {A : Type 0} {Fact : A → Type 0} {Behind : A → Answers → Type 0} where
    pub tells_give : {S : Answers → Type 0} (a : A) → Fact a → S [] → ((more : Answers) → Behind a more → S more) → Tells Fact Behind S (Give a)
    tells_give a f s h = record { starts = s; by = λ gs w bytes o. (f, h, bytes) }

    pub tells_stop : {S : Answers → Type 0} → S [] → Tells Fact Behind S Unreachable
    tells_stop s = record { starts = s; by = λ gs w bytes o. s }

    pub tells_visit : (n : ℕ) {S : Answers → Type 0} {q : Action A} → Tells Fact Behind S q → Tells Fact Behind S (Visit n q)
    tells_visit n {S} {q} h = record { starts = h.starts; by = λ gs w bytes. tells_heavier Fact Behind gs n S (run c.places q w) (h.by gs w bytes) }

    -- and what follows
    pub tells_like : {S R : Answers → Type 0} {q : Action A} → ((l : Answers) → R l → S l) → Tells Fact Behind R q → Tells Fact Behind S q
    tells_like {S} {R} {q} f h = record { starts = f [] h.starts; by = λ gs w bytes. by_end gs (run c.places q w) (h.by gs w bytes) }
      where
        by_end : (gs : List Region) (e : Ended A) → TellsEnd Fact Behind gs R e → TellsEnd Fact Behind gs S e
        by_end gs (Gave n cs a w) j = λ o. let h = j o in (h.0, λ more x. f (told cs ++ more) (h.1 more x), h.2)
        by_end gs (Halted n cs s w) j = λ o. f (told cs) (j o)
        by_end gs (Strayed n cs w) j = tt

    -- a call, behind whose honest answer it goes on
    tells_call : {S : Answers → Type 0} (R : List CoreValue → Answers → Type 0) (i : Import) (args : List CoreValue) (ts : List ValType) (k : List CoreValue → Action A) → S []
        → ((rs : List CoreValue) (before after : MachineState) (more : Answers) → R rs more → S (told (record { what = i; args = args; before = before; answer = Returns rs after } ∷ []) ++ more))
        → ((gs : List Region) (rs : List CoreValue) (before after : MachineState) → IsHonestResult c gs i args rs before after → Tells Fact Behind (R rs) (k rs)) → Tells Fact Behind S (Ask i args ts k)
    tells_call {S} R i args ts k s tells on = record { starts = s; by = λ gs w bytes. by_answers gs w bytes w.answers }
      where
        returned : World → List CoreValue → MachineState → List Answer → World
        returned w rs after l = record { state = after; answers = l; trace = w.trace ++ Called (record { func = c.places.function i; args = args; before = w.state; answer = Returns rs after }) ∷ [] }

        one : World → Answer → Call
        one w a = record { what = i; args = args; before = w.state; answer = a }

        if_so : (gs : List Region) (w : World) (t : Bool) (rs : List CoreValue) (after : MachineState) (w' : World) → AreBytesOf c.places c.transfer.from w.state c.source → w'.state ≡ after → is_answer c.places ts w.state rs after ≡ t
            → TellsEnd Fact Behind gs S (later (one w (Returns rs after) ∷ []) (if_typed t w' (run c.places (k rs) w')))
        if_so gs w true rs after w' bytes e typed =
            tells_later Fact Behind gs (one w (Returns rs after) ∷ []) S (R rs) (run c.places (k rs) w') (tt, tt) (λ o. (
              tells rs w.state after,
              (on gs rs w.state after o.0).by _ w'
                  (subst (λ s. AreBytesOf c.places c.transfer.from s c.source) (sym e) (source_kept c known w.state after (state_typed rs w.state after typed) (honest_leaves c gs i args rs w.state after o.0) bytes)),
            ))
          where
            state_typed : (rs : List CoreValue) (s s' : MachineState) → is_answer c.places ts s rs s' ≡ true → is_state c.places s' ≡ true
            state_typed rs s s' h = and_left (is_state c.places s') (is_grown s.memories s'.memories) (and_right (are_values rs ts) (is_state c.places s' && is_grown s.memories s'.memories) h)
        if_so gs w false rs after w' bytes e typed = tt

        by_answers : (gs : List Region) (w : World) → AreBytesOf c.places c.transfer.from w.state c.source → (l : List Answer)
            → TellsEnd Fact Behind gs S (later (call_of i args w.state l) (with_answer c.places ts w (asked (c.places.function i) args w l) (λ rs w'. run c.places (k rs) w')))
        by_answers gs w bytes [] = λ o. s
        by_answers gs w bytes (Returns rs after ∷ l) = if_so gs w (is_answer c.places ts w.state rs after) rs after (returned w rs after l) bytes refl refl
        by_answers gs w bytes (Traps ∷ l) = λ o. s
        by_answers gs w bytes (Throws ∷ l) = λ o. s

    -- one whose answer is none of these
    pub tells_other : {S : Answers → Type 0} (i : Import) (args : List CoreValue) (ts : List ValType) {k : List CoreValue → Action A} → ((d : CoreDef) → is_import_of d i ≡ false) → is_transcode i ≡ false
        → S [] → ((rs : List CoreValue) → Tells Fact Behind S (k rs)) → Tells Fact Behind S (Ask i args ts k)
    tells_other {S} i args ts {k} apart other s on = tells_call (λ rs. S) i args ts k s (λ rs before after more x.
        let y : Call = record { what = i; args = args; before = before; answer = Returns rs after } in
        let r : is_request L y ≡ false = no_request c known c.transfer.to.realloc y apart in
        subst (λ b. S (map results (cond b (y ∷ []) []) ++ more)) (sym (ap (λ b. b || is_transcode i) r ∙ other)) x) (λ gs rs before after h. on rs)

    -- one of a transcoder
    pub tells_transcode : {S : Answers → Type 0} (i : Import) (args : List CoreValue) (ts : List ValType) {k : List CoreValue → Action A} → ((d : CoreDef) → is_import_of d i ≡ false) → is_transcode i ≡ true
        → S [] → ((gs : List Region) (rs : List CoreValue) (before after : MachineState) → IsHonestResult c gs i args rs before after → Tells Fact Behind (λ more. S (rs ∷ more)) (k rs)) → Tells Fact Behind S (Ask i args ts k)
    tells_transcode {S} i args ts {k} apart is s on = tells_call (λ rs more. S (rs ∷ more)) i args ts k s (λ rs before after more x.
        let y : Call = record { what = i; args = args; before = before; answer = Returns rs after } in
        let r : is_request L y ≡ false = no_request c known c.transfer.to.realloc y apart in
        subst (λ b. S (map results (cond b (y ∷ []) []) ++ more)) (sym (ap (λ b. b || is_transcode i) r ∙ is)) x) on

    -- and one of realloc
    tells_realloc : {S : Answers → Type 0} (f : CoreDef) (args : List CoreValue) (ts : List ValType) {k : List CoreValue → Action A} → c.transfer.to.realloc ≡ Some f
        → S [] → ((rs : List CoreValue) → Tells Fact Behind (λ more. S (rs ∷ more)) (k rs)) → Tells Fact Behind S (Ask (import.CoreDef f) args ts k)
    tells_realloc {S} f args ts {k} is s on = tells_call (λ rs more. S (rs ∷ more)) (import.CoreDef f) args ts k s (λ rs before after more x.
        let y : Call = record { what = import.CoreDef f; args = args; before = before; answer = Returns rs after } in
        let yes : is_request L y ≡ true = ap (λ o. is_call_of_any o y) is ∙ same_self f in
        subst (λ b. S (map results (cond b (y ∷ []) []) ++ more)) (sym (ap (λ b. b || false) yes)) x) (λ gs rs before after h. on rs)

    pub tells_unless : {S : Answers → Type 0} (t : TrapCode) (b : Bool) {q : Action A} → S [] → (b ≡ true → Tells Fact Behind S q) → Tells Fact Behind S (unless t b q)
    tells_unless t true s h = h refl
    tells_unless t false s h = tells_other (import.Trap t) [] [] (λ d. refl) refl s (λ rs. tells_stop s)

    pub tells_with : {S : Answers → Type 0} (o : LiftLowerOptions) {k : MemoryOption → Action A} → S [] → ((m : MemoryOption) → o.memory ≡ Some m → Tells Fact Behind S (k m)) → Tells Fact Behind S (with_memory o k)
    tells_with {S} o {k} s h = by_memory o.memory (λ m e. h m e)
      where
        by_memory : (x : Option MemoryOption) → ((m : MemoryOption) → x ≡ Some m → Tells Fact Behind S (k m)) → Tells Fact Behind S (elim x [ None ↦ Unreachable | Some m ↦ k m ])
        by_memory None g = tells_stop s
        by_memory (Some m) g = g m refl

    tells_length : {S : Answers → Type 0} (m : CoreDef) {k : ℕ → Action A} → S [] → ((n : ℕ) → Tells Fact Behind S (k n)) → Tells Fact Behind S (MemoryLength m k)
    tells_length {S} m {k} s on = record { starts = s; by = λ gs w bytes. by_memory gs w bytes (slice_get w.state.memories (c.places.memory m)) }
      where
        by_memory : (gs : List Region) (w : World) → AreBytesOf c.places c.transfer.from w.state c.source → (o : Option (List ℕ)) → TellsEnd Fact Behind gs S (or_strayed w o (λ b. run c.places (k (length b)) w))
        by_memory gs w bytes None = tt
        by_memory gs w bytes (Some b) = (on (length b)).by gs w bytes

    pub tells_check : {S : Answers → Type 0} (o : LiftLowerOptions) (t : TrapCode) (pointer bytes align : ℕ) {q : Action A} → Tells Fact Behind S q → Tells Fact Behind S (check_region o t pointer bytes align q)
    tells_check o t pointer bytes align h =
        tells_unless _ (nat_eq (pointer % align) 0) h.starts (λ e. tells_with o h.starts (λ m is. tells_length m.def h.starts (λ length. tells_unless t (nat_le (pointer + bytes) length) h.starts (λ e2. h))))

    tells_get : {S : Answers → Type 0} (b : Bool) {k : List CoreValue → List CoreValue → Action A} → S [] → ((x y : List CoreValue) → Tells Fact Behind S (k x y)) → Tells Fact Behind S (get_slots b k)
    tells_get false s h = h [] []
    tells_get true s h =
        tells_other (import.UnsafeIntrinsic slot.ContextGetI32_0) [] (val.I32 ∷ []) (λ d. refl) refl s (λ x. tells_other (import.UnsafeIntrinsic slot.ContextGetI32_1) [] (val.I32 ∷ []) (λ d. refl) refl s (λ y. h x y))

    tells_set : {S : Answers → Type 0} (b : Bool) (x y : List CoreValue) {q : Action A} → Tells Fact Behind S q → Tells Fact Behind S (set_slots b x y q)
    tells_set false x y h = h
    tells_set true x y h =
        tells_other (import.UnsafeIntrinsic slot.ContextSetI32_0) x [] (λ d. refl) refl h.starts (λ r. tells_other (import.UnsafeIntrinsic slot.ContextSetI32_1) y [] (λ d. refl) refl h.starts (λ s. h))

    -- realloc is asked once
    pub tells_reallocate : {S : Answers → Type 0} (t : TrapCode) (old old_size align new_size : ℕ) (k : ℕ → Action A) → S []
        → ((rs : List CoreValue) → Tells Fact Behind (λ more. S (rs ∷ more)) (k (first_bits rs))) → Tells Fact Behind S (reallocate c.transfer.concurrency c.transfer.to t old old_size align new_size k)
    tells_reallocate {S} t old old_size align new_size k s on = by_realloc c.transfer.to.realloc (λ f e. e)
      where
        asks : (f : CoreDef) → c.transfer.to.realloc ≡ Some f → (x y : List CoreValue)
            → Tells Fact Behind S (Ask (import.CoreDef f) (address_value c.transfer.to old ∷ address_value c.transfer.to old_size ∷ address_value c.transfer.to align ∷ address_value c.transfer.to new_size ∷ []) (type_of_addresses c.transfer.to ∷ []) (λ rs.
            set_slots c.transfer.concurrency x y (check_region c.transfer.to t (first_bits rs) new_size align (k (first_bits rs)))))
        asks f is x y = tells_realloc f _ (type_of_addresses c.transfer.to ∷ []) is s (λ rs. tells_set c.transfer.concurrency x y (tells_check c.transfer.to t (first_bits rs) new_size align (on rs)))

        by_realloc : (r : Option CoreDef) → ((f : CoreDef) → r ≡ Some f → c.transfer.to.realloc ≡ Some f) → Tells Fact Behind S (elim r [
          | None ↦ Unreachable
          | Some f ↦
              get_slots c.transfer.concurrency (λ x y. set_slots c.transfer.concurrency (I32 0 ∷ []) (I32 0 ∷ [])
              (Ask (import.CoreDef f) (address_value c.transfer.to old ∷ address_value c.transfer.to old_size ∷ address_value c.transfer.to align ∷ address_value c.transfer.to new_size ∷ []) (type_of_addresses c.transfer.to ∷ []) (λ rs.
              set_slots c.transfer.concurrency x y (check_region c.transfer.to t (first_bits rs) new_size align (k (first_bits rs))))))
        ])
        by_realloc None is = tells_stop s
        by_realloc (Some f) is = tells_get c.transfer.concurrency s (λ x y. tells_set c.transfer.concurrency (I32 0 ∷ []) (I32 0 ∷ []) (asks f (is f refl) x y))

  -- one action after another
  pub tells_bind : {A B : Type 0} {Fact : A → Type 0} {Behind : A → Answers → Type 0} {Fact2 : B → Type 0} {Behind2 : B → Answers → Type 0} {S : Answers → Type 0} {q : Action A} {f : A → Action B}
      → Tells Fact Behind S q → ((a : A) → Fact a → Tells Fact2 Behind2 (Behind a) (f a)) → Tells Fact2 Behind2 S (q >>= f)
  tells_bind {A} {B} {Fact} {Behind} {Fact2} {Behind2} {S} {q} {f} h g = record {
    starts = h.starts;
    by = λ gs w bytes. subst (TellsEnd Fact2 Behind2 gs S) (sym (binds_run c.places q f w)) (by_end gs (run c.places q w) (gives_returned c.places q w) (h.by gs w bytes));
  }
    where
      by_end : (gs : List Region) (e : Ended A) → GivesReturned e → TellsEnd Fact Behind gs S e → TellsEnd Fact2 Behind2 gs S (then_ended e (λ a w'. run c.places (f a) w'))
      by_end gs (Gave n cs a w') returned j =
          tells_heavier Fact2 Behind2 gs n S (later cs (run c.places (f a) w'))
          (tells_later Fact2 Behind2 gs cs S (Behind a) (run c.places (f a) w') returned (λ o. let h = j o in (h.1, (g a h.0).by (regions_after gs cs) w' h.2)))
      by_end gs (Halted n cs s w') returned j = j
      by_end gs (Strayed n cs w') returned j = tt
