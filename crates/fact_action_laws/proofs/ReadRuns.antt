-- Runs by calls that are honest until a trap, whose transcoders read whole texts: one rule for each form of action.
use Rattle.std.proofs.Common.{◌≡◌, ℕ, ◌+◌, ◌%◌, Bool, true, false, List, [], ◌∷◌, ◌++◌, length, Option, Some, None, refl, sym, ap, ◌∙◌, subst}
use Rattle.std.specs.Prelude.{slice_get, slice_set, nat_eq, nat_le, ◌&&◌, if◌then◌else◌}
use Rattle.fact_wasm.specs.declared.types.ValType.{ValType}
use Rattle.fact_wasm.specs.declared.types.ValType.TheVariants as val
use Rattle.fact_types.specs.declared.import.Import.{Import}
use Rattle.fact_types.specs.declared.import.Import.TheVariants as import
use Rattle.fact_types.specs.declared.outside.CoreDef.{CoreDef}
use Rattle.fact_types.specs.declared.outside.MemoryOption.{MemoryOption}
use Rattle.fact_types.specs.declared.outside.Trap.{Trap as TrapCode}
use Rattle.fact_types.specs.declared.outside.UnsafeIntrinsic.TheVariants as slot
use Rattle.fact_machine.specs.Typed.{are_values, is_grown}
use Rattle.fact_machine.specs.World.{World, Done, Halt, Trap, asked, read, write, written, with_number, number_at}
use Rattle.fact_machine.specs.declared.types.Answer.{Answer}
use Rattle.fact_machine.specs.declared.types.Answer.TheVariants.{Returns, Traps, Throws}
use Rattle.fact_machine.specs.declared.types.CoreValue.{CoreValue}
use Rattle.fact_machine.specs.declared.types.CoreValue.TheVariants.{I32}
use Rattle.fact_machine.specs.declared.types.MachineState.{MachineState}
use Rattle.fact_machine.specs.declared.types.TraceEntry.TheVariants.{Called}
use Rattle.fact_values.specs.Numbers.{number_in}
use Rattle.fact_actions.specs.Actions.{Action, Give, Visit, Read, Write, MemoryLength, Ask, Unreachable, ◌>>=◌, unless}
use Rattle.fact_actions.specs.Adapters.{none}
use Rattle.fact_actions.specs.Regions.{Region}
use Rattle.fact_actions.specs.Running.{Call, Ended, Gave, Halted, Strayed, ended, heavier, later, then_ended, or_strayed, if_typed, is_answer, is_state, with_answer, call_of, run}
use Rattle.fact_actions.specs.Sides.{LiftLowerOptions, with_memory, first_bits, address_value, type_of_addresses, check_region, get_slots, set_slots, reallocate}
use Rattle.fact_actions.proofs.Binds.{binds_run}
use Rattle.fact_actions.proofs.States.{and_left, and_right}
use Rattle.fact_action_laws.specs.HonestMoves.{AreHonestCalls}
use Rattle.fact_action_laws.specs.Regions.{TransferSetting, AreBytesOf, regions_after}
use Rattle.fact_action_laws.proofs.Bytes.{get_set_other}
use Rattle.fact_action_laws.proofs.Stopping.{AreReturned}
use Rattle.fact_action_laws.specs.ReadTexts.{ReadsTextBy, ReadTexts}
use Rattle.fact_action_laws.specs.Trapped.{AreHonestUntilTrap}
use Rattle.fact_action_laws.proofs.Asking.{HasBytesOf, source_kept, honest_leaves, honest_split, until_split}
use Rattle.fact_action_laws.proofs.Fine.{BothAreThere, HasKnownSides, typed_is_there, there_set}
use Rattle.fact_action_laws.proofs.ReadCalls.{reads_append}
use Rattle.fact_action_laws.proofs.Trapped.{GivesReturned, gives_returned}

module _ (c : TransferSetting) (known : HasKnownSides c) where
  -- Both memories are there, and that of the source has its bytes.
  pub record IsSet (s : MachineState) : Type 0 where
    pub bytes : AreBytesOf c.places c.transfer.from s c.source
    pub there : BothAreThere c.places c.transfer.from c.transfer.to s

  abbrev pub ReadsEnd : {A : Type 0} → List Region → Ended A → Type 0
  ReadsEnd gs (Gave n cs a w) = AreHonestCalls c gs cs → ReadTexts c.places cs × IsSet w.state
  ReadsEnd gs (Halted n cs s w) = AreHonestUntilTrap (AreHonestCalls c gs) cs → ReadTexts c.places cs
  ReadsEnd gs (Strayed n cs w) = Unit {0}

  -- So it is wherever an action begins with the bytes of the source.
  pub record Reads {A : Type 0} (q : Action A) : Type 0 where
    pub by : (gs : List Region) (w : World) → IsSet w.state → ReadsEnd gs (run c.places q w)

  reads_heavier : {A : Type 0} (gs : List Region) (n : ℕ) (e : Ended A) → ReadsEnd gs e → ReadsEnd gs (heavier n e)
  reads_heavier gs n (Gave m ds a w) h = h
  reads_heavier gs n (Halted m ds s w) h = h
  reads_heavier gs n (Strayed m ds w) h = tt

  reads_later : {A : Type 0} (gs : List Region) (cs : List Call) (e : Ended A) → AreReturned cs → (AreHonestCalls c gs cs → ReadTexts c.places cs × ReadsEnd (regions_after gs cs) e) → ReadsEnd gs (later cs e)
  reads_later gs cs (Gave n ds a w) returned f = λ o.
      let r = honest_split c known gs cs ds o in
      let t = f r.0 in
      let h = t.1 r.1 in
      (reads_append c.places cs ds t.0 h.0, h.1)
  reads_later gs cs (Halted n ds s w) returned f = λ o.
      let r = until_split c known gs cs ds returned o in
      let t = f r.0 in
      reads_append c.places cs ds t.0 (t.1 r.1)
  reads_later gs cs (Strayed n ds w) returned f = tt

  -- what an answer's state is, where it is typed
  state_typed : (ts : List ValType) (rs : List CoreValue) (s s' : MachineState) → is_answer c.places ts s rs s' ≡ true → is_state c.places s' ≡ true
  state_typed ts rs s s' h = and_left (is_state c.places s') (is_grown s.memories s'.memories) (and_right (are_values rs ts) (is_state c.places s' && is_grown s.memories s'.memories) h)

  module _ {A : Type 0} where
    pub reads_give : (a : A) → Reads (Give a)
    reads_give a = record { by = λ gs w set o. (tt, set) }

    pub reads_stop : Reads {A = A} Unreachable
    reads_stop = record { by = λ gs w set o. tt }

    pub reads_visit : (n : ℕ) {q : Action A} → Reads q → Reads (Visit n q)
    reads_visit n {q} h = record { by = λ gs w set. reads_heavier gs n (run c.places q w) (h.by gs w set) }

    -- a call of no transcoder
    pub reads_call : (i : Import) (args : List CoreValue) (ts : List ValType) {k : List CoreValue → Action A} → ((before : MachineState) (answer : Answer) → ReadsTextBy i c.places (record { what = i; args = args; before = before; answer = answer }))
        → ((rs : List CoreValue) → Reads (k rs)) → Reads (Ask i args ts k)
    reads_call i args ts {k} other on = record { by = λ gs w set. by_answers gs w set w.answers }
      where
        returned : World → List CoreValue → MachineState → List Answer → World
        returned w rs after l = record { state = after; answers = l; trace = w.trace ++ Called (record { func = c.places.function i; args = args; before = w.state; answer = Returns rs after }) ∷ [] }

        one : World → Answer → Call
        one w a = record { what = i; args = args; before = w.state; answer = a }

        if_so : (gs : List Region) (w : World) (t : Bool) (rs : List CoreValue) (after : MachineState) (w' : World) → IsSet w.state → w'.state ≡ after → is_answer c.places ts w.state rs after ≡ t
            → ReadsEnd gs (later (one w (Returns rs after) ∷ []) (if_typed t w' (run c.places (k rs) w')))
        if_so gs w true rs after w' set e typed =
            reads_later gs (one w (Returns rs after) ∷ []) (run c.places (k rs) w') (tt, tt) (λ o. (
              (other w.state (Returns rs after), tt),
              (on rs).by _ w' (subst IsSet (sym e) (record {
                bytes = source_kept c known w.state after (state_typed ts rs w.state after typed) (honest_leaves c gs i args rs w.state after o.0) set.bytes;
                there = record { from = typed_is_there c.places c.transfer.from after known.from (state_typed ts rs w.state after typed); to = typed_is_there c.places c.transfer.to after known.to (state_typed ts rs w.state after typed) };
              })),
            ))
        if_so gs w false rs after w' set e typed = tt

        by_answers : (gs : List Region) (w : World) → IsSet w.state → (l : List Answer) → ReadsEnd gs (later (call_of i args w.state l) (with_answer c.places ts w (asked (c.places.function i) args w l) (λ rs w'. run c.places (k rs) w')))
        by_answers gs w set [] = λ o. tt
        by_answers gs w set (Returns rs after ∷ l) = if_so gs w (is_answer c.places ts w.state rs after) rs after (returned w rs after l) set refl refl
        by_answers gs w set (Traps ∷ l) = λ o. (other w.state Traps, tt)
        by_answers gs w set (Throws ∷ l) = λ o. (other w.state Throws, tt)

    pub reads_unless : (t : TrapCode) (b : Bool) {q : Action A} → (b ≡ true → Reads q) → Reads (unless t b q)
    reads_unless t true h = h refl
    reads_unless t false h = reads_call (import.Trap t) [] [] (λ before answer. tt) (λ rs. reads_stop)

    pub reads_with : (o : LiftLowerOptions) {k : MemoryOption → Action A} → ((m : MemoryOption) → o.memory ≡ Some m → Reads (k m)) → Reads (with_memory o k)
    reads_with o {k} h = by_memory o.memory (λ m e. h m e)
      where
        by_memory : (x : Option MemoryOption) → ((m : MemoryOption) → x ≡ Some m → Reads (k m)) → Reads (elim x [ None ↦ Unreachable | Some m ↦ k m ])
        by_memory None g = reads_stop
        by_memory (Some m) g = g m refl

    reads_length : (m : CoreDef) {k : ℕ → Action A} → ((n : ℕ) → Reads (k n)) → Reads (MemoryLength m k)
    reads_length m {k} on = record { by = λ gs w set. by_memory gs w set (slice_get w.state.memories (c.places.memory m)) }
      where
        by_memory : (gs : List Region) (w : World) → IsSet w.state → (o : Option (List ℕ)) → ReadsEnd gs (or_strayed w o (λ b. run c.places (k (length b)) w))
        by_memory gs w set None = tt
        by_memory gs w set (Some b) = (on (length b)).by gs w set

    pub reads_check : (o : LiftLowerOptions) (t : TrapCode) (pointer bytes align : ℕ) {q : Action A} → Reads q → Reads (check_region o t pointer bytes align q)
    reads_check o t pointer bytes align h = reads_unless _ (nat_eq (pointer % align) 0) (λ e. reads_with o (λ m is. reads_length m.def (λ length. reads_unless t (nat_le (pointer + bytes) length) (λ e2. h))))

    reads_get : (b : Bool) {k : List CoreValue → List CoreValue → Action A} → ((x y : List CoreValue) → Reads (k x y)) → Reads (get_slots b k)
    reads_get false h = h [] []
    reads_get true h =
        reads_call (import.UnsafeIntrinsic slot.ContextGetI32_0) [] (val.I32 ∷ []) (λ before answer. tt) (λ x. reads_call (import.UnsafeIntrinsic slot.ContextGetI32_1) [] (val.I32 ∷ []) (λ before answer. tt) (λ y. h x y))

    reads_set : (b : Bool) (x y : List CoreValue) {q : Action A} → Reads q → Reads (set_slots b x y q)
    reads_set false x y h = h
    reads_set true x y h = reads_call (import.UnsafeIntrinsic slot.ContextSetI32_0) x [] (λ before answer. tt) (λ r. reads_call (import.UnsafeIntrinsic slot.ContextSetI32_1) y [] (λ before answer. tt) (λ s. h))

    pub reads_reallocate : (t : TrapCode) (old old_size align new_size : ℕ) (k : ℕ → Action A) → ((q : ℕ) → Reads (k q)) → Reads (reallocate c.transfer.concurrency c.transfer.to t old old_size align new_size k)
    reads_reallocate t old old_size align new_size k on = by_realloc c.transfer.to.realloc
      where
        by_realloc : (r : Option CoreDef) → Reads (elim r [
          | None ↦ Unreachable
          | Some f ↦
              get_slots c.transfer.concurrency (λ x y. set_slots c.transfer.concurrency (I32 0 ∷ []) (I32 0 ∷ [])
              (Ask (import.CoreDef f) (address_value c.transfer.to old ∷ address_value c.transfer.to old_size ∷ address_value c.transfer.to align ∷ address_value c.transfer.to new_size ∷ []) (type_of_addresses c.transfer.to ∷ []) (λ rs.
              set_slots c.transfer.concurrency x y (check_region c.transfer.to t (first_bits rs) new_size align (k (first_bits rs))))))
        ])
        by_realloc None = reads_stop
        by_realloc (Some f) =
            reads_get c.transfer.concurrency (λ x y. reads_set c.transfer.concurrency (I32 0 ∷ []) (I32 0 ∷ [])
            (reads_call (import.CoreDef f) _ (type_of_addresses c.transfer.to ∷ []) (λ before answer. tt) (λ rs.
            reads_set c.transfer.concurrency x y (reads_check c.transfer.to t (first_bits rs) new_size align (on (first_bits rs))))))

    -- what is read at the source
    pub reads_read : (size : ℕ) (m : MemoryOption) (a : ℕ) (k : ℕ → Action A) → c.transfer.from.memory ≡ Some m → ((x : ℕ) → number_in c.source size a ≡ Some x → Reads (k x)) → Reads (Read size m.def a k)
    reads_read size m a k is h = record { by = λ gs w set. at gs w set (subst (HasBytesOf c.places w.state c.source) is set.bytes) }
      where
        at : (gs : List Region) (w : World) → IsSet w.state → slice_get w.state.memories (c.places.memory m.def) ≡ Some c.source → ReadsEnd gs (run c.places (Read size m.def a k) w)
        at gs w set there = subst (λ o. ReadsEnd gs (or_strayed w o (λ b. ended (read size b a w) (λ x w'. run c.places (k x) w')))) (sym there) (within (nat_le (a + size) (length c.source)) refl)
          where
            within : (b : Bool) → nat_le (a + size) (length c.source) ≡ b → ReadsEnd gs (ended (if b then Done (number_at size c.source a) w else Halt Trap w) (λ x w'. run c.places (k x) w'))
            within true e = (h (number_at size c.source a) (ap (λ b. if b then Some (number_at size c.source a) else None) e)).by gs w set
            within false e = λ o. tt

  -- one action after another
  pub reads_bind : {A B : Type 0} {q : Action A} {f : A → Action B} → Reads q → ((a : A) → Reads (f a)) → Reads (q >>= f)
  reads_bind {A} {B} {q} {f} h g = record { by = λ gs w set. subst (λ (e : Ended B). ReadsEnd gs e) (sym (binds_run c.places q f w)) (by_end gs (run c.places q w) (gives_returned c.places q w) (h.by gs w set)) }
    where
      by_end : (gs : List Region) (e : Ended A) → GivesReturned e → ReadsEnd gs e → ReadsEnd gs (then_ended e (λ a w'. run c.places (f a) w'))
      by_end gs (Gave n cs a w') returned j = reads_heavier gs n (later cs (run c.places (f a) w')) (reads_later gs cs (run c.places (f a) w') returned (λ o. let h = j o in (h.0, (g a).by (regions_after gs cs) w' h.1)))
      by_end gs (Halted n cs s w') returned j = j
      by_end gs (Strayed n cs w') returned j = tt

  -- what is written at the destination
  pub reads_write : (size : ℕ) (m : MemoryOption) (a n : ℕ) → c.transfer.to.memory ≡ Some m → Reads (Write size m.def a n none)
  reads_write size m a n is = record { by = λ gs w set. by_memory gs w set (slice_get w.state.memories (c.places.memory m.def)) }
    where
      kept : (w : World) (y : List ℕ) (x : Option MemoryOption) → ((k : MemoryOption) → x ≡ Some k → c.transfer.from.memory ≡ Some k) → HasBytesOf c.places w.state c.source x
          → HasBytesOf c.places (record { memories = slice_set w.state.memories (c.places.memory m.def) y; globals = w.state.globals }) c.source x
      kept w y None from h = h
      kept w y (Some k) from h = get_set_other w.state.memories (c.places.memory m.def) (c.places.memory k.def) y (λ e. known.two k m (from k refl) is e) ∙ h

      by_memory : (gs : List Region) (w : World) → IsSet w.state → (o : Option (List ℕ)) → ReadsEnd gs (or_strayed w o (λ b. ended (write size (c.places.memory m.def) b a n w) (λ u w'. run c.places (none) w')))
      by_memory gs w set None = tt
      by_memory gs w set (Some b) = within (nat_le (a + size) (length b))
        where
          behind : MachineState
          behind = record { memories = slice_set w.state.memories (c.places.memory m.def) (with_number size b a n); globals = w.state.globals }

          within : (t : Bool) → ReadsEnd gs (ended (if t then Done (tt {0}) (written size (c.places.memory m.def) b a n w) else Halt Trap w) (λ u w'. run c.places (none) w'))
          within true = λ o. (
            tt,
            record {
              bytes = kept w (with_number size b a n) c.transfer.from.memory (λ k e. e) set.bytes;
              there = record {
                from = there_set c.places c.transfer.from w.state behind (c.places.memory m.def) (with_number size b a n) refl set.there.from;
                to = there_set c.places c.transfer.to w.state behind (c.places.memory m.def) (with_number size b a n) refl set.there.to;
              };
            },
          )
          within false = λ o. tt
