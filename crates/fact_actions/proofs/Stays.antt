-- A run from a typed state whose answers are typed does not go astray, and its state stays typed.
use Rattle.std.proofs.Common.{◌≡◌, ℕ, ◌+◌, ◌<◌, ◌^◌, Bool, true, false, List, [], ◌∷◌, ◌++◌, Option, Some, None, refl, sym, ap, ◌∙◌, subst, inl, inr, arith, length}
use Rattle.std.proofs.lemmas.Bool.{leb-true}
use Rattle.std.specs.Prelude.{◌&&◌, slice_get, nat_le, is_some, not, nat_eq, if◌then◌else◌}
use Rattle.fact_wasm.specs.declared.types.ValType.{ValType}
use Rattle.fact_wasm.specs.declared.types.ValType.TheVariants as val
use Rattle.fact_types.specs.declared.outside.CoreDef.{CoreDef}
use Rattle.fact_types.specs.declared.outside.Trap.{Trap as Reason}
use Rattle.fact_types.specs.declared.outside.Trap.TheVariants.{CannotLeaveComponent, CannotEnterComponent, UncaughtException}
use Rattle.fact_machine.specs.declared.types.CoreValue.{CoreValue}
use Rattle.fact_machine.specs.declared.types.CoreValue.TheVariants.{I32}
use Rattle.fact_machine.specs.declared.types.MachineState.{MachineState}
use Rattle.fact_machine.specs.declared.types.Answer.{Answer}
use Rattle.fact_machine.specs.declared.types.Answer.TheVariants.{Returns, Traps, Throws}
use Rattle.fact_machine.specs.declared.types.TraceEntry.TheVariants.{Called}
use Rattle.fact_machine.specs.World.{World, Done, Halt, Trap, Throw, Lack, number_at, written, asked, set_global}
use Rattle.fact_types.specs.declared.import.Import.{Import}
use Rattle.fact_types.specs.declared.import.Import.TheVariants as import
use Rattle.fact_types.specs.declared.outside.MemoryOption.{MemoryOption}
use Rattle.fact_types.specs.Adapters.{LinkedAdapter}
use Rattle.fact_actions.specs.Actions.{Action, Give, Write, SetFlags, Ask, Unreachable, ◌>>=◌, trap}
use Rattle.fact_machine.specs.Typed.{is_memory, are_values, is_grown, are_memories, are_globals}
use Rattle.fact_machine.specs.Machine.{i32_of}
use Rattle.fact_actions.specs.Running.{ImportPlaces, Call, Ended, Gave, Halted, Strayed, calls_in, world_in, heavier, later, then_ended, or_strayed, ended, if_typed, is_state, is_answer, with_answer, call_of, run}
use Rattle.fact_actions.specs.Sides.{LiftLowerOptions, options_of, Transfer, address_value, type_of_addresses, first_bits, check_region, reallocate, get_slots, set_slots}
use Rattle.fact_actions.specs.Adapters.{async_start, async_return, same_instance, async_call, References, def_of_memory, prepare_args, start_args, lower_signature_of, AdapterTunables, Slotted, none, when_due, get_flags, cleared, make_call, enters, finish_call, last_bits, params_transfer, results_transfer, lift_signature_of, sync}
use Rattle.fact_actions.specs.Plain.{guarded_if}
use Rattle.fact_actions.specs.Honest.{IsStraight}
use Rattle.fact_actions.specs.AdapterLaws.{EachSync, EachStart, EachReturn, StaysTyped, TypedSameInstanceStays, TypedAsyncCallsStay}
use Rattle.fact_actions.specs.TypedAnswers.{result_types, HaveCoreTypes, HasPlaces, HasTypedAnswer, HaveTypedAnswers}
use Rattle.fact_actions.proofs.Binds.{binds_run}
use Rattle.fact_actions.proofs.Kept.{IsPlain, IsKept, IsSideMemory, unless_kept, region_kept}
use Rattle.fact_actions.proofs.Passed.{params_kept, results_kept}
use Rattle.fact_actions.proofs.States.{and_left, and_right, both, false_true, zip_there, zip_set, written_memory, flags_there, set_flags}

module _ (p : ImportPlaces) (types : Import → List ValType) where
  answers_split : (cs ds : List Call) → HaveTypedAnswers p types (cs ++ ds) → HaveTypedAnswers p types cs × HaveTypedAnswers p types ds
  answers_split [] ds t = (tt, t)
  answers_split (c ∷ cs) ds t = let s = answers_split cs ds t.1 in ((t.0, s.0), s.1)

  -- an end that is not astray, in a typed state, where its answers are typed
  record Fine {A : Type 0} (e : Ended A) : Type 0 where
    pub fine : HaveTypedAnswers p types (calls_in e) → IsStraight e × (is_state p (world_in e).state ≡ true)

  fine_heavier : {A : Type 0} (n : ℕ) (e : Ended A) → Fine e → Fine (heavier n e)
  fine_heavier n (Gave m cs a w) h = record { fine = h.fine }
  fine_heavier n (Halted m cs s w) h = record { fine = h.fine }
  fine_heavier n (Strayed m cs w) h = record { fine = h.fine }

  fine_behind : {A : Type 0} (n : ℕ) (cs : List Call) (e : Ended A) → (HaveTypedAnswers p types cs → Fine e) → Fine (heavier n (later cs e))
  fine_behind n cs (Gave m ds a w) h = record { fine = λ t. let s = answers_split cs ds t in (h s.0).fine s.1 }
  fine_behind n cs (Halted m ds s w) h = record { fine = λ t. let s' = answers_split cs ds t in (h s'.0).fine s'.1 }
  fine_behind n cs (Strayed m ds w) h = record { fine = λ t. let s = answers_split cs ds t in (h s.0).fine s.1 }

  fine_called : {A : Type 0} (c : Call) (e : Ended A) → (HasTypedAnswer p types c → Fine e) → Fine (later (c ∷ []) e)
  fine_called c (Gave m ds a w) h = record { fine = λ t. (h t.0).fine t.1 }
  fine_called c (Halted m ds s w) h = record { fine = λ t. (h t.0).fine t.1 }
  fine_called c (Strayed m ds w) h = record { fine = λ t. (h t.0).fine t.1 }

  fine_then : {A B : Type 0} (e : Ended A) (f : A → World → Ended B) → Fine e → ((a : A) (w : World) → is_state p w.state ≡ true → Fine (f a w)) → Fine (then_ended e f)
  fine_then (Gave n cs a w) f h g = fine_behind n cs (f a w) (λ t. g a w (h.fine t).1)
  fine_then (Halted n cs s w) f h g = record { fine = h.fine }
  fine_then (Strayed n cs w) f h g = record { fine = λ t. absurd (h.fine t).0 }

  fine_there : {A X : Type 0} (w : World) (o : Option X) (F : X → Ended A) → (o ≡ None → ⊥) → ((x : X) → o ≡ Some x → Fine (F x)) → Fine (or_strayed w o F)
  fine_there w None F n h = absurd (n refl)
  fine_there w (Some x) F n h = h x refl

  fine_typed : {A : Type 0} (b : Bool) (w : World) (e : Ended A) → b ≡ true → Fine e → Fine (if_typed b w e)
  fine_typed true w e t h = h
  fine_typed false w e t h = false_true t

  fine_done : {A X : Type 0} (b : Bool) (x : X) (u w : World) (F : X → World → Ended A) → is_state p w.state ≡ true → (b ≡ true → Fine (F x u)) → Fine (ended (if b then Done x u else Halt Trap w) F)
  fine_done true x u w F s h = h refl
  fine_done false x u w F s h = record { fine = λ t. (tt, s) }

  -- every run of an action from a typed state ends so
  pub record Stays (c : ℕ) (A : Type 0) (q : Action A) : Type 0 where
    at : (w : World) → is_state p w.state ≡ true → Fine (run p q w)

  -- ---- calls

  answer_fine : (A : Type 0) (i : Import) (args : List CoreValue) (ts : List ValType) (k : List CoreValue → Action A) (w : World) (left : List Answer)
      → ts ≡ types i → is_state p w.state ≡ true → ((rs : List CoreValue) (u : World) → is_state p u.state ≡ true → Fine (run p (k rs) u))
      → Fine (later (call_of i args w.state left) (with_answer p ts w (asked (p.function i) args w left) (λ rs u. run p (k rs) u)))
  answer_fine A i args ts k w [] e s h = record { fine = λ t. (tt, s) }
  answer_fine A i args ts k w (Traps ∷ more) e s h = record { fine = λ t. (tt, s) }
  answer_fine A i args ts k w (Throws ∷ more) e s h = record { fine = λ t. (tt, s) }
  answer_fine A i args ts k w (Returns rs state ∷ more) e s h =
      let u : World = record { state = state; answers = more; trace = w.trace ++ Called (record { func = p.function i; args = args; before = w.state; answer = Returns rs state }) ∷ [] } in
      fine_called (record { what = i; args = args; before = w.state; answer = Returns rs state }) _ (λ t.
      let typed : is_answer p ts w.state rs state ≡ true = ap (λ x. is_answer p x w.state rs state) e ∙ t in
      fine_typed (is_answer p ts w.state rs state) u (run p (k rs) u) typed
      (h rs u (and_left (is_state p state) (is_grown w.state.memories state.memories) (and_right (are_values rs ts) (is_state p state && is_grown w.state.memories state.memories) typed))))

  asks_stay : (c d : ℕ) (A : Type 0) (i : Import) (args : List CoreValue) (ts : List ValType) (k : List CoreValue → Action A) → ts ≡ types i → ((rs : List CoreValue) → Stays c A (k rs)) → Stays d A (Ask i args ts k)
  asks_stay c d A i args ts k e h = record { at = λ w s. answer_fine A i args ts k w w.answers e s (λ rs u t. (h rs).at u t) }

  stops_stay : (c : ℕ) (A : Type 0) → Stays c A Unreachable
  stops_stay c A = record { at = λ w s. record { fine = λ t. (tt, s) } }

  gives_stay : (c : ℕ) (A : Type 0) (a : A) → Stays c A (Give a)
  gives_stay c A a = record { at = λ w s. record { fine = λ t. (tt, s) } }

  binds_stay : (c d e : ℕ) (A B : Type 0) (q : Action A) (f : A → Action B) → Stays c A q → ((a : A) → Stays d B (f a)) → Stays e B (q >>= f)
  binds_stay c d e A B q f h g = record { at = λ w s. subst (λ x. Fine x) (sym (binds_run p q f w)) (fine_then (run p q w) _ (h.at w s) (λ a w' s'. (g a).at w' s')) }

  -- ---- memories and flags

  memories_of : (s : MachineState) → is_state p s ≡ true → are_memories p.memory_types s.memories ≡ true
  memories_of s h = and_left (are_memories p.memory_types s.memories) (are_globals p.global_types s.globals) h

  flags_of : (s : MachineState) → is_state p s ≡ true → are_globals p.global_types s.globals ≡ true
  flags_of s h = and_right (are_memories p.memory_types s.memories) (are_globals p.global_types s.globals) h

  plain_stays : (Has : CoreDef → Type 0) → ((m : CoreDef) → Has m → p.memory m < length p.memory_types) → ((t : Reason) → [] ≡ types (import.Trap t)) → IsPlain Has Stays
  plain_stays Has there no_result = record {
    more = λ c d A q l h. record { at = h.at };
    gives = λ A a. gives_stay 0 A a;
    stops = λ A. stops_stay 0 A;
    traps = λ A t. asks_stay 0 0 A (import.Trap t) [] [] _ (no_result t) (λ rs. stops_stay 0 A);
    reads = λ c A size m a k has h. record {
      at = λ w s.
          fine_there w (slice_get w.state.memories (p.memory m)) _ (zip_there (λ t b. is_memory t.0 t.1 b) p.memory_types w.state.memories (p.memory m) (memories_of w.state s) (there m has)) (λ bytes e.
          fine_done (nat_le (a + size) (length bytes)) (number_at size bytes a) w w _ s (λ l. (h (number_at size bytes a)).at w s));
    };
    lengths = λ c A m k has h. record {
      at = λ w s.
          fine_there w (slice_get w.state.memories (p.memory m)) _ (zip_there (λ t b. is_memory t.0 t.1 b) p.memory_types w.state.memories (p.memory m) (memories_of w.state s) (there m has)) (λ bytes e. (h (length bytes)).at w s);
    };
  }

  writes_stay : (c : ℕ) (A : Type 0) (size : ℕ) (m : CoreDef) (a x : ℕ) (q : Action A) → p.memory m < length p.memory_types → Stays c A q → Stays c A (Write size m a x q)
  writes_stay c A size m a x q there h = record {
    at = λ w s.
        fine_there w (slice_get w.state.memories (p.memory m)) _ (zip_there (λ t b. is_memory t.0 t.1 b) p.memory_types w.state.memories (p.memory m) (memories_of w.state s) there) (λ bytes e.
        let u = written size (p.memory m) bytes a x w in
        fine_done (nat_le (a + size) (length bytes)) tt u w _ s (λ l. h.at u
        (both (zip_set (λ t b. is_memory t.0 t.1 b) p.memory_types w.state.memories (p.memory m) bytes _ (memories_of w.state s) e (λ k g. written_memory k bytes size a x (leb-true (a + size) (length bytes) l) g)) (flags_of w.state s))));
  }

  flags_stay : (A : Type 0) (i : ℕ) (f : ℕ → Action A) → slice_get p.global_types (p.flags i) ≡ Some val.I32 → ((n : ℕ) → n < 2 ^ 32 → Stays 0 A (f n)) → Stays 0 A (get_flags i >>= f)
  flags_stay A i f there h = record {
    at = λ w s.
        let x = flags_there p.global_types w.state.globals (p.flags i) (flags_of w.state s) there in
        subst (λ o. Fine (or_strayed w o (λ v. or_strayed w (i32_of v) (λ n. run p (f n) w)))) (sym x.2) ((h x.0 x.1).at w s);
  }

  set_stays : (i x c : ℕ) (A : Type 0) (q : Action A) → slice_get p.global_types (p.flags i) ≡ Some val.I32 → x < 2 ^ 32 → Stays c A q → Stays c A (SetFlags i x q)
  set_stays i x c A q there small h = record {
    at = λ w s.
        let y = flags_there p.global_types w.state.globals (p.flags i) (flags_of w.state s) there in
        subst (λ o. Fine (or_strayed w o (λ v. run p q (set_global (p.flags i) (I32 x) w)))) (sym y.2)
        (h.at (set_global (p.flags i) (I32 x) w) (both (memories_of w.state s) (set_flags p.global_types w.state.globals (p.flags i) y.0 x (flags_of w.state s) y.2 small)));
  }

  cleared_stays : (i saved c : ℕ) (A : Type 0) (q : Action A) → slice_get p.global_types (p.flags i) ≡ Some val.I32 → saved < 2 ^ 32 → Stays c A q → Stays 0 A (cleared i saved q)
  cleared_stays i saved c A q there small h = set_stays i 0 0 A _ there (omega arith) (binds_stay c 0 0 A A q _ h (λ a. set_stays i saved 0 A _ there small (gives_stay 0 A a)))

module _ (p : ImportPlaces) (core : CoreDef → List ValType) (start : (callback post_return : Option CoreDef) → List ValType) where
  abbrev types : Import → List ValType
  types = result_types core start

  get_stays : (c : ℕ) (A : Type 0) (b : Bool) (k : List CoreValue → List CoreValue → Action A) → ((x y : List CoreValue) → Stays p types c A (k x y)) → Stays p types c A (get_slots b k)
  get_stays c A false k h = h [] []
  get_stays c A true k h = asks_stay p types c c A _ [] _ _ refl (λ x. asks_stay p types c c A _ [] _ _ refl (λ y. h x y))

  slots_stay : (c : ℕ) (A : Type 0) (b : Bool) (x y : List CoreValue) (q : Action A) → Stays p types c A q → Stays p types c A (set_slots b x y q)
  slots_stay c A false x y q h = h
  slots_stay c A true x y q h = asks_stay p types c c A _ x [] _ refl (λ r. asks_stay p types c c A _ y [] _ refl (λ s. h))

  requests_stay : (concurrency : Bool) (to : LiftLowerOptions) → ((m : MemoryOption) → to.memory ≡ Some m → p.memory m.def < length p.memory_types) → ((f : CoreDef) → to.realloc ≡ Some f → core f ≡ type_of_addresses to ∷ [])
      → (c : ℕ) (A : Type 0) (t : Reason) (old old_size align new_size : ℕ) (k : ℕ → Action A)
      → ((q : ℕ) → Stays p types c A (k q)) → Stays p types (7 + c) A (reallocate concurrency to t old old_size align new_size k)
  requests_stay concurrency to there gives c A t old old_size align new_size k h = by_realloc to.realloc gives
    where
      seen : CoreDef → Type 0
      seen d = (m : MemoryOption) × (to.memory ≡ Some m) × (m.def ≡ d)

      plain : IsPlain seen (Stays p types)
      plain = plain_stays p types seen (λ d has. subst (λ x. p.memory x < length p.memory_types) has.2 (there has.0 has.1)) (λ r. refl)

      checked : (rs : List CoreValue) → Stays p types c A (check_region to t (first_bits rs) new_size align (k (first_bits rs)))
      checked rs = region_kept plain c A to (λ m e. (m, e, refl)) t (first_bits rs) new_size align (k (first_bits rs)) (h (first_bits rs))

      by_realloc : (f : Option CoreDef) → ((d : CoreDef) → f ≡ Some d → core d ≡ type_of_addresses to ∷ []) → Stays p types (7 + c) A (elim f [
        | None ↦ Unreachable
        | Some f ↦
            get_slots concurrency (λ a b. set_slots concurrency (I32 0 ∷ []) (I32 0 ∷ [])
            (Ask (import.CoreDef f) (address_value to old ∷ address_value to old_size ∷ address_value to align ∷ address_value to new_size ∷ []) (type_of_addresses to ∷ []) (λ rs.
            set_slots concurrency a b (check_region to t (first_bits rs) new_size align (k (first_bits rs))))))
      ])
      by_realloc None g = stops_stay p types (7 + c) A
      by_realloc (Some f) g =
          record { at = (get_stays c A concurrency _ (λ x y. slots_stay c A concurrency _ _ _ (asks_stay p types c c A (import.CoreDef f) _ _ _ (sym (g f refl)) (λ rs. slots_stay c A concurrency x y _ (checked rs))))).at }

  stays_kept : (tr : Transfer) → ((m : MemoryOption) → tr.from.memory ≡ Some m → p.memory m.def < length p.memory_types) → ((m : MemoryOption) → tr.to.memory ≡ Some m → p.memory m.def < length p.memory_types)
      → ((f : CoreDef) → tr.to.realloc ≡ Some f → core f ≡ type_of_addresses tr.to ∷ []) → IsKept tr (Stays p types)
  stays_kept tr from_there to_there gives = record {
    plain = plain_stays p types _ either (λ t. refl);
    writes = λ c A size m a x q e h. writes_stay p types c A size m.def a x q (to_there m e) h;
    visits = λ n A q l h. record { at = λ w s. fine_heavier p types n (run p q w) (h.at w s) };
    values = λ c A i args ts k v e h. asks_stay p types c (1 + c) A i args ts k (e core start) h;
    requests = requests_stay tr.concurrency tr.to to_there gives;
    binds = λ c d A B q f h g. binds_stay p types c d (c + d) A B q f h g;
  }
    where
      either : (d : CoreDef) → IsSideMemory tr.from tr.to d → p.memory d < length p.memory_types
      either d (m, inl e, same) = subst (λ x. p.memory x < length p.memory_types) same (from_there m e)
      either d (m, inr e, same) = subst (λ x. p.memory x < length p.memory_types) same (to_there m e)

  call_stays : (i : Import) (args : List CoreValue) (ts : List ValType) → ts ≡ types i → Stays p types 0 (List CoreValue) (make_call i args ts)
  call_stays i args ts e = asks_stay p types 0 0 _ i args ts _ e (λ rs. gives_stay p types 0 _ rs)

  when_stays : (b : Bool) (q : Action (List CoreValue)) → Stays p types 0 _ q → Stays p types 0 _ (when_due b q)
  when_stays true q h = h
  when_stays false q h = gives_stay p types 0 _ []

  finish_stays : (b : Bool) (f : Option CoreDef) (given : List CoreValue) (s : Slotted) → ((d : CoreDef) → f ≡ Some d → core d ≡ []) → Stays p types 0 (List CoreValue) (finish_call b f given s)
  finish_stays b None given s e = gives_stay p types 0 _ []
  finish_stays b (Some f) given s e =
      binds_stay p types 0 0 0 _ _ _ _ (get_stays 0 Slotted b _ (λ x y. gives_stay p types 0 _ _)) (λ own.
      binds_stay p types 0 0 0 _ _ _ _ (slots_stay 0 _ b s.first s.second none (gives_stay p types 0 _ [])) (λ x.
      binds_stay p types 0 0 0 _ _ _ _ (call_stays (import.CoreDef f) given [] (sym (e f refl))) (λ y. slots_stay 0 _ b own.first own.second none (gives_stay p types 0 _ []))))

  module _ (u : AdapterTunables) (a : LinkedAdapter) (places : HasPlaces p a) (given_types : HaveCoreTypes core a) where
    sync_stays : (args : List CoreValue) → Stays p types 0 (List CoreValue) (sync u a args)
    sync_stays args =
        flags_stay p types _ a.lower.instance _ places.lower_flags (λ saved small.
        binds_stay p types 0 0 0 _ _ _ _ (unless_kept (plain_stays p types (λ d. ⊥) (λ d has. absurd has) (λ t. refl)) 0 _ CannotLeaveComponent (not (nat_eq saved 0)) none (gives_stay p types 0 _ [])) (λ x.
        binds_stay p types 0 0 0 _ _ _ _ (when_stays (enters u a) _ (call_stays import.EnterSyncCall _ [] refl)) (λ y.
        flags_stay p types _ a.lift.instance _ places.lift_flags (λ lift_saved lift_small.
        binds_stay p types 0 0 0 _ _ _ _
        (cleared_stays p types a.lift.instance lift_saved 7 _ _ places.lift_flags lift_small (params_kept u a (stays_kept (params_transfer u a) places.lower_memory places.lift_memory given_types.lift_realloc) args)) (λ core_values.
        binds_stay p types 0 0 0 _ _ _ _ (call_stays (import.CoreDef a.callee) core_values (lift_signature_of a).results (sym given_types.callee)) (λ given.
        binds_stay p types 0 0 0 _ _ _ _ (get_stays 0 Slotted (u.concurrency && is_some a.lift.post_return) _ (λ x' y'. gives_stay p types 0 _ _)) (λ context.
        binds_stay p types 0 0 0 _ _ _ _ (when_stays (enters u a) _ (call_stays import.ExitSyncCall _ [] refl)) (λ z.
        binds_stay p types 0 0 0 _ _ _ _
        (cleared_stays p types a.lower.instance saved 0 _ _ places.lower_flags small (results_kept u a (stays_kept (results_transfer u a) places.lift_memory places.lower_memory given_types.lower_realloc) given (last_bits args))) (λ results.
        binds_stay p types 0 0 0 _ _ _ _ (finish_stays u.concurrency a.lift.post_return given context given_types.post_return) (λ r. gives_stay p types 0 _ results))))))))))

    -- the functions that move the parameters and the results of an async adapter
    start_stays : (args : List CoreValue) → Stays p types 0 (List CoreValue) (async_start u a args)
    start_stays args =
        flags_stay p types _ a.lift.instance _ places.lift_flags (λ saved small.
        cleared_stays p types a.lift.instance saved 7 _ _ places.lift_flags small (params_kept u a (stays_kept (params_transfer u a) places.lower_memory places.lift_memory given_types.lift_realloc) args))

    return_stays : (args : List CoreValue) → Stays p types 0 (List CoreValue) (async_return u a args)
    return_stays args =
        flags_stay p types _ a.lower.instance _ places.lower_flags (λ saved small.
        cleared_stays p types a.lower.instance saved 0 _ _ places.lower_flags small (results_kept u a (stays_kept (results_transfer u a) places.lift_memory places.lower_memory given_types.lower_realloc) args (last_bits args)))

  -- adapters that only call
  same_instance_stays : Stays p types 0 (List CoreValue) same_instance
  same_instance_stays = asks_stay p types 0 0 _ (import.Trap CannotEnterComponent) [] [] _ refl (λ rs. stops_stay p types 0 _)

  async_call_stays : (a : LinkedAdapter) (r : References) (args : List CoreValue) → (lower_signature_of a).results ≡ start a.lift.callback a.lift.post_return → Stays p types 0 (List CoreValue) (async_call a r args)
  async_call_stays a r args e =
      binds_stay p types 0 0 0 _ _ _ _ (call_stays (import.PrepareCall (def_of_memory (options_of a.lift))) (prepare_args a r args) [] refl) (λ rs.
      call_stays (import.StartCall a.lift.callback a.lift.post_return) (start_args a r) (lower_signature_of a).results e)

  -- so it is behind the barrier
  guarded_fine : (b : Bool) (e : Ended (List CoreValue)) → Fine p types e → Fine p types (guarded_if b p e)
  guarded_fine false e h = h
  guarded_fine true (Gave n cs a w) h = h
  guarded_fine true (Halted n cs Trap w) h = h
  guarded_fine true (Halted n cs Lack w) h = h
  guarded_fine true (Halted n cs Throw w) h =
      fine_behind p types n cs (run p (trap UncaughtException) w) (λ t. (asks_stay p types 0 0 (List CoreValue) (import.Trap UncaughtException) [] [] _ refl (λ rs. stops_stay p types 0 _)).at w (h.fine t).1)
  guarded_fine true (Strayed n cs w) h = h

pub typed_runs_stay : EachSync StaysTyped
typed_runs_stay p u a args w core start places gives s t = (guarded_fine p core start u.exceptions (run p (sync u a args) w) ((sync_stays p core start u a places gives args).at w s)).fine t

pub typed_starts_stay : EachStart StaysTyped
typed_starts_stay p u a args w core start places gives s t = ((start_stays p core start u a places gives args).at w s).fine t

pub typed_returns_stay : EachReturn StaysTyped
typed_returns_stay p u a args w core start places gives s t = ((return_stays p core start u a places gives args).at w s).fine t

pub typed_same_instance_stays : TypedSameInstanceStays
typed_same_instance_stays p w core start s t = ((same_instance_stays p core start).at w s).fine t

pub typed_async_calls_stay : TypedAsyncCallsStay
typed_async_calls_stay p a r args w core start gives s t = ((async_call_stays p core start a r args (sym gives)).at w s).fine t
