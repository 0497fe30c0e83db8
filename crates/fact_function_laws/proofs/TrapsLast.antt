-- A call of a trap is the last of a run: where a sync adapter gave something or lacks an answer, and each call returned, it has called
-- none.
use Rattle.std.proofs.Common.{◌≡◌, ℕ, ◌+◌, Bool, true, false, List, [], ◌∷◌, ◌++◌, Option, Some, None, refl, sym, ◌∙◌, inl, subst, length, slice_get, nat_le, nat_eq, not, is_some, ◌&&◌}
use Rattle.std.specs.Prelude.{if◌then◌else◌}
use Rattle.std.proofs.lemmas.List.Elements.{filter-append}
use Rattle.fact_wasm.specs.declared.types.ValType.{ValType}
use Rattle.fact_machine.specs.declared.types.Answer.{Answer}
use Rattle.fact_machine.specs.declared.types.Answer.TheVariants.{Returns, Traps, Throws}
use Rattle.fact_machine.specs.declared.types.CoreValue.{CoreValue}
use Rattle.fact_machine.specs.declared.types.CoreValue.TheVariants.{I32}
use Rattle.fact_machine.specs.declared.types.TraceEntry.TheVariants.{Called}
use Rattle.fact_machine.specs.Machine.{i32_of}
use Rattle.fact_machine.specs.World.{World, Done, Halt, Trap, Throw, Lack, asked, number_at, set_global, written}
use Rattle.fact_types.specs.declared.import.Import.{Import}
use Rattle.fact_types.specs.declared.import.Import.TheVariants as import
use Rattle.fact_types.specs.declared.outside.CoreDef.{CoreDef}
use Rattle.fact_types.specs.declared.outside.Trap.{Trap as Reason}
use Rattle.fact_types.specs.declared.outside.Trap.TheVariants.{CannotLeaveComponent, UncaughtException}
use Rattle.fact_types.specs.Adapters.{LinkedAdapter}
use Rattle.fact_actions.specs.Actions.{Action, Give, Write, SetFlags, Ask, Unreachable, ◌>>=◌, trap}
use Rattle.fact_actions.specs.Adapters.{AdapterTunables, Slotted, async_return, async_start, cleared, enters, finish_call, get_flags, last_bits, lift_signature_of, make_call, none, params_transfer, results_transfer, sync, when_due}
use Rattle.fact_actions.specs.Order.{IsValueCall}
use Rattle.fact_actions.specs.Plain.{ended_sync, guarded_if}
use Rattle.fact_actions.specs.Running.{ImportPlaces, Call, Ended, Gave, Halted, Strayed, calls_in, heavier, later, then_ended, or_strayed, ended, if_typed, is_answer, call_of, with_answer, run}
use Rattle.fact_actions.specs.Sides.{LiftLowerOptions, Transfer, address_value, check_region, first_bits, get_slots, reallocate, set_slots, type_of_addresses}
use Rattle.fact_actions.proofs.Binds.{binds_run}
use Rattle.fact_actions.proofs.Kept.{IsKept, IsPlain, region_kept, unless_kept}
use Rattle.fact_actions.proofs.Passed.{params_kept, results_kept}
use Rattle.fact_action_laws.specs.Faithful.{GivesOrLacks}
use Rattle.fact_action_laws.proofs.Ending.{calls_behind}
use Rattle.fact_action_laws.proofs.Stopping.{AreReturned, Stopping}
use Rattle.fact_action_laws.proofs.Thrown.{Unthrown, never_thrown, none_before, none_threw}
use Rattle.fact_compound.specs.AsyncParts.{part_action}
use Rattle.fact_compound.specs.declared.asyncs.AsyncPart.{AsyncPart}
use Rattle.fact_compound.specs.declared.asyncs.AsyncPart.TheVariants as part
use Rattle.fact_function_laws.specs.Runs.{CallNoTrap, is_trap_import}

-- ---- ends

record NoTrap {A : Type 0} (e : Ended A) : Type 0 where
  pub called : GivesOrLacks e → CallNoTrap (calls_in e)

both_free : (cs ds : List Call) → CallNoTrap cs → CallNoTrap ds → CallNoTrap (cs ++ ds)
both_free cs ds h g = filter-append (λ (c : Call). is_trap_import c.what) cs ds ∙ (λ k. h k ++ g k)

free_behind : {A : Type 0} (n : ℕ) (cs : List Call) (e : Ended A) → CallNoTrap cs → NoTrap e → NoTrap (heavier n (later cs e))
free_behind n cs (Gave m ds a w) h g = record { called = λ x. both_free cs ds h (g.called x) }
free_behind n cs (Halted m ds Lack w) h g = record { called = λ x. both_free cs ds h (g.called x) }
free_behind n cs (Halted m ds Trap w) h g = record { called = λ x. absurd x }
free_behind n cs (Halted m ds Throw w) h g = record { called = λ x. absurd x }
free_behind n cs (Strayed m ds w) h g = record { called = λ x. absurd x }

free_later : {A : Type 0} (c : Call) (e : Ended A) → is_trap_import c.what ≡ false → NoTrap e → NoTrap (later (c ∷ []) e)
free_later c (Gave m ds a w) h g = record { called = λ x. both_free (c ∷ []) ds (rw (h) refl) (g.called x) }
free_later c (Halted m ds Lack w) h g = record { called = λ x. both_free (c ∷ []) ds (rw (h) refl) (g.called x) }
free_later c (Halted m ds Trap w) h g = record { called = λ x. absurd x }
free_later c (Halted m ds Throw w) h g = record { called = λ x. absurd x }
free_later c (Strayed m ds w) h g = record { called = λ x. absurd x }

free_heavier : {A : Type 0} (n : ℕ) (e : Ended A) → NoTrap e → NoTrap (heavier n e)
free_heavier n (Gave m cs a w) h = record { called = h.called }
free_heavier n (Halted m cs Lack w) h = record { called = h.called }
free_heavier n (Halted m cs Trap w) h = record { called = λ x. absurd x }
free_heavier n (Halted m cs Throw w) h = record { called = λ x. absurd x }
free_heavier n (Strayed m cs w) h = record { called = λ x. absurd x }

free_then : {A B : Type 0} (e : Ended A) (f : A → World → Ended B) → NoTrap e → ((a : A) (w : World) → NoTrap (f a w)) → NoTrap (then_ended e f)
free_then (Gave n cs a w) f h g = free_behind n cs (f a w) (h.called tt) (g a w)
free_then (Halted n cs Lack w) f h g = record { called = λ x. h.called tt }
free_then (Halted n cs Trap w) f h g = record { called = λ x. absurd x }
free_then (Halted n cs Throw w) f h g = record { called = λ x. absurd x }
free_then (Strayed n cs w) f h g = record { called = λ x. absurd x }

free_there : {A X : Type 0} (w : World) (o : Option X) (F : X → Ended A) → ((x : X) → NoTrap (F x)) → NoTrap (or_strayed w o F)
free_there w None F h = record { called = λ x. absurd x }
free_there w (Some x) F h = h x

free_typed : {A : Type 0} (b : Bool) (w : World) (e : Ended A) → NoTrap e → NoTrap (if_typed b w e)
free_typed true w e h = h
free_typed false w e h = record { called = λ x. absurd x }

free_done : {A X : Type 0} (b : Bool) (x : X) (u w : World) (F : X → World → Ended A) → NoTrap (F x u) → NoTrap (ended (if b then Done x u else Halt Trap w) F)
free_done true x u w F h = h
free_done false x u w F h = record { called = λ x. absurd x }

-- ---- actions

-- no run of an action that goes on has called a trap
record TrapsLast (c : ℕ) (A : Type 0) (q : Action A) : Type 0 where
  pub at : (p : ImportPlaces) (w : World) → NoTrap (run p q w)

answer_free : (p : ImportPlaces) (A : Type 0) (i : Import) (args : List CoreValue) (ts : List ValType) (k : List CoreValue → Action A) (w : World) (left : List Answer)
    → is_trap_import i ≡ false → ((rs : List CoreValue) (u : World) → NoTrap (run p (k rs) u))
    → NoTrap (later (call_of i args w.state left) (with_answer p ts w (asked (p.function i) args w left) (λ rs u. run p (k rs) u)))
answer_free p A i args ts k w [] e h = record { called = λ x. refl }
answer_free p A i args ts k w (Traps ∷ more) e h = record { called = λ x. absurd x }
answer_free p A i args ts k w (Throws ∷ more) e h = record { called = λ x. absurd x }
answer_free p A i args ts k w (Returns rs state ∷ more) e h =
    let c : Call = record { what = i; args = args; before = w.state; answer = Returns rs state } in
    let u : World = record { state = state; answers = more; trace = w.trace ++ Called (record { func = p.function i; args = args; before = w.state; answer = Returns rs state }) ∷ [] } in
    free_later c (if_typed (is_answer p ts w.state rs state) u (run p (k rs) u)) e (free_typed (is_answer p ts w.state rs state) u (run p (k rs) u) (h rs u))

asks_last : (c d : ℕ) (A : Type 0) (i : Import) (args : List CoreValue) (ts : List ValType) (k : List CoreValue → Action A) → is_trap_import i ≡ false → ((rs : List CoreValue) → TrapsLast c A (k rs)) → TrapsLast d A (Ask i args ts k)
asks_last c d A i args ts k e h = record { at = λ p w. answer_free p A i args ts k w w.answers e (λ rs u. (h rs).at p u) }

-- a trap ends the run, whatever is answered
trap_answered : (p : ImportPlaces) (A : Type 0) (t : Reason) (w : World) (left : List Answer)
    → NoTrap {A = A} (later (call_of (import.Trap t) [] w.state left) (with_answer p [] w (asked (p.function (import.Trap t)) [] w left) (λ rs u. run {A = A} p Unreachable u)))
trap_answered p A t w [] = record { called = λ x. refl }
trap_answered p A t w (Traps ∷ more) = record { called = λ x. absurd x }
trap_answered p A t w (Throws ∷ more) = record { called = λ x. absurd x }
trap_answered p A t w (Returns rs state ∷ more) =
    let u : World = record { state = state; answers = more; trace = w.trace ++ Called (record { func = p.function (import.Trap t); args = []; before = w.state; answer = Returns rs state }) ∷ [] } in
    by (is_answer p [] w.state rs state) u
  where
    by : (b : Bool) (u : World) → NoTrap {A = A} (later (call_of (import.Trap t) [] w.state (Returns rs state ∷ more)) (if_typed b u (run {A = A} p Unreachable u)))
    by true u = record { called = λ x. absurd x }
    by false u = record { called = λ x. absurd x }

stops_last : (c : ℕ) (A : Type 0) → TrapsLast c A Unreachable
stops_last c A = record { at = λ p w. record { called = λ x. absurd x } }

gives_last : (c : ℕ) (A : Type 0) (a : A) → TrapsLast c A (Give a)
gives_last c A a = record { at = λ p w. record { called = λ x. refl } }

binds_last : (c d e : ℕ) (A B : Type 0) (q : Action A) (f : A → Action B) → TrapsLast c A q → ((a : A) → TrapsLast d B (f a)) → TrapsLast e B (q >>= f)
binds_last c d e A B q f h g = record { at = λ p w. subst (λ x. NoTrap x) (sym (binds_run p q f w)) (free_then (run p q w) _ (h.at p w) (λ a w'. (g a).at p w')) }

plain_last : (Has : CoreDef → Type 0) → IsPlain Has TrapsLast
plain_last Has = record {
  more = λ c d A q l h. record { at = h.at };
  gives = λ A a. gives_last 0 A a;
  stops = λ A. stops_last 0 A;
  traps = λ A t. record { at = λ p w. trap_answered p A t w w.answers };
  reads = λ c A size m a k has h. record {
    at = λ p w. free_there w (slice_get w.state.memories (p.memory m)) _ (λ bytes. free_done (nat_le (a + size) (length bytes)) (number_at size bytes a) w w _ ((h (number_at size bytes a)).at p w));
  };
  lengths = λ c A m k has h. record { at = λ p w. free_there w (slice_get w.state.memories (p.memory m)) _ (λ bytes. (h (length bytes)).at p w) };
}

writes_last : (c : ℕ) (A : Type 0) (size : ℕ) (m : CoreDef) (a x : ℕ) (q : Action A) → TrapsLast c A q → TrapsLast c A (Write size m a x q)
writes_last c A size m a x q h = record {
  at = λ p w. free_there w (slice_get w.state.memories (p.memory m)) _ (λ bytes. let u = written size (p.memory m) bytes a x w in free_done (nat_le (a + size) (length bytes)) tt u w _ (h.at p u));
}

get_last : (c : ℕ) (A : Type 0) (b : Bool) (k : List CoreValue → List CoreValue → Action A) → ((x y : List CoreValue) → TrapsLast c A (k x y)) → TrapsLast c A (get_slots b k)
get_last c A false k h = h [] []
get_last c A true k h = asks_last c c A _ [] _ _ refl (λ x. asks_last c c A _ [] _ _ refl (λ y. h x y))

set_last : (c : ℕ) (A : Type 0) (b : Bool) (x y : List CoreValue) (q : Action A) → TrapsLast c A q → TrapsLast c A (set_slots b x y q)
set_last c A false x y q h = h
set_last c A true x y q h = asks_last c c A _ x [] _ refl (λ r. asks_last c c A _ y [] _ refl (λ s. h))

requests_last : (concurrency : Bool) (to : LiftLowerOptions) (c : ℕ) (A : Type 0) (t : Reason) (old old_size align new_size : ℕ) (k : ℕ → Action A)
    → ((q : ℕ) → TrapsLast c A (k q)) → TrapsLast (7 + c) A (reallocate concurrency to t old old_size align new_size k)
requests_last concurrency to c A t old old_size align new_size k h = by_realloc to.realloc
  where
    checked : (rs : List CoreValue) → TrapsLast c A (check_region to t (first_bits rs) new_size align (k (first_bits rs)))
    checked rs = region_kept (plain_last (λ d. Unit {0})) c A to (λ m e. tt) t (first_bits rs) new_size align (k (first_bits rs)) (h (first_bits rs))

    by_realloc : (f : Option CoreDef) → TrapsLast (7 + c) A (elim f [
      | None ↦ Unreachable
      | Some f ↦
          get_slots concurrency (λ a b. set_slots concurrency (I32 0 ∷ []) (I32 0 ∷ [])
          (Ask (import.CoreDef f) (address_value to old ∷ address_value to old_size ∷ address_value to align ∷ address_value to new_size ∷ []) (type_of_addresses to ∷ []) (λ rs.
          set_slots concurrency a b (check_region to t (first_bits rs) new_size align (k (first_bits rs))))))
    ])
    by_realloc None = stops_last (7 + c) A
    by_realloc (Some f) =
        record { at = (get_last c A concurrency _ (λ x y. set_last c A concurrency _ _ _ (asks_last c c A (import.CoreDef f) _ _ _ refl (λ rs. set_last c A concurrency x y _ (checked rs))))).at }

values_are_no_traps : (from to : LiftLowerOptions) (i : Import) → IsValueCall from to i → is_trap_import i ≡ false
values_are_no_traps from to (import.Trap t) h = absurd h
values_are_no_traps from to i h = refl

last_kept : (tr : Transfer) → IsKept tr TrapsLast
last_kept tr = record {
  plain = plain_last _;
  writes = λ c A size m a x q e h. writes_last c A size m.def a x q h;
  visits = λ n A q l h. record { at = λ p w. free_heavier n (run p q w) (h.at p w) };
  values = λ c A i args ts k v e h. asks_last c (1 + c) A i args ts k (values_are_no_traps tr.from tr.to i v) h;
  requests = requests_last tr.concurrency tr.to;
  binds = λ c d A B q f h g. binds_last c d (c + d) A B q f h g;
}

-- ---- adapters

flags_last : (A : Type 0) (i : ℕ) (f : ℕ → Action A) → ((n : ℕ) → TrapsLast 0 A (f n)) → TrapsLast 0 A (get_flags i >>= f)
flags_last A i f h = record { at = λ p w. free_there w (slice_get w.state.globals (p.flags i)) _ (λ v. free_there w (i32_of v) _ (λ n. (h n).at p w)) }

changes_last : (i x c : ℕ) (A : Type 0) (q : Action A) → TrapsLast c A q → TrapsLast c A (SetFlags i x q)
changes_last i x c A q h = record { at = λ p w. free_there w (slice_get w.state.globals (p.flags i)) _ (λ v. h.at p (set_global (p.flags i) (I32 x) w)) }

cleared_last : (i saved c : ℕ) (A : Type 0) (q : Action A) → TrapsLast c A q → TrapsLast 0 A (cleared i saved q)
cleared_last i saved c A q h = changes_last i 0 0 A _ (binds_last c 0 0 A A q _ h (λ a. changes_last i saved 0 A _ (gives_last 0 A a)))

call_last : (i : Import) (args : List CoreValue) (ts : List ValType) → is_trap_import i ≡ false → TrapsLast 0 (List CoreValue) (make_call i args ts)
call_last i args ts e = asks_last 0 0 _ i args ts _ e (λ rs. gives_last 0 _ rs)

when_last : (b : Bool) (q : Action (List CoreValue)) → TrapsLast 0 _ q → TrapsLast 0 _ (when_due b q)
when_last true q h = h
when_last false q h = gives_last 0 _ []

finish_last : (b : Bool) (f : Option CoreDef) (given : List CoreValue) (s : Slotted) → TrapsLast 0 (List CoreValue) (finish_call b f given s)
finish_last b None given s = gives_last 0 _ []
finish_last b (Some f) given s =
    binds_last 0 0 0 _ _ _ _ (get_last 0 Slotted b _ (λ x y. gives_last 0 _ _)) (λ own.
    binds_last 0 0 0 _ _ _ _ (set_last 0 _ b s.first s.second none (gives_last 0 _ [])) (λ x.
    binds_last 0 0 0 _ _ _ _ (call_last (import.CoreDef f) given [] refl) (λ y. set_last 0 _ b own.first own.second none (gives_last 0 _ []))))

module _ (u : AdapterTunables) (a : LinkedAdapter) where
  sync_last : (args : List CoreValue) → TrapsLast 0 (List CoreValue) (sync u a args)
  sync_last args =
      flags_last _ a.lower.instance _ (λ saved.
      binds_last 0 0 0 _ _ _ _ (unless_kept (plain_last (λ d. ⊥)) 0 _ CannotLeaveComponent (not (nat_eq saved 0)) none (gives_last 0 _ [])) (λ x.
      binds_last 0 0 0 _ _ _ _ (when_last (enters u a) _ (call_last import.EnterSyncCall _ [] refl)) (λ y.
      flags_last _ a.lift.instance _ (λ lift_saved.
      binds_last 0 0 0 _ _ _ _ (cleared_last a.lift.instance lift_saved 7 _ _ (params_kept u a (last_kept (params_transfer u a)) args)) (λ core_values.
      binds_last 0 0 0 _ _ _ _ (call_last (import.CoreDef a.callee) core_values (lift_signature_of a).results refl) (λ given.
      binds_last 0 0 0 _ _ _ _ (get_last 0 Slotted (u.concurrency && is_some a.lift.post_return) _ (λ x' y'. gives_last 0 _ _)) (λ context.
      binds_last 0 0 0 _ _ _ _ (when_last (enters u a) _ (call_last import.ExitSyncCall _ [] refl)) (λ z.
      binds_last 0 0 0 _ _ _ _ (cleared_last a.lower.instance saved 0 _ _ (results_kept u a (last_kept (results_transfer u a)) given (last_bits args))) (λ results.
      binds_last 0 0 0 _ _ _ _ (finish_last u.concurrency a.lift.post_return given context) (λ r. gives_last 0 _ results))))))))))

  start_last : (args : List CoreValue) → TrapsLast 0 (List CoreValue) (async_start u a args)
  start_last args = flags_last _ a.lift.instance _ (λ saved. cleared_last a.lift.instance saved 7 _ _ (params_kept u a (last_kept (params_transfer u a)) args))

  return_last : (args : List CoreValue) → TrapsLast 0 (List CoreValue) (async_return u a args)
  return_last args = flags_last _ a.lower.instance _ (λ saved. cleared_last a.lower.instance saved 0 _ _ (results_kept u a (last_kept (results_transfer u a)) args (last_bits args)))

  -- a function of an async adapter that moves values has no barrier
  pub part_no_trap : (x : AsyncPart) (p : ImportPlaces) (args : List CoreValue) (w : World) → GivesOrLacks (run p (part_action x u a args) w) → CallNoTrap (calls_in (run p (part_action x u a args) w))
  part_no_trap part.Start p args w x = ((start_last args).at p w).called x
  part_no_trap part.Return p args w x = ((return_last args).at p w).called x

  -- Where it gave something or lacks an answer, and each call returned, no trap was called: the barrier calls one only where something
  -- was thrown.
  guarded_last : (p : ImportPlaces) (b : Bool) (e : Ended (List CoreValue)) → NoTrap e → Stopping e Unthrown → AreReturned (calls_in (guarded_if b p e)) → GivesOrLacks (guarded_if b p e) → CallNoTrap (calls_in (guarded_if b p e))
  guarded_last p false e h thrown returned x = h.called x
  guarded_last p true (Gave n cs vs w) h thrown returned x = h.called x
  guarded_last p true (Halted n cs Lack w) h thrown returned x = h.called x
  guarded_last p true (Halted n cs Trap w) h thrown returned x = absurd x
  guarded_last p true (Halted n cs Throw w) h thrown returned x =
      let e = run p (trap {A = List CoreValue} UncaughtException) w in
      absurd (thrown (none_before cs (calls_in e) (none_threw AreReturned (λ ds r. r) (cs ++ calls_in e) (inl (subst AreReturned (calls_behind n cs e) returned)))) tt)
  guarded_last p true (Strayed n cs w) h thrown returned x = absurd x

  pub adapter_calls_no_trap : (p : ImportPlaces) (args : List CoreValue) (w : World) → AreReturned (calls_in (ended_sync p u a args w)) → GivesOrLacks (ended_sync p u a args w) → CallNoTrap (calls_in (ended_sync p u a args w))
  adapter_calls_no_trap p args w returned x = guarded_last p u.exceptions (run p (sync u a args) w) ((sync_last args).at p w) (never_thrown p (sync u a args) w) returned x
