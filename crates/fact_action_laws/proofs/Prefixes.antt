-- What the callee of a sync adapter is given: in a run that is honest until a trap the parameters, carried to its types, where it is
-- answered by a trap too.
use Rattle.std.proofs.Common.{◌≡◌, ◌≢◌, ℕ, ◌⊎◌, inl, inr, Bool, true, false, List, [], ◌∷◌, ◌++◌, Option, Some, None, refl, sym, ap, ◌∙◌, subst, append_assoc, append-nil}
use Rattle.std.specs.Prelude.{not, nat_eq, ◌&&◌, slice_get, is_some}
use Rattle.std.proofs.lemmas.Bool.{false≢true}
use Rattle.fact_wasm.specs.declared.types.ValType.{ValType}
use Rattle.fact_types.specs.Adapters.{LinkedAdapter, is_wide}
use Rattle.fact_types.specs.Signatures.{address, flat_values, flat_params, unless_flat}
use Rattle.fact_types.specs.declared.import.Import.{Import}
use Rattle.fact_types.specs.declared.import.Import.TheVariants as import
use Rattle.fact_types.specs.declared.outside.CoreDef.{CoreDef}
use Rattle.fact_types.specs.declared.outside.Trap.{Trap}
use Rattle.fact_types.specs.declared.outside.Trap.TheVariants.{CannotLeaveComponent, UncaughtException}
use Rattle.fact_machine.specs.Machine.{i32_of}
use Rattle.fact_machine.specs.Typed.{are_values}
use Rattle.fact_machine.specs.World.{World, Trap as Trapped, Throw, Lack, asked, set_global}
use Rattle.fact_machine.specs.declared.types.Answer.{Answer}
use Rattle.fact_machine.specs.declared.types.Answer.TheVariants.{Returns, Traps, Throws}
use Rattle.fact_machine.specs.declared.types.CoreValue.{CoreValue}
use Rattle.fact_machine.specs.declared.types.CoreValue.TheVariants.{I32}
use Rattle.fact_machine.specs.declared.types.TraceEntry.TheVariants.{Called}
use Rattle.fact_values.specs.declared.value.Value.{Value}
use Rattle.fact_values.specs.Tuples.{lift_param_values}
use Rattle.fact_actions.specs.Actions.{Action, Give, SetFlags, Ask, ◌>>=◌, ◌>>◌, unless, trap}
use Rattle.fact_actions.specs.Adapters.{AdapterTunables, Slotted, none, cleared, when_due, get_flags, make_call, enters, enter_call, exit_call, read_slots, finish_call, last_bits, move_params, move_results, lower_signature_of, lift_signature_of, sync}
use Rattle.fact_actions.specs.Calls.{is_import_of, side_memory}
use Rattle.fact_actions.specs.Honest.{AreHonest, AreHonestSync}
use Rattle.fact_actions.specs.Order.{flag_in}
use Rattle.fact_actions.specs.Plain.{ended_sync, guarded_if}
use Rattle.fact_actions.specs.Regions.{landed, params_landing, moved_on}
use Rattle.fact_actions.specs.Running.{ImportPlaces, Call, Ended, Gave, Halted, Strayed, calls_in, later, then_ended, or_strayed, if_typed, is_answer, is_state, with_answer, call_of, run}
use Rattle.fact_actions.specs.Sides.{options_of, first_bits, width_of_side}
use Rattle.fact_actions.proofs.Binds.{binds_run}
use Rattle.fact_actions.proofs.OwnParts.{same_self}
use Rattle.fact_types.specs.FlatShapes.{flat_all}
use Rattle.fact_action_laws.specs.Faithful.{IsTransferred, params_given, params_passed}
use Rattle.fact_action_laws.specs.FaithfulLaws.{quiet, IsCheckedAdapter, TextsMove}
use Rattle.fact_action_laws.specs.HonestMoves.{AreHonestCalls}
use Rattle.fact_action_laws.specs.Judged.{GivesNothing}
use Rattle.fact_action_laws.specs.Places.{to_side}
use Rattle.fact_action_laws.specs.Regions.{TransferSetting}
use Rattle.fact_action_laws.proofs.Called.{AllCalled, Calls, called_append, all_called, calls_give, calls_stop, calls_ask}
use Rattle.fact_action_laws.proofs.Deliveries.{params_setting, params_are_come, params_come_or_never, params_does, params_honest}
use Rattle.fact_action_laws.proofs.Ending.{ParamsApart, params_apart, calls_behind}
use Rattle.fact_action_laws.proofs.FaithfulRuns.{synced, synced_is}
use Rattle.fact_action_laws.proofs.Framed.{Aside, aside_crosses, Ran, parts_when, flag_value}
use Rattle.fact_action_laws.proofs.Landed.{HasLanded, params_landed}
use Rattle.fact_action_laws.proofs.Membered.{members_formed, transferred_among}
use Rattle.fact_action_laws.proofs.Once.{Differs, none_calls, params_differ, results_differ, aside_differs, other_none}
use Rattle.fact_action_laws.proofs.Parting.{When, TakenApart, parts_cleared}
use Rattle.fact_action_laws.proofs.Stopping.{set_if, IsEntered, IsPassedOn, calls_before}
use Rattle.fact_action_laws.proofs.Transfers.{ComeBy}
use Rattle.fact_action_laws.proofs.TypedArgs.{lower_numeric, AreNumeric}
use Rattle.fact_action_laws.proofs.Weighed.{does_give_so}
use Rattle.fact_action_laws.specs.AdapterValueLaws.{CalleesAreGiven}
use Rattle.fact_action_laws.specs.Trapped.{AreHonestUntilTrap, IsHonestUntilTrap}
use Rattle.fact_action_laws.proofs.Finished.{texts_move}
use Rattle.fact_action_laws.proofs.Trapped.{IsBehind, last_behind, both_empty}

-- ---- the calls of an end, whatever it comes to

tells_then : {A B : Type 0} (e : Ended A) (f : A → World → Ended B) (Q : ℕ → List Call → A → World → Type 0) (H : List Call → Type 0)
    → When e Q → H (calls_in e) → ((n : ℕ) (cs : List Call) (a : A) (w : World) → Q n cs a w → H (cs ++ calls_in (f a w))) → H (calls_in (then_ended e f))
tells_then (Gave n cs a w) f Q H q h g = subst H (sym (calls_behind n cs (f a w))) (g n cs a w q)
tells_then (Halted n cs s w) f Q H q h g = h
tells_then (Strayed n cs w) f Q H q h g = h

tells_stray : {A X : Type 0} (w : World) (o : Option X) (F : X → Ended A) (H : List Call → Type 0) → H [] → ((x : X) → o ≡ Some x → H (calls_in (F x))) → H (calls_in (or_strayed w o F))
tells_stray w None F H empty h = empty
tells_stray w (Some x) F H empty h = h x refl

-- what holds of the calls of an action in a world
record Tells {A : Type 0} (p : ImportPlaces) (q : Action A) (w : World) (H : List Call → Type 0) : Type 0 where
  so : H (calls_in (run p q w))

tells_bind : {A B : Type 0} {p : ImportPlaces} (q : Action A) (f : A → Action B) {w : World} {Q : ℕ → List Call → A → World → Type 0} {H : List Call → Type 0}
    → TakenApart p q w Q → Tells p q w H → ((n : ℕ) (cs : List Call) (a : A) (w' : World) → Q n cs a w' → Tells p (f a) w' (λ ds. H (cs ++ ds))) → Tells p (q >>= f) w H
tells_bind {p} q f {w} {Q} {H} t h g = record { so = subst (λ e. H (calls_in e)) (sym (binds_run p q f w)) (tells_then (run p q w) _ Q H t.so h.so (λ n cs a w' x. (g n cs a w' x).so)) }

tells_flags : {A : Type 0} (p : ImportPlaces) (i : ℕ) (f : ℕ → Action A) (w : World) (H : List Call → Type 0)
    → H [] → ((n : ℕ) → flag_in p i w.state.globals ≡ I32 n → Tells p (f n) w H) → Tells p (get_flags i >>= f) w H
tells_flags p i f w H none h = record {
  so =
      tells_stray w (slice_get w.state.globals (p.flags i)) _ H none (λ v e. tells_stray w (i32_of v) _ H none (λ n e'.
      (h n (ap (λ o. elim o [ None ↦ I32 0 | Some x ↦ x ]) e ∙ flag_value v n e')).so));
}

tells_unless : {A : Type 0} (p : ImportPlaces) (t : Trap) (b : Bool) (q : Action A) (w : World) (H : List Call → Type 0) → b ≡ true → Tells p q w H → Tells p (unless t b none >> q) w H
tells_unless p t true q w H is h = h
tells_unless p t false q w H is h = absurd (false≢true is)

-- ---- actions that do not call a function

module _ (P : Import → Type 0) (p : ImportPlaces) where
  -- in whatever world
  record Only {A : Type 0} (q : Action A) : Type 0 where
    only : (w : World) → AllCalled P (calls_in (run p q w))

  only_then : {A B : Type 0} (e : Ended A) (f : A → World → Ended B) → AllCalled P (calls_in e) → ((a : A) (w : World) → AllCalled P (calls_in (f a w))) → AllCalled P (calls_in (then_ended e f))
  only_then (Gave n cs a w) f h g = subst (AllCalled P) (sym (calls_behind n cs (f a w))) (called_append P cs (calls_in (f a w)) h (g a w))
  only_then (Halted n cs s w) f h g = h
  only_then (Strayed n cs w) f h g = h

  only_bind : {A B : Type 0} (q : Action A) (f : A → Action B) → Only q → ((a : A) → Only (f a)) → Only (q >>= f)
  only_bind q f h g = record { only = λ w. subst (λ e. AllCalled P (calls_in e)) (sym (binds_run p q f w)) (only_then (run p q w) _ (h.only w) (λ a w'. (g a).only w')) }

  only_set : {A : Type 0} (i x : ℕ) (q : Action A) → Only q → Only (SetFlags i x q)
  only_set i x q h = record { only = λ w. tells_stray w (slice_get w.state.globals (p.flags i)) _ (AllCalled P) tt (λ v e. h.only (set_global (p.flags i) (I32 x) w)) }

  only_calls : {A : Type 0} (q : Action A) → Calls P q → Only q
  only_calls q h = record { only = λ w. all_called P p q w h }

  only_cleared : {A : Type 0} (i saved : ℕ) (q : Action A) → Only q → Only (cleared i saved q)
  only_cleared i saved q h = only_set i 0 _ (only_bind q (λ a. SetFlags i saved (Give a)) h (λ a. only_set i saved (Give a) (only_calls (Give a) (calls_give a))))

-- ---- calls around transfers do not call the callee

module _ (p : ImportPlaces) (u : AdapterTunables) (a : LinkedAdapter) (x : IsCheckedAdapter p a) where
  abbrev D : {A : Type 0} → Action A → Type 0
  D q = Only (Differs a) p q

  one_call : (i : Import) (args : List CoreValue) (ts : List ValType) → Differs a i → Calls (Differs a) (make_call i args ts)
  one_call i args ts h = calls_ask i args ts h (λ rs. calls_give rs)

  when_only : (b : Bool) (i : Import) (args : List CoreValue) → Differs a i → D (when_due b (make_call i args []))
  when_only true i args h = only_calls (Differs a) p (make_call i args []) (one_call i args [] h)
  when_only false i args h = only_calls (Differs a) p none (calls_give [])

  read_only : (b : Bool) → D (read_slots b)
  read_only true = only_calls (Differs a) p (read_slots true) (calls_ask _ [] _ refl (λ x. calls_ask _ [] _ refl (λ y. calls_give _)))
  read_only false = only_calls (Differs a) p (read_slots false) (calls_give _)

  finish_only : (b : Bool) (r : Option CoreDef) (given : List CoreValue) (s : Slotted) → a.lift.post_return ≡ r → D (finish_call b r given s)
  finish_only b None given s e = only_calls (Differs a) p (finish_call b None given s) (calls_give [])
  finish_only false (Some f) given s e = only_calls (Differs a) p (finish_call false (Some f) given s) (calls_ask (import.CoreDef f) given [] (x.own_callee.post_return f e) (λ rs. calls_give _))
  finish_only true (Some f) given s e =
      only_calls (Differs a) p (finish_call true (Some f) given s)
      (calls_ask _ [] _ refl (λ x1. calls_ask _ [] _ refl (λ x2. calls_ask _ _ _ refl (λ x3. calls_ask _ _ _ refl (λ x4.
      calls_ask (import.CoreDef f) given [] (x.own_callee.post_return f e) (λ x5. calls_ask _ _ _ refl (λ x6. calls_ask _ _ _ refl (λ x7. calls_give _))))))))

  params_only : (args : List CoreValue) → D (move_params u a args)
  params_only args = record { only = λ w. params_differ p u a x w args }

  results_only : (given : List CoreValue) (pointer : ℕ) → D (move_results u a given pointer)
  results_only given pointer = record { only = λ w. results_differ p u a x w given pointer }

  -- what follows the callee
  rest : (args : List CoreValue) (saved : ℕ) (given : List CoreValue) → Action (List CoreValue)
  rest args saved given = do
    context ← read_slots (u.concurrency && is_some a.lift.post_return)
    exit_call u a
    results ← cleared a.lower.instance saved (move_results u a given (last_bits args))
    finish_call u.concurrency a.lift.post_return given context
    Give results

  rest_only : (args : List CoreValue) (saved : ℕ) (given : List CoreValue) → D (rest args saved given)
  unfolding rest
  rest_only args saved given =
      only_bind (Differs a) p (read_slots (u.concurrency && is_some a.lift.post_return)) _ (read_only (u.concurrency && is_some a.lift.post_return)) (λ context.
      only_bind (Differs a) p (exit_call u a) _ (when_only (enters u a) import.ExitSyncCall [] refl) (λ r1.
      only_bind (Differs a) p (cleared a.lower.instance saved (move_results u a given (last_bits args))) _ (only_cleared (Differs a) p a.lower.instance saved (move_results u a given (last_bits args)) (results_only given (last_bits args))) (λ results.
      only_bind (Differs a) p (finish_call u.concurrency a.lift.post_return given context) _ (finish_only u.concurrency a.lift.post_return given context refl) (λ r2.
      only_calls (Differs a) p (Give results) (calls_give results)))))

-- ---- a call, and what follows it

-- A call with these arguments in this world, behind which all others have a property.
record AskedFirst (P : Import → Type 0) (i : Import) (args : List CoreValue) (w : World) (cs : List Call) : Type 0 where
  first : Call
  others : List Call
  calls_are : cs ≡ first ∷ others
  what_is : first.what ≡ i
  args_are : first.args ≡ args
  before_is : first.before ≡ w.state
  have : AllCalled P others

module _ {A : Type 0} (P : Import → Type 0) (p : ImportPlaces) (i : Import) (args : List CoreValue) (ts : List ValType) (k : List CoreValue → Action A) (only : (rs : List CoreValue) → Only P p (k rs)) where
  if_only : (b : Bool) (w : World) (e : Ended A) → AllCalled P (calls_in e) → AllCalled P (calls_in (if_typed b w e))
  if_only true w e h = h
  if_only false w e h = tt

  calls_later : (cs : List Call) (e : Ended A) → calls_in (later cs e) ≡ cs ++ calls_in e
  calls_later cs (Gave n ds x w) = refl
  calls_later cs (Halted n ds s w) = refl
  calls_later cs (Strayed n ds w) = refl

  answered_first : (w : World) (left : List Answer) → (calls_in (later (call_of i args w.state left) (with_answer p ts w (asked (p.function i) args w left) (λ rs w'. run p (k rs) w'))) ≡ []) ⊎ AskedFirst P i args w (calls_in (later (call_of i args w.state left) (with_answer p ts w (asked (p.function i) args w left) (λ rs w'. run p (k rs) w'))))
  answered_first w [] = inl refl
  answered_first w (Traps ∷ more) = inr (record { first = record { what = i; args = args; before = w.state; answer = Traps }; others = []; calls_are = refl; what_is = refl; args_are = refl; before_is = refl; have = tt })
  answered_first w (Throws ∷ more) = inr (record { first = record { what = i; args = args; before = w.state; answer = Throws }; others = []; calls_are = refl; what_is = refl; args_are = refl; before_is = refl; have = tt })
  answered_first w (Returns rs state ∷ more) =
      let v : World = record { state = state; answers = more; trace = w.trace ++ Called (record { func = p.function i; args = args; before = w.state; answer = Returns rs state }) ∷ [] } in
      let c : Call = record { what = i; args = args; before = w.state; answer = Returns rs state } in
      let e : Ended A = if_typed (is_answer p ts w.state rs state) v (run p (k rs) v) in
      inr (record {
        first = c;
        others = calls_in e;
        calls_are = calls_later (c ∷ []) e;
        what_is = refl;
        args_are = refl;
        before_is = refl;
        have = if_only (is_answer p ts w.state rs state) v (run p (k rs) v) ((only rs).only v);
      })

  ask_first : (w : World) → (calls_in (run p (Ask i args ts k) w) ≡ []) ⊎ AskedFirst P i args w (calls_in (run p (Ask i args ts k) w))
  ask_first w = answered_first w w.answers

-- ---- the whole, cut at the callee

module _ (p : ImportPlaces) (u : AdapterTunables) (a : LinkedAdapter) (args : List CoreValue) (w : World) where
  -- Parameters were moved and handed to the callee, which is not called again.
  record IsCut (cs : List Call) : Type 0 where
    passed : IsPassedOn p u a args w
    callee : Call
    behind : List Call
    calls_are : cs ≡ calls_before p u a args w passed (callee ∷ behind)
    callee_args : callee.args ≡ passed.core
    callee_before : callee.before.memories ≡ passed.behind_params.state.memories
    none_behind : AllCalled (Differs a) behind

  abbrev MayCut : List Call → Type 0
  MayCut cs = AllCalled (Differs a) cs ⊎ IsCut cs

  module _ (x : IsCheckedAdapter p a) where
    abbrev Only_a : {A : Type 0} → Action A → Type 0
    Only_a q = Only (Differs a) p q

    -- parameters were moved, and the callee is called with them
    calls_callee : (t : IsPassedOn p u a args w) (saved : ℕ) (v : World) → v.state.memories ≡ t.behind_params.state.memories
        → Tells p (make_call (import.CoreDef a.callee) t.core (lift_signature_of a).results >>= (λ given. rest p u a x args saved given)) v (λ ds. MayCut (t.start.enter ++ (t.params ++ ds)))
    calls_callee t saved v same = record { so = by_first _ (ask_first (Differs a) p (import.CoreDef a.callee) t.core (lift_signature_of a).results (λ given. rest p u a x args saved given) (λ given. rest_only p u a x args saved given) v) }
      where
        none_yet : AllCalled (Differs a) (t.start.enter ++ (t.params ++ []))
        none_yet =
            called_append (Differs a) t.start.enter (t.params ++ []) (aside_differs a None t.start.enter (other_none a) t.start.entered.around)
            (called_append (Differs a) t.params [] (subst (λ e. AllCalled (Differs a) (calls_in e)) t.params_run (params_differ p u a x t.start.before_params args)) tt)

        by_first : (ds : List Call) → (ds ≡ []) ⊎ AskedFirst (Differs a) (import.CoreDef a.callee) t.core v ds → MayCut (t.start.enter ++ (t.params ++ ds))
        by_first ds (inl e) = inl (subst (λ ds. AllCalled (Differs a) (t.start.enter ++ (t.params ++ ds))) (sym e) none_yet)
        by_first ds (inr r) = inr (record {
          passed = t;
          callee = r.first;
          behind = r.others;
          calls_are = ap (λ ds. t.start.enter ++ (t.params ++ ds)) r.calls_are;
          callee_args = r.args_are;
          callee_before = ap (λ s. s.memories) r.before_is ∙ same;
          none_behind = r.have;
        })

    sync_cut : flag_in p a.lower.instance w.state.globals ≢ I32 0 → Tells p (sync u a args) w MayCut
    unfolding rest
    sync_cut may_leave =
        tells_flags p a.lower.instance _ w MayCut (inl tt) (λ saved is_saved.
        tells_unless p CannotLeaveComponent (not (nat_eq saved 0)) _ w MayCut (set_if p u a args w saved (λ e. may_leave (is_saved ∙ e))) (
        tells_bind (enter_call u a) _ (parts_when None p (enters u a) import.EnterSyncCall _ w tt) (record { so = inl ((when_only p u a x (enters u a) import.EnterSyncCall _ refl).only w) }) (λ n0 enter r0 w1 entered.
        let around : AllCalled (Differs a) enter = aside_differs a None enter (other_none a) entered.aside.around in
        tells_flags p a.lift.instance _ w1 (λ ds. MayCut (enter ++ ds)) (inl (called_append (Differs a) enter [] around tt)) (λ lift_saved is_lift.
        let start : (v : World) → v.state.memories ≡ w1.state.memories → IsEntered p u a args w = λ v e. record { enter = enter; before_params = v; entered = subst (λ m. Aside None w.state.memories enter m) (sym e) entered.aside; few = entered.few } in
        tells_bind (cleared a.lift.instance lift_saved (move_params u a args)) _
        (parts_cleared p a.lift.instance lift_saved _ w1 (λ n cs core w'. Ran p (move_params u a args) w1 n cs core w') (λ n cs core v e. record { first = _; last = v; ran = e; begins = refl; ends = refl }))
        (record { so = inl (called_append (Differs a) enter _ around ((only_cleared (Differs a) p a.lift.instance lift_saved (move_params u a args) (params_only p u a x args)).only w1)) })
        (λ n1 params core w2 moved.
        calls_callee (record { start = start moved.first moved.begins; params = params; core = core; params_weight = n1; behind_params = moved.last; params_run = moved.ran }) saved w2 moved.ends)))))

-- ---- with the barrier

-- calls behind which others have a property
record Behind (P : Import → Type 0) (before whole : List Call) : Type 0 where
  others : List Call
  calls_are : whole ≡ before ++ others
  have : AllCalled P others

module _ (p : ImportPlaces) (a : LinkedAdapter) where
  barrier : (b : Bool) (e : Ended (List CoreValue)) → Behind (Differs a) (calls_in e) (calls_in (guarded_if b p e))
  barrier false e = record { others = []; calls_are = sym (append-nil (calls_in e)); have = tt }
  barrier true (Gave n cs vs v) = record { others = []; calls_are = sym (append-nil cs); have = tt }
  barrier true (Strayed n cs v) = record { others = []; calls_are = sym (append-nil cs); have = tt }
  barrier true (Halted n cs Trapped v) = record { others = []; calls_are = sym (append-nil cs); have = tt }
  barrier true (Halted n cs Lack v) = record { others = []; calls_are = sym (append-nil cs); have = tt }
  barrier true (Halted n cs Throw v) = record {
    others = calls_in (run p (trap {A = List CoreValue} UncaughtException) v);
    calls_are = calls_behind n cs (run p (trap UncaughtException) v);
    have = all_called (Differs a) p (trap UncaughtException) v (calls_ask (import.Trap UncaughtException) [] [] refl (λ rs. calls_stop));
  }

module _ (p : ImportPlaces) (u : AdapterTunables) (a : LinkedAdapter) (args : List CoreValue) (w : World) (x : IsCheckedAdapter p a) where
  cut_behind : (before whole : List Call) → Behind (Differs a) before whole → MayCut p u a args w before → MayCut p u a args w whole
  cut_behind before whole b (inl h) = inl (subst (AllCalled (Differs a)) (sym b.calls_are) (called_append (Differs a) before b.others h b.have))
  cut_behind before whole b (inr k) = inr (record {
    passed = k.passed;
    callee = k.callee;
    behind = k.behind ++ b.others;
    calls_are =
        b.calls_are ∙ ap (λ l. l ++ b.others) k.calls_are ∙ append_assoc k.passed.start.enter (k.passed.params ++ (k.callee ∷ k.behind)) b.others
        ∙ ap (λ l. k.passed.start.enter ++ l) (append_assoc k.passed.params (k.callee ∷ k.behind) b.others);
    callee_args = k.callee_args;
    callee_before = k.callee_before;
    none_behind = called_append (Differs a) k.behind b.others k.none_behind b.have;
  })

  ended_cut : flag_in p a.lower.instance w.state.globals ≢ I32 0 → MayCut p u a args w (calls_in (ended_sync p u a args w))
  ended_cut may_leave = cut_behind (calls_in (run p (sync u a args) w)) (calls_in (ended_sync p u a args w)) (barrier p a u.exceptions (run p (sync u a args) w)) (sync_cut p u a args w x may_leave).so

-- ---- the callee is found at the cut

module _ (a : LinkedAdapter) where
  is_callee : (c : Call) → c.what ≡ import.CoreDef a.callee → Differs a c.what → ⊥
  is_callee c is differs = false≢true (sym differs ∙ (ap (is_import_of a.callee) is ∙ same_self a.callee))

  not_among : (cs before behind : List Call) (c : Call) → AllCalled (Differs a) cs → cs ≡ before ++ (c ∷ behind) → c.what ≡ import.CoreDef a.callee → ⊥
  not_among [] [] behind c h e is = absurd cc
  not_among [] (b ∷ before) behind c h e is = absurd cc
  not_among (d ∷ cs) [] behind c h e is = let same : d ≡ c = cc in is_callee c is (subst (λ c. Differs a c.what) same h.0)
  not_among (d ∷ cs) (b ∷ before) behind c h e is = let same : cs ≡ before ++ (c ∷ behind) = cc in not_among cs before behind c h.1 same is

  found : (xs ys before behind : List Call) (c d : Call) → AllCalled (Differs a) xs → AllCalled (Differs a) ys → xs ++ (c ∷ ys) ≡ before ++ (d ∷ behind) → d.what ≡ import.CoreDef a.callee → (before ≡ xs) × (d ≡ c)
  found [] ys [] behind c d h k e is = (refl, let same : d ≡ c = cc in same)
  found [] ys (b ∷ before) behind c d h k e is = let same : ys ≡ before ++ (d ∷ behind) = cc in absurd (not_among ys before behind d k same is)
  found (x ∷ xs) ys [] behind c d h k e is = let same : x ≡ d = cc in absurd (is_callee d is (subst (λ d. Differs a d.what) same h.0))
  found (x ∷ xs) ys (b ∷ before) behind c d h k e is =
      let heads : b ≡ x = cc in
      let tails : xs ++ (c ∷ ys) ≡ before ++ (d ∷ behind) = cc in
      let r = found xs ys before behind c d h.1 k tails is in
      (ap (λ l. b ∷ l) r.0 ∙ ap (λ y. y ∷ xs) heads, r.1)

-- ---- honest calls before the callee

module _ (p : ImportPlaces) (u : AdapterTunables) (a : LinkedAdapter) (args : List CoreValue) (w : World) (x : IsCheckedAdapter p a) where
  -- the transfer of parameters, apart from what is around it
  record AreApart (t : IsPassedOn p u a args w) : Type 0 where
    others : List Call
    apart : ParamsApart p u a args w t.start t.params others

  passed_none : (t : IsPassedOn p u a args w) → AllCalled (Differs a) t.params
  passed_none t = subst (λ e. AllCalled (Differs a) (calls_in e)) t.params_run (params_differ p u a x t.start.before_params args)

  are_apart : (t : IsPassedOn p u a args w) (c : Call) (behind : List Call) → AreHonestUntilTrap (AreHonestSync p a args) (calls_before p u a args w t (c ∷ behind)) → AreApart t
  are_apart t c behind (inl h) = record { others = c ∷ behind; apart = params_apart p u a args w t.start t.params (c ∷ behind) (none_calls a t.params (passed_none t)) h }
  are_apart t c behind (inr k) = by_enter (last_behind t.start.enter (t.params ++ (c ∷ behind)) k.front k.last k.calls_are)
    where
      some : c ∷ behind ≡ [] → ⊥
      some e = absurd cc

      by_params : (b : IsBehind t.start.enter (t.params ++ (c ∷ behind)) k.front k.last) → ((c ∷ behind ≡ []) × (t.params ≡ b.rest ++ k.last ∷ [])) ⊎ IsBehind t.params (c ∷ behind) b.rest k.last → AreApart t
      by_params b (inl n) = absurd (some n.0)
      by_params b (inr d) = record {
        others = d.rest;
        apart = params_apart p u a args w t.start t.params d.rest (none_calls a t.params (passed_none t)) (subst (AreHonestSync p a args) (b.front_is ∙ ap (λ l. t.start.enter ++ l) d.front_is) k.front_honest);
      }

      by_enter : ((t.params ++ (c ∷ behind) ≡ []) × (t.start.enter ≡ k.front ++ k.last ∷ [])) ⊎ IsBehind t.start.enter (t.params ++ (c ∷ behind)) k.front k.last → AreApart t
      by_enter (inl n) = absurd (some (both_empty t.params (c ∷ behind) n.0).0)
      by_enter (inr b) = by_params b (last_behind t.params (c ∷ behind) b.rest k.last b.ds_is)

-- ---- what the callee is given

module _ (p : ImportPlaces) (u : AdapterTunables) (b : LinkedAdapter) (args : List CoreValue) (w : World) where
  abbrev a : LinkedAdapter
  a = synced b

  module _ (x : IsCheckedAdapter p a) (texts : TextsMove p u a) (typed : is_state p w.state ≡ true) (args_typed : are_values args (lower_signature_of a).params ≡ true) where
    abbrev trailing : List ValType
    trailing = unless_flat (address (is_wide a.lower.memory) ∷ []) (flat_values (is_wide a.lower.memory) 1 a.lower.results)

    abbrev numeric : AreNumeric (flat_params (is_wide a.lower.memory) 16 a.lower.params ++ trailing)
    numeric = lower_numeric (is_wide a.lower.memory) a.lower.params a.lower.results

    abbrev c : TransferSetting
    c = params_setting p u a x texts w.state typed

    -- parameters that were passed on are carried
    passed_carried : (t : IsPassedOn p (quiet u) a args w) (callee : Call) → callee.args ≡ t.core → callee.before.memories ≡ t.behind_params.state.memories → t.start.before_params.state.memories ≡ w.state.memories
        → AreHonest p a moved_on (landed (params_landing a)) t.params → IsTransferred a.lower.params a.lift.params (params_given p a args w.state) (params_passed p a callee) t.params
    passed_carried t callee is_args is_before begins h = go (params_come_or_never p u a x texts w.state typed args trailing numeric args_typed t.start.before_params begins)
      where
        honest : AreHonestCalls c [] t.params
        honest = params_honest p u a x texts w.state typed args trailing numeric args_typed t.start.before_params begins _ t.params_run h

        go : ((rs : List Value) × ComeBy c a.lower.params a.lift.params (flat_values (is_wide a.lower.memory) 16 a.lower.params) args rs) ⊎ GivesNothing c [] (move_params (quiet u) a args) t.start.before_params
            → IsTransferred a.lower.params a.lift.params (params_given p a args w.state) (params_passed p a callee) t.params
        go (inr never) = absurd (does_give_so c [] _ _ (move_params (quiet u) a args) t.start.before_params t.params_weight t.params t.core t.behind_params never t.params_run honest)
        go (inl h) =
            let rs = h.0 in
            let come = params_are_come p u a x texts w.state typed args trailing numeric args_typed rs h.1 in
            let does = params_does p u a x texts w.state typed args trailing numeric args_typed t.start.before_params begins rs h.1 in
            let went = does_give_so c [] _ _ (move_params (quiet u) a args) t.start.before_params t.params_weight t.params t.core t.behind_params does t.params_run honest in
            (subst (λ core. HasLanded c a.lower.params a.lift.params (params_given p a args w.state) (lift_param_values (to_side c) (side_memory p (options_of a.lift) callee.before) a.lift.params core) t.params (side_memory p (options_of a.lift) callee.before) (flat_all (width_of_side (options_of a.lift)) 16 a.lift.params) core (first_bits core)) (sym is_args)
            (params_landed c a.lower.params a.lift.params x.params_agree (members_formed 0 a.lift.params x.lift_params.formed) rs come.are come.long (params_given p a args w.state) come.given (side_memory p (options_of a.lift) w.state) t.params_weight t.params t.core t.behind_params callee.before is_before went)).transferred

    at_cut : (cs : List Call) → MayCut p (quiet u) a args w cs → AreHonestUntilTrap (AreHonestSync p a args) cs → (before : List Call) (callee : Call) (behind : List Call) → cs ≡ before ++ (callee ∷ behind) → callee.what ≡ import.CoreDef a.callee
        → IsTransferred a.lower.params a.lift.params (params_given p a args w.state) (params_passed p a callee) before
    at_cut cs (inl none) h before callee behind e is = absurd (not_among a cs before behind callee none e is)
    at_cut cs (inr k) h before callee behind e is =
        let t = k.passed in
        let apart = (are_apart p (quiet u) a args w x t k.callee k.behind (subst (AreHonestUntilTrap (AreHonestSync p a args)) k.calls_are h)).apart in
        let r = found a (t.start.enter ++ t.params) k.behind before behind k.callee callee
        (called_append (Differs a) t.start.enter t.params (aside_differs a None t.start.enter (other_none a) t.start.entered.around) (passed_none p (quiet u) a args w x t)) k.none_behind
        (append_assoc t.start.enter t.params (k.callee ∷ k.behind) ∙ sym k.calls_are ∙ e) is in
        let moved = passed_carried t k.callee k.callee_args k.callee_before apart.begins apart.params in
        subst (λ l. IsTransferred a.lower.params a.lift.params (params_given p a args w.state) (params_passed p a callee) l) (sym r.0)
        (subst (λ k. IsTransferred a.lower.params a.lift.params (params_given p a args w.state) (params_passed p a k) (t.start.enter ++ t.params)) (sym r.1)
        (subst (λ l. IsTransferred a.lower.params a.lift.params (params_given p a args w.state) (params_passed p a k.callee) (t.start.enter ++ l)) (append-nil t.params)
        (transferred_among a.lower.params a.lift.params _ _ t.start.enter t.params [] (aside_crosses None t.start.enter t.start.entered.around) refl moved)))

-- ---- of any adapter

abbrev IsGiven : (p : ImportPlaces) (args : List CoreValue) (w : World) → AdapterTunables → LinkedAdapter → Type 0
IsGiven p args w u a =
    flag_in p a.lower.instance w.state.globals ≢ I32 0 → IsCheckedAdapter p a → IsHonestUntilTrap p a args w.state (ended_sync p u a args w)
    → (before : List Call) (callee : Call) (behind : List Call) → calls_in (ended_sync p u a args w) ≡ before ++ (callee ∷ behind) → callee.what ≡ import.CoreDef a.callee
    → IsTransferred a.lower.params a.lift.params (params_given p a args w.state) (params_passed p a callee) before

is_given : (p : ImportPlaces) (args : List CoreValue) (w : World) (u : AdapterTunables) (b : LinkedAdapter) → IsGiven p args w (quiet u) (synced b)
is_given p args w u b may x honest before callee behind e is =
    at_cut p u b args w x (texts_move p u (synced b) x) honest.state_typed honest.args_typed (calls_in (ended_sync p (quiet u) (synced b) args w)) (ended_cut p (quiet u) (synced b) args w x may) honest.honest before callee behind e is

-- debug checks are off
quiet_is : (u : AdapterTunables) → u.debug ≡ false → quiet u ≡ u
quiet_is u h = (λ i. record u { debug = sym h i })

pub callees_are_given : CalleesAreGiven
callees_are_given p u a args w off may x sides honest before callee behind e is =
    subst (λ t. IsGiven p args w t a) (quiet_is u off) (subst (IsGiven p args w (quiet u)) (synced_is a sides) (is_given p args w u a)) may x honest before callee behind e is
