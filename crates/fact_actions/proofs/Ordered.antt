-- The calls of a sync adapter that returns are ordered.
use Rattle.std.proofs.Common.{◌≡◌, ℕ, zero, suc, Bool, true, false, List, [], ◌∷◌, ◌++◌, map, Option, Some, None, refl, sym, ap, ◌∙◌, subst, arith, append-nil}
use Rattle.std.specs.Prelude.{not, nat_eq, ◌&&◌, slice_get, slice_set, is_some}
use Rattle.fact_types.specs.declared.outside.CoreDef.{CoreDef}
use Rattle.fact_types.specs.declared.outside.Trap.{Trap as Reason}
use Rattle.fact_types.specs.declared.outside.Trap.TheVariants.{CannotLeaveComponent, UncaughtException}
use Rattle.fact_types.specs.declared.outside.UnsafeIntrinsic.TheVariants as slot
use Rattle.fact_machine.specs.declared.types.CoreValue.{CoreValue}
use Rattle.fact_machine.specs.declared.types.CoreValue.TheVariants.{I32, I64, F32, F64, Func}
use Rattle.fact_machine.specs.World.{World, Trap, Throw, Lack, set_global}
use Rattle.fact_machine.specs.Machine.{i32_of}
use Rattle.fact_types.specs.declared.import.Import.{Import}
use Rattle.fact_types.specs.declared.import.Import.TheVariants as import
use Rattle.fact_types.specs.Adapters.{LinkedAdapter}
use Rattle.fact_values.specs.Lift.{bits_of}
use Rattle.fact_actions.specs.Actions.{Action, Give, SetFlags, ◌>>=◌, ◌>>◌, trap, unless}
use Rattle.fact_actions.specs.Running.{ImportPlaces, Call, Ended, Gave, Halted, Strayed, later, run}
use Rattle.fact_actions.specs.Adapters.{AdapterTunables, Slotted, none, when_due, get_flags, cleared, make_call, enters, enter_call, exit_call, read_slots, finish_call, last_bits, params_transfer, results_transfer, move_params, move_results, sync, async_start, async_return}
use Rattle.fact_actions.specs.Sides.{LiftLowerOptions, options_of}
use Rattle.fact_actions.specs.Order.{asks, get_slot, set_slot, result_of, where_due, post_return_calls, KeepsGlobals, flag_in, with_flag, AreOrderedCalls, IsTransfer}
use Rattle.fact_actions.specs.Plain.{guarded_if, ended_sync}
use Rattle.fact_actions.proofs.Passed.{params_kept, results_kept}
use Rattle.fact_actions.proofs.Whenever.{Whenever, whenever_heavier, whenever_later, whenever_stray, Runs, runs_bind, runs_ask, runs_trap}
use Rattle.fact_actions.proofs.Orderly.{keeps_from, keeps_on, keeps_call, pair, IsTidy, orderly_kept}

-- ---- flags

IsNothing : Option ℕ → Type 0
IsNothing None = Unit {0}
IsNothing (Some n) = ⊥

nothing : {A : Type 0} (n : ℕ) → None ≡ Some n → A
unfolding IsNothing
nothing n e = absurd (subst IsNothing e tt)

flag_value : (v : CoreValue) (n : ℕ) → i32_of v ≡ Some n → v ≡ I32 n
flag_value (I32 m) n e = ap (λ o. I32 (elim o [ None ↦ m | Some x ↦ x ])) e
flag_value (I64 m) n e = nothing n e
flag_value (F32 m) n e = nothing n e
flag_value (F64 m) n e = nothing n e
flag_value (Func f) n e = nothing n e

pub runs_flags : {A : Type 0} (p : ImportPlaces) (i : ℕ) (f : ℕ → Action A) (w : World) (R : List Call → A → World → Type 0)
    → ((n : ℕ) → flag_in p i w.state.globals ≡ I32 n → Runs p (f n) w R) → Runs p (get_flags i >>= f) w R
runs_flags p i f w R h = record {
  so =
      whenever_stray w (slice_get w.state.globals (p.flags i)) _ R (λ v e. whenever_stray w (i32_of v) _ R (λ n e'.
      (h n (ap (λ o. elim o [ None ↦ I32 0 | Some x ↦ x ]) e ∙ flag_value v n e')).so));
}

pub runs_unless : {A : Type 0} (p : ImportPlaces) (t : Reason) (b : Bool) (q : Action A) (w : World) (R : List Call → A → World → Type 0) → (b ≡ true → Runs p q w R) → Runs p (unless t b none >> q) w R
runs_unless p t true q w R h = h refl
runs_unless p t false q w R h = runs_ask (λ c rs w' g. record { so = tt })

not_zero : (n : ℕ) → not (nat_eq n 0) ≡ true → I32 n ≡ I32 0 → ⊥
not_zero zero t e = absurd (subst IsSet t tt)
  where
    IsSet : Bool → Type 0
    IsSet true = ⊥
    IsSet false = Unit {0}
not_zero (suc n) t e = let h : suc n ≡ 0 = ap bits_of e in omega arith

-- the flags of an instance are 0 for a while
runs_cleared : {A : Type 0} (p : ImportPlaces) (i saved : ℕ) (q : Action A) (w : World) (Q : List Call → A → World → Type 0) (R : List Call → A → World → Type 0)
    → Runs p q (set_global (p.flags i) (I32 0) w) Q
    → ((cs : List Call) (a : A) (u w' : World) → Q cs a u → w'.state.globals ≡ slice_set u.state.globals (p.flags i) (I32 saved) → R cs a w')
    → Runs p (cleared i saved q) w R
runs_cleared p i saved q w Q R h g = record {
  so =
      whenever_stray w (slice_get w.state.globals (p.flags i)) _ R (λ v e.
      (runs_bind q (λ a. SetFlags i saved (Give a)) h (λ cs a u t. record {
        so =
            whenever_stray u (slice_get u.state.globals (p.flags i)) _ _ (λ v' e'. subst (λ l. R l a (set_global (p.flags i) (I32 saved) u)) (sym (append-nil cs)) (g cs a u _ t refl));
      })).so);
}

-- ---- single calls

runs_when : (p : ImportPlaces) (b : Bool) (i : Import) (args : List CoreValue) (w : World)
    → Runs p (when_due b (make_call i args [])) w (λ cs r w'. (map asks cs ≡ where_due b ((i, args) ∷ [])) × KeepsGlobals w.state.globals cs w'.state.globals)
runs_when p true i args w = runs_ask (λ c rs w' g. record { so = (ap (λ x. x ∷ []) g.asked, keeps_call [] _ g refl) })
runs_when p false i args w = record { so = (refl, refl) }

runs_read : (p : ImportPlaces) (b : Bool) (w : World)
    → Runs p (read_slots b) w (λ cs s w'. (map asks cs ≡ where_due b (get_slot slot.ContextGetI32_0 ∷ get_slot slot.ContextGetI32_1 ∷ []))
    × KeepsGlobals w.state.globals cs w'.state.globals × (s.first ≡ result_of cs 0) × (s.second ≡ result_of cs 1))
runs_read p true w = runs_ask (λ c x u g. runs_ask (λ d y v h. record { so = (pair g.asked (pair h.asked refl), keeps_call (d ∷ []) _ g (keeps_call [] _ h refl), sym g.gave, sym h.gave) }))
runs_read p false w = record { so = (refl, refl, refl, refl) }

-- ---- post-return

-- with concurrency on, the seven calls
runs_finish_true : (p : ImportPlaces) (f : CoreDef) (given : List CoreValue) (s : Slotted) (reads : List Call) (w : World) → s.first ≡ result_of reads 0 → s.second ≡ result_of reads 1
    → Runs p (finish_call true (Some f) given s) w (λ cs r w'. (map asks cs ≡ post_return_calls true (Some f) given reads cs) × KeepsGlobals w.state.globals cs w'.state.globals)
runs_finish_true p f given s reads w h0 h1 =
    runs_ask (λ a x wa ga. runs_ask (λ b y wb gb. runs_ask (λ c rc wc gc. runs_ask (λ d rd wd gd. runs_ask (λ e re we ge. runs_ask (λ g rg wg gg. runs_ask (λ i ri wi gi.
    record {
      so = (
        pair ga.asked (pair gb.asked (
            pair (gc.asked ∙ ap (λ z. set_slot slot.ContextSetI32_0 z) h0) (pair (gd.asked ∙ ap (λ z. set_slot slot.ContextSetI32_1 z) h1) (
            pair ge.asked (
            pair (gg.asked ∙ ap (λ z. set_slot slot.ContextSetI32_0 z) (sym ga.gave)) (pair (gi.asked ∙ ap (λ z. set_slot slot.ContextSetI32_1 z) (sym gb.gave)) refl)))))),
        let last = wi.state.globals in
            keeps_call (b ∷ c ∷ d ∷ e ∷ g ∷ i ∷ []) last ga (keeps_call (c ∷ d ∷ e ∷ g ∷ i ∷ []) last gb (keeps_call (d ∷ e ∷ g ∷ i ∷ []) last gc (
            keeps_call (e ∷ g ∷ i ∷ []) last gd (keeps_call (g ∷ i ∷ []) last ge (keeps_call (i ∷ []) last gg (keeps_call [] last gi refl)))))),
      );
    })))))))

runs_finish : (p : ImportPlaces) (b : Bool) (f : Option CoreDef) (given : List CoreValue) (s : Slotted) (reads : List Call) (w : World) → s.first ≡ result_of reads 0 → s.second ≡ result_of reads 1
    → Runs p (finish_call b f given s) w (λ cs r w'. (map asks cs ≡ post_return_calls b f given reads cs) × KeepsGlobals w.state.globals cs w'.state.globals)
runs_finish p b None given s reads w h0 h1 = record { so = (refl, refl) }
runs_finish p true (Some f) given s reads w h0 h1 = runs_finish_true p f given s reads w h0 h1
runs_finish p false (Some f) given s reads w h0 h1 = runs_ask (λ c rs w' g. record { so = (ap (λ x. x ∷ []) g.asked, keeps_call [] _ g refl) })

-- ---- the whole

-- values were moved with the flags of an instance at 0, which were then set to a number
record Moved (p : ImportPlaces) (concurrency : Bool) (i saved : ℕ) (from to : LiftLowerOptions) (w : World) (cs : List Call) (w' : World) : Type 0 where
  behind : World
  tidy : IsTidy concurrency from to (set_global (p.flags i) (I32 0) w) cs behind
  globals : w'.state.globals ≡ slice_set behind.state.globals (p.flags i) (I32 saved)

module _ (p : ImportPlaces) (u : AdapterTunables) (a : LinkedAdapter) (args : List CoreValue) where
  runs_sync : (w : World) → Runs p (sync u a args) w (λ cs vs w'. AreOrderedCalls p u a w.state cs w'.state)
  runs_sync w =
      runs_flags p a.lower.instance _ w _ (λ saved is_saved.
      runs_unless p CannotLeaveComponent (not (nat_eq saved 0)) _ w (λ cs vs w'. AreOrderedCalls p u a w.state cs w'.state) (λ is_set.
      runs_bind (enter_call u a) _ (runs_when p (enters u a) import.EnterSyncCall _ w) (λ enter r0 w1 entered.
      runs_flags p a.lift.instance _ w1 _ (λ lift_saved is_lift.
      runs_bind (cleared a.lift.instance lift_saved (move_params u a args)) _
      (runs_cleared p a.lift.instance lift_saved _ w1 _ (λ cs core w'. Moved p u.concurrency a.lift.instance lift_saved (options_of a.lower) (options_of a.lift) w1 cs w')
      ((params_kept u a (orderly_kept (params_transfer u a)) args).at p _) (λ cs core v w' t e. record { behind = v; tidy = t; globals = e }))
      (λ params core w2 moved.
      runs_ask (λ callee given w3 answered.
      runs_bind (read_slots (u.concurrency && is_some a.lift.post_return)) _ (runs_read p (u.concurrency && is_some a.lift.post_return) w3) (λ reads context w4 is_read.
      runs_bind (exit_call u a) _ (runs_when p (enters u a) import.ExitSyncCall [] w4) (λ exit r1 w5 exited.
      runs_bind (cleared a.lower.instance saved (move_results u a given (last_bits args))) _
      (runs_cleared p a.lower.instance saved _ w5 _ (λ cs vs w'. Moved p u.concurrency a.lower.instance saved (options_of a.lift) (options_of a.lower) w5 cs w')
      ((results_kept u a (orderly_kept (results_transfer u a)) given (last_bits args)).at p _) (λ cs vs v w' t e. record { behind = v; tidy = t; globals = e }))
      (λ back vs w6 moved_back.
      runs_bind (finish_call u.concurrency a.lift.post_return given context) _ (runs_finish p u.concurrency a.lift.post_return given context reads w6 is_read.2 is_read.3) (λ finish r2 w7 finished.
      record {
        so = record {
          enter = enter;
          params = params;
          callee = callee;
          reads = reads;
          exit = exit;
          results_moved = back;
          finish = finish;
          calls_are = ap (λ l. enter ++ (params ++ (callee ∷ (reads ++ (exit ++ (back ++ l)))))) (append-nil finish);
          enter_is = entered.0;
          params_are = moved.tidy.calls;
          callee_is = ap (λ x. x.0) answered.asked;
          reads_are = is_read.0;
          exit_is = exited.0;
          results_are = moved_back.tidy.calls;
          finish_is = finished.0 ∙ ap (λ g. post_return_calls u.concurrency a.lift.post_return g reads finish) (sym answered.gave);
          may_leave = λ e. not_zero saved is_set (sym is_saved ∙ e);
          before_params = w1.state.globals;
          behind_params = moved.behind.state.globals;
          to_params = entered.1;
          in_params = moved.tidy.globals;
          at_callee = ap (λ s. s.globals) answered.before ∙ moved.globals ∙ ap (λ v. with_flag p a.lift.instance v moved.behind.state.globals) (sym is_lift);
          before_results = w5.state.globals;
          behind_results = moved_back.behind.state.globals;
          to_results = keeps_from (reads ++ exit) w5.state.globals (ap (λ s. s.globals) (sym answered.behind)) (keeps_on w3.state.globals reads w4.state.globals exit w5.state.globals is_read.1 exited.1);
          in_results = moved_back.tidy.globals;
          to_end = keeps_from finish w7.state.globals (moved_back.globals ∙ ap (λ v. with_flag p a.lower.instance v moved_back.behind.state.globals) (sym is_saved)) finished.1;
        };
      }))))))))))

-- what is caught gives nothing
pub whenever_guarded : {A : Type 0} (p : ImportPlaces) (b : Bool) (e : Ended A) (Q : List Call → A → World → Type 0) → Whenever e Q → Whenever (guarded_if b p e) Q
whenever_guarded p false e Q h = h
whenever_guarded p true (Gave n cs a w) Q h = h
whenever_guarded p true (Halted n cs Trap w) Q h = tt
whenever_guarded p true (Halted n cs Lack w) Q h = tt
whenever_guarded p true (Halted n cs Throw w) Q h =
    whenever_heavier n (later cs (run p (trap UncaughtException) w)) Q (whenever_later cs (run p (trap UncaughtException) w) Q (runs_trap p UncaughtException w _).so)
whenever_guarded p true (Strayed n cs w) Q h = tt

pub calls_are_ordered : (p : ImportPlaces) (u : AdapterTunables) (a : LinkedAdapter) (args : List CoreValue) (w w' : World) (n : ℕ) (cs : List Call) (vs : List CoreValue)
    → ended_sync p u a args w ≡ Gave n cs vs w' → AreOrderedCalls p u a w.state cs w'.state
calls_are_ordered p u a args w w' n cs vs e =
    subst (λ x. Whenever x (λ ds rs w''. AreOrderedCalls p u a w.state ds w''.state)) e (whenever_guarded p u.exceptions (run p (sync u a args) w) _ (runs_sync p u a args w).so)

-- ---- async adapters

module _ (p : ImportPlaces) (u : AdapterTunables) (a : LinkedAdapter) (args : List CoreValue) where
  runs_start : (w : World) → Runs p (async_start u a args) w (λ cs vs w'. IsTransfer p u.concurrency a.lift.instance (options_of a.lower) (options_of a.lift) w.state cs w'.state)
  runs_start w = runs_flags p a.lift.instance _ w _ (λ saved is_saved.
      runs_cleared p a.lift.instance saved _ w _ _ ((params_kept u a (orderly_kept (params_transfer u a)) args).at p _) (λ cs vs v w' t e.
      record { are = t.calls; behind = v.state.globals; meanwhile = t.globals; restored = e ∙ ap (λ x. with_flag p a.lift.instance x v.state.globals) (sym is_saved) }))

  runs_return : (w : World) → Runs p (async_return u a args) w (λ cs vs w'. IsTransfer p u.concurrency a.lower.instance (options_of a.lift) (options_of a.lower) w.state cs w'.state)
  runs_return w = runs_flags p a.lower.instance _ w _ (λ saved is_saved.
      runs_cleared p a.lower.instance saved _ w _ _ ((results_kept u a (orderly_kept (results_transfer u a)) args (last_bits args)).at p _) (λ cs vs v w' t e.
      record { are = t.calls; behind = v.state.globals; meanwhile = t.globals; restored = e ∙ ap (λ x. with_flag p a.lower.instance x v.state.globals) (sym is_saved) }))

pub start_is_transfer : (p : ImportPlaces) (u : AdapterTunables) (a : LinkedAdapter) (args : List CoreValue) (w w' : World) (n : ℕ) (cs : List Call) (vs : List CoreValue)
    → run p (async_start u a args) w ≡ Gave n cs vs w' → IsTransfer p u.concurrency a.lift.instance (options_of a.lower) (options_of a.lift) w.state cs w'.state
start_is_transfer p u a args w w' n cs vs e =
    subst (λ x. Whenever x (λ ds rs w''. IsTransfer p u.concurrency a.lift.instance (options_of a.lower) (options_of a.lift) w.state ds w''.state)) e (runs_start p u a args w).so

pub return_is_transfer : (p : ImportPlaces) (u : AdapterTunables) (a : LinkedAdapter) (args : List CoreValue) (w w' : World) (n : ℕ) (cs : List Call) (vs : List CoreValue)
    → run p (async_return u a args) w ≡ Gave n cs vs w' → IsTransfer p u.concurrency a.lower.instance (options_of a.lift) (options_of a.lower) w.state cs w'.state
return_is_transfer p u a args w w' n cs vs e =
    subst (λ x. Whenever x (λ ds rs w''. IsTransfer p u.concurrency a.lower.instance (options_of a.lift) (options_of a.lower) w.state ds w''.state)) e (runs_return p u a args w).so
