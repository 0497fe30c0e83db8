-- A run of a sync adapter that gives something, taken apart at the call of the callee.
use Rattle.std.proofs.Common.{◌≡◌, ◌≢◌, ℕ, zero, suc, ◌+◌, Bool, true, false, List, [], ◌∷◌, ◌++◌, length, ◌≤◌, Option, Some, None, refl, sym, ap, ◌∙◌, subst, arith, append-nil, append_assoc}
use Rattle.std.proofs.lemmas.Bool.{false≢true}
use Rattle.fact_types.proofs.ShapeLaws.{none_some}
use Rattle.fact_values.specs.Lift.{bits_of}
use Rattle.std.specs.Prelude.{not, nat_eq, ◌&&◌, slice_get, is_some}
use Rattle.fact_types.specs.declared.outside.CoreDef.{CoreDef}
use Rattle.fact_types.specs.declared.outside.Trap.TheVariants.{CannotLeaveComponent, UncaughtException}
use Rattle.fact_machine.specs.declared.types.CoreValue.{CoreValue}
use Rattle.fact_machine.specs.declared.types.CoreValue.TheVariants.{I32, I64, F32, F64, Func}
use Rattle.fact_machine.specs.World.{World, Trap, Throw, Lack}
use Rattle.fact_types.specs.declared.import.Import.{Import}
use Rattle.fact_types.specs.declared.import.Import.TheVariants as import
use Rattle.fact_actions.specs.Actions.{Action, ◌>>=◌, trap}
use Rattle.fact_types.specs.Adapters.{LinkedAdapter}
use Rattle.fact_actions.specs.Adapters.{AdapterTunables, Slotted, when_due, get_flags, cleared, make_call, enters, enter_call, exit_call, read_slots, finish_call, last_bits, move_params, move_results, sync, lift_signature_of}
use Rattle.fact_actions.specs.Calls.{results, state_after}
use Rattle.fact_actions.specs.Order.{flag_in}
use Rattle.fact_actions.specs.Plain.{guarded_if, ended_sync}
use Rattle.fact_actions.specs.Running.{ImportPlaces, Call, Ended, Gave, Halted, Strayed, later, run, is_state}
use Rattle.fact_machine.specs.Machine.{i32_of}
use Rattle.fact_actions.proofs.Whenever.{IsCall}
use Rattle.fact_action_laws.specs.Items.{crossing, crossings}
use Rattle.fact_action_laws.proofs.Parting.{When, TakenApart, parts_bind, parts_ask, parts_unless, parts_cleared, when_stray, when_heavier, when_later}
use Rattle.fact_machine.specs.Typed.{are_values}
use Rattle.fact_action_laws.proofs.Targets.{left_true, right_true}

-- ---- calls around transfers

-- Calls one after another between which the memories stay.
abbrev pub Follow : (first : List (List ℕ)) → List Call → (last : List (List ℕ)) → Type 0
Follow first [] last = last ≡ first
Follow first (c ∷ cs) last = (c.before.memories ≡ first) × Follow (state_after c).memories cs last

-- what is called around transfers beside the callee
abbrev pub IsAround : (post_return : Option CoreDef) → Import → Type 0
IsAround r (import.CoreDef d) = r ≡ Some d
IsAround r import.EnterSyncCall = Unit {0}
IsAround r import.ExitSyncCall = Unit {0}
IsAround r (import.UnsafeIntrinsic s) = Unit {0}
IsAround r i = ⊥

abbrev pub AreAround : Option CoreDef → List Call → Type 0
AreAround r [] = Unit {0}
AreAround r (c ∷ cs) = IsAround r c.what × AreAround r cs

-- calls around transfers, from memories to memories
pub record Aside (r : Option CoreDef) (first : List (List ℕ)) (cs : List Call) (last : List (List ℕ)) : Type 0 where
  pub around : AreAround r cs
  pub follow : Follow first cs last

pub follow_append : (first : List (List ℕ)) (cs : List Call) (mid : List (List ℕ)) (ds : List Call) (last : List (List ℕ)) → Follow first cs mid → Follow mid ds last → Follow first (cs ++ ds) last
follow_append first [] mid ds last h k = subst (λ m. Follow m ds last) h k
follow_append first (c ∷ cs) mid ds last h k = (h.0, follow_append (state_after c).memories cs mid ds last h.1 k)

pub around_append : (r : Option CoreDef) (cs ds : List Call) → AreAround r cs → AreAround r ds → AreAround r (cs ++ ds)
around_append r [] ds h k = k
around_append r (c ∷ cs) ds h k = (h.0, around_append r cs ds h.1 k)

pub aside_append : (r : Option CoreDef) (first : List (List ℕ)) (cs : List Call) (mid : List (List ℕ)) (ds : List Call) (last : List (List ℕ)) → Aside r first cs mid → Aside r mid ds last → Aside r first (cs ++ ds) last
aside_append r first cs mid ds last h k = record { around = around_append r cs ds h.around k.around; follow = follow_append first cs mid ds last h.follow k.follow }

aside_none : (r : Option CoreDef) (ms : List (List ℕ)) → Aside r ms [] ms
aside_none r ms = record { around = tt; follow = refl }

aside_call : (r : Option CoreDef) (c : Call) (i : Import) (args rs : List CoreValue) (w w' : World) (cs : List Call) (last : List (List ℕ)) → IsCall c i args w rs w' → IsAround r i → Aside r w'.state.memories cs last → Aside r w.state.memories (c ∷ cs) last
aside_call r c i args rs w w' cs last g a h = record {
  around = (subst (IsAround r) (sym (ap (λ x. x.0) g.asked)) a, h.around);
  follow = (ap (λ s. s.memories) g.before, subst (λ s. Follow s.memories cs last) (sym g.behind) h.follow);
}

-- they move no handles
around_crosses : (r : Option CoreDef) (i : Import) (args : List CoreValue) → IsAround r i → crossing i args ≡ []
around_crosses r (import.CoreDef d) args h = refl
around_crosses r (import.Transcode o from from64 to to64) args h = refl
around_crosses r (import.PrepareCall memory) args h = refl
around_crosses r (import.StartCall callback function) args h = refl
around_crosses r import.ResourceTransferOwn args h = absurd h
around_crosses r import.ResourceTransferBorrow args h = absurd h
around_crosses r import.FutureTransfer args h = absurd h
around_crosses r import.StreamTransfer args h = absurd h
around_crosses r import.ErrorContextTransfer args h = absurd h
around_crosses r (import.Trap t) args h = refl
around_crosses r import.EnterSyncCall args h = refl
around_crosses r import.ExitSyncCall args h = refl
around_crosses r (import.UnsafeIntrinsic s) args h = refl

pub aside_crosses : (r : Option CoreDef) (cs : List Call) → AreAround r cs → crossings cs ≡ []
aside_crosses r [] h = refl
aside_crosses r (c ∷ cs) h = ap (λ l. l ++ crossings cs) (around_crosses r c.what c.args h.0) ∙ aside_crosses r cs h.1

-- ---- single steps

-- what is done beside, with at most so many calls, weighs nothing
pub record IsBeside (most : ℕ) (r : Option CoreDef) (w : World) (n : ℕ) (cs : List Call) (w' : World) : Type 0 where
  pub weightless : n ≡ 0
  pub few : length cs ≤ most
  pub aside : Aside r w.state.memories cs w'.state.memories

pub parts_when : (r : Option CoreDef) (p : ImportPlaces) (b : Bool) (i : Import) (args : List CoreValue) (w : World) → IsAround r i → TakenApart p (when_due b (make_call i args [])) w (λ n cs x w'. IsBeside 1 r w n cs w')
parts_when r p true i args w a = parts_ask (λ c rs w' g e. record { so = record { weightless = refl; few = omega arith; aside = aside_call r c i args rs w w' [] w'.state.memories g a (aside_none r w'.state.memories) } })
parts_when r p false i args w a = record { so = record { weightless = refl; few = omega arith; aside = aside_none r w.state.memories } }

pub parts_read : (r : Option CoreDef) (p : ImportPlaces) (b : Bool) (w : World) → TakenApart p (read_slots b) w (λ n cs x w'. IsBeside 2 r w n cs w')
parts_read r p true w = parts_ask (λ c x u g e. parts_ask (λ d y v h f. record {
  so = record {
    weightless = refl;
    few = omega arith;
    aside = aside_call r c _ _ x w u (d ∷ []) v.state.memories g tt (aside_call r d _ _ y u v [] v.state.memories h tt (aside_none r v.state.memories));
  };
}))
parts_read r p false w = record { so = record { weightless = refl; few = omega arith; aside = aside_none r w.state.memories } }

pub parts_finish : (p : ImportPlaces) (b : Bool) (r : Option CoreDef) (given : List CoreValue) (s : Slotted) (w : World) → TakenApart p (finish_call b r given s) w (λ n cs x w'. IsBeside 7 r w n cs w')
parts_finish p b None given s w = record { so = record { weightless = refl; few = omega arith; aside = aside_none None w.state.memories } }
parts_finish p false (Some f) given s w = parts_ask (λ c rs w' g e. record { so = record { weightless = refl; few = omega arith; aside = aside_call (Some f) c _ _ rs w w' [] w'.state.memories g refl (aside_none (Some f) w'.state.memories) } })
parts_finish p true (Some f) given s w =
    parts_ask (λ c1 r1 w1 g1 e1. parts_ask (λ c2 r2 w2 g2 e2. parts_ask (λ c3 r3 w3 g3 e3. parts_ask (λ c4 r4 w4 g4 e4. parts_ask (λ c5 r5 w5 g5 e5. parts_ask (λ c6 r6 w6 g6 e6. parts_ask (λ c7 r7 w7 g7 e7.
    let last = w7.state.memories in
    record {
      so = record {
        weightless = refl;
        few = omega arith;
        aside =
            aside_call (Some f) c1 _ _ r1 w w1 _ last g1 tt (aside_call (Some f) c2 _ _ r2 w1 w2 _ last g2 tt (aside_call (Some f) c3 _ _ r3 w2 w3 _ last g3 tt (aside_call (Some f) c4 _ _ r4 w3 w4 _ last g4 tt (
            aside_call (Some f) c5 _ _ r5 w4 w5 _ last g5 refl (aside_call (Some f) c6 _ _ r6 w5 w6 _ last g6 tt (aside_call (Some f) c7 _ _ r7 w6 w7 [] last g7 tt (aside_none (Some f) last)))))));
      };
    })))))))

-- ---- flags

pub flag_value : (v : CoreValue) (n : ℕ) → i32_of v ≡ Some n → v ≡ I32 n
flag_value (I32 m) n e = ap (λ o. I32 (elim o [ None ↦ m | Some x ↦ x ])) e
flag_value (I64 m) n e = absurd (none_some None n refl e)
flag_value (F32 m) n e = absurd (none_some None n refl e)
flag_value (F64 m) n e = absurd (none_some None n refl e)
flag_value (Func f) n e = absurd (none_some None n refl e)

pub parts_flags : {A : Type 0} (p : ImportPlaces) (i : ℕ) (f : ℕ → Action A) (w : World) (R : ℕ → List Call → A → World → Type 0)
    → ((n : ℕ) → flag_in p i w.state.globals ≡ I32 n → TakenApart p (f n) w R) → TakenApart p (get_flags i >>= f) w R
parts_flags p i f w R h = record {
  so =
      when_stray w (slice_get w.state.globals (p.flags i)) _ R (λ v e. when_stray w (i32_of v) _ R (λ n e'.
      (h n (ap (λ o. elim o [ None ↦ I32 0 | Some x ↦ x ]) e ∙ flag_value v n e')).so));
}

pub not_zero : (n : ℕ) → not (nat_eq n 0) ≡ true → I32 n ≡ I32 0 → ⊥
not_zero zero t e = false≢true t
not_zero (suc n) t e = let h : suc n ≡ 0 = ap bits_of e in omega (arith, h)

-- ---- the whole

-- What a run that gave something came to: both transfers ran, and the callee was called between them.
pub record IsParted (p : ImportPlaces) (u : AdapterTunables) (a : LinkedAdapter) (args : List CoreValue) (w : World) (n : ℕ) (cs : List Call) (vs : List CoreValue) (w' : World) : Type 0 where
  pub may_leave : flag_in p a.lower.instance w.state.globals ≢ I32 0
  pub enter : List Call
  pub params : List Call
  pub callee : Call
  pub between : List Call
  pub back : List Call
  pub finish : List Call
  pub calls_are : cs ≡ enter ++ (params ++ (callee ∷ (between ++ (back ++ finish))))
  -- the transfer of parameters
  pub before_params : World
  pub core : List CoreValue
  pub params_weight : ℕ
  pub behind_params : World
  pub params_run : run p (move_params u a args) before_params ≡ Gave params_weight params core behind_params
  -- the callee
  pub callee_is : callee.what ≡ import.CoreDef a.callee
  pub callee_args : callee.args ≡ core
  pub callee_before : callee.before.memories ≡ behind_params.state.memories
  pub answer_typed : are_values (results callee) (lift_signature_of a).results ≡ true
  pub answer_state : is_state p (state_after callee) ≡ true
  -- the transfer of results
  pub before_results : World
  pub results_weight : ℕ
  pub behind_results : World
  pub results_run : run p (move_results u a (results callee) (last_bits args)) before_results ≡ Gave results_weight back vs behind_results
  pub weight_is : n ≡ params_weight + results_weight
  -- what is called around them
  pub entered : Aside None w.state.memories enter before_params.state.memories
  pub left : Aside None (state_after callee).memories between before_results.state.memories
  pub finished : Aside a.lift.post_return behind_results.state.memories finish w'.state.memories

-- a transfer that ran between two worlds, but for flags
pub record Ran (p : ImportPlaces) (q : Action (List CoreValue)) (w1 : World) (n : ℕ) (cs : List Call) (vs : List CoreValue) (w2 : World) : Type 0 where
  pub first : World
  pub last : World
  pub ran : run p q first ≡ Gave n cs vs last
  pub begins : first.state.memories ≡ w1.state.memories
  pub ends : w2.state.memories ≡ last.state.memories

module _ (p : ImportPlaces) (u : AdapterTunables) (a : LinkedAdapter) (args : List CoreValue) where
  parts_sync : (w : World) → TakenApart p (sync u a args) w (λ n cs vs w'. IsParted p u a args w n cs vs w')
  parts_sync w =
      parts_flags p a.lower.instance _ w _ (λ saved is_saved.
      parts_unless p CannotLeaveComponent (not (nat_eq saved 0)) _ w (λ n cs vs w'. IsParted p u a args w n cs vs w') (λ is_set.
      parts_bind (enter_call u a) _ (parts_when None p (enters u a) import.EnterSyncCall _ w tt) (λ n0 enter r0 w1 entered.
      parts_flags p a.lift.instance _ w1 _ (λ lift_saved is_lift.
      parts_bind (cleared a.lift.instance lift_saved (move_params u a args)) _
      (parts_cleared p a.lift.instance lift_saved _ w1 (λ n cs core w'. Ran p (move_params u a args) w1 n cs core w') (λ n cs core v e. record { first = _; last = v; ran = e; begins = refl; ends = refl }))
      (λ n1 params core w2 moved.
      parts_ask (λ callee given w3 answered typed.
      parts_bind (read_slots (u.concurrency && is_some a.lift.post_return)) _ (parts_read None p (u.concurrency && is_some a.lift.post_return) w3) (λ n2 reads context w4 is_read.
      parts_bind (exit_call u a) _ (parts_when None p (enters u a) import.ExitSyncCall [] w4 tt) (λ n3 exit r1 w5 exited.
      parts_bind (cleared a.lower.instance saved (move_results u a given (last_bits args))) _
      (parts_cleared p a.lower.instance saved _ w5 (λ n cs vs w'. Ran p (move_results u a given (last_bits args)) w5 n cs vs w') (λ n cs vs v e. record { first = _; last = v; ran = e; begins = refl; ends = refl }))
      (λ n4 back vs w6 moved_back.
      parts_bind (finish_call u.concurrency a.lift.post_return given context) _ (parts_finish p u.concurrency a.lift.post_return given context w6) (λ n5 finish r2 w7 finished.
      record {
        so = record {
          may_leave = λ e. not_zero saved is_set (sym is_saved ∙ e);
          enter = enter;
          params = params;
          callee = callee;
          between = reads ++ exit;
          back = back;
          finish = finish;
          calls_are =
              ap (λ l. enter ++ (params ++ (callee ∷ (reads ++ (exit ++ (back ++ l)))))) (append-nil finish)
              ∙ ap (λ l. enter ++ (params ++ (callee ∷ l))) (sym (append_assoc reads exit (back ++ finish)));
          before_params = moved.first;
          core = core;
          params_weight = n1;
          behind_params = moved.last;
          params_run = moved.ran;
          callee_is = ap (λ x. x.0) answered.asked;
          callee_args = ap (λ x. x.1) answered.asked;
          callee_before = ap (λ s. s.memories) answered.before ∙ moved.ends;
          answer_typed = subst (λ g. are_values g (lift_signature_of a).results ≡ true) (sym answered.gave) (left_true (are_values given (lift_signature_of a).results) _ typed);
          answer_state = subst (λ s. is_state p s ≡ true) (sym answered.behind) (left_true (is_state p w3.state) _ (right_true (are_values given (lift_signature_of a).results) _ typed));
          before_results = moved_back.first;
          results_weight = n4;
          behind_results = moved_back.last;
          results_run = subst (λ g. run p (move_results u a g (last_bits args)) moved_back.first ≡ Gave n4 back vs moved_back.last) (sym answered.gave) moved_back.ran;
          weight_is = omega (arith, entered.weightless, is_read.weightless, exited.weightless, finished.weightless);
          entered = subst (λ m. Aside None w.state.memories enter m) (sym moved.begins) entered.aside;
          left = subst (λ s. Aside None s.memories (reads ++ exit) moved_back.first.state.memories) (sym answered.behind)
              (subst (λ m. Aside None w3.state.memories (reads ++ exit) m) (sym moved_back.begins) (aside_append None w3.state.memories reads w4.state.memories exit w5.state.memories is_read.aside exited.aside));
          finished = subst (λ m. Aside a.lift.post_return m finish w7.state.memories) moved_back.ends finished.aside;
        };
      }))))))))))

-- what is caught gives nothing
pub when_guarded : {A : Type 0} (p : ImportPlaces) (b : Bool) (e : Ended A) (Q : ℕ → List Call → A → World → Type 0) → When e Q → When (guarded_if b p e) Q
when_guarded p false e Q h = h
when_guarded p true (Gave n cs a w) Q h = h
when_guarded p true (Halted n cs Trap w) Q h = tt
when_guarded p true (Halted n cs Lack w) Q h = tt
when_guarded p true (Halted n cs Throw w) Q h =
    let caught : TakenApart p (trap UncaughtException) w (λ m ds a w'. Q (n + m) (cs ++ ds) a w') = parts_ask (λ c rs w' g e. record { so = tt }) in
    when_heavier n (later cs (run p (trap UncaughtException) w)) Q (when_later cs (run p (trap UncaughtException) w) (λ m ds a w'. Q (n + m) ds a w') caught.so)
when_guarded p true (Strayed n cs w) Q h = tt

-- A run that gives something is parted at the callee.
pub parted : (p : ImportPlaces) (u : AdapterTunables) (a : LinkedAdapter) (args : List CoreValue) (w w' : World) (n : ℕ) (cs : List Call) (vs : List CoreValue)
    → ended_sync p u a args w ≡ Gave n cs vs w' → IsParted p u a args w n cs vs w'
parted p u a args w w' n cs vs e =
    subst (λ x. When x (λ m ds rs w''. IsParted p u a args w m ds rs w'')) e (when_guarded p u.exceptions (run p (sync u a args) w) _ (parts_sync p u a args w).so)
