-- A run of a sync adapter that stops, taken apart: it stops within a transfer, or soon behind a call around them.
use Rattle.std.proofs.Common.{◌≡◌, ℕ, ◌+◌, ◌≤◌, Bool, true, false, List, [], ◌∷◌, ◌++◌, length, Option, Some, None, refl, sym, ap, ◌∙◌, subst, arith, append_assoc, eqb-true}
use Rattle.std.specs.Prelude.{not, nat_eq, ◌&&◌, slice_get, is_some}
use Rattle.std.proofs.lemmas.Bool.{false≢true}
use Rattle.std.proofs.lemmas.List.{length-append}
use Rattle.fact_wasm.specs.declared.types.ValType.{ValType}
use Rattle.fact_types.specs.declared.outside.CoreDef.{CoreDef}
use Rattle.fact_types.specs.declared.outside.Trap.{Trap}
use Rattle.fact_types.specs.declared.outside.Trap.TheVariants.{CannotLeaveComponent}
use Rattle.fact_types.specs.declared.import.Import.{Import}
use Rattle.fact_types.specs.declared.import.Import.TheVariants as import
use Rattle.fact_types.specs.Adapters.{LinkedAdapter}
use Rattle.fact_machine.specs.declared.types.CoreValue.{CoreValue}
use Rattle.fact_machine.specs.declared.types.CoreValue.TheVariants.{I32}
use Rattle.fact_machine.specs.declared.types.Answer.{Answer}
use Rattle.fact_machine.specs.declared.types.Answer.TheVariants.{Returns, Traps, Throws}
use Rattle.fact_machine.specs.declared.types.TraceEntry.TheVariants.{Called}
use Rattle.fact_machine.specs.Machine.{i32_of}
use Rattle.fact_machine.specs.Typed.{are_values, is_grown}
use Rattle.fact_machine.specs.World.{World, Stop, Lack, asked, set_global}
use Rattle.fact_actions.specs.Actions.{Action, Give, SetFlags, Ask, ◌>>=◌, ◌>>◌, unless}
use Rattle.fact_actions.specs.Adapters.{AdapterTunables, Slotted, none, cleared, when_due, get_flags, make_call, enters, enter_call, exit_call, read_slots, finish_call, last_bits, move_params, move_results, sync, lift_signature_of}
use Rattle.fact_actions.specs.Calls.{results, state_after}
use Rattle.fact_actions.specs.Honest.{HasReturned}
use Rattle.fact_actions.specs.Order.{flag_in}
use Rattle.fact_actions.specs.Running.{ImportPlaces, Call, Ended, Gave, Halted, Strayed, heavier, later, then_ended, or_strayed, if_typed, is_answer, is_state, with_answer, call_of, run}
use Rattle.fact_actions.proofs.Binds.{binds_run}
use Rattle.fact_actions.proofs.Whenever.{IsCall}
use Rattle.fact_action_laws.proofs.Framed.{Aside, aside_append, Ran, parts_when, parts_read, parts_finish, flag_value}
use Rattle.fact_action_laws.proofs.Parting.{When, TakenApart, parts_cleared, parts_self, parts_so}
use Rattle.fact_action_laws.proofs.Targets.{left_true, right_true}

-- ---- stops

-- where an end is a stop, this holds of it and of the calls before it
abbrev pub Stopping : {A : Type 0} → Ended A → (Stop → List Call → Type 0) → Type 0
Stopping (Gave n cs a w) H = Unit {0}
Stopping (Halted n cs s w) H = H s cs
Stopping (Strayed n cs w) H = Unit {0}

pub stopping_so : {A : Type 0} (e : Ended A) (H G : Stop → List Call → Type 0) → ((s : Stop) (cs : List Call) → H s cs → G s cs) → Stopping e H → Stopping e G
stopping_so (Gave n cs a w) H G f h = tt
stopping_so (Halted n cs s w) H G f h = f s cs h
stopping_so (Strayed n cs w) H G f h = tt

pub stopping_heavier : {A : Type 0} (n : ℕ) (e : Ended A) (H : Stop → List Call → Type 0) → Stopping e H → Stopping (heavier n e) H
stopping_heavier n (Gave m cs a w) H h = tt
stopping_heavier n (Halted m cs s w) H h = h
stopping_heavier n (Strayed m cs w) H h = tt

pub stopping_later : {A : Type 0} (cs : List Call) (e : Ended A) (H : Stop → List Call → Type 0) → Stopping e (λ s ds. H s (cs ++ ds)) → Stopping (later cs e) H
stopping_later cs (Gave m ds a w) H h = tt
stopping_later cs (Halted m ds s w) H h = h
stopping_later cs (Strayed m ds w) H h = tt

pub stopping_then : {A B : Type 0} (e : Ended A) (f : A → World → Ended B) (Q : ℕ → List Call → A → World → Type 0) (H : Stop → List Call → Type 0)
    → When e Q → Stopping e H → ((n : ℕ) (cs : List Call) (a : A) (w : World) → Q n cs a w → Stopping (f a w) (λ s ds. H s (cs ++ ds))) → Stopping (then_ended e f) H
stopping_then (Gave n cs a w) f Q H q h g = stopping_heavier n (later cs (f a w)) H (stopping_later cs (f a w) H (g n cs a w q))
stopping_then (Halted n cs s w) f Q H q h g = h
stopping_then (Strayed n cs w) f Q H q h g = tt

pub stopping_stray : {A X : Type 0} (w : World) (o : Option X) (F : X → Ended A) (H : Stop → List Call → Type 0) → ((x : X) → o ≡ Some x → Stopping (F x) H) → Stopping (or_strayed w o F) H
stopping_stray w None F H h = tt
stopping_stray w (Some x) F H h = h x refl

stopping_is : {A : Type 0} (e : Ended A) (H : Stop → List Call → Type 0) → ((n : ℕ) (cs : List Call) (s : Stop) (w : World) → e ≡ Halted n cs s w → H s cs) → Stopping e H
stopping_is (Gave n cs a w) H g = tt
stopping_is (Halted n cs s w) H g = g n cs s w refl
stopping_is (Strayed n cs w) H g = tt

-- where an action stops in a world
pub record Stops {A : Type 0} (p : ImportPlaces) (q : Action A) (w : World) (H : Stop → List Call → Type 0) : Type 0 where
  pub so : Stopping (run p q w) H

pub stops_so : {A : Type 0} {p : ImportPlaces} {q : Action A} {w : World} {H G : Stop → List Call → Type 0} → ((s : Stop) (cs : List Call) → H s cs → G s cs) → Stops p q w H → Stops p q w G
stops_so {p} {q} {w} {H} {G} f h = record { so = stopping_so (run p q w) H G f h.so }

pub stops_bind : {A B : Type 0} {p : ImportPlaces} (q : Action A) (f : A → Action B) {w : World} {Q : ℕ → List Call → A → World → Type 0} {H G : Stop → List Call → Type 0}
    → TakenApart p q w Q → Stops p q w H → ((s : Stop) (cs : List Call) → H s cs → G s cs)
    → ((n : ℕ) (cs : List Call) (a : A) (w' : World) → Q n cs a w' → Stops p (f a) w' (λ s ds. G s (cs ++ ds)))
    → Stops p (q >>= f) w G
stops_bind {p} q f {w} {Q} {H} {G} t h k g =
    record { so = subst (λ e. Stopping e G) (sym (binds_run p q f w)) (stopping_then (run p q w) _ Q G t.so (stopping_so (run p q w) H G k h.so) (λ n cs a w' x. (g n cs a w' x).so)) }

-- ---- calls

-- all of them returned
abbrev pub AreReturned : List Call → Type 0
AreReturned [] = Unit {0}
AreReturned (c ∷ cs) = HasReturned c × AreReturned cs

-- A stop behind at most so many calls. If they all returned, an answer was lacking.
pub record StopsSoon (most : ℕ) (s : Stop) (cs : List Call) : Type 0 where
  pub lacks : AreReturned cs → s ≡ Lack
  pub few : length cs ≤ most

soon_more : (n : ℕ) (s : Stop) (c : Call) (cs : List Call) → StopsSoon n s cs → StopsSoon (1 + n) s (c ∷ cs)
soon_more n s c cs h = record { lacks = λ r. h.lacks r.1; few = let e = h.few in omega (arith, e) }

soon_within : (m n : ℕ) (s : Stop) (cs : List Call) → m ≤ n → StopsSoon m s cs → StopsSoon n s cs
soon_within m n s cs le h = record { lacks = h.lacks; few = let e = h.few in omega (arith, e, le) }

pub returned_behind : (cs ds : List Call) → AreReturned (cs ++ ds) → AreReturned ds
returned_behind [] ds h = h
returned_behind (c ∷ cs) ds h = returned_behind cs ds h.1

soon_behind : (m n : ℕ) (s : Stop) (cs ds : List Call) → length cs ≤ m → StopsSoon n s ds → StopsSoon (m + n) s (cs ++ ds)
soon_behind m n s cs ds le h = record { lacks = λ r. h.lacks (returned_behind cs ds r); few = let e = h.few in let l = length-append cs ds in omega (arith, e, le, l) }

module _ {A : Type 0} (p : ImportPlaces) (i : Import) (args : List CoreValue) (ts : List ValType) (k : List CoreValue → Action A) (H : Stop → List Call → Type 0) (soon : (s : Stop) (cs : List Call) → StopsSoon 1 s cs → H s cs) where
  if_stopping : (b : Bool) (w : World) (e : Ended A) (G : Stop → List Call → Type 0) → (b ≡ true → Stopping e G) → Stopping (if_typed b w e) G
  if_stopping true w e G h = h refl
  if_stopping false w e G h = tt

  answered_stopping : (w : World) (left : List Answer)
      → ((c : Call) (rs : List CoreValue) (w' : World) → IsCall c i args w rs w' → is_answer p ts w.state rs w'.state ≡ true → Stopping (run p (k rs) w') (λ s ds. H s (c ∷ ds)))
      → Stopping (later (call_of i args w.state left) (with_answer p ts w (asked (p.function i) args w left) (λ rs w'. run p (k rs) w'))) H
  answered_stopping w [] h = soon Lack [] (record { lacks = λ r. refl; few = omega arith })
  answered_stopping w (Traps ∷ more) h = soon _ _ (record { lacks = λ r. absurd r.0; few = omega arith })
  answered_stopping w (Throws ∷ more) h = soon _ _ (record { lacks = λ r. absurd r.0; few = omega arith })
  answered_stopping w (Returns rs state ∷ more) h =
      let c : Call = record { what = i; args = args; before = w.state; answer = Returns rs state } in
      let u : World = record { state = state; answers = more; trace = w.trace ++ Called (record { func = p.function i; args = args; before = w.state; answer = Returns rs state }) ∷ [] } in
      stopping_later (call_of i args w.state (Returns rs state ∷ more)) _ H
      (if_stopping (is_answer p ts w.state rs state) u _ _ (λ e. h c rs u (record { asked = refl; gave = refl; before = refl; behind = refl }) e))

-- a call stops the run, or what follows it does
stops_ask : {A : Type 0} {p : ImportPlaces} {i : Import} {args : List CoreValue} {ts : List ValType} {k : List CoreValue → Action A} {w : World} {H : Stop → List Call → Type 0}
    → ((s : Stop) (cs : List Call) → StopsSoon 1 s cs → H s cs)
    → ((c : Call) (rs : List CoreValue) (w' : World) → IsCall c i args w rs w' → is_answer p ts w.state rs w'.state ≡ true → Stops p (k rs) w' (λ s ds. H s (c ∷ ds))) → Stops p (Ask i args ts k) w H
stops_ask {p} {i} {args} {ts} {k} {w} {H} soon h = record { so = answered_stopping p i args ts k H soon w w.answers (λ c rs w' g t. (h c rs w' g t).so) }

-- calls one after another
stops_next : {A : Type 0} {p : ImportPlaces} {i : Import} {args : List CoreValue} {ts : List ValType} {k : List CoreValue → Action A} {w : World} (n : ℕ) → ((rs : List CoreValue) (w' : World) → Stops p (k rs) w' (StopsSoon n)) → Stops p (Ask i args ts k) w (StopsSoon (1 + n))
stops_next n h = stops_ask (λ s cs x. soon_within 1 (1 + n) s cs (omega arith) x) (λ c rs w' g t. stops_so (λ s cs x. soon_more n s c cs x) (h rs w'))

pub stops_give : {A : Type 0} {p : ImportPlaces} (a : A) (w : World) (H : Stop → List Call → Type 0) → Stops p (Give a) w H
stops_give a w H = record { so = tt }

stops_when : (p : ImportPlaces) (b : Bool) (i : Import) (args : List CoreValue) (w : World) → Stops p (when_due b (make_call i args [])) w (StopsSoon 1)
stops_when p true i args w = stops_next 0 (λ rs w'. stops_give rs w' _)
stops_when p false i args w = record { so = tt }

stops_read : (p : ImportPlaces) (b : Bool) (w : World) → Stops p (read_slots b) w (StopsSoon 2)
stops_read p true w = stops_next 1 (λ x u. stops_next 0 (λ y v. stops_give _ v _))
stops_read p false w = record { so = tt }

stops_finish : (p : ImportPlaces) (b : Bool) (r : Option CoreDef) (given : List CoreValue) (s : Slotted) (w : World) → Stops p (finish_call b r given s) w (StopsSoon 7)
stops_finish p b None given s w = record { so = tt }
stops_finish p false (Some f) given s w = stops_so (λ s cs x. soon_within 1 7 s cs (omega arith) x) (stops_next 0 (λ rs w'. stops_give _ w' _))
stops_finish p true (Some f) given s w = stops_next 6 (λ r1 w1. stops_next 5 (λ r2 w2. stops_next 4 (λ r3 w3. stops_next 3 (λ r4 w4. stops_next 2 (λ r5 w5. stops_next 1 (λ r6 w6. stops_next 0 (λ r7 w7. stops_give _ w7 _)))))))

-- ---- flags

pub stops_flags : {A : Type 0} (p : ImportPlaces) (i : ℕ) (f : ℕ → Action A) (w : World) (H : Stop → List Call → Type 0)
    → ((n : ℕ) → flag_in p i w.state.globals ≡ I32 n → Stops p (f n) w H) → Stops p (get_flags i >>= f) w H
stops_flags p i f w H h = record {
  so =
      stopping_stray w (slice_get w.state.globals (p.flags i)) _ H (λ v e. stopping_stray w (i32_of v) _ H (λ n e'.
      (h n (ap (λ o. elim o [ None ↦ I32 0 | Some x ↦ x ]) e ∙ flag_value v n e')).so));
}

pub stops_unless : {A : Type 0} (p : ImportPlaces) (t : Trap) (b : Bool) (q : Action A) (w : World) (H : Stop → List Call → Type 0) → b ≡ true → Stops p q w H → Stops p (unless t b none >> q) w H
stops_unless p t true q w H is h = h
stops_unless p t false q w H is h = absurd (false≢true is)

-- the flags of an instance are 0 for a while
pub stops_cleared : {A : Type 0} (p : ImportPlaces) (i saved : ℕ) (q : Action A) (w : World) (H : Stop → List Call → Type 0)
    → ((n : ℕ) (cs : List Call) (s : Stop) (u : World) → run p q (set_global (p.flags i) (I32 0) w) ≡ Halted n cs s u → H s cs) → Stops p (cleared i saved q) w H
stops_cleared p i saved q w H g = record {
  so =
      stopping_stray w (slice_get w.state.globals (p.flags i)) _ H (λ v e.
      (stops_bind q (λ a. SetFlags i saved (Give a)) {Q = λ n cs a u. Unit {0}} (parts_so (parts_self p q (set_global (p.flags i) (I32 0) w)) (λ n cs a u e. tt)) (record { so = stopping_is (run p q (set_global (p.flags i) (I32 0) w)) H g }) (λ s cs h. h)
      (λ n cs a u t. record { so = stopping_stray u (slice_get u.state.globals (p.flags i)) _ _ (λ v e. tt) })).so);
}

-- ---- the whole

module _ (p : ImportPlaces) (u : AdapterTunables) (a : LinkedAdapter) (args : List CoreValue) (w : World) where
  -- the callee's side was entered
  pub record IsEntered : Type 0 where
    pub enter : List Call
    pub before_params : World
    pub entered : Aside None w.state.memories enter before_params.state.memories
    pub few : length enter ≤ 1

  -- parameters were moved
  pub record IsPassedOn : Type 0 where
    pub start : IsEntered
    pub params : List Call
    pub core : List CoreValue
    pub params_weight : ℕ
    pub behind_params : World
    pub params_run : run p (move_params u a args) start.before_params ≡ Gave params_weight params core behind_params

  -- the callee answered
  pub record IsAnswered : Type 0 where
    pub passed : IsPassedOn
    pub callee : Call
    pub between : List Call
    pub before_results : World
    pub callee_is : callee.what ≡ import.CoreDef a.callee
    pub callee_before : callee.before.memories ≡ passed.behind_params.state.memories
    pub answer_typed : are_values (results callee) (lift_signature_of a).results ≡ true
    pub answer_state : is_state p (state_after callee) ≡ true
    pub answer_grown : is_grown callee.before.memories (state_after callee).memories ≡ true
    pub left : Aside None (state_after callee).memories between before_results.state.memories
    pub few : length between ≤ 3

  -- the calls so far
  abbrev pub calls_before : (t : IsPassedOn) → List Call → List Call
  calls_before t cs = t.start.enter ++ (t.params ++ cs)

  abbrev pub calls_answered : (t : IsAnswered) → List Call → List Call
  calls_answered t cs = calls_before t.passed (t.callee ∷ (t.between ++ cs))

  abbrev pub moves_back : (t : IsAnswered) → Action (List CoreValue)
  moves_back t = move_results u a (results t.callee) (last_bits args)

  pub data StopsAt (s : Stop) (cs : List Call) : Type 0 where
    Entering : StopsSoon 1 s cs → StopsAt s cs
    InParams : (t : IsEntered) (n : ℕ) (params : List Call) (v : World) → run p (move_params u a args) t.before_params ≡ Halted n params s v → cs ≡ t.enter ++ params → StopsAt s cs
    Calling : (t : IsPassedOn) (others : List Call) → StopsSoon 4 s others → cs ≡ calls_before t others → StopsAt s cs
    InResults : (t : IsAnswered) (n : ℕ) (back : List Call) (v : World) → run p (moves_back t) t.before_results ≡ Halted n back s v → cs ≡ calls_answered t back → StopsAt s cs
    Finishing : (t : IsAnswered) (n : ℕ) (back : List Call) (vs : List CoreValue) (v : World) (others : List Call) → run p (moves_back t) t.before_results ≡ Gave n back vs v → StopsSoon 7 s others → cs ≡ calls_answered t (back ++ others) → StopsAt s cs

module _ (p : ImportPlaces) (u : AdapterTunables) (a : LinkedAdapter) (args : List CoreValue) (w : World) where
  pub set_if : (n : ℕ) → (I32 n ≡ I32 0 → ⊥) → not (nat_eq n 0) ≡ true
  set_if n h = by (nat_eq n 0) refl
    where
      by : (b : Bool) → nat_eq n 0 ≡ b → not b ≡ true
      by true e = absurd (h (ap (λ m. I32 m) (eqb-true n 0 e)))
      by false e = refl

  pub stops_sync : (flag_in p a.lower.instance w.state.globals ≡ I32 0 → ⊥) → Stops p (sync u a args) w (StopsAt p u a args w)
  stops_sync may_leave =
      stops_flags p a.lower.instance _ w _ (λ saved is_saved.
      stops_unless p CannotLeaveComponent (not (nat_eq saved 0)) _ w (StopsAt p u a args w) (set_if saved (λ e. may_leave (is_saved ∙ e))) (
      stops_bind (enter_call u a) _ (parts_when None p (enters u a) import.EnterSyncCall _ w tt) (stops_when p (enters u a) import.EnterSyncCall _ w) (λ s cs h. Entering h) (λ n0 enter r0 w1 entered.
      stops_flags p a.lift.instance _ w1 _ (λ lift_saved is_lift.
      let start : (v : World) → v.state.memories ≡ w1.state.memories → IsEntered p u a args w = λ v e. record { enter = enter; before_params = v; entered = subst (λ m. Aside None w.state.memories enter m) (sym e) entered.aside; few = entered.few } in
      stops_bind (cleared a.lift.instance lift_saved (move_params u a args)) _
      (parts_cleared p a.lift.instance lift_saved _ w1 (λ n cs core w'. Ran p (move_params u a args) w1 n cs core w') (λ n cs core v e. record { first = _; last = v; ran = e; begins = refl; ends = refl }))
      (stops_cleared p a.lift.instance lift_saved _ w1 (λ s ds. StopsAt p u a args w s (enter ++ ds)) (λ n ds s v e. InParams (start (set_global (p.flags a.lift.instance) (I32 0) w1) refl) n ds v e refl)) (λ s ds h. h)
      (λ n1 params core w2 moved.
      let t : IsPassedOn p u a args w = record { start = start moved.first moved.begins; params = params; core = core; params_weight = n1; behind_params = moved.last; params_run = moved.ran } in
      stops_ask (λ s ds h. Calling t ds (soon_within 1 4 s ds (omega arith) h) refl) (λ callee given w3 answered typed.
      stops_bind (read_slots (u.concurrency && is_some a.lift.post_return)) _ (parts_read None p (u.concurrency && is_some a.lift.post_return) w3) (stops_read p (u.concurrency && is_some a.lift.post_return) w3)
      (λ s ds h. Calling t (callee ∷ ds) (soon_within 3 4 s (callee ∷ ds) (omega arith) (soon_more 2 s callee ds h)) refl) (λ n2 reads context w4 is_read.
      stops_bind (exit_call u a) _ (parts_when None p (enters u a) import.ExitSyncCall [] w4 tt) (stops_when p (enters u a) import.ExitSyncCall [] w4)
      (λ s ds h. Calling t (callee ∷ (reads ++ ds)) (soon_more 3 s callee (reads ++ ds) (soon_behind 2 1 s reads ds is_read.few h)) refl) (λ n3 exit r1 w5 exited.
      let behind : (v : World) → v.state.memories ≡ w5.state.memories → IsAnswered p u a args w = λ v e. record {
        passed = t;
        callee = callee;
        between = reads ++ exit;
        before_results = v;
        callee_is = ap (λ x. x.0) answered.asked;
        callee_before = ap (λ s. s.memories) answered.before ∙ moved.ends;
        answer_typed = subst (λ g. are_values g (lift_signature_of a).results ≡ true) (sym answered.gave) (left_true (are_values given (lift_signature_of a).results) _ typed);
        answer_state = subst (λ s. is_state p s ≡ true) (sym answered.behind) (left_true (is_state p w3.state) _ (right_true (are_values given (lift_signature_of a).results) _ typed));
        answer_grown = subst (λ s. is_grown callee.before.memories s.memories ≡ true) (sym answered.behind)
            (subst (λ s. is_grown s.memories w3.state.memories ≡ true) (sym answered.before) (right_true (is_state p w3.state) _ (right_true (are_values given (lift_signature_of a).results) _ typed)));
        left = subst (λ s. Aside None s.memories (reads ++ exit) v.state.memories) (sym answered.behind)
            (subst (λ m. Aside None w3.state.memories (reads ++ exit) m) (sym e) (aside_append None w3.state.memories reads w4.state.memories exit w5.state.memories is_read.aside exited.aside));
        few = let f = is_read.few in let g = exited.few in let l = length-append reads exit in omega (arith, f, g, l);
      } in
      let regroup : (ds : List Call) → enter ++ (params ++ (callee ∷ (reads ++ (exit ++ ds)))) ≡ enter ++ (params ++ (callee ∷ ((reads ++ exit) ++ ds))) = λ ds. ap (λ l. enter ++ (params ++ (callee ∷ l))) (sym (append_assoc reads exit ds)) in
      stops_bind (cleared a.lower.instance saved (move_results u a given (last_bits args))) _
      (parts_cleared p a.lower.instance saved _ w5 (λ n cs vs w'. Ran p (move_results u a given (last_bits args)) w5 n cs vs w') (λ n cs vs v e. record { first = _; last = v; ran = e; begins = refl; ends = refl }))
      (stops_cleared p a.lower.instance saved _ w5 (λ s ds. StopsAt p u a args w s (enter ++ (params ++ (callee ∷ (reads ++ (exit ++ ds))))))
      (λ n ds s v e. InResults (behind (set_global (p.flags a.lower.instance) (I32 0) w5) refl) n ds v (subst (λ g. run p (move_results u a g (last_bits args)) (set_global (p.flags a.lower.instance) (I32 0) w5) ≡ Halted n ds s v) (sym answered.gave) e) (regroup ds)))
      (λ s ds h. h)
      (λ n4 back vs w6 moved_back.
      stops_bind (finish_call u.concurrency a.lift.post_return given context) _ (parts_finish p u.concurrency a.lift.post_return given context w6) (stops_finish p u.concurrency a.lift.post_return given context w6)
      (λ s ds h. Finishing (behind moved_back.first moved_back.begins) n4 back vs moved_back.last ds (subst (λ g. run p (move_results u a g (last_bits args)) moved_back.first ≡ Gave n4 back vs moved_back.last) (sym answered.gave) moved_back.ran) h (regroup (back ++ ds)))
      (λ n5 finish r2 w7 finished. record { so = tt }))))))))))
