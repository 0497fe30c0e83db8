-- Where a run of a sync adapter stops: within a transfer, or at calls beside them.
use Rattle.std.proofs.Common.{◌≡◌, ℕ, Bool, true, false, List, [], ◌∷◌, ◌++◌, Option, Some, None, refl, sym, ap, ◌∙◌, subst, arith, append_assoc}
use Rattle.std.specs.Prelude.{not, nat_eq, ◌&&◌, is_some}
use Rattle.std.proofs.lemmas.List.{length-append}
use Rattle.fact_wasm.specs.declared.types.ValType.{ValType}
use Rattle.fact_types.specs.declared.outside.CoreDef.{CoreDef}
use Rattle.fact_types.specs.declared.outside.Trap.TheVariants.{CannotLeaveComponent}
use Rattle.fact_types.specs.declared.import.Import.{Import}
use Rattle.fact_types.specs.declared.import.Import.TheVariants as import
use Rattle.fact_types.specs.Adapters.{LinkedAdapter}
use Rattle.fact_machine.specs.declared.types.CoreValue.{CoreValue}
use Rattle.fact_machine.specs.declared.types.CoreValue.TheVariants.{I32}
use Rattle.fact_machine.specs.declared.types.Answer.{Answer}
use Rattle.fact_machine.specs.declared.types.Answer.TheVariants.{Returns, Traps, Throws}
use Rattle.fact_machine.specs.declared.types.TraceEntry.TheVariants.{Called}
use Rattle.fact_machine.specs.Typed.{are_values, is_grown}
use Rattle.fact_machine.specs.World.{World, Stop, Lack, asked, set_global}
use Rattle.fact_actions.specs.Actions.{Action, Ask}
use Rattle.fact_actions.specs.Adapters.{AdapterTunables, Slotted, none, cleared, when_due, make_call, enters, enter_call, exit_call, read_slots, finish_call, last_bits, move_params, move_results, sync, lift_signature_of}
use Rattle.fact_actions.specs.Order.{flag_in}
use Rattle.fact_actions.specs.Running.{ImportPlaces, Call, Ended, Gave, Halted, later, if_typed, is_answer, is_state, with_answer, call_of, run}
use Rattle.fact_actions.proofs.Whenever.{IsCall}
use Rattle.fact_action_laws.proofs.Framed.{IsAround, AreAround, around_append, Aside, aside_append, Ran, parts_when, parts_read, parts_finish}
use Rattle.fact_action_laws.proofs.Parting.{parts_cleared}
use Rattle.fact_action_laws.proofs.Stopping.{Stopping, stopping_later, Stops, stops_so, stops_bind, stops_give, stops_flags, stops_unless, stops_cleared, set_if, IsEntered, IsPassedOn, IsAnswered, calls_before, calls_answered, moves_back}
use Rattle.fact_action_laws.proofs.Targets.{left_true, right_true}

-- ---- calls

module _ {A : Type 0} (p : ImportPlaces) (i : Import) (args : List CoreValue) (ts : List ValType) (k : List CoreValue → Action A) (H : Stop → List Call → Type 0) where
  if_stopping : (b : Bool) (w : World) (e : Ended A) (G : Stop → List Call → Type 0) → (b ≡ true → Stopping e G) → Stopping (if_typed b w e) G
  if_stopping true w e G h = h refl
  if_stopping false w e G h = tt

  answered_stopping : H Lack [] → ((s : Stop) (c : Call) → c.what ≡ i → H s (c ∷ [])) → (w : World) (left : List Answer)
      → ((c : Call) (rs : List CoreValue) (w' : World) → IsCall c i args w rs w' → is_answer p ts w.state rs w'.state ≡ true → Stopping (run p (k rs) w') (λ s ds. H s (c ∷ ds)))
      → Stopping (later (call_of i args w.state left) (with_answer p ts w (asked (p.function i) args w left) (λ rs w'. run p (k rs) w'))) H
  answered_stopping empty one w [] h = empty
  answered_stopping empty one w (Traps ∷ more) h = one _ _ refl
  answered_stopping empty one w (Throws ∷ more) h = one _ _ refl
  answered_stopping empty one w (Returns rs state ∷ more) h =
      let c : Call = record { what = i; args = args; before = w.state; answer = Returns rs state } in
      let u : World = record { state = state; answers = more; trace = w.trace ++ Called (record { func = p.function i; args = args; before = w.state; answer = Returns rs state }) ∷ [] } in
      stopping_later (call_of i args w.state (Returns rs state ∷ more)) _ H
      (if_stopping (is_answer p ts w.state rs state) u _ _ (λ e. h c rs u (record { asked = refl; gave = refl; before = refl; behind = refl }) e))

-- a call stops the run, or what follows it does
halts_ask : {A : Type 0} {p : ImportPlaces} {i : Import} {args : List CoreValue} {ts : List ValType} {k : List CoreValue → Action A} {w : World} {H : Stop → List Call → Type 0}
    → H Lack [] → ((s : Stop) (c : Call) → c.what ≡ i → H s (c ∷ []))
    → ((c : Call) (rs : List CoreValue) (w' : World) → IsCall c i args w rs w' → is_answer p ts w.state rs w'.state ≡ true → Stops p (k rs) w' (λ s ds. H s (c ∷ ds))) → Stops p (Ask i args ts k) w H
halts_ask {p} {i} {args} {ts} {k} {w} {H} none one h = record { so = answered_stopping p i args ts k H none one w w.answers (λ c rs w' g t. (h c rs w' g t).so) }

-- ---- calls beside transfers

abbrev StopsAround : Option CoreDef → Stop → List Call → Type 0
StopsAround r s cs = AreAround r cs

around_next : {A : Type 0} {p : ImportPlaces} (r : Option CoreDef) {i : Import} {args : List CoreValue} {ts : List ValType} {k : List CoreValue → Action A} {w : World} → IsAround r i → ((rs : List CoreValue) (w' : World) → Stops p (k rs) w' (StopsAround r)) → Stops p (Ask i args ts k) w (StopsAround r)
around_next r is h = halts_ask tt (λ s c e. (subst (IsAround r) (sym e) is, tt)) (λ c rs w' g t. stops_so (λ s cs x. (subst (IsAround r) (sym (ap (λ x. x.0) g.asked)) is, x)) (h rs w'))

around_when : (p : ImportPlaces) (r : Option CoreDef) (b : Bool) (i : Import) (args : List CoreValue) (w : World) → IsAround r i → Stops p (when_due b (make_call i args [])) w (StopsAround r)
around_when p r true i args w is = around_next r is (λ rs w'. stops_give rs w' _)
around_when p r false i args w is = record { so = tt }

around_read : (p : ImportPlaces) (r : Option CoreDef) (b : Bool) (w : World) → Stops p (read_slots b) w (StopsAround r)
around_read p r true w = around_next r tt (λ x u. around_next r tt (λ y v. stops_give _ v _))
around_read p r false w = record { so = tt }

around_finish : (p : ImportPlaces) (b : Bool) (r : Option CoreDef) (given : List CoreValue) (s : Slotted) (w : World) → Stops p (finish_call b r given s) w (StopsAround r)
around_finish p b None given s w = record { so = tt }
around_finish p false (Some f) given s w = around_next (Some f) refl (λ rs w'. stops_give _ w' _)
around_finish p true (Some f) given s w =
    let r : Option CoreDef = Some f in
    around_next r tt (λ r1 w1. around_next r tt (λ r2 w2. around_next r tt (λ r3 w3. around_next r tt (λ r4 w4. around_next r refl (λ r5 w5. around_next r tt (λ r6 w6. around_next r tt (λ r7 w7. stops_give _ w7 _)))))))

-- ---- the whole

-- none, or the callee's and those beside transfers
abbrev pub FromCallee : LinkedAdapter → List Call → Type 0
FromCallee a [] = Unit {0}
FromCallee a (c ∷ cs) = (c.what ≡ import.CoreDef a.callee) × AreAround None cs

module _ (p : ImportPlaces) (u : AdapterTunables) (a : LinkedAdapter) (args : List CoreValue) (w : World) where
  pub data HaltsAt (s : Stop) (cs : List Call) : Type 0 where
    AtEntry : AreAround None cs → HaltsAt s cs
    AtParams : (t : IsEntered p u a args w) (n : ℕ) (params : List Call) (v : World) → run p (move_params u a args) t.before_params ≡ Halted n params s v → cs ≡ t.enter ++ params → HaltsAt s cs
    AtCallee : (t : IsPassedOn p u a args w) (others : List Call) → FromCallee a others → cs ≡ calls_before p u a args w t others → HaltsAt s cs
    AtResults : (t : IsAnswered p u a args w) (n : ℕ) (back : List Call) (v : World) → run p (moves_back p u a args w t) t.before_results ≡ Halted n back s v → cs ≡ calls_answered p u a args w t back → HaltsAt s cs
    AtEnd : (t : IsAnswered p u a args w) (n : ℕ) (back : List Call) (vs : List CoreValue) (v : World) (others : List Call) → run p (moves_back p u a args w t) t.before_results ≡ Gave n back vs v → AreAround a.lift.post_return others → cs ≡ calls_answered p u a args w t (back ++ others) → HaltsAt s cs

module _ (p : ImportPlaces) (u : AdapterTunables) (a : LinkedAdapter) (args : List CoreValue) (w : World) where
  pub halts_sync : (flag_in p a.lower.instance w.state.globals ≡ I32 0 → ⊥) → Stops p (sync u a args) w (HaltsAt p u a args w)
  halts_sync may_leave =
      stops_flags p a.lower.instance _ w _ (λ saved is_saved.
      stops_unless p CannotLeaveComponent (not (nat_eq saved 0)) _ w (HaltsAt p u a args w) (set_if p u a args w saved (λ e. may_leave (is_saved ∙ e))) (
      stops_bind (enter_call u a) _ (parts_when None p (enters u a) import.EnterSyncCall _ w tt) (around_when p None (enters u a) import.EnterSyncCall _ w tt) (λ s cs h. AtEntry h) (λ n0 enter r0 w1 entered.
      stops_flags p a.lift.instance _ w1 _ (λ lift_saved is_lift.
      let start : (v : World) → v.state.memories ≡ w1.state.memories → IsEntered p u a args w = λ v e. record { enter = enter; before_params = v; entered = subst (λ m. Aside None w.state.memories enter m) (sym e) entered.aside; few = entered.few } in
      stops_bind (cleared a.lift.instance lift_saved (move_params u a args)) _
      (parts_cleared p a.lift.instance lift_saved _ w1 (λ n cs core w'. Ran p (move_params u a args) w1 n cs core w') (λ n cs core v e. record { first = _; last = v; ran = e; begins = refl; ends = refl }))
      (stops_cleared p a.lift.instance lift_saved _ w1 (λ s ds. HaltsAt p u a args w s (enter ++ ds)) (λ n ds s v e. AtParams (start (set_global (p.flags a.lift.instance) (I32 0) w1) refl) n ds v e refl)) (λ s ds h. h)
      (λ n1 params core w2 moved.
      let t : IsPassedOn p u a args w = record { start = start moved.first moved.begins; params = params; core = core; params_weight = n1; behind_params = moved.last; params_run = moved.ran } in
      halts_ask (AtCallee t [] tt refl) (λ s c e. AtCallee t (c ∷ []) (e, tt) refl) (λ callee given w3 answered typed.
      stops_bind (read_slots (u.concurrency && is_some a.lift.post_return)) _ (parts_read None p (u.concurrency && is_some a.lift.post_return) w3) (around_read p None (u.concurrency && is_some a.lift.post_return) w3)
      (λ s ds h. AtCallee t (callee ∷ ds) (ap (λ x. x.0) answered.asked, h) refl) (λ n2 reads context w4 is_read.
      stops_bind (exit_call u a) _ (parts_when None p (enters u a) import.ExitSyncCall [] w4 tt) (around_when p None (enters u a) import.ExitSyncCall [] w4 tt)
      (λ s ds h. AtCallee t (callee ∷ (reads ++ ds)) (ap (λ x. x.0) answered.asked, around_append None reads ds is_read.aside.around h) refl) (λ n3 exit r1 w5 exited.
      let behind : (v : World) → v.state.memories ≡ w5.state.memories → IsAnswered p u a args w = λ v e. record {
        passed = t;
        callee = callee;
        between = reads ++ exit;
        before_results = v;
        callee_is = ap (λ x. x.0) answered.asked;
        callee_before = ap (λ s. s.memories) answered.before ∙ moved.ends;
        answer_typed = subst (λ g. are_values g (lift_signature_of a).results ≡ true) (sym answered.gave) (left_true (are_values given (lift_signature_of a).results) _ typed);
        answer_state = subst (λ s. is_state p s ≡ true) (sym answered.behind) (left_true (is_state p w3.state) _ (right_true (are_values given (lift_signature_of a).results) _ typed));
        answer_grown = subst (λ s. is_grown callee.before.memories s.memories ≡ true) (sym answered.behind)
            (subst (λ s. is_grown s.memories w3.state.memories ≡ true) (sym answered.before) (right_true (is_state p w3.state) _ (right_true (are_values given (lift_signature_of a).results) _ typed)));
        left = subst (λ s. Aside None s.memories (reads ++ exit) v.state.memories) (sym answered.behind)
            (subst (λ m. Aside None w3.state.memories (reads ++ exit) m) (sym e) (aside_append None w3.state.memories reads w4.state.memories exit w5.state.memories is_read.aside exited.aside));
        few = let f = is_read.few in let g = exited.few in let l = length-append reads exit in omega (arith, f, g, l);
      } in
      let regroup : (ds : List Call) → enter ++ (params ++ (callee ∷ (reads ++ (exit ++ ds)))) ≡ enter ++ (params ++ (callee ∷ ((reads ++ exit) ++ ds))) = λ ds. ap (λ l. enter ++ (params ++ (callee ∷ l))) (sym (append_assoc reads exit ds)) in
      stops_bind (cleared a.lower.instance saved (move_results u a given (last_bits args))) _
      (parts_cleared p a.lower.instance saved _ w5 (λ n cs vs w'. Ran p (move_results u a given (last_bits args)) w5 n cs vs w') (λ n cs vs v e. record { first = _; last = v; ran = e; begins = refl; ends = refl }))
      (stops_cleared p a.lower.instance saved _ w5 (λ s ds. HaltsAt p u a args w s (enter ++ (params ++ (callee ∷ (reads ++ (exit ++ ds))))))
      (λ n ds s v e. AtResults (behind (set_global (p.flags a.lower.instance) (I32 0) w5) refl) n ds v (subst (λ g. run p (move_results u a g (last_bits args)) (set_global (p.flags a.lower.instance) (I32 0) w5) ≡ Halted n ds s v) (sym answered.gave) e) (regroup ds)))
      (λ s ds h. h)
      (λ n4 back vs w6 moved_back.
      stops_bind (finish_call u.concurrency a.lift.post_return given context) _ (parts_finish p u.concurrency a.lift.post_return given context w6) (around_finish p u.concurrency a.lift.post_return given context w6)
      (λ s ds h. AtEnd (behind moved_back.first moved_back.begins) n4 back vs moved_back.last ds (subst (λ g. run p (move_results u a g (last_bits args)) moved_back.first ≡ Gave n4 back vs moved_back.last) (sym answered.gave) moved_back.ran) h (regroup (back ++ ds)))
      (λ n5 finish r2 w7 finished. record { so = tt }))))))))))
