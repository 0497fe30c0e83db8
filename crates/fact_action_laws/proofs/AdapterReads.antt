-- Whole adapters read whole texts, where their values are there.
use Rattle.std.proofs.Common.{◌≡◌, ℕ, ◌⊎◌, inl, inr, Bool, true, false, List, [], ◌∷◌, ◌++◌, Option, Some, None, refl, sym, ap, ◌∙◌, subst, append_assoc}
use Rattle.std.proofs.lemmas.List.{append-nil}
use Rattle.fact_types.specs.Adapters.{LinkedAdapter}
use Rattle.fact_types.specs.declared.import.Import.{Import}
use Rattle.fact_types.specs.declared.import.Import.TheVariants as import
use Rattle.fact_types.specs.declared.outside.CoreDef.{CoreDef}
use Rattle.fact_types.specs.declared.outside.Trap.TheVariants.{UncaughtException}
use Rattle.fact_machine.specs.Typed.{are_values}
use Rattle.fact_machine.specs.declared.types.CoreValue.{CoreValue}
use Rattle.fact_machine.specs.World.{World, Stop, Trap, Throw, Lack}
use Rattle.fact_values.specs.declared.value.Value.{Value}
use Rattle.fact_actions.specs.Actions.{trap}
use Rattle.fact_actions.specs.Adapters.{AdapterTunables, last_bits, lower_signature_of, lift_signature_of, move_params, move_results, sync}
use Rattle.fact_actions.specs.Calls.{results, side_memory, state_after}
use Rattle.fact_actions.specs.Honest.{AreHonest, AreHonestSync, HasReturned, IsStraight}
use Rattle.fact_actions.specs.Plain.{guarded_if}
use Rattle.fact_actions.specs.Regions.{landed, params_landing, results_landing, return_area, moved_on, sync_moved_on}
use Rattle.fact_actions.specs.Running.{ImportPlaces, Call, Ended, Gave, Halted, Strayed, calls_in, is_state, run}
use Rattle.fact_actions.specs.Sides.{options_of}
use Rattle.fact_action_laws.specs.Faithful.{params_given, results_answered}
use Rattle.fact_action_laws.specs.FaithfulLaws.{HasSyncSides, IsCheckedAdapter, setting_of_params, setting_of_results}
use Rattle.fact_action_laws.specs.Regions.{TransferSetting}
use Rattle.fact_action_laws.proofs.Ending.{params_apart, honest_returned, calls_behind}
use Rattle.fact_action_laws.proofs.Framed.{IsAround, AreAround, IsParted, parted}
use Rattle.fact_action_laws.proofs.Grounding.{has_bytes, still_there}
use Rattle.fact_action_laws.proofs.Once.{NoneCalls}
use Rattle.fact_action_laws.proofs.TransferHonesty.{honest_parts}
use Rattle.fact_action_laws.proofs.Stopping.{Stopping, AreReturned, returned_behind, IsEntered, IsPassedOn, IsAnswered, calls_before, calls_answered}
use Rattle.fact_action_laws.specs.AdapterValueLaws.{TranscodersReadTexts}
use Rattle.fact_action_laws.specs.Premises.{KnowsMemories}
use Rattle.fact_action_laws.specs.ReadTexts.{ReadsTextBy, ReadTexts, AreValuesThere}
use Rattle.fact_action_laws.specs.Requested.{params_parts, results_parts}
use Rattle.fact_action_laws.specs.Trapped.{AreHonestUntilTrap}
use Rattle.fact_action_laws.proofs.TransferAsks.{HonestlyReads, reads_for, params_sides, results_sides, params_ask, results_ask}
use Rattle.fact_action_laws.proofs.Fine.{there_same, typed_is_there}
use Rattle.fact_action_laws.proofs.Halting.{HaltsAt, AtEntry, AtParams, AtCallee, AtResults, AtEnd, FromCallee, halts_sync}
use Rattle.fact_action_laws.proofs.ReadCalls.{reads_append}
use Rattle.fact_action_laws.proofs.ReadRuns.{IsSet}
use Rattle.fact_action_laws.proofs.AdapterRequests.{params_honest, results_honest, knows_memories, params_none, results_none, none_front, before_back, regroup, back_apart}
use Rattle.fact_action_laws.proofs.Thrown.{Unthrown, never_thrown, none_before, none_threw}
use Rattle.fact_action_laws.proofs.Trapped.{IsBehind, last_behind, both_empty, all_honest, GivesReturned, gives_returned}
use Rattle.fact_action_laws.proofs.TupleTexts.{params_texts, results_texts}

-- ---- calls beside transfers

around_reads : (p : ImportPlaces) (r : Option CoreDef) (i : Import) (c : Call) → IsAround r i → ReadsTextBy i p c
around_reads p r (import.CoreDef d) c h = tt
around_reads p r (import.Transcode o from from64 to to64) c h = absurd h
around_reads p r (import.PrepareCall memory) c h = absurd h
around_reads p r (import.StartCall callback function) c h = absurd h
around_reads p r import.ResourceTransferOwn c h = absurd h
around_reads p r import.ResourceTransferBorrow c h = absurd h
around_reads p r import.FutureTransfer c h = absurd h
around_reads p r import.StreamTransfer c h = absurd h
around_reads p r import.ErrorContextTransfer c h = absurd h
around_reads p r (import.Trap t) c h = absurd h
around_reads p r import.EnterSyncCall c h = tt
around_reads p r import.ExitSyncCall c h = tt
around_reads p r (import.UnsafeIntrinsic s) c h = tt

around_read : (p : ImportPlaces) (r : Option CoreDef) (cs : List Call) → AreAround r cs → ReadTexts p cs
around_read p r [] h = tt
around_read p r (c ∷ cs) h = (around_reads p r c.what c h.0, around_read p r cs h.1)

callee_reads : (p : ImportPlaces) (d : CoreDef) (c : Call) → c.what ≡ import.CoreDef d → ReadsTextBy c.what p c
callee_reads p d c is = subst (λ i. ReadsTextBy i p c) (sym is) tt

callee_read : (p : ImportPlaces) (a : LinkedAdapter) (cs : List Call) → FromCallee a cs → ReadTexts p cs
callee_read p a [] h = tt
callee_read p a (c ∷ cs) h = (callee_reads p a.callee c h.0, around_read p None cs h.1)

-- ---- transfers

module _ (p : ImportPlaces) (u : AdapterTunables) (a : LinkedAdapter) (x : IsCheckedAdapter p a) (sides : HasSyncSides a) (args : List CoreValue) (w : World) (typed : is_state p w.state ≡ true) (args_typed : are_values args (lower_signature_of a).params ≡ true) where
  abbrev known : KnowsMemories p a
  known = knows_memories p a x

  abbrev AreUntilTrap : List Call → Type 0
  AreUntilTrap cs = AreHonestUntilTrap (AreHonestSync p a args) cs

  -- ---- parameters

  abbrev given_bytes : List ℕ
  given_bytes = side_memory p (options_of a.lower) w.state

  params_set : (v : World) → v.state.memories ≡ w.state.memories → IsSet (setting_of_params p u a given_bytes) (params_sides p u a known given_bytes) v.state
  params_set v same = record {
    bytes = (still_there p (options_of a.lower) w.state v.state given_bytes same (has_bytes p (options_of a.lower) w.state known.lower typed).there);
    there = record {
      from = there_same p (options_of a.lower) w.state v.state same (typed_is_there p (options_of a.lower) w.state known.lower typed);
      to = there_same p (options_of a.lift) w.state v.state same (typed_is_there p (options_of a.lift) w.state known.lift typed);
    };
  }

  -- they are there
  module _ (vs : List Value) (given : params_given p a args w.state ≡ Some vs) where
    params_reads : (v : World) → v.state.memories ≡ w.state.memories → (e : Ended (List CoreValue)) → run p (move_params u a args) v ≡ e → HonestlyReads (setting_of_params p u a given_bytes) e
    params_reads v same e is = subst (HonestlyReads (setting_of_params p u a given_bytes)) is
        (reads_for (setting_of_params p u a given_bytes) (params_sides p u a known given_bytes) (params_parts p u a args w.state) (move_params u a args) v (params_ask p u a known given_bytes args)
        (params_texts p u a args w.state vs x sides typed args_typed given) (params_set v same))

    params_gave : (v : World) (n : ℕ) (params : List Call) (core : List CoreValue) (v' : World) → run p (move_params u a args) v ≡ Gave n params core v' → v.state.memories ≡ w.state.memories → AreHonestUntilTrap (AreHonest p a moved_on (landed (params_landing a))) params → ReadTexts p params
    params_gave v n params core v' is same o = params_reads v same (Gave n params core v') is (params_honest p u a known args w.state typed v same (Gave n params core v') is o)

    params_halted : (v : World) (n : ℕ) (params : List Call) (s : Stop) (v' : World) → run p (move_params u a args) v ≡ Halted n params s v' → v.state.memories ≡ w.state.memories → AreHonestUntilTrap (AreHonest p a moved_on (landed (params_landing a))) params → ReadTexts p params
    params_halted v n params s v' is same o = params_reads v same (Halted n params s v') is (params_honest p u a known args w.state typed v same (Halted n params s v') is o)

  -- the transfer of parameters, apart from what is around it
  params_part : (t : IsEntered p u a args w) (params others : List Call) → NoneCalls a params
      → (t.before_params.state.memories ≡ w.state.memories → AreHonestUntilTrap (AreHonest p a moved_on (landed (params_landing a))) params → ReadTexts p params)
      → AreUntilTrap (t.enter ++ (params ++ others)) → ReadTexts p params
  params_part t params others none reads (inl h) = let r = params_apart p u a args w t params others none h in reads r.begins (inl r.params)
  params_part t params others none reads (inr k) = by_enter (last_behind t.enter (params ++ others) k.front k.last k.calls_are)
    where
      by_params : (b : IsBehind t.enter (params ++ others) k.front k.last) → ((others ≡ []) × (params ≡ b.rest ++ k.last ∷ [])) ⊎ IsBehind params others b.rest k.last → ReadTexts p params
      by_params b (inl n) =
          let r = params_apart p u a args w t b.rest [] (none_front p u a x args w typed b.rest (k.last ∷ []) (subst (NoneCalls a) n.1 none))
          (subst (λ l. AreHonestSync p a args (t.enter ++ l)) (sym (append-nil b.rest)) (subst (AreHonestSync p a args) b.front_is k.front_honest)) in
          reads r.begins (inr (record { front = b.rest; last = k.last; calls_are = n.1; front_honest = r.params; last_traps = k.last_traps }))
      by_params b (inr d) =
          let r = params_apart p u a args w t params d.rest none (subst (AreHonestSync p a args) (b.front_is ∙ ap (λ l. t.enter ++ l) d.front_is) k.front_honest) in
          reads r.begins (inl r.params)

      by_enter : ((params ++ others ≡ []) × (t.enter ≡ k.front ++ k.last ∷ [])) ⊎ IsBehind t.enter (params ++ others) k.front k.last → ReadTexts p params
      by_enter (inl n) = subst (ReadTexts p) (sym (both_empty params others n.0).1) tt
      by_enter (inr b) = by_params b (last_behind params others b.rest k.last b.ds_is)

  -- ---- results

  module _ (callee : Call) (state : is_state p (state_after callee) ≡ true) where
    abbrev answered_bytes : List ℕ
    answered_bytes = side_memory p (options_of a.lift) (state_after callee)

    abbrev of_results : TransferSetting
    of_results = setting_of_results p u a (return_area a args) answered_bytes

    results_set : (v : World) → v.state.memories ≡ (state_after callee).memories → IsSet of_results (results_sides p u a known answered_bytes (return_area a args)) v.state
    results_set v same = record {
      bytes = (still_there p (options_of a.lift) (state_after callee) v.state answered_bytes same (has_bytes p (options_of a.lift) (state_after callee) known.lift state).there);
      there = record {
        from = there_same p (options_of a.lift) (state_after callee) v.state same (typed_is_there p (options_of a.lift) (state_after callee) known.lift state);
        to = there_same p (options_of a.lower) (state_after callee) v.state same (typed_is_there p (options_of a.lower) (state_after callee) known.lower state);
      };
    }

    -- they are there
    module _ (answer : are_values (results callee) (lift_signature_of a).results ≡ true) (vs : List Value) (answered : results_answered p a callee ≡ Some vs) where
      results_reads : (v : World) → v.state.memories ≡ (state_after callee).memories → (e : Ended (List CoreValue)) → run p (move_results u a (results callee) (last_bits args)) v ≡ e → HonestlyReads of_results e
      results_reads v same e is = subst (HonestlyReads of_results) is
          (reads_for of_results (results_sides p u a known answered_bytes (return_area a args)) (results_parts p u a args (results callee) (state_after callee)) (move_results u a (results callee) (last_bits args)) v
          (results_ask p u a known answered_bytes (return_area a args) (results callee) (last_bits args))
          (results_texts p u a args (results callee) (state_after callee) vs x sides state answer answered) (results_set v same))

      results_gave : (v : World) (n : ℕ) (back : List Call) (got : List CoreValue) (v' : World) → run p (move_results u a (results callee) (last_bits args)) v ≡ Gave n back got v' → v.state.memories ≡ (state_after callee).memories
          → AreHonestUntilTrap (AreHonest p a moved_on (landed (results_landing a args))) back → ReadTexts p back
      results_gave v n back got v' is same o = results_reads v same (Gave n back got v') is (results_honest p u a known args (results callee) (state_after callee) state v same (Gave n back got v') is o)

      results_halted : (v : World) (n : ℕ) (back : List Call) (s : Stop) (v' : World) → run p (move_results u a (results callee) (last_bits args)) v ≡ Halted n back s v' → v.state.memories ≡ (state_after callee).memories
          → AreHonestUntilTrap (AreHonest p a moved_on (landed (results_landing a args))) back → ReadTexts p back
      results_halted v n back s v' is same o = results_reads v same (Halted n back s v') is (results_honest p u a known args (results callee) (state_after callee) state v same (Halted n back s v') is o)

  -- the callee returned
  callee_returned : (t : IsAnswered p u a args w) (others : List Call) → AreHonestSync p a args (calls_answered p u a args w t others) → HasReturned t.callee
  callee_returned t others h =
      (returned_behind t.passed.params (t.callee ∷ (t.between ++ others))
      (returned_behind t.passed.start.enter (t.passed.params ++ (t.callee ∷ (t.between ++ others)))
      (honest_returned p a (sync_moved_on a args) (landed (params_landing a)) (calls_answered p u a args w t others) h))).0

  -- the transfer of results, apart from what is around it
  results_part : (t : IsAnswered p u a args w) (back others : List Call) → NoneCalls a back
      → (HasReturned t.callee → t.before_results.state.memories ≡ (state_after t.callee).memories → AreHonestUntilTrap (AreHonest p a moved_on (landed (results_landing a args))) back → ReadTexts p back)
      → AreUntilTrap (calls_answered p u a args w t (back ++ others)) → ReadTexts p back
  results_part t back others none reads (inl h) =
      let r = back_apart p u a x args w typed t back others none h in reads (callee_returned t (back ++ others) h) r.returns (inl r.back_honest)
  results_part t back others none reads (inr k) = by_before (last_behind (before_back p u a x args w typed t) (back ++ others) k.front k.last (regroup p u a x args w typed t (back ++ others) ∙ k.calls_are))
    where
      by_back : (b : IsBehind (before_back p u a x args w typed t) (back ++ others) k.front k.last) → ((others ≡ []) × (back ≡ b.rest ++ k.last ∷ [])) ⊎ IsBehind back others b.rest k.last → ReadTexts p back
      by_back b (inl n) =
          let h : AreHonestSync p a args (calls_answered p u a args w t b.rest) = subst (AreHonestSync p a args) (b.front_is ∙ regroup p u a x args w typed t b.rest) k.front_honest in
          let r = back_apart p u a x args w typed t b.rest [] (none_front p u a x args w typed b.rest (k.last ∷ []) (subst (NoneCalls a) n.1 none))
          (subst (λ l. AreHonestSync p a args (calls_answered p u a args w t l)) (sym (append-nil b.rest)) h) in
          reads (callee_returned t b.rest h) r.returns (inr (record { front = b.rest; last = k.last; calls_are = n.1; front_honest = r.back_honest; last_traps = k.last_traps }))
      by_back b (inr d) =
          let h : AreHonestSync p a args (calls_answered p u a args w t (back ++ d.rest)) =
          subst (AreHonestSync p a args) (b.front_is ∙ regroup p u a x args w typed t b.rest ∙ ap (λ l. calls_answered p u a args w t l) d.front_is) k.front_honest in
          let r = back_apart p u a x args w typed t back d.rest none h in
          reads (callee_returned t (back ++ d.rest) h) r.returns (inl r.back_honest)

      by_before : ((back ++ others ≡ []) × (before_back p u a x args w typed t ≡ k.front ++ k.last ∷ [])) ⊎ IsBehind (before_back p u a x args w typed t) (back ++ others) k.front k.last → ReadTexts p back
      by_before (inl n) = subst (ReadTexts p) (sym (both_empty back others n.0).1) tt
      by_before (inr b) = by_back b (last_behind back others b.rest k.last b.ds_is)

  -- ---- whole runs

  module _ (cs : List Call) (values : AreValuesThere p a args w.state cs) (o : AreUntilTrap cs) where
    -- calls until the callee's
    passed_read : (t : IsPassedOn p u a args w) (others : List Call) → cs ≡ calls_before p u a args w t others → ReadTexts p others → ReadTexts p cs
    passed_read t others e h =
        subst (ReadTexts p) (sym e)
        (reads_append p t.start.enter (t.params ++ others) (around_read p None t.start.enter t.start.entered.around)
        (reads_append p t.params others
        (params_part t.start t.params others (params_none p u a x args w typed args t.start.before_params _ t.params_run)
        (λ same until. params_gave values.params values.params_are t.start.before_params t.params_weight t.params t.core t.behind_params t.params_run same until) (subst AreUntilTrap e o)) h))

    -- calls until the results'
    answered_read : (t : IsAnswered p u a args w) (others : List Call) → cs ≡ calls_answered p u a args w t others → ReadTexts p others → ReadTexts p cs
    answered_read t others e h =
        passed_read t.passed (t.callee ∷ (t.between ++ others)) e (callee_reads p a.callee t.callee t.callee_is, reads_append p t.between others (around_read p None t.between t.left.around) h)

    -- the results are there, where the callee returned
    answers_there : (t : IsAnswered p u a args w) (others : List Call) → cs ≡ calls_answered p u a args w t others → HasReturned t.callee → (vs : List Value) × (results_answered p a t.callee ≡ Some vs)
    answers_there t others e returned =
        values.results (t.passed.start.enter ++ t.passed.params) t.callee (t.between ++ others) (e ∙ sym (append_assoc t.passed.start.enter t.passed.params (t.callee ∷ (t.between ++ others)))) t.callee_is returned

    halts_read : (s : Stop) → HaltsAt p u a args w s cs → ReadTexts p cs
    halts_read s (AtEntry h) = around_read p None cs h
    halts_read s (AtParams t n params v is e) =
        subst (ReadTexts p) (sym e)
        (reads_append p t.enter params (around_read p None t.enter t.entered.around)
        (params_part t params [] (params_none p u a x args w typed args t.before_params _ is) (λ same until. params_halted values.params values.params_are t.before_params n params s v is same until)
        (subst AreUntilTrap (e ∙ ap (λ l. t.enter ++ l) (sym (append-nil params))) o)))
    halts_read s (AtCallee t others h e) = passed_read t others e (callee_read p a others h)
    halts_read s (AtResults t n back v is e) =
        answered_read t back e
        (results_part t back [] (results_none p u a x args w typed (results t.callee) t.before_results _ is)
        (λ returned same until. let r = answers_there t back e returned in results_halted t.callee t.answer_state t.answer_typed r.0 r.1 t.before_results n back s v is same until)
        (subst AreUntilTrap (e ∙ ap (λ l. calls_answered p u a args w t l) (sym (append-nil back))) o))
    halts_read s (AtEnd t n back vs v others is h e) =
        answered_read t (back ++ others) e
        (reads_append p back others
        (results_part t back others (results_none p u a x args w typed (results t.callee) t.before_results _ is)
        (λ returned same until. let r = answers_there t (back ++ others) e returned in results_gave t.callee t.answer_state t.answer_typed r.0 r.1 t.before_results n back vs v is same until) (subst AreUntilTrap e o))
        (around_read p a.lift.post_return others h))

    -- a run that gave something, all of whose calls are honest
    parted_read : (n : ℕ) (vs : List CoreValue) (w' : World) → IsParted p u a args w n cs vs w' → AreHonestSync p a args cs → ReadTexts p cs
    parted_read n vs w' k honest =
        let parts = honest_parts p u a args w n cs vs w' x k honest in
        let all = honest_returned p a (sync_moved_on a args) (landed (params_landing a)) cs honest in
        let returned : HasReturned k.callee =
        (returned_behind k.params (k.callee ∷ (k.between ++ (k.back ++ k.finish))) (returned_behind k.enter (k.params ++ (k.callee ∷ (k.between ++ (k.back ++ k.finish)))) (subst AreReturned k.calls_are all))).0 in
        let r = values.results (k.enter ++ k.params) k.callee (k.between ++ (k.back ++ k.finish)) (k.calls_are ∙ sym (append_assoc k.enter k.params (k.callee ∷ (k.between ++ (k.back ++ k.finish))))) k.callee_is returned in
        subst (ReadTexts p) (sym k.calls_are)
        (reads_append p k.enter (k.params ++ (k.callee ∷ (k.between ++ (k.back ++ k.finish)))) (around_read p None k.enter k.entered.around)
        (reads_append p k.params (k.callee ∷ (k.between ++ (k.back ++ k.finish)))
        (params_gave values.params values.params_are k.before_params k.params_weight k.params k.core k.behind_params k.params_run parts.begins (inl parts.params)) (
          callee_reads p a.callee k.callee k.callee_is,
          reads_append p k.between (k.back ++ k.finish) (around_read p None k.between k.left.around)
              (reads_append p k.back k.finish
              (results_gave k.callee k.answer_state k.answer_typed r.0 r.1 k.before_results k.results_weight k.back vs k.behind_results k.results_run parts.returns (inl parts.results))
              (around_read p a.lift.post_return k.finish k.finished.around)),
        )))

  -- ---- with the barrier

  guarded : (b : Bool) (e : Ended (List CoreValue)) → Stopping e (HaltsAt p u a args w) → Stopping e Unthrown → GivesReturned e
      → ((n : ℕ) (cs : List Call) (vs : List CoreValue) (w' : World) → guarded_if b p e ≡ Gave n cs vs w' → IsParted p u a args w n cs vs w')
      → IsStraight (guarded_if b p e) → AreValuesThere p a args w.state (calls_in (guarded_if b p e)) → AreUntilTrap (calls_in (guarded_if b p e)) → ReadTexts p (calls_in (guarded_if b p e))
  guarded true (Gave n cs vs v) halts thrown returned gives straight values o = parted_read cs values o n vs v (gives n cs vs v refl) (all_honest (AreHonestSync p a args) cs returned o)
  guarded false (Gave n cs vs v) halts thrown returned gives straight values o = parted_read cs values o n vs v (gives n cs vs v refl) (all_honest (AreHonestSync p a args) cs returned o)
  guarded true (Strayed n cs v) halts thrown returned gives straight values o = absurd straight
  guarded false (Strayed n cs v) halts thrown returned gives straight values o = absurd straight
  guarded true (Halted n cs Lack v) halts thrown returned gives straight values o = halts_read cs values o Lack halts
  guarded true (Halted n cs Trap v) halts thrown returned gives straight values o = halts_read cs values o Trap halts
  guarded false (Halted n cs s v) halts thrown returned gives straight values o = halts_read cs values o s halts
  guarded true (Halted n cs Throw v) halts thrown returned gives straight values o =
      let e = run p (trap {A = List CoreValue} UncaughtException) v in
      absurd (thrown (none_before cs (calls_in e) (none_threw (AreHonestSync p a args) (λ ds h. honest_returned p a (sync_moved_on a args) (landed (params_landing a)) ds h) (cs ++ calls_in e) (subst AreUntilTrap (calls_behind n cs e) o))) tt)

pub transcoders_read_texts : TranscodersReadTexts
transcoders_read_texts p u a args w may x sides honest values =
    guarded p u a x sides args w honest.state_typed honest.args_typed u.exceptions (run p (sync u a args) w) (halts_sync p u a args w may).so (never_thrown p (sync u a args) w) (gives_returned p (sync u a args) w) (λ n cs vs w' e. parted p u a args w w' n cs vs e) honest.typed values honest.honest
