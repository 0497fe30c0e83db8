-- Whole adapters ask of realloc what the parts of their values do.
use Rattle.std.proofs.Common.{◌≡◌, ◌≢◌, ℕ, ◌⊎◌, inl, inr, Bool, true, false, List, [], ◌∷◌, ◌++◌, Option, None, refl, sym, ap, ◌∙◌, subst, append_assoc}
use Rattle.std.proofs.lemmas.List.{append-nil}
use Rattle.fact_types.specs.Adapters.{LinkedAdapter}
use Rattle.fact_types.specs.declared.import.Import.{Import}
use Rattle.fact_types.specs.declared.import.Import.TheVariants as import
use Rattle.fact_types.specs.declared.outside.CoreDef.{CoreDef}
use Rattle.fact_types.specs.declared.outside.Trap.TheVariants.{UncaughtException}
use Rattle.fact_machine.specs.declared.types.CoreValue.{CoreValue}
use Rattle.fact_machine.specs.declared.types.CoreValue.TheVariants.{I32}
use Rattle.fact_machine.specs.declared.types.MachineState.{MachineState}
use Rattle.fact_machine.specs.World.{World, Stop, Trap, Throw, Lack}
use Rattle.fact_actions.specs.Actions.{trap}
use Rattle.fact_actions.specs.Adapters.{AdapterTunables, params_transfer, results_transfer, last_bits, move_params, move_results, sync}
use Rattle.fact_actions.specs.Calls.{results, side_memory, state_after}
use Rattle.fact_actions.specs.Honest.{AreHonest, AreHonestSync}
use Rattle.fact_actions.specs.Order.{flag_in, HaveTwoMemories, IsValueCall}
use Rattle.fact_actions.specs.Plain.{guarded_if}
use Rattle.fact_actions.specs.Regions.{landed, params_landing, results_landing, return_area, moved_on, sync_moved_on}
use Rattle.fact_actions.specs.Running.{ImportPlaces, Call, Ended, Gave, Halted, Strayed, calls_in, is_state, run}
use Rattle.fact_actions.specs.Sides.{LiftLowerOptions, options_of}
use Rattle.fact_actions.proofs.OwnParts.{same_self}
use Rattle.fact_action_laws.specs.FaithfulLaws.{setting_of_params, setting_of_results, IsCheckedAdapter}
use Rattle.fact_action_laws.specs.HonestMoves.{AreHonestCalls}
use Rattle.fact_action_laws.specs.Regions.{TransferSetting}
use Rattle.fact_action_laws.proofs.Apart.{advance}
use Rattle.fact_action_laws.proofs.Called.{AllCalled, params_called, results_called}
use Rattle.fact_action_laws.proofs.Ending.{ParamsApart, ResultsApart, params_apart, results_apart, honest_returned, calls_behind}
use Rattle.fact_action_laws.proofs.Framed.{IsAround, AreAround, IsParted, parted}
use Rattle.fact_action_laws.proofs.Grounding.{has_bytes, still_there}
use Rattle.fact_action_laws.proofs.Honestly.{IsOfTransfer, params_of_transfer, results_of_transfer, honest_are}
use Rattle.fact_action_laws.proofs.Once.{NoneCalls, none_calls, params_differ, results_differ, Differs}
use Rattle.fact_action_laws.proofs.TransferHonesty.{honest_parts}
use Rattle.fact_action_laws.proofs.Stopping.{Stopping, AreReturned, IsEntered, IsPassedOn, IsAnswered, calls_before, calls_answered as answered_calls, moves_back}
use Rattle.fact_action_laws.specs.AdapterValueLaws.{RequestsAreCalledFor}
use Rattle.fact_action_laws.specs.Premises.{KnowsMemories}
use Rattle.fact_action_laws.specs.Requested.{AsksForParts, IsOwnRealloc, CallOwnRealloc, params_parts, results_parts, IsOutsideTransfers, AreOutsideTransfers, AreFromCallee, ArePassed, AreAnswered, HaveAskedForAll, HaveAskedSoFar, StopsEntering, StopsInParams, StopsCalling, StopsInResults, StopsFinishing, AsksForValues}
use Rattle.fact_action_laws.specs.Rooms.{AllCutsShrink}
use Rattle.fact_action_laws.specs.Trapped.{LastTraps, AreHonestUntilTrap, answers_so_far, BeginRequestsSoFar}
use Rattle.fact_action_laws.proofs.TransferAsks.{HonestlyAsks, asks_for, params_sides, results_sides, params_ask, results_ask}
use Rattle.fact_action_laws.proofs.Answered.{position}
use Rattle.fact_action_laws.proofs.Halting.{HaltsAt, AtEntry, AtParams, AtCallee, AtResults, AtEnd, FromCallee, halts_sync}
use Rattle.fact_action_laws.proofs.PartAsks.{unanswered}
use Rattle.fact_action_laws.proofs.Thrown.{Unthrown, never_thrown, none_before, none_threw}
use Rattle.fact_action_laws.proofs.Trapped.{IsBehind, last_behind, no_last, all_honest, GivesReturned, gives_returned, returned_all}

-- ---- calls beside transfers

beside : (r : Option CoreDef) (i : Import) → IsAround r i → IsOutsideTransfers r i
beside r (import.CoreDef d) h = h
beside r (import.Transcode o from from64 to to64) h = absurd h
beside r (import.PrepareCall memory) h = absurd h
beside r (import.StartCall callback function) h = absurd h
beside r import.ResourceTransferOwn h = absurd h
beside r import.ResourceTransferBorrow h = absurd h
beside r import.FutureTransfer h = absurd h
beside r import.StreamTransfer h = absurd h
beside r import.ErrorContextTransfer h = absurd h
beside r (import.Trap t) h = absurd h
beside r import.EnterSyncCall h = tt
beside r import.ExitSyncCall h = tt
beside r (import.UnsafeIntrinsic s) h = tt

are_beside : (r : Option CoreDef) (cs : List Call) → AreAround r cs → AreOutsideTransfers r cs
are_beside r [] h = tt
are_beside r (c ∷ cs) h = (beside r c.what h.0, are_beside r cs h.1)

from_callee : (a : LinkedAdapter) (cs : List Call) → FromCallee a cs → AreFromCallee a cs
from_callee a [] h = tt
from_callee a (c ∷ cs) h = (h.0, are_beside None cs h.1)

-- ---- core functions that transfers call

value_own : (from to other : LiftLowerOptions) (i : Import) → IsValueCall from to i → IsOwnRealloc other i
value_own from to other (import.CoreDef d) h = absurd h
value_own from to other (import.Transcode o from_def from64 to_def to64) h = tt
value_own from to other (import.PrepareCall memory) h = absurd h
value_own from to other (import.StartCall callback function) h = absurd h
value_own from to other import.ResourceTransferOwn h = tt
value_own from to other import.ResourceTransferBorrow h = tt
value_own from to other import.FutureTransfer h = tt
value_own from to other import.StreamTransfer h = tt
value_own from to other import.ErrorContextTransfer h = tt
value_own from to other (import.Trap t) h = tt
value_own from to other import.EnterSyncCall h = tt
value_own from to other import.ExitSyncCall h = tt
value_own from to other (import.UnsafeIntrinsic s) h = tt

own_calls : (to : LiftLowerOptions) (cs : List Call) → AllCalled (IsOwnRealloc to) cs → CallOwnRealloc to cs
own_calls to [] h = tt
own_calls to (c ∷ cs) h = (h.0, own_calls to cs h.1)

module _ (p : ImportPlaces) (u : AdapterTunables) (a : LinkedAdapter) (w : World) where
  params_own : (args : List CoreValue) (e : Ended (List CoreValue)) → run p (move_params u a args) w ≡ e → CallOwnRealloc (options_of a.lift) (calls_in e)
  params_own args e is = own_calls (options_of a.lift) (calls_in e) (subst (λ e. AllCalled (IsOwnRealloc (options_of a.lift)) (calls_in e)) is
      (params_called (IsOwnRealloc (options_of a.lift)) (λ t. tt) (λ s. tt) u a (λ f e. (f, e, same_self f)) (value_own (options_of a.lower) (options_of a.lift) (options_of a.lift)) args p w))

  results_own : (given : List CoreValue) (pointer : ℕ) (e : Ended (List CoreValue)) → run p (move_results u a given pointer) w ≡ e → CallOwnRealloc (options_of a.lower) (calls_in e)
  results_own given pointer e is = own_calls (options_of a.lower) (calls_in e) (subst (λ e. AllCalled (IsOwnRealloc (options_of a.lower)) (calls_in e)) is
      (results_called (IsOwnRealloc (options_of a.lower)) (λ t. tt) (λ s. tt) u a (λ f e. (f, e, same_self f)) (value_own (options_of a.lift) (options_of a.lower) (options_of a.lower)) given pointer p w))

-- ---- transfers that are honest until a trap

called_front : (P : Import → Type 0) (cs ds : List Call) → AllCalled P (cs ++ ds) → AllCalled P cs
called_front P [] ds h = tt
called_front P (c ∷ cs) ds h = (h.0, called_front P cs ds h.1)

until_trap : (c : TransferSetting) → HaveTwoMemories c.places c.transfer.from c.transfer.to → (a : LinkedAdapter) (cs : List Call) → AllCalled (IsOfTransfer c.transfer.from c.transfer.to) cs
    → AreHonestUntilTrap (AreHonest c.places a moved_on (position c [])) cs → AreHonestUntilTrap (AreHonestCalls c []) cs
until_trap c two a cs o (inl h) = inl (honest_are c two a [] cs o h)
until_trap c two a cs o (inr t) = inr (record {
  front = t.front;
  last = t.last;
  calls_are = t.calls_are;
  front_honest = honest_are c two a [] t.front (called_front (IsOfTransfer c.transfer.from c.transfer.to) t.front (t.last ∷ []) (subst (AllCalled (IsOfTransfer c.transfer.from c.transfer.to)) t.calls_are o)) t.front_honest;
  last_traps = t.last_traps;
})

module _ (p : ImportPlaces) (u : AdapterTunables) (a : LinkedAdapter) (known : KnowsMemories p a) where
  -- The parameters, from a state whose memories are those of a typed one.
  module _ (args : List CoreValue) (s : MachineState) (typed : is_state p s ≡ true) (w : World) (same : w.state.memories ≡ s.memories) where
    abbrev of_p : TransferSetting
    of_p = setting_of_params p u a (side_memory p (options_of a.lower) s)

    pub params_honest : (e : Ended (List CoreValue)) → run p (move_params u a args) w ≡ e → AreHonestUntilTrap (AreHonest p a moved_on (landed (params_landing a))) (calls_in e) → AreHonestUntilTrap (AreHonestCalls of_p []) (calls_in e)
    params_honest e is h = until_trap of_p known.two a (calls_in e) (subst (λ e. AllCalled (IsOfTransfer (options_of a.lower) (options_of a.lift)) (calls_in e)) is (params_of_transfer u a p w args)) h

    pub params_asked : (e : Ended (List CoreValue)) → run p (move_params u a args) w ≡ e → AreHonestUntilTrap (AreHonest p a moved_on (landed (params_landing a))) (calls_in e) → AsksForParts (params_transfer u a) (params_landing a) (params_parts p u a args s) e
    params_asked e is h =
        subst (HonestlyAsks of_p (params_parts p u a args s)) is
        (asks_for of_p (params_sides p u a known (side_memory p (options_of a.lower) s)) (params_parts p u a args s) (move_params u a args) w (params_ask p u a known (side_memory p (options_of a.lower) s) args)
        (still_there p (options_of a.lower) s w.state (side_memory p (options_of a.lower) s) same (has_bytes p (options_of a.lower) s known.lower typed).there)) (params_honest e is h)

  -- The results, from the state that the callee left.
  module _ (args given : List CoreValue) (s : MachineState) (typed : is_state p s ≡ true) (w : World) (same : w.state.memories ≡ s.memories) where
    abbrev of_r : TransferSetting
    of_r = setting_of_results p u a (return_area a args) (side_memory p (options_of a.lift) s)

    pub results_honest : (e : Ended (List CoreValue)) → run p (move_results u a given (last_bits args)) w ≡ e → AreHonestUntilTrap (AreHonest p a moved_on (landed (results_landing a args))) (calls_in e) → AreHonestUntilTrap (AreHonestCalls of_r []) (calls_in e)
    results_honest e is h =
        until_trap of_r (λ m n e f k. known.two n m f e (sym k)) a (calls_in e) (subst (λ e. AllCalled (IsOfTransfer (options_of a.lift) (options_of a.lower)) (calls_in e)) is (results_of_transfer u a p w given (last_bits args))) h

    pub results_asked : (e : Ended (List CoreValue)) → run p (move_results u a given (last_bits args)) w ≡ e → AreHonestUntilTrap (AreHonest p a moved_on (landed (results_landing a args))) (calls_in e) → AsksForParts (results_transfer u a) (results_landing a args) (results_parts p u a args given s) e
    results_asked e is h =
        subst (HonestlyAsks of_r (results_parts p u a args given s)) is
        (asks_for of_r (results_sides p u a known (side_memory p (options_of a.lift) s) (return_area a args)) (results_parts p u a args given s) (move_results u a given (last_bits args)) w
        (results_ask p u a known (side_memory p (options_of a.lift) s) (return_area a args) given (last_bits args))
        (still_there p (options_of a.lift) s w.state (side_memory p (options_of a.lift) s) same (has_bytes p (options_of a.lift) s known.lift typed).there)) (results_honest e is h)

-- ---- sync adapters

pub knows_memories : (p : ImportPlaces) (a : LinkedAdapter) → IsCheckedAdapter p a → KnowsMemories p a
knows_memories p a x = record { lower = x.lower_memory; lift = x.lift_memory; two = x.memories }

module _ (p : ImportPlaces) (u : AdapterTunables) (a : LinkedAdapter) (x : IsCheckedAdapter p a) (args : List CoreValue) (w : World) (typed : is_state p w.state ≡ true) where
  abbrev known : KnowsMemories p a
  known = knows_memories p a x

  -- a run that gave something
  finished : (n : ℕ) (cs : List Call) (vs : List CoreValue) (w' : World) → IsParted p u a args w n cs vs w' → AreHonestSync p a args cs → HaveAskedForAll p u a args w.state cs
  finished n cs vs w' k honest =
      let parts = honest_parts p u a args w n cs vs w' x k honest in
      let asked = params_asked p u a known args w.state typed k.before_params parts.begins (Gave k.params_weight k.params k.core k.behind_params) k.params_run (inl parts.params) in
      let back = results_asked p u a known args (results k.callee) (state_after k.callee) k.answer_state k.before_results parts.returns (Gave k.results_weight k.back vs k.behind_results) k.results_run (inl parts.results) in
      record {
        answered = record {
          passed = record {
            enter = k.enter;
            params = k.params;
            enter_is = are_beside None k.enter k.entered.around;
            params_are = params_own p u a k.before_params args (Gave k.params_weight k.params k.core k.behind_params) k.params_run;
            params_return = returned_all k.params (subst GivesReturned k.params_run (gives_returned p (move_params u a args) k.before_params));
            params_ask = asked.0;
            params_shrink = asked.1;
          };
          callee = k.callee;
          between = k.between;
          callee_is = k.callee_is;
          between_is = are_beside None k.between k.left.around;
        };
        back = k.back;
        finish = k.finish;
        calls_are = k.calls_are;
        back_is = results_own p u a k.before_results (results k.callee) (last_bits args) (Gave k.results_weight k.back vs k.behind_results) k.results_run;
        back_returns = returned_all k.back (subst GivesReturned k.results_run (gives_returned p (move_results u a (results k.callee) (last_bits args)) k.before_results));
        back_asks = back.0;
        back_shrinks = back.1;
        finish_is = are_beside a.lift.post_return k.finish k.finished.around;
      }

  -- ---- runs that stop

  pub params_none : (args : List CoreValue) (v : World) (e : Ended (List CoreValue)) → run p (move_params u a args) v ≡ e → NoneCalls a (calls_in e)
  params_none args v e is = none_calls a (calls_in e) (subst (λ e. AllCalled (Differs a) (calls_in e)) is (params_differ p u a x v args))

  pub results_none : (given : List CoreValue) (v : World) (e : Ended (List CoreValue)) → run p (move_results u a given (last_bits args)) v ≡ e → NoneCalls a (calls_in e)
  results_none given v e is = none_calls a (calls_in e) (subst (λ e. AllCalled (Differs a) (calls_in e)) is (results_differ p u a x v given (last_bits args)))

  passed_apart : (t : IsPassedOn p u a args w) (others : List Call) → AreHonestSync p a args (calls_before p u a args w t others) → ParamsApart p u a args w t.start t.params others
  passed_apart t others h = params_apart p u a args w t.start t.params others (params_none args t.start.before_params _ t.params_run) h

  params_returned : (t : IsPassedOn p u a args w) → AreReturned t.params
  params_returned t = subst GivesReturned t.params_run (gives_returned p (move_params u a args) t.start.before_params)

  abbrev passed : (t : IsPassedOn p u a args w) (others : List Call) → AreHonestSync p a args (calls_before p u a args w t others) → ArePassed p u a args w.state
  passed t others h =
      let r = passed_apart t others h in
      let asked = params_asked p u a known args w.state typed t.start.before_params r.begins (Gave t.params_weight t.params t.core t.behind_params) t.params_run (inl r.params) in
      record {
        enter = t.start.enter;
        params = t.params;
        enter_is = are_beside None t.start.enter t.start.entered.around;
        params_are = params_own p u a t.start.before_params args (Gave t.params_weight t.params t.core t.behind_params) t.params_run;
        params_return = returned_all t.params (params_returned t);
        params_ask = asked.0;
        params_shrink = asked.1;
      }

  abbrev answered : (t : IsAnswered p u a args w) (others : List Call) → AreHonestSync p a args (answered_calls p u a args w t others) → AreAnswered p u a args w.state
  answered t others h = record {
    passed = passed t.passed (t.callee ∷ (t.between ++ others)) h;
    callee = t.callee;
    between = t.between;
    callee_is = t.callee_is;
    between_is = are_beside None t.between t.left.around;
  }

  -- ---- until a trap

  abbrev AreUntilTrap : List Call → Type 0
  AreUntilTrap cs = AreHonestUntilTrap (AreHonestSync p a args) cs

  pub none_front : (cs ds : List Call) → NoneCalls a (cs ++ ds) → NoneCalls a cs
  none_front [] ds h = tt
  none_front (c ∷ cs) ds h = (h.0, none_front cs ds h.1)

  -- Calls of the callee and beside transfers: where a trap comes before parameters, calls only enter.
  at_callee : (t : IsPassedOn p u a args w) (others : List Call) → AreFromCallee a others → (cs : List Call) → cs ≡ calls_before p u a args w t others → AreUntilTrap cs → HaveAskedSoFar p u a args w.state cs
  at_callee t others from cs e (inl h) = StopsCalling (passed t others (subst (AreHonestSync p a args) e h)) others from e
  at_callee t others from cs e (inr k) = by_enter (last_behind t.start.enter (t.params ++ others) k.front k.last (sym e ∙ k.calls_are))
    where
      by_params : (b : IsBehind t.start.enter (t.params ++ others) k.front k.last) → ((others ≡ []) × (t.params ≡ b.rest ++ k.last ∷ [])) ⊎ IsBehind t.params others b.rest k.last → HaveAskedSoFar p u a args w.state cs
      by_params b (inl n) = absurd (no_last t.params b.rest k.last (params_returned t) n.1 k.last_traps)
      by_params b (inr d) = StopsCalling (passed t d.rest (subst (AreHonestSync p a args) (b.front_is ∙ ap (λ l. t.start.enter ++ l) d.front_is) k.front_honest)) others from e

      by_enter : ((t.params ++ others ≡ []) × (t.start.enter ≡ k.front ++ k.last ∷ [])) ⊎ IsBehind t.start.enter (t.params ++ others) k.front k.last → HaveAskedSoFar p u a args w.state cs
      by_enter (inl n) = StopsEntering (subst (AreOutsideTransfers None) (sym (e ∙ ap (λ l. t.start.enter ++ l) n.0 ∙ append-nil t.start.enter)) (are_beside None t.start.enter t.start.entered.around))
      by_enter (inr b) = by_params b (last_behind t.params others b.rest k.last b.ds_is)

  -- Parameters: a transfer that has called nothing has asked for nothing.
  at_params : (t : IsEntered p u a args w) (n : ℕ) (params : List Call) (s : Stop) (v : World) → run p (move_params u a args) t.before_params ≡ Halted n params s v → (cs : List Call) → cs ≡ t.enter ++ params → AreUntilTrap cs → HaveAskedSoFar p u a args w.state cs
  at_params t n params s v is cs e o = by_honest o
    where
      stops : BeginRequestsSoFar (params_transfer u a) (params_landing a) (params_parts p u a args w.state) params × AllCutsShrink (params_transfer u a) (params_parts p u a args w.state) (answers_so_far (params_landing a) params) → HaveAskedSoFar p u a args w.state cs
      stops h = StopsInParams t.enter params (are_beside None t.enter t.entered.around) e (params_own p u a t.before_params args (Halted n params s v) is) h.0 h.1

      asked : (rest : List Call) → NoneCalls a rest → AreHonestSync p a args (t.enter ++ rest) → (AreHonest p a moved_on (landed (params_landing a)) rest → AreHonestUntilTrap (AreHonest p a moved_on (landed (params_landing a))) params) → HaveAskedSoFar p u a args w.state cs
      asked rest none h until =
          let r = params_apart p u a args w t rest [] none (subst (λ l. AreHonestSync p a args (t.enter ++ l)) (sym (append-nil rest)) h) in
          stops (params_asked p u a known args w.state typed t.before_params r.begins (Halted n params s v) is (until r.params))

      none : NoneCalls a params
      none = params_none args t.before_params _ is

      by_behind : (k : LastTraps (AreHonestSync p a args) cs) → ((params ≡ []) × (t.enter ≡ k.front ++ k.last ∷ [])) ⊎ IsBehind t.enter params k.front k.last → HaveAskedSoFar p u a args w.state cs
      by_behind k (inl m) = stops (
        subst (λ l. BeginRequestsSoFar (params_transfer u a) (params_landing a) (params_parts p u a args w.state) l) (sym m.0) (record { more = _; is = refl }),
        subst (λ l. AllCutsShrink (params_transfer u a) (params_parts p u a args w.state) (answers_so_far (params_landing a) l)) (sym m.0) (unanswered (params_transfer u a) (params_parts p u a args w.state)),
      )
      by_behind k (inr b) =
          asked b.rest (none_front b.rest (k.last ∷ []) (subst (NoneCalls a) b.ds_is none)) (subst (AreHonestSync p a args) b.front_is k.front_honest)
          (λ h. inr (record { front = b.rest; last = k.last; calls_are = b.ds_is; front_honest = h; last_traps = k.last_traps }))

      by_honest : AreUntilTrap cs → HaveAskedSoFar p u a args w.state cs
      by_honest (inl h) = asked params none (subst (AreHonestSync p a args) e h) (λ h. inl h)
      by_honest (inr k) = by_behind k (last_behind t.enter params k.front k.last (sym e ∙ k.calls_are))

  -- ---- results

  -- the calls before those of the transfer of results
  abbrev pub before_back : IsAnswered p u a args w → List Call
  before_back t = t.passed.start.enter ++ (t.passed.params ++ (t.callee ∷ t.between))

  pub regroup : (t : IsAnswered p u a args w) (ds : List Call) → before_back t ++ ds ≡ answered_calls p u a args w t ds
  regroup t ds =
      append_assoc t.passed.start.enter (t.passed.params ++ (t.callee ∷ t.between)) ds
      ∙ ap (λ l. t.passed.start.enter ++ l) (append_assoc t.passed.params (t.callee ∷ t.between) ds)

  pub back_apart : (t : IsAnswered p u a args w) (back more : List Call) → NoneCalls a back → AreHonestSync p a args (answered_calls p u a args w t (back ++ more)) → ResultsApart p u a args w t back
  back_apart t back more none h = results_apart p u a args w t back more (advance (sync_moved_on a args) (landed (params_landing a)) t.passed.params) none (passed_apart t.passed (t.callee ∷ (t.between ++ (back ++ more))) h).remain

  -- The callee answered, and nothing was called behind it but what is beside transfers.
  none_back : (t : IsAnswered p u a args w) (back cs : List Call) → back ≡ [] → cs ≡ answered_calls p u a args w t back → AreUntilTrap cs → HaveAskedSoFar p u a args w.state cs
  none_back t back cs none e o =
      at_callee t.passed (t.callee ∷ (t.between ++ back))
      (t.callee_is, subst (λ l. AreOutsideTransfers None (t.between ++ l)) (sym none) (subst (AreOutsideTransfers None) (sym (append-nil t.between)) (are_beside None t.between t.left.around))) cs e o

  at_results : (t : IsAnswered p u a args w) (n : ℕ) (back : List Call) (s : Stop) (v : World) → run p (moves_back p u a args w t) t.before_results ≡ Halted n back s v → (cs : List Call) → cs ≡ answered_calls p u a args w t back → AreUntilTrap cs → HaveAskedSoFar p u a args w.state cs
  at_results t n back s v is cs e o = by_honest o
    where
      asked : (rest : List Call) → NoneCalls a rest → AreHonestSync p a args (answered_calls p u a args w t rest) → (AreHonest p a moved_on (landed (results_landing a args)) rest → AreHonestUntilTrap (AreHonest p a moved_on (landed (results_landing a args))) back) → HaveAskedSoFar p u a args w.state cs
      asked rest none h until =
          let r = back_apart t rest [] none (subst (λ l. AreHonestSync p a args (answered_calls p u a args w t l)) (sym (append-nil rest)) h) in
          let q = results_asked p u a known args (results t.callee) (state_after t.callee) t.answer_state t.before_results r.returns (Halted n back s v) is (until r.back_honest) in
          StopsInResults (answered t rest h) back e (results_own p u a t.before_results (results t.callee) (last_bits args) (Halted n back s v) is) q.0 q.1

      none : NoneCalls a back
      none = results_none (results t.callee) t.before_results _ is

      by_behind : (k : LastTraps (AreHonestSync p a args) cs) → ((back ≡ []) × (before_back t ≡ k.front ++ k.last ∷ [])) ⊎ IsBehind (before_back t) back k.front k.last → HaveAskedSoFar p u a args w.state cs
      by_behind k (inl m) = none_back t back cs m.0 e o
      by_behind k (inr b) =
          asked b.rest (none_front b.rest (k.last ∷ []) (subst (NoneCalls a) b.ds_is none)) (subst (AreHonestSync p a args) (b.front_is ∙ regroup t b.rest) k.front_honest)
          (λ h. inr (record { front = b.rest; last = k.last; calls_are = b.ds_is; front_honest = h; last_traps = k.last_traps }))

      by_honest : AreUntilTrap cs → HaveAskedSoFar p u a args w.state cs
      by_honest (inl h) = asked back none (subst (AreHonestSync p a args) e h) (λ h. inl h)
      by_honest (inr k) = by_behind k (last_behind (before_back t) back k.front k.last (regroup t back ∙ sym e ∙ k.calls_are))

  at_end : (t : IsAnswered p u a args w) (n : ℕ) (back : List Call) (vs : List CoreValue) (v : World) (others : List Call) → run p (moves_back p u a args w t) t.before_results ≡ Gave n back vs v → AreAround a.lift.post_return others
      → (cs : List Call) → cs ≡ answered_calls p u a args w t (back ++ others) → AreUntilTrap cs → HaveAskedSoFar p u a args w.state cs
  at_end t n back vs v others is around cs e o = by_honest o
    where
      returned : AreReturned back
      returned = subst GivesReturned is (gives_returned p (moves_back p u a args w t) t.before_results)

      finishes : (rest : List Call) → AreHonestSync p a args (answered_calls p u a args w t (back ++ rest)) → HaveAskedSoFar p u a args w.state cs
      finishes rest h =
          let r = back_apart t back rest (results_none (results t.callee) t.before_results _ is) h in
          let q = results_asked p u a known args (results t.callee) (state_after t.callee) t.answer_state t.before_results r.returns (Gave n back vs v) is (inl r.back_honest) in
          StopsFinishing (record {
            answered = answered t (back ++ rest) h;
            back = back;
            finish = others;
            calls_are = e;
            back_is = results_own p u a t.before_results (results t.callee) (last_bits args) (Gave n back vs v) is;
            back_returns = returned_all back returned;
            back_asks = q.0;
            back_shrinks = q.1;
            finish_is = are_beside a.lift.post_return others around;
          })

      by_back : (k : LastTraps (AreHonestSync p a args) cs) (b : IsBehind (before_back t) (back ++ others) k.front k.last) → ((others ≡ []) × (back ≡ b.rest ++ k.last ∷ [])) ⊎ IsBehind back others b.rest k.last → HaveAskedSoFar p u a args w.state cs
      by_back k b (inl m) = absurd (no_last back b.rest k.last returned m.1 k.last_traps)
      by_back k b (inr d) = finishes d.rest (subst (AreHonestSync p a args) (b.front_is ∙ regroup t b.rest ∙ ap (λ l. answered_calls p u a args w t l) d.front_is) k.front_honest)

      by_behind : (k : LastTraps (AreHonestSync p a args) cs) → ((back ++ others ≡ []) × (before_back t ≡ k.front ++ k.last ∷ [])) ⊎ IsBehind (before_back t) (back ++ others) k.front k.last → HaveAskedSoFar p u a args w.state cs
      by_behind k (inl m) = none_back t (back ++ others) cs m.0 e o
      by_behind k (inr b) = by_back k b (last_behind back others b.rest k.last b.ds_is)

      by_honest : AreUntilTrap cs → HaveAskedSoFar p u a args w.state cs
      by_honest (inl h) = finishes others (subst (AreHonestSync p a args) e h)
      by_honest (inr k) = by_behind k (last_behind (before_back t) (back ++ others) k.front k.last (regroup t (back ++ others) ∙ sym e ∙ k.calls_are))

  pub so_far : (s : Stop) (cs : List Call) → HaltsAt p u a args w s cs → AreUntilTrap cs → HaveAskedSoFar p u a args w.state cs
  so_far s cs (AtEntry h) o = StopsEntering (are_beside None cs h)
  so_far s cs (AtParams t n params v is e) o = at_params t n params s v is cs e o
  so_far s cs (AtCallee t others h e) o = at_callee t others (from_callee a others h) cs e o
  so_far s cs (AtResults t n back v is e) o = at_results t n back s v is cs e o
  so_far s cs (AtEnd t n back vs v others is h e) o = at_end t n back vs v others is h cs e o

  -- ---- with the barrier

  guarded : (b : Bool) (e : Ended (List CoreValue)) → (flag_in p a.lower.instance w.state.globals ≢ I32 0 → Stopping e (HaltsAt p u a args w)) → Stopping e Unthrown → GivesReturned e
      → ((n : ℕ) (cs : List Call) (vs : List CoreValue) (w' : World) → guarded_if b p e ≡ Gave n cs vs w' → IsParted p u a args w n cs vs w')
      → AreUntilTrap (calls_in (guarded_if b p e)) → AsksForValues p u a args w.state (guarded_if b p e)
  guarded true (Gave n cs vs v) halts thrown returned gives o = finished n cs vs v (gives n cs vs v refl) (all_honest (AreHonestSync p a args) cs returned o)
  guarded false (Gave n cs vs v) halts thrown returned gives o = finished n cs vs v (gives n cs vs v refl) (all_honest (AreHonestSync p a args) cs returned o)
  guarded true (Strayed n cs v) halts thrown returned gives o = tt
  guarded false (Strayed n cs v) halts thrown returned gives o = tt
  guarded true (Halted n cs Lack v) halts thrown returned gives o = λ may. so_far Lack cs (halts may) o
  guarded true (Halted n cs Trap v) halts thrown returned gives o = λ may. so_far Trap cs (halts may) o
  guarded false (Halted n cs s v) halts thrown returned gives o = λ may. so_far s cs (halts may) o
  guarded true (Halted n cs Throw v) halts thrown returned gives o =
      let e = run p (trap {A = List CoreValue} UncaughtException) v in
      absurd (thrown (none_before cs (calls_in e) (none_threw (AreHonestSync p a args) (λ ds h. honest_returned p a (sync_moved_on a args) (landed (params_landing a)) ds h) (cs ++ calls_in e) (subst AreUntilTrap (calls_behind n cs e) o))) tt)

pub requests_are_called_for : RequestsAreCalledFor
requests_are_called_for p u a args w x honest =
    guarded p u a x args w honest.state_typed u.exceptions (run p (sync u a args) w) (λ may. (halts_sync p u a args w may).so) (never_thrown p (sync u a args) w) (gives_returned p (sync u a args) w) (λ n cs vs w' e. parted p u a args w w' n cs vs e) honest.honest
