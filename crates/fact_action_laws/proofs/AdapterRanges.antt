-- The transcoder calls of whole adapters stay in their ranges.
use Rattle.std.proofs.Common.{◌≡◌, ℕ, Bool, true, false, List, [], ◌∷◌, Option, Some, None, refl, sym, ap, ◌∙◌, subst}
use Rattle.std.specs.Prelude.{◌&&◌, is_some, not, nat_eq, if◌then◌else◌}
use Rattle.fact_wasm.specs.declared.types.ValType.{ValType}
use Rattle.fact_types.specs.Adapters.{LinkedAdapter, is_wide}
use Rattle.fact_types.specs.Shapes.{Shape}
use Rattle.fact_types.specs.Signatures.{flat_values, lower_limit, lift_results_limit}
use Rattle.fact_types.specs.Tuples.{tuple_members}
use Rattle.fact_types.specs.declared.import.Import.{Import}
use Rattle.fact_types.specs.declared.import.Import.TheVariants as import
use Rattle.fact_types.specs.declared.outside.CoreDef.{CoreDef}
use Rattle.fact_types.specs.declared.outside.Trap.TheVariants.{CannotLeaveComponent, MemoryOutOfBounds, UncaughtException}
use Rattle.fact_machine.specs.declared.types.CoreValue.{CoreValue}
use Rattle.fact_machine.specs.declared.types.MachineState.{MachineState}
use Rattle.fact_machine.specs.World.{World, Trap, Throw, Lack}
use Rattle.fact_actions.specs.Actions.{Action, Give, Ask, ◌>>=◌, ◌>>◌, trap, unless}
use Rattle.fact_actions.specs.Adapters.{AdapterTunables, Slotted, none, when_due, cleared, make_call, enters, enter_call, exit_call, read_slots, finish_call, last_bits, params_transfer, results_transfer, check_tuple, from_values, into_params, flat_results, move_params, move_results, sync, async_start, async_return}
use Rattle.fact_actions.specs.Calls.{HasOwnCallee, is_import_of, is_call_of}
use Rattle.fact_actions.specs.Confined.{HaveHonestTranscoders}
use Rattle.fact_actions.specs.Honest.{IsStraight}
use Rattle.fact_actions.specs.Moves.{entry_extent, move_fields}
use Rattle.fact_actions.specs.Plain.{guarded_if, ended_sync}
use Rattle.fact_actions.specs.Regions.{Region, Position, landed, params_landing, results_landing, return_area, moved_on, sync_moved_on}
use Rattle.fact_actions.specs.Running.{ImportPlaces, Call, Ended, Gave, Halted, Strayed, calls_in, is_state, run}
use Rattle.fact_actions.specs.Sides.{LiftLowerOptions, Source, Values, AtAddress, Target, Slots, Into, options_of, first_bits, address_value, reallocate}
use Rattle.fact_actions.proofs.OwnParts.{same_self}
use Rattle.fact_action_laws.specs.Regions.{TransferSetting}
use Rattle.fact_action_laws.specs.AdapterValueLaws.{TranscodersAreRanged, StartTranscodersAreRanged, ReturnTranscodersAreRanged, TranscodersCanBeAnswered, StartTranscodersCanBeAnswered, ReturnTranscodersCanBeAnswered}
use Rattle.fact_action_laws.specs.Premises.{KnowsMemories}
use Rattle.fact_action_laws.proofs.AllRanged.{fields_fine}
use Rattle.fact_action_laws.proofs.Answerable.{answered_calls}
use Rattle.fact_action_laws.proofs.Answered.{position, MovesAlong}
use Rattle.fact_action_laws.proofs.Fine.{BothAreThere, typed_is_there, HasKnownSides, Arrived, Fine, answered_there, fine_give, fine_unless, fine_ask, fine_get_flags, fine_set_flags, fine_check, fine_get, fine_reallocate, fine_bind}
use Rattle.fact_action_laws.proofs.Ranging.{IsRangedEnd, StaysRanged, ranged_heavier, ranged_later, ranged_give, ranged_get_flags, ranged_ask, ranged_trap, ranged_bind}
use Rattle.fact_action_laws.proofs.Served.{IsServedBy, AreServedCalls, ranged_calls}

-- ---- parts of adapters

module _ (c : TransferSetting) (next : Call → Position → Position) (steps : MovesAlong c next) (known : HasKnownSides c) where
  abbrev F : {A : Type 0} → Action A → Type 0
  F q = Fine c next steps known q

  cleared_fine : (i saved : ℕ) (q : Action (List CoreValue)) → F q → F (cleared i saved q)
  cleared_fine i saved q h = fine_set_flags c next steps known i 0 _ (fine_bind c next steps known q _ h (λ vs. fine_set_flags c next steps known i saved _ (fine_give c next steps known vs)))

  when_fine : (b : Bool) (i : Import) (args : List CoreValue) → ((x : Position) (a : Call) → IsServedBy i c.places x a) → ((d : CoreDef) → is_import_of d i ≡ false) → F (when_due b (make_call i args []))
  when_fine true i args other apart = fine_ask c next steps known i args [] _ other apart (λ rs. fine_give c next steps known rs)
  when_fine false i args other apart = fine_give c next steps known []

  slots_fine : (b : Bool) → F (read_slots b)
  slots_fine b = fine_get c next steps known b _ (λ x y. fine_give c next steps known (record { first = x; second = y }))

  tuple_fine : {A : Type 0} (o : LiftLowerOptions) (ts : List Shape) (pointer : ℕ) (q : Action A) → F q → F (check_tuple o ts pointer q)
  tuple_fine o ts pointer q h = fine_check c next steps known o MemoryOutOfBounds pointer _ _ q (λ m is. h)

  from_fine : (limit : ℕ) (ts : List Shape) (vs : List CoreValue) (k : Source → Action (List CoreValue)) → ((s : Source) → F (k s)) → F (from_values c.transfer.from limit ts vs k)
  from_fine limit ts vs k h = by_flats (flat_values (is_wide c.transfer.from.memory) limit ts)
    where
      by_flats : (x : Option (List ValType)) → F (elim x [ Some flats ↦ k (Values vs) | None ↦ check_tuple c.transfer.from ts (first_bits vs) (k (AtAddress (first_bits vs))) ])
      by_flats (Some flats) = h (Values vs)
      by_flats None = tuple_fine c.transfer.from ts (first_bits vs) _ (h (AtAddress (first_bits vs)))

  into_fine : (ts : List Shape) (k : Target → Action (List CoreValue)) → ((d : Target) → F (k d)) → F (into_params c.transfer ts k)
  into_fine ts k h = by_flats (flat_values (is_wide c.transfer.to.memory) 16 ts)
    where
      by_flats : (x : Option (List ValType)) → F (elim x [
        | Some flats ↦ k (Slots flats)
        | None ↦
            let e = entry_extent c.transfer.to (tuple_members ts) in
            reallocate c.transfer.concurrency c.transfer.to MemoryOutOfBounds 0 0 e.align e.size (λ q. k (Into q) >> Give (address_value c.transfer.to q ∷ []))
      ])
      by_flats (Some flats) = h (Slots flats)
      by_flats None =
          let e = entry_extent c.transfer.to (tuple_members ts) in
          fine_reallocate c next steps known MemoryOutOfBounds 0 0 e.align e.size (λ q. k (Into q) >> Give (address_value c.transfer.to q ∷ []))
          (λ f is_f m is_m q. fine_bind c next steps known (k (Into q)) _ (h (Into q)) (λ vs. fine_give c next steps known _))

module _ (p : ImportPlaces) (u : AdapterTunables) (a : LinkedAdapter) (known : KnowsMemories p a) (own : HasOwnCallee a) (next : Call → Position → Position)
    (plain_next : (c : Call) (x : Position) → is_call_of a.callee c ≡ false → next c x ≡ moved_on c x) where
  abbrev setting_of_params : TransferSetting
  setting_of_params = record { places = p; transfer = params_transfer u a; area = []; source = [] }

  abbrev setting_of_results : List CoreValue → TransferSetting
  setting_of_results args = record { places = p; transfer = results_transfer u a; area = return_area a args; source = [] }

  params_sides : HasKnownSides setting_of_params
  params_sides = record { from = known.lower; to = known.lift; two = known.two }

  results_sides : (args : List CoreValue) → HasKnownSides (setting_of_results args)
  results_sides args = record { from = known.lift; to = known.lower; two = λ m n e f same. known.two n m f e (sym same) }

  params_steps : MovesAlong setting_of_params next
  params_steps = record {
    by_other = λ k x apart. plain_next k x (apart a.callee);
    by_realloc = λ k x f is e. plain_next k x (ap (λ i. is_import_of a.callee i) e ∙ own.lift_realloc f is);
  }

  results_steps : (args : List CoreValue) → MovesAlong (setting_of_results args) next
  results_steps args = record {
    by_other = λ k x apart. plain_next k x (apart a.callee);
    by_realloc = λ k x f is e. plain_next k x (ap (λ i. is_import_of a.callee i) e ∙ own.lower_realloc f is);
  }

  params_fine : (args : List CoreValue) → Fine setting_of_params next params_steps params_sides (move_params u a args)
  params_fine args =
      from_fine setting_of_params next params_steps params_sides (lower_limit a.lower.async_side) a.lower.params args _ (λ s.
      into_fine setting_of_params next params_steps params_sides a.lift.params _ (λ d. fields_fine setting_of_params next params_steps params_sides (tuple_members a.lift.params) (tuple_members a.lower.params) 0 s d))

  results_fine : (args given : List CoreValue) (pointer : ℕ) → Fine (setting_of_results args) next (results_steps args) (results_sides args) (move_results u a given pointer)
  results_fine args given pointer =
      from_fine (setting_of_results args) next (results_steps args) (results_sides args) (lift_results_limit a.lift.async_side) a.lift.results given _ (λ s. by_flats s (flat_results a.lower))
    where
      by_flats : (s : Source) (x : Option (List ValType)) → Fine (setting_of_results args) next (results_steps args) (results_sides args) (elim x [
        | Some flats ↦ move_fields (results_transfer u a) (tuple_members a.lift.results) (tuple_members a.lower.results) 0 s (Slots flats)
        | None ↦ check_tuple (options_of a.lower) a.lower.results pointer (move_fields (results_transfer u a) (tuple_members a.lift.results) (tuple_members a.lower.results) 0 s (Into pointer))
      ])
      by_flats s (Some flats) = fields_fine (setting_of_results args) next (results_steps args) (results_sides args) (tuple_members a.lower.results) (tuple_members a.lift.results) 0 s (Slots flats)
      by_flats s None =
          tuple_fine (setting_of_results args) next (results_steps args) (results_sides args) (options_of a.lower) a.lower.results pointer _
          (fields_fine (setting_of_results args) next (results_steps args) (results_sides args) (tuple_members a.lower.results) (tuple_members a.lift.results) 0 s (Into pointer))

  -- ---- the functions of an async adapter

  start_fine : (args : List CoreValue) → Fine setting_of_params next params_steps params_sides (async_start u a args)
  start_fine args = fine_get_flags setting_of_params next params_steps params_sides a.lift.instance _ (λ saved. cleared_fine setting_of_params next params_steps params_sides a.lift.instance saved _ (params_fine args))

  return_fine : (args : List CoreValue) → Fine (setting_of_results args) next (results_steps args) (results_sides args) (async_return u a args)
  return_fine args = fine_get_flags (setting_of_results args) next (results_steps args) (results_sides args) a.lower.instance _ (λ saved.
      cleared_fine (setting_of_results args) next (results_steps args) (results_sides args) a.lower.instance saved _ (results_fine args args (last_bits args)))

  -- ---- a sync adapter

  -- calls of no transcoders, wherever they begin
  abbrev Ends : {A : Type 0} → Position → Action A → World → Type 0
  Ends x q w = StaysRanged p next x (λ y r w'. Unit {0}) q w

  record IsSilent {A : Type 0} (q : Action A) : Type 0 where
    at : (x : Position) (w : World) → Ends x q w

  silent_give : {A : Type 0} (r : A) → IsSilent (Give r)
  silent_give r = record { at = λ x w. ranged_give p next tt }

  silent_ask : {A : Type 0} (i : Import) (args : List CoreValue) (ts : List ValType) (k : List CoreValue → Action A) → ((x : Position) (c : Call) → IsServedBy i p x c) → ((rs : List CoreValue) → IsSilent (k rs)) → IsSilent (Ask i args ts k)
  silent_ask i args ts k other h = record { at = λ x w. ranged_ask p next (λ r. other x _) (λ rs w' typed. (h rs).at _ w') }

  silent_finish : (b : Bool) (f : Option CoreDef) (given : List CoreValue) (s : Slotted) (results : List CoreValue) → IsSilent (finish_call b f given s >> Give results)
  silent_finish b None given s results = silent_give results
  silent_finish false (Some f) given s results = silent_ask (import.CoreDef f) given [] _ (λ x c. tt) (λ rs. silent_give results)
  silent_finish true (Some f) given s results =
      silent_ask _ [] _ _ (λ x c. tt) (λ x. silent_ask _ [] _ _ (λ x c. tt) (λ y. silent_ask _ s.first [] _ (λ x c. tt) (λ r0. silent_ask _ s.second [] _ (λ x c. tt) (λ r1. silent_ask (import.CoreDef f) given [] _ (λ x c. tt) (λ r2.
      silent_ask _ x [] _ (λ x c. tt) (λ r3. silent_ask _ y [] _ (λ x c. tt) (λ r4. silent_give results)))))))

  -- both memories are there
  abbrev There : MachineState → Type 0
  There s = BothAreThere p (options_of a.lower) (options_of a.lift) s

  -- one action of a transfer, and then another
  params_then : {A B : Type 0} (q : Action A) (f : A → Action B) (gs : List Region) (w : World) → There w.state → Fine setting_of_params next params_steps params_sides q
      → ((r : A) (live : List Region) (w' : World) → There w'.state → Ends (position setting_of_params live) (f r) w') → Ends (position setting_of_params gs) (q >>= f) w
  params_then q f gs w there h g = ranged_bind p next q f w (h.by gs w there) (λ y r w' arrived. subst (λ y. Ends y (f r) w') (sym arrived.is) (g r arrived.live w' arrived.there))

  module _ (args : List CoreValue) where
    results_then : {A B : Type 0} (q : Action A) (f : A → Action B) (gs : List Region) (w : World) → BothAreThere p (options_of a.lift) (options_of a.lower) w.state → Fine (setting_of_results args) next (results_steps args) (results_sides args) q
        → ((r : A) (live : List Region) (w' : World) → BothAreThere p (options_of a.lift) (options_of a.lower) w'.state → Ends (position (setting_of_results args) live) (f r) w') → Ends (position (setting_of_results args) gs) (q >>= f) w
    results_then q f gs w there h g = ranged_bind p next q f w (h.by gs w there) (λ y r w' arrived. subst (λ y. Ends y (f r) w') (sym arrived.is) (g r arrived.live w' arrived.there))

    -- behind the callee's call
    behind_ranged : (given : List CoreValue) (saved : ℕ) (w : World) → BothAreThere p (options_of a.lift) (options_of a.lower) w.state → Ends (position (setting_of_results args) [])
        (read_slots (u.concurrency && is_some a.lift.post_return) >>= (λ context. exit_call u a >> (cleared a.lower.instance saved (move_results u a given (last_bits args)) >>= (λ results. finish_call u.concurrency a.lift.post_return given context >> Give results)))) w
    behind_ranged given saved w there =
        results_then (read_slots (u.concurrency && is_some a.lift.post_return)) _ [] w there (slots_fine (setting_of_results args) next (results_steps args) (results_sides args) (u.concurrency && is_some a.lift.post_return)) (λ context live1 w1 there1.
        results_then (exit_call u a) _ live1 w1 there1 (when_fine (setting_of_results args) next (results_steps args) (results_sides args) (enters u a) import.ExitSyncCall [] (λ x c. tt) (λ d. refl)) (λ r live2 w2 there2.
        results_then (cleared a.lower.instance saved (move_results u a given (last_bits args))) _ live2 w2 there2
        (cleared_fine (setting_of_results args) next (results_steps args) (results_sides args) a.lower.instance saved _ (results_fine args given (last_bits args))) (λ results live3 w3 there3.
        (silent_finish u.concurrency a.lift.post_return given context results).at _ w3)))

    -- with the callee's call the other transfer begins
    module _ (turns : (c : Call) (x : Position) → c.what ≡ import.CoreDef a.callee → next c x ≡ landed (results_landing a args)) where
      turned : (k : Call) (x : Position) (v : World) → k.what ≡ import.CoreDef a.callee → (q : Action (List CoreValue)) → Ends (landed (results_landing a args)) q v → Ends (next k x) q v
      turned k x v e q h = subst (λ y. Ends y q v) (sym (turns k x e)) h

      sync_ranged : (w : World) → There w.state → Ends (landed (params_landing a)) (sync u a args) w
      sync_ranged w there =
          ranged_get_flags p next (λ saved.
          params_then (unless CannotLeaveComponent (not (nat_eq saved 0)) none) _ [] w there (fine_unless setting_of_params next params_steps params_sides CannotLeaveComponent (not (nat_eq saved 0)) none (λ yes. fine_give setting_of_params next params_steps params_sides [])) (λ r0 live0 w0 there0.
          params_then (enter_call u a) _ live0 w0 there0 (when_fine setting_of_params next params_steps params_sides (enters u a) import.EnterSyncCall _ (λ x c. tt) (λ d. refl)) (λ r1 live1 w1 there1.
          ranged_get_flags p next (λ lift_saved.
          params_then (cleared a.lift.instance lift_saved (move_params u a args)) _ live1 w1 there1 (cleared_fine setting_of_params next params_steps params_sides a.lift.instance lift_saved _ (params_fine args)) (λ core live2 w2 there2.
          ranged_ask p next (λ r. tt) (λ given w3 typed.
          turned _ _ w3 refl _ (behind_ranged given saved w3 (answered_there (setting_of_results args) next (results_steps args) (results_sides args) _ given w2.state w3.state typed))))))))

-- ---- the barrier

guarded_ranged : (p : ImportPlaces) (next : Call → Position → Position) (x : Position) (b : Bool) (e : Ended (List CoreValue)) → IsRangedEnd p next x (λ y r w. Unit {0}) e → IsRangedEnd p next x (λ y r w. Unit {0}) (guarded_if b p e)
guarded_ranged p next x false e h = h
guarded_ranged p next x true (Gave n cs r w) h = h
guarded_ranged p next x true (Halted n cs Trap w) h = h
guarded_ranged p next x true (Halted n cs Lack w) h = h
guarded_ranged p next x true (Halted n cs Throw w) h =
    ranged_heavier p next x (λ y r w. Unit {0}) n _ (ranged_later p next x (λ y r w. Unit {0}) cs (run p (trap UncaughtException) w) (λ o. (h o, (ranged_trap p next {P = λ y r w. Unit {0}} {t = UncaughtException}).by)))
guarded_ranged p next x true (Strayed n cs w) h = tt

-- ---- whole adapters

-- what is said of the calls of an end
calls_served : {A : Type 0} (p : ImportPlaces) (next : Call → Position → Position) (x : Position) (P : Position → A → World → Type 0) (e : Ended A) → IsRangedEnd p next x P e → IsStraight e → HaveHonestTranscoders p (calls_in e) → AreServedCalls p next x (calls_in e)
calls_served p next x P (Gave n cs r w) h straight o = (h o).0
calls_served p next x P (Halted n cs s w) h straight o = h o
calls_served p next x P (Strayed n cs w) h straight o = absurd straight

-- the calls of an action from live regions on
fine_calls : {c : TransferSetting} {next : Call → Position → Position} {steps : MovesAlong c next} {known : HasKnownSides c} {A : Type 0} {q : Action A} (gs : List Region) (w : World) → Fine c next steps known q
    → BothAreThere c.places c.transfer.from c.transfer.to w.state → IsStraight (run c.places q w) → HaveHonestTranscoders c.places (calls_in (run c.places q w)) → AreServedCalls c.places next (position c gs) (calls_in (run c.places q w))
fine_calls {c} {next} {steps} {known} {q = q} gs w h there straight o = calls_served c.places next (position c gs) (λ y r w'. Arrived c next steps known y w'.state) (run c.places q w) (h.by gs w there).by straight o

first_there : (p : ImportPlaces) (a : LinkedAdapter) (s : MachineState) → KnowsMemories p a → is_state p s ≡ true → BothAreThere p (options_of a.lower) (options_of a.lift) s
first_there p a s known typed = record { from = typed_is_there p (options_of a.lower) s known.lower typed; to = typed_is_there p (options_of a.lift) s known.lift typed }

module _ (p : ImportPlaces) (u : AdapterTunables) (a : LinkedAdapter) (args : List CoreValue) (w : World) (own : HasOwnCallee a) (known : KnowsMemories p a) (typed : is_state p w.state ≡ true) where
  sync_served : IsStraight (ended_sync p u a args w) → HaveHonestTranscoders p (calls_in (ended_sync p u a args w)) → AreServedCalls p (sync_moved_on a args) (landed (params_landing a)) (calls_in (ended_sync p u a args w))
  sync_served straight honest =
      calls_served p next (landed (params_landing a)) (λ y r w. Unit {0}) (ended_sync p u a args w)
      (guarded_ranged p next (landed (params_landing a)) u.exceptions (run p (sync u a args) w) (sync_ranged p u a known own next plain_next args turns w (first_there p a w.state known typed)).by) straight honest
    where
      next : Call → Position → Position
      next = sync_moved_on a args

      plain_next : (c : Call) (x : Position) → is_call_of a.callee c ≡ false → next c x ≡ moved_on c x
      plain_next c x e = ap (λ b. if b then landed (results_landing a args) else moved_on c x) e

      turns : (c : Call) (x : Position) → c.what ≡ import.CoreDef a.callee → next c x ≡ landed (results_landing a args)
      turns c x e = ap (λ b. if b then landed (results_landing a args) else moved_on c x) (ap (λ i. is_import_of a.callee i) e ∙ same_self a.callee)

  start_served : IsStraight (run p (async_start u a args) w) → HaveHonestTranscoders p (calls_in (run p (async_start u a args) w)) → AreServedCalls p moved_on (landed (params_landing a)) (calls_in (run p (async_start u a args) w))
  start_served straight honest = fine_calls [] w (start_fine p u a known own moved_on (λ c x e. refl) args) (first_there p a w.state known typed) straight honest

  return_served : IsStraight (run p (async_return u a args) w) → HaveHonestTranscoders p (calls_in (run p (async_return u a args) w)) → AreServedCalls p moved_on (landed (results_landing a args)) (calls_in (run p (async_return u a args) w))
  return_served straight honest =
      let t = first_there p a w.state known typed in
      fine_calls [] w (return_fine p u a known own moved_on (λ c x e. refl) args) (record { from = t.to; to = t.from }) straight honest

pub transcoders_are_ranged : TranscodersAreRanged
transcoders_are_ranged p u a args w own known typed straight honest = ranged_calls p (sync_moved_on a args) (landed (params_landing a)) _ (sync_served p u a args w own known typed straight honest)

pub start_transcoders_are_ranged : StartTranscodersAreRanged
start_transcoders_are_ranged p u a args w own known typed straight honest = ranged_calls p moved_on (landed (params_landing a)) _ (start_served p u a args w own known typed straight honest)

pub return_transcoders_are_ranged : ReturnTranscodersAreRanged
return_transcoders_are_ranged p u a args w own known typed straight honest = ranged_calls p moved_on (landed (results_landing a args)) _ (return_served p u a args w own known typed straight honest)

pub transcoders_can_be_answered : TranscodersCanBeAnswered
transcoders_can_be_answered p u a args w own known typed straight honest = answered_calls p (sync_moved_on a args) (landed (params_landing a)) _ (sync_served p u a args w own known typed straight honest)

pub start_transcoders_can_be_answered : StartTranscodersCanBeAnswered
start_transcoders_can_be_answered p u a args w own known typed straight honest = answered_calls p moved_on (landed (params_landing a)) _ (start_served p u a args w own known typed straight honest)

pub return_transcoders_can_be_answered : ReturnTranscodersCanBeAnswered
return_transcoders_can_be_answered p u a args w own known typed straight honest = answered_calls p moved_on (landed (results_landing a args)) _ (return_served p u a args w own known typed straight honest)
