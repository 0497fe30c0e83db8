-- A sync adapter writes into regions of its own (`WritesAreConfined`), and so do the functions of an async one; they give up live regions alone.
use Rattle.std.proofs.Common.{◌≡◌, ℕ, suc, ◌≤◌, Bool, true, false, List, [], ◌∷◌, ◌++◌, Option, Some, None, refl, sym, ap, ◌∙◌, subst, inl, arith, append_assoc, append-nil, length}
use Rattle.std.specs.Prelude.{if◌then◌else◌, slice_get, not, nat_eq, ◌&&◌, ◌||◌, is_some}
use Rattle.fact_wasm.specs.declared.types.ValType.{ValType}
use Rattle.fact_types.specs.declared.outside.CoreDef.{CoreDef}
use Rattle.fact_types.specs.declared.outside.Trap.{Trap as Reason}
use Rattle.fact_types.specs.declared.outside.Trap.TheVariants.{CannotLeaveComponent, MemoryOutOfBounds, UncaughtException}
use Rattle.fact_types.specs.Signatures.{flat_values, lower_limit, lift_results_limit}
use Rattle.fact_machine.specs.declared.types.CoreValue.{CoreValue}
use Rattle.fact_machine.specs.declared.types.Answer.{Answer}
use Rattle.fact_machine.specs.declared.types.Answer.TheVariants.{Returns, Traps, Throws}
use Rattle.fact_machine.specs.declared.types.MachineState.{MachineState}
use Rattle.fact_machine.specs.declared.types.TraceEntry.{TraceEntry}
use Rattle.fact_machine.specs.declared.types.TraceEntry.TheVariants.{Called, Stored, GlobalSet}
use Rattle.fact_machine.specs.World.{World, Trap, Throw, Lack, asked}
use Rattle.fact_types.specs.declared.import.Import.{Import}
use Rattle.fact_types.specs.declared.import.Import.TheVariants as import
use Rattle.fact_types.specs.Adapters.{LinkedAdapter, is_wide}
use Rattle.fact_actions.specs.Actions.{Action, Give, Ask, Unreachable, SetFlags, ◌>>=◌, ◌>>◌, trap, unless}
use Rattle.fact_actions.specs.Running.{ImportPlaces, Call, Ended, Gave, Halted, Strayed, calls_in, world_in, heavier, later, then_ended, or_strayed, if_typed, is_answer, with_answer, call_of, run}
use Rattle.fact_actions.specs.Sides.{Source, Values, AtAddress, Slots, Into, address_value, first_bits, reallocate, options_of}
use Rattle.fact_actions.specs.Adapters.{async_start, async_return, AdapterTunables, Slotted, none, when_due, get_flags, cleared, make_call, enters, enter_call, exit_call, read_slots, finish_call, last_bits, params_transfer, results_transfer, check_tuple, into_params, flat_results, into_results, move_params, move_results, sync}
use Rattle.fact_types.specs.Tuples.{tuple_members}
use Rattle.fact_actions.specs.Moves.{entry_extent, move_fields}
use Rattle.fact_machine.specs.Exits.{first_world}
use Rattle.fact_machine.specs.Machine.{i32_of}
use Rattle.fact_actions.specs.Plain.{guarded_if, ended_sync}
use Rattle.fact_actions.specs.Calls.{HasOwnCallee, is_import_of, is_call_of, is_call_of_any, state_after, side_memory}
use Rattle.fact_actions.specs.Regions.{Region, Landing, Position, landed, params_landing, results_landing, return_area, moved_on, sync_moved_on}
use Rattle.fact_actions.specs.AdapterLaws.{RequestsGiveUpLive, StartRequestsGiveUpLive, ReturnRequestsGiveUpLive}
use Rattle.fact_actions.specs.Confined.{IsConfinedFrom, LiesInSound, room_in, AreOwnWrites, IsConfined, HasRoomForValues, GivesUpLive, is_beside, GiveUpLive}
use Rattle.fact_actions.proofs.Binds.{binds_run}
use Rattle.fact_actions.proofs.Owned as owned
use Rattle.fact_actions.proofs.Owned.{own_right, Led, Leads, Writes, writes_so, writes_bind, writes_give, writes_set}
use Rattle.fact_actions.proofs.OwnParts as parts
use Rattle.fact_actions.proofs.OwnParts.{same_self}
use Rattle.fact_actions.specs.Sides.{width_of_side, options_of}
use Rattle.fact_types.specs.Shapes.{ends_of}
use Rattle.fact_actions.proofs.OwnValues.{fields_w}
use Rattle.fact_actions.proofs.Rooms.{entry_aligned, record_room}
use Rattle.fact_actions.proofs.States.{false_true}

module _ (p : ImportPlaces) (a : LinkedAdapter) (next : Call → Position → Position) where
  -- What an end added to the trace are own writes, from a position on, and its requests give up what is live.
  pub record Ok {A : Type 0} (x : Position) (r : ℕ) (w : World) (e : Ended A) : Type 0 where
    pub entries : List TraceEntry
    pub trace : (world_in e).trace ≡ w.trace ++ entries
    pub own : AreOwnWrites p next x r entries (calls_in e)
    pub frees : GiveUpLive a next x (calls_in e)

  -- ---- traces

  led_own : (l : Landing) (r : ℕ) (live : List Region) (es : List TraceEntry) (cs : List Call) (r' : ℕ) (live' : List Region) (fs : List TraceEntry) (ds : List Call)
      → Leads p next l r live es cs r' live' → AreOwnWrites p next (record { landing = l; live = live' }) r' fs ds → AreOwnWrites p next (record { landing = l; live = live }) r (es ++ fs) (cs ++ ds)
  led_own l r live [] [] r' live' fs ds h g = subst (λ x. AreOwnWrites p next (record { landing = l; live = live }) x fs ds) h.0 (subst (λ x. AreOwnWrites p next (record { landing = l; live = x }) r' fs ds) h.1 g)
  led_own l r live [] (c ∷ cs) r' live' fs ds h g = absurd h
  led_own l r live (Stored m b n v ∷ es) cs r' live' fs ds h g = (h.0, led_own l r live es cs r' live' fs ds h.1 g)
  led_own l r live (GlobalSet i v ∷ es) cs r' live' fs ds h g = led_own l r live es cs r' live' fs ds h g
  led_own l r live (Called e ∷ es) [] r' live' fs ds h g = absurd h
  led_own l r live (Called e ∷ es) (c ∷ cs) r' live' fs ds h g =
      subst (λ x. AreOwnWrites p next x (room_in p x (state_after c)) (es ++ fs) (cs ++ ds)) (sym h.0)
      (led_own l (length (side_memory p l.to (state_after c))) (moved_on c (record { landing = l; live = live })).live es cs r' live' fs ds h.2 g)

  led_frees : (l : Landing) (r : ℕ) (live : List Region) (es : List TraceEntry) (cs : List Call) (r' : ℕ) (live' : List Region) (ds : List Call)
      → Leads p next l r live es cs r' live' → GiveUpLive a next (record { landing = l; live = live' }) ds → GiveUpLive a next (record { landing = l; live = live }) (cs ++ ds)
  led_frees l r live [] [] r' live' ds h g = subst (λ x. GiveUpLive a next (record { landing = l; live = x }) ds) h.1 g
  led_frees l r live [] (c ∷ cs) r' live' ds h g = absurd h
  led_frees l r live (Stored m b n v ∷ es) cs r' live' ds h g = led_frees l r live es cs r' live' ds h.1 g
  led_frees l r live (GlobalSet i v ∷ es) cs r' live' ds h g = led_frees l r live es cs r' live' ds h g
  led_frees l r live (Called e ∷ es) [] r' live' ds h g = absurd h
  led_frees l r live (Called e ∷ es) (c ∷ cs) r' live' ds h g = (
    λ other. h.1,
    subst (λ x. GiveUpLive a next x (cs ++ ds)) (sym h.0) (led_frees l (length (side_memory p l.to (state_after c))) (moved_on c (record { landing = l; live = live })).live es cs r' live' ds h.2 g),
  )

  -- entries without writes, behind which any others may come
  abbrev Quiet : List TraceEntry → List Call → Type 0
  Quiet [] [] = Unit {0}
  Quiet [] (c ∷ cs) = ⊥
  Quiet (Stored m b n v ∷ es) cs = ⊥
  Quiet (GlobalSet i v ∷ es) cs = Quiet es cs
  Quiet (Called e ∷ es) [] = ⊥
  Quiet (Called e ∷ es) (c ∷ cs) = Quiet es cs

  own_on : (x : Position) (r : ℕ) (es : List TraceEntry) (cs : List Call) (fs : List TraceEntry) (ds : List Call) → AreOwnWrites p next x r es cs → Quiet fs ds → AreOwnWrites p next x r (es ++ fs) (cs ++ ds)
  own_on x r [] [] fs ds h q = quiet x r fs ds q
    where
      quiet : (x : Position) (r : ℕ) (fs : List TraceEntry) (ds : List Call) → Quiet fs ds → AreOwnWrites p next x r fs ds
      quiet x r [] [] q = tt
      quiet x r [] (d ∷ ds) q = absurd q
      quiet x r (Stored m b n v ∷ fs) ds q = absurd q
      quiet x r (GlobalSet i v ∷ fs) ds q = quiet x r fs ds q
      quiet x r (Called e ∷ fs) [] q = absurd q
      quiet x r (Called e ∷ fs) (d ∷ ds) q = quiet (next d x) _ fs ds q
  own_on x r [] (c ∷ cs) fs ds h q = absurd h
  own_on x r (Stored m b n v ∷ es) cs fs ds h q = (h.0, own_on x r es cs fs ds h.1 q)
  own_on x r (GlobalSet i v ∷ es) cs fs ds h q = own_on x r es cs fs ds h q
  own_on x r (Called e ∷ es) [] fs ds h q = absurd h
  own_on x r (Called e ∷ es) (c ∷ cs) fs ds h q = own_on (next c x) _ es cs fs ds h q

  frees_on : (x : Position) (cs ds : List Call) → GiveUpLive a next x cs → ((y : Position) → GiveUpLive a next y ds) → GiveUpLive a next x (cs ++ ds)
  frees_on x [] ds h g = g x
  frees_on x (c ∷ cs) ds h g = (h.0, frees_on (next c x) cs ds h.1 g)

  -- ---- ends

  ok_none : {A : Type 0} (x : Position) (r : ℕ) (w : World) (e : Ended A) → world_in e ≡ w → calls_in e ≡ [] → Ok x r w e
  ok_none x r w e same none_made = record { entries = []; trace = ap (λ u. u.trace) same ∙ sym (append-nil w.trace); own = subst (λ cs. AreOwnWrites p next x r [] cs) (sym none_made) tt; frees = subst (λ cs. GiveUpLive a next x cs) (sym none_made) tt }

  ok_heavier : {A : Type 0} (x : Position) (r : ℕ) (w : World) (n : ℕ) (e : Ended A) → Ok x r w e → Ok x r w (heavier n e)
  ok_heavier x r w n (Gave m cs b u) h = record { entries = h.entries; trace = h.trace; own = h.own; frees = h.frees }
  ok_heavier x r w n (Halted m cs s u) h = record { entries = h.entries; trace = h.trace; own = h.own; frees = h.frees }
  ok_heavier x r w n (Strayed m cs u) h = record { entries = h.entries; trace = h.trace; own = h.own; frees = h.frees }

  -- behind what leads there
  ok_led : {A : Type 0} (l : Landing) (live : List Region) (w : World) (cs : List Call) (w' : World) (live' : List Region) (r' : ℕ) (e : Ended A)
      → Led p next l live w cs w' live' r' → Ok (record { landing = l; live = live' }) r' w' e → Ok (record { landing = l; live = live }) (length (side_memory p l.to w.state)) w (later cs e)
  ok_led l live w cs w' live' r' (Gave n ds b u) h g = record { entries = h.entries ++ g.entries; trace = g.trace ∙ ap (λ t. t ++ g.entries) h.trace ∙ append_assoc w.trace h.entries g.entries; own = led_own l _ live h.entries cs r' live' g.entries ds h.leads g.own; frees = led_frees l _ live h.entries cs r' live' ds h.leads g.frees }
  ok_led l live w cs w' live' r' (Halted n ds s u) h g = record { entries = h.entries ++ g.entries; trace = g.trace ∙ ap (λ t. t ++ g.entries) h.trace ∙ append_assoc w.trace h.entries g.entries; own = led_own l _ live h.entries cs r' live' g.entries ds h.leads g.own; frees = led_frees l _ live h.entries cs r' live' ds h.leads g.frees }
  ok_led l live w cs w' live' r' (Strayed n ds u) h g = record { entries = h.entries ++ g.entries; trace = g.trace ∙ ap (λ t. t ++ g.entries) h.trace ∙ append_assoc w.trace h.entries g.entries; own = led_own l _ live h.entries cs r' live' g.entries ds h.leads g.own; frees = led_frees l _ live h.entries cs r' live' ds h.leads g.frees }

  led_ends : (l : Landing) (live : List Region) (w : World) (cs : List Call) (w' : World) (live' : List Region) (r' : ℕ) (h : Led p next l live w cs w' live' r')
      → AreOwnWrites p next (record { landing = l; live = live }) (length (side_memory p l.to w.state)) h.entries cs
  led_ends l live w cs w' live' r' h =
      let r = length (side_memory p l.to w.state) in
      subst (λ es. AreOwnWrites p next (record { landing = l; live = live }) r es cs) (append-nil h.entries)
      (subst (λ ds. AreOwnWrites p next (record { landing = l; live = live }) r (h.entries ++ []) ds) (append-nil cs) (led_own l r live h.entries cs r' live' [] [] h.leads tt))

  led_ends_frees : (l : Landing) (live : List Region) (w : World) (cs : List Call) (w' : World) (live' : List Region) (r' : ℕ) → Led p next l live w cs w' live' r' → GiveUpLive a next (record { landing = l; live = live }) cs
  led_ends_frees l live w cs w' live' r' h = subst (λ ds. GiveUpLive a next (record { landing = l; live = live }) ds) (append-nil cs) (led_frees l (length (side_memory p l.to w.state)) live h.entries cs r' live' [] h.leads tt)

  -- an action alone
  pub ok_holds : {A : Type 0} (l : Landing) (live : List Region) (w : World) (e : Ended A) (R : A → List Region → World → Type 0)
      → owned.Holds p next l live w e R → Ok (record { landing = l; live = live }) (length (side_memory p l.to w.state)) w e
  ok_holds l live w (Gave n cs b w') R h = record { entries = h.1.entries; trace = h.1.trace; own = led_ends l live w cs w' h.0 _ h.1; frees = led_ends_frees l live w cs w' h.0 _ h.1 }
  ok_holds l live w (Halted n cs s w') R h = record { entries = h.2.entries; trace = h.2.trace; own = led_ends l live w cs w' h.0 h.1 h.2; frees = led_ends_frees l live w cs w' h.0 h.1 h.2 }
  ok_holds l live w (Strayed n cs w') R h = record { entries = h.2.entries; trace = h.2.trace; own = led_ends l live w cs w' h.0 h.1 h.2; frees = led_ends_frees l live w cs w' h.0 h.1 h.2 }

  -- one action and then another
  ok_then : {A B : Type 0} (l : Landing) (live : List Region) (w : World) (e : Ended A) (f : A → World → Ended B) (R : A → List Region → World → Type 0)
      → owned.Holds p next l live w e R → ((a : A) (live' : List Region) (w' : World) → R a live' w' → Ok (record { landing = l; live = live' }) (length (side_memory p l.to w'.state)) w' (f a w'))
      → Ok (record { landing = l; live = live }) (length (side_memory p l.to w.state)) w (then_ended e f)
  ok_then l live w (Gave n cs b w') f R h g = ok_heavier _ _ w n (later cs (f b w')) (ok_led l live w cs w' h.0 _ (f b w') h.1 (g b h.0 w' h.2))
  ok_then l live w (Halted n cs s w') f R h g = record { entries = h.2.entries; trace = h.2.trace; own = led_ends l live w cs w' h.0 h.1 h.2; frees = led_ends_frees l live w cs w' h.0 h.1 h.2 }
  ok_then l live w (Strayed n cs w') f R h g = record { entries = h.2.entries; trace = h.2.trace; own = led_ends l live w cs w' h.0 h.1 h.2; frees = led_ends_frees l live w cs w' h.0 h.1 h.2 }

  pub ok_bind : {A B : Type 0} (l : Landing) (live : List Region) (w : World) (q : Action A) (f : A → Action B) (R : A → List Region → World → Type 0)
      → Writes p next l live w q R → ((a : A) (live' : List Region) (w' : World) → R a live' w' → Ok (record { landing = l; live = live' }) (length (side_memory p l.to w'.state)) w' (run p (f a) w'))
      → Ok (record { landing = l; live = live }) (length (side_memory p l.to w.state)) w (run p (q >>= f) w)
  ok_bind l live w q f R h g = subst (λ e. Ok (record { landing = l; live = live }) (length (side_memory p l.to w.state)) w e) (sym (binds_run p q f w)) (ok_then l live w (run p q w) _ R h.holds g)

  -- ---- calls

  ok_typed : {A : Type 0} (b : Bool) (x : Position) (r : ℕ) (w : World) (e : Ended A) → Ok x r w e → Ok x r w (if_typed b w e)
  ok_typed true x r w e h = h
  ok_typed false x r w e h = ok_none x r w (Strayed 0 [] w) refl refl

  abbrev event_of : Call → TraceEntry
  event_of c = Called (record { func = p.function c.what; args = c.args; before = c.before; answer = c.answer })

  -- nor does a call of this import give up what is not live, where it is not beside transfers
  abbrev FreesAt : Position → Import → Type 0
  FreesAt x i = (c : Call) → c.what ≡ i → is_beside a c ≡ false → GivesUpLive x c

  called : {A : Type 0} (c : Call) (x : Position) (r : ℕ) (w u : World) (e : Ended A) → (is_beside a c ≡ false → GivesUpLive x c) → u.trace ≡ w.trace ++ event_of c ∷ []
      → Ok (next c x) (room_in p (next c x) (state_after c)) u e → Ok x r w (later (c ∷ []) e)
  called c x r w u (Gave n ds b v) g t h = record { entries = event_of c ∷ h.entries; trace = h.trace ∙ ap (λ z. z ++ h.entries) t ∙ append_assoc w.trace (event_of c ∷ []) h.entries; own = h.own; frees = (g, h.frees) }
  called c x r w u (Halted n ds s v) g t h = record { entries = event_of c ∷ h.entries; trace = h.trace ∙ ap (λ z. z ++ h.entries) t ∙ append_assoc w.trace (event_of c ∷ []) h.entries; own = h.own; frees = (g, h.frees) }
  called c x r w u (Strayed n ds v) g t h = record { entries = event_of c ∷ h.entries; trace = h.trace ∙ ap (λ z. z ++ h.entries) t ∙ append_assoc w.trace (event_of c ∷ []) h.entries; own = h.own; frees = (g, h.frees) }

  answer_ok : {A : Type 0} (x : Position) (r : ℕ) (w : World) (i : Import) (args : List CoreValue) (ts : List ValType) (k : List CoreValue → Action A) (left : List Answer) → FreesAt x i
      → ((c : Call) (rs : List CoreValue) (u : World) → c.what ≡ i → state_after c ≡ u.state → Ok (next c x) (room_in p (next c x) (state_after c)) u (run p (k rs) u))
      → Ok x r w (later (call_of i args w.state left) (with_answer p ts w (asked (p.function i) args w left) (λ rs u. run p (k rs) u)))
  answer_ok x r w i args ts k [] g h = ok_none x r w (Halted 0 [] Lack w) refl refl
  answer_ok x r w i args ts k (Traps ∷ more) g h =
      record { entries = Called (record { func = p.function i; args = args; before = w.state; answer = Traps }) ∷ []; trace = refl; own = tt; frees = (g (record { what = i; args = args; before = w.state; answer = Traps }) refl, tt) }
  answer_ok x r w i args ts k (Throws ∷ more) g h =
      record { entries = Called (record { func = p.function i; args = args; before = w.state; answer = Throws }) ∷ []; trace = refl; own = tt; frees = (g (record { what = i; args = args; before = w.state; answer = Throws }) refl, tt) }
  answer_ok x r w i args ts k (Returns rs state ∷ more) g h =
      let c : Call = record { what = i; args = args; before = w.state; answer = Returns rs state } in
      let u : World = record { state = state; answers = more; trace = w.trace ++ event_of c ∷ [] } in
      called c x r w u (if_typed (is_answer p ts w.state rs state) u (run p (k rs) u)) (g c refl) refl
      (ok_typed (is_answer p ts w.state rs state) _ _ u (run p (k rs) u) (h c rs u refl refl))

  pub ok_ask : {A : Type 0} (x : Position) (r : ℕ) (w : World) (i : Import) (args : List CoreValue) (ts : List ValType) (k : List CoreValue → Action A) → FreesAt x i
      → ((c : Call) (rs : List CoreValue) (u : World) → c.what ≡ i → state_after c ≡ u.state → Ok (next c x) (room_in p (next c x) (state_after c)) u (run p (k rs) u))
      → Ok x r w (run p (Ask i args ts k) w)
  ok_ask x r w i args ts k g h = answer_ok x r w i args ts k w.answers g h

  -- ---- actions without writes

  -- from anywhere
  record IsQuiet {A : Type 0} (q : Action A) : Type 0 where
    at : (x : Position) (r : ℕ) (w : World) → Ok x r w (run p q w)

  -- what is no core function is not realloc
  none_freed : (x : Position) (i : Import) → ((d : CoreDef) → is_import_of d i ≡ false) → FreesAt x i
  none_freed x i apart c is other hit = false_true (sym (by_realloc x.landing.to.realloc) ∙ hit)
    where
      by_realloc : (r : Option CoreDef) → is_call_of_any r c ≡ false
      by_realloc None = refl
      by_realloc (Some d) = ap (λ i. is_import_of d i) is ∙ apart d

  quiet_give : {A : Type 0} (b : A) → IsQuiet (Give b)
  quiet_give b = record { at = λ x r w. ok_none x r w (Gave 0 [] b w) refl refl }

  quiet_ask : {A : Type 0} (i : Import) (args : List CoreValue) (ts : List ValType) (k : List CoreValue → Action A) → ((x : Position) → FreesAt x i) → ((rs : List CoreValue) → IsQuiet (k rs)) → IsQuiet (Ask i args ts k)
  quiet_ask i args ts k g h = record { at = λ x r w. ok_ask x r w i args ts k (g x) (λ c rs u e f. (h rs).at _ _ u) }

  -- post-return writes nothing, and what then is given
  module _ (post : (f : CoreDef) → a.lift.post_return ≡ Some f → (x : Position) → FreesAt x (import.CoreDef f)) where
    quiet_finish : (b : Bool) (given : List CoreValue) (s : Slotted) (results : List CoreValue) → IsQuiet (finish_call b a.lift.post_return given s >> Give results)
    quiet_finish b given s results = by_function b a.lift.post_return (λ f e. post f e)
      where
        by_function : (b : Bool) (o : Option CoreDef) → ((f : CoreDef) → o ≡ Some f → (x : Position) → FreesAt x (import.CoreDef f)) → IsQuiet (finish_call b o given s >> Give results)
        by_function b None g = quiet_give results
        by_function false (Some f) g = quiet_ask (import.CoreDef f) given [] _ (g f refl) (λ rs. quiet_give results)
        by_function true (Some f) g =
            quiet_ask _ [] _ _ (λ x. none_freed x _ (λ d. refl)) (λ x. quiet_ask _ [] _ _ (λ x. none_freed x _ (λ d. refl)) (λ y.
            quiet_ask _ s.first [] _ (λ x. none_freed x _ (λ d. refl)) (λ r0. quiet_ask _ s.second [] _ (λ x. none_freed x _ (λ d. refl)) (λ r1. quiet_ask (import.CoreDef f) given [] _ (g f refl) (λ r2.
            quiet_ask _ x [] _ (λ x. none_freed x _ (λ d. refl)) (λ r3. quiet_ask _ y [] _ (λ x. none_freed x _ (λ d. refl)) (λ r4. quiet_give results)))))))

  -- ---- the barrier

  record QuietEnd {A : Type 0} (w : World) (e : Ended A) : Type 0 where
    pub entries : List TraceEntry
    pub trace : (world_in e).trace ≡ w.trace ++ entries
    pub quiet : Quiet entries (calls_in e)
    pub frees : (x : Position) → GiveUpLive a next x (calls_in e)

  trap_quiet : {A : Type 0} (t : Reason) (w : World) (left : List Answer) → QuietEnd {A = A} w (later (call_of (import.Trap t) [] w.state left) (with_answer p [] w (asked (p.function (import.Trap t)) [] w left) (λ rs u. Halted 0 [] Trap u)))
  trap_quiet t w [] = record { entries = []; trace = sym (append-nil w.trace); quiet = tt; frees = λ x. tt }
  trap_quiet t w (Traps ∷ more) = record { entries = Called (record { func = p.function (import.Trap t); args = []; before = w.state; answer = Traps }) ∷ []; trace = refl; quiet = tt; frees = λ x. (none_freed x (import.Trap t) (λ d. refl) (record { what = import.Trap t; args = []; before = w.state; answer = Traps }) refl, tt) }
  trap_quiet t w (Throws ∷ more) = record { entries = Called (record { func = p.function (import.Trap t); args = []; before = w.state; answer = Throws }) ∷ []; trace = refl; quiet = tt; frees = λ x. (none_freed x (import.Trap t) (λ d. refl) (record { what = import.Trap t; args = []; before = w.state; answer = Throws }) refl, tt) }
  trap_quiet {A = A} t w (Returns rs state ∷ more) = by_type (is_answer p [] w.state rs state)
    where
      c : Call
      c = record { what = import.Trap t; args = []; before = w.state; answer = Returns rs state }

      u : World
      u = record { state = state; answers = more; trace = w.trace ++ Called (record { func = p.function (import.Trap t); args = []; before = w.state; answer = Returns rs state }) ∷ [] }

      by_type : (b : Bool) → QuietEnd {A = A} w (later (c ∷ []) (if_typed b u (Halted 0 [] Trap u)))
      by_type true = record { entries = Called (record { func = p.function (import.Trap t); args = []; before = w.state; answer = Returns rs state }) ∷ []; trace = refl; quiet = tt; frees = λ x. (none_freed x (import.Trap t) (λ d. refl) c refl, tt) }
      by_type false = record { entries = Called (record { func = p.function (import.Trap t); args = []; before = w.state; answer = Returns rs state }) ∷ []; trace = refl; quiet = tt; frees = λ x. (none_freed x (import.Trap t) (λ d. refl) c refl, tt) }

  caught : {A : Type 0} (x : Position) (r : ℕ) (w w' : World) (n : ℕ) (cs : List Call) (es : List TraceEntry) (e : Ended A)
      → w'.trace ≡ w.trace ++ es → AreOwnWrites p next x r es cs → GiveUpLive a next x cs → QuietEnd w' e → Ok x r w (heavier n (later cs e))
  caught x r w w' n cs es (Gave m ds b u) t o g q = record { entries = es ++ q.entries; trace = q.trace ∙ ap (λ z. z ++ q.entries) t ∙ append_assoc w.trace es q.entries; own = own_on x r es cs q.entries ds o q.quiet; frees = frees_on x cs ds g q.frees }
  caught x r w w' n cs es (Halted m ds s u) t o g q = record { entries = es ++ q.entries; trace = q.trace ∙ ap (λ z. z ++ q.entries) t ∙ append_assoc w.trace es q.entries; own = own_on x r es cs q.entries ds o q.quiet; frees = frees_on x cs ds g q.frees }
  caught x r w w' n cs es (Strayed m ds u) t o g q = record { entries = es ++ q.entries; trace = q.trace ∙ ap (λ z. z ++ q.entries) t ∙ append_assoc w.trace es q.entries; own = own_on x r es cs q.entries ds o q.quiet; frees = frees_on x cs ds g q.frees }

  guarded_ok : (b : Bool) (x : Position) (r : ℕ) (w : World) (e : Ended (List CoreValue)) → Ok x r w e → Ok x r w (guarded_if b p e)
  guarded_ok false x r w e h = h
  guarded_ok true x r w (Gave n cs b u) h = h
  guarded_ok true x r w (Halted n cs Trap u) h = h
  guarded_ok true x r w (Halted n cs Lack u) h = h
  guarded_ok true x r w (Halted n cs Throw u) h = caught x r w u n cs h.entries (run p (trap UncaughtException) u) h.trace h.own h.frees (trap_quiet UncaughtException u u.answers)
  guarded_ok true x r w (Strayed n cs u) h = h

not_either : {X : Type 0} (b c : Bool) → c ≡ true → (b || c) ≡ false → X
not_either true c e h = false_true (sym h)
not_either false c e h = false_true (sym h ∙ e)

-- ---- transfers of adapters

module _ (p : ImportPlaces) (next : Call → Position → Position) (u : AdapterTunables) (a : LinkedAdapter)
    (plain_next : (c : Call) (x : Position) → is_call_of a.callee c ≡ false → next c x ≡ moved_on c x) (own : HasOwnCallee a) (roomy : HasRoomForValues a) where
  abbrev P : {A : Type 0} → List Region → World → Action A → Type 0
  P live w q = Writes p next (params_landing a) live w q (λ x live' w'. Unit {0})

  -- parameters
  into_params_w : (s : Source) (w : World) → P [] w (into_params (params_transfer u a) a.lift.params (λ d. move_fields (params_transfer u a) (tuple_members a.lower.params) (tuple_members a.lift.params) 0 s d))
  into_params_w s w = by_flats (flat_values (is_wide a.lift.memory) 16 a.lift.params) (λ e. roomy.params_tuple e)
    where
      by_flats : (x : Option (List ValType)) → (x ≡ None → 1 ≤ (entry_extent (options_of a.lift) (tuple_members a.lift.params)).size) → P [] w (elim x [
        | Some flats ↦ move_fields (params_transfer u a) (tuple_members a.lower.params) (tuple_members a.lift.params) 0 s (Slots flats)
        | None ↦
            let e = entry_extent (options_of a.lift) (tuple_members a.lift.params) in
            reallocate u.concurrency (options_of a.lift) MemoryOutOfBounds 0 0 e.align e.size (λ q. move_fields (params_transfer u a) (tuple_members a.lower.params) (tuple_members a.lift.params) 0 s (Into q) >> Give (address_value (options_of a.lift) q ∷ []))
      ])
      by_flats (Some flats) some =
          writes_so p next (params_landing a) (fields_w p next (params_transfer u a) [] a.callee plain_next own.lift_realloc [] w (tuple_members a.lower.params) (tuple_members a.lift.params) 0 s (Slots flats) (suc (ends_of (width_of_side (options_of a.lift)) (tuple_members a.lift.params) 0)) (omega arith) (omega arith) roomy.params tt) (λ x live' w' k. tt)
      by_flats None some =
          let size = (entry_extent (options_of a.lift) (tuple_members a.lift.params)).size in
          let align = (entry_extent (options_of a.lift) (tuple_members a.lift.params)).align in
          parts.reallocate_w p next (params_landing a) a.callee plain_next [] w u.concurrency MemoryOutOfBounds 0 0 align size (λ q. move_fields (params_transfer u a) (tuple_members a.lower.params) (tuple_members a.lift.params) 0 s (Into q) >> Give (address_value (options_of a.lift) q ∷ [])) (λ x live' w'. Unit {0}) own.lift_realloc (entry_aligned (options_of a.lift) (tuple_members a.lift.params), inl (refl, refl)) (λ q v more sound.
          writes_bind p next (params_landing a) (move_fields (params_transfer u a) (tuple_members a.lower.params) (tuple_members a.lift.params) 0 s (Into q)) (λ vs. Give (address_value (options_of a.lift) q ∷ [])) (λ x live' w'. Unit {0}) (λ x live' w'. Unit {0})
          (writes_so p next (params_landing a) (fields_w p next (params_transfer u a) [] a.callee plain_next own.lift_realloc (record { at = q; size = size; align = align } ∷ []) v (tuple_members a.lower.params) (tuple_members a.lift.params) 0 s (Into q) size (record_room (options_of a.lift) (tuple_members a.lift.params)) (let z = some refl in omega arith) roomy.params (inl (sound, (omega arith, omega arith)))) (λ x live' w' k. tt))
          (λ vs live' w' t. writes_give p next (params_landing a) live' w' (address_value (options_of a.lift) q ∷ []) (λ x live'' w''. Unit {0}) tt))

  params_w : (args : List CoreValue) (w : World) → P [] w (move_params u a args)
  params_w args w = by_flats (flat_values (is_wide a.lower.memory) (lower_limit a.lower.async_side) a.lower.params)
    where
      by_flats : (x : Option (List ValType)) → P [] w (elim x [
        | Some flats ↦ into_params (params_transfer u a) a.lift.params (λ d. move_fields (params_transfer u a) (tuple_members a.lower.params) (tuple_members a.lift.params) 0 (Values args) d)
        | None ↦ check_tuple (options_of a.lower) a.lower.params (first_bits args) (into_params (params_transfer u a) a.lift.params (λ d. move_fields (params_transfer u a) (tuple_members a.lower.params) (tuple_members a.lift.params) 0 (AtAddress (first_bits args)) d))
      ])
      by_flats (Some flats) = into_params_w (Values args) w
      by_flats None = parts.region_w p next (params_landing a) a.callee plain_next [] w (options_of a.lower) MemoryOutOfBounds (first_bits args) _ _ _ _ (into_params_w (AtAddress (first_bits args)) w)

  module _ (args : List CoreValue) where
    abbrev R : {A : Type 0} → List Region → World → Action A → Type 0
    R live w q = Writes p next (results_landing a args) live w q (λ x live' w'. Unit {0})

    -- results
    abbrev area_of : Option (List ValType) → List Region
    area_of x =
        elim x [
          | Some flats ↦ []
          | None ↦
              let e = entry_extent (options_of a.lower) (tuple_members a.lower.results) in
              record { at = last_bits args; size = e.size; align = e.align } ∷ []
        ]

    into_results_w : (s : Source) (live : List Region) (w : World) → R live w (into_results a.lower (last_bits args) (λ d. move_fields (results_transfer u a) (tuple_members a.lift.results) (tuple_members a.lower.results) 0 s d))
    into_results_w s live w = by_flats (flat_results a.lower) refl
      where
        by_flats : (x : Option (List ValType)) → flat_results a.lower ≡ x → R live w (elim x [
          | Some flats ↦ move_fields (results_transfer u a) (tuple_members a.lift.results) (tuple_members a.lower.results) 0 s (Slots flats)
          | None ↦ check_tuple (options_of a.lower) a.lower.results (last_bits args) (move_fields (results_transfer u a) (tuple_members a.lift.results) (tuple_members a.lower.results) 0 s (Into (last_bits args)))
        ])
        by_flats (Some flats) is =
            writes_so p next (results_landing a args) (fields_w p next (results_transfer u a) (return_area a args) a.callee plain_next own.lower_realloc live w (tuple_members a.lift.results) (tuple_members a.lower.results) 0 s (Slots flats) (suc (ends_of (width_of_side (options_of a.lower)) (tuple_members a.lower.results) 0)) (omega arith) (omega arith) roomy.results tt) (λ x live' w' k. tt)
        by_flats None is =
            let size = (entry_extent (options_of a.lower) (tuple_members a.lower.results)).size in
            let align = (entry_extent (options_of a.lower) (tuple_members a.lower.results)).align in
            parts.checked_w p next (results_landing a args) a.callee plain_next live w MemoryOutOfBounds (last_bits args) size align _ _ (λ sound.
            writes_so p next (results_landing a args) (fields_w p next (results_transfer u a) (return_area a args) a.callee plain_next own.lower_realloc live w (tuple_members a.lift.results) (tuple_members a.lower.results) 0 s (Into (last_bits args)) size
            (record_room (options_of a.lower) (tuple_members a.lower.results)) (let z = roomy.results_tuple is in omega arith) roomy.results
            (own_right (length (side_memory p (options_of a.lower) w.state)) live (return_area a args) (last_bits args) size
            (subst (λ rs. LiesInSound (length (side_memory p (options_of a.lower) w.state)) rs (last_bits args) size) (sym (ap area_of is)) (inl (sound, (omega arith, omega arith)))))) (λ x live' w' k. tt))

    results_w : (given : List CoreValue) (live : List Region) (w : World) → R live w (move_results u a given (last_bits args))
    results_w given live w = by_flats (flat_values (is_wide a.lift.memory) (lift_results_limit a.lift.async_side) a.lift.results)
      where
        by_flats : (x : Option (List ValType)) → R live w (elim x [
          | Some flats ↦ into_results a.lower (last_bits args) (λ d. move_fields (results_transfer u a) (tuple_members a.lift.results) (tuple_members a.lower.results) 0 (Values given) d)
          | None ↦ check_tuple (options_of a.lift) a.lift.results (first_bits given) (into_results a.lower (last_bits args) (λ d. move_fields (results_transfer u a) (tuple_members a.lift.results) (tuple_members a.lower.results) 0 (AtAddress (first_bits given)) d))
        ])
        by_flats (Some flats) = into_results_w (Values given) live w
        by_flats None = parts.region_w p next (results_landing a args) a.callee plain_next live w (options_of a.lift) MemoryOutOfBounds (first_bits given) _ _ _ _ (into_results_w (AtAddress (first_bits given)) live w)

-- ---- whole adapters

module _ (p : ImportPlaces) (next : Call → Position → Position) (u : AdapterTunables) (a : LinkedAdapter)
    (plain_next : (c : Call) (x : Position) → is_call_of a.callee c ≡ false → next c x ≡ moved_on c x) (own : HasOwnCallee a) (roomy : HasRoomForValues a) (args : List CoreValue) where
  ok_flags : {A : Type 0} (x : Position) (r : ℕ) (w : World) (i : ℕ) (f : ℕ → Action A) → ((n : ℕ) → Ok p a next x r w (run p (f n) w)) → Ok p a next x r w (run p (get_flags i >>= f) w)
  ok_flags x r w i f h = by_value (slice_get w.state.globals (p.flags i))
    where
      by_number : (o : Option ℕ) → Ok p a next x r w (or_strayed w o (λ n. run p (f n) w))
      by_number None = ok_none p a next x r w (Strayed 0 [] w) refl refl
      by_number (Some n) = h n

      by_value : (o : Option CoreValue) → Ok p a next x r w (or_strayed w o (λ v. or_strayed w (i32_of v) (λ n. run p (f n) w)))
      by_value None = ok_none p a next x r w (Strayed 0 [] w) refl refl
      by_value (Some v) = by_number (i32_of v)

  ok_unless : (x : Position) (r : ℕ) (w : World) (t : Reason) (b : Bool) (q : Action (List CoreValue)) → Ok p a next x r w (run p q w) → Ok p a next x r w (run p (unless t b none >> q) w)
  ok_unless x r w t true q h = h
  ok_unless x r w t false q h = ok_ask p a next x r w (import.Trap t) [] [] (λ rs. Unreachable) (none_freed p a next x (import.Trap t) (λ d. refl)) (λ c rs v e f. ok_none p a next _ _ v (Halted 0 [] Trap v) refl refl)

  module _ (l : Landing) where
    when_w : (live : List Region) (w : World) (b : Bool) (i : Import) (values : List CoreValue) → ((d : CoreDef) → is_import_of d i ≡ false) → Writes p next l live w (when_due b (make_call i values [])) (λ x live' w'. live' ≡ live)
    when_w live w true i values apart = parts.other p next l a.callee plain_next live w i values [] _ _ apart (λ rs v g. writes_give p next l live v rs _ refl)
    when_w live w false i values apart = writes_give p next l live w [] _ refl

    slots_w : (live : List Region) (w : World) (b : Bool) → Writes p next l live w (read_slots b) (λ x live' w'. live' ≡ live)
    slots_w live w false = writes_give p next l live w _ _ refl
    slots_w live w true = parts.other p next l a.callee plain_next live w _ [] _ _ _ (λ d. refl) (λ x v g. parts.other p next l a.callee plain_next live v _ [] _ _ _ (λ d. refl) (λ y v' g'. writes_give p next l live v' _ _ refl))

    cleared_w : {A : Type 0} (live : List Region) (w : World) (i saved : ℕ) (q : Action A) → ((v : World) → Writes p next l live v q (λ x live' w'. Unit {0})) → Writes p next l live w (cleared i saved q) (λ x live' w'. Unit {0})
    cleared_w live w i saved q h = writes_set p next l live w i 0 _ _ (λ v same.
        writes_bind p next l q (λ x. SetFlags i saved (Give x)) (λ x live' w'. Unit {0}) _ (h v) (λ x live' w' t. writes_set p next l live' w' i saved _ _ (λ v' same'. writes_give p next l live' v' x _ tt)))

  -- a run whose writes are own
  record Runs {A : Type 0} (x : Position) (r : ℕ) (w : World) (q : Action A) : Type 0 where
    ok : Ok p a next x r w (run p q w)

  runs_flags : {A : Type 0} {x : Position} {r : ℕ} {w : World} (i : ℕ) (f : ℕ → Action A) → ((n : ℕ) → Runs x r w (f n)) → Runs x r w (get_flags i >>= f)
  runs_flags {x} {r} {w} i f h = record { ok = ok_flags x r w i f (λ n. (h n).ok) }

  runs_unless : {x : Position} {r : ℕ} {w : World} (t : Reason) (b : Bool) (q : Action (List CoreValue)) → Runs x r w q → Runs x r w (unless t b none >> q)
  runs_unless {x} {r} {w} t b q h = record { ok = ok_unless x r w t b q h.ok }

  runs_bind : {A B : Type 0} {live : List Region} {w : World} (l : Landing) (q : Action A) (f : A → Action B) (R : A → List Region → World → Type 0)
      → Writes p next l live w q R → ((v : A) (live' : List Region) (w' : World) → R v live' w' → Runs (record { landing = l; live = live' }) (length (side_memory p l.to w'.state)) w' (f v))
      → Runs (record { landing = l; live = live }) (length (side_memory p l.to w.state)) w (q >>= f)
  runs_bind {live} {w} l q f R h g = record { ok = ok_bind p a next l live w q f R h (λ v live' w' t. (g v live' w' t).ok) }

  runs_ask : {A : Type 0} {x : Position} {r : ℕ} {w : World} {i : Import} {values : List CoreValue} {ts : List ValType} {k : List CoreValue → Action A}
      → FreesAt p a next x i → ((c : Call) (rs : List CoreValue) (v : World) → c.what ≡ i → state_after c ≡ v.state → Runs (next c x) (room_in p (next c x) (state_after c)) v (k rs)) → Runs x r w (Ask i values ts k)
  runs_ask {x} {r} {w} {i} {values} {ts} {k} g h = record { ok = ok_ask p a next x r w i values ts k g (λ c rs v e f. (h c rs v e f).ok) }

  runs_cleared : {A : Type 0} (l : Landing) (w : World) (i saved : ℕ) (q : Action A) → ((v : World) → Writes p next l [] v q (λ x live' w'. Unit {0})) → Runs (landed l) (length (side_memory p l.to w.state)) w (cleared i saved q)
  runs_cleared l w i saved q h = record { ok = ok_holds p a next l [] w (run p (cleared i saved q) w) _ (cleared_w l [] w i saved q h).holds }

  -- the functions that move the parameters and the results of an async adapter
  start_ok : (w : World) → Runs (landed (params_landing a)) (length (side_memory p (options_of a.lift) w.state)) w (async_start u a args)
  start_ok w = runs_flags a.lift.instance _ (λ saved. runs_cleared (params_landing a) w a.lift.instance saved _ (λ v. params_w p next u a plain_next own roomy args v))

  return_ok : (w : World) → Runs (landed (results_landing a args)) (length (side_memory p (options_of a.lower) w.state)) w (async_return u a args)
  return_ok w = runs_flags a.lower.instance _ (λ saved. runs_cleared (results_landing a args) w a.lower.instance saved _ (λ v. results_w p next u a plain_next own roomy args args [] v))

  -- a sync adapter: with the callee's call the other transfer begins
  module _ (turns : (c : Call) (x : Position) → c.what ≡ import.CoreDef a.callee → next c x ≡ landed (results_landing a args)) where
    -- behind the callee's call
    behind_ok : (given : List CoreValue) (saved : ℕ) (w : World) → Ok p a next (landed (results_landing a args)) (length (side_memory p (options_of a.lower) w.state)) w
        (run p (read_slots (u.concurrency && is_some a.lift.post_return) >>= (λ context. exit_call u a >> (cleared a.lower.instance saved (move_results u a given (last_bits args)) >>= (λ results. finish_call u.concurrency a.lift.post_return given context >> Give results)))) w)
    behind_ok given saved w =
        let l = results_landing a args in
        ok_bind p a next l [] w (read_slots (u.concurrency && is_some a.lift.post_return)) _ _ (slots_w l [] w (u.concurrency && is_some a.lift.post_return)) (λ context live1 w1 s1.
        ok_bind p a next l live1 w1 (exit_call u a) _ _ (when_w l live1 w1 (enters u a) import.ExitSyncCall [] (λ d. refl)) (λ r live2 w2 s2.
        ok_bind p a next l live2 w2 (cleared a.lower.instance saved (move_results u a given (last_bits args))) _ _
        (cleared_w l live2 w2 a.lower.instance saved _ (λ v. results_w p next u a plain_next own roomy args given live2 v)) (λ results live3 w3 s3.
        (quiet_finish p a next (λ f e x c is other. not_either (is_call_of a.callee c) (is_call_of_any a.lift.post_return c) (ap (λ o. is_call_of_any o c) e ∙ ap (λ i. is_import_of f i) is ∙ same_self f) other) u.concurrency given context results).at _ _ w3)))

    sync_ok : (w : World) → Runs (landed (params_landing a)) (length (side_memory p (options_of a.lift) w.state)) w (sync u a args)
    sync_ok w =
        runs_flags a.lower.instance _ (λ saved.
        runs_unless CannotLeaveComponent (not (nat_eq saved 0)) _ (
        runs_bind (params_landing a) (enter_call u a) _ _ (when_w (params_landing a) [] w (enters u a) import.EnterSyncCall _ (λ d. refl)) (λ r live1 w1 same.
        runs_flags a.lift.instance _ (λ lift_saved.
        runs_bind (params_landing a) (cleared a.lift.instance lift_saved (move_params u a args)) _ _
        (cleared_w (params_landing a) live1 w1 a.lift.instance lift_saved _ (λ v. subst (λ live. Writes p next (params_landing a) live v (move_params u a args) (λ x live' w'. Unit {0})) (sym same) (params_w p next u a plain_next own roomy args v))) (λ core live2 w2 t.
        runs_ask (λ c is other. by_callee c (ap (λ i. is_import_of a.callee i) is ∙ same_self a.callee) other) (λ c given w3 is_callee is_behind. turned c (record { landing = params_landing a; live = live2 }) w3 is_callee is_behind _ (record { ok = behind_ok given saved w3 })))))))
      where
        by_callee : {X : Type 0} (c : Call) → is_call_of a.callee c ≡ true → is_beside a c ≡ false → X
        by_callee c hit other = false_true (sym other ∙ ap (λ b. b || is_call_of_any a.lift.post_return c) hit)

        turned : (c : Call) (x : Position) (v : World) → c.what ≡ import.CoreDef a.callee → state_after c ≡ v.state → (q : Action (List CoreValue))
            → Runs (landed (results_landing a args)) (length (side_memory p (options_of a.lower) v.state)) v q → Runs (next c x) (room_in p (next c x) (state_after c)) v q
        turned c x v e f q h =
            subst (λ y. Runs y (room_in p y (state_after c)) v q) (sym (turns c x e)) (subst (λ s. Runs (landed (results_landing a args)) (length (side_memory p (options_of a.lower) s)) v q) (sym f) h)

-- ---- the laws

module _ (p : ImportPlaces) (u : AdapterTunables) (a : LinkedAdapter) (args : List CoreValue) (own : HasOwnCallee a) (roomy : HasRoomForValues a) where
  abbrev from_params : Position
  from_params = landed (params_landing a)

  abbrev from_results : Position
  from_results = landed (results_landing a args)

  whole_run : (w : World) → Ok p a (sync_moved_on a args) from_params (room_in p from_params w.state) w (ended_sync p u a args w)
  whole_run w = guarded_ok p a (sync_moved_on a args) u.exceptions from_params (room_in p from_params w.state) w (run p (sync u a args) w) (sync_ok p (sync_moved_on a args) u a plain_next own roomy args turns w).ok
    where
      plain_next : (c : Call) (x : Position) → is_call_of a.callee c ≡ false → sync_moved_on a args c x ≡ moved_on c x
      plain_next c x e = ap (λ b. if b then landed (results_landing a args) else moved_on c x) e

      turns : (c : Call) (x : Position) → c.what ≡ import.CoreDef a.callee → sync_moved_on a args c x ≡ landed (results_landing a args)
      turns c x e = ap (λ b. if b then landed (results_landing a args) else moved_on c x) (ap (λ i. is_import_of a.callee i) e ∙ same_self a.callee)

  start_run : (w : World) → Ok p a moved_on from_params (room_in p from_params w.state) w (run p (async_start u a args) w)
  start_run w = (start_ok p moved_on u a (λ c x e. refl) own roomy args w).ok

  return_run : (w : World) → Ok p a moved_on from_results (room_in p from_results w.state) w (run p (async_return u a args) w)
  return_run w = (return_ok p moved_on u a (λ c x e. refl) own roomy args w).ok

pub writes_are_confined : (p : ImportPlaces) (u : AdapterTunables) (a : LinkedAdapter) (args : List CoreValue) (state : MachineState) (answers : List Answer) → HasOwnCallee a → HasRoomForValues a → IsConfined p a args state (ended_sync p u a args (first_world state answers))
writes_are_confined p u a args state answers own roomy =
    let w = first_world state answers in
    let x = landed (params_landing a) in
    let h = whole_run p u a args own roomy w in
    subst (λ es. AreOwnWrites p (sync_moved_on a args) x (room_in p x state) es (calls_in (ended_sync p u a args w))) (sym h.trace) h.own

pub start_writes_are_confined : (p : ImportPlaces) (u : AdapterTunables) (a : LinkedAdapter) (args : List CoreValue) (state : MachineState) (answers : List Answer)
    → HasOwnCallee a → HasRoomForValues a → IsConfinedFrom p moved_on (params_landing a) state (run p (async_start u a args) (first_world state answers))
start_writes_are_confined p u a args state answers own roomy =
    let w = first_world state answers in
    let x = landed (params_landing a) in
    let h = start_run p u a args own roomy w in
    subst (λ es. AreOwnWrites p moved_on x (room_in p x state) es (calls_in (run p (async_start u a args) w))) (sym h.trace) h.own

pub return_writes_are_confined : (p : ImportPlaces) (u : AdapterTunables) (a : LinkedAdapter) (args : List CoreValue) (state : MachineState) (answers : List Answer)
    → HasOwnCallee a → HasRoomForValues a → IsConfinedFrom p moved_on (results_landing a args) state (run p (async_return u a args) (first_world state answers))
return_writes_are_confined p u a args state answers own roomy =
    let w = first_world state answers in
    let x = landed (results_landing a args) in
    let h = return_run p u a args own roomy w in
    subst (λ es. AreOwnWrites p moved_on x (room_in p x state) es (calls_in (run p (async_return u a args) w))) (sym h.trace) h.own

pub requests_give_up_live : RequestsGiveUpLive
requests_give_up_live p u a args w own roomy = (whole_run p u a args own roomy w).frees

pub start_requests_give_up_live : StartRequestsGiveUpLive
start_requests_give_up_live p u a args w own roomy = (start_run p u a args own roomy w).frees

pub return_requests_give_up_live : ReturnRequestsGiveUpLive
return_requests_give_up_live p u a args w own roomy = (return_run p u a args own roomy w).frees
