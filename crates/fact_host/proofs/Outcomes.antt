-- What came of a run on a host is an outcome of the call.
use Rattle.std.proofs.Common.{◌≡◌, ◌≢◌, ℕ, zero, suc, ◌+◌, ◌<◌, ◌≤◌, ◌⊎◌, inl, inr, Bool, true, false, All, List, [], ◌∷◌, Option, Some, None, refl, sym, ap, ◌∙◌, subst, arith, length, map, get_or, slice_get}
use Rattle.std.specs.Prelude.{nat_eq, cond}
use Rattle.std.specs.List.{AllByRecursion, AllZip}
use Rattle.std.proofs.lemmas.Bool.{cases_lt, eq-eqb, eqb-true}
use Rattle.std.proofs.lemmas.List.Elements.{All-head, All-weaker}
use Rattle.std.proofs.lemmas.Option.{slice_get-get_or, slice_get_within}
use Rattle.fact_wasm.specs.declared.types.ValType.{ValType}
use Rattle.fact_wasm.specs.declared.module.WasmImport.{WasmImport}
use Rattle.fact_wasm.specs.declared.module.WasmModule.{WasmModule}
use Rattle.fact_types.specs.declared.flats.FlatType.{FlatType}
use Rattle.fact_types.specs.declared.import.Import.{Import}
use Rattle.fact_types.specs.declared.interface.InterfaceType.{InterfaceType}
use Rattle.fact_types.specs.Adapters.{LinkedAdapter, is_wide}
use Rattle.fact_types.specs.Flat.{value_type}
use Rattle.fact_types.specs.FlatShapes.{flat_all}
use Rattle.fact_types.specs.Functions.{HaveShapes}
use Rattle.fact_types.specs.Layout.{extent}
use Rattle.fact_types.specs.Shapes.{Shape, layout_of}
use Rattle.fact_types.specs.Signatures.{flat_values, width}
use Rattle.fact_types.specs.Tables.{Tables}
use Rattle.fact_types.specs.Tuples.{tuple_members, tuple_of}
use Rattle.fact_types.proofs.ShapeLaws.{one_shape}
use Rattle.fact_machine.specs.declared.types.CoreValue.{CoreValue}
use Rattle.fact_machine.specs.declared.types.End.TheVariants.{Lacks}
use Rattle.fact_machine.specs.declared.types.Event.{Event}
use Rattle.fact_machine.specs.declared.types.MachineState.{MachineState}
use Rattle.fact_machine.specs.declared.types.Outcome.{Outcome}
use Rattle.fact_machine.specs.Causes.{answers_of}
use Rattle.fact_machine.specs.Lengths.{lengths_of, SeeLengths}
use Rattle.fact_machine.specs.LastTrap.{TrapIsLast}
use Rattle.fact_machine.specs.Machine.{run_of}
use Rattle.fact_machine.specs.Typed.{IsValue, TypedAnswer}
use Rattle.fact_machine.proofs.LastTrap.{traps_are_last}
use Rattle.fact_machine.proofs.Lengths.{lengths_stay}
use Rattle.fact_check.specs.Constants.{AreBits, HasTypedConstants}
use Rattle.fact_check.specs.Soundness.{RunsSeeTyped, SeeTyped}
use Rattle.fact_values.specs.declared.value.Value.{Value}
use Rattle.fact_values.specs.Places.{extent_on, width_of}
use Rattle.fact_actions.specs.Adapters.{flat_results, last_bits, lowered_flats}
use Rattle.fact_actions.specs.Moves.{entry_extent}
use Rattle.fact_actions.specs.Regions.{Region, return_area}
use Rattle.fact_actions.specs.Running.{ImportPlaces}
use Rattle.fact_actions.specs.Sides.{options_of}
use Rattle.fact_host.specs.declared.callee.HostError.{HostError}
use Rattle.fact_host.specs.declared.callee.HostError.TheVariants.{OutOfMemory, Unsuited, OverLimit, NoResults}
use Rattle.fact_host.specs.declared.calling.HostCall.{HostCall}
use Rattle.fact_host.specs.declared.calling.HostOutcome.{HostOutcome}
use Rattle.fact_host.specs.declared.known.Known.{Known}
use Rattle.fact_host.specs.declared.roles.Role.{Role}
use Rattle.fact_host.specs.declared.roles.Role.TheVariants as role
use Rattle.fact_host.specs.Beginning.{BeginsHosting, IsNamedMemory}
use Rattle.fact_host.specs.Begun.{AreBegun, CanBegin, IsBegun, IsFirstState, first_cursor}
use Rattle.fact_host.specs.Contract.{AnswerLifts, AnsweredTooMuch, AnsweredUnsuited, AreTypesLive, AreSuited, HasNoCause, IsCallable, IsHostCause, IsFirstKnown, IsNameable, IsOutcomeOf, area_room, params_reached, results_reached, steps_given}
use Rattle.fact_host.specs.Describes.{Describes, HasCallShapes}
use Rattle.fact_host.specs.HonestLaws.{AnswersAreTyped, HasRole}
use Rattle.fact_host.specs.Hosts.{AreAnswersUntil}
use Rattle.fact_host.specs.Lawful.{AnswerStands, AreRuled, CameOf, Hosted, IsCalleeCause, IsHosting, IsRunning, IsSoundCall, PlacesCallee, RoleAt, Told, first_known}
use Rattle.fact_host.specs.Roles.{HaveRoles, IsRole, IsRoleBy, function_imports, is_place, role_by_place}
use Rattle.fact_host.specs.Rules.{AreAnswers, CallShapes, bytes_of_memory, cursor_of, memory_at, side_bytes}
use Rattle.fact_host.proofs.FirstStates.{begun_count, begun_flags, begun_lift, begun_lower, begun_others, begun_typed, first_lower, memory_there}
use Rattle.fact_host.proofs.Honest.{law}
use Rattle.fact_host.proofs.Hosting.{others_stand, read_by, read_is}
use Rattle.fact_lowering.specs.Room.{room}

-- ---- shapes

same_shapes : (t : Tables) (xs : List InterfaceType) (ss zs : List Shape) → HaveShapes t xs ss → HaveShapes t xs zs → ss ≡ zs
same_shapes t [] [] [] h g = refl
same_shapes t [] [] (z ∷ zs) h g = absurd g
same_shapes t [] (s ∷ ss) zs h g = absurd h
same_shapes t (x ∷ xs) [] zs h g = absurd h
same_shapes t (x ∷ xs) (s ∷ ss) [] h g = absurd g
same_shapes t (x ∷ xs) (s ∷ ss) (z ∷ zs) h g = λ i. one_shape t s z x h.0 g.0 i ∷ same_shapes t xs ss zs h.1 g.1 i

same_call_shapes : (t : Tables) (c : HostCall) (s z : CallShapes) → HasCallShapes t c s → HasCallShapes t c z → s ≡ z
same_call_shapes t c s z h g = λ i. record {
  lower_params = same_shapes t c.lower.params s.lower_params z.lower_params h.lower_params g.lower_params i;
  lower_results = same_shapes t c.lower.results s.lower_results z.lower_results h.lower_results g.lower_results i;
  lift_params = same_shapes t c.lift.params s.lift_params z.lift_params h.lift_params g.lift_params i;
  lift_results = same_shapes t c.lift.results s.lift_results z.lift_results h.lift_results g.lift_results i;
}

-- a call that is callable by some shapes is so by all that it has
pub callable_by : (m : WasmModule) (t : Tables) (c : HostCall) (z s : CallShapes) → IsCallable m t c z → HasCallShapes t c s → IsCallable m t c s
callable_by m t c z s h g = subst (IsCallable m t c) (same_call_shapes t c z s h.shapes g) h

pub sound_of : (m : WasmModule) (t : Tables) (c : HostCall) (s : CallShapes) → IsCallable m t c s → AreTypesLive t c → IsSoundCall t c
sound_of m t c s h live = record {
  shapes = s;
  shaped = h.shapes;
  live = live;
  agree = λ z g. (callable_by m t c s z h g).results_agree;
  needs = λ z g. (callable_by m t c s z h g).needs;
}

-- ---- roles

has_role : (m : WasmModule) (c : HostCall) (k : ℕ) (ws : List WasmImport) (rs : List Role) (n : ℕ) (r : Role) → HaveRoles m c k ws rs → RoleAt rs n r → (w : WasmImport) × (slice_get ws n ≡ Some w) × IsRole m c (k + n) w r
has_role m c k [] [] n r h e = absurd cc
has_role m c k [] (q ∷ rs) n r h e = absurd h
has_role m c k (w ∷ ws) [] n r h e = absurd h
has_role m c k (w ∷ ws) (q ∷ rs) zero r h e =
    let both : Some q ≡ Some r = e in
    let same : q ≡ r = cc in
    let at : k ≡ k + 0 = omega arith in
    (w, refl, subst (λ z. IsRole m c z w r) at (subst (IsRole m c k w) same h.0))
has_role m c k (w ∷ ws) (q ∷ rs) (suc n) r h e =
    let x = has_role m c (suc k) ws rs n r h.1 e in
    let at : suc k + n ≡ k + suc n = omega arith in
    (x.0, x.1, subst (λ z. IsRole m c z x.0 r) at x.2)

named : (m : WasmModule) (c : HostCall) (roles : List Role) → HaveRoles m c 0 (function_imports m) roles → (n : ℕ) (r : Role) → RoleAt roles n r → HasRole m c n r
named m c roles have n r at =
    let x = has_role m c 0 (function_imports m) roles n r have at in
    let is : 0 + n ≡ n = omega arith in
    (x.0, x.1, subst (λ z. IsRole m c z x.0 r) is x.2)

there_role : (m : WasmModule) (c : HostCall) (k : ℕ) (ws : List WasmImport) (rs : List Role) (n : ℕ) (w : WasmImport) → HaveRoles m c k ws rs → slice_get ws n ≡ Some w → (r : Role) × RoleAt rs n r × IsRole m c (k + n) w r
there_role m c k [] [] n w h e = absurd cc
there_role m c k [] (q ∷ rs) n w h e = absurd h
there_role m c k (v ∷ ws) [] n w h e = absurd h
there_role m c k (v ∷ ws) (q ∷ rs) zero w h e =
    let both : Some v ≡ Some w = e in
    let same : v ≡ w = cc in
    let at : k ≡ k + 0 = omega arith in
    (q, refl, subst (λ z. IsRole m c z w q) at (subst (λ z. IsRole m c k z q) same h.0))
there_role m c k (v ∷ ws) (q ∷ rs) (suc n) w h e =
    let x = there_role m c (suc k) ws rs n w h.1 e in
    let at : suc k + n ≡ k + suc n = omega arith in
    (x.0, x.1, subst (λ z. IsRole m c z w x.0) at x.2)

callee_by : (c : HostCall) (n : ℕ) → n ≡ c.callee → role_by_place c n ≡ Some role.Callee
callee_by c n e =
    ap (λ b. cond b (Some role.Callee) (cond (is_place c.lift.realloc n) (Some role.LiftRealloc) (cond (is_place c.lower.realloc n) (Some role.LowerRealloc) (cond (is_place c.post_return n) (Some role.PostReturn) None))))
    (eq-eqb c.callee n (sym e))

-- a place whose role is the callee's is the callee's
only_callee : (m : WasmModule) (c : HostCall) (n : ℕ) (w : WasmImport) → IsRole m c n w role.Callee → n ≡ c.callee
only_callee m c n w h = by (nat_eq c.callee n) refl (is_place c.lift.realloc n) (is_place c.lower.realloc n) (is_place c.post_return n) h
  where
    by : (b : Bool) → nat_eq c.callee n ≡ b → (d e f : Bool) → IsRoleBy m w role.Callee (cond b (Some role.Callee) (cond d (Some role.LiftRealloc) (cond e (Some role.LowerRealloc) (cond f (Some role.PostReturn) None)))) → n ≡ c.callee
    by true q d e f h = sym (eqb-true c.callee n q)
    by false q true e f h = let z : role.Callee ≡ role.LiftRealloc = h in absurd cc
    by false q false true f h = let z : role.Callee ≡ role.LowerRealloc = h in absurd cc
    by false q false false true h = let z : role.Callee ≡ role.PostReturn = h in absurd cc
    by false q false false false h = absurd h

first_all : (m : WasmModule) (n : ℕ) (ns : List ℕ) → All (IsNameable m) (n ∷ ns) → IsNameable m n
first_all m n ns h = All-head (IsNameable m) n ns h

pub places_callee : (m : WasmModule) (t : Tables) (c : HostCall) (s : CallShapes) (roles : List Role) → IsCallable m t c s → HaveRoles m c 0 (function_imports m) roles → PlacesCallee c roles
places_callee m t c s roles h have n = (
  (λ at. let x = named m c roles have n role.Callee at in only_callee m c n x.0 x.2),
  (λ is.
      let a = first_all m c.callee _ h.named in
      let x = there_role m c 0 (function_imports m) roles n a.import have (ap (slice_get (function_imports m)) is ∙ a.there) in
      let at : 0 + n ≡ n = omega arith in
      let own : x.0 ≡ role.Callee = subst (IsRoleBy m a.import x.0) (ap (role_by_place c) at ∙ callee_by c n is) x.2 in
      subst (RoleAt roles n) own x.1),
)

pub hosting_of : (m : WasmModule) (t : Tables) (c : HostCall) (s : CallShapes) (roles : List Role) → IsCallable m t c s → AreTypesLive t c → HaveRoles m c 0 (function_imports m) roles → IsHosting t c roles
hosting_of m t c s roles h live have = record { sound = sound_of m t c s h live; callee = places_callee m t c s roles h have }

-- ---- what came of the callee

pub rules_of : (m : WasmModule) (c : HostCall) (s : CallShapes) (roles : List Role) → HaveRoles m c 0 (function_imports m) roles → (answered : Option (List Value)) (k last : Known) (log : List Event)
    → AreAnswersUntil (RoleAt roles) c s answered k log last → AreAnswers (HasRole m c) c s answered k log
rules_of m c s roles have answered k last [] u = tt
rules_of m c s roles have answered k last (e ∷ es) u = (u.0, named m c roles have e.func u.0 u.1, u.2, u.3, rules_of m c s roles have answered u.2 last es u.4)

module _ (h : Hosted) (s : CallShapes) (t : Told) (events : List Event) (k : Known) (params : Option (List Value)) where
  ruled_by : (b : Bool) → IsRunning h s t events k params b → AreRuled h s t.answered events k
  ruled_by false w = w.ruled t.answered
  ruled_by true a = a.ruled

  stands_by : (b : Bool) → IsRunning h s t events k params b → All (AnswerStands h.call s t.answered) events
  stands_by false w = others_stand h.call s t.answered events w.uncalled
  stands_by true a = a.stands

  reached_by : (b : Bool) → IsRunning h s t events k params b → params ≡ params_reached h.call s events
  reached_by false w = w.no_params ∙ sym (read_is h.call s events ∙ ap (read_by h.call s) w.uncalled)
  reached_by true a = a.reached

  given_by : (b : Bool) → IsRunning h s t events k params b → (t.given ≡ None) ⊎ (t.given ≡ params)
  given_by false w = inl w.fresh.not_given
  given_by true a = a.given

  unasked_by : (b : Bool) → IsRunning h s t events k params b → params ≡ None → t.answered ≡ None
  unasked_by false w n = w.fresh.no_answer
  unasked_by true a n = a.unasked n

  no_cause_by : (args : List Value) → AreSuited s args → (b : Bool) → IsRunning h s t events k params b → HasNoCause s args t.last t.answered
  no_cause_by args suited false w = record {
    suited = suited;
    no_error = w.fresh.no_error;
    answer_suited = λ u. subst (AnsweredUnsuited s) w.fresh.no_answer u;
    answer_fits = λ u. subst (AnsweredTooMuch s) w.fresh.no_answer u;
  }
  no_cause_by args suited true a = record {
    suited = suited;
    no_error = a.no_error;
    answer_suited = a.suited;
    answer_fits = a.fits;
  }

-- why a callee's call ends the whole call, where it could begin
pub cause_of : (s : CallShapes) (args : List Value) (t : Told) (error : HostError) → AreSuited s args → IsCalleeCause s t error → IsHostCause s args t.last t.answered error
cause_of s args t OutOfMemory suited h = tt
cause_of s args t Unsuited suited h = inr (suited, h)
cause_of s args t OverLimit suited h = inr (suited, h)
cause_of s args t NoResults suited h = (suited, h)

-- ---- how the run begins

past_none : (ns : List ℕ) (n : ℕ) → length ns ≤ n → get_or ns n 0 ≡ 0
past_none [] n le = refl
past_none (m ∷ ns) zero le = absurd (omega (arith, le))
past_none (m ∷ ns) (suc n) le = past_none ns n (omega (arith, le))

place_is : (o : Option ℕ) (n : ℕ) → is_place o n ≡ true → o ≡ Some n
place_is None n e = absurd cc
place_is (Some k) n e = ap (λ z. Some z) (eqb-true k n e)

lengths_at : (ms : List (List ℕ)) (n : ℕ) → get_or (map length ms) n 0 ≡ length (get_or ms n [])
lengths_at [] n = refl
lengths_at (m ∷ ms) zero = refl
lengths_at (m ∷ ms) (suc n) = lengths_at ms n

lengths_many : (ms : List (List ℕ)) → length (map length ms) ≡ length ms
lengths_many [] = refl
lengths_many (m ∷ ms) = ap suc (lengths_many ms)

module _ (m : WasmModule) (t : Tables) (c : HostCall) (s : CallShapes) (values : List Value) (before state : MachineState) (args : List CoreValue) (cursor : ℕ) (cursors : List ℕ)
    (callable : IsCallable m t c s) (first : IsFirstState c m.imports before) (begun : IsBegun c s values before state args cursor) (at : AreBegun c cursor state cursors) where
  -- a cursor is no further than the one of the lower side's memory, and 0 elsewhere
  few_at : (n : ℕ) → (cursor_of (first_known cursors) n ≡ 0) ⊎ ((c.lower.memory ≡ Some n) × (cursor_of (first_known cursors) n ≡ cursor))
  few_at n = by (cases_lt n (length state.memories))
    where
      at_place : n < length state.memories → (b : Bool) → is_place c.lower.memory n ≡ b → (get_or cursors n 0 ≡ 0) ⊎ ((c.lower.memory ≡ Some n) × (get_or cursors n 0 ≡ cursor))
      at_place lt true e = inr (place_is c.lower.memory n e, at.each n lt ∙ ap (λ b. cond b cursor 0) e)
      at_place lt false e = inl (at.each n lt ∙ ap (λ b. cond b cursor 0) e)

      by : (n < length state.memories) ⊎ (length state.memories ≤ n) → (get_or cursors n 0 ≡ 0) ⊎ ((c.lower.memory ≡ Some n) × (get_or cursors n 0 ≡ cursor))
      by (inl lt) = at_place lt (is_place c.lower.memory n) refl
      by (inr ge) = inl (past_none cursors n (omega (arith, ge, at.count)))

  pub first_is : IsFirstKnown c s values (first_known cursors)
  first_is = record {
    live = refl;
    returned = refl;
    transfers = refl;
    others = λ n x e other. by n x e other (few_at n);
    lower = λ n e. few n (few_at n);
  }
    where
      by : (n x : ℕ) → slice_get cursors n ≡ Some x → (c.lower.memory ≡ Some n → ⊥) → (get_or cursors n 0 ≡ 0) ⊎ ((c.lower.memory ≡ Some n) × (get_or cursors n 0 ≡ cursor)) → x ≡ 0
      by n x e other (inl z) =
          let both : Some x ≡ Some (get_or cursors n 0) = sym e ∙ slice_get-get_or cursors n 0 (slice_get_within cursors n x e) in
          let same : x ≡ get_or cursors n 0 = cc in
          same ∙ z
      by n x e other (inr z) = absurd (other z.0)

      few : (n : ℕ) → (get_or cursors n 0 ≡ 0) ⊎ ((c.lower.memory ≡ Some n) × (get_or cursors n 0 ≡ cursor)) → get_or cursors n 0 ≤ room s.lower_params s.lift_params values + area_room c s
      few n (inl z) = omega (arith, z)
      few n (inr z) = let le = begun.few in omega (arith, z.1, le)

  inside_at : (n : ℕ) → cursor_of (first_known cursors) n ≤ get_or (lengths_of state) n 0
  inside_at n = by (few_at n)
    where
      by : (get_or cursors n 0 ≡ 0) ⊎ ((c.lower.memory ≡ Some n) × (get_or cursors n 0 ≡ cursor)) → get_or cursors n 0 ≤ get_or (lengths_of state) n 0
      by (inl z) = omega (arith, z)
      by (inr z) =
          let le = begun.inside in
          let long : length (side_bytes c.lower state) ≡ length (memory_at state n) = ap (λ o. length (bytes_of_memory o state)) z.0 in
          omega (arith, z.1, le, long, lengths_at state.memories n)

  named_there : (n : ℕ) → IsNamedMemory c n → n < length state.memories
  named_there n (inl e) = let kind = callable.lift_means.memory n e in let there = memory_there m.imports n _ kind.1 in omega (arith, there, begun_count m c before state first begun.differs)
  named_there n (inr e) = let kind = callable.lower_means.memory n e in let there = memory_there m.imports n _ kind.1 in omega (arith, there, begun_count m c before state first begun.differs)

  -- the return area is behind the other cursor, or behind the memory
  module _ (p : ImportPlaces) (a : LinkedAdapter) (names : ℕ → Import) (d : Describes m t c p a names) where
    abbrev IsOut : ℕ → Region → Type 0
    IsOut n r = (r.at + r.size ≤ cursor_of (first_known cursors) n) ⊎ (get_or (lengths_of state) n 0 ≤ r.at)

    abbrev area : Region
    area = record { at = last_bits args; size = (entry_extent (options_of a.lower) (tuple_members a.lower.results)).size; align = (entry_extent (options_of a.lower) (tuple_members a.lower.results)).align }

    same_results : a.lower.results ≡ s.lower_results
    same_results = same_shapes t c.lower.results a.lower.results s.lower_results d.lower.results callable.shapes.lower_results

    flats_are : flat_results a.lower ≡ flat_values c.lower.abi.memory64 1 s.lower_results
    flats_are =
        ap (λ b. lowered_flats b (is_wide a.lower.memory) a.lower.results) d.lower.is_sync
        ∙ ap (λ b. flat_values b 1 a.lower.results) d.lower.memory64
        ∙ ap (flat_values c.lower.abi.memory64 1) same_results

    size_is : area.size ≡ (extent_on c.lower.abi (tuple_of s.lower_results)).size
    size_is =
        ap (λ b. (extent (width b) (layout_of (tuple_of a.lower.results))).size) d.lower.memory64
        ∙ ap (λ ss. (extent_on c.lower.abi (tuple_of ss)).size) same_results

    abbrev areas : Option (List ValType) → List Region
    areas o = elim o [ Some flats ↦ [] | None ↦ area ∷ [] ]

    abbrev Kept : Option (List FlatType) → Type 0
    Kept o = elim o [ Some flats ↦ Unit {0} | None ↦ (last_bits args + (extent_on c.lower.abi (tuple_of s.lower_results)).size ≤ cursor) ⊎ (length (side_bytes c.lower state) ≤ last_bits args) ]

    none_flat : flat_all (width_of c.lower.abi) 1 s.lower_results ≡ None → flat_values c.lower.abi.memory64 1 s.lower_results ≡ None
    none_flat e = rw e refl

    some_flat : (fs : List FlatType) → flat_all (width_of c.lower.abi) 1 s.lower_results ≡ Some fs → (vs : List ValType) × (flat_values c.lower.abi.memory64 1 s.lower_results ≡ Some vs)
    some_flat fs e = rw e (map value_type fs, refl)

    area_at : (n : ℕ) → c.lower.memory ≡ Some n → AllByRecursion (IsOut n) (return_area a args)
    area_at n e = by (flat_all (width_of c.lower.abi) 1 s.lower_results) refl begun.kept
      where
        here : cursor_of (first_known cursors) n ≡ cursor
        here =
            at.each n (named_there n (inr e))
            ∙ ap (λ o. first_cursor o cursor n) e
            ∙ ap (λ b. cond b cursor 0) (eq-eqb n n refl)

        out : (last_bits args + (extent_on c.lower.abi (tuple_of s.lower_results)).size ≤ cursor) ⊎ (length (side_bytes c.lower state) ≤ last_bits args) → IsOut n area
        out (inl le) = inl (omega (arith, le, here, size_is))
        out (inr le) =
            let long : length (side_bytes c.lower state) ≡ length (memory_at state n) = ap (λ o. length (bytes_of_memory o state)) e in
            inr (omega (arith, le, long, lengths_at state.memories n))

        by : (o : Option (List FlatType)) → flat_all (width_of c.lower.abi) 1 s.lower_results ≡ o → Kept (flat_all (width_of c.lower.abi) 1 s.lower_results) → AllByRecursion (IsOut n) (return_area a args)
        by None q kept = subst (λ o. AllByRecursion (IsOut n) (areas o)) (sym (flats_are ∙ none_flat q)) (out (subst Kept q kept), tt)
        by (Some fs) q kept = subst (λ o. AllByRecursion (IsOut n) (areas o)) (sym (flats_are ∙ (some_flat fs q).1)) tt

    pub begins_at : BeginsHosting c a args (lengths_of state) (first_known cursors)
    begins_at = record {
      live = refl;
      returned = refl;
      area = area_at;
      inside = inside_at;
      cursors = λ n e. let lt = named_there n e in omega (arith, lt, at.count);
      memories = λ n e. let lt = named_there n e in omega (arith, lt, lengths_many state.memories);
    }

  -- ---- the outcome

  module _ (told : Told) (o : HostOutcome) (is_run : o.outcome ≡ run_of m c.func args state (answers_of o.outcome.log) steps_given) (lacks_none : o.outcome.end ≢ Lacks) (came : CameOf m t c s cursors told o.outcome.log o.params)
      (results : o.results ≡ results_reached c s args o.outcome.end o.outcome.state) (typed : All (λ e. TypedAnswer m e.func e.before e.answer) o.outcome.log) where
    abbrev host : Hosted
    host = record { types = t; call = c; roles = came.roles; begun = cursors }

    pub ruled : AreAnswers (HasRole m c) c s told.answered (first_known cursors) o.outcome.log
    ruled = rules_of m c s came.roles came.have told.answered (first_known cursors) came.known o.outcome.log (ruled_by host s told o.outcome.log came.known o.params came.known.returned came.running)

    stands : All (AnswerStands c s told.answered) o.outcome.log
    stands = stands_by host s told o.outcome.log came.known o.params came.known.returned came.running

    see_lengths : SeeLengths (lengths_of state) o.outcome.log
    see_lengths = subst (SeeLengths (lengths_of state)) (sym (ap (λ z. z.log) is_run)) (lengths_stay m c.func args state (answers_of o.outcome.log) steps_given)

    last_traps : TrapIsLast o.outcome.log
    last_traps = subst TrapIsLast (sym (ap (λ z. z.log) is_run)) (traps_are_last m c.func args state (answers_of o.outcome.log) steps_given)

    pub outcome_of : IsOutcomeOf m t c s values told.answered told.given o
    outcome_of = record {
      first = state;
      args = args;
      is_run = is_run;
      lacks_none = lacks_none;
      known = first_known cursors;
      known_first = first_is;
      known_cursors = at.count;
      ruled = ruled;
      state_typed = begun_typed m c before state callable.adapter first begun.differs begun.same_length;
      args_typed = begun.typed;
      answers_typed = typed;
      flags = begun_flags m c before state callable.adapter first begun.differs;
      lower_memory = begun_lower m c before state first callable.lower_means begun.differs begun.same_length;
      lift_memory = begun_lift m c before state first callable.lift_means begun.differs begun.same_length;
      other_memories = begun_others m c before state first begun.differs;
      area = begun.area;
      begins = begins_at;
      honest = λ p a names d.
          law m t c p a names s args (lengths_of state) told.answered (first_known cursors) o.outcome.log d callable.once (begins_at p a names d) ruled see_lengths last_traps;
      stored = begun.stored;
      answer_lifts = All-weaker (AnswerStands c s told.answered) (AnswerLifts c s told.answered) (λ e h. h.0) o.outcome.log stands;
      stored_forms = begun.forms;
      answered_forms = All-weaker (AnswerStands c s told.answered) _ (λ e h. h.1) o.outcome.log stands;
      params = reached_by host s told o.outcome.log came.known o.params came.known.returned came.running;
      results = results;
      given_is = given_by host s told o.outcome.log came.known o.params came.known.returned came.running;
      unasked = unasked_by host s told o.outcome.log came.known o.params came.known.returned came.running;
    }

-- ---- the answers

pub bits_of_typed : (vs : List CoreValue) (ts : List ValType) → AllZip (λ v ty. IsValue v ty) vs ts → AreBits vs
bits_of_typed [] [] h = tt
bits_of_typed [] (t ∷ ts) h = absurd h
bits_of_typed (v ∷ vs) [] h = absurd h
bits_of_typed (v ∷ vs) (t ∷ ts) h = (h.0.1, bits_of_typed vs ts h.1)

-- All that the host answers is typed.
pub typed_log : (m : WasmModule) (t : Tables) (c : HostCall) (s : CallShapes) (values : List Value) (before state : MachineState) (args : List CoreValue) (cursor : ℕ) (cursors : List ℕ)
    → AnswersAreTyped → RunsSeeTyped → HasTypedConstants m → IsCallable m t c s → IsFirstState c m.imports before → IsBegun c s values before state args cursor
    → (told : Told) (o : Outcome) (params : Option (List Value)) → o ≡ run_of m c.func args state (answers_of o.log) steps_given → CameOf m t c s cursors told o.log params → All (λ e. TypedAnswer m e.func e.before e.answer) o.log
typed_log m t c s values before state args cursor cursors answers seen constants callable first begun told o params is_run came =
    answers m c s told.answered (first_known cursors) o.log callable.adapter callable.types callable.lower_means callable.lift_means
    (rules_of m c s came.roles came.have told.answered (first_known cursors) came.known o.log
    (ruled_by (record { types = t; call = c; roles = came.roles; begun = cursors }) s told o.log came.known params came.known.returned came.running))
    (subst (SeeTyped m) (sym (ap (λ z. z.log) is_run))
    (seen m c.func args state (answers_of o.log) steps_given constants (bits_of_typed args _ begun.typed) (begun_typed m c before state callable.adapter first begun.differs begun.same_length)))

-- Arguments that are suited can be stored in the first state.
pub can_begin : (m : WasmModule) (t : Tables) (c : HostCall) (s : CallShapes) (values : List Value) (before : MachineState) → IsCallable m t c s → IsFirstState c m.imports before → AreSuited s values → CanBegin c s values before
can_begin m t c s values before callable first suited = record {
  suited = suited;
  agree = callable.params_agree;
  needs = callable.needs;
  memory = λ n e. first_lower m c before first callable.lower_means n e;
}

-- Behind an outcome no error has a cause.
pub no_cause_of : (m : WasmModule) (t : Tables) (c : HostCall) (s : CallShapes) (cursors : List ℕ) (told : Told) (log : List Event) (params : Option (List Value)) (args : List Value) → AreSuited s args → CameOf m t c s cursors told log params → HasNoCause s args told.last told.answered
no_cause_of m t c s cursors told log params args suited came =
    no_cause_by (record { types = t; call = c; roles = came.roles; begun = cursors }) s told log came.known params args suited came.known.returned came.running
