-- What a call that returned makes of what a host knows, and of how far the transfer has come: nothing, a region, or a new transfer.
use Rattle.std.proofs.Common.{◌≡◌, ◌≢◌, ℕ, ◌+◌, ◌≤◌, inl, inr, Bool, true, false, List, [], ◌∷◌, ◌++◌, Option, Some, None, refl, sym, ap, ◌∙◌, subst, cond, length}
use Rattle.std.specs.Prelude.{◌||◌, nat_eq, option_map}
use Rattle.std.specs.List.{list_any}
use Rattle.std.proofs.lemmas.Bool.{eqb-true, eq-eqb, true≢false, cases_lt}
use Rattle.std.proofs.lemmas.Slice.Eq.{bytes_eq-Decides}
use Rattle.std.specs.Cmp.{first_so, second_so}
use Rattle.fact_types.specs.declared.outside.CoreDef.{CoreDef}
use Rattle.fact_types.specs.declared.outside.CoreDef.TheVariants as def
use Rattle.fact_types.specs.declared.outside.UnsafeIntrinsic.TheVariants as slot
use Rattle.fact_types.specs.declared.import.Import.{Import}
use Rattle.fact_types.specs.declared.import.Import.TheVariants as import
use Rattle.fact_types.specs.Adapters.{LinkedAdapter, same_def}
use Rattle.fact_types.specs.Exact.{exact_key}
use Rattle.fact_types.specs.Signatures.{sync_lift}
use Rattle.fact_types.specs.Tables.{Tables}
use Rattle.fact_wasm.specs.declared.module.WasmModule.{WasmModule}
use Rattle.fact_machine.specs.declared.types.CoreValue.{CoreValue}
use Rattle.fact_machine.specs.declared.types.MachineState.{MachineState}
use Rattle.fact_machine.specs.declared.types.Answer.{Answer}
use Rattle.fact_machine.specs.declared.types.Answer.TheVariants.{Returns, Traps}
use Rattle.fact_machine.specs.declared.types.Event.{Event}
use Rattle.fact_machine.specs.Typing.{address_operand}
use Rattle.fact_values.specs.declared.value.Value.{Value}
use Rattle.fact_actions.specs.Calls.{is_import_of, is_call_of_any, nth_number}
use Rattle.fact_actions.specs.Regions.{Landing, Position, given_region, given_up, is_request, landed, moved_on, params_landing, results_landing, sync_moved_on, without}
use Rattle.fact_actions.specs.Running.{ImportPlaces, Call}
use Rattle.fact_host.specs.declared.calling.HostCall.{HostCall}
use Rattle.fact_host.specs.declared.calling.HostSide.{HostSide}
use Rattle.fact_host.specs.declared.known.Known.{Known}
use Rattle.fact_host.specs.declared.roles.Role.{Role}
use Rattle.fact_host.specs.declared.roles.Role.TheVariants as role
use Rattle.fact_host.specs.Contract.{AreDistinctPlaces, NamesEachOnce, if_named}
use Rattle.fact_host.specs.Describes.{Describes, IsImportOf}
use Rattle.fact_host.specs.Rules.{Again, Answers, AreOfCoreTypes, AskedRegion, CallShapes, MustRefuse, NoAlignment, NoRoom, NotLive, OtherTransfer, ReallocsAt, StoresResults, after_region, given_at, is_old_live, memory_at, next_region, stays}

-- ---- small laws

pub or_right : (u v : Bool) → (u || v) ≡ false → v ≡ false
or_right true v h = absurd (true≢false h)
or_right false v h = h

pub or_left : (u v : Bool) → (u || v) ≡ false → u ≡ false
or_left true v h = absurd (true≢false h)
or_left false v h = refl

pub bool_by : (b : Bool) → (b ≡ true → ⊥) → b ≡ false
bool_by true h = absurd (h refl)
bool_by false h = refl

pub bool_is : (b : Bool) → (b ≡ false → ⊥) → b ≡ true
bool_is true h = refl
bool_is false h = absurd (h refl)

pub not_traps : (rs : List CoreValue) (st : MachineState) → Returns rs st ≡ Traps → ⊥
not_traps rs st q = cc

-- core definitions that are equal by content
pub same_exact : (a b : CoreDef) → same_def a b ≡ true → a ≡ b
same_exact (def.Export i x) (def.Export j y) h =
    let e1 = eqb-true i.number j.number (first_so _ _ h) in
    let e2 = (bytes_eq-Decides x y).0 (second_so _ _ h) in
    λ k. def.Export (record { number = e1 k; table = i.table }) (e2 k)
same_exact (def.InstanceFlags i) (def.InstanceFlags j) h = ap def.InstanceFlags (exact_key i j h)
same_exact (def.Trampoline i) (def.Trampoline j) h = ap def.Trampoline (exact_key i j h)
same_exact a b h = absurd (true≢false (sym h))

-- ---- calls

abbrev pub call_by : Import → List CoreValue → MachineState → Answer → Call
call_by i args before answer = record { what = i; args = args; before = before; answer = answer }

abbrev pub event_of : ℕ → List CoreValue → MachineState → Answer → Event
event_of func args before answer = record { func = func; args = args; before = before; answer = answer }

-- what a call of realloc asks for
abbrev pub ask : List CoreValue → AskedRegion
ask given = record { old = record { at = nth_number given 0; size = nth_number given 1 }; align = nth_number given 2; size = nth_number given 3 }

abbrev pub landing_by : Bool → LinkedAdapter → List CoreValue → Landing
landing_by false a args = params_landing a
landing_by true a args = results_landing a args

-- the side that values go to
abbrev pub side_to : Bool → HostCall → HostSide
side_to false c = c.lift
side_to true c = c.lower

-- what is known is the same, but for the number of handles
pub record IsSame (k k' : Known) : Type 0 where
  pub cursors : k'.cursors ≡ k.cursors
  pub live : k'.live ≡ k.live
  pub returned : k'.returned ≡ k.returned

pub same_known : (k k' : Known) → k' ≡ k → IsSame k k'
same_known k k' e = record { cursors = ap (λ (z : Known). z.cursors) e; live = ap (λ (z : Known). z.live) e; returned = ap (λ (z : Known). z.returned) e }

module _ (m : WasmModule) (t : Tables) (c : HostCall) (p : ImportPlaces) (a : LinkedAdapter) (names : ℕ → Import) (d : Describes m t c p a names) (once : NamesEachOnce c) (args : List CoreValue) where
  -- A call of the realloc of the side that values go to.
  pub record Reallocs (k k' : Known) (i : Import) (given results : List CoreValue) (before : MachineState) : Type 0 where
    pub phase : Bool
    pub phase_is : k.returned ≡ phase
    pub memory : ℕ
    pub memory_is : (side_to phase c).memory ≡ Some memory
    pub realloc : CoreDef
    pub what : i ≡ import.CoreDef realloc
    pub own : (landing_by phase a args).to.realloc ≡ Some realloc
    pub not_callee : same_def a.callee realloc ≡ false
    pub aligns : (ask given).align ≢ 0
    pub old_live : is_old_live k (ask given) ≡ true
    pub room : stays (ask given) ≡ false → next_region k memory (ask given) + (ask given).size ≤ length (memory_at before memory)
    pub known : k' ≡ after_region k memory (ask given)
    pub at_is : results ≡ address_operand (side_to phase c).abi.memory64 (given_at k memory (ask given)) ∷ []

  -- What a call that returned did.
  pub data Did (s : CallShapes) (answered : Option (List Value)) (k k' : Known) (i : Import) (given results : List CoreValue) (before after : MachineState) : Type 0 where
    DidNothing : IsSame k k' → ((x : Position) → x.landing ≡ landing_by k.returned a args → sync_moved_on a args (call_by i given before (Returns results after)) x ≡ x)
        → Did s answered k k' i given results before after
    DidRealloc : Reallocs k k' i given results before → Did s answered k k' i given results before after
    DidCall : (values : List Value) → i ≡ import.CoreDef a.callee → k.returned ≡ false → answered ≡ Some values → AreOfCoreTypes (sync_lift c.lift.abi.memory64 s.lift_params s.lift_results).results results
        → StoresResults k c s.lift_results s.lower_results values before after results k' → Did s answered k k' i given results before after

  -- ---- calls of no core function

  pub stays_at : (i : Import) (given : List CoreValue) (before : MachineState) (ans : Answer) (x : Position) → ((f : CoreDef) → is_import_of f i ≡ false) → sync_moved_on a args (call_by i given before ans) x ≡ x
  stays_at i given before ans x none =
      ap (λ z. cond z (landed (results_landing a args)) (moved_on (call_by i given before ans) x)) (none a.callee)
      ∙ ap (λ z. cond z (record x { live = given_region (call_by i given before ans) ∷ without (given_up (call_by i given before ans)) x.live }) x) (no_request x.landing.to.realloc)
    where
      no_request : (o : Option CoreDef) → is_call_of_any o (call_by i given before ans) ≡ false
      no_request None = refl
      no_request (Some f) = none f

  quiet : (s : CallShapes) (answered : Option (List Value)) (k k' : Known) (i j : Import) (given results : List CoreValue) (before after : MachineState) → i ≡ j → ((f : CoreDef) → is_import_of f j ≡ false) → IsSame k k' → Did s answered k k' i given results before after
  quiet s answered k k' i j given results before after e none same = DidNothing same (λ x at. stays_at i given before (Returns results after) x (subst (λ z. (f : CoreDef) → is_import_of f z ≡ false) (sym e) none))

  transfer_quiet : (s : CallShapes) (answered : Option (List Value)) (k k' : Known) (i : Import) (given results : List CoreValue) (before after : MachineState) → IsImportOf p a role.Transfer i → IsSame k k' → Did s answered k k' i given results before after
  transfer_quiet s answered k k' i given results before after (inl e) same = quiet s answered k k' i import.ResourceTransferOwn given results before after e (λ f. refl) same
  transfer_quiet s answered k k' i given results before after (inr (inl e)) same = quiet s answered k k' i import.ResourceTransferBorrow given results before after e (λ f. refl) same
  transfer_quiet s answered k k' i given results before after (inr (inr (inl e))) same = quiet s answered k k' i import.FutureTransfer given results before after e (λ f. refl) same
  transfer_quiet s answered k k' i given results before after (inr (inr (inr (inl e)))) same = quiet s answered k k' i import.StreamTransfer given results before after e (λ f. refl) same
  transfer_quiet s answered k k' i given results before after (inr (inr (inr (inr e)))) same = quiet s answered k k' i import.ErrorContextTransfer given results before after e (λ f. refl) same

  slot_quiet : (s : CallShapes) (answered : Option (List Value)) (k k' : Known) (i : Import) (given results : List CoreValue) (before after : MachineState) → IsImportOf p a role.Slot i → IsSame k k' → Did s answered k k' i given results before after
  slot_quiet s answered k k' i given results before after (inl e) same = quiet s answered k k' i (import.UnsafeIntrinsic slot.ContextGetI32_0) given results before after e (λ f. refl) same
  slot_quiet s answered k k' i given results before after (inr e) same = quiet s answered k k' i (import.UnsafeIntrinsic slot.ContextGetI32_1) given results before after e (λ f. refl) same

  told_quiet : (s : CallShapes) (answered : Option (List Value)) (k k' : Known) (i : Import) (given results : List CoreValue) (before after : MachineState) → IsImportOf p a role.Told i → IsSame k k' → Did s answered k k' i given results before after
  told_quiet s answered k k' i given results before after (inl e) same = quiet s answered k k' i (import.UnsafeIntrinsic slot.ContextSetI32_0) given results before after e (λ f. refl) same
  told_quiet s answered k k' i given results before after (inr (inl e)) same = quiet s answered k k' i (import.UnsafeIntrinsic slot.ContextSetI32_1) given results before after e (λ f. refl) same
  told_quiet s answered k k' i given results before after (inr (inr (inl e))) same = quiet s answered k k' i import.EnterSyncCall given results before after e (λ f. refl) same
  told_quiet s answered k k' i given results before after (inr (inr (inr e))) same = quiet s answered k k' i import.ExitSyncCall given results before after e (λ f. refl) same

  -- ---- core functions that are none of each other

  function_of : (f g : CoreDef) → same_def f g ≡ true → p.function (import.CoreDef f) ≡ p.function (import.CoreDef g)
  function_of f g h = ap (λ z. p.function (import.CoreDef z)) (same_exact f g h)

  -- two that stand at different places are not the same
  pub apart_by_place : (f g : CoreDef) → p.function (import.CoreDef f) ≢ p.function (import.CoreDef g) → same_def f g ≡ false
  apart_by_place f g h = bool_by (same_def f g) (λ e. h (function_of f g e))

  pub place_of : (o : Option CoreDef) (k : Option ℕ) (f : CoreDef) → option_map (λ z. p.function (import.CoreDef z)) o ≡ k → o ≡ Some f → k ≡ Some (p.function (import.CoreDef f))
  place_of o k f e g = sym e ∙ ap (option_map (λ z. p.function (import.CoreDef z))) g

  -- a core function of a place is none of an option at another
  pub none_of : (o : Option CoreDef) (k : Option ℕ) (f : CoreDef) (given : List CoreValue) (before : MachineState) (ans : Answer)
      → option_map (λ z. p.function (import.CoreDef z)) o ≡ k → ((j : ℕ) → k ≡ Some j → p.function (import.CoreDef f) ≢ j) → is_call_of_any o (call_by (import.CoreDef f) given before ans) ≡ false
  none_of None k f given before ans e h = refl
  none_of (Some g) k f given before ans e h = apart_by_place g f (λ q. h (p.function (import.CoreDef g)) (sym e) (sym q))

  -- places of functions that a call names are different ones
  not_last : (i j : ℕ) (o : Option ℕ) → o ≡ Some j → list_any (nat_eq i) (if_named o) ≡ false → i ≢ j
  not_last i j None e h = absurd cc
  not_last i j (Some u) e h = λ g.
      let same : i ≡ u = cc in
      absurd (true≢false (sym (eq-eqb i u same) ∙ or_left (nat_eq i u) false h))

  not_behind : (i j : ℕ) (o u : Option ℕ) → u ≡ Some j → list_any (nat_eq i) (if_named o ++ if_named u) ≡ false → i ≢ j
  not_behind i j None u e h = not_last i j u e h
  not_behind i j (Some v) u e h = not_last i j u e (or_right (nat_eq i v) (list_any (nat_eq i) (if_named u)) h)

  not_first : (i j : ℕ) (o u : Option ℕ) → o ≡ Some j → list_any (nat_eq i) (if_named o ++ if_named u) ≡ false → i ≢ j
  not_first i j None u e h = absurd cc
  not_first i j (Some v) u e h = λ g.
      let same : i ≡ v = cc in
      absurd (true≢false (sym (eq-eqb i v same) ∙ or_left (nat_eq i v) (list_any (nat_eq i) (if_named u)) h))

  pub lower_not_post : (i j : ℕ) → c.lower.realloc ≡ Some i → c.post_return ≡ Some j → i ≢ j
  lower_not_post i j e g = by c.lift.realloc c.lower.realloc c.post_return e g (once.functions.1)
    where
      by : (o u v : Option ℕ) → u ≡ Some i → v ≡ Some j → AreDistinctPlaces (if_named o ++ (if_named u ++ if_named v)) → i ≢ j
      by None None v e g h = absurd cc
      by None (Some l) v e g h = let same : l ≡ i = cc in λ q. not_last l j v g h.0 (same ∙ q)
      by (Some o) None v e g h = absurd cc
      by (Some o) (Some l) v e g h = let same : l ≡ i = cc in λ q. not_last l j v g h.1.0 (same ∙ q)

  pub lift_not_post : (i j : ℕ) → c.lift.realloc ≡ Some i → c.post_return ≡ Some j → i ≢ j
  lift_not_post i j e g = by c.lift.realloc c.lower.realloc c.post_return e g (once.functions.1)
    where
      by : (o u v : Option ℕ) → o ≡ Some i → v ≡ Some j → AreDistinctPlaces (if_named o ++ (if_named u ++ if_named v)) → i ≢ j
      by None u v e g h = absurd cc
      by (Some l) u v e g h = let same : l ≡ i = cc in λ q. not_behind l j u v g h.0 (same ∙ q)

  pub lift_not_lower : (i j : ℕ) → c.lift.realloc ≡ Some i → c.lower.realloc ≡ Some j → i ≢ j
  lift_not_lower i j e g = by c.lift.realloc c.lower.realloc c.post_return e g (once.functions.1)
    where
      by : (o u v : Option ℕ) → o ≡ Some i → u ≡ Some j → AreDistinctPlaces (if_named o ++ (if_named u ++ if_named v)) → i ≢ j
      by None u v e g h = absurd cc
      by (Some l) u v e g h = let same : l ≡ i = cc in λ q. not_first l j u v g h.0 (same ∙ q)

  -- the two sides have different memories
  pub distinct : (n : ℕ) → c.lift.memory ≡ Some n → c.lower.memory ≡ Some n → ⊥
  distinct n e g = by c.lift.memory c.lower.memory e g once.memories
    where
      by : (o u : Option ℕ) → o ≡ Some n → u ≡ Some n → AreDistinctPlaces (if_named o ++ if_named u) → ⊥
      by None u e g h = absurd cc
      by (Some i) None e g h = absurd cc
      by (Some i) (Some j) e g h =
          let same : i ≡ j = cc in
          true≢false (sym (eq-eqb i j same) ∙ or_left (nat_eq i j) false h.0)

  -- ---- post-return

  post_return_quiet : (s : CallShapes) (answered : Option (List Value)) (k k' : Known) (i : Import) (given results : List CoreValue) (before after : MachineState) → IsImportOf p a role.PostReturn i → IsSame k k' → Did s answered k k' i given results before after
  post_return_quiet s answered k k' i given results before after e same = by a.lift.post_return refl e
    where
      request : (f : CoreDef) (b : Bool) → a.lift.post_return ≡ Some f → is_call_of_any (landing_by b a args).to.realloc (call_by (import.CoreDef f) given before (Returns results after)) ≡ false
      request f false e = none_of a.lift.realloc c.lift.realloc f given before (Returns results after) d.lift.realloc (λ j g q. lift_not_post j (p.function (import.CoreDef f)) g (place_of a.lift.post_return c.post_return f d.post_return e) (sym q))
      request f true e = none_of a.lower.realloc c.lower.realloc f given before (Returns results after) d.lower.realloc (λ j g q. lower_not_post j (p.function (import.CoreDef f)) g (place_of a.lift.post_return c.post_return f d.post_return e) (sym q))

      still : (f : CoreDef) → a.lift.post_return ≡ Some f → (x : Position) → x.landing ≡ landing_by k.returned a args → sync_moved_on a args (call_by (import.CoreDef f) given before (Returns results after)) x ≡ x
      still f e x at =
          let call : Call = call_by (import.CoreDef f) given before (Returns results after) in
          let none : is_request x.landing call ≡ false = ap (λ (l : Landing). is_call_of_any l.to.realloc call) at ∙ request f k.returned e in
          ap (λ z. cond z (landed (results_landing a args)) (moved_on call x)) (d.own_callee.post_return f e) ∙ ap (λ z. cond z (record x { live = given_region call ∷ without (given_up call) x.live }) x) none

      by : (o : Option CoreDef) → a.lift.post_return ≡ o → option_map (λ z. import.CoreDef z) o ≡ Some i → Did s answered k k' i given results before after
      by None q e = absurd cc
      by (Some f) q e = let is : import.CoreDef f ≡ i = cc in subst (λ j. Did s answered k k' j given results before after) is (DidNothing same (still f q))

  -- ---- realloc

  reallocs : (b dest : Bool) (f : CoreDef) (k k' : Known) (func : ℕ) (given results : List CoreValue) (before after : MachineState) (o : Option ℕ)
      → (dest ≡ true → k.returned ≡ b) → (side_to b c).memory ≡ o → (landing_by b a args).to.realloc ≡ Some f → same_def a.callee f ≡ false
      → ReallocsAt k (side_to b c) dest (event_of func given before (Returns results after)) k' o → Reallocs k k' (import.CoreDef f) given results before
  reallocs b dest f k k' func given results before after None phase here is_f own_f rule = absurd (not_traps results after rule)
  reallocs b dest f k k' func given results before after (Some n) phase here is_f own_f rule =
      let did = rule.returns results after refl in
      record {
        phase = b;
        phase_is = phase (bool_is dest (λ e. may (OtherTransfer e)));
        memory = n;
        memory_is = here;
        realloc = f;
        what = refl;
        own = is_f;
        not_callee = own_f;
        aligns = λ e. may (NoAlignment e);
        old_live = bool_is (is_old_live k (ask given)) (λ e. may (NotLive e));
        room = λ st. elim (cases_lt (length (memory_at before n)) (next_region k n (ask given) + (ask given).size)) [ inl lt ↦ absurd (may (NoRoom st lt)) | inr le ↦ le ];
        known = did.3;
        at_is = did.2;
      }
    where
      may : MustRefuse k n dest (memory_at before n) (ask given) → ⊥
      may m = not_traps results after (rule.traps.1 m)

  -- ---- each call that returned

  pub did : (s : CallShapes) (answered : Option (List Value)) (r : Role) (k k' : Known) (i : Import) (func : ℕ) (given results : List CoreValue) (before after : MachineState)
      → IsImportOf p a r i → Answers c s answered r k (event_of func given before (Returns results after)) k' → Did s answered k k' i given results before after
  did s answered role.Callee k k' i func given results before after e rule =
      let x = rule.answers.returns results after refl in
      DidCall x.0 e (bool_by k.returned (λ q. not_traps results after (rule.answers.traps.1 (Again q)))) x.1 x.2 x.3
  did s answered role.LiftRealloc k k' i func given results before after e rule = by a.lift.realloc refl e
    where
      phase : (b : Bool) → cond b false true ≡ true → b ≡ false
      phase true z = absurd (true≢false (sym z))
      phase false z = refl

      by : (o : Option CoreDef) → a.lift.realloc ≡ o → option_map (λ z. import.CoreDef z) o ≡ Some i → Did s answered k k' i given results before after
      by None q e = absurd cc
      by (Some f) q e =
          let is : import.CoreDef f ≡ i = cc in
          subst (λ z. Did s answered k k' z given results before after) is (DidRealloc (reallocs false (cond k.returned false true) f k k' func given results before after c.lift.memory (phase k.returned) refl q (d.own_callee.lift_realloc f q) rule))
  did s answered role.LowerRealloc k k' i func given results before after e rule = by a.lower.realloc refl e
    where
      by : (o : Option CoreDef) → a.lower.realloc ≡ o → option_map (λ z. import.CoreDef z) o ≡ Some i → Did s answered k k' i given results before after
      by None q e = absurd cc
      by (Some f) q e =
          let is : import.CoreDef f ≡ i = cc in
          subst (λ z. Did s answered k k' z given results before after) is (DidRealloc (reallocs true k.returned f k k' func given results before after c.lower.memory (λ z. z) refl q (d.own_callee.lower_realloc f q) rule))
  did s answered role.PostReturn k k' i func given results before after e rule = post_return_quiet s answered k k' i given results before after e (same_known k k' (rule.returns results after refl).2)
  did s answered (role.Transcoder o from from64 to to64) k k' i func given results before after e rule =
      quiet s answered k k' i (import.Transcode o e.0 from64 e.1 to64) given results before after e.2 (λ f. refl) (same_known k k' (rule.returns results after refl).5)
  did s answered role.Transfer k k' i func given results before after e rule =
      let x = (rule.returns results after refl).1 in
      transfer_quiet s answered k k' i given results before after e (record { cursors = ap (λ (z : Known). z.cursors) x.2; live = ap (λ (z : Known). z.live) x.2; returned = ap (λ (z : Known). z.returned) x.2 })
  did s answered role.Slot k k' i func given results before after e rule = slot_quiet s answered k k' i given results before after e (same_known k k' (rule.returns results after refl).2)
  did s answered role.Told k k' i func given results before after e rule = told_quiet s answered k k' i given results before after e (same_known k k' (rule.returns results after refl).2)
  did s answered role.Refused k k' i func given results before after e rule = absurd (not_traps results after rule)
