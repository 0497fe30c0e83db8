-- How far cursors rise: by no more than what the requests take, in the memory that values go to, and not at all elsewhere.
use Rattle.std.proofs.Common.{◌≡◌, ◌≢◌, ℕ, zero, suc, ◌+◌, ◌<◌, ◌≤◌, ◌%◌, ◌⊎◌, inl, inr, Bool, true, false, List, [], ◌∷◌, ◌++◌, Option, Some, None, refl, sym, ap, ◌∙◌, arith, cond, map, get_or}
use Rattle.std.specs.Prelude.{◌||◌, ◌&&◌, nat_eq, nat_le, slice_set}
use Rattle.std.specs.List.{filter}
use Rattle.std.proofs.Math.Nat.{zero-mod}
use Rattle.std.proofs.lemmas.Bool.{eq-eqb, true≢false}
use Rattle.std.proofs.lemmas.List.{get_or-set_other}
use Rattle.fact_types.specs.declared.outside.CoreDef.{CoreDef}
use Rattle.fact_types.specs.declared.import.Import.{Import}
use Rattle.fact_types.specs.declared.import.Import.TheVariants as import
use Rattle.fact_types.specs.Adapters.{LinkedAdapter, same_def}
use Rattle.fact_types.specs.Layout.{aligned}
use Rattle.fact_types.specs.Tables.{Tables}
use Rattle.fact_types.proofs.AlignLaws.{aligned_bounds}
use Rattle.fact_wasm.specs.declared.module.WasmModule.{WasmModule}
use Rattle.fact_machine.specs.declared.types.CoreValue.{CoreValue}
use Rattle.fact_machine.specs.declared.types.MachineState.{MachineState}
use Rattle.fact_machine.specs.declared.types.Answer.{Answer}
use Rattle.fact_machine.specs.declared.types.Event.{Event}
use Rattle.fact_values.specs.declared.value.Value.{Value}
use Rattle.fact_actions.specs.Calls.{is_call_of_any, nth_number}
use Rattle.fact_actions.specs.Confined.{GiveUpLive, GivesUpLive, IsLiveRegion, is_beside}
use Rattle.fact_actions.specs.Honest.{AreHonest}
use Rattle.fact_actions.specs.Regions.{Region, Landing, Position, is_request, sync_moved_on}
use Rattle.fact_actions.specs.Requests.{request_of, requests_in}
use Rattle.fact_actions.specs.Running.{ImportPlaces, Call}
use Rattle.fact_lowering.specs.Room.{room}
use Rattle.fact_action_laws.specs.Rooms.{request_bytes, requests_bytes}
use Rattle.fact_host.specs.declared.calling.HostCall.{HostCall}
use Rattle.fact_host.specs.declared.known.Known.{Known}
use Rattle.fact_host.specs.declared.roles.Role.{Role}
use Rattle.fact_host.specs.Contract.{NamesEachOnce}
use Rattle.fact_host.specs.Describes.{Describes, IsImportOf, named_calls}
use Rattle.fact_host.specs.Hosts.{AreAnswersUntil}
use Rattle.fact_host.specs.Rules.{CallShapes, StoresAt, after_region, cursor_of, next_region, raised, stays}
use Rattle.fact_call_laws.proofs.Positions.{AllAligned, Answered, Holds, answered_so, answered_step, is_asked, region_returned}
use Rattle.fact_call_laws.proofs.Steps.{Did, DidNothing, DidRealloc, DidCall, ask, call_by, landing_by, lift_not_post, lower_not_post, none_of, place_of, side_to}

-- ---- requests

-- what takes a request
pub request_first : (l : Landing) (k : Call) (cs : List Call) → is_request l k ≡ true → requests_bytes (requests_in l (k ∷ cs)) ≡ request_bytes (request_of k) + requests_bytes (requests_in l cs)
request_first l k cs e = ap (λ b. requests_bytes (map request_of (cond b (k ∷ filter (is_request l) cs) (filter (is_request l) cs)))) e

pub request_none : (l : Landing) (k : Call) (cs : List Call) → is_request l k ≡ false → requests_in l (k ∷ cs) ≡ requests_in l cs
request_none l k cs e = ap (λ b. map request_of (cond b (k ∷ filter (is_request l) cs) (filter (is_request l) cs))) e

requests_more : (l : Landing) (k : Call) (cs : List Call) → requests_bytes (requests_in l cs) ≤ requests_bytes (requests_in l (k ∷ cs))
requests_more l k cs = by (is_request l k) refl
  where
    by : (b : Bool) → is_request l k ≡ b → requests_bytes (requests_in l cs) ≤ requests_bytes (requests_in l (k ∷ cs))
    by true e = omega (arith, request_first l k cs e)
    by false e = omega (arith, ap requests_bytes (request_none l k cs e))

pub requests_on : (l : Landing) (cs ds : List Call) → requests_bytes (requests_in l (cs ++ ds)) ≡ requests_bytes (requests_in l cs) + requests_bytes (requests_in l ds)
requests_on l [] ds = omega arith
requests_on l (k ∷ cs) ds = by (requests_on l cs ds) (is_request l k) refl
  where
    by : requests_bytes (requests_in l (cs ++ ds)) ≡ requests_bytes (requests_in l cs) + requests_bytes (requests_in l ds) → (b : Bool) → is_request l k ≡ b → requests_bytes (requests_in l (k ∷ (cs ++ ds))) ≡ requests_bytes (requests_in l (k ∷ cs)) + requests_bytes (requests_in l ds)
    by more true e = omega (arith, request_first l k (cs ++ ds) e, request_first l k cs e, more)
    by more false e = omega (arith, ap requests_bytes (request_none l k (cs ++ ds) e), ap requests_bytes (request_none l k cs e), more)

-- ---- one region

-- a cursor that is set is there, or nothing is
set_most : (l : List ℕ) (n v : ℕ) → get_or l n 0 ≤ v → get_or (slice_set l n v) n 0 ≤ v
set_most [] n v h = omega arith
set_most (x ∷ l) zero v h = omega arith
set_most (x ∷ l) (suc n) v h = set_most l n v h

-- what is given up is aligned as is asked
old_aligned : (live : List Region) (place size align : ℕ) → AllAligned live → IsLiveRegion live place size align → place % align ≡ 0
old_aligned [] place size align h x = absurd x
old_aligned (r ∷ live) place size align h (inl x) = ap (λ z. z % align) (sym x.0) ∙ ap (λ z. r.at % z) (sym x.2) ∙ h.0
old_aligned (r ∷ live) place size align h (inr x) = old_aligned live place size align h.1 x

-- so a region that need not grow stays, and one that has to lies behind the cursor
pub next_fits : (k : Known) (n : ℕ) (given : List CoreValue) → (ask given).align ≢ 0 → (ask given).old.at % (ask given).align ≡ 0 → stays (ask given) ≡ false
    → (cursor_of k n ≤ next_region k n (ask given)) × (next_region k n (ask given) + (ask given).size ≤ cursor_of k n + request_bytes (record { old = nth_number given 0; old_size = nth_number given 1; align = nth_number given 2; new_size = nth_number given 3 }))
next_fits k n given some aligned_old moves =
    let bounds = aligned_bounds (cursor_of k n) (nth_number given 2) (positive (nth_number given 2) some) in
    (bounds.0, by (nat_le (nth_number given 3) (nth_number given 1)) refl bounds.1)
  where
    positive : (i : ℕ) → i ≢ 0 → 0 < i
    positive zero h = absurd (h refl)
    positive (suc i) h = omega arith

    by : (b : Bool) → nat_le (nth_number given 3) (nth_number given 1) ≡ b → aligned (cursor_of k n) (nth_number given 2) < cursor_of k n + nth_number given 2
        → aligned (cursor_of k n) (nth_number given 2) + nth_number given 3 ≤ cursor_of k n + cond b 0 (nth_number given 2 + nth_number given 3)
    by true e lt = absurd (true≢false (sym (ap (λ z. z && nat_eq (nth_number given 0 % nth_number given 2) 0) e ∙ eq-eqb (nth_number given 0 % nth_number given 2) 0 aligned_old) ∙ moves))
    by false e lt = omega (arith, lt)

-- the cursor behind a region
region_cursor : (k : Known) (n : ℕ) (given : List CoreValue) → (ask given).align ≢ 0 → (ask given).old.at % (ask given).align ≡ 0
    → cursor_of (after_region k n (ask given)) n ≤ cursor_of k n + request_bytes (record { old = nth_number given 0; old_size = nth_number given 1; align = nth_number given 2; new_size = nth_number given 3 })
region_cursor k n given some aligned_old = by (stays (ask given)) refl
  where
    to : ℕ
    to = next_region k n (ask given) + (ask given).size

    by : (b : Bool) → stays (ask given) ≡ b → cursor_of (after_region k n (ask given)) n ≤ cursor_of k n + request_bytes (record { old = nth_number given 0; old_size = nth_number given 1; align = nth_number given 2; new_size = nth_number given 3 })
    by true e =
        let same : cursor_of (after_region k n (ask given)) n ≡ cursor_of k n = ap (λ z. cursor_of (cond z k (raised k n to)) n) e in
        omega (arith, same)
    by false e =
        let same : cursor_of (after_region k n (ask given)) n ≡ get_or (slice_set k.cursors n to) n 0 = ap (λ z. cursor_of (cond z k (raised k n to)) n) e in
        let fit = next_fits k n given some aligned_old e in
        omega (arith, same, set_most k.cursors n to (omega (arith, fit.0)), fit.1)

region_other : (k : Known) (n i : ℕ) (given : List CoreValue) → i ≢ n → cursor_of (after_region k n (ask given)) i ≡ cursor_of k i
region_other k n i given ne = by (stays (ask given)) refl
  where
    to : ℕ
    to = next_region k n (ask given) + (ask given).size

    by : (b : Bool) → stays (ask given) ≡ b → cursor_of (after_region k n (ask given)) i ≡ cursor_of k i
    by true e = ap (λ z. cursor_of (cond z k (raised k n to)) i) e
    by false e = ap (λ z. cursor_of (cond z k (raised k n to)) i) e ∙ get_or-set_other k.cursors n i to 0 ne

module _ (m : WasmModule) (t : Tables) (c : HostCall) (p : ImportPlaces) (a : LinkedAdapter) (names : ℕ → Import) (d : Describes m t c p a names) (once : NamesEachOnce c) (args : List CoreValue) where
  -- the realloc of a side is beside neither the callee nor post-return
  pub not_beside : (b : Bool) (f : CoreDef) (i : Import) (given : List CoreValue) (before : MachineState) (ans : Answer) → i ≡ import.CoreDef f → (landing_by b a args).to.realloc ≡ Some f → same_def a.callee f ≡ false
      → is_beside a (call_by i given before ans) ≡ false
  not_beside b f i given before ans e is_f not_callee =
      ap (λ z. is_beside a (call_by z given before ans)) e ∙ both_false (same_def a.callee f) (is_call_of_any a.lift.post_return (call_by (import.CoreDef f) given before ans)) not_callee (by b is_f)
    where
      both_false : (x y : Bool) → x ≡ false → y ≡ false → (x || y) ≡ false
      both_false true y h g = h
      both_false false y h g = g

      by : (b : Bool) → (landing_by b a args).to.realloc ≡ Some f → is_call_of_any a.lift.post_return (call_by (import.CoreDef f) given before ans) ≡ false
      by false q = none_of m t c p a names d once args a.lift.post_return c.post_return f given before ans d.post_return (λ j g. lift_not_post m t c p a names d once args (p.function (import.CoreDef f)) j (place_of m t c p a names d once args a.lift.realloc c.lift.realloc f d.lift.realloc q) g)
      by true q = none_of m t c p a names d once args a.lift.post_return c.post_return f given before ans d.post_return (λ j g. lower_not_post m t c p a names d once args (p.function (import.CoreDef f)) j (place_of m t c p a names d once args a.lower.realloc c.lower.realloc f d.lower.realloc q) g)

  -- what a request is told of, at a position that is known
  pub record Told (given : List CoreValue) : Type 0 where
    pub some : (ask given).align ≢ 0
    pub old_aligned : (ask given).old.at % (ask given).align ≡ 0

  pub told : (x : Position) (i : Import) (given : List CoreValue) (before : MachineState) (ans : Answer) → AllAligned x.live → is_request x.landing (call_by i given before ans) ≡ true → GivesUpLive x (call_by i given before ans) → Told given
  told x i given before ans al request gives =
      let g = gives request in
      record {
        some = g.0;
        old_aligned = elim g.1 [
          | inl z ↦ ap (λ y. y % nth_number given 2) z.0 ∙ zero-mod (nth_number given 2)
          | inr l ↦ old_aligned x.live (nth_number given 0) (nth_number given 1) (nth_number given 2) al l
        ];
      }

  module _ (s : CallShapes) (answered : Option (List Value)) (Named : ℕ → Role → Type 0) (is : (n : ℕ) (r : Role) → Named n r → IsImportOf p a r (names n)) where
    -- ---- whether the callee was called

    pub after_stored : (most : ℕ) (k k' : Known) (before after : MachineState) → StoresAt k k' before after most c.lift.memory → k'.returned ≡ true
    after_stored most k k' before after h = by c.lift.memory h
      where
        by : (o : Option ℕ) → StoresAt k k' before after most o → k'.returned ≡ true
        by None q = ap (λ (z : Known). z.returned) q.1
        by (Some n) q = ap (λ (z : Known). z.returned) q.3

    did_returned : (k k' : Known) (i : Import) (given results : List CoreValue) (before after : MachineState) → Did m t c p a names d once args s answered k k' i given results before after
        → (k'.returned ≡ k.returned) ⊎ ((k.returned ≡ false) × (k'.returned ≡ true))
    did_returned k k' i given results before after (DidNothing same still) = inl same.returned
    did_returned k k' i given results before after (DidRealloc r) = inl (ap (λ (z : Known). z.returned) r.known ∙ region_returned m t c p a names d once args k r.memory given)
    did_returned k k' i given results before after (DidCall values e uncalled answers core stores) = inr (uncalled, after_stored (room s.lift_results s.lower_results values) k k' before after stores.stored)

    pub returned_stays : (k last : Known) (x : Position) (log : List Event) → AreAnswersUntil Named c s answered k log last → AreHonest p a (sync_moved_on a args) x (named_calls names log) → k.returned ≡ true → last.returned ≡ true
    returned_stays k last x [] rules honest e = ap (λ (z : Known). z.returned) rules ∙ e
    returned_stays k last x (v ∷ es) rules honest e =
        let one = answered_so m t c p a names d once args s answered Named is k rules.2 v rules.0 rules.1 rules.3 honest.0 in
        returned_stays rules.2 last (sync_moved_on a args (call_by (names v.func) v.args v.before v.answer) x) es rules.4 honest.2
        (elim (did_returned k rules.2 (names v.func) v.args one.results v.before one.after one.did) [ inl same ↦ same ∙ e | inr now ↦ now.1 ])

    -- the phase behind a call, where it is that of the end
    phase_behind : (b : Bool) (k k' last : Known) (x : Position) (v : Event) (es : List Event) → Answered m t c p a names d once args s answered k k' v → AreAnswersUntil Named c s answered k' es last → AreHonest p a (sync_moved_on a args) x (named_calls names es)
        → k.returned ≡ b → last.returned ≡ b → k'.returned ≡ b
    phase_behind b k k' last x v es one rules honest e f = elim (did_returned k k' (names v.func) v.args one.results v.before one.after one.did) [
      | inl same ↦ same ∙ e
      | inr now ↦ now.1 ∙ sym (returned_stays k' last x es rules honest now.1) ∙ f
    ]

    -- ---- cursors

    -- of the memory that values go to
    did_rises : (b : Bool) (n : ℕ) (k k' : Known) (x : Position) (v : Event) → (side_to b c).memory ≡ Some n → Holds m t c p a names d once args k x → k.returned ≡ b → k'.returned ≡ b
        → (one : Answered m t c p a names d once args s answered k k' v) → (is_beside a (call_by (names v.func) v.args v.before v.answer) ≡ false → GivesUpLive x (call_by (names v.func) v.args v.before v.answer))
        → (cs : List Call) → cursor_of k' n + requests_bytes (requests_in (landing_by b a args) cs) ≤ cursor_of k n + requests_bytes (requests_in (landing_by b a args) (call_by (names v.func) v.args v.before v.answer ∷ cs))
    did_rises b n k k' x v here holds e e' one gives cs = by one.did
      where
        call : Call
        call = call_by (names v.func) v.args v.before v.answer

        by : Did m t c p a names d once args s answered k k' (names v.func) v.args one.results v.before one.after
            → cursor_of k' n + requests_bytes (requests_in (landing_by b a args) cs) ≤ cursor_of k n + requests_bytes (requests_in (landing_by b a args) (call_by (names v.func) v.args v.before v.answer ∷ cs))
        by (DidNothing same still) = omega (arith, ap (λ l. get_or l n 0) same.cursors, requests_more (landing_by b a args) (call_by (names v.func) v.args v.before v.answer) cs)
        by (DidCall values w uncalled answers core stores) = absurd (true≢false (sym (after_stored (room s.lift_results s.lower_results values) k k' v.before one.after stores.stored) ∙ e' ∙ sym e ∙ uncalled))
        by (DidRealloc r) =
            let phase : r.phase ≡ b = sym r.phase_is ∙ e in
            let request : is_request x.landing (call_by (names v.func) v.args v.before v.answer) ≡ true = is_asked m t c p a names d once args s answered k k' x (names v.func) v.args one.results v.before v.answer holds r in
            let of_phase : is_request (landing_by b a args) (call_by (names v.func) v.args v.before v.answer) ≡ true = ap (λ l. is_request l (call_by (names v.func) v.args v.before v.answer)) (sym (holds.landing ∙ ap (λ z. landing_by z a args) e)) ∙ request in
            let knows = told x (names v.func) v.args v.before v.answer holds.aligned request (gives (not_beside r.phase r.realloc (names v.func) v.args v.before v.answer r.what r.own r.not_callee)) in
            let same_memory : Some r.memory ≡ Some n = sym r.memory_is ∙ ap (λ z. (side_to z c).memory) phase ∙ here in
            let is_n : r.memory ≡ n = cc in
            let cursor : cursor_of k' n ≡ cursor_of (after_region k n (ask v.args)) n = ap (λ (z : Known). cursor_of z n) (r.known ∙ ap (λ z. after_region k z (ask v.args)) is_n) in
            omega (arith, cursor, region_cursor k n v.args knows.some knows.old_aligned, request_first (landing_by b a args) (call_by (names v.func) v.args v.before v.answer) cs of_phase)

    pub rises : (b : Bool) (n : ℕ) (k last : Known) (x : Position) (log : List Event) → (side_to b c).memory ≡ Some n → AreAnswersUntil Named c s answered k log last → AreHonest p a (sync_moved_on a args) x (named_calls names log)
        → GiveUpLive a (sync_moved_on a args) x (named_calls names log) → Holds m t c p a names d once args k x → k.returned ≡ b → last.returned ≡ b
        → cursor_of last n ≤ cursor_of k n + requests_bytes (requests_in (landing_by b a args) (named_calls names log))
    rises b n k last x [] here rules honest gives holds e f = omega (arith, ap (λ (z : Known). cursor_of z n) rules)
    rises b n k last x (v ∷ es) here rules honest gives holds e f =
        let one = answered_so m t c p a names d once args s answered Named is k rules.2 v rules.0 rules.1 rules.3 honest.0 in
        let y = sync_moved_on a args (call_by (names v.func) v.args v.before v.answer) x in
        let e' = phase_behind b k rules.2 last y v es one rules.4 honest.2 e f in
        let more = rises b n rules.2 last y es here rules.4 honest.2 gives.1 (answered_step m t c p a names d once args s answered k rules.2 x v one holds honest.1) e' f in
        omega (arith, more, did_rises b n k rules.2 x v here holds e e' one gives.0 (named_calls names es))

    -- of any other, before the callee is called
    did_keeps : (n : ℕ) (k k' : Known) (v : Event) → (c.lift.memory ≡ Some n → ⊥) → k.returned ≡ false → k'.returned ≡ false → Answered m t c p a names d once args s answered k k' v → cursor_of k' n ≡ cursor_of k n
    did_keeps n k k' v other e e' one = by one.did
      where
        by : Did m t c p a names d once args s answered k k' (names v.func) v.args one.results v.before one.after → cursor_of k' n ≡ cursor_of k n
        by (DidNothing same still) = ap (λ l. get_or l n 0) same.cursors
        by (DidCall values w uncalled answers core stores) = absurd (true≢false (sym (after_stored (room s.lift_results s.lower_results values) k k' v.before one.after stores.stored) ∙ e'))
        by (DidRealloc r) =
            let phase : r.phase ≡ false = sym r.phase_is ∙ e in
            let in_lift : c.lift.memory ≡ Some r.memory = sym (ap (λ z. (side_to z c).memory) phase) ∙ r.memory_is in
            ap (λ (z : Known). cursor_of z n) r.known ∙ region_other k r.memory n v.args (λ q. other (in_lift ∙ ap Some (sym q)))

    pub keeps : (n : ℕ) (k last : Known) (x : Position) (log : List Event) → (c.lift.memory ≡ Some n → ⊥) → AreAnswersUntil Named c s answered k log last → AreHonest p a (sync_moved_on a args) x (named_calls names log)
        → k.returned ≡ false → last.returned ≡ false → cursor_of last n ≡ cursor_of k n
    keeps n k last x [] other rules honest e f = ap (λ (z : Known). cursor_of z n) rules
    keeps n k last x (v ∷ es) other rules honest e f =
        let one = answered_so m t c p a names d once args s answered Named is k rules.2 v rules.0 rules.1 rules.3 honest.0 in
        let y = sync_moved_on a args (call_by (names v.func) v.args v.before v.answer) x in
        let e' = phase_behind false k rules.2 last y v es one rules.4 honest.2 e f in
        keeps n rules.2 last y es other rules.4 honest.2 e' f ∙ did_keeps n k rules.2 v other e e' one

    -- and when it answers
    pub call_keeps : (most n : ℕ) (k k' : Known) (before after : MachineState) → (c.lift.memory ≡ Some n → ⊥) → StoresAt k k' before after most c.lift.memory → cursor_of k' n ≡ cursor_of k n
    call_keeps most n k k' before after other h = by c.lift.memory other h
      where
        by : (o : Option ℕ) → (o ≡ Some n → ⊥) → StoresAt k k' before after most o → cursor_of k' n ≡ cursor_of k n
        by None other q = ap (λ (z : Known). cursor_of z n) q.1
        by (Some i) other q = ap (λ (z : Known). cursor_of z n) q.3 ∙ get_or-set_other k.cursors i n q.1 0 (λ z. other (ap Some (sym z)))
