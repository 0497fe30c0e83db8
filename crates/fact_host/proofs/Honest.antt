-- What the host's rules answer is honest, whatever adapter the call is described as.
use Rattle.std.proofs.Common.{◌≡◌, ◌≢◌, ℕ, zero, suc, ◌+◌, ◌-◌, ◌<◌, ◌≤◌, ◌%◌, ◌⊎◌, inl, inr, Bool, true, false, List, [], ◌∷◌, ◌++◌, Option, Some, None, refl, sym, ap, ◌∙◌, subst, arith, length, map, take, drop, get_or}
use Rattle.std.specs.Prelude.{◌&&◌, ◌||◌, cond, min, nat_eq, option_map}
use Rattle.std.proofs.lemmas.Bool.{eqb-true, eq-eqb, leb-true, cases_lt, true≢false}
use Rattle.std.proofs.lemmas.Bool.Decides.{eqb_tells}
use Rattle.std.proofs.lemmas.List.{get_or-set_same, get_or-set_other, length-set, length-append, length-drop, get_or-take, get_or-drop, length-take-le}
use Rattle.std.proofs.lemmas.Slice.Eq.{bytes_eq-Decides}
use Rattle.std.specs.Cmp.{first_so, second_so}
use Rattle.std.specs.List.{AllByRecursion, list_any}
use Rattle.fact_wasm.specs.declared.types.ValType.{ValType}
use Rattle.fact_wasm.specs.declared.module.WasmModule.{WasmModule}
use Rattle.fact_types.specs.declared.outside.CoreDef.{CoreDef}
use Rattle.fact_types.specs.declared.outside.CoreDef.TheVariants as def
use Rattle.fact_types.specs.declared.outside.Transcode.{Transcode}
use Rattle.fact_types.specs.declared.outside.UnsafeIntrinsic.TheVariants as slot
use Rattle.fact_types.specs.declared.import.Import.{Import}
use Rattle.fact_types.specs.declared.import.Import.TheVariants as import
use Rattle.fact_types.specs.Adapters.{LinkedAdapter, same_def}
use Rattle.fact_types.specs.Exact.{exact_key}
use Rattle.fact_types.specs.Signatures.{address}
use Rattle.fact_types.specs.Tables.{Tables}
use Rattle.fact_types.proofs.AlignLaws.{aligned_bounds, aligned_multiple}
use Rattle.fact_machine.specs.declared.types.CoreValue.{CoreValue}
use Rattle.fact_machine.specs.declared.types.MachineState.{MachineState}
use Rattle.fact_machine.specs.declared.types.Answer.{Answer}
use Rattle.fact_machine.specs.declared.types.Answer.TheVariants.{Returns, Traps, Throws}
use Rattle.fact_machine.specs.declared.types.Event.{Event}
use Rattle.fact_machine.specs.Typing.{address_operand}
use Rattle.fact_machine.specs.World.{put_at}
use Rattle.fact_machine.proofs.Places.{put_below, put_within}
use Rattle.fact_values.specs.declared.value.Value.{Value}
use Rattle.fact_values.specs.Lift.{bits_of}
use Rattle.fact_actions.specs.Adapters.{flat_results}
use Rattle.fact_actions.specs.Calls.{is_import_of, is_call_of_any, nth_number, side_memory}
use Rattle.fact_actions.specs.Honest.{IsHonestBy, AreHonest, room_of}
use Rattle.fact_actions.specs.Regions.{Region, Position, Landing, landed, return_area, params_landing, results_landing, is_request, without, given_up, given_region, moved_on, sync_moved_on, IsHonestRegion}
use Rattle.fact_actions.specs.Running.{ImportPlaces, Call}
use Rattle.fact_actions.specs.Sides.{options_of}
use Rattle.fact_actions.specs.Transcoders.{IsHonestTranscoding, TranscodeKind, AllUnits, Counted, Fitting, Narrow, Tagged, Widening, transcode_kind}
use Rattle.fact_action_laws.specs.Trapped.{AreHonestUntilTrap}
use Rattle.fact_host.specs.declared.calling.HostCall.{HostCall}
use Rattle.fact_host.specs.declared.calling.HostSide.{HostSide}
use Rattle.fact_host.specs.declared.roles.Role.{Role}
use Rattle.fact_host.specs.declared.roles.Role.TheVariants as role
use Rattle.fact_host.specs.Contract.{NamesEachOnce, AreDistinctPlaces, if_named}
use Rattle.fact_host.specs.Beginning.{IsNamedMemory}
use Rattle.fact_host.specs.HonestLaws.{HasRole, AnswersAreHonest}
use Rattle.fact_host.specs.Describes.{Describes, IsImportOf, named_calls}
use Rattle.fact_host.specs.declared.known.Known.{Known}
use Rattle.fact_host.specs.Rules.{memory_at, bytes_of_memory, with_memory_at, cursor_of, raised, is_live, live_without, AskedRegion, is_old_live, stays, next_region, MustRefuse, OtherTransfer, NoAlignment, NotLive, NoRoom, given_at, moved_bytes, after_region, bytes_after_region, DestinationOutside, told_of, told_room, units_read, CallShapes, Answers, AreAnswers, ReallocsAt, StoresAt, TranscodesBy, AreOfCoreTypes}
use Rattle.fact_host.proofs.Regular.{HasLengths, AreRegular, are_regular}
use Rattle.fact_host.proofs.SideMemories.{changed_here, changed_other, length_at, side_is, there_at}
use Rattle.fact_host.proofs.LiveLaws.{kept, has, live_is_has, kept_without, AllBelow, below_rises, below_without, has_below, AllOut, out_rises, out_below, out_both, out_right, any_out, between_apart, AllApart, apart_without, given_up_apart, smaller_apart, empty_apart}

-- ---- core definitions that are equal by content

pub same_exact : (a b : CoreDef) → same_def a b ≡ true → a ≡ b
same_exact (def.Export i x) (def.Export j y) h =
    let e1 = eqb-true i.number j.number (first_so _ _ h) in
    let e2 = (bytes_eq-Decides x y).0 (second_so _ _ h) in
    λ k. def.Export (record { number = e1 k; table = i.table }) (e2 k)
same_exact (def.InstanceFlags i) (def.InstanceFlags j) h = ap def.InstanceFlags (exact_key i j h)
same_exact (def.Trampoline i) (def.Trampoline j) h = ap def.Trampoline (exact_key i j h)
same_exact a b h = absurd (true≢false (sym h))

same_itself : (a : CoreDef) → same_def a a ≡ true
same_itself (def.Export i x) = rw (eq-eqb i.number i.number refl) ((bytes_eq-Decides x x).1 refl)
same_itself (def.InstanceFlags i) = eq-eqb i.number i.number refl
same_itself (def.Trampoline i) = eq-eqb i.number i.number refl

or_right : (u v : Bool) → (u || v) ≡ false → v ≡ false
or_right true v h = absurd (true≢false h)
or_right false v h = h

or_left : (u v : Bool) → (u || v) ≡ false → u ≡ false
or_left true v h = absurd (true≢false h)
or_left false v h = refl

positive : (i : ℕ) → i ≢ 0 → 0 < i
positive zero h = absurd (h refl)
positive (suc i) h = omega arith

bool_by : (b : Bool) → (b ≡ true → ⊥) → b ≡ false
bool_by true h = absurd (h refl)
bool_by false h = refl

-- ---- calls

abbrev pub call_by : Import → ℕ → List CoreValue → MachineState → Answer → Call
call_by i func args before answer = record { what = i; args = args; before = before; answer = answer }

abbrev pub event_by : ℕ → List CoreValue → MachineState → Answer → Event
event_by func args before answer = record { func = func; args = args; before = before; answer = answer }

-- ---- what holds between calls

abbrev pub landing_by : Bool → LinkedAdapter → List CoreValue → Landing
landing_by false a args = params_landing a
landing_by true a args = results_landing a args

abbrev pub side_to : Bool → HostCall → HostSide
side_to false c = c.lift
side_to true c = c.lower

-- What the host knows is how far the transfer has come; what is in use lies below the cursor of the memory that values go to, or behind the
-- memory, as a return area for which there was no room, and apart.
pub record Keeps (c : HostCall) (a : LinkedAdapter) (args : List CoreValue) (lengths : List ℕ) (k : Known) (x : Position) : Type 0 where
  pub landing : x.landing ≡ landing_by k.returned a args
  pub live : map kept x.live ≡ k.live
  pub live_below : (n : ℕ) → (side_to k.returned c).memory ≡ Some n → AllBelow (cursor_of k n) x.live
  pub below : (n : ℕ) → (side_to k.returned c).memory ≡ Some n → AllOut (cursor_of k n) (get_or lengths n 0) (x.live ++ x.landing.area)
  pub apart : AllApart (x.live ++ x.landing.area)
  pub area : (n : ℕ) → c.lower.memory ≡ Some n → AllOut (cursor_of k n) (get_or lengths n 0) (return_area a args)
  pub inside : (n : ℕ) → cursor_of k n ≤ get_or lengths n 0
  pub cursors : (n : ℕ) → IsNamedMemory c n → n < length k.cursors
  pub memories : (n : ℕ) → IsNamedMemory c n → n < length lengths

-- ---- the answers that leave all as it is

module _ (m : WasmModule) (t : Tables) (c : HostCall) (p : ImportPlaces) (a : LinkedAdapter) (names : ℕ → Import) (d : Describes m t c p a names) (once : NamesEachOnce c) (args : List CoreValue) (lengths : List ℕ) where
  -- an honest call, behind which all is kept
  pub record Goes (i : Import) (func : ℕ) (given : List CoreValue) (before : MachineState) (results : List CoreValue) (after : MachineState) (k' : Known) (x : Position) : Type 0 where
    pub honest : IsHonestBy i p (options_of a.lower) a.lift.post_return x (call_by i func given before (Returns results after))
    pub keeps : Keeps c a args lengths k' (sync_moved_on a args (call_by i func given before (Returns results after)) x)

  -- what the host knows is the same but for the number of transfers
  keeps_same : (k k' : Known) (x : Position) → k'.cursors ≡ k.cursors → k'.live ≡ k.live → k'.returned ≡ k.returned → Keeps c a args lengths k x → Keeps c a args lengths k' x
  keeps_same k k' x e1 e2 e3 h = subst (λ j. Keeps c a args lengths j x) (λ i. record { cursors = sym e1 i; live = sym e2 i; returned = sym e3 i; transfers = k'.transfers }) (record {
    landing = h.landing;
    live = h.live;
    live_below = h.live_below;
    below = h.below;
    apart = h.apart;
    area = h.area;
    inside = h.inside;
    cursors = h.cursors;
    memories = h.memories;
  })

  -- a call of no core function: the transfer stays where it is
  stays_at : (i : Import) (func : ℕ) (given : List CoreValue) (before : MachineState) (ans : Answer) (x : Position)
      → ((f : CoreDef) → is_import_of f i ≡ false) → sync_moved_on a args (call_by i func given before ans) x ≡ x
  stays_at i func given before ans x none =
      ap (λ z. cond z (landed (results_landing a args)) (moved_on (call_by i func given before ans) x)) (none a.callee)
      ∙ ap (λ z. cond z (record x { live = given_region (call_by i func given before ans) ∷ without (given_up (call_by i func given before ans)) x.live }) x) (no_request x.landing.to.realloc)
    where
      no_request : (o : Option CoreDef) → is_call_of_any o (call_by i func given before ans) ≡ false
      no_request None = refl
      no_request (Some f) = none f

  quiet_goes : (i j : Import) (func : ℕ) (given : List CoreValue) (before after : MachineState) (results : List CoreValue) (k' : Known) (x : Position)
      → i ≡ j → ((f : CoreDef) → is_import_of f j ≡ false) → IsHonestBy j p (options_of a.lower) a.lift.post_return x (call_by j func given before (Returns results after))
      → Keeps c a args lengths k' x → Goes i func given before results after k' x
  quiet_goes i j func given before after results k' x e none honest h = subst (λ y. Goes y func given before results after k' x) (sym e) (record {
    honest = honest;
    keeps = subst (Keeps c a args lengths k') (sym (stays_at j func given before (Returns results after) x none)) h;
  })

  transfer_goes : (i : Import) (func : ℕ) (given : List CoreValue) (before after : MachineState) (results : List CoreValue) (k' : Known) (x : Position)
      → IsImportOf p a role.Transfer i → after ≡ before → Keeps c a args lengths k' x → Goes i func given before results after k' x
  transfer_goes i func given before after results k' x (inl e) s h = quiet_goes i import.ResourceTransferOwn func given before after results k' x e (λ f. refl) (ap (λ z. z.memories) s) h
  transfer_goes i func given before after results k' x (inr (inl e)) s h = quiet_goes i import.ResourceTransferBorrow func given before after results k' x e (λ f. refl) (ap (λ z. z.memories) s) h
  transfer_goes i func given before after results k' x (inr (inr (inl e))) s h = quiet_goes i import.FutureTransfer func given before after results k' x e (λ f. refl) (ap (λ z. z.memories) s) h
  transfer_goes i func given before after results k' x (inr (inr (inr (inl e)))) s h = quiet_goes i import.StreamTransfer func given before after results k' x e (λ f. refl) (ap (λ z. z.memories) s) h
  transfer_goes i func given before after results k' x (inr (inr (inr (inr e)))) s h = quiet_goes i import.ErrorContextTransfer func given before after results k' x e (λ f. refl) (ap (λ z. z.memories) s) h

  slot_goes : (i : Import) (func : ℕ) (given : List CoreValue) (before after : MachineState) (results : List CoreValue) (k' : Known) (x : Position)
      → IsImportOf p a role.Slot i → after ≡ before → Keeps c a args lengths k' x → Goes i func given before results after k' x
  slot_goes i func given before after results k' x (inl e) s h = quiet_goes i (import.UnsafeIntrinsic slot.ContextGetI32_0) func given before after results k' x e (λ f. refl) (ap (λ z. z.memories) s) h
  slot_goes i func given before after results k' x (inr e) s h = quiet_goes i (import.UnsafeIntrinsic slot.ContextGetI32_1) func given before after results k' x e (λ f. refl) (ap (λ z. z.memories) s) h

  told_goes : (i : Import) (func : ℕ) (given : List CoreValue) (before after : MachineState) (results : List CoreValue) (k' : Known) (x : Position)
      → IsImportOf p a role.Told i → after ≡ before → Keeps c a args lengths k' x → Goes i func given before results after k' x
  told_goes i func given before after results k' x (inl e) s h = quiet_goes i (import.UnsafeIntrinsic slot.ContextSetI32_0) func given before after results k' x e (λ f. refl) (ap (λ z. z.memories) s) h
  told_goes i func given before after results k' x (inr (inl e)) s h = quiet_goes i (import.UnsafeIntrinsic slot.ContextSetI32_1) func given before after results k' x e (λ f. refl) (ap (λ z. z.memories) s) h
  told_goes i func given before after results k' x (inr (inr (inl e))) s h = quiet_goes i import.EnterSyncCall func given before after results k' x e (λ f. refl) (ap (λ z. z.memories) s) h
  told_goes i func given before after results k' x (inr (inr (inr e))) s h = quiet_goes i import.ExitSyncCall func given before after results k' x e (λ f. refl) (ap (λ z. z.memories) s) h

  -- ---- core functions that are none of each other

  function_of : (f g : CoreDef) → same_def f g ≡ true → p.function (import.CoreDef f) ≡ p.function (import.CoreDef g)
  function_of f g h = ap (λ z. p.function (import.CoreDef z)) (same_exact f g h)

  -- two that stand at different places are not the same
  apart_by_place : (f g : CoreDef) → p.function (import.CoreDef f) ≢ p.function (import.CoreDef g) → same_def f g ≡ false
  apart_by_place f g h = bool_by (same_def f g) (λ e. h (function_of f g e))

  -- ---- realloc

  -- what a call of realloc asks for
  abbrev ask : List CoreValue → AskedRegion
  ask given = record { old = record { at = nth_number given 0; size = nth_number given 1 }; align = nth_number given 2; size = nth_number given 3 }

  abbrev up : List CoreValue → Region
  up given = record { at = nth_number given 0; size = nth_number given 1; align = nth_number given 2 }

  -- What is known of a call of the realloc of the side that values go to, which returned.
  pub record Reallocs (b : Bool) (n : ℕ) (k : Known) (x : Position) (given : List CoreValue) (before : MachineState) : Type 0 where
    pub phase : k.returned ≡ b
    pub here : (side_to b c).memory ≡ Some n
    pub keeps : Keeps c a args lengths k x
    pub lengths_are : HasLengths lengths before
    pub aligns : (ask given).align ≢ 0
    pub old_live : is_old_live k (ask given) ≡ true
    pub room : stays (ask given) ≡ false → next_region k n (ask given) + (ask given).size ≤ length (memory_at before n)

  -- where the region begins, the bytes behind the call and what the host knows then, by whether it stays
  abbrev region_at : Bool → Known → ℕ → AskedRegion → ℕ
  region_at st k n q = cond st q.old.at (next_region k n q)

  abbrev known_by : Bool → Known → ℕ → AskedRegion → Known
  known_by st k n q = record (cond st k (raised k n (next_region k n q + q.size))) { live = record { at = region_at st k n q; size = q.size } ∷ live_without q.old k.live }

  is_named : (b : Bool) (n : ℕ) → (side_to b c).memory ≡ Some n → IsNamedMemory c n
  is_named false n e = inl e
  is_named true n e = inr e

  -- the two sides have different memories
  distinct : (n : ℕ) → c.lift.memory ≡ Some n → c.lower.memory ≡ Some n → ⊥
  distinct n e g = by c.lift.memory c.lower.memory e g once.memories
    where
      by : (o u : Option ℕ) → o ≡ Some n → u ≡ Some n → AreDistinctPlaces (if_named o ++ if_named u) → ⊥
      by None u e g h = absurd cc
      by (Some i) None e g h = absurd cc
      by (Some i) (Some j) e g h =
          let same : i ≡ j = cc in
          absurd (true≢false (sym (eq-eqb i j same) ∙ or_left (nat_eq i j) false h.0))

  to_bytes : (b : Bool) (n : ℕ) (x : Position) → x.landing ≡ landing_by b a args → (side_to b c).memory ≡ Some n → (st : MachineState) → side_memory p x.landing.to st ≡ memory_at st n
  to_bytes b n x e h st = ap (λ l. side_memory p l.to st) e ∙ by b h
    where
      by : (b : Bool) → (side_to b c).memory ≡ Some n → side_memory p (landing_by b a args).to st ≡ memory_at st n
      by false h = side_is t p c.lift a.lift d.lift st ∙ ap (λ o. bytes_of_memory o st) h
      by true h = side_is t p c.lower a.lower d.lower st ∙ ap (λ o. bytes_of_memory o st) h

  from_kept : (b : Bool) (n : ℕ) (x : Position) → x.landing ≡ landing_by b a args → (side_to b c).memory ≡ Some n → (before : MachineState) (bytes : List ℕ)
      → side_memory p x.landing.from (with_memory_at before n bytes) ≡ side_memory p x.landing.from before
  from_kept b n x e h before bytes =
      ap (λ l. side_memory p l.from (with_memory_at before n bytes)) e ∙ by b h ∙ sym (ap (λ l. side_memory p l.from before) e)
    where
      by : (b : Bool) → (side_to b c).memory ≡ Some n → side_memory p (landing_by b a args).from (with_memory_at before n bytes) ≡ side_memory p (landing_by b a args).from before
      by false h = side_is t p c.lower a.lower d.lower (with_memory_at before n bytes) ∙ changed_other before n bytes c.lower.memory (λ g. distinct n h g) ∙ sym (side_is t p c.lower a.lower d.lower before)
      by true h = side_is t p c.lift a.lift d.lift (with_memory_at before n bytes) ∙ changed_other before n bytes c.lift.memory (λ g. distinct n g h) ∙ sym (side_is t p c.lift a.lift d.lift before)

  bits_at : (w : Bool) (r : ℕ) → bits_of (address_operand w r) ≡ r
  bits_at true r = refl
  bits_at false r = refl

  length_put : (bytes : List ℕ) (r : ℕ) (chunk : List ℕ) → r + length chunk ≤ length bytes → length (put_at bytes r chunk) ≡ length bytes
  length_put bytes r chunk le =
      let t : length (take r bytes) ≡ r = length-take-le r bytes (omega arith) in
      let u : length (drop (r + length chunk) bytes) ≡ length bytes - (r + length chunk) = length-drop (r + length chunk) bytes in
      let v : length (put_at bytes r chunk) ≡ length (take r bytes) + (length chunk + length (drop (r + length chunk) bytes)) = length-append (take r bytes) (chunk ++ drop (r + length chunk) bytes) ∙ ap (λ z. length (take r bytes) + z) (length-append chunk (drop (r + length chunk) bytes)) in
      omega arith

  -- the old region lies below the cursor, or is none
  old_below : (b : Bool) (n : ℕ) (k : Known) (x : Position) (given : List CoreValue) (before : MachineState) → Reallocs b n k x given before
      → ((nth_number given 0 ≡ 0) × (nth_number given 1 ≡ 0)) ⊎ (has (up given) x.live ≡ true)
  old_below b n k x given before h = by (nat_eq (nth_number given 0) 0 && nat_eq (nth_number given 1) 0) refl h.old_live
    where
      by : (z : Bool) → (nat_eq (nth_number given 0) 0 && nat_eq (nth_number given 1) 0) ≡ z → cond z true (is_live (ask given).old k.live) ≡ true
          → ((nth_number given 0 ≡ 0) × (nth_number given 1 ≡ 0)) ⊎ (has (up given) x.live ≡ true)
      by true e q = inl (eqb-true (nth_number given 0) 0 (first_so _ _ e), eqb-true (nth_number given 1) 0 (second_so _ _ e))
      by false e q = inr (sym (live_is_has (up given) x.live) ∙ ap (λ l. is_live (ask given).old l) h.keeps.live ∙ q)

  old_end : (b : Bool) (n : ℕ) (k : Known) (x : Position) (given : List CoreValue) (before : MachineState) → Reallocs b n k x given before
      → nth_number given 0 + nth_number given 1 ≤ cursor_of k n
  old_end b n k x given before h = elim (old_below b n k x given before h) [
    | inl z ↦ omega (arith, z.0, z.1)
    | inr z ↦ has_below (cursor_of k n) (up given) x.live (below_here h) z
  ]
    where
      below_here : Reallocs b n k x given before → AllBelow (cursor_of k n) x.live
      below_here h = h.keeps.live_below n (ap (λ z. (side_to z c).memory) h.phase ∙ h.here)

  cursor_inside : (b : Bool) (n : ℕ) (k : Known) (x : Position) (given : List CoreValue) (before : MachineState) → Reallocs b n k x given before → cursor_of k n ≤ length (memory_at before n)
  cursor_inside b n k x given before h = omega (arith, h.keeps.inside n, length_at before lengths n h.lengths_are)

  in_use_below : (b : Bool) (n : ℕ) (k : Known) (x : Position) (given : List CoreValue) (before : MachineState) → Reallocs b n k x given before
      → AllOut (cursor_of k n) (get_or lengths n 0) (without (up given) x.live ++ x.landing.area)
  in_use_below b n k x given before h =
      let e = ap (λ z. (side_to z c).memory) h.phase ∙ h.here in
      let live : AllBelow (cursor_of k n) x.live = h.keeps.live_below n e in
      let all : AllOut (cursor_of k n) (get_or lengths n 0) (x.live ++ x.landing.area) = h.keeps.below n e in
      out_both (cursor_of k n) (get_or lengths n 0) (without (up given) x.live) x.landing.area (out_below (cursor_of k n) (get_or lengths n 0) (without (up given) x.live) (below_without (cursor_of k n) (up given) x.live live))
      (out_right (cursor_of k n) (get_or lengths n 0) x.live x.landing.area all)

  landing_at : (b : Bool) (k : Known) (x : Position) → k.returned ≡ b → Keeps c a args lengths k x → x.landing ≡ landing_by b a args
  landing_at b k x e h = h.landing ∙ ap (λ z. landing_by z a args) e

  -- a region that stays where it is
  stays_honest : (b : Bool) (n : ℕ) (k : Known) (x : Position) (func : ℕ) (given : List CoreValue) (before after : MachineState) (f : CoreDef) (w : Bool)
      → Reallocs b n k x given before → stays (ask given) ≡ true → after ≡ with_memory_at before n (memory_at before n)
      → IsHonestRegion p x (call_by (import.CoreDef f) func given before (Returns (address_operand w (nth_number given 0) ∷ []) after))
  stays_honest b n k x func given before after f w h st e =
      let e1 = landing_at b k x h.phase h.keeps in
      let le : nth_number given 3 ≤ nth_number given 1 = leb-true (nth_number given 3) (nth_number given 1) (first_so _ _ st) in
      let al : nth_number given 0 % nth_number given 2 ≡ 0 = eqb-true (nth_number given 0 % nth_number given 2) 0 (second_so _ _ st) in
      let bits : bits_of (address_operand w (nth_number given 0)) ≡ nth_number given 0 = bits_at w (nth_number given 0) in
      let there : n < length before.memories = there_at before lengths n h.lengths_are (h.keeps.memories n (is_named b n h.here)) in
      let now : side_memory p x.landing.to after ≡ memory_at before n = ap (λ z. side_memory p x.landing.to z) e ∙ to_bytes b n x e1 h.here (with_memory_at before n (memory_at before n)) ∙ changed_here before n (memory_at before n) there in
      let was : side_memory p x.landing.to before ≡ memory_at before n = to_bytes b n x e1 h.here before in
      record {
        sound = record {
          aligned = ap (λ z. z % nth_number given 2) bits ∙ al;
          inside = omega (arith, bits, le, old_end b n k x given before h, cursor_inside b n k x given before h, ap length now);
        };
        apart = elim (old_below b n k x given before h) [
          | inl z ↦ empty_apart (given_region (call_by (import.CoreDef f) func given before (Returns (address_operand w (nth_number given 0) ∷ []) after))) (without (up given) x.live ++ x.landing.area) (omega (arith, le, z.1))
          | inr z ↦ smaller_apart (up given) (given_region (call_by (import.CoreDef f) func given before (Returns (address_operand w (nth_number given 0) ∷ []) after))) (without (up given) x.live ++ x.landing.area) bits le (given_up_apart (up given) x.live x.landing.area h.keeps.apart z)
        ];
        holds = λ j below_old below_new. ap (λ l. get_or l (bits_of (address_operand w (nth_number given 0)) + j) 0) now ∙ ap (λ z. get_or (memory_at before n) (z + j) 0) bits ∙ sym (ap (λ l. get_or l (nth_number given 0 + j) 0) was);
        others = λ j in_any. ap (λ l. get_or l j 0) (now ∙ sym was);
        source = ap (λ z. side_memory p x.landing.from z) e ∙ from_kept b n x e1 h.here before (memory_at before n);
      }

  -- a new region
  moves_honest : (b : Bool) (n : ℕ) (k : Known) (x : Position) (func : ℕ) (given : List CoreValue) (before after : MachineState) (f : CoreDef) (w : Bool)
      → Reallocs b n k x given before → stays (ask given) ≡ false → after ≡ with_memory_at before n (moved_bytes (memory_at before n) (next_region k n (ask given)) (ask given))
      → IsHonestRegion p x (call_by (import.CoreDef f) func given before (Returns (address_operand w (next_region k n (ask given)) ∷ []) after))
  moves_honest b n k x func given before after f w h st e =
      let e1 = landing_at b k x h.phase h.keeps in
      let bytes : List ℕ = memory_at before n in
      let r : ℕ = next_region k n (ask given) in
      let m : ℕ = min (nth_number given 1) (nth_number given 3) in
      let chunk : List ℕ = take m (drop (nth_number given 0) bytes) in
      let bits : bits_of (address_operand w r) ≡ r = bits_at w r in
      let room : r + nth_number given 3 ≤ length bytes = h.room st in
      let past : cursor_of k n ≤ r = (aligned_bounds (cursor_of k n) (nth_number given 2) (positive (nth_number given 2) h.aligns)).0 in
      let end : nth_number given 0 + nth_number given 1 ≤ cursor_of k n = old_end b n k x given before h in
      let cursor : cursor_of k n ≤ length bytes = cursor_inside b n k x given before h in
      let dropped : length (drop (nth_number given 0) bytes) ≡ length bytes - nth_number given 0 = length-drop (nth_number given 0) bytes in
      let long : length chunk ≡ m = length-take-le m (drop (nth_number given 0) bytes) (omega arith) in
      let fits : r + length chunk ≤ length bytes = omega arith in
      let there : n < length before.memories = there_at before lengths n h.lengths_are (h.keeps.memories n (is_named b n h.here)) in
      let now : side_memory p x.landing.to after ≡ put_at bytes r chunk = ap (λ z. side_memory p x.landing.to z) e ∙ to_bytes b n x e1 h.here (with_memory_at before n (put_at bytes r chunk)) ∙ changed_here before n (put_at bytes r chunk) there in
      let was : side_memory p x.landing.to before ≡ bytes = to_bytes b n x e1 h.here before in
      record {
        sound = record {
          aligned = ap (λ z. z % nth_number given 2) bits ∙ aligned_multiple (cursor_of k n) (nth_number given 2);
          inside = omega (arith, bits, room, ap length now, length_put bytes r chunk fits);
        };
        apart = between_apart (cursor_of k n) (get_or lengths n 0) (given_region (call_by (import.CoreDef f) func given before (Returns (address_operand w r ∷ []) after))) (without (up given) x.live ++ x.landing.area) (in_use_below b n k x given before h) (omega (arith, bits, past)) (omega (arith, bits, room, length_at before lengths n h.lengths_are));
        holds = λ j below_old below_new.
            let lt : j < m = omega arith in
            ap (λ l. get_or l (bits_of (address_operand w r) + j) 0) now ∙ ap (λ z. get_or (put_at bytes r chunk) (z + j) 0) bits
            ∙ put_within bytes r chunk (r + j) 0 (omega arith) (omega arith) (omega arith)
            ∙ ap (λ i. get_or chunk i 0) (plus_less r j)
            ∙ get_or-take m (drop (nth_number given 0) bytes) j 0 lt
            ∙ get_or-drop (nth_number given 0) bytes j 0
            ∙ sym (ap (λ l. get_or l (nth_number given 0 + j) 0) was);
        others = λ j in_any.
            ap (λ l. get_or l j 0) now
            ∙ elim (any_out (cursor_of k n) (get_or lengths n 0) _ j (in_use_below b n k x given before h) in_any) [
              | inl lt ↦ put_below bytes r chunk j 0 (omega arith) (omega (arith, lt, past))
              | inr ge ↦ (let top = length_at before lengths n h.lengths_are in past_end (put_at bytes r chunk) j (omega (arith, ge, top, length_put bytes r chunk fits)) ∙ sym (past_end bytes j (omega (arith, ge, top))))
            ]
            ∙ sym (ap (λ l. get_or l j 0) was);
        source = ap (λ z. side_memory p x.landing.from z) e ∙ from_kept b n x e1 h.here before (put_at bytes r chunk);
      }
    where
      plus_less : (r j : ℕ) → r + j - r ≡ j
      plus_less r j = omega arith

      past_end : (l : List ℕ) (j : ℕ) → length l ≤ j → get_or l j 0 ≡ 0
      past_end [] j le = refl
      past_end (m ∷ l) zero le = absurd (omega (arith, le))
      past_end (m ∷ l) (suc j) le = past_end l j (omega (arith, le))

  -- ---- cursors that rise

  pub record Rise (k j : Known) (n cursor : ℕ) : Type 0 where
    pub here : cursor_of j n ≡ cursor
    pub others : (i : ℕ) → i ≢ n → cursor_of j i ≡ cursor_of k i
    pub up : cursor_of k n ≤ cursor
    pub same_length : length j.cursors ≡ length k.cursors

  rise_all : (k j : Known) (n cursor i : ℕ) → Rise k j n cursor → cursor_of k i ≤ cursor_of j i
  rise_all k j n cursor i h = elim (eqb_tells i n) [
    | inl e ↦ omega (arith, h.here, h.up, ap (cursor_of k) e.1, ap (cursor_of j) e.1)
    | inr e ↦ omega (arith, h.others i e.1)
  ]

  rise_inside : (k j : Known) (n cursor i : ℕ) → Rise k j n cursor → cursor ≤ get_or lengths n 0 → ((i : ℕ) → cursor_of k i ≤ get_or lengths i 0) → cursor_of j i ≤ get_or lengths i 0
  rise_inside k j n cursor i h le all = elim (eqb_tells i n) [
    | inl e ↦ omega (arith, h.here, le, ap (cursor_of j) e.1, ap (λ z. get_or lengths z 0) e.1)
    | inr e ↦ omega (arith, h.others i e.1, all i)
  ]

  raised_rise : (k : Known) (n cursor : ℕ) → n < length k.cursors → cursor_of k n ≤ cursor → Rise k (raised k n cursor) n cursor
  raised_rise k n cursor lt le = record {
    here = get_or-set_same k.cursors n cursor 0 lt;
    others = λ i ne. get_or-set_other k.cursors n i cursor 0 ne;
    up = le;
    same_length = length-set k.cursors n cursor;
  }

  -- ---- behind a call of realloc

  moved_at : (b : Bool) (k : Known) (x : Position) (func : ℕ) (given : List CoreValue) (before : MachineState) (ans : Answer) (f : CoreDef)
      → x.landing ≡ landing_by b a args → (landing_by b a args).to.realloc ≡ Some f → same_def a.callee f ≡ false
      → sync_moved_on a args (call_by (import.CoreDef f) func given before ans) x ≡ record { landing = x.landing; live = given_region (call_by (import.CoreDef f) func given before ans) ∷ without (up given) x.live }
  moved_at b k x func given before ans f e1 e2 e3 =
      ap (λ z. cond z (landed (results_landing a args)) (moved_on (call_by (import.CoreDef f) func given before ans) x)) e3
      ∙ ap (λ z. cond z (record x { live = given_region (call_by (import.CoreDef f) func given before ans) ∷ without (up given) x.live }) x)
      (ap (λ l. is_call_of_any l.to.realloc (call_by (import.CoreDef f) func given before ans)) e1 ∙ ap (λ o. is_call_of_any o (call_by (import.CoreDef f) func given before ans)) e2 ∙ same_itself f)

  realloc_keeps : (b : Bool) (n : ℕ) (k j : Known) (x : Position) (func : ℕ) (given : List CoreValue) (before after : MachineState) (f : CoreDef) (w : Bool) (r cursor : ℕ)
      → Reallocs b n k x given before → Rise k j n cursor → r + nth_number given 3 ≤ cursor → cursor ≤ get_or lengths n 0
      → j.live ≡ record { at = r; size = nth_number given 3 } ∷ live_without (ask given).old k.live → j.returned ≡ k.returned
      → (landing_by b a args).to.realloc ≡ Some f → same_def a.callee f ≡ false
      → IsHonestRegion p x (call_by (import.CoreDef f) func given before (Returns (address_operand w r ∷ []) after))
      → Keeps c a args lengths j (sync_moved_on a args (call_by (import.CoreDef f) func given before (Returns (address_operand w r ∷ []) after)) x)
  realloc_keeps b n k j x func given before after f w r cursor h rise end inside live returned is_f own honest =
      let call : Call = call_by (import.CoreDef f) func given before (Returns (address_operand w r ∷ []) after) in
      let bits : bits_of (address_operand w r) ≡ r = bits_at w r in
      let now : (side_to b c).memory ≡ Some n = h.here in
      subst (Keeps c a args lengths j) (sym (moved_at b k x func given before (Returns (address_operand w r ∷ []) after) f (landing_at b k x h.phase h.keeps) is_f own)) (record {
        landing = h.keeps.landing ∙ ap (λ z. landing_by z a args) (sym returned);
        live = (λ i. record { at = bits i; size = nth_number given 3 } ∷ kept_without (up given) x.live i) ∙ ap (λ l. record { at = r; size = nth_number given 3 } ∷ live_without (ask given).old l) h.keeps.live ∙ sym live;
        live_below = λ i e.
            (let same : i ≡ n = some_same i n (sym e ∙ ap (λ z. (side_to z c).memory) (returned ∙ h.phase) ∙ now) in
            let at_i : cursor_of j i ≡ cursor = ap (cursor_of j) same ∙ rise.here in
            let old : AllBelow (cursor_of k n) x.live = h.keeps.live_below n (ap (λ z. (side_to z c).memory) h.phase ∙ h.here) in
            (omega (arith, at_i, bits, end), below_rises (cursor_of k n) (cursor_of j i) _ (omega (arith, at_i, rise.up)) (below_without (cursor_of k n) (up given) x.live old)));
        below = λ i e.
            let same : i ≡ n = some_same i n (sym e ∙ ap (λ z. (side_to z c).memory) (returned ∙ h.phase) ∙ now) in
            let at_i : cursor_of j i ≡ cursor = ap (cursor_of j) same ∙ rise.here in
            (inl (omega (arith, at_i, bits, end)), subst (λ z. AllOut (cursor_of j i) (get_or lengths z 0) (without (up given) x.live ++ x.landing.area)) (sym same) (out_rises (cursor_of k n) (cursor_of j i) (get_or lengths n 0) _ (omega (arith, at_i, rise.up)) (in_use_below b n k x given before h)));
        apart = (honest.apart, apart_without (up given) x.live x.landing.area h.keeps.apart);
        area = λ i e. out_rises (cursor_of k i) (cursor_of j i) (get_or lengths i 0) (return_area a args) (rise_all k j n cursor i rise) (h.keeps.area i e);
        inside = λ i. rise_inside k j n cursor i rise inside h.keeps.inside;
        cursors = λ i e. omega (arith, h.keeps.cursors i e, rise.same_length);
        memories = h.keeps.memories;
      })
    where
      some_same : (i n : ℕ) → Some i ≡ Some n → i ≡ n
      some_same i n e = cc

  -- places of functions that a call names are different ones
  not_last : (i j : ℕ) (o : Option ℕ) → o ≡ Some j → list_any (nat_eq i) (if_named o) ≡ false → i ≢ j
  not_last i j None e h = absurd cc
  not_last i j (Some u) e h = λ g.
      let same : i ≡ u = cc in
      absurd (true≢false (sym (eq-eqb i u same) ∙ or_left (nat_eq i u) false h))

  not_behind : (i j : ℕ) (o u : Option ℕ) → u ≡ Some j → list_any (nat_eq i) (if_named o ++ if_named u) ≡ false → i ≢ j
  not_behind i j None u e h = not_last i j u e h
  not_behind i j (Some v) u e h = not_last i j u e (or_right (nat_eq i v) (list_any (nat_eq i) (if_named u)) h)

  -- the post-return is neither realloc
  lower_not_post : (i j : ℕ) → c.lower.realloc ≡ Some i → c.post_return ≡ Some j → i ≢ j
  lower_not_post i j e g = by c.lift.realloc c.lower.realloc c.post_return e g (once.functions.1)
    where
      by : (o u v : Option ℕ) → u ≡ Some i → v ≡ Some j → AreDistinctPlaces (if_named o ++ (if_named u ++ if_named v)) → i ≢ j
      by None None v e g h = absurd cc
      by None (Some l) v e g h = let same : l ≡ i = cc in λ q. not_last l j v g h.0 (same ∙ q)
      by (Some o) None v e g h = absurd cc
      by (Some o) (Some l) v e g h = let same : l ≡ i = cc in λ q. not_last l j v g h.1.0 (same ∙ q)

  lift_not_post : (i j : ℕ) → c.lift.realloc ≡ Some i → c.post_return ≡ Some j → i ≢ j
  lift_not_post i j e g = by c.lift.realloc c.lower.realloc c.post_return e g (once.functions.1)
    where
      by : (o u v : Option ℕ) → o ≡ Some i → v ≡ Some j → AreDistinctPlaces (if_named o ++ (if_named u ++ if_named v)) → i ≢ j
      by None u v e g h = absurd cc
      by (Some l) u v e g h = let same : l ≡ i = cc in λ q. not_behind l j u v g h.0 (same ∙ q)

  place_of : (o : Option CoreDef) (k : Option ℕ) (f : CoreDef) → option_map (λ z. p.function (import.CoreDef z)) o ≡ k → o ≡ Some f → k ≡ Some (p.function (import.CoreDef f))
  place_of o k f e g = sym e ∙ ap (option_map (λ z. p.function (import.CoreDef z))) g

  -- a core function of a place is none of an option at another
  none_of : (o : Option CoreDef) (k : Option ℕ) (f : CoreDef) (func : ℕ) (given : List CoreValue) (before : MachineState) (ans : Answer)
      → option_map (λ z. p.function (import.CoreDef z)) o ≡ k → ((j : ℕ) → k ≡ Some j → p.function (import.CoreDef f) ≢ j) → is_call_of_any o (call_by (import.CoreDef f) func given before ans) ≡ false
  none_of None k f func given before ans e h = refl
  none_of (Some g) k f func given before ans e h = apart_by_place g f (λ q. h (p.function (import.CoreDef g)) (sym e) (sym q))

  own : (o : Option CoreDef) (func : ℕ) (given : List CoreValue) (before : MachineState) (ans : Answer)
      → ((f : CoreDef) → o ≡ Some f → same_def a.callee f ≡ false) → is_call_of_any o (call_by (import.CoreDef a.callee) func given before ans) ≡ false
  own None func given before ans h = refl
  own (Some f) func given before ans h = bool_by (same_def f a.callee) (λ e. true≢false (sym (same_itself a.callee) ∙ ap (λ z. same_def a.callee z) (sym (same_exact f a.callee e)) ∙ h f refl))

  -- ---- post-return

  post_return_goes : (i : Import) (func : ℕ) (given : List CoreValue) (before after : MachineState) (results : List CoreValue) (k : Known) (x : Position)
      → IsImportOf p a role.PostReturn i → after ≡ before → Keeps c a args lengths k x → Goes i func given before results after k x
  post_return_goes i func given before after results k x e s h = by a.lift.post_return refl e
    where
      request : (f : CoreDef) (b : Bool) → a.lift.post_return ≡ Some f → is_call_of_any (landing_by b a args).to.realloc (call_by (import.CoreDef f) func given before (Returns results after)) ≡ false
      request f false e = none_of a.lift.realloc c.lift.realloc f func given before (Returns results after) d.lift.realloc (λ j g q. lift_not_post j (p.function (import.CoreDef f)) g (place_of a.lift.post_return c.post_return f d.post_return e) (sym q))
      request f true e = none_of a.lower.realloc c.lower.realloc f func given before (Returns results after) d.lower.realloc (λ j g q. lower_not_post j (p.function (import.CoreDef f)) g (place_of a.lift.post_return c.post_return f d.post_return e) (sym q))

      goes : (f : CoreDef) → a.lift.post_return ≡ Some f → Goes (import.CoreDef f) func given before results after k x
      goes f e =
          let call : Call = call_by (import.CoreDef f) func given before (Returns results after) in
          let none : is_request x.landing call ≡ false = ap (λ l. is_call_of_any l.to.realloc call) h.landing ∙ request f k.returned e in
          let same : sync_moved_on a args call x ≡ x = ap (λ z. cond z (landed (results_landing a args)) (moved_on call x)) (d.own_callee.post_return f e) ∙ ap (λ z. cond z (record x { live = given_region call ∷ without (given_up call) x.live }) x) none in
          record {
            honest = ((λ q. absurd (true≢false (sym q ∙ none))), (λ q. ap (λ z. side_memory p (options_of a.lower) z) s));
            keeps = subst (Keeps c a args lengths k) (sym same) h;
          }

      by : (o : Option CoreDef) → a.lift.post_return ≡ o → option_map (λ z. import.CoreDef z) o ≡ Some i → Goes i func given before results after k x
      by None q e = absurd cc
      by (Some f) q e = let is : import.CoreDef f ≡ i = cc in subst (λ j. Goes j func given before results after k x) is (goes f q)

  -- ---- transcoders

  told_is : (kind : TranscodeKind) (i : Import) (func : ℕ) (given : List CoreValue) (before : MachineState) (ans : Answer) (there : List ℕ)
      → told_room kind (told_of (event_by func given before ans)) there ≡ room_of kind (call_by i func given before ans) there
  told_is AllUnits i func given before ans there = refl
  told_is Counted i func given before ans there = refl
  told_is Fitting i func given before ans there = refl
  told_is Narrow i func given before ans there = refl
  told_is Tagged i func given before ans there = refl
  told_is Widening i func given before ans there = refl

  transcoder_goes : (o : Transcode) (g e : CoreDef) (from64 to64 : Bool) (func : ℕ) (given : List CoreValue) (before after : MachineState) (results : List CoreValue) (k k' : Known) (x : Position)
      → TranscodesBy k o (p.memory g) from64 (p.memory e) to64 (event_by func given before (Returns results after)) k' → Keeps c a args lengths k x
      → Goes (import.Transcode o g from64 e to64) func given before results after k' x
  transcoder_goes o g e from64 to64 func given before after results k k' x rule h =
      let i : Import = import.Transcode o g from64 e to64 in
      let there : List ℕ = drop (nth_number given 2) (memory_at before (p.memory e)) in
      let did = rule.returns results after refl in
      let transcoding = subst (λ z. IsHonestTranscoding o z (units_read o (memory_at before (p.memory g)) (told_of (event_by func given before (Returns results after)))) did.0 (map bits_of results)) (told_is (transcode_kind o) i func given before (Returns results after) there) did.1 in
      record {
        honest = record {
          bytes = did.0;
          transcoding = transcoding;
          inside = elim (cases_lt (length (memory_at before (p.memory e))) (nth_number given 2 + length did.0)) [
            | inl lt ↦ absurd (not_traps results after (rule.traps.1 (DestinationOutside did.0 (map bits_of results) did.1 lt)))
            | inr le ↦ le
          ];
          written = ap (λ z. z.memories) did.4;
        };
        keeps = subst (Keeps c a args lengths k') (sym (stays_at i func given before (Returns results after) x (λ f. refl))) (subst (λ z. Keeps c a args lengths z x) (sym did.5) h);
      }
    where
      not_traps : (rs : List CoreValue) (st : MachineState) → Returns rs st ≡ Traps → ⊥
      not_traps rs st q = cc

  -- ---- the callee

  area_apart : AllApart (return_area a args)
  area_apart = by (flat_results a.lower) _
    where
      by : (o : Option (List ValType)) (r : Region) → AllApart (elim o [ Some flats ↦ [] | None ↦ r ∷ [] ])
      by None r = ((λ j here others. others), tt)
      by (Some flats) r = tt

  callee_keeps : (k j : Known) (x : Position) (n cursor : ℕ) → Keeps c a args lengths k x → Rise k j n cursor → cursor ≤ get_or lengths n 0 → j.live ≡ [] → j.returned ≡ true
      → Keeps c a args lengths j (landed (results_landing a args))
  callee_keeps k j x n cursor h rise le live returned = record {
    landing = ap (λ z. landing_by z a args) (sym returned);
    live = sym live;
    live_below = λ i e. tt;
    below = λ i e. out_rises (cursor_of k i) (cursor_of j i) (get_or lengths i 0) (return_area a args) (rise_all k j n cursor i rise) (h.area i (sym (ap (λ z. (side_to z c).memory) returned) ∙ e));
    apart = area_apart;
    area = λ i e. out_rises (cursor_of k i) (cursor_of j i) (get_or lengths i 0) (return_area a args) (rise_all k j n cursor i rise) (h.area i e);
    inside = λ i. rise_inside k j n cursor i rise le h.inside;
    cursors = λ i e. omega (arith, h.cursors i e, rise.same_length);
    memories = h.memories;
  }

  callee_goes : (func : ℕ) (given : List CoreValue) (before after : MachineState) (results : List CoreValue) (k k' : Known) (x : Position) (most : ℕ)
      → StoresAt k k' before after most c.lift.memory → Keeps c a args lengths k x → HasLengths lengths before → Goes (import.CoreDef a.callee) func given before results after k' x
  callee_goes func given before after results k k' x most stored h long = record {
    honest = ((λ q. absurd (true≢false (sym q ∙ no_request))), (λ q. absurd (true≢false (sym q ∙ own a.lift.post_return func given before (Returns results after) d.own_callee.post_return))));
    keeps = subst (Keeps c a args lengths k') (sym moved) (by c.lift.memory refl stored);
  }
    where
      call : Call
      call = call_by (import.CoreDef a.callee) func given before (Returns results after)

      request : (b : Bool) → is_call_of_any (landing_by b a args).to.realloc (call_by (import.CoreDef a.callee) func given before (Returns results after)) ≡ false
      request false = own a.lift.realloc func given before (Returns results after) d.own_callee.lift_realloc
      request true = own a.lower.realloc func given before (Returns results after) d.own_callee.lower_realloc

      no_request : is_request x.landing (call_by (import.CoreDef a.callee) func given before (Returns results after)) ≡ false
      no_request = ap (λ l. is_call_of_any l.to.realloc (call_by (import.CoreDef a.callee) func given before (Returns results after))) h.landing ∙ request k.returned

      moved : sync_moved_on a args (call_by (import.CoreDef a.callee) func given before (Returns results after)) x ≡ landed (results_landing a args)
      moved = ap (λ z. cond z (landed (results_landing a args)) (moved_on (call_by (import.CoreDef a.callee) func given before (Returns results after)) x)) (same_itself a.callee)

      by : (o : Option ℕ) → c.lift.memory ≡ o → StoresAt k k' before after most o → Keeps c a args lengths k' (landed (results_landing a args))
      by None e s = subst (λ z. Keeps c a args lengths z (landed (results_landing a args))) (sym s.1)
          (callee_keeps k (record k { live = []; returned = true }) x 0 (cursor_of k 0) h (record { here = refl; others = λ i ne. refl; up = omega arith; same_length = refl }) (h.inside 0) refl refl)
      by (Some n) e s =
          let rise : Rise k (raised k n s.1) n s.1 = raised_rise k n s.1 (h.cursors n (inl e)) s.7 in
          subst (λ z. Keeps c a args lengths z (landed (results_landing a args))) (sym s.3)
          (callee_keeps k (record (raised k n s.1) { live = []; returned = true }) x n s.1 h (record { here = rise.here; others = rise.others; up = rise.up; same_length = rise.same_length })
          (omega (arith, s.9, s.5, length_at before lengths n long)) refl refl)

  -- ---- realloc, of either side

  bool_is : (b : Bool) → (b ≡ false → ⊥) → b ≡ true
  bool_is true h = refl
  bool_is false h = absurd (h refl)

  not_traps : (rs : List CoreValue) (st : MachineState) → Returns rs st ≡ Traps → ⊥
  not_traps rs st q = cc

  realloc_goes : (b dest : Bool) (f : CoreDef) (func : ℕ) (given : List CoreValue) (before after : MachineState) (results : List CoreValue) (k k' : Known) (x : Position) (o : Option ℕ)
      → (dest ≡ true → k.returned ≡ b) → (side_to b c).memory ≡ o → (landing_by b a args).to.realloc ≡ Some f → same_def a.callee f ≡ false
      → (b ≡ true → is_call_of_any a.lift.post_return (call_by (import.CoreDef f) func given before (Returns results after)) ≡ false)
      → ReallocsAt k (side_to b c) dest (event_by func given before (Returns results after)) k' o → Keeps c a args lengths k x → HasLengths lengths before
      → Goes (import.CoreDef f) func given before results after k' x
  realloc_goes b dest f func given before after results k k' x None phase here is_f own_f post rule h long = absurd (not_traps results after rule)
  realloc_goes b dest f func given before after results k k' x (Some n) phase here is_f own_f post rule h long = by (stays (ask given)) refl
    where
      w : Bool
      w = (side_to b c).abi.memory64

      did : (after ≡ with_memory_at before n (bytes_after_region k n (ask given) (memory_at before n))) × AreOfCoreTypes (address (side_to b c).abi.memory64 ∷ []) results × (results ≡ address_operand (side_to b c).abi.memory64 (given_at k n (ask given)) ∷ []) × (k' ≡ after_region k n (ask given))
      did = rule.returns results after refl

      may : MustRefuse k n dest (memory_at before n) (ask given) → ⊥
      may m = not_traps results after (rule.traps.1 m)

      known : Reallocs b n k x given before
      known = record {
        phase = phase (bool_is dest (λ e. may (OtherTransfer e)));
        here = here;
        keeps = h;
        lengths_are = long;
        aligns = λ e. may (NoAlignment e);
        old_live = bool_is (is_old_live k (ask given)) (λ e. may (NotLive e));
        room = λ st. elim (cases_lt (length (memory_at before n)) (next_region k n (ask given) + (ask given).size)) [ inl lt ↦ absurd (may (NoRoom st lt)) | inr le ↦ le ];
      }

      -- the memory that post-return leaves
      left : (r : ℕ) → IsHonestRegion p x (call_by (import.CoreDef f) func given before (Returns (address_operand (side_to b c).abi.memory64 r ∷ []) after))
          → results ≡ address_operand (side_to b c).abi.memory64 r ∷ [] → is_call_of_any a.lift.post_return (call_by (import.CoreDef f) func given before (Returns results after)) ≡ true
          → side_memory p (options_of a.lower) after ≡ side_memory p (options_of a.lower) before
      left r honest e q = by_side b refl
        where
          by_side : (z : Bool) → b ≡ z → side_memory p (options_of a.lower) after ≡ side_memory p (options_of a.lower) before
          by_side true g = absurd (true≢false (sym q ∙ post g))
          by_side false g =
              let at : x.landing ≡ params_landing a = landing_at b k x known.phase h ∙ ap (λ z. landing_by z a args) g in
              sym (ap (λ l. side_memory p l.from after) at) ∙ honest.source ∙ ap (λ l. side_memory p l.from before) at

      made : (r cursor : ℕ) (j : Known) → results ≡ address_operand (side_to b c).abi.memory64 r ∷ [] → k' ≡ j
          → IsHonestRegion p x (call_by (import.CoreDef f) func given before (Returns (address_operand (side_to b c).abi.memory64 r ∷ []) after))
          → Rise k j n cursor → r + nth_number given 3 ≤ cursor → cursor ≤ get_or lengths n 0
          → j.live ≡ record { at = r; size = nth_number given 3 } ∷ live_without (ask given).old k.live → j.returned ≡ k.returned
          → Goes (import.CoreDef f) func given before results after k' x
      made r cursor j e g honest rise end inside live returned =
          subst (λ rs. Goes (import.CoreDef f) func given before rs after k' x) (sym e) (subst (λ z. Goes (import.CoreDef f) func given before (address_operand (side_to b c).abi.memory64 r ∷ []) after z x) (sym g) (record {
            honest = ((λ q. honest), (λ q. left r honest e (ap (λ rs. is_call_of_any a.lift.post_return (call_by (import.CoreDef f) func given before (Returns rs after))) e ∙ q)));
            keeps = realloc_keeps b n k j x func given before after f (side_to b c).abi.memory64 r cursor known rise end inside live returned is_f own_f honest;
          }))

      by : (st : Bool) → stays (ask given) ≡ st → Goes (import.CoreDef f) func given before results after k' x
      by true st =
          let e0 : after ≡ with_memory_at before n (memory_at before n) = did.0 ∙ ap (λ z. with_memory_at before n (cond z (memory_at before n) (moved_bytes (memory_at before n) (next_region k n (ask given)) (ask given)))) st in
          made (nth_number given 0) (cursor_of k n) (record k { live = record { at = nth_number given 0; size = nth_number given 3 } ∷ live_without (ask given).old k.live })
          (did.2 ∙ ap (λ z. address_operand (side_to b c).abi.memory64 (cond z (nth_number given 0) (next_region k n (ask given))) ∷ []) st)
          (did.3 ∙ ap (λ z. known_by z k n (ask given)) st)
          (stays_honest b n k x func given before after f (side_to b c).abi.memory64 known st e0)
          (record { here = refl; others = λ i ne. refl; up = omega arith; same_length = refl })
          (omega (arith, old_end b n k x given before known, leb-true (nth_number given 3) (nth_number given 1) (first_so _ _ st)))
          (h.inside n) refl refl
      by false st =
          let e0 : after ≡ with_memory_at before n (moved_bytes (memory_at before n) (next_region k n (ask given)) (ask given)) = did.0 ∙ ap (λ z. with_memory_at before n (cond z (memory_at before n) (moved_bytes (memory_at before n) (next_region k n (ask given)) (ask given)))) st in
          let r : ℕ = next_region k n (ask given) in
          let past : cursor_of k n ≤ r = (aligned_bounds (cursor_of k n) (nth_number given 2) (positive (nth_number given 2) known.aligns)).0 in
          let rise : Rise k (raised k n (r + nth_number given 3)) n (r + nth_number given 3) = raised_rise k n (r + nth_number given 3) (h.cursors n (is_named b n here)) (omega arith) in
          made r (r + nth_number given 3) (record (raised k n (r + nth_number given 3)) { live = record { at = r; size = nth_number given 3 } ∷ live_without (ask given).old k.live })
          (did.2 ∙ ap (λ z. address_operand (side_to b c).abi.memory64 (cond z (nth_number given 0) (next_region k n (ask given))) ∷ []) st)
          (did.3 ∙ ap (λ z. known_by z k n (ask given)) st)
          (moves_honest b n k x func given before after f (side_to b c).abi.memory64 known st e0)
          (record { here = rise.here; others = rise.others; up = rise.up; same_length = rise.same_length })
          (omega arith)
          (omega (arith, known.room st, length_at before lengths n long)) refl refl

  -- ---- each call that returned

  goes : (s : CallShapes) (answered : Option (List Value)) (r : Role) (i : Import) (func : ℕ) (given : List CoreValue) (before after : MachineState) (results : List CoreValue) (k k' : Known) (x : Position)
      → IsImportOf p a r i → Answers c s answered r k (event_by func given before (Returns results after)) k' → Keeps c a args lengths k x → HasLengths lengths before
      → Goes i func given before results after k' x
  goes s answered role.Callee i func given before after results k k' x e rule h long =
      let did = rule.answers.returns results after refl in
      subst (λ z. Goes z func given before results after k' x) (sym e) (callee_goes func given before after results k k' x _ did.3.stored h long)
  goes s answered role.LiftRealloc i func given before after results k k' x e rule h long = by a.lift.realloc refl e
    where
      by : (o : Option CoreDef) → a.lift.realloc ≡ o → option_map (λ z. import.CoreDef z) o ≡ Some i → Goes i func given before results after k' x
      by None q e = absurd cc
      by (Some f) q e =
          let is : import.CoreDef f ≡ i = cc in
          subst (λ z. Goes z func given before results after k' x) is (realloc_goes false (cond k.returned false true) f func given before after results k k' x c.lift.memory (phase k.returned) refl q (d.own_callee.lift_realloc f q) (λ z. absurd (true≢false (sym z))) rule h long)
        where
          phase : (b : Bool) → cond b false true ≡ true → b ≡ false
          phase true z = absurd (true≢false (sym z))
          phase false z = refl
  goes s answered role.LowerRealloc i func given before after results k k' x e rule h long = by a.lower.realloc refl e
    where
      by : (o : Option CoreDef) → a.lower.realloc ≡ o → option_map (λ z. import.CoreDef z) o ≡ Some i → Goes i func given before results after k' x
      by None q e = absurd cc
      by (Some f) q e =
          let is : import.CoreDef f ≡ i = cc in
          subst (λ z. Goes z func given before results after k' x) is (realloc_goes true k.returned f func given before after results k k' x c.lower.memory (λ z. z) refl q (d.own_callee.lower_realloc f q)
          (λ z. none_of a.lift.post_return c.post_return f func given before (Returns results after) d.post_return (λ j g. lower_not_post (p.function (import.CoreDef f)) j (place_of a.lower.realloc c.lower.realloc f d.lower.realloc q) g)) rule h long)
  goes s answered role.PostReturn i func given before after results k k' x e rule h long =
      let did = rule.returns results after refl in
      subst (λ z. Goes i func given before results after z x) (sym did.2) (post_return_goes i func given before after results k x e did.0 h)
  goes s answered (role.Transcoder o from from64 to to64) i func given before after results k k' x e rule h long =
      subst (λ z. Goes z func given before results after k' x) (sym e.2) (transcoder_goes o e.0 e.1 from64 to64 func given before after results k k' x
      (subst (λ z. TranscodesBy k o (p.memory e.0) from64 z to64 (event_by func given before (Returns results after)) k') (sym e.4) (subst (λ z. TranscodesBy k o z from64 to to64 (event_by func given before (Returns results after)) k') (sym e.3) rule)) h)
  goes s answered role.Transfer i func given before after results k k' x e rule h long =
      let did = rule.returns results after refl in
      transfer_goes i func given before after results k' x e did.1.0 (keeps_same k k' x (ap (λ z. z.cursors) did.1.2) (ap (λ z. z.live) did.1.2) (ap (λ z. z.returned) did.1.2) h)
  goes s answered role.Slot i func given before after results k k' x e rule h long =
      let did = rule.returns results after refl in
      slot_goes i func given before after results k' x e did.0 (subst (λ z. Keeps c a args lengths z x) (sym did.2) h)
  goes s answered role.Told i func given before after results k k' x e rule h long =
      let did = rule.returns results after refl in
      told_goes i func given before after results k' x e did.0 (subst (λ z. Keeps c a args lengths z x) (sym did.2) h)
  goes s answered role.Refused i func given before after results k k' x e rule h long = absurd (not_traps results after rule)

  -- ---- whole logs

  never_throws : (s : CallShapes) (answered : Option (List Value)) (r : Role) (k : Known) (e : Event) (k' : Known) → Answers c s answered r k e k' → e.answer ≢ Throws
  never_throws s answered role.Callee k e k' rule = rule.answers.never_throws
  never_throws s answered role.LiftRealloc k e k' rule = at c.lift.memory rule
    where
      at : (o : Option ℕ) → ReallocsAt k c.lift (cond k.returned false true) e k' o → e.answer ≢ Throws
      at None rule = λ q. cc
      at (Some n) rule = rule.never_throws
  never_throws s answered role.LowerRealloc k e k' rule = at c.lower.memory rule
    where
      at : (o : Option ℕ) → ReallocsAt k c.lower k.returned e k' o → e.answer ≢ Throws
      at None rule = λ q. cc
      at (Some n) rule = rule.never_throws
  never_throws s answered role.PostReturn k e k' rule = rule.never_throws
  never_throws s answered (role.Transcoder o from from64 to to64) k e k' rule = rule.never_throws
  never_throws s answered role.Transfer k e k' rule = rule.never_throws
  never_throws s answered role.Slot k e k' rule = rule.never_throws
  never_throws s answered role.Told k e k' rule = rule.never_throws
  never_throws s answered role.Refused k e k' rule = λ q. cc

  -- The host's answers are honest, up to a trap.
  pub answers_are_honest : (s : CallShapes) (answered : Option (List Value)) (Named : ℕ → Role → Type 0) → ((n : ℕ) (r : Role) → Named n r → IsImportOf p a r (names n))
      → (k : Known) (x : Position) (log : List Event) → AreAnswers Named c s answered k log → AreRegular lengths log → Keeps c a args lengths k x
      → AreHonestUntilTrap (AreHonest p a (sync_moved_on a args) x) (named_calls names log)
  answers_are_honest s answered Named is k x [] rules regular h = inl tt
  answers_are_honest s answered Named is k x (e ∷ es) rules regular h = by (λ k' y r g. answers_are_honest s answered Named is k' y es r regular.2 g) e.answer refl
    where
      by : ((k' : Known) (y : Position) → AreAnswers Named c s answered k' es → Keeps c a args lengths k' y → AreHonestUntilTrap (AreHonest p a (sync_moved_on a args) y) (named_calls names es)) → (ans : Answer) → e.answer ≡ ans → AreHonestUntilTrap (AreHonest p a (sync_moved_on a args) x) (call_by (names e.func) e.func e.args e.before e.answer ∷ named_calls names es)
      by rest (Returns results after) q =
          let r : Role = rules.0 in
          let rule : Answers c s answered r k (event_by e.func e.args e.before (Returns results after)) rules.2 = subst (λ z. Answers c s answered r k (event_by e.func e.args e.before z) rules.2) q rules.3 in
          let g : Goes (names e.func) e.func e.args e.before results after rules.2 x = goes s answered r (names e.func) e.func e.args e.before after results k rules.2 x (is e.func r rules.1) rule h regular.0 in
          subst (λ z. AreHonestUntilTrap (AreHonest p a (sync_moved_on a args) x) (call_by (names e.func) e.func e.args e.before z ∷ named_calls names es)) (sym q)
          (elim (rest rules.2 (sync_moved_on a args (call_by (names e.func) e.func e.args e.before (Returns results after)) x) rules.4 g.keeps) [
            | inl honest ↦ inl (tt, g.honest, honest)
            | inr last ↦ inr (record {
              front = call_by (names e.func) e.func e.args e.before (Returns results after) ∷ last.front;
              last = last.last;
              calls_are = ap (λ l. call_by (names e.func) e.func e.args e.before (Returns results after) ∷ l) last.calls_are;
              front_honest = (tt, g.honest, last.front_honest);
              last_traps = last.last_traps;
            })
          ])
      by rest Traps q = inr (record {
        front = [];
        last = call_by (names e.func) e.func e.args e.before e.answer;
        calls_are = ap (λ l. call_by (names e.func) e.func e.args e.before e.answer ∷ named_calls names l) (regular.1 q);
        front_honest = tt;
        last_traps = q;
      })
      by rest Throws q = absurd (never_throws s answered rules.0 k e rules.2 rules.3 q)

pub law : AnswersAreHonest
law m t c p a names s args lengths answered k log d once begins rules see last =
    answers_are_honest m t c p a names d once args lengths s answered (HasRole m c) (λ n r has. d.functions n has.0 r has.1 has.2) k (landed (params_landing a)) log rules (are_regular (HasRole m c) c s answered k lengths log rules see last) (record {
      landing = ap (λ b. landing_by b a args) (sym begins.returned);
      live = sym begins.live;
      live_below = λ n e. tt;
      below = λ n e. tt;
      apart = tt;
      area = λ n e. all_out (cursor_of k n) (get_or lengths n 0) (return_area a args) (begins.area n e);
      inside = begins.inside;
      cursors = begins.cursors;
      memories = begins.memories;
    })
  where
    all_out : (m top : ℕ) (rs : List Region) → AllByRecursion (λ r. (r.at + r.size ≤ m) ⊎ (top ≤ r.at)) rs → AllOut m top rs
    all_out m top [] h = tt
    all_out m top (r ∷ rs) h = (h.0, all_out m top rs h.1)
