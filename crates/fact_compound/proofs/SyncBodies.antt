-- The code that was written for a sync adapter does the adapter's action.
use Rattle.std.proofs.Common.{◌≡◌, ℕ, ◌≤◌, Bool, true, false, ◌&&◌, List, [], ◌∷◌, ◌++◌, Option, Some, None, refl, sym, ap, ◌∙◌, subst, arith, length, reverse}
use Rattle.std.specs.Prelude.{is_some, nat_eq}
use Rattle.fact_wasm.specs.declared.types.ValType.{ValType}
use Rattle.fact_wasm.specs.declared.types.ValType.TheVariants as val
use Rattle.fact_wasm.specs.declared.instr.Instr.{Instr}
use Rattle.fact_wasm.specs.declared.module.WasmModule.{WasmModule}
use Rattle.fact_types.specs.Adapters.{LinkedAdapter, is_wide}
use Rattle.fact_types.specs.Signatures.{address, flat_params, flat_values, flat_or, unless_flat, lift_by, lift_results_limit, lower_by, lower_limit}
use Rattle.fact_types.specs.Shapes.{Shape}
use Rattle.fact_types.specs.Tables.{Tables}
use Rattle.fact_entity.specs.declared.id.Id.{Id}
use Rattle.fact_entity.specs.declared.table.Funcs.{Funcs}
use Rattle.fact_types.specs.declared.import.Import.TheVariants as import
use Rattle.fact_types.specs.declared.outside.CoreDef.{CoreDef}
use Rattle.fact_machine.specs.Machine.{have_types}
use Rattle.fact_machine.specs.declared.types.CoreValue.{CoreValue}
use Rattle.fact_actions.specs.Plain.{ended_sync}
use Rattle.fact_actions.specs.Adapters.{AdapterTunables, lowered_flats, lower_signature_of, lift_signature_of, move_params}
use Rattle.fact_actions.specs.Running.{ImportPlaces}
use Rattle.fact_code_laws.specs.Does.{Locals, Onward, held_types, EndsSo, Does}
use Rattle.fact_code_laws.specs.Knows.{KnowsFunction}
use Rattle.fact_code_laws.specs.Typed.{OnStack, IsTyped}
use Rattle.fact_code_laws.specs.Places.{Slot, AreHeld, AreLocals, AreUsed, KeepsLocals}
use Rattle.fact_code_laws.proofs.ContextSteps.{MayHoldSlotsIf, AreSlotsKeptIf}
use Rattle.fact_code_laws.proofs.Rules.{within}
use Rattle.fact_emit.specs.Options.{number_if_any}
use Rattle.fact_emit.specs.Places.{AreDistinctSlots}
use Rattle.fact_emit.specs.RuntimeCalls.{slots_of}
use Rattle.fact_emit.specs.declared.context.ContextLocals.{ContextLocals}
use Rattle.fact_emit.specs.declared.imported.RuntimeFunction.TheVariants as runtime
use Rattle.fact_kinds.specs.declared.fuel.Fuel.{Fuel}
use Rattle.fact_steps.specs.Code.{pushed_code}
use Rattle.fact_steps.specs.Steps.{CanFinish, CanReturnPost, KnowsRuntimeIf}
use Rattle.fact_compound.specs.Code.{SyncParts, sync_code, with_barrier}
use Rattle.fact_compound.specs.Events.{AreCallOptions}
use Rattle.fact_compound.specs.Described.{DescribesAdapter, KnowsAdapterData, KnowsPostReturn, linear_of}
use Rattle.fact_compound.specs.Passing.{tuple_size}
use Rattle.fact_compound.specs.Syncs.{EmitsSync, EndsAsSync}
use Rattle.fact_emit.specs.declared.writer.Writer.{Writer}
use Rattle.fact_emit.proofs.Emitting.{emits_as}
use Rattle.fact_compound.specs.Written.{SyncPlaces, parts_of, IsSyncCode, KnowsUncaught, context_slots, kept_slots, written_slots, CoreLocals, HasLocals}
use Rattle.fact_compound.specs.declared.adapters.AdapterData.{AdapterData}
use Rattle.fact_compound.specs.declared.syncs.CallOptions.{CallOptions}
use Rattle.fact_compound.proofs.Flats.{AreFlat, are_flat}
use Rattle.fact_compound.proofs.KeptLocals.{equal_back, among_front, among_self, among_used, used_front, used_behind, used_by, locals_front, locals_behind, distinct_front, distinct_behind, unused_behind, unused_front, unused_rest, unused_both, used_both, none_of}
use Rattle.fact_compound.specs.Passed.{ParamsCode}
use Rattle.fact_code_laws.proofs.TypingLaws.{typed_done}
use Rattle.fact_compound.proofs.PassedOnCode.{same_flats, passed_flat, passes_on}
use Rattle.fact_compound.proofs.ParamMoves.{ParamLocals, params_moved, params_typed}
use Rattle.fact_compound.proofs.ResultPlaces.{ResultPlaces, results_do, results_code_typed}
use Rattle.fact_compound.proofs.Slots.{slots_long, values_long}
use Rattle.fact_compound.proofs.SyncTyping.{typed_sync}
use Rattle.fact_compound.proofs.SyncSteps.{among, slot_types, AreUnused, SyncLocals, SyncImports, TellsIf, IsPostReturn, syncs, held_have_types, ends_so_holds, ends_so_within, steps_assoc}
use Rattle.fact_compound.proofs.SyncWritten.{WrittenSync}

-- ---- signatures

lift_params_or : (a : LinkedAdapter) → a.lift.async_side ≡ false → (lift_signature_of a).params ≡ flat_or (address (is_wide a.lift.memory) ∷ []) (flat_values (is_wide a.lift.memory) 16 a.lift.params)
lift_params_or a sync = ap (λ b. (lift_by b (is_some a.lift.callback) (is_wide a.lift.memory) a.lift.params a.lift.results).params) sync

lift_results_are : (a : LinkedAdapter) → a.lift.async_side ≡ false → (lift_signature_of a).results ≡ flat_or (address (is_wide a.lift.memory) ∷ []) (flat_values (is_wide a.lift.memory) 1 a.lift.results)
lift_results_are a sync = ap (λ b. (lift_by b (is_some a.lift.callback) (is_wide a.lift.memory) a.lift.params a.lift.results).results) sync

lower_results_are : (a : LinkedAdapter) → a.lower.async_side ≡ false → (lower_signature_of a).results ≡ flat_or [] (flat_values (is_wide a.lower.memory) 1 a.lower.results)
lower_results_are a sync = ap (λ b. (lower_by b (is_wide a.lower.memory) a.lower.params a.lower.results).results) sync

-- at most so many where they are flat or an address
pub few_slots : (limit : ℕ) (o : Option (List ValType)) (ts : List ValType) (ss : List Slot) → length ts ≤ limit → ((fs : List ValType) → o ≡ Some fs → length fs ≤ limit) → slot_types ss ≡ flat_or ts o → length ss ≤ limit
few_slots limit None ts ss few h e = omega (arith, sym (slots_long ss) ∙ ap length e, few)
few_slots limit (Some fs) ts ss few h e = omega (arith, sym (slots_long ss) ∙ ap length e, h fs refl)

pub flat_few : (m : Bool) (limit : ℕ) {ss : List Shape} (fs : List ValType) → AreFlat m limit ss fs → length fs ≤ limit
flat_few m limit fs f = omega (arith, ap length f.are ∙ values_long _, f.few)

-- locals of the slots of the context may be set, and are kept
may_hold : (p : ImportPlaces) (used : ℕ → Bool) (locals : List ValType) (b : Bool) (c : ContextLocals) → AreLocals locals (context_slots b c) → AreUnused used (context_slots b c) → AreDistinctSlots (context_slots b c) → MayHoldSlotsIf b used locals (slots_of p c)
may_hold p used locals false c t u d = tt
may_hold p used locals true c t u d = record { typed0 = t.0; typed1 = t.1.0; free0 = u.0; free1 = u.1.0; apart = d.0.0 }

are_kept : (p : ImportPlaces) (used : ℕ → Bool) (b : Bool) (c : ContextLocals) → AreUsed used (context_slots b c) → AreSlotsKeptIf b used (slots_of p c)
are_kept p used false c u = tt
are_kept p used true c u = record { kept0 = u.0; kept1 = u.1.0 }

-- ---- what it calls

tells : (M : WasmModule) (p : ImportPlaces) (b : Bool) → KnowsRuntimeIf b M p runtime.EnterSyncCall → KnowsRuntimeIf b M p runtime.ExitSyncCall → TellsIf b M p (p.function import.EnterSyncCall) (p.function import.ExitSyncCall)
tells M p false x y = tt
tells M p true x y = (x, y)

knows_post : (M : WasmModule) (p : ImportPlaces) (given : List ValType) (n : Option (Id Funcs)) (f : Option CoreDef) → KnowsPostReturn M p given n f → IsPostReturn M p given f (number_if_any n)
knows_post M p given None None h = tt
knows_post M p given (Some n) (Some f) h = h
knows_post M p given None (Some f) h = absurd h
knows_post M p given (Some n) None h = absurd h

and_false : (b : Bool) → (b && false) ≡ false
and_false true = refl
and_false false = refl

-- without a post-return the slots are not looked at
can_return : {M : WasmModule} {p : ImportPlaces} {callee own : ContextLocals} (given : List ValType) (context concurrency : Bool) (n : Option (Id Funcs)) (f : Option CoreDef) → KnowsPostReturn M p given n f → context ≡ (concurrency && is_some f)
    → CanFinish n context callee own M p → CanReturnPost context callee own M p
can_return {M} {p} {callee} {own} given context concurrency None None h e c =
    let off : context ≡ false = e ∙ and_false concurrency in
    subst (λ b. CanReturnPost b callee own M p) (sym off) (record { reads_own = tt; writes = tt; writes_own = tt })
can_return given context concurrency (Some n) (Some f) h e c = c
can_return given context concurrency None (Some f) h e c = absurd h
can_return given context concurrency (Some n) None h e c = absurd h

module _ {t : Tables} {d : AdapterData} {debug : Bool} {o : CallOptions} {u : AdapterTunables} {a : LinkedAdapter} (h : DescribesAdapter t d debug u a) (asks : AreCallOptions o u a) {M : WasmModule} {p : ImportPlaces} {locals : List ValType} {taken : ℕ → Bool} (links : KnowsAdapterData M p d a) (l : SyncPlaces) (room : HasLocals a o.context l taken locals)
    (lift_size : tuple_size (linear_of d.lift).memory64 a.lift.results ≤ 4294967295) (lower_size : tuple_size (linear_of d.lower).memory64 a.lower.results ≤ 4294967295) {code : List Instr}
    (k : IsSyncCode d debug o l taken a.lower.params a.lower.results a.lift.params a.lift.results M p locals code) where
  abbrev s : SyncParts
  s = parts_of d o l p k.are_steps.calls.may_leave k.uncaught

  abbrev params : List Instr
  params = k.are_steps.calls.params

  abbrev results : List Instr
  results = k.are_steps.returns.results

  abbrev kept : ℕ → Bool
  kept = among (kept_slots l)

  abbrev others : List Slot
  others = written_slots l.passed o.context l

  abbrev callee_slots : List Slot
  callee_slots = context_slots o.context l.callee_context

  abbrev own_slots : List Slot
  own_slots = context_slots o.context l.own_context

  -- behind the callee, behind the read of its context, and behind the results
  abbrev behind_given : List Slot
  behind_given = callee_slots ++ (l.results ++ own_slots)

  -- what the callee gave is kept too from its call on, then the context that it left, then the results
  abbrev with_given : ℕ → Bool
  with_given = among (kept_slots l ++ l.given)

  abbrev with_slots : ℕ → Bool
  with_slots = among ((kept_slots l ++ l.given) ++ callee_slots)

  abbrev with_results : ℕ → Bool
  with_results = among (((kept_slots l ++ l.given) ++ callee_slots) ++ l.results)

  args_typed : AreLocals locals l.args
  args_typed = locals_front locals l.args _ (locals_front locals (kept_slots l) others room.typed)

  flags_typed : AreLocals locals ((l.saved, val.I32) ∷ (l.lift_saved, val.I32) ∷ [])
  flags_typed = locals_behind locals l.args _ (locals_front locals (kept_slots l) others room.typed)

  others_typed : AreLocals locals others
  others_typed = locals_behind locals (kept_slots l) others room.typed

  others_unused : AreUnused kept others
  others_unused = unused_behind (kept_slots l) others room.distinct

  flags_unused : AreUnused (among l.args) ((l.saved, val.I32) ∷ (l.lift_saved, val.I32) ∷ [])
  flags_unused = unused_behind l.args _ (distinct_front (kept_slots l) others room.distinct)

  flags_kept : AreUsed kept ((l.saved, val.I32) ∷ (l.lift_saved, val.I32) ∷ [])
  flags_kept = used_behind kept l.args _ (among_self (kept_slots l))

  args_kept : AreUsed kept l.args
  args_kept = used_front kept l.args _ (among_self (kept_slots l))

  others_distinct : AreDistinctSlots others
  others_distinct = distinct_behind (kept_slots l) others room.distinct

  all_used : AreUsed taken (kept_slots l)
  all_used = used_front taken (kept_slots l) others room.used

  others_used : AreUsed taken others
  others_used = used_behind taken (kept_slots l) others room.used

  -- the locals that are written behind the call
  outs_by : (P : List Slot → Type 0) → ((xs ys : List Slot) → P (xs ++ ys) → P ys) → (b : Bool) → P (written_slots b o.context l) → P (l.given ++ behind_given)
  outs_by P behind false h = behind l.core (l.given ++ behind_given) h
  outs_by P behind true h = h

  outs_typed : AreLocals locals (l.given ++ behind_given)
  outs_typed = outs_by (λ ss. AreLocals locals ss) (locals_behind locals) l.passed others_typed

  outs_unused : AreUnused kept (l.given ++ behind_given)
  outs_unused = outs_by (λ ss. AreUnused kept ss) (unused_rest kept) l.passed others_unused

  outs_distinct : AreDistinctSlots (l.given ++ behind_given)
  outs_distinct = outs_by (λ ss. AreDistinctSlots ss) distinct_behind l.passed others_distinct

  outs_used : AreUsed taken (l.given ++ behind_given)
  outs_used = outs_by (λ ss. AreUsed taken ss) (used_behind taken) l.passed others_used

  given_typed : AreLocals locals l.given
  given_typed = locals_front locals l.given behind_given outs_typed

  behind_typed : AreLocals locals behind_given
  behind_typed = locals_behind locals l.given behind_given outs_typed

  last_typed : AreLocals locals (l.results ++ own_slots)
  last_typed = locals_behind locals callee_slots (l.results ++ own_slots) behind_typed

  behind_distinct : AreDistinctSlots behind_given
  behind_distinct = distinct_behind l.given behind_given outs_distinct

  last_distinct : AreDistinctSlots (l.results ++ own_slots)
  last_distinct = distinct_behind callee_slots (l.results ++ own_slots) behind_distinct

  behind_used : AreUsed taken behind_given
  behind_used = used_behind taken l.given behind_given outs_used

  last_used_too : AreUsed taken (l.results ++ own_slots)
  last_used_too = used_behind taken callee_slots (l.results ++ own_slots) behind_used

  behind_unused : AreUnused with_given behind_given
  behind_unused = unused_both (kept_slots l) l.given behind_given (unused_rest kept l.given behind_given outs_unused) (unused_behind l.given behind_given outs_distinct)

  last_unused : AreUnused with_slots (l.results ++ own_slots)
  last_unused = unused_both (kept_slots l ++ l.given) callee_slots (l.results ++ own_slots) (unused_rest with_given callee_slots (l.results ++ own_slots) behind_unused) (unused_behind callee_slots (l.results ++ own_slots) behind_distinct)

  own_unused : AreUnused with_results own_slots
  own_unused = unused_both ((kept_slots l ++ l.given) ++ callee_slots) l.results own_slots (unused_rest with_slots l.results own_slots last_unused) (unused_behind l.results own_slots last_distinct)

  all_locals : SyncLocals s l.args kept with_given with_slots with_results locals
  all_locals = record {
    args_used = args_kept;
    saved_used = flags_kept.0;
    lift_saved_used = flags_kept.1.0;
    saved_apart = none_of l.saved l.args flags_unused.0;
    lift_saved_apart = none_of l.lift_saved l.args flags_unused.1.0;
    flags_apart = apart;
    saved_typed = flags_typed.0;
    lift_saved_typed = flags_typed.1.0;
    given_typed = given_typed;
    given_unused = unused_front kept l.given behind_given outs_unused;
    given_distinct = distinct_front l.given behind_given outs_distinct;
    more_given = among_front (kept_slots l) l.given;
    given_used = used_behind with_given (kept_slots l) l.given (among_self (kept_slots l ++ l.given));
    callee_slots = may_hold p with_given locals o.context l.callee_context (locals_front locals callee_slots (l.results ++ own_slots) behind_typed) (unused_front with_given callee_slots (l.results ++ own_slots) behind_unused) (distinct_front callee_slots (l.results ++ own_slots) behind_distinct);
    more_slots = among_front (kept_slots l ++ l.given) callee_slots;
    slots_used = are_kept p with_slots o.context l.callee_context (used_behind with_slots (kept_slots l ++ l.given) callee_slots (among_self ((kept_slots l ++ l.given) ++ callee_slots)));
    more_results = among_front ((kept_slots l ++ l.given) ++ callee_slots) l.results;
    results_used = used_behind with_results ((kept_slots l ++ l.given) ++ callee_slots) l.results (among_self (((kept_slots l ++ l.given) ++ callee_slots) ++ l.results));
    own_slots = may_hold p with_results locals o.context l.own_context (locals_behind locals l.results own_slots last_typed) own_unused (distinct_behind l.results own_slots last_distinct);
  }
    where
      apart : nat_eq l.lift_saved l.saved ≡ false
      apart = equal_back l.saved l.lift_saved (distinct_behind l.args _ (distinct_front (kept_slots l) others room.distinct)).0.0

  -- ---- the parameters

  params_local : AreLocals locals l.params
  params_local = locals_front locals l.params room.rest (subst (λ ss. AreLocals locals ss) room.args args_typed)

  -- what the code of the parameters does, and the locals of the callee's parameters
  abbrev ParamsPart : Type 0
  ParamsPart =
      ((ls : Locals) (args : List CoreValue) → held_types ls ≡ locals → AreHeld ls l.args args → Does M p Onward 384 0 [] ls params (move_params u a args) (λ vs. []) (λ vs ls'. AreHeld ls' l.core vs × KeepsLocals kept ls ls'))
      × IsTyped M locals [] params [] (OnStack []) × (slot_types l.core ≡ (lift_signature_of a).params) × AreLocals locals l.core

  params_part : (b : Bool) → CoreLocals b a l → AreLocals locals (written_slots b o.context l) → AreUnused kept (written_slots b o.context l) → AreUsed taken (written_slots b o.context l) → AreDistinctSlots (written_slots b o.context l)
      → ParamsCode b d debug o.concurrency l.params l.core taken a.lower.params a.lift.params M p locals params → ParamsPart
  params_part false core typed unused used distinct moves =
      let fs = flat_values (is_wide a.lower.memory) (lower_limit a.lower.async_side) a.lower.params in
      let gs = flat_values (is_wide a.lift.memory) 16 a.lift.params in
      let core_local : AreLocals locals l.core = locals_front locals l.core (l.given ++ behind_given) typed in
      let of_params : ParamLocals a fs gs l.params l.core locals kept taken = record {
        lower_is = refl;
        lift_is = refl;
        params_types = room.params_types ∙ sym (ap (λ b. flat_params (is_wide a.lower.memory) (lower_limit b) a.lower.params) h.lower_sync);
        core_types = core ∙ lift_params_or a h.lift_sync;
        params_typed = params_local;
        core_typed = core_local;
        params_kept = used_front kept l.params room.rest (subst (λ ss. AreUsed kept ss) room.args args_kept);
        core_unused = unused_front kept l.core (l.given ++ behind_given) unused;
        core_taken = used_front taken l.core (l.given ++ behind_given) used;
        core_distinct = distinct_front l.core (l.given ++ behind_given) distinct;
        inside = among_used taken (kept_slots l) all_used;
      } in (
        λ ls args held there. params_moved h.transfers asks.concurrency l.params l.core moves fs gs of_params links.params_lists links.params_memory links.params_area room.rest ls args held (subst (λ ss. AreHeld ls ss args) room.args there),
        params_typed h.transfers asks.concurrency l.params l.core moves fs gs of_params links.params_lists links.params_memory links.params_area,
        core,
        core_local,
      )
  params_part true core typed unused used distinct none =
      let (fs, e) = passed_flat (is_wide a.lower.memory) core.1.types core.1.all core.1.few a.lower.params core.1.from_are in
      let (gs, f) = passed_flat (is_wide a.lift.memory) core.1.types core.1.all core.1.few a.lift.params core.1.to_are in
      let types : slot_types l.params ≡ fs = room.params_types ∙ ap (flat_or (address (is_wide a.lower.memory) ∷ [])) e in (
        λ ls args held there.
            subst (λ ss. Does M p Onward 384 0 [] ls params (move_params u a args) (λ vs. []) (λ vs ls'. AreHeld ls' ss vs × KeepsLocals kept ls ls')) (sym core.0)
            (subst (λ c. Does M p Onward 384 0 [] ls c (move_params u a args) (λ vs. []) (λ vs ls'. AreHeld ls' l.params vs × KeepsLocals kept ls ls')) (sym none)
            (within (omega arith) (passes_on u a kept l.params room.rest ls args h.lower_sync core.1 e f types (subst (λ ss. AreHeld ls ss args) room.args there)))),
        subst (λ c. IsTyped M locals [] c [] (OnStack [])) (sym none) typed_done,
        ap slot_types core.0 ∙ types ∙ same_flats a core.1 e f ∙ sym (lift_params_or a h.lift_sync ∙ ap (flat_or (address (is_wide a.lift.memory) ∷ [])) f),
        subst (λ ss. AreLocals locals ss) (sym core.0) params_local,
      )

  parts : ParamsPart
  parts = params_part l.passed room.core others_typed others_unused others_used others_distinct k.are_steps.calls.moves_params

  can_post : CanReturnPost o.context l.callee_context l.own_context M p
  can_post = can_return (lift_signature_of a).results o.context u.concurrency d.lift.post_return a.lift.post_return links.post_return asks.context k.are_steps.returns.finishes

  all_imports : SyncImports M p u a s
  all_imports = record {
    lower_flags = links.lower.flags;
    lift_flags = links.lift.flags;
    may_leave = k.are_steps.calls.has;
    callee = subst (λ ts. KnowsFunction M p (import.CoreDef a.callee) d.callee.number ts (lift_signature_of a).results) (sym parts.2) links.callee;
    given = room.given_types;
    unmarked = h.unmarked;
    instance_is = h.instance;
    told_is = asks.told;
    tells = tells M p o.told k.are_steps.calls.enters k.are_steps.returns.exits;
    context_is = asks.context;
    post_return = knows_post M p (lift_signature_of a).results d.lift.post_return a.lift.post_return links.post_return;
    reads = k.are_steps.returns.reads;
    writes = can_post.writes;
    reads_own = can_post.reads_own;
    writes_own = can_post.writes_own;
    barrier = subst (λ b. KnowsUncaught b M p k.uncaught) asks.barrier k.barrier;
  }

  -- ---- the results

  given_kept : AreUsed with_slots l.given
  given_kept = used_by (among_front (kept_slots l ++ l.given) callee_slots) l.given (used_behind with_given (kept_slots l) l.given (among_self (kept_slots l ++ l.given)))

  args_kept_too : AreUsed with_slots l.args
  args_kept_too = used_by (among_front (kept_slots l ++ l.given) callee_slots) l.args (used_by (among_front (kept_slots l) l.given) l.args args_kept)

  results_local : AreLocals locals l.results
  results_local = locals_front locals l.results own_slots last_typed

  result_places : ResultPlaces a l.given l.results l.args locals with_slots taken
  result_places = record {
    front = l.params;
    rest = room.rest;
    args_are = room.args;
    given_types = room.given_types ∙ lift_results_are a h.lift_sync ∙ sym (ap (λ b. flat_or (address (is_wide a.lift.memory) ∷ []) (flat_values (is_wide a.lift.memory) (lift_results_limit b) a.lift.results)) h.lift_sync);
    results_types = room.results_types ∙ lower_results_are a h.lower_sync ∙ sym (ap (λ b. flat_or [] (lowered_flats b (is_wide a.lower.memory) a.lower.results)) h.lower_sync);
    rest_types = room.rest_types ∙ sym (ap (λ b. unless_flat (address (is_wide a.lower.memory) ∷ []) (lowered_flats b (is_wide a.lower.memory) a.lower.results)) h.lower_sync);
    given_typed = given_typed;
    results_typed = results_local;
    args_typed = args_typed;
    given_kept = given_kept;
    args_kept = args_kept_too;
    results_unused = unused_front with_slots l.results own_slots last_unused;
    results_taken = used_front taken l.results own_slots last_used_too;
    results_distinct = distinct_front l.results own_slots last_distinct;
    inside = among_used taken ((kept_slots l ++ l.given) ++ callee_slots)
        (used_both taken (kept_slots l ++ l.given) callee_slots (used_both taken (kept_slots l) l.given all_used (used_front taken l.given behind_given outs_used)) (used_front taken callee_slots (l.results ++ own_slots) behind_used));
  }

  -- ---- the whole

  -- the steps as they were written, in their barrier, and the results pushed
  code_is : code ≡ sync_code s params results
  code_is =
      let calls = k.are_steps.calls in
      let returns = k.are_steps.returns in
      k.is ∙ ap (λ c. with_barrier k.uncaught c ++ pushed_code l.results) (k.are_steps.is ∙ (λ i. calls.is i ++ returns.is i) ∙ steps_assoc s params results)

  -- The code comes to what the adapter comes to, in at most 1,000 steps beside those of the weight, and leaves results of their types.
  pub sync_does : (args : List CoreValue) (ls : Locals) → held_types ls ≡ locals → AreHeld ls l.args args → EndsAsSync u a M p args ls code
  sync_does args ls held there =
      let core : length l.core ≤ 16 = few_slots 16 (flat_values (is_wide a.lift.memory) 16 a.lift.params) (address (is_wide a.lift.memory) ∷ []) l.core (omega arith) (λ gs f. flat_few (is_wide a.lift.memory) 16 gs (are_flat (is_wide a.lift.memory) 16 a.lift.params gs f)) (parts.2 ∙ lift_params_or a h.lift_sync) in
      let given : length l.given ≤ 1 = few_slots 1 (flat_values (is_wide a.lift.memory) 1 a.lift.results) (address (is_wide a.lift.memory) ∷ []) l.given (omega arith) (λ fs e. flat_few (is_wide a.lift.memory) 1 fs (are_flat (is_wide a.lift.memory) 1 a.lift.results fs e)) (room.given_types ∙ lift_results_are a h.lift_sync) in
      let outs : length l.results ≤ 1 = few_slots 1 (flat_values (is_wide a.lower.memory) 1 a.lower.results) [] l.results (omega arith) (λ fs e. flat_few (is_wide a.lower.memory) 1 fs (are_flat (is_wide a.lower.memory) 1 a.lower.results fs e)) (room.results_types ∙ lower_results_are a h.lower_sync) in
      record {
        by = λ w.
            ends_so_holds (λ vs ls' x. ap (have_types vs) (sym room.results_types) ∙ held_have_types ls' l.results vs x)
            (subst (λ c. EndsSo M p Onward 1000 0 w [] ls c reverse (λ vs ls'. AreHeld ls' l.results vs) (ended_sync p u a args w)) (sym code_is)
            (ends_so_within (omega (arith, core, given, outs)) (syncs u a s args all_imports all_locals (λ ls e g. parts.0 ls args e g) (λ ls rs e g g'. results_do h.transfers asks.concurrency links l.given l.results l.args result_places lift_size lower_size k.are_steps.returns.moves_results ls args rs e g g') ls held there w)));
      }

  -- It is typed, with the results on the stack.
  pub sync_typed : IsTyped M locals [] code [] (OnStack (reverse (lower_signature_of a).results))
  sync_typed =
      subst (λ ts. IsTyped M locals [] code [] (OnStack (reverse ts))) room.results_types
      (subst (λ c. IsTyped M locals [] c [] (OnStack (reverse (slot_types l.results)))) (sym code_is)
      (typed_sync a s all_imports all_locals parts.3 results_local parts.1 (results_code_typed h.transfers asks.concurrency links l.given l.results l.args result_places lift_size lower_size k.are_steps.returns.moves_results)))

-- what was written for a sync adapter does its action
pub sync_emits : {t : Tables} {d : AdapterData} {debug : Bool} {o : CallOptions} (l : SyncPlaces) {before after : Fuel} {old new : Writer} → WrittenSync t d debug o l before after old new → EmitsSync t d debug o l before after old new
sync_emits l w = record {
  grew = w.grew;
  asks = w.asks;
  translated = w.translated;
  asked = w.asked;
  emits = λ u a h asks.
      let lower = h.transfers.lower.signature in
      let lift = h.transfers.lift.signature in
      let lift_size = w.lift_size a.lift.params a.lift.results lift in
      let lower_size = w.lower_size a.lower.params a.lower.results lower in
      emits_as (λ M p locals code k. record {
        does = λ links room args ls held there. sync_does h asks links l room lift_size lower_size k args ls held there;
        typed = λ links room. sync_typed h asks links l room lift_size lower_size k;
      })
      (w.emits a.lower.params a.lower.results a.lift.params a.lift.results lower lift h.transfers.params h.transfers.results);
}
