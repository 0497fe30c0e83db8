-- The body of a sync adapter over locals that were added for it.
use Rattle.std.proofs.Common.{◌≡◌, Bool, true, false, List, [], ◌∷◌, ◌++◌, refl, sym, ap, ◌∙◌, subst, length, map, slice_get, reverse}
use Rattle.fact_wasm.specs.declared.types.ValType.{ValType}
use Rattle.fact_wasm.specs.declared.types.ValType.TheVariants as val
use Rattle.fact_wasm.specs.declared.module.WasmModule.{WasmModule}
use Rattle.fact_types.specs.Adapters.{LinkedAdapter, is_wide}
use Rattle.fact_types.specs.Shapes.{Shape}
use Rattle.fact_types.specs.Signatures.{address, flat_values, flat_params, unless_flat, lower_by}
use Rattle.fact_types.specs.Tables.{Tables}
use Rattle.fact_types.specs.declared.signature.Signature.{Signature}
use Rattle.fact_machine.specs.Trace.{Grows}
use Rattle.fact_actions.specs.Adapters.{AdapterTunables, lower_signature_of, lift_signature_of}
use Rattle.fact_actions.specs.Running.{ImportPlaces}
use Rattle.fact_code_laws.specs.Places.{Slot, AreHeld, AreLocals, AreUsed}
use Rattle.fact_code_laws.specs.Typed.{OnStack, IsTyped}
use Rattle.fact_emit.specs.Brought.{Brought}
use Rattle.fact_emit.specs.Asked.{HasHelpers}
use Rattle.fact_emit.specs.Emits.{Later}
use Rattle.fact_emit.specs.Imports.{Extended, AreOnce, Serves}
use Rattle.fact_emit.specs.Places.{AreDistinctSlots, slots_of_locals}
use Rattle.fact_emit.specs.Writers.{AreNumberTypes, types_of_locals, used_local_of, is_local_in_use, taken_in}
use Rattle.fact_emit.specs.declared.writer.Local.{Local}
use Rattle.fact_emit.specs.declared.writer.Writer.{Writer}
use Rattle.fact_emit.proofs.BroughtLaws.{brought_between}
use Rattle.fact_emit.proofs.ImportLaws.{grown_get, grows_none, grows_on}
use Rattle.fact_emit.proofs.Locals.{get_map}
use Rattle.fact_emit.specs.NamedFunctions.{defined_named}
use Rattle.fact_kinds.specs.declared.fuel.Fuel.{Fuel}
use Rattle.fact_compound.specs.Described.{DescribesAdapter, KnowsAdapterData}
use Rattle.fact_compound.specs.Functions.{slots_from, AddedSyncLocals, PutBody, DoesBody, WroteBody, places_with, sync_types, added_slots, context_types, unless_passed}
use Rattle.fact_compound.specs.Events.{AreCallOptions}
use Rattle.fact_compound.specs.Syncs.{EndsAsSync}
use Rattle.fact_compound.specs.declared.syncs.CallOptions.{CallOptions}
use Rattle.fact_compound.specs.Code.{slot_types}
use Rattle.fact_steps.specs.PassedOn.{ArePassedOn}
use Rattle.fact_compound.specs.Written.{CoreLocals, HasLocals, all_slots, kept_slots, outs_slots}
use Rattle.fact_types.specs.Functions.{HasSignature}
use Rattle.fact_compound.proofs.Runs.{numbers_append, numbers_front, numbers_behind}
use Rattle.fact_compound.specs.declared.adapters.AdapterData.{AdapterData}
use Rattle.fact_compound.specs.declared.functions.AdapterLocals.{AdapterLocals}
use Rattle.fact_compound.proofs.SlotsFrom.{same_place, locals_from, used_from, distinct_from, used_types, IsSplit, split}
use Rattle.fact_compound.proofs.KeyLaws.{sync_keys}
use Rattle.fact_compound.proofs.AsksLaws.{asks_same}

-- the parameters of a sync lower side
lower_params_are : (a : LinkedAdapter) → a.lower.async_side ≡ false
    → (lower_signature_of a).params ≡ flat_params (is_wide a.lower.memory) 16 a.lower.params ++ unless_flat (address (is_wide a.lower.memory) ∷ []) (flat_values (is_wide a.lower.memory) 1 a.lower.results)
lower_params_are a sync = ap (λ b. (lower_by b (is_wide a.lower.memory) a.lower.params a.lower.results).params) sync

-- the callee's parameters in their own locals, or in those of the parameters
core_are : (b : Bool) (a : LinkedAdapter) (l : AdapterLocals) (lift : Signature) (params : List Slot) → slot_types (slots_of_locals l.core.items) ≡ unless_passed b lift.params → lift ≡ lift_signature_of a → (b ≡ true → ArePassedOn a.lower.params a.lift.params) → CoreLocals b a (places_with b l params)
core_are false a l lift params e lift_is f = e ∙ ap (λ (s : Signature). s.params) lift_is
core_are true a l lift params e lift_is f = (refl, f refl)

no_slots : (ss : List Slot) → slot_types ss ≡ [] → ss ≡ []
no_slots [] e = refl
no_slots (s ∷ ss) e = cc

slots_are_added : (b context : Bool) (l : AdapterLocals) (lift : Signature) (params : List Slot) → slot_types (slots_of_locals l.core.items) ≡ unless_passed b lift.params → all_slots context (places_with b l params) ≡ added_slots context l
slots_are_added false context l lift params e = refl
slots_are_added true context l lift params e =
    ap (λ cs. kept_slots (places_with true l params) ++ (cs ++ outs_slots context (places_with true l params))) (sym (no_slots (slots_of_locals l.core.items) e))

-- types of numbers without those of the callee's parameters
numbers_less : (b : Bool) (lower lift : Signature) → AreNumberTypes (sync_types false false lower lift) → AreNumberTypes (sync_types b false lower lift)
numbers_less false lower lift h = h
numbers_less true lower lift h =
    let front : List ValType = lower.params ++ val.I32 ∷ val.I32 ∷ [] in
    let rest : List ValType = lift.results ++ (lower.results ++ []) in
    numbers_append front rest (numbers_front front (lift.params ++ rest) h) (numbers_behind lift.params rest (numbers_behind front (lift.params ++ rest) h))

-- and with those for the slots of the context
numbers_context : (b context : Bool) (lower lift : Signature) → AreNumberTypes (sync_types false false lower lift) → AreNumberTypes (sync_types b context lower lift)
numbers_context b false lower lift h = numbers_less b lower lift h
numbers_context b true lower lift h =
    let less = numbers_less b lower lift h in
    let front : List ValType = lower.params ++ val.I32 ∷ val.I32 ∷ [] in
    let core : List ValType = unless_passed b lift.params in
    let two : List ValType = val.I32 ∷ val.I32 ∷ [] in
    let behind = numbers_behind front (core ++ (lift.results ++ (lower.results ++ []))) less in
    let outs = numbers_behind core (lift.results ++ (lower.results ++ [])) behind in
    let results = numbers_front lower.results [] (numbers_behind lift.results (lower.results ++ []) outs) in
    numbers_append front (core ++ (lift.results ++ (two ++ (lower.results ++ two)))) (numbers_front front (core ++ (lift.results ++ (lower.results ++ []))) less)
    (numbers_append core (lift.results ++ (two ++ (lower.results ++ two))) (numbers_front core (lift.results ++ (lower.results ++ [])) behind)
    (numbers_append lift.results (two ++ (lower.results ++ two)) (numbers_front lift.results (lower.results ++ []) outs) (numbers_append two (lower.results ++ two) refl (numbers_append lower.results two results refl))))

module _ {t : Tables} {d : AdapterData} {debug : Bool} {o : CallOptions} (passed : Bool) (are : passed ≡ true → (ps rs qs ss : List Shape) → HasSignature t d.lower.ty ps rs → HasSignature t d.lift.ty qs ss → ArePassedOn ps qs)
    {lower lift : Signature} {before after : Fuel} {a0 b c : Writer} {l : AdapterLocals} (no_code : a0.code.items ≡ []) (no_locals : a0.locals.items ≡ []) (x : AddedSyncLocals passed o.context a0 b lower lift l) (y : PutBody t d debug o passed l before after b c) where
  abbrev types : List ValType
  types = sync_types passed o.context lower lift

  added_locals : b.locals.items ≡ map used_local_of types
  added_locals = x.added.locals ∙ ap (λ ls. ls ++ map used_local_of types) no_locals

  types_are : types_of_locals b ≡ types
  types_are = ap (map (λ (l : Local). l.ty)) added_locals ∙ used_types types

  start : length a0.locals.items ≡ 0
  start = ap length no_locals

  all_are : all_slots o.context (places_with passed l y.params) ≡ slots_from 0 types
  all_are = slots_are_added passed o.context l lift y.params x.core_types ∙ x.added.slots_are ∙ ap (λ k. slots_from k types) start

  args_are : slots_of_locals l.args.items ≡ slots_from 0 lower.params
  args_are = x.args ∙ ap (λ k. slots_from k lower.params) start

  all_typed : AreLocals (types_of_locals c) (all_slots o.context (places_with passed l y.params))
  all_typed = subst (λ ss. AreLocals (types_of_locals c) ss) (sym all_are) (locals_from (types_of_locals c) 0 types (λ i u e. ap (slice_get (types_of_locals c)) (same_place i) ∙ grown_get y.put.grew.locals i u (ap (λ ts. slice_get ts i) types_are ∙ e)))

  all_used : AreUsed (taken_in b) (all_slots o.context (places_with passed l y.params))
  all_used =
      subst (λ ss. AreUsed (taken_in b) ss) (sym all_are) (used_from (taken_in b) 0 types (λ i u e.
      ap (taken_in b) (same_place i) ∙ ap (λ ls. is_local_in_use (slice_get ls i)) added_locals ∙ ap is_local_in_use (get_map used_local_of types i u e)))

  all_distinct : AreDistinctSlots (all_slots o.context (places_with passed l y.params))
  all_distinct = subst (λ ss. AreDistinctSlots ss) (sym all_are) (distinct_from 0 types)

  module _ {u : AdapterTunables} {a : LinkedAdapter} (h : DescribesAdapter t d debug u a) (asks : AreCallOptions o u a) (lower_is : lower ≡ lower_signature_of a) (lift_is : lift ≡ lift_signature_of a) where
    pointed : IsSplit (flat_values (is_wide a.lower.memory) 1 a.lower.results) (address (is_wide a.lower.memory)) (flat_params (is_wide a.lower.memory) 16 a.lower.params) (slots_of_locals l.args.items) y.params
    pointed =
        split (flat_values (is_wide a.lower.memory) 1 a.lower.results) (address (is_wide a.lower.memory)) (flat_params (is_wide a.lower.memory) 16 a.lower.params) (slots_of_locals l.args.items) y.params
        (args_are ∙ ap (slots_from 0) (ap (λ (s : Signature). s.params) lower_is ∙ lower_params_are a h.lower_sync)) (y.split a.lower.params a.lower.results h.transfers.lower.signature h.transfers.results.to_counted (is_wide a.lower.memory))

    room : HasLocals a o.context (places_with passed l y.params) (taken_in b) (types_of_locals c)
    room = record {
      rest = pointed.rest;
      args = pointed.args_are;
      params_types = pointed.params_types;
      rest_types = pointed.rest_types;
      core = core_are passed a l lift y.params x.core_types lift_is (λ e. are e a.lower.params a.lower.results a.lift.params a.lift.results h.transfers.lower.signature h.transfers.lift.signature);
      given_types = x.given_types ∙ ap (λ (s : Signature). s.results) lift_is;
      results_types = x.results_types ∙ ap (λ (s : Signature). s.results) lower_is;
      typed = all_typed;
      used = all_used;
      distinct = all_distinct;
    }

    body_does : (M : WasmModule) (p : ImportPlaces) → Serves M p c.sections → HasHelpers M p y.put.asks → KnowsAdapterData M p d a → DoesBody u a M p (types_of_locals c) c.code.items
    body_does M p serves has links =
        let e = y.put.emits u a h asks in
        let later : Later c M p (types_of_locals c) = record { serves = serves; begin = grows_none refl } in
        let m = e.does M p (types_of_locals c) later has in
        let code : c.code.items ≡ e.grew.added = e.grew.code ∙ ap (λ k. k ++ e.grew.added) (x.added.code ∙ no_code) in
        let there : slots_of_locals l.args.items ≡ slots_from 0 (lower_signature_of a).params = args_are ∙ ap (λ (s : Signature). slots_from 0 s.params) lower_is in
        record {
          does = λ args ls held h'. subst (λ k. EndsAsSync u a M p args ls k) (sym code) (m.does links room args ls held (subst (λ ss. AreHeld ls ss args) (sym there) h'));
          typed = subst (λ k. IsTyped M (types_of_locals c) [] k [] (OnStack (reverse (lower_signature_of a).results))) (sym code) (m.typed links room);
        }

  -- The body was written, with its locals.
  pub wrote_body : WroteBody t d debug o lower lift before a0 c
  wrote_body =
      let g = y.put.grew in
      let body : c.code.items ≡ g.added = g.code ∙ ap (λ k. k ++ g.added) (x.added.code ∙ no_code) in
      let first : Grows lower.params (lower.params ++ val.I32 ∷ val.I32 ∷ []) = record { more = val.I32 ∷ val.I32 ∷ []; is = refl } in
      let second : Grows (lower.params ++ val.I32 ∷ val.I32 ∷ []) types = record { more = unless_passed passed lift.params ++ (lift.results ++ (context_types o.context ++ (lower.results ++ context_types o.context))); is = refl } in
      record {
        imports = subst (λ s. Extended s c.sections) x.added.imports y.put.grew.imports;
        once = λ o. y.put.grew.once (subst AreOnce (sym x.added.imports) o);
        brought = brought_between x.added.imports refl (subst (Brought b.sections c.sections) (sym body) y.put.grew.brought);
        params = grows_on first (grows_on second (subst (λ ts. Grows ts (types_of_locals c)) types_are y.put.grew.locals));
        numbers = λ n. y.put.grew.numbers (subst (λ ts. AreNumberTypes ts) (sym types_are) (numbers_context passed o.context lower lift n));
        asks = y.put.asks;
        asked = asks_same x.added.imports refl y.put.asked;
        named = ap defined_named body ∙ g.calls;
        keys = λ full u a h. sync_keys y.put.translated are full h.transfers;
        is = λ u a h asks lower_is lift_is M p serves has links. body_does h asks lower_is lift_is M p serves has links;
      }
