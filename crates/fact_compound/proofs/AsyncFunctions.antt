-- The functions of async adapters that move values: their bodies over locals that were added for them, and the module that they are put into.
use Rattle.std.proofs.Common.{◌≡◌, ◌<◌, ◌+◌, ℕ, suc, Bool, true, false, List, [], ◌∷◌, ◌++◌, Some, refl, sym, ap, ◌∙◌, subst, arith, append-nil, length, length-append, map, drop, reverse, slice_get, IfOk, Result, Ok, Err}
use Rattle.std.specs.Prelude.{is_some}
use Rattle.std.specs.List.{AllZip}
use Rattle.fact_wasm.specs.CoreTypes.{signature}
use Rattle.fact_wasm.proofs.Ranged.{all-first, all-second}
use Rattle.fact_wasm.specs.declared.instr.FuncName.TheVariants as func
use Rattle.fact_wasm.specs.declared.module.WasmFunc.{WasmFunc}
use Rattle.fact_wasm.specs.declared.module.WasmModule.{WasmModule}
use Rattle.fact_wasm.specs.declared.types.FuncType.{FuncType}
use Rattle.fact_wasm.specs.declared.types.ValType.{ValType}
use Rattle.fact_wasm.specs.declared.types.ValType.TheVariants as val
use Rattle.fact_machine.specs.Exits.{entry_locals}
use Rattle.fact_machine.specs.Machine.{locals_of}
use Rattle.fact_machine.specs.Trace.{Grows}
use Rattle.fact_machine.specs.Typing.{local_types}
use Rattle.fact_types.specs.Adapters.{LinkedAdapter, is_wide}
use Rattle.fact_types.specs.Functions.{HasSignature}
use Rattle.fact_types.specs.Shapes.{Shape}
use Rattle.fact_types.specs.Signatures.{address, async_return_signature, async_start_signature, flat_params, lift_results_limit, lower_limit, lower_pointer, lower_results}
use Rattle.fact_types.specs.Tables.{Tables}
use Rattle.fact_types.specs.declared.signature.SideSig.{SideSig}
use Rattle.fact_types.specs.declared.signature.Signature.{Signature}
use Rattle.fact_actions.specs.Adapters.{AdapterTunables, flat_results, lift_signature_of, lowered_flats}
use Rattle.fact_actions.specs.Running.{ImportPlaces}
use Rattle.fact_code_laws.specs.Does.{Onward, Does, held_types}
use Rattle.fact_code_laws.specs.PieceLaws.{HaveResultTypes}
use Rattle.fact_code_laws.specs.Places.{AreHeld, AreLocals, AreUsed}
use Rattle.fact_code_laws.specs.Typed.{OnStack, IsTyped}
use Rattle.fact_code_laws.proofs.TypedShapes.{typed_body}
use Rattle.fact_emit.specs.Brought.{Brought}
use Rattle.fact_emit.specs.Asked.{HasHelper, HasHelpers}
use Rattle.fact_emit.specs.Emits.{Later}
use Rattle.fact_emit.specs.Imports.{Extended, AreOnce, Serves}
use Rattle.fact_emit.specs.Places.{AreDistinctSlots}
use Rattle.fact_emit.specs.States.{ModuleSoFar, HasType, KeepsDefined, export_as, functions_of, globals_of, memories_of, with_callee, next_number}
use Rattle.fact_emit.specs.Writers.{AddedLocal, AreNumberTypes, is_local_in_use, taken_in, types_of_locals, used_local_of}
use Rattle.fact_emit.specs.declared.writer.Local.{Local}
use Rattle.fact_emit.specs.declared.writer.Writer.{Writer}
use Rattle.fact_emit.proofs.BroughtLaws.{brought_between}
use Rattle.fact_emit.proofs.KnownLaws.{extended_type}
use Rattle.fact_emit.proofs.DefinedKept.{defined_brought, defined_type, extended_defined}
use Rattle.fact_emit.proofs.ImportLaws.{extended_on, grown_get, grows_none, grows_on}
use Rattle.fact_emit.proofs.Locals.{get_map}
use Rattle.fact_emit.proofs.ServingLaws.{serves_sooner}
use Rattle.fact_emit.specs.NamedFunctions.{defined_named}
use Rattle.fact_kinds.specs.declared.fuel.Fuel.{Fuel}
use Rattle.fact_compound.specs.Keys.{IsKeyOfAdapter, part_asks}
use Rattle.fact_compound.specs.Translated.{IsFullFuel}
use Rattle.fact_compound.specs.Asks.{AreNewAsked, Having}
use Rattle.fact_compound.specs.AsyncParts.{PartSlots, callee_name, part_action, part_name, part_type}
use Rattle.fact_compound.specs.Asyncs.{AskingAsync, AskingPart, CompiledPart, DoesPartBody, EmitsPart, HasPartLocals, IsPartFunction, PartSignature, WroteBodyOfPart, WrotePart, pointer_types, value_types, values_among}
use Rattle.fact_compound.specs.Code.{slot_types}
use Rattle.fact_compound.specs.Described.{DescribesTransfers, KnowsAdapterData, side_sig}
use Rattle.fact_compound.specs.Entries.{CompiledEntry}
use Rattle.fact_compound.specs.Functions.{AddedLocals, params_among, slots_from}
use Rattle.fact_compound.specs.declared.adapters.AdapterData.{AdapterData}
use Rattle.fact_compound.specs.declared.asyncs.AsyncPart.{AsyncPart}
use Rattle.fact_compound.specs.declared.asyncs.AsyncPart.TheVariants as part
use Rattle.fact_compound.proofs.AsyncBodies.{lift_params_are}
use Rattle.fact_compound.proofs.LocalsAdded.{added_one, added_then, added_types, types_from}
use Rattle.fact_compound.proofs.ResultPlaces.{lower_pointer_flat}
use Rattle.fact_compound.proofs.Runs.{declares_all, numbers_append, numbers_behind, numbers_front}
use Rattle.fact_compound.proofs.SlotsFrom.{args_held, distinct_from, held_entry, locals_from, same_place, split, used_from, used_types}
use Rattle.fact_compound.proofs.WholeFunctions.{address_numbers, drop_long, drop_mapped, flats_numbers, once_same, typed_within, unless_numbers}
use Rattle.fact_compound.proofs.KeyLaws.{part_keys}
use Rattle.fact_compound.proofs.AsksLaws.{asks_behind, asks_kept, asks_on, asks_same, defined_new, entry_functions, entry_later, entry_new, new_alike, new_on, type_new}

-- ---- the types of their core signatures

value_numbers : (x : AsyncPart) (a : LinkedAdapter) → AreNumberTypes (value_types x a)
value_numbers part.Start a = flats_numbers (is_wide a.lower.memory) (lower_limit a.lower.async_side) a.lower.params (address (is_wide a.lower.memory) ∷ []) (address_numbers (is_wide a.lower.memory))
value_numbers part.Return a = flats_numbers (is_wide a.lift.memory) (lift_results_limit a.lift.async_side) a.lift.results (address (is_wide a.lift.memory) ∷ []) (address_numbers (is_wide a.lift.memory))

pointer_numbers : (x : AsyncPart) (a : LinkedAdapter) → AreNumberTypes (pointer_types x a)
pointer_numbers part.Start a = refl
pointer_numbers part.Return a =
    subst (λ ts. AreNumberTypes ts) (sym (lower_pointer_flat a.lower.async_side (is_wide a.lower.memory) a.lower.results))
    (unless_numbers (flat_results a.lower) (address (is_wide a.lower.memory) ∷ []) (address_numbers (is_wide a.lower.memory)))

lowered_numbers : (mark m : Bool) (rs : List Shape) → AreNumberTypes (lower_results mark m rs)
lowered_numbers true m rs = refl
lowered_numbers false m rs = flats_numbers m 1 rs [] refl

-- the values come first, and then the return pointer
params_split : (x : AsyncPart) (a : LinkedAdapter) → (part_type x a).params ≡ value_types x a ++ pointer_types x a
params_split part.Start a = sym (append-nil (value_types part.Start a))
params_split part.Return a = refl

part_numbers : (x : AsyncPart) (a : LinkedAdapter) → AreNumberTypes ((part_type x a).params ++ (part_type x a).results)
part_numbers x a =
    numbers_append (part_type x a).params (part_type x a).results
    (subst (λ ts. AreNumberTypes ts) (sym (params_split x a)) (numbers_append (value_types x a) (pointer_types x a) (value_numbers x a) (pointer_numbers x a)))
    (results x)
  where
    results : (x : AsyncPart) → AreNumberTypes (part_type x a).results
    results part.Start =
        subst (λ ts. AreNumberTypes ts) (sym (lift_params_are a)) (flats_numbers (is_wide a.lift.memory) 16 a.lift.params (address (is_wide a.lift.memory) ∷ []) (address_numbers (is_wide a.lift.memory)))
    results part.Return = lowered_numbers a.lower.async_side (is_wide a.lower.memory) a.lower.results

-- the signature that the data have is that of every adapter that they describe
pub part_signature_is : {t : Tables} {d : AdapterData} {debug : Bool} (x : AsyncPart) {u : AdapterTunables} {a : LinkedAdapter} {s : Signature} → PartSignature t d x s → DescribesTransfers t d debug u a → signature s.params s.results ≡ part_type x a
part_signature_is {d = d} part.Start {a = a} {s} h k =
    ap (λ (s : Signature). signature s.params s.results) (h a.lower.params a.lower.results a.lift.params a.lift.results k.lower.signature k.lift.signature)
    ∙ sym (λ i. signature (flat_params (k.lower.wide i) (lower_limit (k.lower.mark i)) a.lower.params) (lift_params i))
  where
    lift_params : (lift_signature_of a).params ≡ flat_params d.lift.options.linear.memory64 16 a.lift.params
    lift_params = lift_params_are a ∙ ap (λ m. flat_params m 16 a.lift.params) k.lift.wide
part_signature_is {d = d} part.Return {a = a} {s} h k =
    ap (λ (s : Signature). signature s.params s.results) (h a.lower.params a.lower.results a.lift.params a.lift.results k.lower.signature k.lift.signature)
    ∙ sym (λ i. signature (flat_params (k.lift.wide i) (lift_results_limit (k.lift.mark i)) a.lift.results ++ lower_pointer (k.lower.mark i) (k.lower.wide i) a.lower.results) (lower_results (k.lower.mark i) (k.lower.wide i) a.lower.results))

-- the signature that was made is the one that the data have
pub start_signature_given : (t : Tables) (d : AdapterData) {x : AsyncPart} {lower lift : SideSig} {E : Type 0} (r : Result Signature E) → x ≡ part.Start → lower ≡ side_sig d.lower → lift ≡ side_sig d.lift
    → ((ps rs qs ss : List Shape) → HasSignature t lower.ty ps rs → HasSignature t lift.ty qs ss → IfOk r (λ s. s ≡ async_start_signature lower lift ps qs)) → IfOk r (λ s. PartSignature t d x s)
start_signature_given t d {x} {lower} {lift} r is l f h =
    subst (λ x. IfOk r (λ s. PartSignature t d x s)) (sym is) (go r (λ ps rs qs ss p q.
    subst (λ a. IfOk r (λ s. s ≡ async_start_signature a (side_sig d.lift) ps qs)) l (subst (λ b. IfOk r (λ s. s ≡ async_start_signature lower b ps qs)) f
    (h ps rs qs ss (subst (λ (a : SideSig). HasSignature t a.ty ps rs) (sym l) p) (subst (λ (a : SideSig). HasSignature t a.ty qs ss) (sym f) q)))))
  where
    go : {F : Type 0} (r : Result Signature F) → ((ps rs qs ss : List Shape) → HasSignature t d.lower.ty ps rs → HasSignature t d.lift.ty qs ss → IfOk r (λ s. s ≡ async_start_signature (side_sig d.lower) (side_sig d.lift) ps qs)) → IfOk r (λ s. PartSignature t d part.Start s)
    go (Ok s) k = k
    go (Err e) k = tt

pub return_signature_given : (t : Tables) (d : AdapterData) {x : AsyncPart} {lower lift : SideSig} {E : Type 0} (r : Result Signature E) → x ≡ part.Return → lower ≡ side_sig d.lower → lift ≡ side_sig d.lift
    → ((ps rs qs ss : List Shape) → HasSignature t lower.ty ps rs → HasSignature t lift.ty qs ss → IfOk r (λ s. s ≡ async_return_signature lower lift rs ss)) → IfOk r (λ s. PartSignature t d x s)
return_signature_given t d {x} {lower} {lift} r is l f h =
    subst (λ x. IfOk r (λ s. PartSignature t d x s)) (sym is) (go r (λ ps rs qs ss p q.
    subst (λ a. IfOk r (λ s. s ≡ async_return_signature a (side_sig d.lift) rs ss)) l (subst (λ b. IfOk r (λ s. s ≡ async_return_signature lower b rs ss)) f
    (h ps rs qs ss (subst (λ (a : SideSig). HasSignature t a.ty ps rs) (sym l) p) (subst (λ (a : SideSig). HasSignature t a.ty qs ss) (sym f) q)))))
  where
    go : {F : Type 0} (r : Result Signature F) → ((ps rs qs ss : List Shape) → HasSignature t d.lower.ty ps rs → HasSignature t d.lift.ty qs ss → IfOk r (λ s. s ≡ async_return_signature (side_sig d.lower) (side_sig d.lift) rs ss)) → IfOk r (λ s. PartSignature t d part.Return s)
    go (Ok s) k = k
    go (Err e) k = tt

-- ---- the body

module _ {t : Tables} {d : AdapterData} {debug concurrency : Bool} (x : AsyncPart) {s : Signature} {before after : Fuel} {a0 b c e f : Writer} {l : PartSlots} (no_code : a0.code.items ≡ []) (no_locals : a0.locals.items ≡ [])
    (x1 : AddedLocals a0 b s.params l.args) (x2 : AddedLocal b c val.I32 l.saved) (x3 : AddedLocals c e s.results l.given) (values : values_among t d x l.args l.values) (y : EmitsPart t d debug concurrency x l before after e f) where
  abbrev types : List ValType
  types = s.params ++ val.I32 ∷ s.results

  added : AddedLocals a0 e types (l.args ++ (l.saved, val.I32) ∷ l.given)
  added = added_then x1 (added_then (added_one x2) x3)

  added_locals : e.locals.items ≡ map used_local_of types
  added_locals = added.locals ∙ ap (λ ls. ls ++ map used_local_of types) no_locals

  types_are : types_of_locals e ≡ types
  types_are = ap (map (λ (l : Local). l.ty)) added_locals ∙ used_types types

  start : length a0.locals.items ≡ 0
  start = ap length no_locals

  all_are : l.args ++ (l.saved, val.I32) ∷ l.given ≡ slots_from 0 types
  all_are = added.slots_are ∙ ap (λ k. slots_from k types) start

  args_are : l.args ≡ slots_from 0 s.params
  args_are = x1.slots_are ∙ ap (λ k. slots_from k s.params) start

  all_typed : AreLocals (types_of_locals f) (l.args ++ (l.saved, val.I32) ∷ l.given)
  all_typed = subst (λ ss. AreLocals (types_of_locals f) ss) (sym all_are) (locals_from (types_of_locals f) 0 types (λ i u g. ap (slice_get (types_of_locals f)) (same_place i) ∙ grown_get y.grew.locals i u (ap (λ ts. slice_get ts i) types_are ∙ g)))

  all_used : AreUsed (taken_in e) (l.args ++ (l.saved, val.I32) ∷ l.given)
  all_used =
      subst (λ ss. AreUsed (taken_in e) ss) (sym all_are) (used_from (taken_in e) 0 types (λ i u g.
      ap (taken_in e) (same_place i) ∙ ap (λ ls. is_local_in_use (slice_get ls i)) added_locals ∙ ap is_local_in_use (get_map used_local_of types i u g)))

  all_distinct : AreDistinctSlots (l.args ++ (l.saved, val.I32) ∷ l.given)
  all_distinct = subst (λ ss. AreDistinctSlots ss) (sym all_are) (distinct_from 0 types)

  module _ {u : AdapterTunables} {a : LinkedAdapter} (h : DescribesTransfers t d debug u a) (on : u.concurrency ≡ concurrency) (is : signature s.params s.results ≡ part_type x a) where
    params_are : s.params ≡ (part_type x a).params
    params_are = ap (λ (ty : FuncType). ty.params) is

    given_types : slot_types l.given ≡ (part_type x a).results
    given_types = added_types x3 ∙ ap (λ (ty : FuncType). ty.results) is

    room : HasPartLocals x a l (taken_in e) (types_of_locals f)
    room = go x values params_are given_types
      where
        go : (x : AsyncPart) → values_among t d x l.args l.values → s.params ≡ (part_type x a).params → slot_types l.given ≡ (part_type x a).results → HasPartLocals x a l (taken_in e) (types_of_locals f)
        go part.Start values params given = record {
          rest = [];
          args = sym values ∙ sym (append-nil l.values);
          values_types = ap slot_types (values ∙ args_are) ∙ types_from 0 s.params ∙ params;
          rest_types = refl;
          given_types = given;
          typed = all_typed;
          used = all_used;
          distinct = all_distinct;
        }
        go part.Return values params given =
            let w = is_wide a.lower.memory in
            let front = flat_params (is_wide a.lift.memory) (lift_results_limit a.lift.async_side) a.lift.results in
            let pointer = lower_pointer_flat a.lower.async_side w a.lower.results in
            let among : l.values ≡ params_among (is_some (flat_results a.lower)) l.args =
            values a.lower.params a.lower.results h.lower.signature h.results.to_counted w ∙ ap (λ b. params_among (is_some (lowered_flats b w a.lower.results)) l.args) (sym h.lower.mark) in
            let parts = split (flat_results a.lower) (address w) front l.args l.values (args_are ∙ ap (slots_from 0) (params ∙ ap (λ ts. front ++ ts) pointer)) among in
            record {
              rest = parts.rest;
              args = parts.args_are;
              values_types = parts.params_types;
              rest_types = parts.rest_types ∙ sym pointer;
              given_types = given;
              typed = all_typed;
              used = all_used;
              distinct = all_distinct;
            }

    body_does : (M : WasmModule) (p : ImportPlaces) → Serves M p f.sections → HasHelpers M p y.asks → KnowsAdapterData M p d a → DoesPartBody x u a M p (types_of_locals f) f.code.items
    body_does M p serves has links =
        let g = y.emits u a h on in
        let later : Later f M p (types_of_locals f) = record { serves = serves; begin = grows_none refl } in
        let m = g.does M p (types_of_locals f) later has in
        let code : f.code.items ≡ g.grew.added = g.grew.code ∙ ap (λ k. k ++ g.grew.added) (added.code ∙ no_code) in
        let there : l.args ≡ slots_from 0 (part_type x a).params = args_are ∙ ap (slots_from 0) params_are in
        record {
          does = λ args ls held h'. subst (λ k. Does M p Onward 1000 0 [] ls k (part_action x u a args) reverse (HaveResultTypes (part_type x a))) (sym code) (m.does links room args ls held (subst (λ ss. AreHeld ls ss args) (sym there) h'));
          typed = subst (λ k. IsTyped M (types_of_locals f) [] k [] (OnStack (reverse (part_type x a).results))) (sym code) (m.typed links room);
        }

  -- The body was written, with its locals.
  pub wrote_part_body : WroteBodyOfPart t d debug concurrency x s before a0 f
  wrote_part_body =
      let g = y.grew in
      let body : f.code.items ≡ g.added = g.code ∙ ap (λ k. k ++ g.added) (added.code ∙ no_code) in
      let first : Grows s.params types = record { more = val.I32 ∷ s.results; is = refl } in
      record {
        imports = subst (λ s. Extended s f.sections) added.imports g.imports;
        once = λ o. g.once (subst AreOnce (sym added.imports) o);
        brought = brought_between added.imports refl (subst (Brought e.sections f.sections) (sym body) g.brought);
        params = grows_on first (subst (λ ts. Grows ts (types_of_locals f)) types_are g.locals);
        numbers = λ n. g.numbers (subst (λ ts. AreNumberTypes ts) (sym types_are) (numbers_append s.params (val.I32 ∷ s.results) (numbers_front s.params s.results n) (numbers_append (val.I32 ∷ []) s.results refl (numbers_behind s.params s.results n))));
        asks = y.asks;
        asked = asks_same added.imports refl y.asked;
        named = ap defined_named body ∙ g.calls;
        keys = λ full u a h. part_keys concurrency x after y.asks y.translated full h;
        is = λ u a h on is M p serves has links. body_does h on is M p serves has links;
      }

-- ---- the function

module _ {t : Tables} {d : AdapterData} {debug concurrency : Bool} {x : AsyncPart} {s : Signature} {ty : ℕ} {fuel : ℕ} {before_fuel : Fuel} (full : IsFullFuel before_fuel) (same_fuel : before_fuel.initial ≡ fuel) {a0 c : Writer} (w : WroteBodyOfPart t d debug concurrency x s before_fuel a0 c) {old new : ModuleSoFar} (before : a0.sections ≡ old) (after : new ≡ c.sections) (f : WasmFunc)
    (ty_is : f.ty ≡ ty) (body_is : f.body ≡ c.code.items) (locals_are : local_types f.locals ≡ map (λ (l : Local). l.ty) (drop (length s.params) c.locals.items)) where
  declared : local_types f.locals ≡ w.params.more
  declared = locals_are ∙ drop_mapped (λ (l : Local). l.ty) (length s.params) c.locals.items ∙ ap (drop (length s.params)) w.params.is ∙ drop_long s.params w.params.more

  all_types : types_of_locals c ≡ s.params ++ local_types f.locals
  all_types = w.params.is ∙ ap (λ ts. s.params ++ ts) (sym declared)

  module _ {u : AdapterTunables} {a : LinkedAdapter} (h : DescribesTransfers t d debug u a) (on : u.concurrency ≡ concurrency) (is : signature s.params s.results ≡ part_type x a) {M : WasmModule} {p : ImportPlaces} (serves : Serves M p new) (has : HasHelpers M p w.asks) (links : KnowsAdapterData M p d a) where
    body : DoesPartBody x u a M p (types_of_locals c) c.code.items
    body = w.is u a h on is M p (subst (λ s. Serves M p s) after serves) has links

    locals_is : types_of_locals c ≡ (part_type x a).params ++ local_types f.locals
    locals_is = all_types ∙ ap (λ (ty : FuncType). ty.params ++ local_types f.locals) is

    numbers_are : AreNumberTypes (s.params ++ s.results)
    numbers_are = subst (λ (ty : FuncType). AreNumberTypes (ty.params ++ ty.results)) (sym is) (part_numbers x a)

    declared_numbers : AreNumberTypes (local_types f.locals)
    declared_numbers = numbers_behind s.params (local_types f.locals) (subst (λ ts. AreNumberTypes ts) all_types (w.numbers numbers_are))

    is_function : IsPartFunction x u a M p f
    is_function = record {
      does = λ args h'.
          let held : held_types (entry_locals f args) ≡ types_of_locals c = held_entry args (part_type x a).params f.locals h' ∙ sym locals_is in
          subst (λ k. Does M p Onward 1000 0 [] (entry_locals f args) k (part_action x u a args) reverse (HaveResultTypes (part_type x a))) (sym body_is)
          (body.does args (entry_locals f args) held (args_held args (part_type x a).params (locals_of f.locals) h'));
      typed = λ there.
          typed_body f (part_type x a) there (declares_all f.locals declared_numbers)
          (typed_within (subst (λ ts. IsTyped M ts [] f.body [] (OnStack (reverse (part_type x a).results))) locals_is
          (subst (λ k. IsTyped M (types_of_locals c) [] k [] (OnStack (reverse (part_type x a).results))) (sym body_is) body.typed)));
    }

  -- The function of the body was written.
  pub wrote_part : WrotePart t d debug concurrency fuel x s ty old new f
  wrote_part = record {
    ty = ty_is;
    imports = subst (λ s. Extended s new) before (subst (λ s. Extended a0.sections s) (sym after) w.imports);
    once = λ o. subst AreOnce (sym after) (w.once (subst AreOnce (sym before) o));
    brought = subst (Brought old new) (sym body_is) (brought_between before (sym after) w.brought);
    asks = w.asks;
    asked = asks_same before (sym after) w.asked;
    keys = λ u a h. record {
      named = ap defined_named body_is ∙ w.named;
      are = subst (λ n. AllZip (IsKeyOfAdapter t d debug concurrency a) w.asks (part_asks x n a)) same_fuel (w.keys full u a h);
    };
    is = λ u a h on is M p serves has links. is_function h on is serves has links;
  }

-- ---- the module

-- The function was put into the module.
pub compiled_part : {t : Tables} {d : AdapterData} {debug concurrency : Bool} {fuel : ℕ} (x : AsyncPart) {s : Signature} {s0 s1 s2 s3 s4 : ModuleSoFar} {n k : ℕ} {f : WasmFunc} {name : List ℕ} → length s0.functions < s0.numbered → PartSignature t d x s → slice_get s1.types n ≡ Some (signature s.params s.results) → HasType s0 s1 (signature s.params s.results) → Extended s0 s1 → (AreOnce s0 → AreOnce s1)
    → WrotePart t d debug concurrency fuel x s n s1 s2 f → k ≡ length s2.functions → s3 ≡ record s2 { functions = s2.functions ++ f ∷ [] } → name ≡ part_name x d.name → s4 ≡ record s3 { exports = s3.exports ++ export_as name (func.Defined k) ∷ [] } → AskingPart t d debug concurrency fuel x s0 s4
compiled_part {d = d} x {s} {s0} {s1} {s2} {s3} {s4} {n} {k} {f} {name} ahead sig place has keeps once w number defined named exported =
    let shown : List ℕ = part_name x d.name in
    let same : s4 ≡ record s2 { functions = s2.functions ++ f ∷ []; exports = s2.exports ++ export_as shown (func.Defined k) ∷ [] } =
    exported ∙ (λ i. record (defined i) { exports = (defined i).exports ++ export_as (named i) (func.Defined k) ∷ [] }) in
    let before : KeepsDefined s0 s1 = defined_type has in
    let kept : KeepsDefined s1 s2 = defined_brought w.brought in
    let last : Extended s2 s4 = extended_defined (ap (λ (s : ModuleSoFar). s.types) same) (ap (λ (s : ModuleSoFar). s.section) same) (ap (λ (s : ModuleSoFar). s.imports) same) (ap (λ (s : ModuleSoFar). s.helpers) same) (ap (λ (s : ModuleSoFar). s.numbered) same) in
    record {
      asks = w.asks;
      asked = asks_behind (type_new has) (asks_kept last w.asked
          (defined_new f (ap (λ (s : ModuleSoFar). s.helpers) same) (ap (λ (s : ModuleSoFar). s.numbered) same) (ap (λ (s : ModuleSoFar). s.functions) same) (omega (arith, ahead, ap length (kept.functions ∙ before.functions), keeps.numbered, w.imports.numbered))));
      keys = w.keys;
      compiled = record {
        function = f;
        puts = record {
          ty = signature s.params s.results;
          declared = s1;
          declares = has;
          written = s2;
          brought = w.brought;
          is_last = same ∙ ap (λ j. record s2 { functions = s2.functions ++ f ∷ []; exports = s2.exports ++ export_as shown (func.Defined j) ∷ [] }) number;
          functions = ap (λ (s : ModuleSoFar). s.functions) same ∙ ap (λ fs. fs ++ f ∷ []) (kept.functions ∙ before.functions);
          imports = extended_on keeps (extended_on w.imports last);
        };
        once = λ o. once_same (ap functions_of same) (ap memories_of same) (ap globals_of same) (ap (λ (s : ModuleSoFar). s.types) same) (ap (λ (s : ModuleSoFar). s.section) same) (w.once (once o));
        typed = λ u a h.
            let at : slice_get s4.types n ≡ Some (signature s.params s.results) = grown_get last.types n _ (grown_get w.imports.types n _ place) in
            ap (slice_get s4.types) w.ty ∙ at ∙ ap (λ (ty : FuncType). Some ty) (part_signature_is x sig h);
        is = λ u a h on M p serves has links. w.is u a h on (part_signature_is x sig h) M p (serves_sooner last serves) has links;
      };
    }

-- ---- all three functions

-- what a function asks of a module is there where more is
abbrev pub part_within : {Has All : Having} {t : Tables} {d : AdapterData} {debug concurrency : Bool} {x : AsyncPart} {old new : ModuleSoFar} → ((M : WasmModule) (p : ImportPlaces) → All M p → Has M p) → CompiledPart Has t d debug concurrency x old new → CompiledPart All t d debug concurrency x old new
part_within has c = record {
  function = c.function;
  puts = c.puts;
  once = c.once;
  typed = c.typed;
  is = λ u a h on M p serves all links. c.is u a h on M p serves (has M p all) links;
}

-- They were put into the module, and the callee's export.
pub compiled_async : {t : Tables} {d : AdapterData} {debug concurrency : Bool} {fuel : ℕ} {s0 s1 s2 s3 s4 : ModuleSoFar} {start return : ℕ} → length s0.functions + 2 < s0.numbered → start ≡ length s0.functions → AskingPart t d debug concurrency fuel part.Start s0 s1 → return ≡ length s1.functions → AskingPart t d debug concurrency fuel part.Return s1 s2
    → CompiledEntry t d start return s2 s3 → s4 ≡ with_callee s3 (callee_name d.name) d.callee.number → AskingAsync t d debug concurrency fuel s0 s4
compiled_async {t} {d} {s0 = s0} {s1} {s2} {s3} {s4} {start = start} {return} ahead first x second y z callee =
    let last : Extended s3 s4 = extended_defined (ap (λ (s : ModuleSoFar). s.types) callee) (ap (λ (s : ModuleSoFar). s.section) callee) (ap (λ (s : ModuleSoFar). s.imports) callee) (ap (λ (s : ModuleSoFar). s.helpers) callee) (ap (λ (s : ModuleSoFar). s.numbered) callee) in
    let calls : Extended s2 z.written = extended_on (extended_type z.ty z.declares) z.calls.imports in
    let same : z.written.functions ≡ s2.functions = entry_functions z in
    let count : length z.written.functions < z.written.numbered =
    omega (arith, ahead, ap length same, ap length y.compiled.puts.functions, ap length x.compiled.puts.functions, one s0.functions x.compiled.function, one s1.functions y.compiled.function, x.compiled.puts.imports.numbered, y.compiled.puts.imports.numbered, calls.numbered) in
    let put : AreNewAsked [] z.written s3 = defined_new z.function (ap (λ (s : ModuleSoFar). s.helpers) z.is_last) (ap (λ (s : ModuleSoFar). s.numbered) z.is_last) (ap (λ (s : ModuleSoFar). s.functions) z.is_last) count in
    let none : AreNewAsked [] s2 s4 = new_on (entry_new z) (new_on put (new_alike (ap (λ (s : ModuleSoFar). s.helpers) callee) (ap next_number callee))) in
    record {
      asks = x.asks ++ y.asks;
      keys = record { first = x.asks; second = y.asks; is = refl; starts = x.keys; returns = y.keys };
      asked = asks_kept (extended_on (entry_later z) last) (asks_on y.compiled.puts.imports x.asked y.asked) none;
      compiled = record {
        started = s1;
        returned = s2;
        entered = s3;
        start = part_within (λ M p has. all-first (HasHelper M p) x.asks y.asks has) x.compiled;
        return = part_within (λ M p has. all-second (HasHelper M p) x.asks y.asks has) y.compiled;
        entry = subst (λ n. CompiledEntry t d (length s0.functions) n s2 s3) (second ∙ ap length x.compiled.puts.functions ∙ one s0.functions x.compiled.function) (subst (λ n. CompiledEntry t d n return s2 s3) first z);
        callee = callee;
      };
    }
  where
    one : {X : Type 0} (xs : List X) (x : X) → length (xs ++ x ∷ []) ≡ suc (length xs)
    one xs x = omega (arith, length-append xs (x ∷ []))
