-- The function of a sync adapter, and the module that it is put into.
use Rattle.std.proofs.Common.{◌≡◌, ◌<◌, ℕ, zero, suc, Bool, true, false, List, [], ◌∷◌, ◌++◌, Option, Some, None, refl, sym, ap, ◌∙◌, subst, arith, length, map, drop, reverse, slice_get}
use Rattle.fact_wasm.specs.CoreTypes.{signature}
use Rattle.fact_wasm.specs.declared.instr.FuncName.TheVariants as func
use Rattle.fact_wasm.specs.declared.instr.Instr.{Instr}
use Rattle.fact_wasm.specs.declared.module.WasmFunc.{WasmFunc}
use Rattle.fact_wasm.specs.declared.module.WasmModule.{WasmModule}
use Rattle.fact_wasm.specs.declared.types.ValType.{ValType}
use Rattle.fact_machine.specs.Machine.{func_import}
use Rattle.fact_types.specs.declared.import.Import.{Import}
use Rattle.fact_wasm.specs.declared.types.ValType.TheVariants as val
use Rattle.fact_entity.specs.declared.id.Id.{Id}
use Rattle.fact_entity.specs.declared.table.TypeFuncs.{TypeFuncs}
use Rattle.fact_types.specs.Adapters.{LinkedAdapter, is_wide}
use Rattle.fact_types.specs.Flat.{value_type}
use Rattle.fact_types.specs.FlatShapes.{flat_members}
use Rattle.fact_types.specs.Functions.{HasSignature}
use Rattle.fact_types.specs.Shapes.{Shape}
use Rattle.fact_types.specs.Tuples.{tuple_members}
use Rattle.fact_types.specs.Signatures.{width, address, flat_values, flat_or, flat_params, unless_flat, lower_by, lift_by, sync_lower, sync_lift, lower_signature, lift_signature}
use Rattle.fact_types.specs.Tables.{Tables}
use Rattle.fact_types.specs.declared.flats.FlatType.{FlatType}
use Rattle.fact_types.specs.declared.flats.FlatType.TheVariants as flat_type
use Rattle.fact_types.specs.declared.signature.SideSig.{SideSig}
use Rattle.fact_types.specs.declared.signature.Signature.{Signature}
use Rattle.std.specs.Prelude.{is_some}
use Rattle.std.specs.List.{AllZip}
use Rattle.fact_machine.specs.Exits.{entry_locals}
use Rattle.fact_machine.specs.Machine.{locals_of}
use Rattle.fact_machine.specs.Typing.{is_number, local_types}
use Rattle.fact_machine.proofs.Tests.{both}
use Rattle.fact_actions.specs.Adapters.{AdapterTunables, lower_signature_of, lift_signature_of}
use Rattle.fact_actions.specs.Running.{ImportPlaces}
use Rattle.fact_code_laws.specs.Does.{held_types}
use Rattle.fact_code_laws.specs.Typed.{OperandsBehind, OnStack, IsTyped}
use Rattle.fact_code_laws.proofs.TypedShapes.{typed_body}
use Rattle.fact_emit.specs.Asked.{HasHelpers}
use Rattle.fact_emit.specs.Brought.{Brought}
use Rattle.fact_emit.specs.Imports.{Extended, HasImport, StandOnce, AreOnce, Serves}
use Rattle.fact_emit.specs.States.{ModuleSoFar, HasType, KeepsDefined, export_as, functions_of, memories_of, globals_of}
use Rattle.fact_emit.specs.Writers.{AreNumberTypes, types_of_locals}
use Rattle.fact_emit.specs.declared.writer.Local.{Local}
use Rattle.fact_emit.specs.declared.writer.Writer.{Writer}
use Rattle.fact_emit.proofs.BroughtLaws.{brought_between}
use Rattle.fact_emit.proofs.DefinedKept.{defined_brought, defined_type, extended_defined}
use Rattle.fact_emit.proofs.ImportLaws.{extended_on, grown_get}
use Rattle.fact_emit.proofs.ServingLaws.{serves_sooner}
use Rattle.fact_emit.specs.NamedFunctions.{defined_named}
use Rattle.fact_kinds.specs.declared.fuel.Fuel.{Fuel}
use Rattle.fact_compound.specs.Keys.{AsksKeys, IsKeyOfAdapter, sync_asks}
use Rattle.fact_compound.specs.Translated.{IsFullFuel}
use Rattle.fact_compound.specs.Asks.{AreNewAsked, AsksFor}
use Rattle.fact_compound.specs.Described.{DescribesAdapter, KnowsAdapterData}
use Rattle.fact_compound.specs.Functions.{sync_types, DoesBody, WroteBody, WroteFunction, AskingSync}
use Rattle.fact_compound.specs.Events.{AreCallOptions, AsksCalls}
use Rattle.fact_compound.specs.Syncs.{EndsAsSync, IsSyncFunction, lower_type_of}
use Rattle.fact_compound.specs.declared.syncs.CallOptions.{CallOptions}
use Rattle.fact_compound.proofs.CallOptions.{asks_calls}
use Rattle.fact_compound.specs.declared.adapters.AdapterData.{AdapterData}
use Rattle.fact_compound.proofs.Flats.{are_flat}
use Rattle.fact_compound.proofs.Runs.{numbers_append, numbers_behind, declares_all}
use Rattle.fact_compound.proofs.SlotsFrom.{held_entry, args_held}
use Rattle.fact_compound.proofs.AsksLaws.{asks_behind, asks_kept, asks_same, defined_new, type_new}

-- ---- the types of core signatures are those of numbers

values_numbers : (fs : List FlatType) → AreNumberTypes (map value_type fs)
values_numbers [] = refl
values_numbers (f ∷ fs) = both (number f) (values_numbers fs)
  where
    number : (f : FlatType) → is_number (value_type f) ≡ true
    number flat_type.I32 = refl
    number flat_type.I64 = refl
    number flat_type.F32 = refl
    number flat_type.F64 = refl

pub flats_numbers : (m : Bool) (limit : ℕ) (ss : List Shape) (others : List ValType) → AreNumberTypes others → AreNumberTypes (flat_or others (flat_values m limit ss))
flats_numbers m limit ss others h = go (flat_values m limit ss) refl
  where
    go : (o : Option (List ValType)) → flat_values m limit ss ≡ o → AreNumberTypes (flat_or others o)
    go None e = h
    go (Some ts) e = let x = are_flat m limit ss ts e in subst (λ ts. AreNumberTypes ts) (sym x.are) (values_numbers (flat_members (width m) (tuple_members ss)))

pub unless_numbers : (o : Option (List ValType)) (others : List ValType) → AreNumberTypes others → AreNumberTypes (unless_flat others o)
unless_numbers None others h = h
unless_numbers (Some ts) others h = refl

pub address_numbers : (m : Bool) → AreNumberTypes (address m ∷ [])
address_numbers true = refl
address_numbers false = refl

lower_is_sync : (a : LinkedAdapter) → a.lower.async_side ≡ false → lower_signature_of a ≡ sync_lower (is_wide a.lower.memory) a.lower.params a.lower.results
lower_is_sync a sync = ap (λ b. lower_by b (is_wide a.lower.memory) a.lower.params a.lower.results) sync

lift_is_sync : (a : LinkedAdapter) → a.lift.async_side ≡ false → lift_signature_of a ≡ sync_lift (is_wide a.lift.memory) a.lift.params a.lift.results
lift_is_sync a sync = ap (λ b. lift_by b (is_some a.lift.callback) (is_wide a.lift.memory) a.lift.params a.lift.results) sync

sync_numbers : (m n : Bool) (ps rs qs ss : List Shape) → AreNumberTypes (sync_types false false (sync_lower m ps rs) (sync_lift n qs ss))
sync_numbers m n ps rs qs ss =
    let params : List ValType = flat_params m 16 ps in
    let pointer : List ValType = unless_flat (address m ∷ []) (flat_values m 1 rs) in
    let core : List ValType = flat_params n 16 qs in
    let given : List ValType = flat_or (address n ∷ []) (flat_values n 1 ss) in
    let results : List ValType = flat_or [] (flat_values m 1 rs) in
    numbers_append ((params ++ pointer) ++ val.I32 ∷ val.I32 ∷ []) (core ++ (given ++ (results ++ [])))
    (numbers_append (params ++ pointer) (val.I32 ∷ val.I32 ∷ []) (numbers_append params pointer (flats_numbers m 16 ps (address m ∷ []) (address_numbers m)) (unless_numbers (flat_values m 1 rs) (address m ∷ []) (address_numbers m))) refl)
    (numbers_append core (given ++ (results ++ [])) (flats_numbers n 16 qs (address n ∷ []) (address_numbers n))
    (numbers_append given (results ++ []) (flats_numbers n 1 ss (address n ∷ []) (address_numbers n)) (numbers_append results [] (flats_numbers m 1 rs [] refl) refl)))

-- ---- the function

pub drop_mapped : {A B : Type 0} (f : A → B) (n : ℕ) (xs : List A) → map f (drop n xs) ≡ drop n (map f xs)
drop_mapped f zero xs = refl
drop_mapped f (suc n) [] = refl
drop_mapped f (suc n) (x ∷ xs) = drop_mapped f n xs

pub drop_long : {A : Type 0} (xs ys : List A) → drop (length xs) (xs ++ ys) ≡ ys
drop_long [] ys = refl
drop_long (x ∷ xs) ys = drop_long xs ys

-- code that is typed is typed within labels
pub typed_within : {M : WasmModule} {locals : List ValType} {labels : List (List ValType)} {code : List Instr} {outs : OperandsBehind} → IsTyped M locals [] code [] outs → IsTyped M locals labels code [] outs
typed_within {labels = labels} x = record { by = λ outer below. x.by (labels ++ outer) below }

module _ {t : Tables} {d : AdapterData} {debug : Bool} {o : CallOptions} {lower lift : Signature} {ty : ℕ} {fuel : ℕ} {before_fuel : Fuel} (full : IsFullFuel before_fuel) (same_fuel : before_fuel.initial ≡ fuel) {a0 c : Writer} (w : WroteBody t d debug o lower lift before_fuel a0 c) {old new : ModuleSoFar} (before : a0.sections ≡ old) (after : new ≡ c.sections) (f : WasmFunc)
    (ty_is : f.ty ≡ ty) (body_is : f.body ≡ c.code.items) (locals_are : local_types f.locals ≡ map (λ (l : Local). l.ty) (drop (length lower.params) c.locals.items)) where
  declared : local_types f.locals ≡ w.params.more
  declared = locals_are ∙ drop_mapped (λ (l : Local). l.ty) (length lower.params) c.locals.items ∙ ap (drop (length lower.params)) w.params.is ∙ drop_long lower.params w.params.more

  all_types : types_of_locals c ≡ lower.params ++ local_types f.locals
  all_types = w.params.is ∙ ap (λ ts. lower.params ++ ts) (sym declared)

  module _ {u : AdapterTunables} {a : LinkedAdapter} (h : DescribesAdapter t d debug u a) (asks : AreCallOptions o u a) (lower_is : lower ≡ lower_signature_of a) (lift_is : lift ≡ lift_signature_of a) {M : WasmModule} {p : ImportPlaces} (serves : Serves M p new) (has : HasHelpers M p w.asks) (links : KnowsAdapterData M p d a) where
    body : DoesBody u a M p (types_of_locals c) c.code.items
    body = w.is u a h asks lower_is lift_is M p (subst (λ s. Serves M p s) after serves) has links

    locals_is : types_of_locals c ≡ (lower_signature_of a).params ++ local_types f.locals
    locals_is = all_types ∙ ap (λ (s : Signature). s.params ++ local_types f.locals) lower_is

    numbers_are : AreNumberTypes (sync_types false false lower lift)
    numbers_are =
        subst (λ s. AreNumberTypes (sync_types false false s lift)) (sym (lower_is ∙ lower_is_sync a h.lower_sync))
        (subst (λ s. AreNumberTypes (sync_types false false (sync_lower (is_wide a.lower.memory) a.lower.params a.lower.results) s)) (sym (lift_is ∙ lift_is_sync a h.lift_sync))
        (sync_numbers (is_wide a.lower.memory) (is_wide a.lift.memory) a.lower.params a.lower.results a.lift.params a.lift.results))

    declared_numbers : AreNumberTypes (local_types f.locals)
    declared_numbers = numbers_behind lower.params (local_types f.locals) (subst (λ ts. AreNumberTypes ts) all_types (w.numbers numbers_are))

    is_function : IsSyncFunction u a M p f
    is_function = record {
      does = λ args h'.
          let held : held_types (entry_locals f args) ≡ types_of_locals c = held_entry args (lower_signature_of a).params f.locals h' ∙ sym locals_is in
          subst (λ k. EndsAsSync u a M p args (entry_locals f args) k) (sym body_is)
          (body.does args (entry_locals f args) held (args_held args (lower_signature_of a).params (locals_of f.locals) h'));
      typed = λ there.
          typed_body f (lower_type_of a) there (declares_all f.locals declared_numbers)
          (typed_within (subst (λ ts. IsTyped M ts [] f.body [] (OnStack (reverse (lower_signature_of a).results))) locals_is
          (subst (λ k. IsTyped M (types_of_locals c) [] k [] (OnStack (reverse (lower_signature_of a).results))) (sym body_is) body.typed)));
    }

  -- The function of the body was written.
  pub wrote_function : WroteFunction t d debug o fuel lower lift ty old new f
  wrote_function = record {
    ty = ty_is;
    imports = subst (λ s. Extended s new) before (subst (λ s. Extended a0.sections s) (sym after) w.imports);
    once = λ o. subst AreOnce (sym after) (w.once (subst AreOnce (sym before) o));
    brought = subst (Brought old new) (sym body_is) (brought_between before (sym after) w.brought);
    asks = w.asks;
    asked = asks_same before (sym after) w.asked;
    keys = λ u a h. record {
      named = ap defined_named body_is ∙ w.named;
      are = subst (λ n. AllZip (IsKeyOfAdapter t d debug o.concurrency a) w.asks (sync_asks n a)) same_fuel (w.keys full u a h);
    };
    is = λ u a h asks lower_is lift_is M p serves has links. is_function h asks lower_is lift_is serves has links;
  }

-- ---- the module

-- what is imported is the same
pub once_same : {a b : ModuleSoFar} → functions_of b ≡ functions_of a → memories_of b ≡ memories_of a → globals_of b ≡ globals_of a → b.types ≡ a.types → b.section ≡ a.section → AreOnce a → AreOnce b
once_same {a} {b} f m g types section o = record {
  functions = subst StandOnce (sym f) o.functions;
  memories = subst StandOnce (sym m) o.memories;
  globals = subst StandOnce (sym g) o.globals;
  starts = λ i j callback post_return params results h k. o.starts i j callback post_return params results (same h) (same k);
}
  where
    same : {i : Import} {n : ℕ} {params results : List ValType} → HasImport b i n params results → HasImport a i n params results
    same {n = n} h = record {
      there = ap (λ is. slice_get is n) (sym f) ∙ h.there;
      type_at = h.type_at;
      imported = ap (λ ws. func_import ws n) (sym section) ∙ h.imported;
      type_is = ap (λ ts. slice_get ts h.type_at) (sym types) ∙ h.type_is;
    }

-- what the core signature of a sync side hangs on
pub record IsSyncSide (s : SideSig) (ty : Id TypeFuncs) (memory64 : Bool) : Type 0 where
  pub ty_is : s.ty ≡ ty
  pub sync : s.async_ ≡ false
  pub wide : s.memory64 ≡ memory64

module _ {t : Tables} {d : AdapterData} {debug : Bool} {lower lift : Signature} (lower_side lift_side : SideSig)
    (lower_are : (ps rs : List Shape) → HasSignature t lower_side.ty ps rs → lower ≡ lower_signature lower_side ps rs) (lift_are : (ps rs : List Shape) → HasSignature t lift_side.ty ps rs → lift ≡ lift_signature lift_side ps rs)
    (of_lower : IsSyncSide lower_side d.lower.ty d.lower.options.linear.memory64) (of_lift : IsSyncSide lift_side d.lift.ty d.lift.options.linear.memory64) where
  lower_of : {u : AdapterTunables} {a : LinkedAdapter} → DescribesAdapter t d debug u a → lower ≡ lower_signature_of a
  lower_of {u} {a} h =
      lower_are a.lower.params a.lower.results (subst (λ i. HasSignature t i a.lower.params a.lower.results) (sym of_lower.ty_is) h.transfers.lower.signature)
      ∙ (λ i. lower_by (of_lower.sync i) ((of_lower.wide ∙ sym h.transfers.lower.wide) i) a.lower.params a.lower.results) ∙ sym (lower_is_sync a h.lower_sync)

  lift_of : {u : AdapterTunables} {a : LinkedAdapter} → DescribesAdapter t d debug u a → lift ≡ lift_signature_of a
  lift_of {u} {a} h =
      lift_are a.lift.params a.lift.results (subst (λ i. HasSignature t i a.lift.params a.lift.results) (sym of_lift.ty_is) h.transfers.lift.signature)
      ∙ (λ i. lift_by (of_lift.sync i) lift_side.callback ((of_lift.wide ∙ sym h.transfers.lift.wide) i) a.lift.params a.lift.results) ∙ sym (lift_is_sync a h.lift_sync)

  pub compiled : {o : CallOptions} {concurrency exceptions : Bool} {fuel : ℕ} {s0 s1 s2 s3 s4 : ModuleSoFar} {n k : ℕ} {f : WasmFunc} → length s0.functions < s0.numbered → slice_get s1.types n ≡ Some (signature lower.params lower.results) → HasType s0 s1 (signature lower.params lower.results) → Extended s0 s1 → (AreOnce s0 → AreOnce s1)
      → WroteFunction t d debug o fuel lower lift n s1 s2 f → AsksCalls t d concurrency exceptions o → k ≡ length s2.functions → s3 ≡ record s2 { functions = s2.functions ++ f ∷ [] } → s4 ≡ record s3 { exports = s3.exports ++ export_as d.name (func.Defined k) ∷ [] } → AskingSync t d debug concurrency exceptions fuel s0 s4
  compiled {o} {concurrency} {exceptions} {fuel} {s0} {s1} {s2} {s3} {s4} {n} {k} {f} ahead place has keeps once w asks number defined exported =
      let same : s4 ≡ record s2 { functions = s2.functions ++ f ∷ []; exports = s2.exports ++ export_as d.name (func.Defined k) ∷ [] } = exported ∙ ap (λ (s : ModuleSoFar). record s { exports = s.exports ++ export_as d.name (func.Defined k) ∷ [] }) defined in
      let before : KeepsDefined s0 s1 = defined_type has in
      let kept : KeepsDefined s1 s2 = defined_brought w.brought in
      let count : k ≡ length s0.functions = number ∙ ap length (kept.functions ∙ before.functions) in
      let last : Extended s2 s4 = extended_defined (ap (λ (s : ModuleSoFar). s.types) same) (ap (λ (s : ModuleSoFar). s.section) same) (ap (λ (s : ModuleSoFar). s.imports) same) (ap (λ (s : ModuleSoFar). s.helpers) same) (ap (λ (s : ModuleSoFar). s.numbered) same) in
      let none : AreNewAsked [] s2 s4 = defined_new f (ap (λ (s : ModuleSoFar). s.helpers) same) (ap (λ (s : ModuleSoFar). s.numbered) same) (ap (λ (s : ModuleSoFar). s.functions) same) (omega (arith, ahead, ap length (kept.functions ∙ before.functions), keeps.numbered, w.imports.numbered)) in
      record {
        asks = w.asks;
        asked = subst (λ c. AsksFor t debug c w.asks s0 s4) asks.same_concurrency (asks_behind (type_new has) (asks_kept last w.asked none));
        keys = λ u a h. subst (λ c. AsksKeys t d debug c a w.asks f (sync_asks fuel a)) asks.same_concurrency (w.keys u a h);
        compiled = record {
          function = f;
          ty = signature lower.params lower.results;
          declared = s1;
          declares = has;
          written = s2;
          brought = w.brought;
          is_last = same ∙ ap (λ j. record s2 { functions = s2.functions ++ f ∷ []; exports = s2.exports ++ export_as d.name (func.Defined j) ∷ [] }) number;
          functions = ap (λ (s : ModuleSoFar). s.functions) same ∙ ap (λ fs. fs ++ f ∷ []) (kept.functions ∙ before.functions);
          exports = ap (λ (s : ModuleSoFar). s.exports) same ∙ ap (λ es. es ++ export_as d.name (func.Defined k) ∷ []) (kept.exports ∙ before.exports) ∙ ap (λ j. s0.exports ++ export_as d.name (func.Defined j) ∷ []) count;
          once = λ o. once_same (ap functions_of same) (ap memories_of same) (ap globals_of same) (ap (λ (s : ModuleSoFar). s.types) same) (ap (λ (s : ModuleSoFar). s.section) same) (w.once (once o));
          typed = λ u a h.
              let at : slice_get s4.types n ≡ Some (signature lower.params lower.results) = grown_get last.types n _ (grown_get w.imports.types n _ place) in
              ap (slice_get s4.types) w.ty ∙ at ∙ ap (λ (s : Signature). Some (signature s.params s.results)) (lower_of h);
          writes = record {
            imports = extended_on keeps (extended_on w.imports last);
            is = λ u a h set M p serves has links. w.is u a h (asks_calls asks h set) (lower_of h) (lift_of h) M p (serves_sooner last serves) has links;
          };
        };
      }
