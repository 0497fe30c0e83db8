-- Functions that are put into a module, whose code is the first to name the imports that are new with them.
use Rattle.std.proofs.Common.{◌≡◌, ℕ, suc, ◌+◌, ◌<◌, Bool, true, false, List, [], ◌∷◌, ◌++◌, Some, Option, codes, refl, sym, ap, ◌∙◌, subst, arith, length, length-append, map, slice_get, append-nil, append_assoc, nat_eq, inl, inr}
use Rattle.std.specs.Prelude.{cond, filter, not}
use Rattle.std.specs.List.{flat_map, list_any, range_with_len}
use Rattle.std.proofs.lemmas.Bool.{false≢true}
use Rattle.std.proofs.lemmas.Grind.{flat_map-append}
use Rattle.std.proofs.lemmas.List.{map-append}
use Rattle.std.proofs.lemmas.List.Elements.{filter_map-append}
use Rattle.std.proofs.lemmas.Option.{slice_get_within}
use Rattle.fact_entity.specs.declared.id.Id.{Id}
use Rattle.fact_entity.specs.declared.table.Memories.{Memories}
use Rattle.fact_wasm.specs.declared.module.ImportType.TheVariants as import
use Rattle.fact_wasm.specs.declared.module.WasmFunc.{WasmFunc}
use Rattle.fact_wasm.specs.declared.module.WasmImport.{WasmImport}
use Rattle.fact_wasm.specs.declared.types.FuncType.{FuncType}
use Rattle.fact_wasm.specs.declared.types.ValType.{ValType}
use Rattle.fact_machine.specs.Trace.{Grows}
use Rattle.fact_types.specs.declared.import.Import.{Import}
use Rattle.fact_types.specs.declared.import.Import.TheVariants as known
use Rattle.fact_types.specs.declared.outside.CoreDef.{CoreDef}
use Rattle.fact_plan_types.proofs.HandleLaws.{there as get-within}
use Rattle.fact_emit.specs.Brought.{AreCalledImported, Brought, CalledFunction, IsCalledImported, Runtime, Transcoding, Helping}
use Rattle.fact_emit.specs.declared.helpers.Helper.{Helper}
use Rattle.fact_emit.specs.declared.imported.RuntimeFunction.{RuntimeFunction}
use Rattle.fact_emit.specs.declared.imported.RuntimeFunction.TheVariants as runtime
use Rattle.fact_emit.specs.declared.task_calls.StartCall.{StartCall}
use Rattle.fact_emit.specs.Imports.{HasImport}
use Rattle.fact_emit.specs.ImportSection.{Mention, a_function, imported_type, imports_of, is_made_once, is_of}
use Rattle.fact_emit.specs.Known.{AreKnown}
use Rattle.fact_emit.specs.NamedFunctions.{all_added_once, imported_named}
use Rattle.fact_emit.specs.Runtime.{import_of}
use Rattle.fact_emit.specs.States.{HasType, IsHelperAsked, IsImported, ModuleSoFar, functions_of, import_as, next_number, with_helper, with_import}
use Rattle.fact_emit.specs.TaskCalls.{HasStartCall, IsPrepareCallImported, IsStartCallImported}
use Rattle.fact_emit.specs.TaskTypes.{prepare_call_name, start_call_name, start_call_type}
use Rattle.fact_emit.proofs.BroughtLaws.{IsEven, even_type, helper_functions}
use Rattle.fact_emit.proofs.ExactItems.{runtime-made-once}
use Rattle.fact_emit.proofs.ImportLaws.{grown_get, grows_none, grows_on, later_import}
use Rattle.fact_emit.proofs.ImportLists.{imports-append, last-or-before}
use Rattle.fact_emit.proofs.KnownLaws.{known_type}
use Rattle.fact_emit.proofs.Named.{function-at, named-lengths}
use Rattle.fact_emit.proofs.NamedLaws.{added_on, below_added, next_added, ranged_named}
use Rattle.fact_emit.proofs.StateLaws.{extended-by}
use Rattle.fact_emit.proofs.TaskItems.{one-type}
use Rattle.fact_assembly.specs.Order.{Item, Other, is_definition, is_prepare_call, item_of, items, names, others_among, others_named, prepare_calls_last}
use Rattle.fact_assembly.proofs.FirstNamed.{added_kept, all_filtered, all_with, any_below, any_kept, calls_in_order, is_other, numbers_others}
use Rattle.fact_assembly.proofs.Ordered.{items-append, numbers-others, numbers_of, other_number}

abbrev pub items_so_far : ModuleSoFar → List Item
items_so_far s = items 0 s.section s.imports

-- ---- one step

pub items_type : {old new : ModuleSoFar} {ty : FuncType} → HasType old new ty → items_so_far new ≡ items_so_far old
items_type (inl same) = ap items_so_far same
items_type (inr anew) = ap items_so_far anew.1

pub functions_typed : {old new : ModuleSoFar} {ty : FuncType} → HasType old new ty → functions_of new ≡ functions_of old
functions_typed (inl same) = ap functions_of same
functions_typed (inr anew) = ap functions_of anew.1

pub one_more : (s : ModuleSoFar) (w : WasmImport) (i : Import) → IsEven s → items_so_far (with_import s w i) ≡ items_so_far s ++ item_of (length (functions_of s)) i ∷ []
one_more s w i e = let same : 0 + length (functions_of s) ≡ length (functions_of s) = omega arith in items-append 0 s.section (w ∷ []) s.imports (i ∷ []) e ∙ ap (λ k. items_so_far s ++ item_of k i ∷ []) same

functions_more : (s : ModuleSoFar) (w : WasmImport) (i : Import) → IsEven s → functions_of (with_import s w i) ≡ functions_of s ++ imports_of a_function (w ∷ []) (i ∷ [])
functions_more s w i e = imports-append a_function s.section (w ∷ []) s.imports (i ∷ []) e

even_more : (s : ModuleSoFar) (w : WasmImport) (i : Import) → IsEven s → IsEven (with_import s w i)
even_more s w i e = omega (arith, e, length-append s.section (w ∷ []), length-append s.imports (i ∷ []))

-- ---- functions that are no core definitions are imported behind the others

pub record AddsOthers (old new : ModuleSoFar) : Type 0 where
  pub others : List ℕ
  pub items_are : items_so_far new ≡ items_so_far old ++ map Other others
  pub grows : Grows (functions_of old) (functions_of new)
  pub even : IsEven new

others-none : {old new : ModuleSoFar} → IsEven old → new ≡ old → AddsOthers old new
others-none {old} e same = record { others = []; items_are = ap items_so_far same ∙ sym (append-nil (items_so_far old)); grows = grows_none (ap functions_of same); even = subst IsEven (sym same) e }

others-type : {old new : ModuleSoFar} {ty : FuncType} → IsEven old → HasType old new ty → AddsOthers old new
others-type {old} e types = record { others = []; items_are = items_type types ∙ sym (append-nil (items_so_far old)); grows = grows_none (functions_typed types); even = even_type types e }

others-one : (s : ModuleSoFar) (w : WasmImport) (i : Import) → ((n : ℕ) → item_of n i ≡ Other n) → IsEven s → AddsOthers s (with_import s w i)
others-one s w i other e = record {
  others = length (functions_of s) ∷ [];
  items_are = one_more s w i e ∙ ap (λ x. items_so_far s ++ x ∷ []) (other (length (functions_of s)));
  grows = record { more = imports_of a_function (w ∷ []) (i ∷ []); is = functions_more s w i e };
  even = even_more s w i e;
}

others-on : {a b c : ModuleSoFar} → AddsOthers a b → AddsOthers b c → AddsOthers a c
others-on {a} x y = record {
  others = x.others ++ y.others;
  items_are = y.items_are ∙ ap (λ l. l ++ map Other y.others) x.items_are ∙ append_assoc (items_so_far a) (map Other x.others) (map Other y.others)
      ∙ ap (λ l. items_so_far a ++ l) (sym (map-append Other x.others y.others));
  grows = grows_on x.grows y.grows;
  even = y.even;
}

others-import : {old new : ModuleSoFar} {w : WasmImport} (i : Import) {place : ℕ} → ((n : ℕ) → item_of n i ≡ Other n) → IsEven old → IsImported old new w i place → AddsOthers old new
others-import {old} {w = w} i other e h = elim h.step [
  | inl there ↦ others-none e there.0
  | inr anew ↦ subst (AddsOthers old) (sym anew.0) (others-one old w i other e)
]

-- functions of the runtime are no core definitions
runtime_item : (n : ℕ) (f : RuntimeFunction) → item_of n (import_of f) ≡ Other n
runtime_item n (runtime.Trap t) = refl
runtime_item n runtime.ResourceTransferOwn = refl
runtime_item n runtime.ResourceTransferBorrow = refl
runtime_item n runtime.FutureTransfer = refl
runtime_item n runtime.StreamTransfer = refl
runtime_item n runtime.ErrorContextTransfer = refl
runtime_item n runtime.EnterSyncCall = refl
runtime_item n runtime.ExitSyncCall = refl
runtime_item n (runtime.UnsafeIntrinsic s) = refl

-- helpers are no imports
others-helper : {old new : ModuleSoFar} {key : Helper} {number : ℕ} → IsEven old → IsHelperAsked old new key number → AddsOthers old new
others-helper {old} {key = key} e h = elim h.step [
  | inl same ↦ others-none e same
  | inr anew ↦ subst (AddsOthers old) (sym anew.0) (helped (others-none {old = old} e refl))
]
  where
    helped : AddsOthers old old → AddsOthers old (with_helper old key)
    helped x = record { others = x.others; items_are = x.items_are; grows = x.grows; even = x.even }

others-call : (f : CalledFunction) (old new : ModuleSoFar) (place : ℕ) → IsEven old → IsCalledImported old new f place → AddsOthers old new
others-call (Runtime f) old new place e h = others-on (others-type e h.types) (others-import (import_of f) (λ n. runtime_item n f) (even_type h.types e) h.imported)
others-call (Transcoding t) old new place e h = others-on (others-type e h.types) (others-import _ (λ n. refl) (even_type h.types e) h.imported)
others-call (Helping key) old new place e h = others-helper e h

others-calls : (fs : List CalledFunction) (old new : ModuleSoFar) → IsEven old → AreCalledImported old new fs → AddsOthers old new
others-calls [] old new e h = others-none e h
others-calls (f ∷ fs) old new e h = let one = others-call f old h.0 h.1 e h.2 in others-on one (others-calls fs h.0 new one.even h.3)

-- ---- no prepare-call is among functions of the runtime that code calls

abbrev KeepsPrepares : (old new : ModuleSoFar) → Type 0
KeepsPrepares old new = (k : ℕ) (i : Import) → is_prepare_call (Some i) ≡ true → slice_get (functions_of new) k ≡ Some i → slice_get (functions_of old) k ≡ Some i

prepare-again : (i : Import) → is_made_once i ≡ true → is_prepare_call (Some i) ≡ true → ⊥
prepare-again (known.PrepareCall memory) made prepares = false≢true made
prepare-again _ made prepares = false≢true prepares

prepares-import : {old new : ModuleSoFar} {w : WasmImport} (x : Import) {place : ℕ} → is_made_once x ≡ true → IsEven old → IsImported old new w x place → KeepsPrepares old new
prepares-import {old} {new} {w} x made e h k i prepares at = elim h.step [
  | inl there ↦ ap (λ s. slice_get (functions_of s) k) (sym there.0) ∙ at
  | inr anew ↦ last (is_of a_function w) (ap (λ fs. slice_get fs k) (sym (ap functions_of anew.0 ∙ functions_more old w x e)) ∙ at)
]
  where
    last : (b : Bool) → slice_get (functions_of old ++ cond b (x ∷ []) []) k ≡ Some i → slice_get (functions_of old) k ≡ Some i
    last false at = ap (λ fs. slice_get fs k) (sym (append-nil (functions_of old))) ∙ at
    last true at = elim (last-or-before (functions_of old) x k i at) [
      | inl there ↦ there
      | inr at_last ↦ absurd (prepare-again x made (ap (λ j. is_prepare_call (Some j)) at_last.1 ∙ prepares))
    ]

prepares-type : {old new : ModuleSoFar} {ty : FuncType} → HasType old new ty → KeepsPrepares old new
prepares-type types k i prepares at = ap (λ fs. slice_get fs k) (sym (functions_typed types)) ∙ at

prepares-call : (f : CalledFunction) (old new : ModuleSoFar) (place : ℕ) → IsEven old → IsCalledImported old new f place → KeepsPrepares old new
prepares-call (Runtime f) old new place e h k i prepares at = prepares-type h.types k i prepares (prepares-import (import_of f) (runtime-made-once f) (even_type h.types e) h.imported k i prepares at)
prepares-call (Transcoding t) old new place e h k i prepares at = prepares-type h.types k i prepares (prepares-import _ refl (even_type h.types e) h.imported k i prepares at)
prepares-call (Helping key) old new place e h k i prepares at = ap (λ fs. slice_get fs k) (sym (helper_functions h)) ∙ at

prepares-calls : (fs : List CalledFunction) (old new : ModuleSoFar) → IsEven old → AreCalledImported old new fs → KeepsPrepares old new
prepares-calls [] old new e h k i prepares at = ap (λ s. slice_get (functions_of s) k) (sym h) ∙ at
prepares-calls (f ∷ fs) old new e h k i prepares at =
    prepares-call f old h.0 h.1 e h.2 k i prepares (prepares-calls fs h.0 new (others-call f old h.0 h.1 e h.2).even h.3 k i prepares at)

-- ---- the calls by which an async adapter hands its call on

others-start : {old new : ModuleSoFar} {adapter : List ℕ} {c : StartCall} {results : List ValType} {place : ℕ} → IsEven old → IsStartCallImported old new adapter c results place → AddsOthers old new
others-start {adapter = adapter} e h = others-on (others-type e h.types) (elim h.step [
  | inl found ↦ others-none (even_type h.types e) found.0
  | inr anew ↦ subst (AddsOthers h.typed) (sym anew.0)
      (others-one h.typed (import_as (codes "async") (start_call_name adapter) (import.Func h.ty)) (known.StartCall h.callback h.post_return) (λ n. refl) (even_type h.types e))
])

others-prepare : {old new : ModuleSoFar} {adapter : List ℕ} {m : Option (Id Memories)} {params : List ValType} {place : ℕ} → IsEven old → IsPrepareCallImported old new adapter m params place → AddsOthers old new
others-prepare {adapter = adapter} e h = others-on (others-type e h.types) (subst (AddsOthers h.typed) (sym h.is_new)
    (others-one h.typed (import_as (codes "sync") (prepare_call_name adapter) (import.Func h.ty)) (known.PrepareCall h.memory) (λ n. refl) (even_type h.types e)))

-- a start-call that is new is the last of the imported functions
module _ {old new : ModuleSoFar} {adapter : List ℕ} {c : StartCall} {results : List ValType} {place : ℕ} (ms : List Mention) (are_known : AreKnown old ms) (h : IsStartCallImported old new adapter c results place) where
  abbrev start : Import
  start = known.StartCall h.callback h.post_return

  typed-known : AreKnown h.typed ms
  typed-known = known_type _ h.types are_known

  typed-even : IsEven h.typed
  typed-even = named-lengths h.typed.types ms [] h.typed.section h.typed.imports typed-known.named

  -- one that stands at its place was there before
  start-there : (w : WasmImport) → new ≡ with_import h.typed w start → slice_get (functions_of h.typed) place ≡ Some start → HasStartCall h.typed h.callback h.post_return results
  start-there w is_new at =
      let (v, t, is, imported, b, named) = function-at h.typed.types ms [] h.typed.section h.typed.imports place start typed-known.named at in
      let rs : List ValType = named.0 in
      let type_is : slice_get h.typed.types t ≡ Some (start_call_type rs) = ap (imported_type h.typed.types) (sym is) ∙ named.1 in
      let here : HasImport h.typed start place (start_call_type rs).params rs = record { there = at; type_at = t; imported = imported; type_is = type_is } in
      let later : HasImport (with_import h.typed w start) start place (start_call_type rs).params rs = later_import (extended-by h.typed typed-even w start) here in
      let same : rs ≡ results = (one-type later (subst (λ s. HasImport s start place (start_call_type results).params results) is_new h.has)).1 in
      record { place = place; has = subst (λ qs. HasImport h.typed start place (start_call_type qs).params qs) same here }

  start-order-typed : all_added_once (range_with_len 0 (length (functions_of h.typed))) (place ∷ []) ≡ range_with_len 0 (length (functions_of new))
  start-order-typed = elim h.step [
    | inl found ↦
        let within = slice_get_within (functions_of h.typed) place start (ap (λ s. slice_get (functions_of s) place) (sym found.0) ∙ h.has.there) in
        below_added (length (functions_of h.typed)) (place ∷ []) (within, tt) ∙ ap (λ s. range_with_len 0 (length (functions_of s))) (sym found.0)
    | inr anew ↦
        let w : WasmImport = import_as (codes "async") (start_call_name adapter) (import.Func h.ty) in
        let grown : functions_of new ≡ functions_of h.typed ++ start ∷ [] = ap functions_of anew.0 ∙ functions_more h.typed w start typed-even in
        let count : suc (length (functions_of h.typed)) ≡ length (functions_of new) = omega (arith, ap length grown, length-append (functions_of h.typed) (start ∷ [])) in
        let last : place ≡ length (functions_of h.typed) = elim (last-or-before (functions_of h.typed) start place start (ap (λ fs. slice_get fs place) (sym grown) ∙ h.has.there)) [
          | inl here ↦ absurd (anew.1 (start-there w anew.0 here))
          | inr at_last ↦ at_last.0
        ] in
        ap (λ k. all_added_once (range_with_len 0 (length (functions_of h.typed))) (k ∷ [])) last ∙ next_added (length (functions_of h.typed)) ∙ ap (range_with_len 0) count
  ]

  start-order : all_added_once (range_with_len 0 (length (functions_of old))) (place ∷ []) ≡ range_with_len 0 (length (functions_of new))
  start-order = ap (λ fs. all_added_once (range_with_len 0 (length fs)) (place ∷ [])) (sym (functions_typed h.types)) ∙ start-order-typed

-- and a prepare-call always is
prepare-order : {old new : ModuleSoFar} {adapter : List ℕ} {m : Option (Id Memories)} {params : List ValType} {place : ℕ} → IsEven old → IsPrepareCallImported old new adapter m params place
    → all_added_once (range_with_len 0 (length (functions_of old))) (place ∷ []) ≡ range_with_len 0 (length (functions_of new))
prepare-order {old} {new} {adapter} {place = place} e h =
    let call : Import = known.PrepareCall h.memory in
    let grown : functions_of new ≡ functions_of old ++ call ∷ [] =
    ap functions_of h.is_new ∙ functions_more h.typed (import_as (codes "sync") (prepare_call_name adapter) (import.Func h.ty)) call (even_type h.types e) ∙ ap (λ fs. fs ++ call ∷ []) (functions_typed h.types) in
    let count : suc (length (functions_of old)) ≡ length (functions_of new) = omega (arith, ap length grown, length-append (functions_of old) (call ∷ [])) in
    ap (λ k. all_added_once (range_with_len 0 (length (functions_of old))) (k ∷ [])) h.place_is ∙ next_added (length (functions_of old)) ∙ ap (range_with_len 0) count

-- ---- functions that are the first to name them

-- The functions that are imported anew, and are no core definitions, are those that the code of these functions is the first to name, in order.
pub record AreFirstNamed (old new : ModuleSoFar) (fs : List WasmFunc) : Type 0 where
  pub adds : AddsOthers old new
  pub in_order : (more : List Import) → all_added_once (numbers_of (items_so_far old)) (flat_map (others_named (functions_of new ++ more)) fs) ≡ numbers_of (items_so_far old) ++ adds.others

numbers-more : {old new : ModuleSoFar} (adds : AddsOthers old new) → numbers_of (items_so_far new) ≡ numbers_of (items_so_far old) ++ adds.others
numbers-more {old} adds =
    ap numbers_of adds.items_are ∙ filter_map-append other_number (items_so_far old) (map Other adds.others) ∙ ap (λ l. numbers_of (items_so_far old) ++ l) (numbers-others adds.others)

pub first-type : {old new : ModuleSoFar} {ty : FuncType} → IsEven old → HasType old new ty → AreFirstNamed old new []
unfolding others-type
first-type {old} e types = record { adds = others-type e types; in_order = λ more. sym (append-nil (numbers_of (items_so_far old))) }

-- functions behind functions
pub first-on : {a b c : ModuleSoFar} {fs gs : List WasmFunc} → AreFirstNamed a b fs → AreFirstNamed b c gs → AreFirstNamed a c (fs ++ gs)
unfolding others-on
first-on {a} {b} {c} {fs} {gs} x y = record {
  adds = others-on x.adds y.adds;
  in_order = λ more.
      let all : List Import = functions_of c ++ more in
      let sooner : all ≡ functions_of b ++ (y.adds.grows.more ++ more) = ap (λ l. l ++ more) y.adds.grows.is ∙ append_assoc (functions_of b) y.adds.grows.more more in
      let ns : List ℕ = numbers_of (items_so_far a) in
      let first : all_added_once ns (flat_map (others_named all) fs) ≡ numbers_of (items_so_far b) =
      ap (λ l. all_added_once ns (flat_map (others_named l) fs)) sooner ∙ x.in_order (y.adds.grows.more ++ more) ∙ sym (numbers-more x.adds) in
      ap (all_added_once ns) (flat_map-append (others_named all) fs gs)
      ∙ added_on ns (flat_map (others_named all) fs) (flat_map (others_named all) gs)
      ∙ ap (λ l. all_added_once l (flat_map (others_named all) gs)) first
      ∙ y.in_order more
      ∙ ap (λ l. l ++ y.adds.others) (numbers-more x.adds)
      ∙ append_assoc ns x.adds.others y.adds.others;
}

-- the same of a module that imports the same
pub first-same : {old new last : ModuleSoFar} {fs : List WasmFunc} → last.section ≡ new.section → last.imports ≡ new.imports → AreFirstNamed old new fs → AreFirstNamed old last fs
first-same {old} {new} {last} {fs} section imports x = record {
  adds = record {
    others = x.adds.others;
    items_are = (λ k. items 0 (section k) (imports k)) ∙ x.adds.items_are;
    grows = record { more = x.adds.grows.more; is = functions ∙ x.adds.grows.is };
    even = ap length section ∙ x.adds.even ∙ sym (ap length imports);
  };
  in_order = λ more. ap (λ l. all_added_once (numbers_of (items_so_far old)) (flat_map (others_named (l ++ more)) fs)) functions ∙ x.in_order more;
}
  where
    functions : functions_of last ≡ functions_of new
    functions = λ k. imports_of a_function (section k) (imports k)

-- and of one that imported the same before
pub first-before : {first old new : ModuleSoFar} {fs : List WasmFunc} → old.section ≡ first.section → old.imports ≡ first.imports → AreFirstNamed old new fs → AreFirstNamed first new fs
first-before {first} {old} {new} {fs} section imports x = record {
  adds = record {
    others = x.adds.others;
    items_are = x.adds.items_are ∙ ap (λ l. l ++ map Other x.adds.others) shown;
    grows = record { more = x.adds.grows.more; is = x.adds.grows.is ∙ (λ k. imports_of a_function (section k) (imports k) ++ x.adds.grows.more) };
    even = x.adds.even;
  };
  in_order = λ more. subst (λ ns. all_added_once ns (flat_map (others_named (functions_of new ++ more)) fs) ≡ ns ++ x.adds.others) (ap numbers_of shown) (x.in_order more);
}
  where
    shown : items_so_far old ≡ items_so_far first
    shown = λ k. items 0 (section k) (imports k)

-- ---- numbers of functions that are no core definitions

module _ (ms : List Mention) {old new : ModuleSoFar} (old_known : AreKnown old ms) (new_known : AreKnown new ms) (adds : AddsOthers old new) (all : List Import) (g : Grows (functions_of new) all) where
  numbers-in : (s : ModuleSoFar) → AreKnown s ms → Grows (functions_of s) all → numbers_of (items_so_far s) ≡ filter (is_other all) (range_with_len 0 (length (functions_of s)))
  numbers-in s are_known g =
      numbers_others all s.types ms 0 [] s.section s.imports are_known.named (λ k i at. (let same : 0 + k ≡ k = omega arith in ap (slice_get all) same) ∙ grown_get g k i at)

  -- where the new ones are named behind those from before
  new-numbers : (ks : List ℕ) → all_added_once (range_with_len 0 (length (functions_of old))) ks ≡ range_with_len 0 (length (functions_of new))
      → all_added_once (numbers_of (items_so_far old)) (filter (is_other all) ks) ≡ numbers_of (items_so_far old) ++ adds.others
  new-numbers ks order =
      ap (λ ns. all_added_once ns (filter (is_other all) ks)) (numbers-in old old_known (grows_on adds.grows g))
      ∙ sym (added_kept (is_other all) (range_with_len 0 (length (functions_of old))) ks)
      ∙ ap (filter (is_other all)) order ∙ sym (numbers-in new new_known g) ∙ numbers-more adds

  prepare-other : (i : Import) → is_prepare_call (Some i) ≡ true → not (is_definition (Some i)) ≡ true
  prepare-other (known.CoreDef d) prepares = absurd (false≢true prepares)
  prepare-other _ prepares = refl

  -- a prepare-call from before is among the numbers from before
  prepare-in : KeepsPrepares old new → (k : ℕ) → k < length (functions_of new) → is_prepare_call (slice_get all k) ≡ true → list_any (λ x. nat_eq x k) (numbers_of (items_so_far old)) ≡ true
  prepare-in keeps k below prepares =
      let (i, at) = get-within (functions_of new) k below in
      let there : slice_get all k ≡ Some i = grown_get g k i at in
      let is_one : is_prepare_call (Some i) ≡ true = ap is_prepare_call (sym there) ∙ prepares in
      let within = slice_get_within (functions_of old) k i (keeps k i is_one at) in
      let passes : is_other all k ≡ true = ap (λ o. not (is_definition o)) there ∙ prepare-other i is_one in
      ap (list_any (λ x. nat_eq x k)) (numbers-in old old_known (grows_on adds.grows g))
      ∙ any_kept (is_other all) k passes (range_with_len 0 (length (functions_of old)))
      ∙ any_below (length (functions_of old)) k within

-- ---- a function whose code was brought in

pub first-brought : (ms : List Mention) {old new : ModuleSoFar} (f : WasmFunc) → AreKnown old ms → AreKnown new ms → Brought old new f.body → AreFirstNamed old new (f ∷ [])
first-brought ms {old} {new} f old_known new_known b = record { adds = adds; in_order = in_order }
  where
    even : IsEven old
    even = named-lengths old.types ms [] old.section old.imports old_known.named

    adds : AddsOthers old new
    adds = others-calls b.called old new even b.imported

    in_order : (more : List Import) → all_added_once (numbers_of (items_so_far old)) (others_named (functions_of new ++ more) f ++ []) ≡ numbers_of (items_so_far old) ++ adds.others
    in_order more =
        let all : List Import = functions_of new ++ more in
        let g : Grows (functions_of new) all = record { more = more; is = refl } in
        let ns : List ℕ = numbers_of (items_so_far old) in
        let there = all_filtered (is_other all) (λ k. is_prepare_call (slice_get all k) ≡ true → list_any (λ x. nat_eq x k) ns ≡ true) (imported_named f.body)
        (all_with (λ k. k < length (functions_of new)) (λ k. is_prepare_call (slice_get all k) ≡ true → list_any (λ x. nat_eq x k) ns ≡ true)
        (prepare-in ms old_known new_known adds all g (prepares-calls b.called old new even b.imported)) (imported_named f.body) (ranged_named (length (functions_of new)) (next_number new) f.body b.ranged)) in
        ap (all_added_once ns) (append-nil (others_named all f))
        ∙ calls_in_order all ns (others_among all (names f)) there
        ∙ new-numbers ms old_known new_known adds all g (imported_named f.body) (b.order even)

-- ---- a function that hands a call on

-- It names its prepare-call, its callee and its start-call, in this order.
pub first-entry : (ms : List Mention) {old between new : ModuleSoFar} (f : WasmFunc) {adapter : List ℕ} {c : StartCall} {m : Option (Id Memories)} {params results : List ValType} {prepare callee start : ℕ} {d : CoreDef}
    → AreKnown old ms → AreKnown new ms → (s : IsStartCallImported old between adapter c results start) → (p : IsPrepareCallImported between new adapter m params prepare)
    → Grows (functions_of between) (functions_of new) → slice_get (functions_of new) callee ≡ Some (known.CoreDef d) → imported_named f.body ≡ prepare ∷ callee ∷ start ∷ [] → AreFirstNamed old new (f ∷ [])
first-entry ms {old} {between} {new} f {prepare = prepare} {callee} {start} {d} old_known new_known s p prepared callee_there named = record { adds = adds; in_order = in_order }
  where
    even : IsEven old
    even = named-lengths old.types ms [] old.section old.imports old_known.named

    started : AddsOthers old between
    started = others-start even s

    adds : AddsOthers old new
    adds = others-on started (others-prepare started.even p)

    order : all_added_once (range_with_len 0 (length (functions_of old))) (start ∷ prepare ∷ []) ≡ range_with_len 0 (length (functions_of new))
    order = ap (λ ns. all_added_once ns (prepare ∷ [])) (start-order ms old_known s) ∙ prepare-order started.even p

    in_order : (more : List Import) → all_added_once (numbers_of (items_so_far old)) (others_named (functions_of new ++ more) f ++ []) ≡ numbers_of (items_so_far old) ++ adds.others
    in_order more =
        let all : List Import = functions_of new ++ more in
        let g : Grows (functions_of new) all = record { more = more; is = refl } in
        let ns : List ℕ = numbers_of (items_so_far old) in
        let prepare_at : slice_get all prepare ≡ Some (known.PrepareCall p.memory) = grown_get g prepare _ p.has.there in
        let callee_at : slice_get all callee ≡ Some (known.CoreDef d) = grown_get g callee _ callee_there in
        let start_at : slice_get all start ≡ Some (known.StartCall s.callback s.post_return) = grown_get g start _ (grown_get prepared start _ s.has.there) in
        let others : filter (is_other all) (prepare ∷ callee ∷ start ∷ []) ≡ prepare ∷ start ∷ [] = rw (prepare_at, callee_at, start_at) refl in
        let turned : prepare_calls_last all (prepare ∷ start ∷ []) ≡ start ∷ prepare ∷ [] = rw (prepare_at, start_at) refl in
        let needs : others_named all f ≡ start ∷ prepare ∷ [] = ap (λ ks. prepare_calls_last all (filter (is_other all) ks)) named ∙ ap (prepare_calls_last all) others ∙ turned in
        let kept : filter (is_other all) (start ∷ prepare ∷ []) ≡ start ∷ prepare ∷ [] = rw (prepare_at, start_at) refl in
        ap (all_added_once ns) (append-nil (others_named all f) ∙ needs ∙ sym kept)
        ∙ new-numbers ms old_known new_known adds all g (start ∷ prepare ∷ []) order
