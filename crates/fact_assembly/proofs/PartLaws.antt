-- One adapter more in a module that is being made: what it mentions is imported, its functions are put behind the others with what their code
-- names, and its callee is exported.
use Rattle.std.proofs.Common.{◌≡◌, ℕ, suc, ◌+◌, ◌-◌, ◌≤◌, Bool, true, false, List, [], ◌∷◌, ◌++◌, Some, None, Option, refl, sym, ap, ◌∙◌, subst, arith, length, length-append, map, slice_get, append-nil, append_assoc, inl, inr}
use Rattle.std.specs.Prelude.{cond, count_by}
use Rattle.std.specs.List.{AllByRecursion, AllZip, cons_option, filter_map, flat_map, range_with_len}
use Rattle.std.proofs.lemmas.List.{length-map, map-append}
use Rattle.std.proofs.lemmas.List.Elements.{filter_map-append}
use Rattle.std.proofs.lemmas.List.FromFn.{length-range_with_len}
use Rattle.std.proofs.lemmas.Option.{slice_get_within}
use Rattle.fact_wasm.specs.declared.types.FuncType.{FuncType}
use Rattle.fact_wasm.specs.declared.instr.FuncName.{FuncName}
use Rattle.fact_wasm.specs.declared.instr.FuncName.TheVariants as func
use Rattle.fact_wasm.specs.declared.module.ImportType.{ImportType}
use Rattle.fact_wasm.specs.declared.module.ImportType.TheVariants as import
use Rattle.fact_wasm.specs.declared.module.WasmExport.{WasmExport}
use Rattle.fact_wasm.specs.declared.module.WasmFunc.{WasmFunc}
use Rattle.fact_wasm.specs.declared.module.WasmImport.{WasmImport}
use Rattle.fact_wasm.specs.declared.module.WasmModule.{WasmModule}
use Rattle.fact_wasm.specs.Ranges.{AreBodiesRanged, AreRanged, imported_functions, is_function}
use Rattle.fact_wasm.proofs.Ranged.{all-append}
use Rattle.fact_machine.specs.Trace.{Grows}
use Rattle.fact_types.specs.Adapters.{LinkedAdapter}
use Rattle.fact_types.specs.Tables.{Tables}
use Rattle.fact_types.specs.declared.import.Import.{Import}
use Rattle.fact_types.specs.declared.import.Import.TheVariants as known
use Rattle.fact_plan_types.proofs.HandleLaws.{there as get-within, zip_map}
use Rattle.fact_actions.specs.Adapters.{AdapterTunables}
use Rattle.fact_emit.specs.ImportSection.{Mention, NamesImports, a_function, adapter_mentions, imported_function, is_awaited, is_of, mentions, same_sort, sort_of, with_mention, with_mentions}
use Rattle.fact_emit.specs.Imports.{Extended}
use Rattle.fact_emit.specs.Known.{AreUsedAlike}
use Rattle.fact_emit.specs.DefImports.{HasTypeIfAny}
use Rattle.fact_emit.specs.Listed.{AreImportedInTurn, ListsMentions}
use Rattle.fact_emit.specs.NamedFunctions.{all_added_once, defined_place}
use Rattle.fact_emit.specs.States.{ModuleSoFar, functions_of, module_of, next_number, nothing_so_far}
use Rattle.fact_emit.proofs.BroughtLaws.{IsEven, even_type}
use Rattle.fact_emit.proofs.DefinedKept.{extended_defined}
use Rattle.fact_emit.proofs.ImportLaws.{extended_on, grown_get, grows_on}
use Rattle.fact_emit.proofs.ImportLists.{count-of}
use Rattle.fact_emit.proofs.ListedLaws.{IsMentionStep, alike_first, alike_more, imported_step, listed_all, listed_even, listed_imported}
use Rattle.fact_emit.proofs.Mentions.{mentions-push}
use Rattle.fact_emit.proofs.TaskCallsNamed.{calls-nothing}
use Rattle.fact_compound.specs.AsyncParts.{callee_name}
use Rattle.fact_compound.specs.Helpers.{HelpersAreThere}
use Rattle.fact_compound.proofs.CompiledAdapters.{get_back, numbered_later}
use Rattle.fact_assembly.specs.Sound.{IsSoundAdapter}
use Rattle.fact_assembly.specs.Adding.{Adds, AsParts, AsSync, AsTrap, CompiledAs, Given, helper_functions, numbered_for, own_functions}
use Rattle.fact_assembly.specs.Exports.{Callee, Exported, IsExportOf, Own, callee_of, exported_functions_of, defined_type as type_defined, function_type_in}
use Rattle.fact_assembly.specs.Holding.{named_from, own_names}
use Rattle.fact_assembly.specs.InParts.{IsInParts}
use Rattle.fact_assembly.specs.Order.{AreParts, AreWritten, Definition, IsOrdered, Item, ModulePart, Other, functions_of_part, items_in, newly_asked, others_named}
use Rattle.fact_assembly.proofs.AddedFunctions.{AddsBehind, compiled-behind, helpers-behind, own_callees}
use Rattle.fact_assembly.proofs.CompiledLaws.{compiled-extended, describes-entry, helpers-extended, not-awaited-sync, not-awaited-within, own-count}
use Rattle.fact_assembly.proofs.FirstAsked.{AreFirstAsked, newly-are}
use Rattle.fact_assembly.proofs.HelperParts.{first-turns, functions-written, keeps-imported, kept_imported, listed-turns, number_of, numbers-range, written-in-turn}
use Rattle.fact_assembly.proofs.LiftNamed.{callee-at-place, imported-grown, names-lift}
use Rattle.fact_assembly.proofs.NewNamed.{AreFirstNamed, first-before, first-on, first-same, items_so_far, items_type, one_more}
use Rattle.fact_assembly.proofs.Ordered.{defs_in, flat_map-push, numbers-defs, numbers-parts, numbers_of, other_number, others_in, own-push, parts-mention, parts-push}
use Rattle.fact_assembly.proofs.WholeExports.{names-counted, zip-behind}
use Rattle.fact_assembly.proofs.OwnLaws.{IsReadyFor, asked_own, bodies_more, body_more, counts_own, first_own, known_of, listed_own, listed_same, more_functions, ranged_own, ready_later}

-- ---- core definitions

items_if_any : (old new : ModuleSoFar) (ty : Option FuncType) → HasTypeIfAny old new ty → items_so_far new ≡ items_so_far old
items_if_any old new None same = ap items_so_far same
items_if_any old new (Some ty) has = items_type has

even_if_any : (old new : ModuleSoFar) (ty : Option FuncType) → HasTypeIfAny old new ty → IsEven old → IsEven new
even_if_any old new None same e = subst IsEven (sym same) e
even_if_any old new (Some ty) has e = even_type has e

-- The core definitions that are new with these mentions are imported behind the others.
record DefinesMentions (old new : ModuleSoFar) (ms rs : List Mention) : Type 0 where
  defs : List Mention
  mentions_are : with_mentions ms rs ≡ ms ++ defs
  items_are : items_so_far new ≡ items_so_far old ++ map (λ (r : Mention). Definition r.def) defs

defines_step : (old new : ModuleSoFar) (ms : List Mention) (r : Mention) (w : WasmImport) → IsEven old → IsMentionStep old new ms r w → DefinesMentions old new ms (r ∷ [])
defines_step old new ms r w e (inl there) = record { defs = []; mentions_are = rw there.0 (sym (append-nil ms)); items_are = ap items_so_far there.1 ∙ sym (append-nil (items_so_far old)) }
defines_step old new ms r w e (inr anew) = record { defs = r ∷ []; mentions_are = rw anew.0 refl; items_are = ap items_so_far anew.1 ∙ one_more old w (known.CoreDef r.def) e }

defines_all : (rs : List Mention) (old new : ModuleSoFar) (ms : List Mention) (adapters : List LinkedAdapter) → AreImportedInTurn old new rs → AreUsedAlike (ms ++ rs) → ListsMentions old ms adapters → DefinesMentions old new ms rs
defines_all [] old new ms adapters l alike h = record { defs = []; mentions_are = sym (append-nil ms); items_are = ap items_so_far l ∙ sym (append-nil (items_so_far old)) }
defines_all (r ∷ rs) old new ms adapters l alike h =
    let first = alike_first ms r rs alike in
    let typed = l.2.typed in
    let one = defines_step typed l.0 ms r l.2.import (even_if_any old typed _ l.2.types (listed_even old ms adapters h)) (imported_step old l.0 ms adapters r l.1 h l.2 first) in
    let rest = defines_all rs l.0 new (with_mention ms r) adapters l.3 (alike_more ms r rs alike) (listed_imported old l.0 ms adapters r l.1 h l.2 first) in
    let as_items : List Mention → List Item = map (λ (q : Mention). Definition q.def) in
    record {
      defs = one.defs ++ rest.defs;
      mentions_are = rest.mentions_are ∙ ap (λ l. l ++ rest.defs) one.mentions_are ∙ append_assoc ms one.defs rest.defs;
      items_are = rest.items_are ∙ ap (λ l. l ++ as_items rest.defs) (one.items_are ∙ ap (λ l. l ++ as_items one.defs) (items_if_any old typed _ l.2.types))
          ∙ append_assoc (items_so_far old) (as_items one.defs) (as_items rest.defs) ∙ ap (λ l. items_so_far old ++ l) (sym (map-append (λ (q : Mention). Definition q.def) one.defs rest.defs));
    }

-- ---- elements

all-by-places : {X : Type 0} (P : X → Type 0) (xs : List X) → ((i : ℕ) (x : X) → slice_get xs i ≡ Some x → P x) → AllByRecursion P xs
all-by-places P [] each = tt
all-by-places P (x ∷ xs) each = (each 0 x refl, all-by-places P xs (λ i y e. each (suc i) y e))

-- ---- what is exported

type_still : (old new : ModuleSoFar) → Extended old new → Grows old.functions new.functions → (f : FuncName) (ty : FuncType) → type_defined (module_of old) f ≡ Some ty → type_defined (module_of new) f ≡ Some ty
type_still old new e g (func.Import k) ty h = cc
type_still old new e g (func.Defined k) ty h = by (slice_get old.functions k) refl h
  where
    by : (o : Option WasmFunc) → slice_get old.functions k ≡ o → function_type_in (module_of old) o ≡ Some ty → function_type_in (module_of new) (slice_get new.functions k) ≡ Some ty
    by None at h = cc
    by (Some f) at h = ap (function_type_in (module_of new)) (grown_get g k f at) ∙ grown_get e.types f.ty ty h

imported_still : (old new : ModuleSoFar) → Extended old new → (f : FuncName) (i : Import) → imported_function (module_of old) old.imports f ≡ Some i → imported_function (module_of new) new.imports f ≡ Some i
imported_still old new e (func.Import k) i h = grown_get e.functions k i h
imported_still old new e (func.Defined k) i h = cc

exported_still : (old new : ModuleSoFar) → Extended old new → Grows old.functions new.functions → (e : WasmExport) (x : Exported) → IsExportOf (module_of old) old.imports e x → IsExportOf (module_of new) new.imports e x
exported_still old new grown g e (Own name ty) h = (h.0, type_still old new grown g e.func ty h.1)
exported_still old new grown g e (Callee name d) h = (h.0, imported_still old new grown e.func (known.CoreDef d) h.1)

-- ---- the adapter

-- names exported for the functions from a number on are exported for these
named_places : (n : ℕ) (names : List (List ℕ)) → filter_map (λ (e : WasmExport). defined_place e.func) (named_from n names) ≡ range_with_len n (length names)
named_places n [] = refl
named_places n (x ∷ names) = let next : suc n ≡ n + 1 = omega arith in ap (λ ks. n ∷ ks) (named_places (suc n) names ∙ ap (λ k. range_with_len k (length names)) next)

module _ (t : Tables) (u : AdapterTunables) (given : Given) (old new : ModuleSoFar) (adapters : List LinkedAdapter) (a : LinkedAdapter) (tuple : ℕ) (lists : ListsMentions old (mentions adapters) adapters) (add : Adds t u given old new a tuple)
    (in-turn : AreImportedInTurn old add.imported (adapter_mentions a)) (alike : AreUsedAlike (mentions adapters ++ adapter_mentions a)) (sound : IsSoundAdapter a)
    (added : AddsBehind old new (own_functions add.compiled ++ helper_functions add) (own_names a) (own_callees add.compiled)) (helped : HelpersAreThere t u.debug u.concurrency given.fuel old) where
  all_mentions : List Mention
  all_mentions = with_mentions (mentions adapters) (adapter_mentions a)

  lists_imported : ListsMentions add.imported all_mentions adapters
  unfolding all_mentions
  lists_imported = listed_all (adapter_mentions a) old add.imported (mentions adapters) adapters in-turn alike lists

  to_imported : Extended old add.imported
  to_imported = imported-grown add (mentions adapters) (known_of lists)

  -- its own functions are numbered ahead
  abbrev ahead : ModuleSoFar
  ahead = numbered_for a add.imported

  lists_ahead : ListsMentions ahead all_mentions adapters
  unfolding all_mentions
  lists_ahead = listed_same {old = add.imported} refl refl refl lists_imported

  -- no number was taken ahead before
  ahead_numbers : ahead.numbered ≡ length ahead.functions + length (own_functions add.compiled)
  ahead_numbers =
      let kept = kept_imported (adapter_mentions a) old add.imported in-turn in
      let keeps = keeps-imported (adapter_mentions a) old add.imported in-turn in
      omega (arith, own-count add.compiled, helped.numbered, ap length kept.functions, keeps.numbered)

  own_count : length add.own.functions ≡ ahead.numbered
  own_count = omega (arith, ahead_numbers, ap length (compiled-behind add.name add.compiled).functions, length-append ahead.functions (own_functions add.compiled))

  abbrev order : List (ℕ × WasmFunc)
  order = add.helpers.wrote.order

  ready : IsReadyFor t add.«data» a add.imported
  ready = record {
    name = add.name;
    core_type = sound.lower_core_type;
    describes = describes-entry add sound;
    lift = names-lift add (mentions adapters) (known_of lists);
    callee = callee-at-place add (mentions adapters) (known_of lists);
  }

  ready_ahead : IsReadyFor t add.«data» a ahead
  ready_ahead = ready_later (numbered_later add.imported (length (exported_functions_of a))) ready

  -- The imports of the module are those that the adapters mention, functions of the runtime, and the calls of async adapters.
  pub listed_adapter : ListsMentions new (mentions (adapters ++ a ∷ [])) (adapters ++ a ∷ [])
  unfolding all_mentions
  listed_adapter =
      let own : ListsMentions add.own all_mentions (adapters ++ a ∷ []) = listed_own add.compiled all_mentions adapters ready_ahead lists_ahead in
      let last = listed-turns all_mentions (adapters ++ a ∷ []) add.helpers.wrote.in_turn own in
      subst (λ ms. ListsMentions new ms (adapters ++ a ∷ [])) (sym (mentions-push adapters a))
      (listed_same {old = add.helpers.last} (ap (λ (s : ModuleSoFar). s.types) add.helpers.is) (ap (λ (s : ModuleSoFar). s.section) add.helpers.is) (ap (λ (s : ModuleSoFar). s.imports) add.helpers.is) last)

  defines : DefinesMentions old add.imported (mentions adapters) (adapter_mentions a)
  defines = defines_all (adapter_mentions a) old add.imported (mentions adapters) adapters in-turn alike lists

  -- its own functions and then the helpers, as they were written
  first : AreFirstNamed add.imported new (own_functions add.compiled ++ functions-written order)
  first =
      let own : ListsMentions add.own all_mentions (adapters ++ a ∷ []) = listed_own add.compiled all_mentions adapters ready_ahead lists_ahead in
      first-before {old = ahead} refl refl
      (first-same {new = add.helpers.last} (ap (λ (s : ModuleSoFar). s.section) add.helpers.is) (ap (λ (s : ModuleSoFar). s.imports) add.helpers.is)
      (first-on {fs = own_functions add.compiled} (first_own add.compiled all_mentions adapters ready_ahead lists_ahead) (first-turns all_mentions (adapters ++ a ∷ []) add.helpers.wrote.in_turn own)))

  asked : AreFirstAsked ahead add.own (own_functions add.compiled)
  asked = asked_own add.compiled all_mentions adapters ready_ahead lists_ahead ahead_numbers

  ranged_of_own : AreBodiesRanged (length (functions_of new)) (length new.functions) (own_functions add.compiled)
  ranged_of_own =
      let imports = more_functions (helpers-extended add.helpers) in
      let later = helpers-extended add.helpers in
      let functions = (helpers-behind (compiled-behind add.name add.compiled) add.helpers).functions in
      bodies_more (length (functions_of add.own)) (length (functions_of new)) (length new.functions) (length new.functions) imports (omega arith) (own_functions add.compiled)
      (ranged_own add.compiled all_mentions adapters ready_ahead lists_ahead (length new.functions) (omega (arith, later.numbered, add.there.numbered))
      (omega (arith, ap length functions, length-append ahead.functions (own_functions add.compiled ++ helper_functions add), length-append (own_functions add.compiled) (helper_functions add), own_count, ahead_numbers))
      (compiled-behind add.name add.compiled).functions)

  -- each helper is the one of its place
  helper_ranged : (i : ℕ) (f : WasmFunc) → slice_get (helper_functions add) i ≡ Some f → AreRanged (length (functions_of new)) (length new.functions) f.body
  helper_ranged i f e =
      let start : ℕ = length add.imported.helpers in
      let last : ModuleSoFar = add.helpers.last in
      let within = slice_get_within (helper_functions add) i f e in
      let (k, at) = get-within last.helpers (start + i) (omega (arith, within, add.helpers.wrote.count)) in
      let (g, there, was) = add.helpers.wrote.all (start + i) k (omega arith) at in
      let place : start + i - start ≡ i = omega arith in
      let both : Some g ≡ Some f = sym there ∙ ap (slice_get (helper_functions add)) place ∙ e in
      let same : g ≡ f = cc in
      let later : Extended was.written new = extended_on was.later (extended_defined (ap (λ (s : ModuleSoFar). s.types) add.helpers.is) (ap (λ (s : ModuleSoFar). s.section) add.helpers.is) (ap (λ (s : ModuleSoFar). s.imports) add.helpers.is)
      (ap (λ (s : ModuleSoFar). s.helpers) add.helpers.is) (ap (λ (s : ModuleSoFar). s.numbered) add.helpers.is)) in
      let last_functions = ap (λ (s : ModuleSoFar). length s.functions) add.helpers.is in
      let below : next_number was.written ≤ length new.functions = omega (arith, later.numbered, add.there.numbered, ap length was.kept.functions, last_functions, length-append last.functions (helper_functions add)) in
      subst (λ (h : WasmFunc). AreRanged (length (functions_of new)) (length new.functions) h.body) same
      (body_more (length (functions_of was.written)) (length (functions_of new)) (next_number was.written) (length new.functions) (more_functions later) below g.body was.wrote.brought.ranged)

  ranged : AreBodiesRanged (length (functions_of new)) (length new.functions) (own_functions add.compiled ++ helper_functions add)
  ranged =
      all-append (λ (f : WasmFunc). AreRanged (length (functions_of new)) (length new.functions) f.body) (own_functions add.compiled) (helper_functions add) ranged_of_own
      (all-by-places (λ (f : WasmFunc). AreRanged (length (functions_of new)) (length new.functions) f.body) (helper_functions add) helper_ranged)

  -- ---- its part

  part_of_adapter : ModulePart
  part_of_adapter = record { defs = defines.defs; others = first.adds.others; own = own_functions add.compiled; helpers = helper_functions add }

  -- The helpers were written in turn: those that its own functions ask for wait, and their numbers follow one another.
  helpers_written : AreWritten new.functions (newly_asked (length add.own.functions) (own_functions add.compiled)) (length add.own.functions + length (newly_asked (length add.own.functions) (own_functions add.compiled))) (functions-written order)
  helpers_written =
      let own : List WasmFunc = own_functions add.compiled in
      let start : ℕ = length add.imported.helpers in
      let base : ℕ = length add.own.functions in
      let count : ℕ = length add.own.helpers - start in
      let grown = ap length (compiled-extended add.compiled).helpers.is ∙ length-append add.imported.helpers (compiled-extended add.compiled).helpers.more in
      let counts = counts_own add.compiled all_mentions adapters ready_ahead lists_ahead ahead_numbers in
      let ahead_next : next_number ahead ≡ base = omega (arith, own_count, ahead_numbers) in
      let more : next_number add.own - next_number ahead ≡ count = omega (arith, counts, grown, asked.numbers) in
      let newly : newly_asked base own ≡ range_with_len base count = ap (λ n. newly_asked n own) (sym ahead_next) ∙ newly-are asked ∙ (λ k. range_with_len (ahead_next k) (more k)) in
      let starts : base + (start - start) ≡ base = omega arith in
      let waits : map (number_of start base) (range_with_len start count) ≡ newly_asked base own = numbers-range start base start count (omega arith) ∙ ap (λ n. range_with_len n count) starts ∙ sym newly in
      let next : next_number add.own ≡ base + (length add.own.helpers - start) = omega (arith, more, ahead_next, asked.numbers) in
      let last : next_number add.own ≡ base + length (newly_asked base own) = omega (arith, next, ap length newly, length-range_with_len base count) in
      let functions = (helpers-behind (compiled-behind add.name add.compiled) add.helpers).functions ∙ sym (append_assoc ahead.functions own (helper_functions add)) in
      let behind : new.functions ≡ add.own.functions ++ helper_functions add = functions ∙ ap (λ fs. fs ++ helper_functions add) (sym (compiled-behind add.name add.compiled).functions) in
      subst (λ n. AreWritten new.functions (newly_asked base own) n (functions-written order)) last
      (subst (λ ks. AreWritten new.functions ks (next_number add.own) (functions-written order)) waits
      (written-in-turn start base new.functions add.helpers.wrote.in_turn (omega (arith, grown)) next (in_place behind order add.helpers.wrote.placed)))
    where
      in_place : new.functions ≡ add.own.functions ++ helper_functions add → (es : List (ℕ × WasmFunc)) → AllByRecursion (λ (e : ℕ × WasmFunc). slice_get (helper_functions add) (e.0 - length add.imported.helpers) ≡ Some e.1) es
          → AllByRecursion (λ (e : ℕ × WasmFunc). slice_get new.functions (length add.own.functions + (e.0 - length add.imported.helpers)) ≡ Some e.1) es
      in_place behind [] h = tt
      in_place behind (e ∷ es) h =
          (ap (λ fs. slice_get fs (length add.own.functions + (e.0 - length add.imported.helpers))) behind ∙ get_back add.own.functions (helper_functions add) (e.0 - length add.imported.helpers) e.1 h.0, in_place behind es h.1)

  -- The sections of the module stand adapter by adapter.
  pub in_parts_adapter : ((more : List Import) → IsInParts old more adapters) → (more : List Import) → IsInParts new more (adapters ++ a ∷ [])
  unfolding part_of_adapter
  in_parts_adapter in_parts more =
      let own : List WasmFunc = own_functions add.compiled in
      let helpers : List WasmFunc = helper_functions add in
      let written : List WasmFunc = functions-written order in
      let grown : Grows (functions_of old) (functions_of new) = grows_on to_imported.functions first.adds.grows in
      let imported : functions_of new ++ more ≡ functions_of old ++ (grown.more ++ more) = ap (λ l. l ++ more) grown.is ∙ append_assoc (functions_of old) grown.more more in
      let was = in_parts (grown.more ++ more) in
      let here = subst (λ fs. AreParts fs [] adapters was.parts) (sym imported) was.are_parts in
      let mentioned : mentions adapters ≡ flat_map defs_in was.parts = parts-mention (functions_of new ++ more) [] adapters was.parts here in
      let as_items : List Item = map (λ (r : Mention). Definition r.def) defines.defs in
      let before : items_so_far add.imported ≡ flat_map items_in was.parts ++ as_items = defines.items_are ∙ ap (λ l. l ++ as_items) was.imports in
      let numbers : numbers_of (items_so_far add.imported) ≡ flat_map others_in was.parts =
      ap numbers_of before ∙ filter_map-append other_number (flat_map items_in was.parts) as_items ∙ (λ k. numbers-parts was.parts k ++ numbers-defs defines.defs k) ∙ append-nil (flat_map others_in was.parts) in
      let functions : new.functions ≡ flat_map functions_of_part was.parts ++ (own ++ helpers) = added.functions ∙ ap (λ fs. fs ++ (own ++ helpers)) was.functions in
      let next : ℕ = length (flat_map functions_of_part was.parts) + length own in
      let own_last : next ≡ length add.own.functions = omega (arith, ap length was.functions, own_count, ahead_numbers, ap length (kept_imported (adapter_mentions a) old add.imported in-turn).functions) in
      let stand : length old.functions ≡ 0 + length (flat_map functions_of_part was.parts) = let same = ap length was.functions in omega (arith, same) in
      let named : length (own_names a) ≡ length own = names-counted a ∙ sym (own-count add.compiled) in
      let places : filter_map (λ (e : WasmExport). defined_place e.func) (named_from (length old.functions) (own_names a)) ≡ range_with_len (0 + length (flat_map functions_of_part was.parts)) (length own) =
      named_places (length old.functions) (own_names a) ∙ (λ k. range_with_len (stand k) (named k)) in
      record {
        parts = was.parts ++ part_of_adapter ∷ [];
        are_parts = parts-push (functions_of new ++ more) [] adapters was.parts a part_of_adapter here (record {
          defs = subst (λ ms. with_mentions ms (adapter_mentions a) ≡ ms ++ defines.defs) mentioned defines.mentions_are;
          own = own-count add.compiled;
          next = next;
          next_is = refl;
          written = written;
          are_written = subst (λ n. AreWritten (flat_map functions_of_part was.parts ++ (own ++ helpers)) (newly_asked n own) (n + length (newly_asked n own)) written) (sym own_last)
              (subst (λ fs. AreWritten fs (newly_asked (length add.own.functions) own) (length add.own.functions + length (newly_asked (length add.own.functions) own)) written) functions helpers_written);
          all_written = length-map order (λ (e : ℕ × WasmFunc). e.1) ∙ add.helpers.wrote.as_many;
          others = subst (λ ns. all_added_once ns (flat_map (others_named (functions_of new ++ more)) (own ++ written)) ≡ ns ++ first.adds.others) numbers (first.in_order more);
        });
        imports = first.adds.items_are ∙ ap (λ l. l ++ map Other first.adds.others) before ∙ append_assoc (flat_map items_in was.parts) as_items (map Other first.adds.others)
            ∙ sym (flat_map-push items_in was.parts part_of_adapter);
        functions = functions ∙ sym (flat_map-push functions_of_part was.parts part_of_adapter);
        exports = ap (filter_map (λ (e : WasmExport). defined_place e.func)) added.exports
            ∙ filter_map-append (λ (e : WasmExport). defined_place e.func) old.exports (named_from (length old.functions) (own_names a))
            ∙ (λ k. was.exports k ++ places k)
            ∙ sym (own-push 0 was.parts part_of_adapter);
      }

  -- Each body is in range.
  pub bodies_adapter : AreBodiesRanged (length (functions_of old)) (length old.functions) old.functions → AreBodiesRanged (length (functions_of new)) (length new.functions) new.functions
  bodies_adapter h =
      let imports : length (functions_of old) ≤ length (functions_of new) =
      (let grown = grows_on to_imported.functions first.adds.grows in omega (arith, ap length grown.is, length-append (functions_of old) grown.more)) in
      let functions : length old.functions ≤ length new.functions = omega (arith, ap length added.functions, length-append old.functions (own_functions add.compiled ++ helper_functions add)) in
      subst (AreBodiesRanged (length (functions_of new)) (length new.functions)) (sym added.functions)
      (all-append (λ (f : WasmFunc). AreRanged (length (functions_of new)) (length new.functions) f.body) old.functions (own_functions add.compiled ++ helper_functions add)
      (bodies_more (length (functions_of old)) (length (functions_of new)) (length old.functions) (length new.functions) imports functions old.functions h) ranged)

  -- ---- its callee

  callee_there : slice_get (functions_of new) add.«data».callee.number ≡ Some (known.CoreDef a.callee)
  callee_there = grown_get first.adds.grows add.«data».callee.number (known.CoreDef a.callee) ready.callee

  own_callee_exported : (c : CompiledAs new t add.«data» u a ahead add.own) → AllZip (IsExportOf (module_of new) new.imports) (own_callees c) (callee_of a)
  own_callee_exported (AsTrap within c) = let none = not-awaited-within a within in rw none tt
  own_callee_exported (AsSync crosses sync c) = let none = not-awaited-sync a sync in rw none tt
  own_callee_exported (AsParts awaited c) = rw awaited ((refl, callee_there), tt)

  -- What was exported is exported still, and so is its callee.
  pub callees_adapter : Extended old new → AllZip (IsExportOf (module_of old) old.imports) old.callees (flat_map callee_of adapters) → AllZip (IsExportOf (module_of new) new.imports) new.callees (flat_map callee_of (adapters ++ a ∷ []))
  callees_adapter grown h =
      let still = zip_map (IsExportOf (module_of old) old.imports) (IsExportOf (module_of new) new.imports) (exported_still old new grown (record { more = own_functions add.compiled ++ helper_functions add; is = added.functions })) old.callees
      (flat_map callee_of adapters) h in
      subst (λ es. AllZip (IsExportOf (module_of new) new.imports) es (flat_map callee_of (adapters ++ a ∷ []))) (sym added.callees_are)
      (subst (AllZip (IsExportOf (module_of new) new.imports) (old.callees ++ own_callees add.compiled)) (sym (flat_map-push callee_of adapters a))
      (zip-behind (IsExportOf (module_of new) new.imports) old.callees (flat_map callee_of adapters) (own_callees add.compiled) (callee_of a) still (own_callee_exported add.compiled)))

-- ---- from nothing to the whole module

pub in_parts_nothing : (more : List Import) → IsInParts nothing_so_far more []
in_parts_nothing more = record { parts = []; are_parts = tt; imports = refl; functions = refl; exports = refl }

pub names_imports : (s : ModuleSoFar) (adapters : List LinkedAdapter) → ListsMentions s (mentions adapters) adapters → NamesImports (module_of s) s.imports adapters
names_imports s adapters h = record { defs = h.defs; named = h.named; once = h.once; signatures = h.signatures; transcoders = h.transcoders; task_calls = h.task_calls }

-- callees are imported
import_behind : (m : WasmModule) (is : List Import) (f : FuncName) (i : Import) (ks : List ℕ) → imported_function m is f ≡ Some i → cons_option (defined_place f) ks ≡ ks
import_behind m is (func.Import k) i ks h = refl
import_behind m is (func.Defined k) i ks h = cc

callee_places : (m : WasmModule) (is : List Import) (adapters : List LinkedAdapter) (es : List WasmExport) → AllZip (IsExportOf m is) es (flat_map callee_of adapters) → filter_map (λ (e : WasmExport). defined_place e.func) es ≡ []
callee_places m is [] [] h = refl
callee_places m is [] (e ∷ es) h = absurd h
callee_places m is (a ∷ adapters) es h = by (is_awaited a) es h (λ fs g. callee_places m is adapters fs g)
  where
    by : (b : Bool) (es : List WasmExport) → AllZip (IsExportOf m is) es (cond b (Callee (callee_name a.name) a.callee ∷ []) [] ++ flat_map callee_of adapters)
        → ((fs : List WasmExport) → AllZip (IsExportOf m is) fs (flat_map callee_of adapters) → filter_map (λ (e : WasmExport). defined_place e.func) fs ≡ []) → filter_map (λ (e : WasmExport). defined_place e.func) es ≡ []
    by false es h rest = rest es h
    by true [] h rest = absurd h
    by true (e ∷ es) h rest = import_behind m is e.func (known.CoreDef a.callee) (filter_map (λ (e : WasmExport). defined_place e.func) es) h.0.1 ∙ rest es h.1

pub is_ordered : (s : ModuleSoFar) (adapters : List LinkedAdapter) → ((more : List Import) → IsInParts s more adapters) → AllZip (IsExportOf (module_of s) s.imports) s.callees (flat_map callee_of adapters) → IsOrdered (module_of s) s.imports adapters
is_ordered s adapters in_parts callees =
    let h = in_parts [] in
    record {
      parts = h.parts;
      are_parts = subst (λ fs. AreParts fs [] adapters h.parts) (append-nil (functions_of s)) h.are_parts;
      imports = h.imports;
      functions = h.functions;
      exports = filter_map-append (λ (e : WasmExport). defined_place e.func) s.exports s.callees
          ∙ ap (λ ks. filter_map (λ (e : WasmExport). defined_place e.func) s.exports ++ ks) (callee_places (module_of s) s.imports adapters s.callees callees) ∙ append-nil (filter_map (λ (e : WasmExport). defined_place e.func) s.exports) ∙ h.exports;
    }

pub listed_nothing : ListsMentions nothing_so_far [] []
listed_nothing = record {
  defs = refl;
  named = tt;
  once = λ i j d below within. absurd (omega arith);
  signatures = λ i j d below within. absurd (omega arith);
  transcoders = record { each = λ k w i at there. absurd cc };
  task_calls = calls-nothing [];
}

-- ---- the bodies of the whole module

function_test : (w : WasmImport) → is_of a_function w ≡ is_function w
function_test w = by_type w.ty
  where
    by_type : (ty : ImportType) → same_sort a_function (sort_of ty) ≡ is_function (record { «module» = w.module; name = w.name; ty = ty })
    by_type (import.Func t) = refl
    by_type (import.Memory least wide page) = refl
    by_type (import.Global t mutable) = refl

pub count_is : (s : ModuleSoFar) → IsEven s → imported_functions (module_of s) ≡ length (functions_of s)
count_is s e = sym (λ i. count_by (λ w. function_test w i) s.section) ∙ count-of a_function s.section s.imports e

pub bodies_in_range : (s : ModuleSoFar) (adapters : List LinkedAdapter) → ListsMentions s (mentions adapters) adapters → AreBodiesRanged (length (functions_of s)) (length s.functions) s.functions
    → AreBodiesRanged (imported_functions (module_of s)) (length s.functions) s.functions
bodies_in_range s adapters lists h = subst (λ n. AreBodiesRanged n (length s.functions) s.functions) (sym (count_is s (listed_even s (mentions adapters) adapters lists))) h
