-- The functions of async adapters that have the adapters' names: what they hand on is there and exported, so that they hand each call over. And each
-- function of a whole module is typed.
use Rattle.std.proofs.Common.{◌≡◌, ◌≢◌, ℕ, zero, suc, ◌+◌, ◌-◌, ◌<◌, Bool, true, false, ◌||◌, List, [], ◌∷◌, ◌++◌, Some, All, AllPairs, codes, refl, sym, ap, ◌∙◌, subst, arith, length, slice_get, inl, inr}
use Rattle.std.specs.Prelude.{cond, option_and_then}
use Rattle.std.specs.List.{AllByRecursion, AllZip, flat_map}
use Rattle.std.proofs.lemmas.Bool.{cases_lt, true≢false}
use Rattle.std.proofs.lemmas.Bool.Decides.{eqb_tells}
use Rattle.std.proofs.lemmas.List.Elements.{All-from_recursion}
use Rattle.std.proofs.lemmas.Option.{slice_get_within}
use Rattle.fact_wasm.specs.declared.instr.FuncName.{FuncName}
use Rattle.fact_wasm.specs.declared.instr.FuncName.TheVariants as func
use Rattle.fact_wasm.specs.declared.module.WasmExport.{WasmExport}
use Rattle.fact_wasm.specs.declared.module.WasmFunc.{WasmFunc}
use Rattle.fact_wasm.specs.declared.module.WasmModule.{WasmModule}
use Rattle.fact_wasm.specs.declared.types.FuncType.{FuncType}
use Rattle.fact_machine.specs.Typing.{is_exported, same_function}
use Rattle.fact_machine.proofs.Tests.{get_append}
use Rattle.fact_adapter_rules.specs.Bindings.{AreConsistent}
use Rattle.fact_adapter_rules.specs.AdapterRules.{export_names, uses_of}
use Rattle.fact_types.specs.declared.import.Import.{Import}
use Rattle.fact_types.specs.declared.import.Import.TheVariants as known
use Rattle.fact_types.specs.Adapters.{LinkedAdapter}
use Rattle.fact_types.specs.Tables.{Tables}
use Rattle.fact_actions.specs.Adapters.{AdapterTunables, References, def_of_memory}
use Rattle.fact_actions.specs.Sides.{options_of}
use Rattle.fact_plan_types.proofs.HandleLaws.{there as get-within}
use Rattle.fact_emit.specs.ImportSection.{adapter_mentions, imported_function, is_awaited, mentions}
use Rattle.fact_emit.specs.Imports.{Extended}
use Rattle.fact_emit.specs.Known.{AreKnown}
use Rattle.fact_emit.specs.PlacesOf.{import_places}
use Rattle.fact_emit.specs.States.{ModuleSoFar, functions_of, module_of}
use Rattle.fact_emit.specs.TaskTypes.{prepare_call_name, prepare_call_type, start_call_type}
use Rattle.fact_emit.proofs.BroughtLaws.{IsEven}
use Rattle.fact_emit.proofs.DefinedKept.{extended_defined}
use Rattle.fact_emit.proofs.ImportLaws.{extended_on, grown_get}
use Rattle.fact_emit.proofs.KnownLaws.{extended_type}
use Rattle.fact_emit.proofs.ImportedInTurn.{imported_adapter}
use Rattle.fact_emit.proofs.Named.{named-lengths}
use Rattle.fact_emit.proofs.ServingLaws.{serves_sooner}
use Rattle.fact_compound.specs.Asks.{IsLaterModule}
use Rattle.fact_compound.specs.AsyncParts.{callee_name, part_name, part_type}
use Rattle.fact_compound.specs.Asyncs.{CompiledAsync}
use Rattle.fact_compound.specs.Described.{DescribesEntry}
use Rattle.fact_compound.specs.Entries.{HasReferences, IsEntryFunction, IsHandedOn, NamesLift, handed_on, tuple_of_results, with_task_calls}
use Rattle.fact_compound.specs.Syncs.{lower_type_of}
use Rattle.fact_compound.specs.declared.adapters.AdapterData.{AdapterData}
use Rattle.fact_compound.specs.declared.asyncs.AsyncPart.TheVariants as part
use Rattle.fact_compound.proofs.CompiledAdapters.{numbered_later}
use Rattle.fact_assembly.specs.Sound.{IsSoundAdapter}
use Rattle.fact_function_laws.specs.AsyncRuns.{HandsOver, IsCallNamed, IsCallTyped}
use Rattle.fact_function_laws.proofs.EntryFunctions.{entry_functions_hand_over}
use Rattle.fact_assembly.specs.Adding.{AsParts, AsSync, AsTrap, CompiledAs, Given, numbered_for, own_functions}
use Rattle.fact_assembly.specs.Exports.{Callee, IsExportOf, callee_of, exported_as, exported_functions_of}
use Rattle.fact_assembly.specs.Holding.{HasAdded, Holds, count_at, counts_behind, first_count, first_function, function_count, own_names}
use Rattle.fact_assembly.specs.ImportedData.{imports_of_data}
use Rattle.fact_assembly.proofs.CompiledLaws.{added-extended, callee-extended, describes-entry, entry-extended, helpers-extended, not-awaited-sync, not-awaited-within, own-count, own_types}
use Rattle.fact_assembly.proofs.EntryCalls.{even-returned, prepare-is, start-is}
use Rattle.fact_assembly.proofs.HelperHistory.{helper-typed}
use Rattle.fact_assembly.proofs.HelperParts.{kept_imported}
use Rattle.fact_assembly.proofs.LiftNamed.{callee-at-place, known-imported, lift-later, names-lift}
use Rattle.fact_assembly.proofs.NameLaws.{exported-at, exported-own, get-behind, numbered-at}
use Rattle.fact_assembly.proofs.OwnLaws.{known_of}
use Rattle.fact_assembly.proofs.PartLaws.{names_imports}
use Rattle.fact_assembly.proofs.WholeExports.{all-at}
use Rattle.fact_assembly.proofs.WholeFunctions.{is_sound, knows, once, part_does, serves, sync_does, trap_does, types}
use Rattle.fact_assembly.proofs.WholeTyped.{HasTypedFunction}

-- ---- exports

same-self : (f : FuncName) → same_function f f ≡ true
same-self (func.Import n) = elim (eqb_tells n n) [ inl e ↦ e.0 | inr e ↦ absurd (e.1 refl) ]
same-self (func.Defined n) = elim (eqb_tells n n) [ inl e ↦ e.0 | inr e ↦ absurd (e.1 refl) ]

or-true : (b : Bool) → (b || true) ≡ true
or-true true = refl
or-true false = refl

exported-there : (f : FuncName) (es : List WasmExport) (k : ℕ) (e : WasmExport) → slice_get es k ≡ Some e → e.func ≡ f → is_exported f es ≡ true
exported-there f [] k e at is = cc
exported-there f (x ∷ es) zero e at is =
    let same : x ≡ e = cc in
    let here : same_function f x.func ≡ true = ap (λ (y : WasmExport). same_function f y.func) same ∙ ap (same_function f) is ∙ same-self f in
    ap (λ b. b || is_exported f es) here
exported-there f (x ∷ es) (suc k) e at is = ap (λ b. same_function f x.func || b) (exported-there f es k e at is) ∙ or-true (same_function f x.func)

-- the export of an adapter's callee
record FoundCallee (m : WasmModule) (is : List Import) (es : List WasmExport) (a : LinkedAdapter) : Type 0 where
  place : ℕ
  export : WasmExport
  there : slice_get es place ≡ Some export
  named : export.name ≡ callee_name a.name
  is_callee : imported_function m is export.func ≡ Some (known.CoreDef a.callee)

-- the callee of an async adapter between two instances is among the exported callees, under its name
callee-found : (m : WasmModule) (is : List Import) (es : List WasmExport) (adapters : List LinkedAdapter) (j : ℕ) (a : LinkedAdapter) → AllZip (IsExportOf m is) es (flat_map callee_of adapters) → slice_get adapters j ≡ Some a → is_awaited a ≡ true
    → FoundCallee m is es a
callee-found m is es [] j a h at awaited = cc
callee-found m is es (b ∷ adapters) j a h at awaited = by (is_awaited b) refl j es h at (λ fs i g here. callee-found m is fs adapters i a g here awaited)
  where
    by : (c : Bool) → is_awaited b ≡ c → (j : ℕ) (es : List WasmExport) → AllZip (IsExportOf m is) es (cond c (Callee (callee_name b.name) b.callee ∷ []) [] ++ flat_map callee_of adapters) → slice_get (b ∷ adapters) j ≡ Some a
        → ((fs : List WasmExport) (i : ℕ) → AllZip (IsExportOf m is) fs (flat_map callee_of adapters) → slice_get adapters i ≡ Some a → FoundCallee m is fs a)
        → FoundCallee m is es a
    by false marked zero es h at rest = let same : b ≡ a = cc in absurd (true≢false (sym awaited ∙ ap is_awaited (sym same) ∙ marked))
    by false marked (suc j) es h at rest = rest es j h at
    by true marked j [] h at rest = absurd h
    by true marked zero (e ∷ es) h at rest =
        let same : b ≡ a = cc in
        record { place = 0; export = e; there = refl; named = h.0.0 ∙ ap (λ (x : LinkedAdapter). callee_name x.name) same; is_callee = h.0.1 ∙ ap (λ (x : LinkedAdapter). Some (known.CoreDef x.callee)) same }
    by true marked (suc j) (e ∷ es) h at rest = let found = rest es j h.1 at in record { place = suc found.place; export = found.export; there = found.there; named = found.named; is_callee = found.is_callee }

-- ---- what is handed on

module _ (t : Tables) (u : AdapterTunables) (given : Given) (s : ModuleSoFar) (adapters : List LinkedAdapter) (tuples : ℕ → ℕ) (h : Holds t u given s adapters tuples) (sound : All IsSoundAdapter adapters)
    (consistent : AreConsistent (flat_map uses_of adapters)) (j : ℕ) (a : LinkedAdapter) (at : slice_get adapters j ≡ Some a) where
  abbrev first : ℕ
  first = first_function h.counts adapters j

  abbrev placed : HasAdded t u given s a (first_function h.counts adapters j) (count_at h.counts j) (tuples j)
  placed = h.placed j a at

  own-later : Extended placed.adds.own s
  own-later = extended_on (helpers-extended placed.adds.helpers) placed.later

  abbrev number : ℕ
  number = (h.placed j a at).adds.«data».callee.number

  -- each of its own functions is exported
  own-exported : (i : ℕ) (x : List ℕ) → slice_get (own_names a) i ≡ Some x → is_exported (func.Defined (first_function h.counts adapters j + i)) (s.exports ++ s.callees) ≡ true
  own-exported i x named =
      let place = first_function [] adapters j + i in
      let there = get_append s.exports s.callees place _ (ap (λ es. slice_get es place) h.exports ∙ numbered-at 0 h.counts adapters j i a x at named) in
      let number : 0 + first_function h.counts adapters j + i ≡ first_function h.counts adapters j + i = omega arith in
      exported-there (func.Defined (first_function h.counts adapters j + i)) (s.exports ++ s.callees) place _ there (ap func.Defined number)

  -- and so is handed on
  own-handed-on : (i n : ℕ) (x : List ℕ) (f : WasmFunc) (ty : FuncType) → slice_get (own_names a) i ≡ Some x → slice_get s.functions (first_function h.counts adapters j + i) ≡ Some f → slice_get s.types f.ty ≡ Some ty
      → first_function h.counts adapters j + i ≡ n → IsHandedOn (module_of s) (func.Defined n)
  own-handed-on i n x f ty named there typed is = subst (λ k. IsHandedOn (module_of s) (func.Defined k)) is (record {
    ty = ty;
    there = ap (option_and_then (λ (g : WasmFunc). slice_get s.types g.ty)) there ∙ typed;
    exported = own-exported i x named;
  })

  known-before : AreKnown placed.old (mentions placed.before)
  known-before = known_of placed.lists

  -- the callee is imported at the number that the code names
  callee-imported : slice_get (functions_of s) number ≡ Some (known.CoreDef a.callee)
  callee-imported = grown_get (extended_on (added-extended placed.adds) placed.later).functions number (known.CoreDef a.callee) (callee-at-place placed.adds (mentions placed.before) known-before)

  -- an imported function that is the callee is the one of that number
  callee-number : (f : FuncName) → imported_function (module_of s) s.imports f ≡ Some (known.CoreDef a.callee) → f ≡ func.Import number
  callee-number (func.Import k) e = ap func.Import ((once t u given s adapters tuples h sound consistent).functions.one k number (known.CoreDef a.callee) refl e callee-imported)
  callee-number (func.Defined k) e = cc

  callee-export : is_awaited a ≡ true → FoundCallee (module_of s) s.imports s.callees a
  callee-export awaited = callee-found (module_of s) s.imports s.callees adapters j a h.callees at awaited

  -- and is handed on where the call is
  callee-handed-on : is_awaited a ≡ true → IsHandedOn (module_of s) (func.Import number)
  callee-handed-on awaited =
      let callee = (knows t u given s adapters tuples h sound consistent j a at).callee in
      let found = callee-export awaited in
      record {
        ty = record { params = a.lift.core_type.params; results = a.lift.core_type.results };
        there = rw callee.imported callee.type_is;
        exported = behind s.exports s.callees (exported-there (func.Import number) s.callees found.place found.export found.there (callee-number found.export.func found.is_callee));
      }
    where
      behind : (es fs : List WasmExport) → is_exported (func.Import number) fs ≡ true → is_exported (func.Import number) (es ++ fs) ≡ true
      behind [] fs e = e
      behind (x ∷ es) fs e = ap (λ b. same_function (func.Import number) x.func || b) (behind es fs e) ∙ or-true (same_function (func.Import number) x.func)

  -- under the callee's name it is exported
  callee-as : AllPairs (λ x y. x ≢ y) (flat_map export_names adapters) → is_awaited a ≡ true → (f : FuncName) → exported_as (callee_name a.name) (s.exports ++ s.callees) ≡ Some f → f ≡ func.Import number
  callee-as distinct awaited f found =
      let export = callee-export awaited in
      let there = get-behind s.exports s.callees export.place ∙ export.there in
      exported-at (module_of s) s.imports s.exports s.callees h.counts adapters distinct h.exports h.callees (length s.exports + export.place) export.export f there (ap (λ n. exported_as n (s.exports ++ s.callees)) export.named ∙ found)
      ∙ callee-number export.export.func export.is_callee

  -- ---- the function that hands the call over

  module _ (awaited : is_awaited a ≡ true) (c : CompiledAsync (λ M p. IsLaterModule M p placed.new) t placed.adds.«data» u.debug u.concurrency (numbered_for a placed.adds.imported) placed.adds.own)
      (there : (i : ℕ) (f : WasmFunc) → slice_get (c.start.function ∷ c.return.function ∷ c.entry.function ∷ []) i ≡ Some f → slice_get s.functions (first + i) ≡ Some f)
      (typed : AllZip (λ (f : WasmFunc) ty. slice_get s.types f.ty ≡ Some ty) (c.start.function ∷ c.return.function ∷ c.entry.function ∷ []) (part_type part.Start a ∷ part_type part.Return a ∷ lower_type_of a ∷ [])) where
    abbrev told : AdapterData
    told = placed.adds.«data»

    abbrev functions_imported : ℕ
    functions_imported = length placed.adds.imported.functions

    abbrev references : References
    references = handed_on told functions_imported (suc functions_imported) (tuple_of_results t told.lift.ty)

    -- importing adds no function
    imported-count : first ≡ functions_imported
    imported-count = placed.first_is ∙ sym (ap length (kept_imported (adapter_mentions a) placed.old placed.adds.imported (imported_adapter placed.old placed.adds.imported a (imports_of_data told) placed.adds.is_imported)).functions)

    references-there : HasReferences (module_of s) references
    references-there = record {
      start = own-handed-on 0 functions_imported (part_name part.Start a.name) c.start.function _ (rw awaited refl) (there 0 c.start.function refl) typed.0 (omega (arith, imported-count));
      return = own-handed-on 1 (suc functions_imported) (part_name part.Return a.name) c.return.function _ (rw awaited refl) (there 1 c.return.function refl) typed.1.0 (omega (arith, imported-count));
      callee = callee-handed-on awaited;
    }

    described : DescribesEntry t told a
    described = describes-entry placed.adds (is_sound t u given s adapters tuples h sound consistent j a at)

    -- what it names on the lift side stands there when it is declared
    lift-returned : NamesLift c.returned told a
    lift-returned = lift-later (extended_on (numbered_later placed.adds.imported (length (exported_functions_of a))) (extended_on c.start.puts.imports c.return.puts.imports)) told a (names-lift placed.adds (mentions placed.before) known-before)

    lift-declared : NamesLift c.entry.declared told a
    lift-declared = lift-later (extended_type c.entry.ty c.entry.declares) told a lift-returned

    even-declared : IsEven c.entry.declared
    even-declared =
        let known = known-imported placed.adds (mentions placed.before) known-before in
        even-returned c (named-lengths placed.adds.imported.types _ [] placed.adds.imported.section placed.adds.imported.imports known.named)

    entered-later : Extended c.entered s
    entered-later = extended_on (callee-extended c) own-later

    written-later : Extended c.entry.written s
    written-later = extended_on (extended_defined (ap (λ (v : ModuleSoFar). v.types) c.entry.is_last) (ap (λ (v : ModuleSoFar). v.section) c.entry.is_last) (ap (λ (v : ModuleSoFar). v.imports) c.entry.is_last) (ap (λ (v : ModuleSoFar). v.helpers) c.entry.is_last) (ap (λ (v : ModuleSoFar). v.numbered) c.entry.is_last)) entered-later

    entry-is : IsEntryFunction a references (module_of s) (with_task_calls a c.entry.places.prepare_call c.entry.places.start_call (import_places s)) c.entry.function
    entry-is = c.entry.is a described lift-returned (module_of s) (import_places s) (serves_sooner entered-later (serves t u given s adapters tuples h sound consistent))

    entry-typed : HasTypedFunction (module_of s) c.entry.function
    entry-typed = record { ty = lower_type_of a; type_is = typed.1.1.0; typed = entry-is.typed references-there typed.1.1.0 }

    -- its signature is the core type of the lower side
    signature-is : record { params = c.entry.lower.params; results = c.entry.lower.results } ≡ a.lower.core_type
    signature-is =
        let is = c.entry.lower_is a described in
        (λ k. record { params = (is k).params; results = (is k).results }) ∙ sym (is_sound t u given s adapters tuples h sound consistent j a at).lower_core_type

    prepare-there : IsCallNamed (module_of s) s.imports c.entry.places.prepare_call (known.PrepareCall (def_of_memory (options_of a.lift))) (codes "sync") (prepare_call_name a.name) (prepare_call_type a.lower.core_type.params)
    prepare-there =
        subst (λ (ty : FuncType). IsCallNamed (module_of s) s.imports c.entry.places.prepare_call (known.PrepareCall (def_of_memory (options_of a.lift))) (codes "sync") (prepare_call_name a.name) (prepare_call_type ty.params)) signature-is
        (subst (λ n. IsCallNamed (module_of s) s.imports c.entry.places.prepare_call (known.PrepareCall (def_of_memory (options_of a.lift))) (codes "sync") (prepare_call_name n) (prepare_call_type c.entry.lower.params)) placed.adds.name
        (prepare-is c.entry.calls a lift-declared s written-later even-declared))

    start-there : IsCallTyped (module_of s) s.imports c.entry.places.start_call (known.StartCall a.lift.callback a.lift.post_return) (start_call_type a.lower.core_type.results)
    start-there =
        subst (λ (ty : FuncType). IsCallTyped (module_of s) s.imports c.entry.places.start_call (known.StartCall a.lift.callback a.lift.post_return) (start_call_type ty.results)) signature-is
        (start-is c.entry.calls a lift-declared s written-later)

    entry-hands-over : HandsOver (module_of s) s.imports a references (first + 2)
    entry-hands-over = entry_functions_hand_over (module_of s) s.imports a references adapters (first + 2) (record {
      prepare_call = c.entry.places.prepare_call;
      start_call = c.entry.places.start_call;
      prepare_is = prepare-there;
      start_is = start-there;
      function = c.entry.function;
      function_is = there 2 c.entry.function refl;
      type_is = typed.1.1.0;
      does = entry-is;
      core_type = (is_sound t u given s adapters tuples h sound consistent j a at).lower_core_type;
      references = references-there;
      names = names_imports s adapters h.lists;
    })

  -- ---- each of its functions is typed

  own-typed : AllByRecursion (HasTypedFunction (module_of s)) (own_functions placed.adds.compiled)
  own-typed = by placed.adds.compiled placed.functions_there (types t u given s adapters tuples h sound consistent j a at)
    where
      by : (c : CompiledAs placed.new t placed.adds.«data» u a (numbered_for a placed.adds.imported) placed.adds.own) → ((i : ℕ) (f : WasmFunc) → slice_get (own_functions c) i ≡ Some f → slice_get s.functions (first + i) ≡ Some f)
          → AllZip (λ (f : WasmFunc) ty. slice_get s.types f.ty ≡ Some ty) (own_functions c) (own_types c) → AllByRecursion (HasTypedFunction (module_of s)) (own_functions c)
      by (AsTrap within c) there typed = (record { ty = lower_type_of a; type_is = typed.0; typed = (trap_does t u given s adapters tuples h sound consistent j a at c).typed typed.0 }, tt)
      by (AsSync crosses sync c) there typed = (record { ty = lower_type_of a; type_is = typed.0; typed = (sync_does t u given s adapters tuples h sound consistent j a at sync c own-later).typed typed.0 }, tt)
      by (AsParts awaited c) there typed =
          let returned = extended_on (entry-extended c.entry) (extended_on (callee-extended c) own-later) in
          let started = extended_on c.return.puts.imports returned in
          let start : HasTypedFunction (module_of s) c.start.function = record { ty = part_type part.Start a; type_is = typed.0; typed = (part_does t u given s adapters tuples h sound consistent j a at part.Start c.start started).typed typed.0 } in
          let return : HasTypedFunction (module_of s) c.return.function = record { ty = part_type part.Return a; type_is = typed.1.0; typed = (part_does t u given s adapters tuples h sound consistent j a at part.Return c.return returned).typed typed.1.0 } in
          (start, (return, (entry-typed awaited c there typed, tt)))

  -- so is each that has a number of one of them
  function-typed : (i : ℕ) (f : WasmFunc) → i < length (exported_functions_of a) → slice_get s.functions (first + i) ≡ Some f → HasTypedFunction (module_of s) f
  function-typed i f within e =
      let own : List WasmFunc = own_functions placed.adds.compiled in
      let count = own-count placed.adds.compiled in
      let found = get-within own i (omega (arith, within, count)) in
      let both : Some found.0 ≡ Some f = sym (placed.functions_there i found.0 found.1) ∙ e in
      let same : found.0 ≡ f = cc in
      subst (HasTypedFunction (module_of s)) same (all-at (HasTypedFunction (module_of s)) own (All-from_recursion (HasTypedFunction (module_of s)) own own-typed) i found.0 found.1)

-- ---- each function is one of an adapter

-- which function of which adapter has a number: its own, or a helper behind its own
record FunctionAt (counts : List ℕ) (adapters : List LinkedAdapter) (k : ℕ) : Type 0 where
  place : ℕ
  adapter : LinkedAdapter
  number : ℕ
  there : slice_get adapters place ≡ Some adapter
  within : number < length (exported_functions_of adapter) + count_at counts place
  is : k ≡ first_function counts adapters place + number

function-at : (counts : List ℕ) (adapters : List LinkedAdapter) (k : ℕ) → k < function_count counts adapters → FunctionAt counts adapters k
function-at counts [] k below = absurd (omega (arith, below))
function-at counts (a ∷ adapters) k below = elim (cases_lt k (length (exported_functions_of a) + first_count counts)) [
  | inl here ↦ record { place = 0; adapter = a; number = k; there = refl; within = here; is = omega arith }
  | inr behind ↦
      let rest = function-at (counts_behind counts) adapters (k - (length (exported_functions_of a) + first_count counts)) (omega (arith, below, behind)) in
      record { place = suc rest.place; adapter = rest.adapter; number = rest.number; there = rest.there; within = rest.within; is = omega (arith, rest.is, behind) }
]

-- ---- the module

module _ (t : Tables) (u : AdapterTunables) (given : Given) (s : ModuleSoFar) (adapters : List LinkedAdapter) (tuples : ℕ → ℕ) (h : Holds t u given s adapters tuples) (sound : All IsSoundAdapter adapters)
    (consistent : AreConsistent (flat_map uses_of adapters)) where
  -- Each function has a type, and is typed.
  pub each_typed : (k : ℕ) (f : WasmFunc) → slice_get s.functions k ≡ Some f → HasTypedFunction (module_of s) f
  each_typed k f e =
      let within = slice_get_within s.functions k f e in
      let x = function-at h.counts adapters k (omega (arith, within, h.count)) in
      let there = ap (slice_get s.functions) (sym x.is) ∙ e in
      elim (cases_lt x.number (length (exported_functions_of x.adapter))) [
        | inl own ↦ function-typed t u given s adapters tuples h sound consistent x.place x.adapter x.there x.number f own there
        | inr helper ↦ helper-typed t u given s adapters tuples h sound consistent x.place x.adapter x.there (x.number - length (exported_functions_of x.adapter)) f (omega (arith, x.within, helper)) (ap (slice_get s.functions) (omega (arith, helper)) ∙ there)
      ]

  module _ (distinct : AllPairs (λ x y. x ≢ y) (flat_map export_names adapters)) where
    -- What is exported under the name of an async adapter between two instances hands its call over, with what is exported under the names of its two
    -- parts and of its callee.
    pub hands-over : (j : ℕ) (a : LinkedAdapter) (start return callee : FuncName) (k : ℕ) → slice_get adapters j ≡ Some a → is_awaited a ≡ true
        → exported_as (part_name part.Start a.name) (s.exports ++ s.callees) ≡ Some start → exported_as (part_name part.Return a.name) (s.exports ++ s.callees) ≡ Some return
        → exported_as (callee_name a.name) (s.exports ++ s.callees) ≡ Some callee → exported_as a.name (s.exports ++ s.callees) ≡ Some (func.Defined k)
        → HandsOver (module_of s) s.imports a (record { start = start; return = return; callee = callee; results = tuples j }) k
    hands-over j a start return callee k at awaited start_as return_as callee_as own_as = by (h.placed j a at).adds.compiled (h.placed j a at).functions_there (types t u given s adapters tuples h sound consistent j a at)
      where
        own-is : (i : ℕ) (x : List ℕ) (f : FuncName) → slice_get (own_names a) i ≡ Some x → exported_as x (s.exports ++ s.callees) ≡ Some f → f ≡ func.Defined (first_function h.counts adapters j + i)
        own-is i x f named found = exported-own (module_of s) s.imports s.exports s.callees h.counts adapters distinct h.exports h.callees j i a x at named f found

        by : (c : CompiledAs (h.placed j a at).new t (h.placed j a at).adds.«data» u a (numbered_for a (h.placed j a at).adds.imported) (h.placed j a at).adds.own) → ((i : ℕ) (f : WasmFunc) → slice_get (own_functions c) i ≡ Some f → slice_get s.functions (first_function h.counts adapters j + i) ≡ Some f)
            → AllZip (λ (f : WasmFunc) ty. slice_get s.types f.ty ≡ Some ty) (own_functions c) (own_types c) → HandsOver (module_of s) s.imports a (record { start = start; return = return; callee = callee; results = tuples j }) k
        by (AsTrap within c) there typed = absurd (true≢false (sym awaited ∙ not-awaited-within a within))
        by (AsSync crosses sync c) there typed = absurd (true≢false (sym awaited ∙ not-awaited-sync a sync))
        by (AsParts awaited_too c) there typed =
            let imported = imported-count t u given s adapters tuples h sound consistent j a at awaited c there typed in
            let start_is = own-is 0 (part_name part.Start a.name) start (rw awaited refl) start_as in
            let return_is = own-is 1 (part_name part.Return a.name) return (rw awaited refl) return_as in
            let own : func.Defined k ≡ func.Defined (first_function h.counts adapters j + 2) = own-is 2 a.name (func.Defined k) (rw awaited refl) own_as in
            let number : first_function h.counts adapters j + 2 ≡ k = cc in
            let first : first_function h.counts adapters j + 0 ≡ length (h.placed j a at).adds.imported.functions = omega (arith, imported) in
            let second : first_function h.counts adapters j + 1 ≡ suc (length (h.placed j a at).adds.imported.functions) = omega (arith, imported) in
            let starts = sym (start_is ∙ ap func.Defined first) in
            let returns = sym (return_is ∙ ap func.Defined second) in
            let calls = sym (callee-as t u given s adapters tuples h sound consistent j a at distinct awaited callee callee_as) in
            let tuple = (h.placed j a at).adds.tuple_is in
            subst (λ (r : References). HandsOver (module_of s) s.imports a r k) (λ i. record { start = starts i; return = returns i; callee = calls i; results = tuple i })
            (subst (HandsOver (module_of s) s.imports a (references t u given s adapters tuples h sound consistent j a at awaited c there typed)) number (entry-hands-over t u given s adapters tuples h sound consistent j a at awaited c there typed))
