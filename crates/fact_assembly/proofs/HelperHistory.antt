-- The helpers of a whole module can be used, and so their functions are typed.
use Rattle.std.proofs.Common.{◌≡◌, ℕ, ◌+◌, ◌-◌, ◌<◌, Bool, true, false, List, [], ◌∷◌, ◌++◌, Option, Some, None, All, refl, sym, ap, ◌∙◌, subst, arith, length, slice_get, Contains}
use Rattle.std.specs.List.{flat_map, list_all}
use Rattle.std.proofs.lemmas.List.Elements.{Contains-append_left, Contains-push}
use Rattle.fact_wasm.proofs.Ranged.{all-append}
use Rattle.fact_wasm.specs.declared.module.WasmFunc.{WasmFunc}
use Rattle.fact_wasm.specs.declared.module.WasmModule.{WasmModule}
use Rattle.fact_wasm.specs.declared.types.FuncType.{FuncType}
use Rattle.fact_machine.specs.Typing.{declares_numbers, is_typed_body, is_typed_function}
use Rattle.fact_machine.proofs.Tests.{second_of}
use Rattle.fact_adapter_rules.specs.Bindings.{AreConsistent}
use Rattle.fact_adapter_rules.specs.AdapterRules.{uses_of}
use Rattle.fact_types.specs.Adapters.{LinkedAdapter}
use Rattle.fact_types.specs.Tables.{Tables}
use Rattle.fact_actions.specs.Adapters.{AdapterTunables}
use Rattle.fact_actions.specs.Running.{ImportPlaces}
use Rattle.fact_plan_types.proofs.HandleLaws.{there as get-within}
use Rattle.fact_emit.specs.Asked.{AskedHelper}
use Rattle.fact_emit.specs.ImportSection.{adapter_mentions, mentions}
use Rattle.fact_emit.specs.Imports.{Extended}
use Rattle.fact_emit.specs.PlacesOf.{import_places}
use Rattle.fact_emit.specs.States.{KeepsDefined, ModuleSoFar, module_of}
use Rattle.fact_emit.specs.declared.helpers.Helper.{Helper}
use Rattle.fact_emit.proofs.DefinedKept.{extended_defined}
use Rattle.fact_emit.proofs.ImportLaws.{extended_none, extended_on, grown_get, grows_none}
use Rattle.fact_emit.proofs.ImportedInTurn.{imported_adapter}
use Rattle.fact_emit.proofs.ServingLaws.{serves_sooner}
use Rattle.fact_compound.specs.Asks.{IsLaterModule}
use Rattle.fact_compound.specs.Described.{KnowsAdapterData}
use Rattle.fact_compound.specs.Helpers.{CompiledHelpers, WasWritten}
use Rattle.fact_compound.specs.Keys.{part_asks, sync_asks}
use Rattle.fact_compound.specs.declared.asyncs.AsyncPart.TheVariants as part
use Rattle.fact_compound.proofs.HelperUses.{HasOwnUse, HasUse, HaveUses, adapter_uses, own_use}
use Rattle.fact_compound.proofs.HelpersThere.{have_asked}
use Rattle.fact_compound.proofs.HelpersUsed.{AreUsed, uses_in_turn, uses_more}
use Rattle.fact_compound.proofs.WaitingHelpers.{get_in, in_get}
use Rattle.fact_assembly.specs.Sound.{IsSoundAdapter}
use Rattle.fact_assembly.specs.Adding.{Adds, AsParts, AsSync, AsTrap, CompiledAs, Given, OwnKeys, helper_functions, numbered_for, own_functions}
use Rattle.fact_assembly.specs.Exports.{exported_functions_of}
use Rattle.fact_assembly.specs.Holding.{AreAdded, HasAdded, Holds, NoneAdded, OneMore, count_at, first_function}
use Rattle.fact_assembly.specs.ImportedData.{imports_of_data}
use Rattle.fact_assembly.proofs.AddedFunctions.{behind-kept, compiled-behind, helpers-behind, numbers-kept}
use Rattle.fact_assembly.proofs.CompiledLaws.{added-extended, describes, describes-transfers, own-count}
use Rattle.fact_assembly.proofs.HelperParts.{keeps-imported, kept_imported}
use Rattle.fact_assembly.proofs.LiftNamed.{imported-grown}
use Rattle.fact_assembly.proofs.NameLaws.{get-behind}
use Rattle.fact_assembly.proofs.OwnLaws.{known_of}
use Rattle.fact_assembly.proofs.WholeExports.{all-at, in-flat}
use Rattle.fact_assembly.proofs.WholeFunctions.{knows_added_data, serves}
use Rattle.fact_assembly.proofs.WholeTyped.{HasTypedFunction}

-- a typed function has a type
type-there : (M : WasmModule) (f : WasmFunc) → is_typed_function M f ≡ true → HasTypedFunction M f
type-there M f typed = by (slice_get M.types f.ty) refl (second_of (list_all declares_numbers f.locals) (elim (slice_get M.types f.ty) [ None ↦ false | Some t ↦ is_typed_body M f t ]) typed)
  where
    by : (o : Option FuncType) → slice_get M.types f.ty ≡ o → elim o [ None ↦ false | Some t ↦ is_typed_body M f t ] ≡ true → HasTypedFunction M f
    by None e body = absurd (let no : false ≡ true = body in cc)
    by (Some ty) e body = record { ty = ty; type_is = e; typed = typed }

-- what an adapter adds stands behind what was there
functions-added : {t : Tables} {u : AdapterTunables} {given : Given} {old new : ModuleSoFar} {a : LinkedAdapter} {tuple : ℕ} (adds : Adds t u given old new a tuple) → new.functions ≡ old.functions ++ (own_functions adds.compiled ++ helper_functions adds)
functions-added {old = old} {a = a} adds =
    (helpers-behind
    (behind-kept (kept_imported (adapter_mentions a) old adds.imported (imported_adapter old adds.imported a (imports_of_data adds.«data») adds.is_imported)) (behind-kept (numbers-kept adds.imported (length (exported_functions_of a))) (compiled-behind adds.name adds.compiled)))
    adds.helpers).functions

pub helpers-end : {t : Tables} {debug concurrency : Bool} {fuel first : ℕ} {own new : ModuleSoFar} (h : CompiledHelpers t debug concurrency fuel first own new) → Extended h.last new
helpers-end h =
    extended_defined (ap (λ (s : ModuleSoFar). s.types) h.is) (ap (λ (s : ModuleSoFar). s.section) h.is) (ap (λ (s : ModuleSoFar). s.imports) h.is) (ap (λ (s : ModuleSoFar). s.helpers) h.is) (ap (λ (s : ModuleSoFar). s.numbered) h.is)

-- ---- the helpers

module _ (t : Tables) (u : AdapterTunables) (given : Given) (s : ModuleSoFar) (adapters : List LinkedAdapter) (tuples : ℕ → ℕ) (h : Holds t u given s adapters tuples) (sound : All IsSoundAdapter adapters)
    (consistent : AreConsistent (flat_map uses_of adapters)) where
  abbrev here : WasmModule
  here = module_of s

  abbrev places : ImportPlaces
  places = import_places s

  -- what an adapter's own functions ask for
  own-uses : {old new : ModuleSoFar} {a : LinkedAdapter} {tuple : ℕ} (adds : Adds t u given old new a tuple) → IsSoundAdapter a → KnowsAdapterData here places adds.«data» a → HaveUses t here places adds.asks
  own-uses {new = new} {a = a} adds is-sound knows_data = by adds.compiled adds.keys
    where
      by : (c : CompiledAs new t adds.«data» u a (numbered_for a adds.imported) adds.own) → OwnKeys given.fuel adds.asks c → HaveUses t here places adds.asks
      by (AsTrap within c) none = subst (HaveUses t here places) (sym none) tt
      by (AsSync crosses sync c) keys = let told = describes adds is-sound sync in adapter_uses u.concurrency told.transfers knows_data adds.asks (sync_asks given.fuel a) (keys told).are
      by (AsParts awaited c) keys =
          let told = describes-transfers adds is-sound in
          subst (HaveUses t here places) (sym keys.is)
          (all-append (λ (x : AskedHelper). HasUse t here places x.key) keys.first keys.second (adapter_uses u.concurrency told knows_data keys.first (part_asks part.Start given.fuel a) (keys.starts u a told).are)
          (adapter_uses u.concurrency told knows_data keys.second (part_asks part.Return given.fuel a) (keys.returns u a told).are))

  used-upto : {end : ModuleSoFar} {few : List LinkedAdapter} → AreAdded t u given end few → Extended end s → ((b : LinkedAdapter) → Contains few b → Contains adapters b) → AreUsed t here places end
  used-upto NoneAdded later inside = λ e c. absurd (omega (arith, c.1))
  used-upto (OneMore old new before a tuple added lists adds) later inside =
      let grown : Extended old new = extended_on (imported-grown adds (mentions before) (known_of lists)) (added-extended adds) in
      let used = used-upto added (extended_on grown later) (λ b c. inside b (Contains-append_left before (a ∷ []) b c)) in
      let turn = imported_adapter old adds.imported a (imports_of_data adds.«data») adds.is_imported in
      let keeps = keeps-imported (adapter_mentions a) old adds.imported turn in
      let kept : KeepsDefined old adds.imported = kept_imported (adapter_mentions a) old adds.imported turn in
      let numbered : AreUsed t here places (numbered_for a adds.imported) = λ e c. let was = used e (subst (λ es. Contains es e) keeps.helpers c) in (was.0, omega (arith, was.1, keeps.numbered, ap length kept.functions)) in
      let at = in_get adapters a (inside a (Contains-push before a)) in
      let knows_data = knows_added_data t u given s adapters tuples h sound consistent lists a adds later (all-at IsSoundAdapter adapters sound at.0 a at.1) (λ m c. in-flat adapter_mentions adapters at.0 a m at.1 c) in
      let own = uses_more adds.asks adds.asked (own-uses adds (all-at IsSoundAdapter adapters sound at.0 a at.1) knows_data) numbered in
      let last = uses_in_turn adds.helpers.wrote.in_turn own in
      λ e c. ((last e (subst (λ es. Contains es e) (ap (λ (q : ModuleSoFar). q.helpers) adds.helpers.is) c)).0, adds.there.writable.below e c)

  -- Each helper can be used.
  pub all-used : AreUsed t here places s
  all-used = used-upto h.added (extended_none refl) (λ b c. c)

  -- ---- their functions

  module _ (j : ℕ) (a : LinkedAdapter) (at : slice_get adapters j ≡ Some a) where
    abbrev placed : HasAdded t u given s a (first_function h.counts adapters j) (count_at h.counts j) (tuples j)
    placed = h.placed j a at

    abbrev first : ℕ
    first = first_function h.counts adapters j

    abbrev first-helper : ℕ
    first-helper = length placed.adds.imported.helpers

    written-typed : (e : Helper × ℕ) (f : WasmFunc) (number : ℕ) → Contains s.helpers e → slice_get s.functions number ≡ Some f → WasWritten t u.debug u.concurrency given.fuel placed.adds.helpers.last e.0 f → HasTypedFunction here f
    written-typed e f number there at-number w =
        let later : Extended w.written s = extended_on w.later (extended_on (helpers-end placed.adds.helpers) placed.later) in
        let all : IsLaterModule here places s = record { serves = serves t u given s adapters tuples h sound consistent; types = grows_none refl; functions = grows_none refl } in
        let typed = w.wrote.is number here places (serves_sooner later all.serves) later.types at-number (have_asked h.helpers all later w.wrote.asks w.wrote.asked.asked) in
        let one = (all-used e there).0 in
        let own : HasOwnUse t u.debug u.concurrency here places (e.0, number) = own_use e.0 number one.0 one.1 w.wrote.from_small w.wrote.to_small in
        type-there here f (typed.typed own.x own.u own.src own.dst own.from own.to own.uses)

    -- Each helper that came with an adapter.
    pub helper-typed : (i : ℕ) (f : WasmFunc) → i < count_at h.counts j → slice_get s.functions (first + (length (exported_functions_of a) + i)) ≡ Some f → HasTypedFunction here f
    helper-typed i f below e =
        let written : List WasmFunc = helper_functions placed.adds in
        let last : ModuleSoFar = placed.adds.helpers.last in
        let is = get-within written i (omega (arith, below, placed.count_is)) in
        let entry = get-within last.helpers (first-helper + i) (omega (arith, below, placed.count_is, placed.adds.helpers.wrote.count)) in
        let wrote = placed.adds.helpers.wrote.all (first-helper + i) entry.0 (omega arith) entry.1 in
        let back : (first-helper + i) - first-helper ≡ i = omega arith in
        let alike : Some is.0 ≡ Some wrote.0 = sym is.1 ∙ ap (slice_get written) (sym back) ∙ wrote.1 in
        let number : ℕ = first + (length (exported_functions_of a) + i) in
        let place : number ≡ length placed.old.functions + (length (own_functions placed.adds.compiled) + i) = omega (arith, placed.first_is, own-count placed.adds.compiled) in
        let stands : slice_get placed.new.functions number ≡ Some is.0 =
        (λ k. slice_get (functions-added placed.adds k) (place k)) ∙ get-behind placed.old.functions (own_functions placed.adds.compiled ++ written) (length (own_functions placed.adds.compiled) + i)
        ∙ get-behind (own_functions placed.adds.compiled) written i ∙ is.1 in
        let whole = grown_get placed.functions_later number is.0 stands in
        let found : Some is.0 ≡ Some f = sym whole ∙ e in
        let same : is.0 ≡ f = cc in
        let same' : wrote.0 ≡ f = cc in
        let inside : Contains placed.new.helpers entry.0 = subst (λ es. Contains es entry.0) (sym (ap (λ (q : ModuleSoFar). q.helpers) placed.adds.helpers.is)) (get_in last.helpers (first-helper + i) entry.0 entry.1) in
        let there : Contains s.helpers entry.0 = subst (λ es. Contains es entry.0) (sym placed.later.helpers.is) (Contains-append_left placed.new.helpers placed.later.helpers.more entry.0 inside) in
        written-typed entry.0 f number there e (subst (WasWritten t u.debug u.concurrency given.fuel last entry.0.0) same' wrote.2)
