-- The functions of the adapters of a whole module behave, those of adapters within one instance only trap, and those of async adapters move
-- the values of their parts.
use Rattle.std.proofs.Common.{◌≡◌, ◌≢◌, ℕ, zero, suc, ◌+◌, Bool, true, false, List, [], ◌∷◌, Option, Some, None, All, AllPairs, refl, sym, ap, ◌∙◌, subst, arith, slice_get}
use Rattle.std.specs.Prelude.{cond, filter, is_some}
use Rattle.std.proofs.lemmas.Bool.{true≢false}
use Rattle.std.specs.List.{AllZip, Contains, flat_map}
use Rattle.std.proofs.lemmas.Option.{get_or_from_slice_get, slice_get_within}
use Rattle.fact_wasm.specs.declared.module.WasmImport.{WasmImport}
use Rattle.fact_wasm.specs.declared.module.WasmFunc.{WasmFunc}
use Rattle.fact_wasm.specs.declared.module.WasmModule.{WasmModule}
use Rattle.fact_wasm.specs.declared.types.FuncType.{FuncType}
use Rattle.fact_types.specs.Adapters.{LinkedAdapter, Side, is_async, is_crossing}
use Rattle.fact_types.specs.Tables.{Tables}
use Rattle.fact_types.specs.declared.import.Import.{Import}
use Rattle.fact_entity.specs.declared.id.Id.{Id}
use Rattle.fact_entity.specs.declared.table.Memories.{Memories}
use Rattle.fact_adapter_rules.specs.Bindings.{AreConsistent}
use Rattle.fact_plan_types.proofs.HandleLaws.{zip_map}
use Rattle.fact_adapter_rules.specs.AdapterRules.{uses_of}
use Rattle.fact_actions.specs.Adapters.{AdapterTunables}
use Rattle.fact_actions.specs.Running.{ImportPlaces}
use Rattle.fact_actions.proofs.States.{and_right}
use Rattle.fact_action_laws.specs.FaithfulLaws.{IsCheckedAdapter}
use Rattle.fact_emit.specs.ImportSection.{Mention, Sort, a_function, a_global, a_memory, adapter_mentions, imports_of, is_made_once, is_of, is_awaited, custom_page_size, mentions}
use Rattle.fact_emit.specs.Imports.{AreOnce, Extended, Serves, StandOnce}
use Rattle.fact_emit.specs.Known.{AreKnown, AreUsedAlike}
use Rattle.fact_emit.specs.KnownAdapters.{KnowsAdapter, KnowsSide}
use Rattle.fact_emit.specs.Listed.{ListsMentions}
use Rattle.fact_emit.specs.Options.{memory_place, number_if_any}
use Rattle.fact_emit.specs.PlacesOf.{import_places}
use Rattle.fact_emit.specs.States.{ModuleSoFar, module_of}
use Rattle.fact_emit.proofs.AdapterKnown.{has_places, have_core_types, knows_adapter}
use Rattle.fact_emit.proofs.ImportLaws.{extended_on, grown_get}
use Rattle.fact_emit.proofs.KnownLaws.{known_within}
use Rattle.fact_emit.proofs.ListedLaws.{listed_even}
use Rattle.fact_emit.proofs.Mentions.{in-mentions, of-a-kind}
use Rattle.fact_emit.proofs.PlacesOfLaws.{are_import_places}
use Rattle.fact_emit.proofs.ServingLaws.{serves_all, serves_sooner}
use Rattle.fact_compound.specs.Asks.{IsLaterModule}
use Rattle.fact_compound.specs.AsyncParts.{part_type}
use Rattle.fact_compound.specs.Asyncs.{CompiledPart, IsPartFunction}
use Rattle.fact_compound.specs.Described.{KnowsAdapterData}
use Rattle.fact_compound.specs.Events.{AreSetTo}
use Rattle.fact_compound.specs.Functions.{CompiledSync}
use Rattle.fact_compound.specs.Placed.{AreOptionsOf, IsDataOf}
use Rattle.fact_compound.specs.SameInstance.{CompiledSameInstance, IsSameInstanceFunction}
use Rattle.fact_compound.specs.Syncs.{IsSyncFunction, lower_type_of}
use Rattle.fact_compound.specs.declared.adapters.AdapterOptions.{AdapterOptions}
use Rattle.fact_compound.specs.declared.asyncs.AsyncPart.{AsyncPart}
use Rattle.fact_compound.specs.declared.asyncs.AsyncPart.TheVariants as part
use Rattle.fact_compound.proofs.AdapterPlaced.{links_adapter}
use Rattle.fact_assembly.specs.Sound.{IsSoundAdapter}
use Rattle.fact_assembly.proofs.Passed.{sound_are_checked}
use Rattle.fact_assembly.proofs.Telling.{known_tell_memories}
use Rattle.fact_assembly.proofs.Uses.{mentions_alike}
use Rattle.fact_assembly.proofs.Written.{sound_are_writable}
use Rattle.fact_function_laws.specs.Functions.{IsAdapterFunction, IsPartFunctionOf, IsTrapFunction}
use Rattle.fact_function_laws.specs.AsyncRuns.{Transfers}
use Rattle.fact_function_laws.specs.Runs.{Behaves, OnlyTraps}
use Rattle.fact_function_laws.proofs.Behaviour.{functions_behave}
use Rattle.fact_function_laws.proofs.PartFunctions.{part_functions_transfer}
use Rattle.fact_function_laws.proofs.Traps.{trap_functions_trap}
use Rattle.fact_assembly.specs.Adding.{Adds, AsParts, AsSync, AsTrap, CompiledAs, Given, HasSideData, numbered_for, own_functions}
use Rattle.fact_assembly.specs.Holding.{HasAdded, Holds, count_at, first_function}
use Rattle.fact_assembly.specs.ImportedData.{imports_of_data, page_size_log2_of, side_imports_of}
use Rattle.fact_assembly.proofs.CompiledLaws.{added-extended, callee-extended, describes, describes-lower, describes-transfers, entry-extended, has-post-return, helpers-extended, none-marked, not-awaited-sync, not-awaited-within, own_types, types-added}
use Rattle.fact_assembly.proofs.PartLaws.{names_imports}
use Rattle.fact_assembly.proofs.StartsOnce.{starts-once}
use Rattle.fact_assembly.proofs.WholeExports.{all-at, in-flat}

-- ---- lists

-- what stands once
later_ones : {X : Type 0} (x : X) (xs : List X) → AllPairs (λ x y. x ≢ y) (x ∷ xs) → AllPairs (λ x y. x ≢ y) xs
later_ones x xs h i j d below within = h (suc i) (suc j) d (omega (arith, below)) (omega (arith, within))

first_apart : {X : Type 0} (x : X) (xs : List X) → AllPairs (λ x y. x ≢ y) (x ∷ xs) → (k : ℕ) → slice_get xs k ≡ Some x → ⊥
first_apart x xs h k e = let within = slice_get_within xs k x e in h 0 (suc k) x (omega arith) (omega (arith, within)) (sym (get_or_from_slice_get xs k x x e))

-- what a test lets through stands among what it lets through
kept_there : {X : Type 0} (p : X → Bool) (xs : List X) (k : ℕ) (x : X) → p x ≡ true → slice_get xs k ≡ Some x → (n : ℕ) × (slice_get (filter p xs) n ≡ Some x)
kept_there p [] k x kept e = cc
kept_there p (y ∷ xs) k x kept e = go (p y) refl k e (λ j f. kept_there p xs j x kept f)
  where
    go : (b : Bool) → p y ≡ b → (k : ℕ) → slice_get (y ∷ xs) k ≡ Some x → ((j : ℕ) → slice_get xs j ≡ Some x → (n : ℕ) × (slice_get (filter p xs) n ≡ Some x)) → (n : ℕ) × (slice_get (cond b (y ∷ filter p xs) (filter p xs)) n ≡ Some x)
    go true is zero e rest = (0, e)
    go false is zero e rest = let same : y ≡ x = cc in absurd (true≢false (sym kept ∙ ap p (sym same) ∙ is))
    go true is (suc k) e rest = let (n, at) = rest k e in (suc n, at)
    go false is (suc k) e rest = rest k e

more_once : (x : Import) (xs : List Import) → (is_made_once x ≡ true → (k : ℕ) → slice_get xs k ≡ Some x → ⊥) → StandOnce xs → StandOnce (x ∷ xs)
more_once x xs apart o = record { one = go }
  where
    go : (i j : ℕ) (y : Import) → is_made_once y ≡ true → slice_get (x ∷ xs) i ≡ Some y → slice_get (x ∷ xs) j ≡ Some y → i ≡ j
    go zero zero y made e f = refl
    go zero (suc j) y made e f = let same : x ≡ y = cc in absurd (apart (ap is_made_once same ∙ made) j (f ∙ ap Some (sym same)))
    go (suc i) zero y made e f = let same : x ≡ y = cc in absurd (apart (ap is_made_once same ∙ made) i (e ∙ ap Some (sym same)))
    go (suc i) (suc j) y made e f = ap suc (o.one i j y made e f)

-- imports of a kind that are made once stand once where all such imports do
once_of_kind : (sort : Sort) (ws : List WasmImport) (is : List Import) → AllPairs (λ i j. i ≢ j) (filter is_made_once is) → StandOnce (imports_of sort ws is)
once_of_kind sort [] is h = record { one = λ i j x made e. cc }
once_of_kind sort (w ∷ ws) [] h = record { one = λ i j x made e. cc }
once_of_kind sort (w ∷ ws) (i ∷ is) h = by (is_made_once i) refl h (once_of_kind sort ws is)
  where
    step : (b : Bool) → (is_made_once i ≡ true → (k : ℕ) → slice_get (imports_of sort ws is) k ≡ Some i → ⊥) → StandOnce (imports_of sort ws is) → StandOnce (cond b (i ∷ imports_of sort ws is) (imports_of sort ws is))
    step true apart o = more_once i (imports_of sort ws is) apart o
    step false apart o = o

    by : (b : Bool) → is_made_once i ≡ b → AllPairs (λ i j. i ≢ j) (cond b (i ∷ filter is_made_once is) (filter is_made_once is)) → (AllPairs (λ i j. i ≢ j) (filter is_made_once is) → StandOnce (imports_of sort ws is)) → StandOnce (imports_of sort (w ∷ ws) (i ∷ is))
    by false is_made g rest = step (is_of sort w) (λ made. absurd (true≢false (sym made ∙ is_made))) (rest g)
    by true is_made g rest =
        step (is_of sort w)
        (λ made k e. let at = of-a-kind sort ws is k i e in let kept = kept_there is_made_once is at.0 i made at.1 in first_apart i (filter is_made_once is) g kept.0 kept.1)
        (rest (later_ones i (filter is_made_once is) g))

-- ---- the data of an adapter

place_there : (o : Option (Id Memories)) (n : ℕ) → number_if_any o ≡ Some n → number_if_any o ≡ Some (memory_place o)
place_there None n e = cc
place_there (Some m) n e = refl

some_there : (o : Option (Id Memories)) (n : ℕ) → number_if_any o ≡ Some n → is_some o ≡ true
some_there None n e = cc
some_there (Some m) n e = refl

options_placed : {cores : List FuncType} (M : WasmModule) (p : ImportPlaces) (t : Tables) (s : Side) (d : AdapterOptions) → HasSideData t cores s d → KnowsSide M p s (side_imports_of d) → AreOptionsOf s (side_imports_of d) d
options_placed M p t s d h knows = record {
  instance = h.instance;
  flags = refl;
  wide = sym h.memory64;
  has_memory = λ m is. let here = knows.memory m is in some_there d.options.linear.memory here.number here.place_is;
  memory = λ m is. let here = knows.memory m is in place_there d.options.linear.memory here.number here.place_is;
  realloc = refl;
  page_size = λ m is. ap custom_page_size (h.page_size_log2 ∙ ap page_size_log2_of is);
  encoding = sym h.encoding;
}

-- ---- the module

module _ (t : Tables) (u : AdapterTunables) (given : Given) (s : ModuleSoFar) (adapters : List LinkedAdapter) (tuples : ℕ → ℕ) (h : Holds t u given s adapters tuples) (sound : All IsSoundAdapter adapters)
    (consistent : AreConsistent (flat_map uses_of adapters)) where
  abbrev all_mentions : List Mention
  all_mentions = flat_map adapter_mentions adapters

  abbrev here : WasmModule
  here = module_of s

  abbrev places : ImportPlaces
  places = import_places s

  pub once : AreOnce s
  once = record {
    functions = once_of_kind a_function s.section s.imports h.lists.once;
    memories = once_of_kind a_memory s.section s.imports h.lists.once;
    globals = once_of_kind a_global s.section s.imports h.lists.once;
    starts = starts-once s adapters h.lists;
  }

  pub serves : Serves here places s
  serves = serves_all here places s refl refl (are_import_places s once)

  known_all : AreKnown s all_mentions
  known_all = known_within s (mentions adapters) all_mentions (λ m c. in-mentions [] all_mentions m c) (record { named = h.lists.named; transcoders = h.lists.transcoders })

  alike : AreUsedAlike all_mentions
  alike = mentions_alike adapters consistent

  -- What an adapter names that was added to a module from which this one goes on stands in its places.
  module _ {old new : ModuleSoFar} {before : List LinkedAdapter} (lists : ListsMentions old (mentions before) before) (a : LinkedAdapter) {tuple : ℕ} (adds : Adds t u given old new a tuple) (later : Extended new s) (sound_too : IsSoundAdapter a)
      (inside : (m : Mention) → Contains (adapter_mentions a) m → Contains all_mentions m) where
    pub knows_added : KnowsAdapter here places a (imports_of_data adds.«data»)
    knows_added = knows_adapter serves known_all alike old adds.imported (mentions before) a (imports_of_data adds.«data») (record { named = lists.named; transcoders = lists.transcoders }) adds.is_imported (extended_on (added-extended adds) later) inside

    pub knows_added_data : KnowsAdapterData here places adds.«data» a
    knows_added_data =
        let w = sound_are_writable a sound_too in
        let data_is : IsDataOf a (imports_of_data adds.«data») adds.«data» = record {
          lift = options_placed here places t a.lift adds.«data».lift adds.lift knows_added.lift;
          lower = options_placed here places t a.lower adds.«data».lower adds.lower knows_added.lower;
          callee = refl;
          post_return = refl;
          has_post_return = has-post-return adds;
          transparent = adds.transparent;
        } in
        links_adapter here places a (imports_of_data adds.«data») adds.«data» knows_added data_is sound_too.lift_core_type w.memories

  module _ (j : ℕ) (a : LinkedAdapter) (at : slice_get adapters j ≡ Some a) where
    abbrev placed : HasAdded t u given s a (first_function h.counts adapters j) (count_at h.counts j) (tuples j)
    placed = h.placed j a at

    abbrev first : ℕ
    first = first_function h.counts adapters j

    pub is_sound : IsSoundAdapter a
    is_sound = all-at IsSoundAdapter adapters sound j a at

    own_later : Extended placed.adds.own s
    own_later = extended_on (helpers-extended placed.adds.helpers) placed.later

    -- the whole module has the helpers that the adapter's functions ask for
    helpers_later : IsLaterModule here places placed.new
    helpers_later = record { serves = serves_sooner placed.later serves; types = placed.later.types; functions = placed.functions_later }

    pub knows : KnowsAdapter here places a (imports_of_data placed.adds.«data»)
    knows = knows_added placed.lists a placed.adds placed.later is_sound (λ m c. in-flat adapter_mentions adapters j a m at c)

    pub knows_data : KnowsAdapterData here places placed.adds.«data» a
    knows_data = knows_added_data placed.lists a placed.adds placed.later is_sound (λ m c. in-flat adapter_mentions adapters j a m at c)

    checked : is_crossing a ≡ true → IsCheckedAdapter places a
    checked crosses = sound_are_checked places a is_sound crosses (known_tell_memories here s a (imports_of_data placed.adds.«data») (listed_even s (mentions adapters) adapters h.lists) knows)

    -- Its functions stand there, with their types.
    pub types : AllZip (λ (f : WasmFunc) ty. slice_get s.types f.ty ≡ Some ty) (own_functions placed.adds.compiled) (own_types placed.adds.compiled)
    types = zip_map _ _ (λ f ty e. grown_get placed.later.types f.ty ty e) _ _ (types-added placed.adds is_sound)

    -- ---- a sync one between two instances

    pub sync_does : (sync : is_async a ≡ false) (c : CompiledSync (λ M p. IsLaterModule M p placed.new) t placed.adds.«data» u.debug u.concurrency u.exceptions (numbered_for a placed.adds.imported) placed.adds.own) → Extended placed.adds.own s → IsSyncFunction u a here places c.function
    sync_does sync c later =
        let set_to : AreSetTo u.concurrency u.exceptions u = record { concurrency_is = refl; exceptions_are = refl } in
        c.writes.is u a (describes placed.adds is_sound sync) set_to here places (serves_sooner later serves) helpers_later knows_data

    -- The adapter's function stands there, and it behaves.
    sync_behaves : (crosses : is_crossing a ≡ true) (sync : is_async a ≡ false) (c : CompiledSync (λ M p. IsLaterModule M p placed.new) t placed.adds.«data» u.debug u.concurrency u.exceptions (numbered_for a placed.adds.imported) placed.adds.own) → Extended placed.adds.own s
        → slice_get s.functions first ≡ Some c.function → slice_get s.types c.function.ty ≡ Some (lower_type_of a) → IsAdapterFunction here s.imports u a adapters first
    sync_behaves crosses sync c later there type_is = record {
      function = c.function;
      function_is = there;
      type_is = type_is;
      does = sync_does sync c later;
      core_type = is_sound.lower_core_type;
      sync_sides = let unmarked = none-marked a.lift.async_side a.lower.async_side a.lift.async_type a.lower.async_type sync in record { lift = unmarked.0; lower = unmarked.1 };
      names = names_imports s adapters h.lists;
      places = has_places here places a (imports_of_data placed.adds.«data») knows;
      core_types = have_core_types here places a (imports_of_data placed.adds.«data») knows is_sound.lift_core_type;
      checked = checked crosses;
    }

    -- ---- one within one instance

    pub trap_does : (c : CompiledSameInstance t placed.adds.«data» (numbered_for a placed.adds.imported) placed.adds.own) → IsSameInstanceFunction a here places c.function
    trap_does c = c.is a (describes-lower placed.adds) here places (serves_sooner own_later serves)

    traps_only : (c : CompiledSameInstance t placed.adds.«data» (numbered_for a placed.adds.imported) placed.adds.own) → slice_get s.functions first ≡ Some c.function → slice_get s.types c.function.ty ≡ Some (lower_type_of a)
        → IsTrapFunction here s.imports a adapters first
    traps_only c there type_is = record {
      function = c.function;
      function_is = there;
      type_is = type_is;
      does = trap_does c;
      core_type = is_sound.lower_core_type;
      names = names_imports s adapters h.lists;
    }

    -- ---- an async one between two instances

    pub part_does : (x : AsyncPart) {old new : ModuleSoFar} (c : CompiledPart (λ M p. IsLaterModule M p placed.new) t placed.adds.«data» u.debug u.concurrency x old new) → Extended new s → IsPartFunction x u a here places c.function
    part_does x c later = c.is u a (describes-transfers placed.adds is_sound) refl here places (serves_sooner later serves) helpers_later knows_data

    part_transfers : (x : AsyncPart) {old new : ModuleSoFar} (crosses : is_crossing a ≡ true) (c : CompiledPart (λ M p. IsLaterModule M p placed.new) t placed.adds.«data» u.debug u.concurrency x old new) → Extended new s
        → (k : ℕ) → slice_get s.functions k ≡ Some c.function → slice_get s.types c.function.ty ≡ Some (part_type x a) → IsPartFunctionOf x here s.imports u a adapters k
    part_transfers x crosses c later k there type_is = record {
      function = c.function;
      function_is = there;
      type_is = type_is;
      does = part_does x c later;
      names = names_imports s adapters h.lists;
      places = has_places here places a (imports_of_data placed.adds.«data») knows;
      core_types = have_core_types here places a (imports_of_data placed.adds.«data») knows is_sound.lift_core_type;
      checked = checked crosses;
    }

    -- ---- whichever it is

    -- What is promised of its functions but the one that hands an async adapter's call on, by their numbers from the first one on.
    pub function_behaves : is_crossing a ≡ true → is_async a ≡ false → Behaves here s.imports u a first
    function_behaves crosses sync = by placed.adds.compiled (λ f e. subst (λ n. slice_get s.functions n ≡ Some f) (omega arith) (placed.functions_there 0 f e)) types
      where
        by : (c : CompiledAs placed.new t placed.adds.«data» u a (numbered_for a placed.adds.imported) placed.adds.own) → ((f : WasmFunc) → slice_get (own_functions c) 0 ≡ Some f → slice_get s.functions first ≡ Some f)
            → AllZip (λ (f : WasmFunc) ty. slice_get s.types f.ty ≡ Some ty) (own_functions c) (own_types c) → Behaves here s.imports u a first
        by (AsTrap within c) there typed = absurd (true≢false (sym crosses ∙ within))
        by (AsSync crosses_too sync_too c) there typed = functions_behave here s.imports u a adapters first (sync_behaves crosses sync c own_later (there c.function refl) typed.0)
        by (AsParts awaited c) there typed = absurd (true≢false (sym awaited ∙ not-awaited-sync a sync))

    pub function_only_traps : is_crossing a ≡ false → OnlyTraps here s.imports a first
    function_only_traps within = by placed.adds.compiled (λ f e. subst (λ n. slice_get s.functions n ≡ Some f) (omega arith) (placed.functions_there 0 f e)) types
      where
        by : (c : CompiledAs placed.new t placed.adds.«data» u a (numbered_for a placed.adds.imported) placed.adds.own) → ((f : WasmFunc) → slice_get (own_functions c) 0 ≡ Some f → slice_get s.functions first ≡ Some f)
            → AllZip (λ (f : WasmFunc) ty. slice_get s.types f.ty ≡ Some ty) (own_functions c) (own_types c) → OnlyTraps here s.imports a first
        by (AsTrap within_too c) there typed = trap_functions_trap here s.imports a adapters first (traps_only c (there c.function refl) typed.0)
        by (AsSync crosses sync c) there typed = absurd (true≢false (sym crosses ∙ within))
        by (AsParts awaited c) there typed = absurd (true≢false (sym awaited ∙ not-awaited-within a within))

    -- which of an async adapter's functions moves the values of a part
    abbrev part_at : AsyncPart → ℕ
    part_at part.Start = first + 0
    part_at part.Return = first + 1

    pub function_transfers : is_awaited a ≡ true → (x : AsyncPart) → Transfers x here s.imports u a (part_at x)
    function_transfers awaited x = by placed.adds.compiled placed.functions_there types x
      where
        crosses : is_crossing a ≡ true
        crosses = and_right (is_async a) (is_crossing a) awaited

        by : (c : CompiledAs placed.new t placed.adds.«data» u a (numbered_for a placed.adds.imported) placed.adds.own) → ((i : ℕ) (f : WasmFunc) → slice_get (own_functions c) i ≡ Some f → slice_get s.functions (first + i) ≡ Some f)
            → AllZip (λ (f : WasmFunc) ty. slice_get s.types f.ty ≡ Some ty) (own_functions c) (own_types c) → (x : AsyncPart) → Transfers x here s.imports u a (part_at x)
        by (AsTrap within c) there typed x = absurd (true≢false (sym awaited ∙ not-awaited-within a within))
        by (AsSync crosses_too sync c) there typed x = absurd (true≢false (sym awaited ∙ not-awaited-sync a sync))
        by (AsParts awaited_too c) there typed part.Start =
            let returned = extended_on (entry-extended c.entry) (extended_on (callee-extended c) own_later) in
            let started = extended_on c.return.puts.imports returned in
            part_functions_transfer part.Start here s.imports u a adapters (first + 0) (part_transfers part.Start crosses c.start started (first + 0) (there 0 c.start.function refl) typed.0)
        by (AsParts awaited_too c) there typed part.Return =
            let returned = extended_on (entry-extended c.entry) (extended_on (callee-extended c) own_later) in
            part_functions_transfer part.Return here s.imports u a adapters (first + 1) (part_transfers part.Return crosses c.return returned (first + 1) (there 1 c.return.function refl) typed.1.0)
