-- What an adapter's functions and helpers ask for has the keys that their translations ask for.
use Rattle.std.proofs.Common.{◌≡◌, ℕ, Bool, false, List, [], ◌∷◌, Option, Some, None, refl, sym, subst}
use Rattle.std.specs.List.{AllZip}
use Rattle.fact_wasm.specs.declared.types.FuncType.{FuncType}
use Rattle.fact_wasm.specs.declared.module.WasmFunc.{WasmFunc}
use Rattle.fact_entity.specs.declared.id.Id.{Id}
use Rattle.fact_entity.specs.declared.table.Memories.{Memories}
use Rattle.fact_types.specs.Adapters.{LinkedAdapter, Side, is_wide}
use Rattle.fact_types.specs.Tables.{Tables}
use Rattle.fact_types.specs.declared.outside.CoreDef.{CoreDef}
use Rattle.fact_types.specs.declared.outside.MemoryOption.{MemoryOption}
use Rattle.fact_actions.specs.Adapters.{AdapterTunables}
use Rattle.fact_actions.specs.Outlining.{HelperKey, RouteEnd, helper_asks, route_end}
use Rattle.fact_emit.specs.AdapterImports.{IsSideImported}
use Rattle.fact_emit.specs.Asked.{AskedHelper}
use Rattle.fact_emit.specs.ImportSection.{Callback, Mention, Realloc}
use Rattle.fact_emit.specs.Imports.{Extended}
use Rattle.fact_emit.specs.Known.{AreKnown}
use Rattle.fact_emit.specs.States.{ModuleSoFar, memories_of}
use Rattle.fact_emit.specs.TaskCalls.{IsMemoryThere}
use Rattle.fact_emit.specs.declared.helpers.Helper.{Helper}
use Rattle.fact_emit.specs.declared.helpers.HelperLocation.{HelperLocation}
use Rattle.fact_emit.specs.declared.options.Options.{Options}
use Rattle.fact_emit.proofs.ImportLaws.{extended_on}
use Rattle.fact_kinds.specs.Translations.{IsKeyOf, place_of_location}
use Rattle.fact_compound.specs.Asks.{sides_between}
use Rattle.fact_compound.specs.Helpers.{WroteHelper}
use Rattle.fact_compound.specs.Keys.{AmongParams, AmongResults, IsKeyOfAdapter}
use Rattle.fact_compound.specs.declared.adapters.AdapterOptions.{AdapterOptions}
use Rattle.fact_assembly.specs.Adding.{Adds, Given, HasSideData}
use Rattle.fact_assembly.specs.Holding.{HasNoSharedMemory}
use Rattle.fact_assembly.specs.ImportedData.{page_size_log2_of, side_imports_of}
use Rattle.fact_assembly.proofs.CompiledLaws.{added-extended}
use Rattle.fact_assembly.proofs.KeyedHelpers.{IsEndOf, IsKey, IsMemoryAt}
use Rattle.fact_assembly.proofs.LiftNamed.{from-lifted, from-lowered, from-stored, from-supplied, function-later, function-imported, lifted, memory-later, memory-imported}

-- ---- the ends of a side

abbrev definition-in : Option MemoryOption → Option CoreDef
definition-in o = elim o as (λ (x : Option MemoryOption). Option CoreDef) [ None ↦ None | Some k ↦ Some k.def ]

memory-end : (s : ModuleSoFar) (o : Option (Id Memories)) (m : Option MemoryOption) (wide : Bool) (page : ℕ) → wide ≡ is_wide m → page ≡ page_size_log2_of m → ((n : MemoryOption) → m ≡ Some n → n.shared ≡ false)
    → IsMemoryThere s o (definition-in m) → IsMemoryAt (memories_of s) o wide page m
memory-end s None None wide page wide-is page-is unshared h = (wide-is, page-is)
memory-end s None (Some m) wide page wide-is page-is unshared h = absurd h
memory-end s (Some i) None wide page wide-is page-is unshared h = absurd h
memory-end s (Some i) (Some m) wide page wide-is page-is unshared h = (h, wide-is, page-is, unshared m refl)

module _ {t : Tables} {cores : List FuncType} {old new : ModuleSoFar} (side : Side) (d : AdapterOptions) (has : HasSideData t cores side d) (ms : List Mention) (are-known : AreKnown old ms) (l : IsSideImported old new side (side_imports_of d))
    {s : ModuleSoFar} (later : Extended new s) (unshared : (m : MemoryOption) → side.memory ≡ Some m → m.shared ≡ false) where
  pub end-of-side : (loc : HelperLocation) → IsEndOf t cores s d.options loc (route_end side (place_of_location loc))
  end-of-side loc = record {
    encoding = has.encoding;
    memory =
        memory-end s d.options.linear.memory side.memory d.options.linear.memory64 d.options.linear.page_size_log2 has.memory64 has.page_size_log2 unshared
        (memory-later (extended_on (from-stored old new side _ ms are-known l).grown later) d.options.linear.memory (definition-in side.memory) (memory-imported l.flagged l.stored side.memory d.options.linear.memory l.memory));
    realloc =
        function-later (extended_on (from-supplied old new side _ ms are-known l).grown later) d.options.linear.realloc side.realloc
        (function-imported l.stored l.supplied (Realloc (is_wide side.memory)) side.realloc d.options.linear.realloc refl l.realloc);
    callback = function-later later d.options.callback side.callback (function-imported l.supplied new Callback side.callback d.options.callback refl l.callback);
    async_side = has.async_side;
    core_type = has.core_type;
    place = refl;
  }

-- ---- keys of what is asked for

module _ (t : Tables) (cores : List FuncType) (s : ModuleSoFar) where
  moved-end : (o p : Options) (l m : HelperLocation) (e f : RouteEnd) → IsEndOf t cores s o l e → p ≡ o → f ≡ record e { place = place_of_location m } → IsEndOf t cores s p m f
  moved-end o p l m e f h same is =
      subst (IsEndOf t cores s p m) (sym is)
      (subst (λ q. IsEndOf t cores s q m (record e { place = place_of_location m })) (sym same)
      (record { encoding = h.encoding; memory = h.memory; realloc = h.realloc; callback = h.callback; async_side = h.async_side; core_type = h.core_type; place = refl }))

  -- The helper that code of a helper asks for has the key that its translation asks for.
  inner-key : (debug concurrency : Bool) (h : Helper) (key : HelperKey) → IsKey t cores s h key → (x : AskedHelper) (k : HelperKey) → IsKeyOf t (sides_between h debug concurrency) key.route x k → IsKey t cores s x.key k
  inner-key debug concurrency h key is x k y = record {
    source = y.source;
    destination = y.destination;
    source_counted = y.source_counted;
    destination_counted = y.destination_counted;
    moves = y.moves.moves;
    from = moved-end h.src.opts x.key.src.opts h.src.loc x.key.src.loc key.route.from k.route.from is.from y.from_options y.from_route;
    to = moved-end h.dst.opts x.key.dst.opts h.dst.loc x.key.dst.loc key.route.to k.route.to is.to y.to_options y.to_route;
  }

  inner-keys : (debug concurrency : Bool) (h : Helper) (key : HelperKey) → IsKey t cores s h key → (xs : List AskedHelper) (ks : List HelperKey) → AllZip (IsKeyOf t (sides_between h debug concurrency) key.route) xs ks → AllZip (λ (x : AskedHelper) k. IsKey t cores s x.key k) xs ks
  inner-keys debug concurrency h key is [] [] y = tt
  inner-keys debug concurrency h key is [] (k ∷ ks) y = absurd y
  inner-keys debug concurrency h key is (x ∷ xs) [] y = absurd y
  inner-keys debug concurrency h key is (x ∷ xs) (k ∷ ks) y = (inner-key debug concurrency h key is x k y.0, inner-keys debug concurrency h key is xs ks y.1)

  pub helper-keys : {debug concurrency : Bool} {fuel : ℕ} (h : Helper) (old new : ModuleSoFar) (f : WasmFunc) (w : WroteHelper t debug concurrency fuel h old new f) (key : HelperKey) → IsKey t cores s h key
      → AllZip (λ (x : AskedHelper) k. IsKey t cores s x.key k) w.asks (helper_asks fuel key)
  helper-keys {debug} {concurrency} {fuel} h old new f w key is =
      inner-keys debug concurrency h key is w.asks (helper_asks fuel key)
      (w.keys.along key.route key.source key.destination is.source is.destination is.source_counted is.destination_counted is.moves (sym is.from.place) (sym is.to.place))

-- ---- what an adapter's own functions ask for

module _ {t : Tables} {u : AdapterTunables} {given : Given} {old new : ModuleSoFar} {a : LinkedAdapter} {tuple : ℕ} (add : Adds t u given old new a tuple) (ms : List Mention) (are-known : AreKnown old ms) {s : ModuleSoFar} (later : Extended new s)
    (unshared : HasNoSharedMemory a) where
  imported-later : Extended add.imported s
  imported-later = extended_on (added-extended add) later

  lift-end : (loc : HelperLocation) → IsEndOf t given.cores s add.«data».lift.options loc (route_end a.lift (place_of_location loc))
  lift-end = end-of-side a.lift add.«data».lift add.lift ms are-known add.is_imported.lift (extended_on (from-lifted add ms are-known).grown imported-later) unshared.lift

  lower-end : (loc : HelperLocation) → IsEndOf t given.cores s add.«data».lower.options loc (route_end a.lower (place_of_location loc))
  lower-end =
      end-of-side a.lower add.«data».lower add.lower (lifted add ms are-known).mentioned (lifted add ms are-known).known add.is_imported.lower (extended_on (from-lowered add ms are-known).grown imported-later) unshared.lower

  same-end : (o p : Options) (m : HelperLocation) (e f : RouteEnd) → IsEndOf t given.cores s o m e → p ≡ o → f ≡ e → IsEndOf t given.cores s p m f
  same-end o p m e f h same is = subst (IsEndOf t given.cores s p m) (sym is) (subst (λ q. IsEndOf t given.cores s q m e) (sym same) h)

  own-key : (x : AskedHelper) (k : HelperKey) → IsKeyOfAdapter t add.«data» u.debug u.concurrency a x k → IsKey t given.cores s x.key k
  own-key x k (AmongParams fuel left c y) = record {
    source = y.source;
    destination = y.destination;
    source_counted = y.source_counted;
    destination_counted = y.destination_counted;
    moves = y.moves.moves;
    from = same-end add.«data».lower.options x.key.src.opts x.key.src.loc (route_end a.lower (place_of_location x.key.src.loc)) k.route.from (lower-end x.key.src.loc) y.from_options y.from_route;
    to = same-end add.«data».lift.options x.key.dst.opts x.key.dst.loc (route_end a.lift (place_of_location x.key.dst.loc)) k.route.to (lift-end x.key.dst.loc) y.to_options y.to_route;
  }
  own-key x k (AmongResults fuel left c y) = record {
    source = y.source;
    destination = y.destination;
    source_counted = y.source_counted;
    destination_counted = y.destination_counted;
    moves = y.moves.moves;
    from = same-end add.«data».lift.options x.key.src.opts x.key.src.loc (route_end a.lift (place_of_location x.key.src.loc)) k.route.from (lift-end x.key.src.loc) y.from_options y.from_route;
    to = same-end add.«data».lower.options x.key.dst.opts x.key.dst.loc (route_end a.lower (place_of_location x.key.dst.loc)) k.route.to (lower-end x.key.dst.loc) y.to_options y.to_route;
  }

  pub own-keys : (xs : List AskedHelper) (ks : List HelperKey) → AllZip (IsKeyOfAdapter t add.«data» u.debug u.concurrency a) xs ks → AllZip (λ (x : AskedHelper) k. IsKey t given.cores s x.key k) xs ks
  own-keys [] [] y = tt
  own-keys [] (k ∷ ks) y = absurd y
  own-keys (x ∷ xs) [] y = absurd y
  own-keys (x ∷ xs) (k ∷ ks) y = (own-key x k y.0, own-keys xs ks y.1)
