-- A module that takes one adapter more.
use Rattle.std.proofs.Common.{◌≡◌, ◌≢◌, ℕ, suc, ◌+◌, ◌<◌, ◌^◌, AllPairs, Bool, true, false, List, [], ◌∷◌, ◌++◌, Some, refl, sym, ap, ◌∙◌, subst, arith, inl, inr, length, slice_get}
use Rattle.std.specs.Prelude.{All, Err, IfOk, IfSome, IsSomeAnd, None, Ok, Option, Result}
use Rattle.fact_plan_types.specs.declared.error.Place.{Place}
use Rattle.fact_plan_types.specs.declared.error.Place.TheVariants.{Adapter as at_adapter}
use Rattle.std.specs.List.{AllZip, flat_map}
use Rattle.std.proofs.lemmas.Option.{get_or_from_slice_get}
use Rattle.fact_entity.specs.declared.id.Id.{Id}
use Rattle.fact_entity.specs.declared.table.TypeFuncs.{TypeFuncs}
use Rattle.fact_wasm.specs.declared.module.WasmModule.{WasmModule}
use Rattle.fact_wasm.specs.Ranges.{InRange}
use Rattle.fact_types.specs.declared.interface.InterfaceType.{InterfaceType}
use Rattle.fact_types.specs.Functions.{HasSignature, HaveShapes}
use Rattle.fact_types.specs.Shapes.{Shape}
use Rattle.fact_types.specs.Tables.{IsLive, IsSound as IsSoundTables, Tables, of_functions}
use Rattle.fact_builder.specs.Builder.{Builder}
use Rattle.fact_builder.proofs.HandleLaws.{tuple_live}
use Rattle.fact_adapter_rules.proofs.BoundLaws.{AreConsistent-covered, Covers-nothing}
use Rattle.fact_adapter_rules.specs.Bindings.{AreConsistent}
use Rattle.fact_plan_types.specs.Faults.{Fault, bad_memory}
use Rattle.fact_plan_types.proofs.ShapeLists.{all-more}
use Rattle.fact_plan_types.proofs.HandleLaws.{there as get-within}
use Rattle.fact_adapter_rules.specs.declared.adapter.Adapter.{Adapter}
use Rattle.fact_adapter_rules.specs.declared.adapter.AdapterOptionsDfg.{AdapterOptionsDfg}
use Rattle.fact_adapter_rules.specs.declared.sides.Candidate.{Candidate}
use Rattle.fact_types.specs.Adapters.{LinkedAdapter, Side}
use Rattle.fact_adapter_rules.specs.AdapterRules.{IsOdd, LinkedHas, uses_of}
use Rattle.fact_adapter_rules.specs.Checked.{AreBound, Checks, IsFirstOf, IsSoundNext}
use Rattle.fact_adapter_rules.specs.Linked.{HasSides, IsLinked, IsSideOf, NamesTypesOf}
use Rattle.fact_types.specs.declared.import.Import.{Import}
use Rattle.fact_assembly.specs.declared.taken.TakenAdapter.{TakenAdapter}
use Rattle.fact_emit.specs.declared.tunables.Tunables.{Tunables}
use Rattle.fact_emit.specs.declared.tunables.WasmFeatures.{WasmFeatures}
use Rattle.fact_assembly.specs.Collected.{AreTaken, Collected, IsStateOf, Extends, IsMade, IsTakenAs, KeepsPromises, given_of, no_tree, result_tuple_of, taken_of}
use Rattle.fact_emit.specs.ImportSection.{mentions}
use Rattle.fact_emit.specs.Imports.{Extended}
use Rattle.fact_emit.proofs.ImportLaws.{grown_get}
use Rattle.fact_emit.proofs.ImportLists.{get-last}
use Rattle.fact_emit.specs.States.{ModuleSoFar, functions_of, module_of, nothing_so_far}
use Rattle.fact_assembly.specs.Sound.{HasValidSides, IsSoundAdapter}
use Rattle.fact_assembly.proofs.Passed.{passed_are_sound}
use Rattle.fact_compound.specs.Entries.{tuple_of_results}
use Rattle.fact_compound.specs.Helpers.{HelpersAreThere}
use Rattle.fact_assembly.specs.Adding.{Adds, helper_functions, own_functions}
use Rattle.fact_assembly.specs.Exports.{exported_as}
use Rattle.fact_assembly.specs.Faithful.{Promised, adapter_tunables}
use Rattle.fact_assembly.specs.Holding.{HasNoSharedMemory, HoldTypesOnce, Holds}
use Rattle.fact_assembly.specs.ImportedData.{CanBeImported}
use Rattle.fact_assembly.specs.Taking.{HasFaultBehind, IsFirstBehind}
use Rattle.fact_assembly.proofs.AlikeLaws.{alike_next}
use Rattle.fact_assembly.proofs.Adding.{exports-more, functions-more, grown-adds, holds-more, holds-nothing}
use Rattle.fact_assembly.proofs.OwnLaws.{known_of}
use Rattle.fact_assembly.proofs.Whole.{whole-promised, whole-range}

-- ---- what a typed adapter names can be looked up

shapes-of : (t : Tables) → IsSoundTables t → (tys : List InterfaceType) → All (IsLive t) tys → (ss : List Shape) × HaveShapes t tys ss
shapes-of t sound [] live = ([], tt)
shapes-of t sound (ty ∷ tys) live =
    let (s, has, deep) = sound.shaped ty (live 0 ty (omega arith)) in
    let (ss, have) = shapes-of t sound tys (λ k d within. live (suc k) d (omega (arith, within))) in
    (s ∷ ss, (has, have))

pub signature-of : (t : Tables) → IsSoundTables t → (i : Id TypeFuncs) → i.number < length t.functions → (params : List Shape) × (results : List Shape) × HasSignature t i params results
signature-of t sound i live =
    let (func, there) = get-within t.functions i.number live in
    let linked = sound.held_live of_functions i.number func live in
    let is_func = get_or_from_slice_get t.functions i.number func func there in
    let (taken, taken_there) = get-within t.tuples func.params.number (subst (λ f. f.params.number < length t.tuples) is_func linked.params) in
    let (given, given_there) = get-within t.tuples func.results.number (subst (λ f. f.results.number < length t.tuples) is_func linked.results) in
    let (params, takes) = shapes-of t sound taken.types (tuple_live t sound _ _ taken_there) in
    let (results, gives) = shapes-of t sound given.types (tuple_live t sound _ _ given_there) in
    (params, results, record { func = func; func_there = there; taken = taken; taken_there = taken_there; takes = takes; given = given; given_there = given_there; gives = gives })

side-of : (b : Builder) → IsSoundTables b.tables → (ty : Id TypeFuncs) (o : AdapterOptionsDfg) → ty.number < length b.tables.functions → o.core_type.number < length b.module_types → (s : Side) × IsSideOf b ty o s
side-of b sound ty o live core =
    let (params, results, signature) = signature-of b.tables sound ty live in
    let (core_type, there) = get-within b.module_types o.core_type.number core in (
      record {
        instance = o.instance.number;
        params = params;
        results = results;
        async_type = signature.func.async_;
        core_type = core_type;
        encoding = o.string_encoding;
        async_side = o.async_;
        memory = o.memory;
        realloc = o.realloc;
        callback = o.callback;
        post_return = o.post_return;
      },
      record {
        signature = signature;
        async_type = refl;
        core_type = there;
        instance = refl;
        encoding = refl;
        async_side = refl;
        memory = refl;
        realloc = refl;
        callback = refl;
        post_return = refl;
      },
    )

pub sides-of : (b : Builder) → IsSoundTables b.tables → (adapter : Adapter) (name : List ℕ) (transparent : Bool) → NamesTypesOf b adapter
    → (a : LinkedAdapter) × HasSides b adapter a × (a.name ≡ name) × (a.transparent ≡ transparent)
sides-of b sound adapter name transparent typed =
    let (lift, lifts) = side-of b sound adapter.lift_ty adapter.lift_options typed.lift typed.lift_core in
    let (lower, lowers) = side-of b sound adapter.lower_ty adapter.lower_options typed.lower typed.lower_core in
    (record { name = name; callee = adapter.func; transparent = transparent; lift = lift; lower = lower }, record { lift = lifts; lower = lowers; callee = refl }, refl, refl)

pub linked-of : (b : Builder) → IsSoundTables b.tables → (c : Candidate) → NamesTypesOf b c.adapter.now → (a : LinkedAdapter) × IsLinked b c a
linked-of b sound c typed =
    let (a, sides, name, transparent) = sides-of b sound c.adapter.now c.name.now c.transparent typed in
    (a, record { sides = sides; name = name; transparent = transparent })

-- ---- the list of those that were taken

pub zip-push : {X Y : Type 0} (R : X → Y → Type 0) (xs : List X) (ys : List Y) (x : X) (y : Y) → AllZip R xs ys → R x y → AllZip R (xs ++ x ∷ []) (ys ++ y ∷ [])
zip-push R [] [] x y h r = (r, tt)
zip-push R [] (z ∷ ys) x y h r = absurd h
zip-push R (w ∷ xs) [] x y h r = absurd h
zip-push R (w ∷ xs) (z ∷ ys) x y h r = (h.0, zip-push R xs ys x y h.1 r)

zip-length : {X Y : Type 0} (R : X → Y → Type 0) (xs : List X) (ys : List Y) → AllZip R xs ys → length xs ≡ length ys
zip-length R [] [] h = refl
zip-length R [] (y ∷ ys) h = absurd h
zip-length R (x ∷ xs) [] h = absurd h
zip-length R (x ∷ xs) (y ∷ ys) h = ap suc (zip-length R xs ys h.1)

zip-pop : {X Y : Type 0} (R : X → Y → Type 0) (xs : List X) (x : X) (zs : List Y) → AllZip R (xs ++ x ∷ []) zs → (ys : List Y) × (y : Y) × (zs ≡ ys ++ y ∷ []) × AllZip R xs ys × R x y
zip-pop R [] x [] h = absurd h
zip-pop R [] x (y ∷ []) h = ([], y, refl, tt, h.0)
zip-pop R [] x (y ∷ z ∷ zs) h = absurd h.1
zip-pop R (w ∷ xs) x [] h = absurd h
zip-pop R (w ∷ xs) x (z ∷ zs) h = let (ys, y, is, all, one) = zip-pop R xs x zs h.1 in (z ∷ ys, y, ap (λ l. z ∷ l) is, (h.0, all), one)

pub is-taken : (b : Builder) (c : Candidate) (a : LinkedAdapter) → IsLinked b c a → IsTakenAs b (taken_of c) a
is-taken b c a h = record { sides = h.sides; name = h.name; transparent = h.transparent }

pub is-linked : (b : Builder) (c : Candidate) (a : LinkedAdapter) → IsTakenAs b (taken_of c) a → IsLinked b c a
is-linked b c a h = record { sides = h.sides; name = h.name; transparent = h.transparent }

sound-push : (adapters : List LinkedAdapter) (a : LinkedAdapter) → All IsSoundAdapter adapters → IsSoundAdapter a → All IsSoundAdapter (adapters ++ a ∷ [])
sound-push adapters a h s = all-more IsSoundAdapter adapters (adapters ++ a ∷ []) a refl h s

-- the number of the result tuple of the adapter at a place
tuple-at : (c : Collected) (place : ℕ) (t : TakenAdapter) → slice_get c.taken place ≡ Some t → result_tuple_of c place ≡ tuple_of_results c.builder.tables t.adapter.lift_ty
tuple-at c place t at = ap (λ o. elim o as (λ (x : Option TakenAdapter). ℕ) [ None ↦ 0 | Some t ↦ tuple_of_results c.builder.tables t.adapter.lift_ty ]) at

-- ---- one adapter more

module _ (old : Collected) (checks checks' : Checks) (s s' : ModuleSoFar) (candidate : Candidate) (made : IsMade old checks s) (whole : old.whole ≡ true) (sound : IsSoundTables old.builder.tables)
    (typed : NamesTypesOf old.builder candidate.adapter.now) (valid : (a : LinkedAdapter) → IsLinked old.builder candidate a → HasValidSides a) (checked : IsSoundNext checks checks' candidate) where
  linked : LinkedAdapter
  linked = (linked-of old.builder sound candidate typed).0

  some : List LinkedAdapter
  some = made.some.0

  under : (a : LinkedAdapter) → IsLinked old.builder candidate a → IsLinked checks.builder candidate a
  under a h = subst (λ (b : Builder). IsLinked b candidate a) (sym made.builder) h

  -- behind those that were taken it has no fault, and is bound
  pub sound-behind : (before : List LinkedAdapter) (a : LinkedAdapter) → AreTaken old before → IsLinked old.builder candidate a → (f : Fault) → HasFaultBehind old before a f → ⊥
  sound-behind before a taken h f has =
      (checked before a (made.covers whole before taken).checked (under a h)).0 f (subst (λ on. LinkedHas on before a f) (sym made.concurrency) has)

  bound-behind : (before : List LinkedAdapter) (a : LinkedAdapter) → AreTaken old before → IsLinked old.builder candidate a → AreBound checks'.bound (before ++ a ∷ [])
  bound-behind before a taken h = (checked before a (made.covers whole before taken).checked (under a h)).1

  -- its types are valid, and so it is sound
  sound-here : (before : List LinkedAdapter) (a : LinkedAdapter) → AreTaken old before → IsLinked old.builder candidate a → IsSoundAdapter a
  sound-here before a taken h =
      passed_are_sound old.builder candidate.adapter.now old.tunables.concurrency_support before a (record { sides = h.sides; types = valid a h; faultless = sound-behind before a taken h })

  -- and none of its memories is shared
  unshared-here : (before : List LinkedAdapter) (a : LinkedAdapter) → AreTaken old before → IsLinked old.builder candidate a → HasNoSharedMemory a
  unshared-here before a taken h = record {
    lift = λ m is. by m.shared refl (λ shared. sound-behind before a taken h bad_memory (inl (inr (inl (inr (subst (λ o. IsSomeAnd o IsOdd) (sym is) (inl shared)))))));
    lower = λ m is. by m.shared refl (λ shared. sound-behind before a taken h bad_memory (inl (inr (inr (inr (subst (λ o. IsSomeAnd o IsOdd) (sym is) (inl shared)))))));
  }
    where
      by : (b : Bool) → {c : Bool} → c ≡ b → (c ≡ true → ⊥) → c ≡ false
      by false is none = is
      by true is none = absurd (none is)

  consistent-here : (before : List LinkedAdapter) (a : LinkedAdapter) → AreTaken old before → IsLinked old.builder candidate a → AreConsistent (flat_map uses_of (before ++ a ∷ []))
  consistent-here before a taken h = AreConsistent-covered _ _ (bound-behind before a taken h).uses

  -- what it names can be imported behind what is imported so far
  pub importable-here : CanBeImported old.builder candidate s
  unfolding linked some
  importable-here =
      let h = (linked-of old.builder sound candidate typed).1 in
      record {
        adapter = linked;
        is = h;
        before = mentions some;
        known = known_of (made.covers whole some made.some.1).holds.lists;
        alike = alike_next some linked (consistent-here some linked made.some.1 h);
      }

  -- with one adapter more its tree is extended
  pub extends-more : (before now : Collected) → before.tree ≡ module_of s → before.imports ≡ s.imports → now.tree ≡ module_of s' → now.imports ≡ s'.imports
      → ((a : LinkedAdapter) → IsLinked old.builder candidate a → Adds old.builder.tables (adapter_tunables old.tunables old.features) (given_of old.builder old.tunables) s s' a (tuple_of_results old.builder.tables candidate.adapter.now.lift_ty)) → Extends before now
  unfolding linked some
  extends-more before now tree imports tree' imports' adds =
      let h = (linked-of old.builder sound candidate typed).1 in
      let add = adds linked h in
      let consistent = consistent-here some linked made.some.1 h in
      let holds = (made.covers whole some made.some.1).holds in
      let t = old.builder.tables in
      let u = adapter_tunables old.tunables old.features in
      let given = given_of old.builder old.tunables in
      let bound = bound-behind some linked made.some.1 h in
      let g : Extended s s' = grown-adds t u given s s' some linked (result_tuple_of old) consistent holds add in
      record {
        types = record { more = g.types.more; is = ap (λ (m : WasmModule). m.types) tree' ∙ g.types.is ∙ ap (λ (m : WasmModule). m.types ++ g.types.more) (sym tree) };
        section = record { more = g.section.more; is = ap (λ (m : WasmModule). m.imports) tree' ∙ g.section.is ∙ ap (λ (m : WasmModule). m.imports ++ g.section.more) (sym tree) };
        imports = record { more = g.imports.more; is = imports' ∙ g.imports.is ∙ ap (λ is. is ++ g.imports.more) (sym imports) };
        functions = record {
          more = own_functions add.compiled ++ helper_functions add;
          is = ap (λ (m : WasmModule). m.funcs) tree' ∙ functions-more t u given s s' some linked (result_tuple_of old) consistent holds add ∙ ap (λ (m : WasmModule). m.funcs ++ (own_functions add.compiled ++ helper_functions add)) (sym tree);
        };
        exports = λ name f e.
            ap (λ (m : WasmModule). exported_as name m.exports) tree'
            ∙ exports-more t u given s s' some linked (result_tuple_of old) consistent holds add (subst (AllPairs (λ x y. x ≢ y)) bound.names bound.distinct) name f (ap (λ (m : WasmModule). exported_as name m.exports) (sym tree) ∙ e);
      }

  -- the numbers of result tuples of the adapters before stay
  tuples-kept : (new : Collected) → new.builder ≡ old.builder → new.taken ≡ old.taken ++ taken_of candidate ∷ [] → (before : List LinkedAdapter) → AreTaken old before → (k : ℕ) → k < length before → result_tuple_of new k ≡ result_tuple_of old k
  tuples-kept new builder taken before those k within =
      let (t, at) = get-within old.taken k (omega (arith, within, zip-length (IsTakenAs old.builder) old.taken before those)) in
      let still : slice_get new.taken k ≡ Some t = grown_get (record { more = taken_of candidate ∷ []; is = taken }) k t at in
      tuple-at new k t still ∙ ap (λ (b : Builder). tuple_of_results b.tables t.adapter.lift_ty) builder ∙ sym (tuple-at old k t at)

  -- and that of the last one is its own
  tuple-last : (new : Collected) → new.builder ≡ old.builder → new.taken ≡ old.taken ++ taken_of candidate ∷ [] → (before : List LinkedAdapter) → AreTaken old before
      → result_tuple_of new (length before) ≡ tuple_of_results old.builder.tables candidate.adapter.now.lift_ty
  tuple-last new builder taken before those =
      let there : slice_get new.taken (length before) ≡ Some (taken_of candidate) =
      ap (slice_get new.taken) (sym (zip-length (IsTakenAs old.builder) old.taken before those)) ∙ ap (λ ts. slice_get ts (length old.taken)) taken ∙ get-last old.taken (taken_of candidate) in
      tuple-at new (length before) (taken_of candidate) there ∙ ap (λ (b : Builder). tuple_of_results b.tables candidate.adapter.now.lift_ty) builder

  -- the module of all of them
  pub made-more : (new : Collected) → new.builder ≡ old.builder → new.tunables ≡ old.tunables → new.features ≡ old.features → new.taken ≡ old.taken ++ taken_of candidate ∷ [] → checks'.builder ≡ checks.builder → checks'.concurrency ≡ checks.concurrency
      → ((a : LinkedAdapter) → IsLinked old.builder candidate a → Adds old.builder.tables (adapter_tunables old.tunables old.features) (given_of old.builder old.tunables) s s' a (tuple_of_results old.builder.tables candidate.adapter.now.lift_ty))
      → IsMade new checks' s'
  unfolding linked some
  made-more new builder tunables features taken same_builder same_concurrency adds = record {
    builder = same_builder ∙ made.builder ∙ sym builder;
    concurrency = same_concurrency ∙ made.concurrency ∙ ap (λ t. t.concurrency_support) (sym tunables);
    once = subst (λ (b : Builder). HoldTypesOnce b.tables b.module_types) (sym builder) made.once;
    some = (some ++ linked ∷ [], all some linked made.some.1 (linked-of old.builder sound candidate typed).1);
    covers = λ _ adapters are_taken.
        let (before, a, is, those, this) = zip-pop (IsTakenAs old.builder) old.taken (taken_of candidate) adapters (rw (builder, taken) at are_taken) in
        let h = is-linked old.builder candidate a this in
        let covers = made.covers whole before those in
        let bound = bound-behind before a those h in
        let sound_all = sound-push before a covers.sound (sound-here before a those h) in
        let holds = holds-more old.builder.tables (adapter_tunables old.tunables old.features) (given_of old.builder old.tunables) s s' before a (result_tuple_of old) (consistent-here before a those h) covers.holds (adds a h) (sound-here before a those h) (result_tuple_of new)
        (tuples-kept new builder taken before those) (tuple-last new builder taken before those) in
        subst (IsStateOf new checks' s') (sym is) (record {
          checked = bound;
          holds = subst (λ (b : Builder). Holds b.tables (adapter_tunables new.tunables new.features) (given_of b new.tunables) s' (before ++ a ∷ []) (result_tuple_of new)) (sym builder)
              (subst (λ (v : Tunables). Holds old.builder.tables (adapter_tunables v new.features) (given_of old.builder v) s' (before ++ a ∷ []) (result_tuple_of new)) (sym tunables)
              (subst (λ (f : WasmFeatures). Holds old.builder.tables (adapter_tunables old.tunables f) (given_of old.builder old.tunables) s' (before ++ a ∷ []) (result_tuple_of new)) (sym features) holds));
          sound = sound_all;
          unshared = all-more HasNoSharedMemory before (before ++ a ∷ []) a refl covers.unshared (unshared-here before a those h);
        });
  }
    where
      all : (before : List LinkedAdapter) (a : LinkedAdapter) → AreTaken old before → IsLinked old.builder candidate a → AreTaken new (before ++ a ∷ [])
      all before a those h = rw (builder, taken) (zip-push (IsTakenAs old.builder) old.taken before (taken_of candidate) a those (is-taken old.builder candidate a h))

-- each helper has its function
pub helpers-here : (old : Collected) (checks : Checks) (s : ModuleSoFar) → IsMade old checks s → old.whole ≡ true → HelpersAreThere old.builder.tables old.tunables.debug_adapter_modules old.tunables.concurrency_support old.tunables.fuel s
helpers-here old checks s made whole = (made.covers whole made.some.0 made.some.1).holds.helpers

-- the first fault that the checks tell
pub first-behind : (old : Collected) (checks : Checks) (s : ModuleSoFar) (candidate : Candidate) (f : Fault) → IsMade old checks s → old.whole ≡ true → IsFirstOf checks candidate f → IsFirstBehind old candidate f
first-behind old checks s candidate f made whole first before a taken h =
    let under = subst (λ (b : Builder). IsLinked b candidate a) (sym made.builder) h in
    let told = first before a (made.covers whole before taken).checked under in
    (subst (λ on. LinkedHas on before a f) made.concurrency told.0, λ g less has. told.1 g less (subst (λ on. LinkedHas on before a g) (sym made.concurrency) has))

pub refused-behind : (old now : Collected) (checks : Checks) (s : ModuleSoFar) (candidate : Candidate) (number : ℕ) (o : Option (Fault × Place)) → old ≡ now → IsMade old checks s → now.whole ≡ true
    → IfSome o (λ x. IsFirstOf checks candidate x.0 × (x.1 ≡ at_adapter number)) → IfSome o (λ x. (old ≡ now) × IsFirstBehind now candidate x.0 × (x.1 ≡ at_adapter number))
refused-behind old now checks s candidate number None same made whole h = tt
refused-behind old now checks s candidate number (Some x) same made whole h =
    (same, subst (λ c. IsFirstBehind c candidate x.0) same (first-behind old checks s candidate x.0 made (ap (λ c. c.whole) same ∙ whole) h.0), h.1)

-- none was taken
module _ (b : Builder) (t : Tunables) (f : WasmFeatures) where
  no_collected : Collected
  no_collected = record { builder = b; tunables = t; features = f; taken = []; tree = no_tree; imports = []; whole = true }

  no_checks : Checks
  no_checks = record { builder = b; concurrency = t.concurrency_support; bound = record { memories = []; reallocs = []; uses = []; names = [] } }

  covers-none : (adapters : List LinkedAdapter) → AllZip (IsTakenAs b) [] adapters → IsStateOf no_collected no_checks nothing_so_far adapters
  unfolding no_collected no_checks
  covers-none [] h = record {
    checked = record { memories = Covers-nothing; reallocs = Covers-nothing; uses = Covers-nothing; names = refl; distinct = λ i j d below within. absurd (omega arith) };
    holds = holds-nothing b.tables (adapter_tunables t f) (given_of b t) (result_tuple_of no_collected);
    sound = λ k d within. absurd (omega (arith, within));
    unshared = λ k d within. absurd (omega (arith, within));
  }
  covers-none (a ∷ adapters) h = absurd h

  pub made-first : HoldTypesOnce b.tables b.module_types → (taken : List TakenAdapter) (tree : WasmModule) (imports : List Import) (whole : Bool) (checks : Checks) (s : ModuleSoFar) → taken ≡ [] → s ≡ nothing_so_far
      → checks ≡ record { builder = b; concurrency = t.concurrency_support; bound = record { memories = []; reallocs = []; uses = []; names = [] } }
      → IsMade (record { builder = b; tunables = t; features = f; taken = taken; tree = tree; imports = imports; whole = whole }) checks s
  unfolding no_collected no_checks
  made-first once taken tree imports whole checks s none nothing first = rw (none, nothing, first) (record {
    builder = refl;
    concurrency = refl;
    once = once;
    some = ([], tt);
    covers = λ _ adapters are. let h = covers-none adapters are in record { checked = h.checked; holds = h.holds; sound = h.sound; unshared = h.unshared };
  })

-- ---- its tree

-- it keeps its promise for those that it took
pub promised-of : (c : Collected) (checks : Checks) (s : ModuleSoFar) → IsMade c checks s → c.tree ≡ module_of s → c.imports ≡ s.imports → c.whole ≡ true
    → (adapters : List LinkedAdapter) → AreTaken c adapters → Promised c.tree c.imports c.tunables c.features adapters (result_tuple_of c)
promised-of c checks s made tree imports whole adapters taken =
    let covers = made.covers whole adapters taken in
    rw (tree, imports) (whole-promised c.builder.tables c.tunables c.features s adapters (result_tuple_of c) c.builder.module_types covers.holds covers.sound
    (AreConsistent-covered _ _ covers.checked.uses) (subst (AllPairs (λ x y. x ≢ y)) covers.checked.names covers.checked.distinct) made.once covers.unshared)

pub keeps-promises : (c : Collected) (checks : Checks) (s : ModuleSoFar) → IsMade c checks s → c.tree ≡ module_of s → c.imports ≡ s.imports → c.whole ≡ true → length (functions_of s) + length s.functions < 2 ^ 32 → KeepsPromises c
keeps-promises c checks s made tree imports whole numbered =
    let adapters = made.some.0 in
    let covers = made.covers whole adapters made.some.1 in
    record {
      in_range = subst InRange (sym tree) (whole-range c.builder.tables c.tunables c.features s adapters (result_tuple_of c) c.builder.module_types covers.holds covers.sound
          (AreConsistent-covered _ _ covers.checked.uses) (subst (AllPairs (λ x y. x ≢ y)) covers.checked.names covers.checked.distinct) numbered);
      adapters = adapters;
      taken = made.some.1;
      promised = promised-of c checks s made tree imports whole;
    }

-- what holds of a tree and of imports holds of the parts that were handed out, where there was memory for them
pub of-parts : {E : Type 0} {tree : WasmModule} {imports : List Import} (P : WasmModule × List Import → Type 0) (r : Result (WasmModule × List Import) E) → IfOk r (λ parts. (parts.0 ≡ tree) × (parts.1 ≡ imports))
    → ((m : WasmModule) (is : List Import) → m ≡ tree → is ≡ imports → P (m, is)) → IfOk r P
of-parts P (Ok parts) h of = of parts.0 parts.1 h.0 h.1
of-parts P (Err e) h of = tt
