-- The keys of the helpers that the code of adapters asks for are those of [Outlining]: those of its tuples, of whole functions, and of helpers.
use Rattle.std.proofs.Common.{◌≡◌, ℕ, suc, ◌-◌, ◌≤◌, Bool, true, false, List, [], ◌∷◌, ◌++◌, Option, Some, None, refl, sym, ap, ◌∙◌, subst, arith, map, nat_eq, nat_lt}
use Rattle.std.specs.Prelude.{◌&&◌, not, if◌then◌else◌, is_some}
use Rattle.std.specs.List.{AllZip, Contains, list_all}
use Rattle.std.specs.Str.{bytes_eq}
use Rattle.std.proofs.lemmas.Bool.{le-ltb}
use Rattle.std.proofs.lemmas.List.Elements.{Contains-append_left, Contains-append_right, Contains-push}
use Rattle.fact_machine.proofs.Tests.{first_of, second_of}
use Rattle.fact_types.specs.Adapters.{LinkedAdapter}
use Rattle.fact_types.specs.Agrees.{first_of as first_there, named}
use Rattle.fact_types.specs.Functions.{HasSignature}
use Rattle.fact_types.specs.Shapes.{Members, Shape, bare, no_members, s_plain, typed}
use Rattle.fact_types.specs.Signatures.{flat_values, lift_results_limit, lower_limit}
use Rattle.fact_types.specs.Tables.{Tables}
use Rattle.fact_types.specs.Tuples.{members_from, tuple_members, tuple_of}
use Rattle.fact_types.specs.declared.interface.InterfaceType.{InterfaceType}
use Rattle.fact_types.specs.declared.interface.InterfaceType.TheVariants as ty
use Rattle.fact_actions.specs.Adapters.{AdapterTunables, lowered_flats}
use Rattle.fact_actions.specs.Outlining.{HelperKey, Route, Translated, asked_before, cost, helper_asks, params_route, place_if_flat, results_route, translates, translates_fields, translates_if, translates_none, translates_params, translates_results}
use Rattle.fact_code_laws.specs.Places.{From, Slot, To}
use Rattle.fact_emit.specs.Asked.{AskedHelper}
use Rattle.fact_emit.specs.declared.helpers.HelperLocation.{HelperLocation}
use Rattle.fact_emit.specs.declared.helpers.HelperLocation.TheVariants as location
use Rattle.fact_emit.specs.declared.places.LinearMemory.{LinearMemory}
use Rattle.fact_emit.specs.declared.places.Sides.{Sides}
use Rattle.fact_kinds.specs.Translations.{AreTranslated, IsFuel, IsKeyOf, TranslatesAs, place_of_location, place_of_source, place_of_target, translates_in_place, translates_inside}
use Rattle.fact_kinds.specs.declared.fuel.Fuel.{Fuel}
use Rattle.fact_kinds.proofs.Translating.{full_in_place}
use Rattle.fact_compound.specs.Described.{DescribesTransfers, linear_of}
use Rattle.fact_compound.specs.Helpers.{is_on_stack}
use Rattle.fact_compound.specs.Keys.{AmongParams, AmongResults, IsKeyOfAdapter, TranslatesPart, TranslatesSync, part_asks, sync_asks}
use Rattle.fact_compound.specs.Passed.{TranslatesParams, TranslatesResults, params_sides, results_sides}
use Rattle.fact_steps.specs.PassedOn.{ArePassedOn, is_passed_on}
use Rattle.fact_compound.specs.Passing.{tuple_from, tuple_to}
use Rattle.fact_compound.specs.Translated.{IsFullFuel, TranslatesTuple, place_of_flat}
use Rattle.fact_compound.specs.declared.adapters.AdapterData.{AdapterData}
use Rattle.fact_compound.specs.declared.asyncs.AsyncPart.{AsyncPart}
use Rattle.fact_compound.specs.declared.asyncs.AsyncPart.TheVariants as part

-- ---- tuples

flat_source : (m : LinearMemory) (flat : Bool) (slots : List Slot) → place_of_source (tuple_from m flat slots) ≡ place_of_flat flat
flat_source m true slots = refl
flat_source m false slots = refl

flat_target : (m : LinearMemory) (flat : Bool) (results args : List Slot) → place_of_target (tuple_to m flat results args) ≡ place_of_flat flat
flat_target m true results args = refl
flat_target m false results args = refl

-- What code between such places asks for is told by whether the values are flat.
pub translates_tuple : {t : Tables} {sides : Sides} {src : From} {dst : To} {before after : Fuel} {asks : List AskedHelper} (m n : LinearMemory) (given results args : List Slot) {flat flat' : Bool} (f g : Bool) (from to : List Shape)
    → src ≡ tuple_from m flat given → dst ≡ tuple_to n flat' results args → flat ≡ f → flat' ≡ g → TranslatesAs t sides src dst before after asks (λ i r. translates_inside i r (tuple_of from) (tuple_of to)) → TranslatesTuple t sides f g from to before after asks
translates_tuple m n given results args {flat} {flat'} f g from to source target f_is g_is x = record {
  initial = x.initial;
  less = x.less;
  along = λ r route fuel. x.along r (record {
    from = route.from_place ∙ sym (ap place_of_source source ∙ flat_source m flat given ∙ ap place_of_flat f_is);
    to = route.to_place ∙ sym (ap place_of_target target ∙ flat_target n flat' results args ∙ ap place_of_flat g_is);
  }) fuel;
}

-- ---- parameters that are handed on as they are

-- numbers cost nothing
cheap : (x : InterfaceType) → is_passed_on x ≡ true → cost (s_plain x) ≡ 0
cheap ty.S32 h = refl
cheap ty.U32 h = refl
cheap ty.S64 h = refl
cheap ty.U64 h = refl
cheap ty.Float32 h = refl
cheap ty.Float64 h = refl
cheap _ h = cc

-- members whose values are such numbers
abbrev AreNumbers : Members → Type 0
AreNumbers no_members = Unit {0}
AreNumbers (bare x ms) = AreNumbers ms
AreNumbers (typed x s ms) = ((y : InterfaceType) × (is_passed_on y ≡ true) × (s ≡ s_plain y)) × AreNumbers ms

numbers_from : (k : ℕ) (types : List InterfaceType) → list_all is_passed_on types ≡ true → AreNumbers (members_from k (map (λ t. s_plain t) types))
numbers_from k [] h = tt
numbers_from k (x ∷ xs) h = ((x, first_of (is_passed_on x) (list_all is_passed_on xs) h, refl), numbers_from (suc k) xs (second_of (is_passed_on x) (list_all is_passed_on xs) h))

-- nothing is asked for, and nothing is taken
none_taken : (n : ℕ) → record { left = n - 0; asked = [] } ≡ translates_none n
none_taken n = let same : n - 0 ≡ n = omega arith in ap (λ m. record { left = m; asked = [] }) same

found_number : (x : List ℕ) (ms : Members) → AreNumbers ms → (s : Shape) → named x ms ≡ Some s → cost s ≡ 0
found_number x no_members h s e = cc
found_number x (bare n ms) h s e = found_number x ms h s e
found_number x (typed n m ms) h s e = go (bytes_eq n x) e (λ e'. found_number x ms h.1 s e')
  where
    go : (b : Bool) → first_there b (Some m) (named x ms) ≡ Some s → (named x ms ≡ Some s → cost s ≡ 0) → cost s ≡ 0
    go true e later = let same : m ≡ s = cc in ap cost (sym same ∙ h.0.2) ∙ cheap h.0.0 h.0.1
    go false e later = later e

translates_number : (i : ℕ) (r : Route) (s : Shape) (y : InterfaceType) (n : ℕ) → cost s ≡ 0 → translates i r s (s_plain y) n ≡ translates_none n
unfolding translates
translates_number i r s y n free =
    let key : HelperKey = record { source = s; destination = s_plain y; route = r } in
    let asks : Translated = record { left = n; asked = key ∷ [] } in
    (λ k. if nat_lt n (free k) && not (nat_eq n i) then asks else translates_none (n - free k))
    ∙ ap (λ b. if b && not (nat_eq n i) then asks else translates_none (n - 0)) (le-ltb n 0 (omega arith)) ∙ none_taken n

numbers_translate : (i : ℕ) (r : Route) (ms : Members) → AreNumbers ms → (ns : Members) → AreNumbers ns → (n : ℕ) → translates_fields i r ms ns n ≡ translates_none n
unfolding translates_fields
numbers_translate i r ms g no_members h n = refl
numbers_translate i r ms g (bare x ns) h n = numbers_translate i r ms g ns h n
numbers_translate i r ms g (typed x u ns) h n =
    let one : translates_if (named x ms) (λ s m. translates i r s u m) n ≡ translates_none n = by (named x ms) refl in
    (λ k. asked_before (one k).asked (translates_fields i r ms ns (one k).left)) ∙ numbers_translate i r ms g ns h.1 n
  where
    by : (o : Option Shape) → named x ms ≡ o → translates_if o (λ s m. translates i r s u m) n ≡ translates_none n
    by None e = refl
    by (Some s) e = ap (λ w. translates i r s w n) h.0.2 ∙ translates_number i r s h.0.0 n (found_number x ms g s e)

passed_none : {ps qs : List Shape} → ArePassedOn ps qs → (i : ℕ) (r : Route) (n : ℕ) → translates_fields i r (tuple_members ps) (tuple_members qs) n ≡ translates_none n
passed_none p i r n =
    let members : Members = tuple_members (map (λ t. s_plain t) p.types) in
    let numbers : AreNumbers members = numbers_from 0 p.types p.all in
    (λ k. translates_fields i r (tuple_members (p.from_are k)) (tuple_members (p.to_are k)) n) ∙ numbers_translate i r members numbers members numbers n

-- ---- routes

place_some : {T : Type 0} (o : Option T) → place_if_flat o ≡ place_of_flat (is_some o)
place_some None = refl
place_some (Some x) = refl

pub full_fuel : {f : Fuel} → IsFullFuel f → IsFuel f
full_fuel x = record { within = omega (arith, x.full); small = x.small }

module _ {t : Tables} {d : AdapterData} {debug : Bool} {u : AdapterTunables} {a : LinkedAdapter} (concurrency : Bool) (h : DescribesTransfers t d debug u a) where
  params_along : (before after : Fuel) (asks : List AskedHelper) → TranslatesParams t d debug concurrency before after asks → IsFuel before
      → AreTranslated t (params_sides d debug concurrency) (params_route a) asks after.left (translates_params before.initial a before.left)
  params_along before after asks x fuel =
      (x a.lower.params a.lower.results a.lift.params a.lift.results h.lower.signature h.lift.signature h.params).along (params_route a) (record {
        from_place = (λ k. place_if_flat (flat_values (h.lower.wide k) (lower_limit (h.lower.mark k)) a.lower.params)) ∙ place_some (flat_values (linear_of d.lower).memory64 (lower_limit d.lower.options.async_) a.lower.params);
        to_place = (λ k. place_if_flat (flat_values (h.lift.wide k) 16 a.lift.params)) ∙ place_some (flat_values (linear_of d.lift).memory64 16 a.lift.params);
      }) fuel

  results_along : (before after : Fuel) (asks : List AskedHelper) → TranslatesResults t d debug concurrency before after asks → IsFuel before
      → AreTranslated t (results_sides d debug concurrency) (results_route a) asks after.left (translates_results before.initial a before.left)
  results_along before after asks x fuel =
      (x a.lower.params a.lower.results a.lift.params a.lift.results h.lower.signature h.lift.signature h.results).along (results_route a) (record {
        from_place = (λ k. place_if_flat (flat_values (h.lift.wide k) (lift_results_limit (h.lift.mark k)) a.lift.results)) ∙ place_some (flat_values (linear_of d.lift).memory64 (lift_results_limit d.lift.options.async_) a.lift.results);
        to_place = (λ k. place_if_flat (lowered_flats (h.lower.mark k) (h.lower.wide k) a.lower.results)) ∙ place_some (lowered_flats d.lower.options.async_ (linear_of d.lower).memory64 a.lower.results);
      }) fuel

-- ---- whole functions

abbrev AllInside : (few all : List HelperKey) → Type 0
AllInside few all = (k : HelperKey) → Contains few k → Contains all k

first_inside : (k : HelperKey) (ks : List HelperKey) → Contains (k ∷ ks) k
first_inside k ks = Contains-append_left (k ∷ []) ks k (Contains-push [] k)

module _ (t : Tables) (d : AdapterData) (debug concurrency : Bool) (a : LinkedAdapter) where
  params_keys : (fuel left : ℕ) (asks : List AskedHelper) (keys : List HelperKey) → AllInside keys (translates_params fuel a left).asked → AllZip (IsKeyOf t (params_sides d debug concurrency) (params_route a)) asks keys
      → AllZip (IsKeyOfAdapter t d debug concurrency a) asks keys
  params_keys fuel left [] [] c h = tt
  params_keys fuel left [] (k ∷ ks) c h = absurd h
  params_keys fuel left (x ∷ xs) [] c h = absurd h
  params_keys fuel left (x ∷ xs) (k ∷ ks) c h = (AmongParams fuel left (c k (first_inside k ks)) h.0, params_keys fuel left xs ks (λ l i. c l (Contains-append_right (k ∷ []) ks l i)) h.1)

  results_keys : (fuel left : ℕ) (asks : List AskedHelper) (keys : List HelperKey) → AllInside keys (translates_results fuel a left).asked → AllZip (IsKeyOf t (results_sides d debug concurrency) (results_route a)) asks keys
      → AllZip (IsKeyOfAdapter t d debug concurrency a) asks keys
  results_keys fuel left [] [] c h = tt
  results_keys fuel left [] (k ∷ ks) c h = absurd h
  results_keys fuel left (x ∷ xs) [] c h = absurd h
  results_keys fuel left (x ∷ xs) (k ∷ ks) c h = (AmongResults fuel left (c k (first_inside k ks)) h.0, results_keys fuel left xs ks (λ l i. c l (Contains-append_right (k ∷ []) ks l i)) h.1)

  keys_behind : (xs ys : List AskedHelper) (us vs : List HelperKey) → AllZip (IsKeyOfAdapter t d debug concurrency a) xs us → AllZip (IsKeyOfAdapter t d debug concurrency a) ys vs → AllZip (IsKeyOfAdapter t d debug concurrency a) (xs ++ ys) (us ++ vs)
  keys_behind [] ys [] vs h k = k
  keys_behind [] ys (u ∷ us) vs h k = absurd h
  keys_behind (x ∷ xs) ys [] vs h k = absurd h
  keys_behind (x ∷ xs) ys (u ∷ us) vs h k = (h.0, keys_behind xs ys us vs h.1 k)

-- what the first part of a sync adapter asks for, and leaves
record FirstKeys (t : Tables) (d : AdapterData) (debug concurrency : Bool) (a : LinkedAdapter) (before between : Fuel) (first : List AskedHelper) : Type 0 where
  left : (translates_params before.initial a before.initial).left ≡ between.left
  initial : between.initial ≡ before.initial
  less : between.left ≤ before.left
  keys : AllZip (IsKeyOf t (params_sides d debug concurrency) (params_route a)) first (translates_params before.initial a before.initial).asked

pub sync_keys : {t : Tables} {d : AdapterData} {debug concurrency passed : Bool} {before after : Fuel} {asks : List AskedHelper} → TranslatesSync t d debug concurrency passed before after asks
    → (passed ≡ true → (ps rs qs ss : List Shape) → HasSignature t d.lower.ty ps rs → HasSignature t d.lift.ty qs ss → ArePassedOn ps qs) → IsFullFuel before → {u : AdapterTunables} {a : LinkedAdapter} → DescribesTransfers t d debug u a
    → AllZip (IsKeyOfAdapter t d debug concurrency a) asks (sync_asks before.initial a)
sync_keys {t} {d} {debug} {concurrency} {passed} {before} {after} {asks} x are full {u} {a} h =
    let first : FirstKeys t d debug concurrency a before x.between x.first = by passed refl in
    let still : IsFuel x.between = record { within = omega (arith, first.initial, first.less, full.full); small = omega (arith, first.initial, full.small) } in
    let rest = results_along concurrency h x.between after x.second x.results still in
    let at : translates_results x.between.initial a x.between.left ≡ translates_results before.initial a (translates_params before.initial a before.initial).left = λ k. translates_results (first.initial k) a (sym first.left k) in
    let second : AllZip (IsKeyOf t (results_sides d debug concurrency) (results_route a)) x.second (translates_results before.initial a (translates_params before.initial a before.initial).left).asked =
    subst (λ (v : Translated). AllZip (IsKeyOf t (results_sides d debug concurrency) (results_route a)) x.second v.asked) at rest.keys in
    subst (λ xs. AllZip (IsKeyOfAdapter t d debug concurrency a) xs (sync_asks before.initial a)) (sym x.is)
    (keys_behind t d debug concurrency a x.first x.second (translates_params before.initial a before.initial).asked (translates_results before.initial a (translates_params before.initial a before.initial).left).asked
    (params_keys t d debug concurrency a before.initial before.initial x.first (translates_params before.initial a before.initial).asked (λ k c. c) first.keys)
    (results_keys t d debug concurrency a before.initial (translates_params before.initial a before.initial).left x.second (translates_results before.initial a (translates_params before.initial a before.initial).left).asked (λ k c. c) second))
  where
    by : (b : Bool) → passed ≡ b → FirstKeys t d debug concurrency a before x.between x.first
    by false e =
        let there = x.params e a.lower.params a.lower.results a.lift.params a.lift.results h.lower.signature h.lift.signature h.params in
        let first = params_along concurrency h before x.between x.first (x.params e) (full_fuel full) in
        let all : translates_params before.initial a before.left ≡ translates_params before.initial a before.initial = ap (λ n. translates_params before.initial a n) full.full in
        record {
          left = ap (λ (v : Translated). v.left) (sym all) ∙ first.left;
          initial = there.initial;
          less = there.less;
          keys = subst (λ (v : Translated). AllZip (IsKeyOf t (params_sides d debug concurrency) (params_route a)) x.first v.asked) all first.keys;
        }
    by true e =
        let none = passed_none (are e a.lower.params a.lower.results a.lift.params a.lift.results h.lower.signature h.lift.signature) before.initial (params_route a) before.initial in
        let kept : x.between ≡ before = (x.none e).1 in
        record {
          left = ap (λ (v : Translated). v.left) none ∙ sym full.full ∙ ap (λ (f : Fuel). f.left) (sym kept);
          initial = ap (λ (f : Fuel). f.initial) kept;
          less = omega (arith, ap (λ (f : Fuel). f.left) kept);
          keys = subst (λ xs. AllZip (IsKeyOf t (params_sides d debug concurrency) (params_route a)) xs (translates_params before.initial a before.initial).asked) (sym (x.none e).0)
              (subst (λ (v : Translated). AllZip (IsKeyOf t (params_sides d debug concurrency) (params_route a)) [] v.asked) (sym none) tt);
        }

pub part_keys : {t : Tables} {d : AdapterData} {debug : Bool} (concurrency : Bool) (x : AsyncPart) {before : Fuel} (after : Fuel) (asks : List AskedHelper) → TranslatesPart x t d debug concurrency before after asks → IsFullFuel before → {u : AdapterTunables} {a : LinkedAdapter} → DescribesTransfers t d debug u a
    → AllZip (IsKeyOfAdapter t d debug concurrency a) asks (part_asks x before.initial a)
part_keys {t} {d} {debug} concurrency part.Start {before} after asks x full {a = a} h =
    let there = params_along concurrency h before after asks x (full_fuel full) in
    params_keys t d debug concurrency a before.initial before.initial asks (translates_params before.initial a before.initial).asked (λ k c. c)
    (subst (λ n. AllZip (IsKeyOf t (params_sides d debug concurrency) (params_route a)) asks (translates_params before.initial a n).asked) full.full there.keys)
part_keys {t} {d} {debug} concurrency part.Return {before} after asks x full {a = a} h =
    let there = results_along concurrency h before after asks x (full_fuel full) in
    results_keys t d debug concurrency a before.initial before.initial asks (translates_results before.initial a before.initial).asked (λ k c. c)
    (subst (λ n. AllZip (IsKeyOf t (results_sides d debug concurrency) (results_route a)) asks (translates_results before.initial a n).asked) full.full there.keys)

-- ---- helpers

pub located_source : (m : LinearMemory) (l : HelperLocation) (slots : List Slot) → place_of_source (tuple_from m (is_on_stack l) slots) ≡ place_of_location l
located_source m location.Stack slots = refl
located_source m location.Memory slots = refl

pub located_target : (m : LinearMemory) (l : HelperLocation) (results args : List Slot) → place_of_target (tuple_to m (is_on_stack l) results args) ≡ place_of_location l
located_target m location.Stack results args = refl
located_target m location.Memory results args = refl

-- A helper begins with all its fuel, and so its pair is translated in place.
pub helper_keys : {t : Tables} {sides : Sides} {src : From} {dst : To} {before after : Fuel} {asks : List AskedHelper} (x u : Shape) (l k : HelperLocation) → place_of_source src ≡ place_of_location l → place_of_target dst ≡ place_of_location k → IsFullFuel before
    → TranslatesAs t sides src dst before after asks (λ i r. translates_in_place i r x u) → (r : Route) → r.from.place ≡ place_of_location l → r.to.place ≡ place_of_location k
    → AllZip (IsKeyOf t sides r) asks (helper_asks before.initial (record { source = x; destination = u; route = r }))
helper_keys {t} {sides} {before = before} {asks = asks} x u l k source target full translated r from to =
    let there = translated.along r (record { from = from ∙ sym source; to = to ∙ sym target }) (full_fuel full) in
    subst (λ (v : Translated). AllZip (IsKeyOf t sides r) asks v.asked) (ap (λ n. translates_in_place before.initial r x u n) full.full ∙ sym (full_in_place before.initial r x u)) there.keys
