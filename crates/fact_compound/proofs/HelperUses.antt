-- Each helper that the code of an adapter asks for, and each that a helper asks for, can be used: values of its types are moved between places of some
-- function.
use Rattle.std.proofs.Common.{◌≡◌, ℕ, zero, suc, ◌+◌, ◌≤◌, ◌||◌, not, Bool, true, false, List, [], ◌∷◌, ◌++◌, Option, Some, None, refl, sym, ap, ◌∙◌, subst, arith, length, map, slice_get, Contains}
use Rattle.std.specs.Prelude.{replicate, is_some}
use Rattle.std.specs.List.{AllByRecursion, AllZip}
use Rattle.std.proofs.lemmas.List.{length-map}
use Rattle.std.proofs.lemmas.List.Elements.{All-contains, All-from_recursion}
use Rattle.fact_wasm.specs.declared.module.WasmModule.{WasmModule}
use Rattle.fact_wasm.specs.declared.module.WasmFunc.{WasmFunc}
use Rattle.fact_wasm.specs.declared.types.ValType.{ValType}
use Rattle.fact_wasm.specs.declared.types.ValType.TheVariants as val
use Rattle.fact_machine.specs.Typing.{address_type}
use Rattle.fact_machine.proofs.Tests.{get_append}
use Rattle.fact_types.specs.Adapters.{LinkedAdapter, is_wide}
use Rattle.fact_types.specs.Flat.{value_type}
use Rattle.fact_types.specs.FlatShapes.{IsCounted, flat, flat_members}
use Rattle.fact_types.specs.PointerPairs.{has_pointer_pair, have_pointer_pair}
use Rattle.fact_types.specs.Shapes.{Shape}
use Rattle.fact_types.specs.Signatures.{flat_values, lift_results_limit, lower_limit, width}
use Rattle.fact_types.specs.Tables.{HasShape, Tables}
use Rattle.fact_types.specs.Tuples.{tuple_members}
use Rattle.fact_actions.specs.Adapters.{AdapterTunables, flat_results}
use Rattle.fact_actions.specs.Outlining.{HelperKey, Memory, Route, RouteEnd, Stack, ValuePlace, helper_asks, params_route, place_if_flat, results_route, translates_params, translates_results}
use Rattle.fact_actions.specs.Running.{ImportPlaces}
use Rattle.fact_actions.specs.Sides.{LiftLowerOptions, options_of, width_of_side}
use Rattle.fact_code_laws.specs.Places.{AreLocals, From, InLocals, InMemory, Rooms, SideMemory, To, ToLocals, ToMemory}
use Rattle.fact_emit.specs.Areas.{IsLinearMemoryOf}
use Rattle.fact_emit.specs.Asked.{AskedHelper, IsFoundAt, IsPutAt, flats_given}
use Rattle.fact_emit.specs.Fitting.{AreRoom, CanRead, CanWrite, FromWithin, ToWithin, bytes_of_shape}
use Rattle.fact_emit.specs.Movable.{CanMoveMember}
use Rattle.fact_emit.specs.Options.{linear_of_options}
use Rattle.fact_emit.specs.Requests.{ServesLists}
use Rattle.fact_emit.specs.States.{ModuleSoFar}
use Rattle.fact_emit.specs.declared.helpers.Helper.{Helper}
use Rattle.fact_emit.specs.declared.helpers.HelperLocation.{HelperLocation}
use Rattle.fact_emit.specs.declared.helpers.HelperLocation.TheVariants as location
use Rattle.fact_emit.specs.declared.helpers.HelperType.{HelperType}
use Rattle.fact_emit.specs.declared.options.Options.{Options}
use Rattle.fact_emit.specs.declared.places.LinearMemory.{LinearMemory}
use Rattle.fact_kinds.specs.Asks.{params_at}
use Rattle.fact_kinds.specs.Moved.{AreSmall}
use Rattle.fact_kinds.specs.Translations.{FitsKey, IsKeyOf, place_of_location}
use Rattle.fact_kinds.proofs.KeyShapes.{SourceFits, SourcesFit, TargetFits, TargetsFit, fields_fit, keys_fit}
use Rattle.fact_compound.specs.Asks.{sides_between}
use Rattle.fact_compound.specs.Described.{DescribesTransfers, HasNewTupleMemory, HasTupleMemory, KnowsAdapterData, linear_of}
use Rattle.fact_compound.specs.Functions.{slots_from}
use Rattle.fact_compound.specs.Helpers.{UsesHelper, WroteHelper, asked_as, results_at}
use Rattle.fact_compound.specs.Keys.{AmongParams, AmongResults, IsKeyOfAdapter}
use Rattle.fact_compound.specs.declared.adapters.AdapterData.{AdapterData}
use Rattle.fact_compound.specs.declared.adapters.AdapterOptions.{AdapterOptions}
use Rattle.fact_compound.proofs.Flats.{AreFlat, are_flat, given_flat, lowered_flat, params_flat, slots_room}
use Rattle.fact_compound.proofs.HelperPlaces.{given_are, same_width, several, slots_length, wide_room}
use Rattle.fact_compound.proofs.KeyPlaces.{IsRouteIn, fields_in, keys_in}
use Rattle.fact_compound.proofs.LocalsAdded.{types_from}
use Rattle.fact_compound.proofs.SlotsFrom.{locals_from, same_place}

-- ---- helpers that can be used

-- Two sides, whose memories are there where they have values in memory, and whose lists can be moved where their values hold some.
pub record HasSides (M : WasmModule) (p : ImportPlaces) (a b : LiftLowerOptions) (m n : LinearMemory) (in_from in_to pairs : Bool) : Type 0 where
  pub from_wide : is_wide a.memory ≡ m.memory64
  pub to_wide : is_wide b.memory ≡ n.memory64
  pub from_memory : in_from ≡ true → SideMemory M p a m.memory64 m.memory
  pub to_memory : in_to ≡ true → SideMemory M p b n.memory64 n.memory
  pub lists : pairs ≡ true → ServesLists m n M p a b
  pub more : pairs ≡ true → (in_from ≡ true) × (in_to ≡ true)

-- A module has such sides for a helper, and this is its key: its values fit on the operand stack where they stand there.
pub record IsUsable (t : Tables) (M : WasmModule) (p : ImportPlaces) (k : Helper) (key : HelperKey) : Type 0 where
  pub from : LiftLowerOptions
  pub to : LiftLowerOptions
  pub in_from : Bool
  pub in_to : Bool
  pub pairs : Bool
  pub sides : HasSides M p from to (linear_of_options k.src.opts) (linear_of_options k.dst.opts) in_from in_to pairs
  pub source : HasShape t k.src.ty key.source
  pub destination : HasShape t k.dst.ty key.destination
  pub source_counted : IsCounted key.source
  pub destination_counted : IsCounted key.destination
  pub moves : CanMoveMember key.source key.destination
  pub from_place : key.route.from.place ≡ place_of_location k.src.loc
  pub to_place : key.route.to.place ≡ place_of_location k.dst.loc
  pub fits : FitsKey (width k.src.opts.linear.memory64) (width k.dst.opts.linear.memory64) pairs key
  pub stands : IsRouteIn in_from in_to key.route

abbrev pub HasUse : Tables → WasmModule → ImportPlaces → Helper → Type 0
HasUse t M p k = (key : HelperKey) × IsUsable t M p k key

-- what code between such sides asks for
usable_key : {t : Tables} {M : WasmModule} {p : ImportPlaces} (o o' : Options) (debug concurrency : Bool) (r : Route) (from to : LiftLowerOptions) (in_from in_to pairs : Bool) (x : AskedHelper) (k : HelperKey)
    → IsKeyOf t (record { from = linear_of_options o; to = linear_of_options o'; debug = debug; concurrency = concurrency }) r x k → HasSides M p from to (linear_of_options o) (linear_of_options o') in_from in_to pairs
    → FitsKey (width o.linear.memory64) (width o'.linear.memory64) pairs k → IsRouteIn in_from in_to k.route → IsUsable t M p x.key k
usable_key {M = M} {p = p} o o' debug concurrency r from to in_from in_to pairs x k is sides fits stands = record {
  from = from;
  to = to;
  in_from = in_from;
  in_to = in_to;
  pairs = pairs;
  sides =
      let first = subst (λ (q : Options). HasSides M p from to (linear_of_options q) (linear_of_options o') in_from in_to pairs) (sym is.from_options) sides in
      subst (λ (q : Options). HasSides M p from to (linear_of_options x.key.src.opts) (linear_of_options q) in_from in_to pairs) (sym is.to_options) first;
  source = is.source;
  destination = is.destination;
  source_counted = is.source_counted;
  destination_counted = is.destination_counted;
  moves = is.moves;
  from_place = ap (λ (e : RouteEnd). e.place) is.from_route;
  to_place = ap (λ (e : RouteEnd). e.place) is.to_route;
  fits =
      let first = subst (λ (q : Options). FitsKey (width q.linear.memory64) (width o'.linear.memory64) pairs k) (sym is.from_options) fits in
      subst (λ (q : Options). FitsKey (width x.key.src.opts.linear.memory64) (width q.linear.memory64) pairs k) (sym is.to_options) first;
  stands = stands;
}

-- ---- a use

get_behind : {X : Type 0} (xs ys : List X) (i : ℕ) → slice_get (xs ++ ys) (length xs + i) ≡ slice_get ys i
get_behind {X} [] ys i = let none : length {A = X} [] + i ≡ i = omega arith in ap (slice_get ys) none
get_behind (x ∷ xs) ys i = let more : length (x ∷ xs) + i ≡ suc (length xs + i) = omega arith in ap (slice_get (x ∷ xs ++ ys)) more ∙ get_behind xs ys i

-- places of a function whose first locals hold a source, then an address for a target, and then what is given
own_source : HelperLocation → LinearMemory → (flats : ℕ) → From
own_source location.Stack m n = InLocals (slots_from 0 (replicate n val.I64))
own_source location.Memory m n = InMemory m.memory 0 0

own_target : HelperLocation → LinearMemory → Shape → (place : ℕ) → To
own_target location.Stack n u place = ToLocals (slots_from (suc place) (flats_given n.memory64 u))
own_target location.Memory n u place = ToMemory n.memory place 0

found_at : (h : HelperType) (flats : ℕ) (l : HelperLocation) → h.loc ≡ l → IsFoundAt h (own_source l (linear_of_options h.opts) flats)
unfolding own_source
found_at h flats location.Stack e = e
found_at h flats location.Memory e = (e, refl)

put_at : (h : HelperType) (u : Shape) (place : ℕ) (l : HelperLocation) → h.loc ≡ l → IsPutAt h (own_target l (linear_of_options h.opts) u place)
unfolding own_target
put_at h u place location.Stack e = e
put_at h u place location.Memory e = (e, refl)

source_within : (l : HelperLocation) (m : LinearMemory) (flats bytes : ℕ) → FromWithin bytes (own_source l m flats) bytes
unfolding own_source
source_within location.Stack m flats bytes = tt
source_within location.Memory m flats bytes = omega arith

target_within : (l : HelperLocation) (n : LinearMemory) (u : Shape) (place bytes : ℕ) → ToWithin bytes (own_target l n u place) bytes
unfolding own_target
target_within location.Stack n u place bytes = tt
target_within location.Memory n u place bytes = omega arith

module _ (M : WasmModule) (p : ImportPlaces) (o : LiftLowerOptions) (m : LinearMemory) (wide : is_wide o.memory ≡ m.memory64) where
  reads_there : (l : HelperLocation) (x : Shape) (rest : List ValType) (bytes : ℕ) → (place_of_location l ≡ Stack → length (flat (width m.memory64) x) ≤ 16) → (place_of_location l ≡ Memory → SideMemory M p o m.memory64 m.memory) → bytes ≤ 4294967295
      → CanRead M p (params_at l m.memory64 (length (flat (width m.memory64) x)) ++ rest) o m.memory64 (own_source l m (length (flat (width m.memory64) x))) (flat (width_of_side o) x) bytes
  unfolding own_source
  reads_there location.Stack x rest bytes few side small =
      let n : ℕ = length (flat (width m.memory64) x) in
      let front : List ValType = replicate n val.I64 in
      record {
        room = subst (λ w. AreRoom (slots_from 0 (replicate n val.I64)) (flat w x)) (sym (same_width o m wide)) (wide_room 0 (flat (width m.memory64) x));
        typed = locals_from (front ++ rest) 0 front (λ i t e. ap (slice_get (front ++ rest)) (same_place i) ∙ get_append front rest i t e);
        few = omega (arith, slots_length 0 (replicate n val.I64), several n val.I64, few refl);
      }
  reads_there location.Memory x rest bytes few side small = record { side = side refl; local = refl; reach = omega (arith, small) }

  writes_there : (l : HelperLocation) (u : Shape) (front : List ValType) (bytes : ℕ) → (place_of_location l ≡ Stack → length (flat (width m.memory64) u) ≤ 16) → (place_of_location l ≡ Memory → SideMemory M p o m.memory64 m.memory) → bytes ≤ 4294967295
      → CanWrite M p (front ++ (address_type m.memory64 ∷ results_at l m.memory64 u)) o m.memory64 (own_target l m u (length front)) (flat (width_of_side o) u) bytes
  unfolding own_target
  writes_there location.Stack u front bytes few side small =
      let given : List ValType = flats_given m.memory64 u in
      let types : flats_given m.memory64 u ≡ map value_type (flat (width m.memory64) u) = given_are m.memory64 u (few refl) in
      let locals : List ValType = front ++ (address_type m.memory64 ∷ given) in
      record {
        room = subst (λ w. AreRoom (slots_from (suc (length front)) (flats_given m.memory64 u)) (flat w u)) (sym (same_width o m wide))
            (slots_room (slots_from (suc (length front)) (flats_given m.memory64 u)) (flat (width m.memory64) u) (types_from (suc (length front)) (flats_given m.memory64 u) ∙ types));
        typed = locals_from locals (suc (length front)) given (λ i t e. let at : i + suc (length front) ≡ length front + suc i = omega arith in ap (slice_get locals) at ∙ get_behind front (address_type m.memory64 ∷ given) (suc i) ∙ e);
        few = omega (arith, slots_length (suc (length front)) (flats_given m.memory64 u), ap length types, length-map (flat (width m.memory64) u) value_type, few refl);
      }
  writes_there location.Memory u front bytes few side small = record {
    side = side refl;
    local = (let at : length front ≡ length front + 0 = omega arith in ap (slice_get (front ++ (address_type m.memory64 ∷ []))) at ∙ get_behind front (address_type m.memory64 ∷ []) 0);
    reach = omega (arith, small);
  }

-- A helper that can be used, whose types have at most 4,294,967,295 bytes, is used by some function.
pub record HasOwnUse (t : Tables) (debug concurrency : Bool) (M : WasmModule) (p : ImportPlaces) (e : Helper × ℕ) : Type 0 where
  pub x : Shape
  pub u : Shape
  pub src : From
  pub dst : To
  pub from : LiftLowerOptions
  pub to : LiftLowerOptions
  pub uses : UsesHelper M p (asked_as t debug concurrency e) x u src dst from to

pub own_use : {t : Tables} {debug concurrency : Bool} {M : WasmModule} {p : ImportPlaces} (k : Helper) (number : ℕ) (key : HelperKey) → IsUsable t M p k key → AreSmall t k.src.ty k.src.opts.linear.memory64 → AreSmall t k.dst.ty k.dst.opts.linear.memory64
    → HasOwnUse t debug concurrency M p (k, number)
own_use {M = M} {p = p} k number key h from_small to_small =
    let m : LinearMemory = linear_of_options k.src.opts in
    let n : LinearMemory = linear_of_options k.dst.opts in
    let flats : ℕ = length (flat (width m.memory64) key.source) in
    let front : List ValType = params_at k.src.loc m.memory64 flats in
    let locals : List ValType = front ++ (address_type n.memory64 ∷ results_at k.dst.loc n.memory64 key.destination) in
    let from_bytes : ℕ = bytes_of_shape (width_of_side h.from) key.source in
    let to_bytes : ℕ = bytes_of_shape (width_of_side h.to) key.destination in
    record {
      x = key.source;
      u = key.destination;
      src = own_source k.src.loc m flats;
      dst = own_target k.dst.loc n key.destination (length front);
      from = h.from;
      to = h.to;
      uses = record {
        from_shape = h.source;
        to_shape = h.destination;
        from_counted = h.source_counted;
        to_counted = h.destination_counted;
        moves = h.moves.moves;
        found = found_at k.src flats k.src.loc refl;
        put = put_at k.dst key.destination (length front) k.dst.loc refl;
        rooms = record { from = from_bytes; to = to_bytes };
        locals = locals;
        fits = record {
          from_wide = h.sides.from_wide;
          to_wide = h.sides.to_wide;
          reads = reads_there M p h.from m h.sides.from_wide k.src.loc key.source (address_type n.memory64 ∷ results_at k.dst.loc n.memory64 key.destination) from_bytes (λ e. h.fits.source_few (h.from_place ∙ e)) (λ e. h.sides.from_memory (h.stands.from (h.from_place ∙ e)))
              (subst (λ w. bytes_of_shape w key.source ≤ 4294967295) (sym (same_width h.from m h.sides.from_wide)) (from_small key.source h.source));
          writes = writes_there M p h.to n h.sides.to_wide k.dst.loc key.destination front to_bytes (λ e. h.fits.destination_few (h.to_place ∙ e)) (λ e. h.sides.to_memory (h.stands.to (h.to_place ∙ e)))
              (subst (λ w. bytes_of_shape w key.destination ≤ 4294967295) (sym (same_width h.to n h.sides.to_wide)) (to_small key.destination h.destination));
          within = record { source = source_within k.src.loc m flats from_bytes; target = target_within k.dst.loc n key.destination (length front) to_bytes };
          lists = λ e. h.sides.lists (h.fits.pairs e);
        };
      };
    }

-- ---- what a helper asks for

abbrev pub HaveUses : Tables → WasmModule → ImportPlaces → List AskedHelper → Type 0
HaveUses t M p asks = AllByRecursion (λ (x : AskedHelper). HasUse t M p x.key) asks

module _ (t : Tables) {M : WasmModule} {p : ImportPlaces} (o o' : Options) (debug concurrency : Bool) (r : Route) (from to : LiftLowerOptions) (in_from in_to pairs : Bool) (sides : HasSides M p from to (linear_of_options o) (linear_of_options o') in_from in_to pairs) where
  all_usable : (asks : List AskedHelper) (keys : List HelperKey) → AllZip (IsKeyOf t (record { from = linear_of_options o; to = linear_of_options o'; debug = debug; concurrency = concurrency }) r) asks keys
      → AllByRecursion (FitsKey (width o.linear.memory64) (width o'.linear.memory64) pairs) keys → AllByRecursion (λ (k : HelperKey). IsRouteIn in_from in_to k.route) keys → HaveUses t M p asks
  all_usable [] [] are fit stand = tt
  all_usable [] (k ∷ ks) are fit stand = absurd are
  all_usable (x ∷ xs) [] are fit stand = absurd are
  all_usable (x ∷ xs) (k ∷ ks) are fit stand = ((k, usable_key o o' debug concurrency r from to in_from in_to pairs x k are.0 sides fit.0 stand.0), all_usable xs ks are.1 fit.1 stand.1)

pub helper_uses : {t : Tables} {debug concurrency : Bool} {fuel : ℕ} {k : Helper} {old new : ModuleSoFar} {f : WasmFunc} (w : WroteHelper t debug concurrency fuel k old new f) {M : WasmModule} {p : ImportPlaces} (key : HelperKey) → IsUsable t M p k key → HaveUses t M p w.asks
helper_uses {t = t} {debug = debug} {concurrency = concurrency} {fuel = fuel} {k = k} w key h =
    let source : SourceFits (width k.src.opts.linear.memory64) (width k.dst.opts.linear.memory64) h.pairs key.route key.source = record { counted = h.source_counted; few = h.fits.source_few; holds = h.fits.pairs } in
    let target : TargetFits (width k.src.opts.linear.memory64) (width k.dst.opts.linear.memory64) h.pairs key.route key.destination = record { counted = h.destination_counted; few = h.fits.destination_few } in
    all_usable t k.src.opts k.dst.opts debug concurrency key.route h.from h.to h.in_from h.in_to h.pairs h.sides w.asks (helper_asks fuel key)
    (w.keys.along key.route key.source key.destination h.source h.destination h.source_counted h.destination_counted h.moves.moves h.from_place h.to_place)
    (keys_fit (width k.src.opts.linear.memory64) (width k.dst.opts.linear.memory64) h.pairs fuel key.route key.source key.destination source target h.moves.moves fuel)
    (keys_in h.in_from h.in_to h.pairs h.sides.more fuel key.route key.source key.destination h.stands h.fits.pairs h.moves.moves fuel)

-- ---- what an adapter asks for

few_flat : {m : Bool} {ss : List Shape} (o : Option (List ValType)) → ((ts : List ValType) → o ≡ Some ts → AreFlat m 16 ss ts) → place_if_flat o ≡ Stack → length (flat_members (width m) (tuple_members ss)) ≤ 16
few_flat None f e = let no : Memory ≡ Stack = e in cc
few_flat (Some ts) f e = (f ts refl).few

in_memory : (o : Option (List ValType)) (pairs : Bool) → place_if_flat o ≡ Memory → (not (is_some o) || pairs) ≡ true
in_memory None pairs e = refl
in_memory (Some ts) pairs e = let no : Stack ≡ Memory = e in cc

or_later : (a b : Bool) → b ≡ true → (a || b) ≡ true
or_later true b e = refl
or_later false b e = e

of_these : (P : HelperKey → Type 0) (ks : List HelperKey) (k : HelperKey) → AllByRecursion P ks → Contains ks k → P k
of_these P ks k all c = All-contains P ks k (All-from_recursion P ks all) c

module _ {M : WasmModule} {p : ImportPlaces} (d : AdapterOptions) where
  memory_there : (s : LiftLowerOptions) (o : Option (List ValType)) (pairs : Bool) → (o ≡ None → IsLinearMemoryOf M p s (linear_of d)) → (pairs ≡ true → IsLinearMemoryOf M p s (linear_of d)) → (not (is_some o) || pairs) ≡ true → SideMemory M p s (linear_of d).memory64 (linear_of d).memory
  memory_there s None pairs m l e = (m refl).side
  memory_there s (Some ts) pairs m l e = (l e).side

module _ {t : Tables} {d : AdapterData} {debug : Bool} {u : AdapterTunables} {a : LinkedAdapter} (concurrency : Bool) (h : DescribesTransfers t d debug u a) {M : WasmModule} {p : ImportPlaces} (links : KnowsAdapterData M p d a) where
  abbrev params_from : Option (List ValType)
  params_from = flat_values (is_wide a.lower.memory) (lower_limit a.lower.async_side) a.lower.params

  abbrev params_to : Option (List ValType)
  params_to = flat_values (is_wide a.lift.memory) 16 a.lift.params

  abbrev results_from : Option (List ValType)
  results_from = flat_values (is_wide a.lift.memory) (lift_results_limit a.lift.async_side) a.lift.results

  abbrev results_to : Option (List ValType)
  results_to = flat_results a.lower

  abbrev params_pairs : Bool
  params_pairs = have_pointer_pair (tuple_members a.lower.params)

  abbrev results_pairs : Bool
  results_pairs = have_pointer_pair (tuple_members a.lift.results)

  passed_in : (o : Option (List ValType)) → HasTupleMemory M p d.lower a.lower o → o ≡ None → IsLinearMemoryOf M p (options_of a.lower) (linear_of d.lower)
  passed_in None m e = m
  passed_in (Some ts) m e = cc

  given_in : (o : Option (List ValType)) → HasTupleMemory M p d.lift a.lift o → o ≡ None → IsLinearMemoryOf M p (options_of a.lift) (linear_of d.lift)
  given_in None m e = m
  given_in (Some ts) m e = cc

  asked_in : (o : Option (List ValType)) → HasNewTupleMemory M p d.lift a.lift o → o ≡ None → IsLinearMemoryOf M p (options_of a.lift) (linear_of d.lift)
  asked_in None m e = m.0
  asked_in (Some ts) m e = cc

  params_there : HasSides M p (options_of a.lower) (options_of a.lift) (linear_of d.lower) (linear_of d.lift) (not (is_some params_from) || params_pairs) (not (is_some params_to) || params_pairs) params_pairs
  params_there = record {
    from_wide = h.lower.wide;
    to_wide = h.lift.wide;
    from_memory = memory_there d.lower (options_of a.lower) params_from params_pairs (passed_in params_from links.params_memory) (λ e. (links.params_lists e).from_memory);
    to_memory = memory_there d.lift (options_of a.lift) params_to params_pairs (asked_in params_to links.params_area) (λ e. (links.params_lists e).to_memory);
    lists = links.params_lists;
    more = λ e. (or_later (not (is_some params_from)) params_pairs e, or_later (not (is_some params_to)) params_pairs e);
  }

  results_there : HasSides M p (options_of a.lift) (options_of a.lower) (linear_of d.lift) (linear_of d.lower) (not (is_some results_from) || results_pairs) (not (is_some results_to) || results_pairs) results_pairs
  results_there = record {
    from_wide = h.lift.wide;
    to_wide = h.lower.wide;
    from_memory = memory_there d.lift (options_of a.lift) results_from results_pairs (given_in results_from links.results_memory) (λ e. (links.results_lists e).from_memory);
    to_memory = memory_there d.lower (options_of a.lower) results_to results_pairs (passed_in results_to links.return_memory) (λ e. (links.results_lists e).to_memory);
    lists = links.results_lists;
    more = λ e. (or_later (not (is_some results_from)) results_pairs e, or_later (not (is_some results_to)) results_pairs e);
  }

  params_fit : (fuel left : ℕ) → AllByRecursion (FitsKey (width (linear_of d.lower).memory64) (width (linear_of d.lift).memory64) params_pairs) (translates_params fuel a left).asked
  params_fit fuel left =
      let source : SourcesFit (width (linear_of d.lower).memory64) (width (linear_of d.lift).memory64) params_pairs (params_route a) (tuple_members a.lower.params) (flat_members (width (linear_of d.lower).memory64) (tuple_members a.lower.params)) = record {
        counted = h.params.from_counted;
        few = λ e. subst (λ m. length (flat_members (width m) (tuple_members a.lower.params)) ≤ 16) h.lower.wide (few_flat params_from (λ ts is. params_flat (is_wide a.lower.memory) a.lower.async_side a.lower.params ts is) e);
        holds = λ e. e;
      } in
      let target : TargetsFit (width (linear_of d.lower).memory64) (width (linear_of d.lift).memory64) params_pairs (params_route a) (tuple_members a.lift.params) (flat_members (width (linear_of d.lift).memory64) (tuple_members a.lift.params)) = record {
        counted = h.params.to_counted;
        few = λ e. subst (λ m. length (flat_members (width m) (tuple_members a.lift.params)) ≤ 16) h.lift.wide (few_flat params_to (λ ts is. are_flat (is_wide a.lift.memory) 16 a.lift.params ts is) e);
      } in
      fields_fit (width (linear_of d.lower).memory64) (width (linear_of d.lift).memory64) params_pairs fuel (params_route a) (tuple_members a.lower.params) (tuple_members a.lift.params) source target h.params.members left

  results_fit : (fuel left : ℕ) → AllByRecursion (FitsKey (width (linear_of d.lift).memory64) (width (linear_of d.lower).memory64) results_pairs) (translates_results fuel a left).asked
  results_fit fuel left =
      let source : SourcesFit (width (linear_of d.lift).memory64) (width (linear_of d.lower).memory64) results_pairs (results_route a) (tuple_members a.lift.results) (flat_members (width (linear_of d.lift).memory64) (tuple_members a.lift.results)) = record {
        counted = h.results.from_counted;
        few = λ e. subst (λ m. length (flat_members (width m) (tuple_members a.lift.results)) ≤ 16) h.lift.wide (few_flat results_from (λ ts is. given_flat (is_wide a.lift.memory) a.lift.async_side a.lift.results ts is) e);
        holds = λ e. e;
      } in
      let target : TargetsFit (width (linear_of d.lift).memory64) (width (linear_of d.lower).memory64) results_pairs (results_route a) (tuple_members a.lower.results) (flat_members (width (linear_of d.lower).memory64) (tuple_members a.lower.results)) = record {
        counted = h.results.to_counted;
        few = λ e. subst (λ m. length (flat_members (width m) (tuple_members a.lower.results)) ≤ 16) h.lower.wide (few_flat results_to (λ ts is. lowered_flat (is_wide a.lower.memory) a.lower.async_side a.lower.results ts is) e);
      } in
      fields_fit (width (linear_of d.lift).memory64) (width (linear_of d.lower).memory64) results_pairs fuel (results_route a) (tuple_members a.lift.results) (tuple_members a.lower.results) source target h.results.members left

  adapter_use : (x : AskedHelper) (k : HelperKey) → IsKeyOfAdapter t d debug concurrency a x k → IsUsable t M p x.key k
  adapter_use x k (AmongParams fuel left c is) =
      let keys : List HelperKey = (translates_params fuel a left).asked in
      let route : IsRouteIn (not (is_some params_from) || params_pairs) (not (is_some params_to) || params_pairs) (params_route a) = record { from = in_memory params_from params_pairs; to = in_memory params_to params_pairs } in
      usable_key d.lower.options d.lift.options debug concurrency (params_route a) (options_of a.lower) (options_of a.lift) (not (is_some params_from) || params_pairs) (not (is_some params_to) || params_pairs) params_pairs x k is params_there
      (of_these (λ l. FitsKey (width (linear_of d.lower).memory64) (width (linear_of d.lift).memory64) params_pairs l) keys k (params_fit fuel left) c)
      (of_these (λ (l : HelperKey). IsRouteIn (not (is_some params_from) || params_pairs) (not (is_some params_to) || params_pairs) l.route) keys k
      (fields_in (not (is_some params_from) || params_pairs) (not (is_some params_to) || params_pairs) params_pairs params_there.more fuel (params_route a) (tuple_members a.lower.params) (tuple_members a.lift.params) route (λ e. e) h.params.members left) c)
  adapter_use x k (AmongResults fuel left c is) =
      let keys : List HelperKey = (translates_results fuel a left).asked in
      let route : IsRouteIn (not (is_some results_from) || results_pairs) (not (is_some results_to) || results_pairs) (results_route a) = record { from = in_memory results_from results_pairs; to = in_memory results_to results_pairs } in
      usable_key d.lift.options d.lower.options debug concurrency (results_route a) (options_of a.lift) (options_of a.lower) (not (is_some results_from) || results_pairs) (not (is_some results_to) || results_pairs) results_pairs x k is results_there
      (of_these (λ l. FitsKey (width (linear_of d.lift).memory64) (width (linear_of d.lower).memory64) results_pairs l) keys k (results_fit fuel left) c)
      (of_these (λ (l : HelperKey). IsRouteIn (not (is_some results_from) || results_pairs) (not (is_some results_to) || results_pairs) l.route) keys k
      (fields_in (not (is_some results_from) || results_pairs) (not (is_some results_to) || results_pairs) results_pairs results_there.more fuel (results_route a) (tuple_members a.lift.results) (tuple_members a.lower.results) route (λ e. e) h.results.members left) c)

  -- Each helper that an adapter's functions ask for.
  pub adapter_uses : (asks : List AskedHelper) (keys : List HelperKey) → AllZip (IsKeyOfAdapter t d debug concurrency a) asks keys → HaveUses t M p asks
  adapter_uses [] [] h = tt
  adapter_uses [] (k ∷ ks) h = absurd h
  adapter_uses (x ∷ xs) [] h = absurd h
  adapter_uses (x ∷ xs) (k ∷ ks) h = ((k, adapter_use x k h.0), adapter_uses xs ks h.1)
