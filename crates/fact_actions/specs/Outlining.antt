-- Which translations the functions of adapters hold, by their fuel, and which they leave to helpers.
-- A function begins with the fuel of its module, and each pair of types that it translates takes its cost. A pair that costs more than what is
-- left is left to a helper, which all functions share that ask for it.
use Rattle.std.specs.Prelude.{◌≡◌, ℕ, zero, suc, ◌+◌, ◌-◌, ◌/◌, Bool, true, false, not, ◌&&◌, nat_eq, nat_lt, nat_le, List, [], ◌∷◌, ◌++◌, length, map, Option, Some, None, if◌then◌else◌, slice_get}
use Rattle.std.specs.Str.{bytes_eq}
use Rattle.std.specs.List.{Contains, flat_map}
use Rattle.fact_wasm.specs.declared.types.FuncType.{FuncType}
use Rattle.fact_types.specs.declared.interface.InterfaceType.{InterfaceType}
use Rattle.fact_types.specs.declared.interface.InterfaceType.TheVariants as ty
use Rattle.fact_types.specs.declared.outside.CoreDef.{CoreDef}
use Rattle.fact_types.specs.declared.outside.MemoryOption.{MemoryOption}
use Rattle.fact_types.specs.declared.outside.StringEncoding.{StringEncoding}
use Rattle.fact_types.specs.Adapters.{Side, LinkedAdapter, is_async, is_crossing, is_wide}
use Rattle.fact_types.specs.Agrees.{named, names_of}
use Rattle.fact_types.specs.Shapes.{Kind, k_record, k_variant, k_list, k_tuple, k_map, k_flags, k_enum, k_option, k_result, k_fixed, k_future, k_stream, Shape, s_plain, s_node, Members, no_members, bare, typed}
use Rattle.fact_types.specs.Signatures.{flat_values, lower_limit, lift_results_limit}
use Rattle.fact_types.specs.Tuples.{tuple_members}
use Rattle.fact_actions.specs.Adapters.{flat_results}

-- ---- costs

abbrev pub cost_of_plain : InterfaceType → ℕ
cost_of_plain ty.Char = 1
cost_of_plain ty.String = 40
cost_of_plain (ty.Own i) = 1
cost_of_plain (ty.Borrow i) = 1
cost_of_plain (ty.ErrorContext i) = 1
cost_of_plain _ = 0

-- Flags cost 1 up to 16 names, and else 1 for each 32 of them or part.
abbrev pub cost_of_flags : (names : ℕ) → ℕ
cost_of_flags n = if nat_le n 16 then 1 else (n + 31) / 32

abbrev pub cost_of_kind : Kind → (members : ℕ) → ℕ
cost_of_kind k_record n = n
cost_of_kind k_tuple n = n
cost_of_kind k_variant n = n
cost_of_kind k_enum n = n
cost_of_kind k_option n = 2
cost_of_kind k_result n = 2
cost_of_kind k_list n = 40
cost_of_kind k_map n = 40
cost_of_kind k_flags n = cost_of_flags n
cost_of_kind (k_fixed count) n = count
cost_of_kind (k_future table instance) n = 1
cost_of_kind (k_stream table instance) n = 1

-- What the translation of a source type costs, its members aside.
abbrev pub cost : Shape → ℕ
cost (s_plain p) = cost_of_plain p
cost (s_node k ms) = cost_of_kind k (length (names_of ms))

-- ---- keys

-- where values stand: on the operand stack, or in memory
pub data ValuePlace : Type 0 where
  Stack : ValuePlace
  Memory : ValuePlace

abbrev pub is_in_memory : ValuePlace → Bool
is_in_memory Stack = false
is_in_memory Memory = true

-- where values come from, or go to: the options of a side, its async mark and core type, and their place
pub record RouteEnd : Type 0 where
  pub encoding : StringEncoding
  pub memory : Option MemoryOption
  pub realloc : Option CoreDef
  pub callback : Option CoreDef
  pub async_side : Bool
  pub core_type : FuncType
  pub place : ValuePlace

pub record Route : Type 0 where
  pub from : RouteEnd
  pub to : RouteEnd

-- what a helper is made for: values of a type become values of another one on their route
pub record HelperKey : Type 0 where
  pub source : Shape
  pub destination : Shape
  pub route : Route

abbrev pub route_end : Side → ValuePlace → RouteEnd
route_end s place = record {
  encoding = s.encoding;
  memory = s.memory;
  realloc = s.realloc;
  callback = s.callback;
  async_side = s.async_side;
  core_type = s.core_type;
  place = place;
}

-- between the same sides, from memory to memory
abbrev pub in_memories : Route → Route
in_memories r = record { from = record r.from { place = Memory }; to = record r.to { place = Memory } }

-- ---- translations

-- what is left of the fuel, and the helpers that were asked for, in order
pub record Translated : Type 0 where
  pub left : ℕ
  pub asked : List HelperKey

abbrev pub Translating : Type 0
Translating = (left : ℕ) → Translated

abbrev pub translates_none : Translating
translates_none n = record { left = n; asked = [] }

abbrev pub asked_before : List HelperKey → Translated → Translated
asked_before ks v = record { left = v.left; asked = ks ++ v.asked }

abbrev pub translates_then : Translating → Translating → Translating
translates_then v w n = asked_before (v n).asked (w (v n).left)

abbrev pub translates_times : ℕ → Translating → Translating
translates_times zero v = translates_none
translates_times (suc n) v = translates_then v (translates_times n v)

-- A pair that costs more than what is left is asked for, unless nothing was taken so far; any other one takes its cost, as far as there is
-- so much, and then its members are translated.
abbrev pub translates_pair : (initial cost : ℕ) → HelperKey → (members : Translating) → Translating
translates_pair initial c key members n =
    if nat_lt n c && not (nat_eq n initial) then record { left = n; asked = key ∷ [] } else members (n - c)

-- each case of a source that has a payload, in order
abbrev pub translates_cases : Members → (List ℕ → Shape → Translating) → Translating
translates_cases no_members payload = translates_none
translates_cases (bare x ms) payload = translates_cases ms payload
translates_cases (typed x s ms) payload = translates_then (payload x s) (translates_cases ms payload)

abbrev pub translates_if : Option Shape → (Shape → Translating) → Translating
translates_if None one = translates_none
translates_if (Some s) one = one s

-- Code goes over the elements of a list of fixed length in a loop where both places are in memory, and else has each one by itself.
abbrev pub turns_of : Route → ℕ → ℕ
turns_of r n = if is_in_memory r.from.place && is_in_memory r.to.place then 1 else n

-- The members of a pair of one kind: `fields` has those of a record or a tuple along a route, `payload` that of a case.
abbrev pub translates_members : Route → Shape → Kind → (fields : Route → Members → Translating) → (payload : List ℕ → Shape → Translating) → Translating
translates_members r (s_node k_record ms) k_record fields payload = fields r ms
translates_members r (s_node k_tuple ms) k_tuple fields payload = fields r ms
translates_members r (s_node k_variant ms) k_variant fields payload = translates_cases ms payload
translates_members r (s_node k_option ms) k_option fields payload = translates_cases ms payload
translates_members r (s_node k_result ms) k_result fields payload = translates_cases ms payload
translates_members r (s_node k_list ms) k_list fields payload = fields (in_memories r) ms
translates_members r (s_node k_map ms) k_map fields payload = fields (in_memories r) ms
translates_members r (s_node (k_fixed m) ms) (k_fixed n) fields payload = translates_times (turns_of r n) (fields r ms)
translates_members r t k fields payload = translates_none

unfoldable mutual
  -- a pair of a source type and a destination type
  pub translates : (initial : ℕ) → Route → Shape → Shape → Translating
  translates i r t (s_plain u) n = translates_pair i (cost t) (record { source = t; destination = s_plain u; route = r }) translates_none n
  translates i r t (s_node k ns) n =
      translates_pair i (cost t) (record { source = t; destination = s_node k ns; route = r })
      (λ m. translates_members r t k (λ r' ms. λ m'. translates_fields i r' ms ns m') (λ x s. λ m'. translates_case i r x s ns m') m) n

  -- the members of a record or a tuple, in the order of the destination
  pub translates_fields : (initial : ℕ) → Route → Members → Members → Translating
  translates_fields i r ms no_members n = translates_none n
  translates_fields i r ms (bare x ns) n = translates_fields i r ms ns n
  translates_fields i r ms (typed x u ns) n = translates_then (translates_if (named x ms) (λ s m. translates i r s u m)) (λ m. translates_fields i r ms ns m) n

  -- a payload, at the case of its name
  pub translates_case : (initial : ℕ) → Route → List ℕ → Shape → Members → Translating
  translates_case i r x s no_members n = translates_none n
  translates_case i r x s (bare y ns) n = if bytes_eq y x then translates_none n else translates_case i r x s ns n
  translates_case i r x s (typed y u ns) n = if bytes_eq y x then translates i r s u n else translates_case i r x s ns n

-- ---- what functions ask for

-- Values that are flat stand on the operand stack, and those behind a pointer in memory.
abbrev pub place_if_flat : {T : Type 0} → Option T → ValuePlace
place_if_flat None = Memory
place_if_flat (Some flats) = Stack

abbrev pub params_route : LinkedAdapter → Route
params_route a = record {
  from = route_end a.lower (place_if_flat (flat_values (is_wide a.lower.memory) (lower_limit a.lower.async_side) a.lower.params));
  to = route_end a.lift (place_if_flat (flat_values (is_wide a.lift.memory) 16 a.lift.params));
}

abbrev pub results_route : LinkedAdapter → Route
results_route a = record {
  from = route_end a.lift (place_if_flat (flat_values (is_wide a.lift.memory) (lift_results_limit a.lift.async_side) a.lift.results));
  to = route_end a.lower (place_if_flat (flat_results a.lower));
}

-- parameter by parameter, and result by result
abbrev pub translates_params : (initial : ℕ) → LinkedAdapter → Translating
translates_params i a n = translates_fields i (params_route a) (tuple_members a.lower.params) (tuple_members a.lift.params) n

abbrev pub translates_results : (initial : ℕ) → LinkedAdapter → Translating
translates_results i a n = translates_fields i (results_route a) (tuple_members a.lift.results) (tuple_members a.lower.results) n

-- the keys that a function of these translations asks for, repeats kept
abbrev pub asks_of : (fuel : ℕ) → Translating → List HelperKey
asks_of fuel v = (v fuel).asked

-- what each of an adapter's own functions asks for: of an async adapter between two instances those that move parameters and results, and
-- the one that hands them on, of a sync one the one that moves both, and of an adapter within one instance the one that traps
abbrev pub own_asks : (fuel : ℕ) → LinkedAdapter → List (List HelperKey)
own_asks fuel a =
    if is_crossing a then
    (if is_async a
    then asks_of fuel (translates_params fuel a) ∷ asks_of fuel (translates_results fuel a) ∷ [] ∷ []
    else asks_of fuel (translates_then (translates_params fuel a) (translates_results fuel a)) ∷ [])
    else [] ∷ []

-- what a helper asks for
abbrev pub helper_asks : (fuel : ℕ) → HelperKey → List HelperKey
helper_asks fuel k = asks_of fuel (λ n. translates fuel k.route k.source k.destination n)

-- ---- the functions of a module

-- a function that a module defines: what it is made for, where it is a helper and no adapter's own, and what it asks for
pub record OutlinedFunction : Type 0 where
  pub made_for : Option HelperKey
  pub asks : List HelperKey

abbrev pub own_function : List HelperKey → OutlinedFunction
own_function asks = record { made_for = None; asks = asks }

abbrev pub helper_function : (fuel : ℕ) → HelperKey → OutlinedFunction
helper_function fuel k = record { made_for = Some k; asks = helper_asks fuel k }

-- The keys that are new among those that are asked for, behind those that were asked for before.
pub data AreNew : (known asked new : List HelperKey) → Type 0 where
  NoneAsked : (known : List HelperKey) → AreNew known [] []
  AskedBefore : (known : List HelperKey) (k : HelperKey) (ks new : List HelperKey) → Contains known k → AreNew known ks new → AreNew known (k ∷ ks) new
  AskedAnew : (known : List HelperKey) (k : HelperKey) (ks new : List HelperKey) → (Contains known k → ⊥) → AreNew (known ++ k ∷ []) ks new → AreNew known (k ∷ ks) (k ∷ new)

-- The helpers that follow, where these keys were asked for and these wait, and all that were asked for then: the last of those that wait is
-- compiled first, and those that it asks for anew are the next functions, and wait behind the others.
pub data AreFollowing (fuel : ℕ) : (known waiting all following : List HelperKey) → Type 0 where
  NoneWaits : (known : List HelperKey) → AreFollowing fuel known [] known []
  LastComes : (known waiting : List HelperKey) (k : HelperKey) (new all following : List HelperKey) → AreNew known (helper_asks fuel k) new
      → AreFollowing fuel (known ++ new) (waiting ++ new) all following
      → AreFollowing fuel known (waiting ++ k ∷ []) all (new ++ following)

-- The functions of adapters, where these keys were asked for before: adapter by adapter its own functions, the helpers that these ask for anew,
-- and the helpers that follow.
pub data AreFunctions (fuel : ℕ) : (known : List HelperKey) → List LinkedAdapter → List OutlinedFunction → Type 0 where
  NoAdapters : (known : List HelperKey) → AreFunctions fuel known [] []
  AdapterComes : (known : List HelperKey) (a : LinkedAdapter) (adapters : List LinkedAdapter) (new all following : List HelperKey) (functions : List OutlinedFunction)
      → AreNew known (flat_map (λ ks. ks) (own_asks fuel a)) new
      → AreFollowing fuel (known ++ new) new all following
      → AreFunctions fuel all adapters functions
      → AreFunctions fuel known (a ∷ adapters) (map own_function (own_asks fuel a) ++ map (helper_function fuel) (new ++ following) ++ functions)

-- the function of a place is the helper of this key
pub record IsHelperAt (functions : List OutlinedFunction) (place : ℕ) (key : HelperKey) : Type 0 where
  pub function : OutlinedFunction
  pub there : slice_get functions place ≡ Some function
  pub is : function.made_for ≡ Some key
