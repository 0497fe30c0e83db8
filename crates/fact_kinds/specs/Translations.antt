-- What code asks for, and what it takes of the fuel of its function: what the translation of its types says (`translates` of fact_actions).
use Rattle.std.specs.Prelude.{◌≡◌, ℕ, zero, suc, ◌≤◌, ◌-◌, Bool, true, List, length}
use Rattle.std.specs.List.{AllZip}
use Rattle.fact_types.specs.declared.extents.MemoryWidth.{MemoryWidth}
use Rattle.fact_types.specs.FlatShapes.{flat, IsCounted}
use Rattle.fact_types.specs.PointerPairs.{has_pointer_pair}
use Rattle.fact_types.specs.Shapes.{Shape, s_plain, s_node, Members, no_members, bare, typed}
use Rattle.fact_types.specs.Tables.{Tables, HasShape}
use Rattle.fact_actions.specs.Outlining.{HelperKey, Route, Translated, Translating, ValuePlace, Stack, Memory, cost, translates_case, translates_fields, translates_members, translates_none, translates_then}
use Rattle.fact_code_laws.specs.Places.{From, InLocals, InMemory, To, ToLocals, ToMemory}
use Rattle.fact_emit.specs.declared.helpers.HelperLocation.{HelperLocation}
use Rattle.fact_emit.specs.declared.helpers.HelperLocation.TheVariants as location
use Rattle.fact_emit.specs.declared.places.Sides.{Sides}
use Rattle.fact_emit.specs.Asked.{AskedHelper}
use Rattle.fact_emit.specs.Movable.{CanMoveMember}
use Rattle.fact_kinds.specs.declared.fuel.Fuel.{Fuel}

-- ---- routes and keys

-- where values are found, and where they go, as routes tell it
abbrev pub place_of_source : From → ValuePlace
place_of_source (InLocals slots) = Stack
place_of_source (InMemory memory base offset) = Memory

abbrev pub place_of_target : To → ValuePlace
place_of_target (ToLocals slots) = Stack
place_of_target (ToMemory memory base offset) = Memory

abbrev pub place_of_location : HelperLocation → ValuePlace
place_of_location location.Stack = Stack
place_of_location location.Memory = Memory

-- a route from such a place to such a place
pub record IsRouteOf (r : Route) (src : From) (dst : To) : Type 0 where
  pub from : r.from.place ≡ place_of_source src
  pub to : r.to.place ≡ place_of_target dst

-- A helper that code between these sides asks for, and its key along a route: its types have the shapes of the key, which values can be moved between, its
-- options are those of the sides, and the key's ends are those of the route, at the helper's places.
pub record IsKeyOf (t : Tables) (sides : Sides) (r : Route) (a : AskedHelper) (k : HelperKey) : Type 0 where
  pub source : HasShape t a.key.src.ty k.source
  pub destination : HasShape t a.key.dst.ty k.destination
  pub source_counted : IsCounted k.source
  pub destination_counted : IsCounted k.destination
  pub moves : CanMoveMember k.source k.destination
  pub from_options : a.key.src.opts ≡ sides.from.options
  pub to_options : a.key.dst.opts ≡ sides.to.options
  pub from_route : k.route.from ≡ record r.from { place = place_of_location a.key.src.loc }
  pub to_route : k.route.to ≡ record r.to { place = place_of_location a.key.dst.loc }

-- ---- fuel

-- the fuel of a function, of which no more is left than it began with
pub record IsFuel (f : Fuel) : Type 0 where
  pub within : f.left ≤ f.initial
  pub small : f.initial ≤ 4294967295

-- These helpers are those of the keys that a translation asks for, in that order, and so much is left of the fuel.
pub record AreTranslated (t : Tables) (sides : Sides) (r : Route) (asks : List AskedHelper) (rest : ℕ) (x : Translated) : Type 0 where
  pub left : x.left ≡ rest
  pub keys : AllZip (IsKeyOf t sides r) asks x.asked

-- Code between such places asks for these helpers, and leaves such fuel, as a translation says, along every route between the places.
pub record TranslatesAs (t : Tables) (sides : Sides) (src : From) (dst : To) (before after : Fuel) (asks : List AskedHelper) (v : ℕ → Route → Translating) : Type 0 where
  pub initial : after.initial ≡ before.initial
  pub less : after.left ≤ before.left
  pub along : (r : Route) → IsRouteOf r src dst → IsFuel before → AreTranslated t sides r asks after.left (v before.initial r before.left)

-- ---- pairs of types

-- what is translated of a pair besides its own cost
abbrev pub translates_inside : (initial : ℕ) → Route → Shape → Shape → Translating
translates_inside i r t (s_plain u) = translates_none
translates_inside i r t (s_node k ns) = translates_members r t k (λ r' ms m. translates_fields i r' ms ns m) (λ x s m. translates_case i r x s ns m)

-- a pair that is translated in place, whatever it costs
abbrev pub translates_in_place : (initial : ℕ) → Route → Shape → Shape → Translating
translates_in_place i r t u n = translates_inside i r t u (n - cost t)

-- the first cases of a source, so many
abbrev pub translates_first : ℕ → Members → (List ℕ → Shape → Translating) → Translating
translates_first zero ms payload = translates_none
translates_first (suc n) no_members payload = translates_none
translates_first (suc n) (bare x ms) payload = translates_first n ms payload
translates_first (suc n) (typed x s ms) payload = translates_then (payload x s) (translates_first n ms payload)

-- ---- shapes of keys

-- Values of a key's shapes that stand on the operand stack have at most 16 flat types, and they hold texts, lists or maps only where all values around do.
pub record FitsKey (from to : MemoryWidth) (any : Bool) (k : HelperKey) : Type 0 where
  pub source_few : k.route.from.place ≡ Stack → length (flat from k.source) ≤ 16
  pub destination_few : k.route.to.place ≡ Stack → length (flat to k.destination) ≤ 16
  pub pairs : has_pointer_pair k.source ≡ true → any ≡ true
