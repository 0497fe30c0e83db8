-- What code that moves tuples asks for, and what it takes of the fuel of its function.
use Rattle.std.specs.Prelude.{◌≡◌, ◌≤◌, Bool, true, false, List}
use Rattle.fact_types.specs.Shapes.{Shape}
use Rattle.fact_types.specs.Tables.{Tables}
use Rattle.fact_types.specs.Tuples.{tuple_members}
use Rattle.fact_actions.specs.Outlining.{Memory, Route, Stack, ValuePlace, translates_fields}
use Rattle.fact_emit.specs.Asked.{AskedHelper}
use Rattle.fact_emit.specs.declared.places.Sides.{Sides}
use Rattle.fact_kinds.specs.Translations.{AreTranslated, IsFuel}
use Rattle.fact_kinds.specs.declared.fuel.Fuel.{Fuel}

-- where values are that are flat, or not
abbrev pub place_of_flat : Bool → ValuePlace
place_of_flat true = Stack
place_of_flat false = Memory

-- a route from such a place to such a place
pub record IsRouteFlat (r : Route) (source destination : Bool) : Type 0 where
  pub from_place : r.from.place ≡ place_of_flat source
  pub to_place : r.to.place ≡ place_of_flat destination

-- Code that moves the members of a tuple to those of another one, where the values are flat or not, asks for the helpers of the keys that the translation
-- of the members asks for, in that order, and leaves such fuel.
pub record TranslatesTuple (t : Tables) (sides : Sides) (source destination : Bool) (given taken : List Shape) (before after : Fuel) (asks : List AskedHelper) : Type 0 where
  pub initial : after.initial ≡ before.initial
  pub less : after.left ≤ before.left
  pub along : (r : Route) → IsRouteFlat r source destination → IsFuel before → AreTranslated t sides r asks after.left (translates_fields before.initial r (tuple_members given) (tuple_members taken) before.left)

-- the fuel of a function of which nothing is written yet
pub record IsFullFuel (f : Fuel) : Type 0 where
  pub full : f.left ≡ f.initial
  pub small : f.initial ≤ 4294967295
