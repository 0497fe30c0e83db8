-- What a module tells of the memories of an adapter, and what texts need of its sides.
use Rattle.std.specs.Prelude.{◌≡◌, Some}
use Rattle.fact_types.specs.Adapters.{LinkedAdapter}
use Rattle.fact_types.specs.declared.outside.CoreDef.{CoreDef}
use Rattle.fact_types.specs.declared.outside.MemoryOption.{MemoryOption}
use Rattle.fact_actions.specs.Order.{HaveTwoMemories}
use Rattle.fact_actions.specs.Running.{ImportPlaces}
use Rattle.fact_actions.specs.Sides.{LiftLowerOptions, options_of}
use Rattle.fact_action_laws.specs.Places.{HasKnownMemory}

-- A module knows the widths of the memories of both sides of an adapter, which are two.
pub record KnowsMemories (p : ImportPlaces) (a : LinkedAdapter) : Type 0 where
  pub lower : HasKnownMemory p a.lower.memory
  pub lift : HasKnownMemory p a.lift.memory
  pub two : HaveTwoMemories p (options_of a.lower) (options_of a.lift)

-- What texts need of the sides of a transfer: memories of both, and a realloc of the destination.
pub record HasMeans (from to : LiftLowerOptions) : Type 0 where
  pub memory : MemoryOption
  pub room : MemoryOption
  pub realloc : CoreDef
  pub memory_is : from.memory ≡ Some memory
  pub room_is : to.memory ≡ Some room
  pub realloc_is : to.realloc ≡ Some realloc
