-- What adapters that the checks let pass have for the code that is written for them.
use Rattle.fact_types.specs.Adapters.{LinkedAdapter}
use Rattle.fact_actions.specs.AdapterLaws.{HasCountedTypes}
use Rattle.fact_compound.specs.Described.{CanMoveTuple}
use Rattle.fact_compound.specs.Placed.{HasMemoriesFor}
use Rattle.fact_assembly.specs.Sound.{IsSoundAdapter}

-- Code can be written that moves the parameters and the results: each side has the memories and the realloc that values are moved through.
pub record IsWritable (a : LinkedAdapter) : Type 0 where
  pub counted : HasCountedTypes a
  pub params : CanMoveTuple a.lower.params a.lift.params
  pub results : CanMoveTuple a.lift.results a.lower.results
  pub memories : HasMemoriesFor a

-- An adapter that the checks let pass is one of this kind.
abbrev pub SoundAreWritable : Type 0
SoundAreWritable = (a : LinkedAdapter) → IsSoundAdapter a → IsWritable a
