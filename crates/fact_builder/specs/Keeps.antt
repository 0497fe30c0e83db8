-- What stays when a builder grows.
use Rattle.std.specs.Prelude.{List}
use Rattle.fact_entity.specs.declared.id.Id.{Id}
use Rattle.fact_entity.specs.declared.table.TypeFuncs.{TypeFuncs}
use Rattle.fact_types.specs.declared.interface.InterfaceType.{InterfaceType}
use Rattle.fact_types.specs.Functions.{HasSignature}
use Rattle.fact_types.specs.Shapes.{Shape}
use Rattle.fact_types.specs.Tables.{Tables, IsLive, HasShape}

-- Live types stay live, types keep their shapes, and functions those of their parameters and results.
pub record Keeps (old new : Tables) : Type 0 where
  pub live : (ty : InterfaceType) → IsLive old ty → IsLive new ty
  pub shapes : (ty : InterfaceType) (s : Shape) → HasShape old ty s → HasShape new ty s
  pub signatures : (i : Id TypeFuncs) (params results : List Shape) → HasSignature old i params results → HasSignature new i params results
