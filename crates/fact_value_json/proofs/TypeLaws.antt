-- The type of the member of a place.
use Rattle.std.proofs.Common.{◌≡◌, ℕ, List, Option, Some, ap}
use Rattle.std.specs.Prelude.{slice_get}
use Rattle.fact_types.specs.declared.interface.InterfaceType.{InterfaceType}
use Rattle.fact_types.specs.Options.{◌>>=◌}
use Rattle.fact_abi.specs.Finding.{member_type_at}

pub member_type_is : (types : List (Option InterfaceType)) (i : ℕ) (o : Option InterfaceType) → slice_get types i ≡ Some o → member_type_at types i ≡ o
member_type_is types i o at = ap (λ r. r >>= (λ o. o)) at
