-- Parameters that are handed on as they are: each has one core value, which is carried as it stands.
use Rattle.std.specs.Prelude.{◌≡◌, ◌≤◌, Bool, true, false, List, length, map}
use Rattle.std.specs.List.{list_all}
use Rattle.fact_types.specs.declared.interface.InterfaceType.{InterfaceType}
use Rattle.fact_types.specs.declared.interface.InterfaceType.TheVariants as ty
use Rattle.fact_types.specs.Shapes.{Shape, s_plain}

-- the numbers of 32 and of 64 bits
abbrev pub is_passed_on : InterfaceType → Bool
is_passed_on ty.S32 = true
is_passed_on ty.U32 = true
is_passed_on ty.S64 = true
is_passed_on ty.U64 = true
is_passed_on ty.Float32 = true
is_passed_on ty.Float64 = true
is_passed_on _ = false

-- parameters that are the same such types on both sides, at most 16
pub record ArePassedOn (from to : List Shape) : Type 0 where
  pub types : List InterfaceType
  pub all : list_all is_passed_on types ≡ true
  pub few : length types ≤ 16
  pub from_are : from ≡ map (λ t. s_plain t) types
  pub to_are : to ≡ map (λ t. s_plain t) types
