-- What contracts see of types whose members stand in ordered maps and sets: their lists.
use Rattle.std.specs.Prelude.{ℕ, List, Option}
use Rattle.fact_types.specs.declared.abi.CanonicalAbiInfo.{CanonicalAbiInfo}
use Rattle.fact_types.specs.declared.interface.InterfaceType.{InterfaceType}
use Rattle.fact_types.specs.declared.variants.VariantInfo.{VariantInfo}

-- A variant: its cases by name, in order, with their payloads.
pub record VariantType : Type 0 where
  pub cases : List (List ℕ × Option InterfaceType)
  pub abi : CanonicalAbiInfo
  pub info : VariantInfo

-- Flags: their names, in order.
pub record FlagsType : Type 0 where
  pub names : List (List ℕ)
  pub abi : CanonicalAbiInfo

-- An enum: its names, in order.
pub record EnumType : Type 0 where
  pub names : List (List ℕ)
  pub abi : CanonicalAbiInfo
  pub info : VariantInfo
