-- What texts need on both sides of a transfer.
use Rattle.std.specs.Prelude.{◌≡◌, ℕ, Option, Some, slice_get}
use Rattle.fact_types.specs.declared.outside.CoreDef.{CoreDef}
use Rattle.fact_types.specs.declared.outside.MemoryOption.{MemoryOption}
use Rattle.fact_action_laws.specs.Regions.{TransferSetting}

-- Both sides have memories, whose widths the places know, and the destination has a realloc.
pub record IsEquipped (c : TransferSetting) : Type 0 where
  pub from : MemoryOption
  pub to : MemoryOption
  pub realloc : CoreDef
  pub from_page : Option ℕ
  pub to_page : Option ℕ
  pub from_is : c.transfer.from.memory ≡ Some from
  pub to_is : c.transfer.to.memory ≡ Some to
  pub realloc_is : c.transfer.to.realloc ≡ Some realloc
  pub from_known : slice_get c.places.memory_types (c.places.memory from.def) ≡ Some (from.memory64, from_page)
  pub to_known : slice_get c.places.memory_types (c.places.memory to.def) ≡ Some (to.memory64, to_page)
