-- What comes of the resources of the source in a builder: that one is registered, and that one has a table.
use Rattle.std.specs.Prelude.{◌≡◌, ◌⊎◌, ◌+◌, ◌<◌, Option, Some, None}
use Rattle.fact_entity.specs.declared.id.Id.{Id}
use Rattle.fact_entity.specs.declared.table.AbstractResources.{AbstractResources}
use Rattle.fact_entity.specs.declared.table.SourceResources.{SourceResources}
use Rattle.fact_entity.specs.declared.table.TypeResourceTables.{TypeResourceTables}
use Rattle.fact_builder.specs.declared.registration.Registration.{Registration}
use Rattle.fact_builder.specs.declared.registration.Registration.TheVariants as is
use Rattle.fact_builder.specs.declared.error.BuildError.{BuildError}
use Rattle.fact_builder.specs.declared.error.BuildError.TheVariants.{OutOfMemory, TooLarge}
use Rattle.fact_builder.specs.Known.{MakesTable, registration, with_registration}
use Rattle.fact_builder.specs.Builder.{Builder}

-- A resource without a registration is registered as the next abstract one; the first has the number 1.
abbrev pub RegistersNext : Builder → Id SourceResources → Option Registration → Builder → Type 0
RegistersNext a r (Some k) b = b ≡ a
RegistersNext a r None b = (i : Id AbstractResources) × (i.number ≡ a.abstracts + 1) × (a.abstracts < 4294967295) × (b ≡ record a { resources = with_registration a.resources r (is.Abstract i); abstracts = a.abstracts + 1 })

-- Why a resource without a registration may get none: want of memory is free, and abstract ones have at most 4,294,967,295 numbers.
abbrev pub MayRefuseNext : Builder → Id SourceResources → BuildError → Type 0
MayRefuseNext a r e = (registration a.resources r ≡ None) × ((e ≡ OutOfMemory) ⊎ ((e ≡ TooLarge) × (a.abstracts ≡ 4294967295)))

-- A table that is kept stays; a resource without one gets a table of its own. All else stays.
abbrev pub TakesTable : Builder → Id SourceResources → Option (Id TypeResourceTables) → Builder → Type 0
TakesTable a r (Some t) b = b ≡ a
TakesTable a r None b = (i : Id TypeResourceTables) × MakesTable a.resources a.tables r b.resources b.tables i × (b ≡ record a { tables = b.tables; resources = b.resources })
