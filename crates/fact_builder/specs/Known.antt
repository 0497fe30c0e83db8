-- What contracts see of the resources of the source: which tables are kept for them, and what they are known to be.
use Rattle.std.specs.Prelude.{◌≡◌, ◌≢◌, ◌⊎◌, ◌<◌, ◌++◌, ◌∷◌, [], List, All, Option, Some, None, Result, Ok, Err, nat_eq, length}
use Rattle.std.specs.Map.{lookup}
use Rattle.fact_entity.specs.declared.id.Id.{Id}
use Rattle.fact_entity.specs.declared.table.SourceResources.{SourceResources}
use Rattle.fact_entity.specs.declared.table.TypeResourceTables.{TypeResourceTables}
use Rattle.fact_entity.specs.declared.table.RuntimeComponentInstances.{RuntimeComponentInstances}
use Rattle.fact_types.specs.declared.kinds.TypeResourceTable.{TypeResourceTable}
use Rattle.fact_types.specs.declared.kinds.TypeResourceTable.TheVariants as table
use Rattle.fact_types.specs.Tables.{Tables}
use Rattle.fact_builder.specs.declared.error.BuildError.{BuildError}
use Rattle.fact_builder.specs.declared.error.BuildError.TheVariants.{OutOfMemory, TooLarge, UnknownResource, NoInstance}
use Rattle.fact_builder.specs.declared.registration.Registration.{Registration}
use Rattle.fact_builder.specs.declared.registration.Registration.TheVariants as is

-- The tables that are kept for resources, what resources are registered as, each in order, and the instance that is set.
pub record KnownResources : Type 0 where
  pub tables : List (Id SourceResources × Id TypeResourceTables)
  pub registered : List (Id SourceResources × Registration)
  pub instance : Option (Id RuntimeComponentInstances)

-- Nothing is known.
abbrev pub no_resources : KnownResources
no_resources = record { tables = []; registered = []; instance = None }

-- What is known of a resource.
abbrev pub value_for : {V : Type 0} → List (Id SourceResources × V) → Id SourceResources → Option V
value_for xs id = lookup (λ q. nat_eq id.number q.number) xs

-- The table that is kept for a resource, and what it is registered as.
abbrev pub kept_table : KnownResources → Id SourceResources → Option (Id TypeResourceTables)
kept_table r id = value_for r.tables id

abbrev pub registration : KnownResources → Id SourceResources → Option Registration
registration r id = value_for r.registered id

-- One more resource that has a table, and one more that is registered.
abbrev pub with_table : KnownResources → Id SourceResources → Id TypeResourceTables → KnownResources
with_table r id t = record r { tables = r.tables ++ (id, t) ∷ [] }

abbrev pub with_registration : KnownResources → Id SourceResources → Registration → KnownResources
with_registration r id k = record r { registered = r.registered ++ (id, k) ∷ [] }

-- The tables that are kept, and the instance that is set, stay.
pub record KeepsTables (old new : KnownResources) : Type 0 where
  pub tables : new.tables ≡ old.tables
  pub instance : new.instance ≡ old.instance

-- Each table that is kept is there.
abbrev pub AreKeptLive : KnownResources → Tables → Type 0
AreKeptLive r t = All (λ x. x.1.number < length t.resource_tables) r.tables

-- The table that a resource without one gets: that of an abstract resource belongs to no instance, that of a concrete one to
-- the instance that is set.
abbrev pub new_table_of : Option Registration → Option (Id RuntimeComponentInstances) → Result TypeResourceTable BuildError
new_table_of None instance = Err UnknownResource
new_table_of (Some (is.Abstract a)) instance = Ok (table.Abstract a)
new_table_of (Some (is.Concrete c)) None = Err NoInstance
new_table_of (Some (is.Concrete c)) (Some n) = Ok (table.Concrete c n)

abbrev pub new_table : KnownResources → Id SourceResources → Result TypeResourceTable BuildError
new_table r id = new_table_of (registration r id) r.instance

-- A table was made for a resource without one, where there was room: it stands behind the last, and is kept for the resource.
pub record MakesTable (r : KnownResources) (t : Tables) (id : Id SourceResources) (u : KnownResources) (v : Tables) (i : Id TypeResourceTables) : Type 0 where
  pub table : TypeResourceTable
  pub asked : new_table r id ≡ Ok table
  pub room : length t.resource_tables ≢ 4294967295
  pub place : i.number ≡ length t.resource_tables
  pub kept : u ≡ with_table r id i
  pub added : v ≡ record t { resource_tables = t.resource_tables ++ table ∷ [] }

-- Why a resource without a table may be refused one; want of memory is free.
abbrev pub MayRefuseTable : KnownResources → Tables → Id SourceResources → BuildError → Type 0
MayRefuseTable r t id e = (e ≡ OutOfMemory) ⊎ (((e ≡ TooLarge) × ((x : TypeResourceTable) × (new_table r id ≡ Ok x)) × (length t.resource_tables ≡ 4294967295)) ⊎ (new_table r id ≡ Err e))
