-- The resources that an import or export makes known, in the order in which a walk meets them, and what it does to each.
use Rattle.std.specs.Prelude.{◌≡◌, ◌⊎◌, ℕ, suc, List, [], ◌∷◌, ◌++◌, Option, Some, None, IsSome, flat_map}
use Rattle.fact_entity.specs.declared.id.Id.{Id}
use Rattle.fact_entity.specs.declared.table.SourceResources.{SourceResources}
use Rattle.fact_entity.specs.declared.source_ids.ComponentAnyTypeId.{ComponentAnyTypeId}
use Rattle.fact_entity.specs.declared.source_ids.ComponentAnyTypeId.TheVariants as any
use Rattle.fact_source.specs.declared.items.ComponentEntityType.{ComponentEntityType}
use Rattle.fact_source.specs.declared.items.ComponentEntityType.TheVariants as entity
use Rattle.fact_source.specs.declared.items.SourceItem.{SourceItem}
use Rattle.fact_source.specs.declared.items.SourceInstance.{SourceInstance}
use Rattle.fact_source.specs.SourceTables.{SourceTables, instance_at}
use Rattle.fact_source.specs.Live.{reach_of}
use Rattle.fact_builder.specs.declared.registration.Registration.{Registration}
use Rattle.fact_builder.specs.Known.{KnownResources, registration, with_registration}

-- The names of the exports that lead to an item, outermost first.
abbrev pub ExportPath : Type 0
ExportPath = List (List ℕ)

abbrev pub exports_of : Option SourceInstance → List (List ℕ × SourceItem)
exports_of None = []
exports_of (Some e) = e.exports

abbrev pub resource_in : ExportPath → ComponentAnyTypeId → List (ExportPath × Id SourceResources)
resource_in path (any.Resource id) = (path, id) ∷ []
resource_in path i = []

-- The resources of an item within so many instances, each with its path: a resource type itself, and those of the exports
-- of an instance. Functions, values, modules, components and other types make no resource known.
abbrev pub resources_within : ℕ → SourceTables → ExportPath → ComponentEntityType → List (ExportPath × Id SourceResources)
resources_within n s path (entity.AnyType i) = resource_in path i
resources_within (suc n) s path (entity.Instance i) = flat_map (λ x. resources_within n s (path ++ x.0 ∷ []) x.1.ty) (exports_of (instance_at s i))
resources_within n s path _ = []

-- All of them: an item lies within no more instances than it reaches.
abbrev pub resources_of : SourceTables → ExportPath → ComponentEntityType → List (ExportPath × Id SourceResources)
resources_of s path e = resources_within (reach_of s e) s path e

-- Each resource without a registration is told to a closure by its path, in order, and registered as what it answers; a
-- resource with a registration is passed over. A call is a step of the closure's state.
abbrev pub RegistersEach : {F : Type 0} → (F → ExportPath → Registration → F → Type 0) → F → KnownResources → List (ExportPath × Id SourceResources) → F → KnownResources → Type 0
RegistersEach Step f r [] g new = (g ≡ f) × (new ≡ r)
RegistersEach {F} Step f r (x ∷ xs) g new = (IsSome (registration r x.1) × RegistersEach Step f r xs g new) ⊎ ((registration r x.1 ≡ None) × ((k : Registration) × (h : F) × Step f x.0 k h × RegistersEach Step h (with_registration r x.1 k) xs g new))

-- For want of memory a walk may end early, behind the first so many.
abbrev pub RegistersFirst : {F : Type 0} → (F → ExportPath → Registration → F → Type 0) → F → KnownResources → List (ExportPath × Id SourceResources) → F → KnownResources → Type 0
RegistersFirst Step f r xs g new = (first : List (ExportPath × Id SourceResources)) × (rest : List (ExportPath × Id SourceResources)) × (xs ≡ first ++ rest) × RegistersEach Step f r first g new

-- The closure is called at the path, and the resource is registered as what it answers: a resource that can have values, or
-- an abstract one.
abbrev pub RegistersAnswer : {F I : Type 0} → (I → Registration) → (F → ExportPath → I → F → Type 0) → F → ExportPath → Registration → F → Type 0
RegistersAnswer {I = I} registered CalledAt f path k g = (i : I) × CalledAt f path i g × (k ≡ registered i)
