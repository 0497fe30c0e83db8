-- What types are called, and what a table of handles is made of.
use Rattle.std.specs.Prelude.{ℕ, List, Option, Some, None, codes}
use Rattle.fact_entity.specs.declared.id.Id.{Id}
use Rattle.fact_entity.specs.declared.table.Resources.{Resources}
use Rattle.fact_entity.specs.declared.table.RuntimeComponentInstances.{RuntimeComponentInstances}
use Rattle.fact_types.specs.declared.interface.TypeDef.{TypeDef}
use Rattle.fact_types.specs.declared.interface.TypeDef.TheVariants.{Component, ComponentInstance, ComponentFunc, Interface, Module, CoreFunc, Resource}
use Rattle.fact_types.specs.declared.kinds.TypeResourceTable.{TypeResourceTable}
use Rattle.fact_types.specs.declared.kinds.TypeResourceTable.TheVariants.{Concrete, Abstract}

-- What an import or export is, in words.
abbrev pub described : TypeDef → List ℕ
described (Component i) = codes "component"
described (ComponentInstance i) = codes "instance"
described (ComponentFunc i) = codes "function"
described (Interface t) = codes "type"
described (Module i) = codes "core module"
described (CoreFunc i) = codes "core function"
described (Resource i) = codes "resource"

-- The resource type and the instance of a concrete table; an abstract one has none.
abbrev pub concrete_parts : TypeResourceTable → Option (Id Resources × Id RuntimeComponentInstances)
concrete_parts (Concrete ty instance) = Some (ty, instance)
concrete_parts (Abstract i) = None
