-- What a change of the core function types or of the resources through a reference makes of the builder.
use Rattle.std.specs.Prelude.{List}
use Rattle.std.specs.Borrow.{Lends, MutBor, Fml}
use Rattle.fact_wasm.specs.declared.types.FuncType.{FuncType}
use Rattle.fact_types.specs.contracts.module_types.ModuleTypesBuilder.{the_row as types_row}
use Rattle.fact_builder.specs.contracts.builder.ComponentTypesBuilder.{the_row as builder_row}
use Rattle.fact_builder.specs.Known.{KnownResources}
use Rattle.fact_builder.specs.contracts.known_resources.ResourcesBuilder.{the_row as resources_row}
use Rattle.fact_builder.specs.Builder.{Builder}

-- The builder ends with the core function types that were left behind r.
abbrev pub LendsModuleTypes : MutBor Builder → MutBor (List FuncType) → Fml
LendsModuleTypes s r = Lends builder_row types_row s r (λ w. record s.now { module_types = w })

-- The builder ends with what is known of the resources behind r.
abbrev pub LendsResources : MutBor Builder → MutBor KnownResources → Fml
LendsResources s r = Lends builder_row resources_row s r (λ w. record s.now { resources = w })
