-- Why a conversion is refused where a table takes no entry.
use Rattle.fact_entity.specs.declared.error.PushError.{PushError}
use Rattle.fact_entity.specs.declared.error.PushError.TheVariants as push
use Rattle.fact_builder.specs.declared.error.BuildError.{BuildError}
use Rattle.fact_builder.specs.declared.error.BuildError.TheVariants as build

abbrev pub build_error : PushError → BuildError
build_error push.OutOfMemory = build.OutOfMemory
build_error push.TooLarge = build.TooLarge
