use Rattle.std.proofs.Common.{◌∙◌}
use Rattle.fact_wasm.specs.declared.module.ImportType.TheVariants as import_type
use Rattle.fact_emit.specs.States.{import_as}
use Rattle.fact_emit.proofs.TaskItems.{runtime-imported}
use Rattle.fact_emit.proofs.sections.ModuleSections.import_runtime.Goals as goal

-- a function of the runtime has the type of its number
pub import-requires : goal.import-requires
import-requires c = record { may = record { typed = λ f e. c.requires ∙ e; placed = λ d e. cc } }

pub returns-clause-imported : goal.returns-clause-imported
returns-clause-imported c = runtime-imported c.args.function (λ i. import_as (c.origin.ensures i) c.args.name.now (import_type.Func c.args.ty)) c.in_ok-place.ensures.imported
