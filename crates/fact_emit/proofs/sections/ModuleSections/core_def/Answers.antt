use Rattle.fact_emit.proofs.TaskItems.{def-imported}
use Rattle.fact_emit.proofs.sections.ModuleSections.core_def.Goals as goal

-- a core definition has no type of its own, and is no prepare-call
pub import-requires : goal.import-requires
import-requires c = record { may = record { typed = λ f e. cc; placed = λ d e. cc } }

pub returns-clause-imported : goal.returns-clause-imported
returns-clause-imported c = def-imported _ _ c.in-Ok.ensures c.in_ok-place.ensures.imported
