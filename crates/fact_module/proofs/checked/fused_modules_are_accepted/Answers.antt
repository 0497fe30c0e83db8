use Rattle.fact_module.proofs.AdapterImports.{fused_are_accepted}
use Rattle.fact_module.proofs.checked.fused_modules_are_accepted.Goals as goal

pub returns : goal.returns
returns c = fused_are_accepted
