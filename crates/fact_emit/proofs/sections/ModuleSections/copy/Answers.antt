use Rattle.fact_emit.specs.contracts.sections.ModuleSections.{the_view}
use Rattle.fact_emit.proofs.StateLaws.{all_numbered}
use Rattle.fact_emit.proofs.sections.ModuleSections.copy.Goals as goal

pub returns-in_err-module-clause-numbered : goal.returns-in_err-module-clause-numbered
returns-in_err-module-clause-numbered c = all_numbered (the_view c.self.inside) c.args.self.now c.self.view_is _ _ _ c.self.invariant

pub returns-in-Err-clause-numbered : goal.returns-in-Err-clause-numbered
returns-in-Err-clause-numbered c = all_numbered (the_view c.self.inside) c.args.self.now c.self.view_is _ _ _ c.self.invariant

pub returns-clause-numbered : goal.returns-clause-numbered
returns-clause-numbered c = all_numbered (the_view c.self.inside) c.args.self.now c.self.view_is _ _ _ c.self.invariant
