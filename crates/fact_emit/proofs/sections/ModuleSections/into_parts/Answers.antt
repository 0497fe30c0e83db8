use Rattle.fact_emit.specs.contracts.sections.ModuleSections.{the_view}
use Rattle.fact_emit.proofs.StateLaws.{all_numbered}
use Rattle.fact_emit.proofs.sections.ModuleSections.into_parts.Goals as goal

pub returns-in-Ok-clause-numbered : goal.returns-in-Ok-clause-numbered
returns-in-Ok-clause-numbered c = all_numbered (the_view c.self.inside) c.args.self c.self.view_is _ _ _ c.self.invariant

pub returns-in-Err-clause-numbered : goal.returns-in-Err-clause-numbered
returns-in-Err-clause-numbered c = all_numbered (the_view c.self.inside) c.args.self c.self.view_is _ _ _ c.self.invariant
