use Rattle.fact_chain.proofs.PassedLaws.{kept_error, kept_outcome}
use Rattle.fact_host.specs.declared.callee.HostError.TheVariants.{OutOfMemory}
use Rattle.fact_chain.proofs.passing.kept_of.Goals as goal

pub returns-in-Ok : goal.returns-in-Ok
returns-in-Ok c = λ m t second results h. kept_outcome m t second c.args.given results c.args.outcome c.in-Ok.values c.answer_of.result c.in-Ok.ensures c.answer_of.ensures h

pub returns-in-Err : goal.returns-in-Err
returns-in-Err c = λ m t second results h. kept_error m t second c.args.given results OutOfMemory (λ s shapes. tt)
