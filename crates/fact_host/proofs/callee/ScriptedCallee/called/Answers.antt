use Rattle.std.proofs.Common.{arith}
use Rattle.fact_host.proofs.callee.ScriptedCallee.called.Goals as goal

pub returns-in-Ok-clause-stays : goal.returns-in-Ok-clause-stays
returns-in-Ok-clause-stays c = λ first h. record { results = h.results; wants_memory = λ le. omega arith }

pub returns-in-Err-clause-stays : goal.returns-in-Err-clause-stays
returns-in-Err-clause-stays c = λ first h. record { results = h.results; wants_memory = λ le. omega arith }
