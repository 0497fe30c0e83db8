use Rattle.fact_adapter_rules.proofs.FrontLaws.{IsFront-itself}
use Rattle.fact_adapter_rules.specs.AdapterRules.{adapter_memories}
use Rattle.fact_adapter_rules.proofs.Decisions.{unless-not}
use Rattle.fact_adapter_rules.proofs.StageLaws.{bound-exactly, bound-with}
use Rattle.fact_adapter_rules.proofs.bound.shares_memory.Goals as goal

pub returns-in_err-pairs-clause-front : goal.returns-in_err-pairs-clause-front
returns-in_err-pairs-clause-front c = IsFront-itself _

pub returns-clause-exact : goal.returns-clause-exact
returns-clause-exact c = λ b before a h ms. bound-exactly adapter_memories before a _ _ _ (c.in_ok-pairs.ensures b a h) _ c.in_ok-fits.ensures.binds ms

pub returns-clause-bound : goal.returns-clause-bound
returns-clause-bound c = λ fits b before a h ms. bound-with adapter_memories before a _ _ _ (c.in_ok-pairs.ensures b a h) _ c.in_ok-fits.ensures.binds (unless-not _ fits) ms
