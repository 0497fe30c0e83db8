use Rattle.fact_adapter_rules.specs.AdapterRules.{uses_of}
use Rattle.fact_adapter_rules.proofs.Decisions.{denied, granted, here, there, unless-not}
use Rattle.fact_adapter_rules.proofs.StageLaws.{bound-exactly, bound-with}
use Rattle.fact_adapter_rules.proofs.UseLaws.{exact_use}
use Rattle.fact_adapter_rules.proofs.bound.has_import_conflict.Goals as goal

pub bind_all-requires : goal.bind_all-requires
bind_all-requires c = record { exact = exact_use }

pub returns-then-is_callee_twice-clause-exact : goal.returns-then-is_callee_twice-clause-exact
returns-then-is_callee_twice-clause-exact c = λ before a h us. here _ _ (granted _ _ (c.is_callee_twice.ensures _ a h) c.if-is_callee_twice.true)

pub returns-clause-exact : goal.returns-clause-exact
returns-clause-exact c = λ before a h us.
    there _ _ _ (denied _ _ (c.is_callee_twice.ensures _ a h) c.if-is_callee_twice.false) (bound-exactly uses_of before a _ _ _ (c.in_ok-pairs.ensures a h) _ c.in_ok-fits.ensures.binds us)

pub returns-clause-bound : goal.returns-clause-bound
returns-clause-bound c = λ fits before a h us. bound-with uses_of before a _ _ _ (c.in_ok-pairs.ensures a h) _ c.in_ok-fits.ensures.binds (unless-not _ fits) us
