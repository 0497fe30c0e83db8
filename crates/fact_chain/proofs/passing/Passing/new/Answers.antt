use Rattle.std.proofs.Common.{inl, refl}
use Rattle.fact_chain.proofs.passing.Passing.new.Goals as goal

pub returns-clause-fresh : goal.returns-clause-fresh
returns-clause-fresh c = record { no_error = refl; no_answer = refl; not_given = refl }

pub returns-clause-passes : goal.returns-clause-passes
returns-clause-passes c = record { code = refl; types = refl; second_is = refl; results_are = refl }

pub returns-clause-holds : goal.returns-clause-holds
returns-clause-holds c = inl refl

pub returns-clause-ready : goal.returns-clause-ready
returns-clause-ready c = c.requires
