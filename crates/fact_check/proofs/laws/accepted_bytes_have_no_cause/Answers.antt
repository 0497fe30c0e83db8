use Rattle.fact_check.proofs.Causes.{none_told}
use Rattle.fact_check.proofs.laws.accepted_bytes_have_no_cause.Goals as goal

pub returns : goal.returns
returns c bytes m e a told h = none_told bytes m a.in_range a.spelled (λ x r s. c.bytes_spell_one_module.ensures bytes m x a.in_range r a.spelled s) a.is_adapter e told h
