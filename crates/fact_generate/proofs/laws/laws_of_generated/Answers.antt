use Rattle.fact_generate.proofs.Faultless.{generated_are_faultless, generated_are_linked}
use Rattle.fact_generate.proofs.laws.laws_of_generated.Goals as goal

pub returns : goal.returns
returns c = record { faultless = generated_are_faultless; linked = generated_are_linked }
