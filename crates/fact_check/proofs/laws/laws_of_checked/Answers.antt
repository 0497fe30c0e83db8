use Rattle.fact_check.proofs.NeverStuck.{well_typed_is_never_stuck}
use Rattle.fact_check.proofs.laws.laws_of_checked.Goals as goal

pub returns : goal.returns
returns c = well_typed_is_never_stuck
