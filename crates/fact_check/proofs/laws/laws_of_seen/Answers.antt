use Rattle.fact_check.proofs.SeenTyped.{runs_see_typed}
use Rattle.fact_check.proofs.laws.laws_of_seen.Goals as goal

pub returns : goal.returns
returns c = runs_see_typed
