-- laws::laws_of_helpers
use Rattle.fact_code_laws.proofs.HelperMoves.{helper_bodies_move, helper_calls_move}
use Rattle.fact_code_laws.proofs.laws.laws_of_helpers.Goals as goal

pub returns : goal.returns
returns c = record { helper_calls_move = helper_calls_move; helper_bodies_move = helper_bodies_move }
