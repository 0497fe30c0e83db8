use Rattle.fact_kinds.proofs.NodeMoves.{places_checked}
use Rattle.fact_kinds.proofs.places.check_places.Goals as goal

pub returns : goal.returns
returns c = places_checked c.alignment-align.ensures.is c.alignment-align-2.ensures.is c.alignment-align.ensures.small c.alignment-align-2.ensures.small c.in_ok-check_source.ensures c.in_ok-check_target.ensures
