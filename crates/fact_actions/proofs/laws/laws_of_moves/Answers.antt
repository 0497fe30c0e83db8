-- laws::laws_of_moves
use Rattle.fact_actions.proofs.AlikeRuns.{moves_are_alike}
use Rattle.fact_actions.proofs.FlagBits.{bits_go_by_name, other_bits_are_zero}
use Rattle.fact_actions.proofs.GivenSlots.{moves_fill_slots}
use Rattle.fact_actions.proofs.laws.laws_of_moves.Goals as goal

pub returns : goal.returns
returns c = record { bits_go_by_name = bits_go_by_name; other_bits_are_zero = other_bits_are_zero; moves_are_alike = moves_are_alike; moves_fill_slots = moves_fill_slots }
