use Rattle.fact_abi.proofs.WalkLaws.{Ordered}
use Rattle.fact_abi.proofs.carrying.flags_in_order.Given as goal

abbrev pub invariant-loop-name : goal.invariant-loop-name
invariant-loop-name l = Ordered l.names l.flags l.name-index l.ordered
