use Rattle.std.proofs.Common.{◌≡◌, take}
use Rattle.fact_plan_types.proofs.members.set_of_names.Given as goal

abbrev pub invariant-loop-name : goal.invariant-loop-name
invariant-loop-name l = l.distinct.keys ≡ take l.name-index l.names
