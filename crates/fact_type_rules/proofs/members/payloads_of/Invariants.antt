use Rattle.std.proofs.Common.{◌≡◌, take}
use Rattle.fact_types.specs.Layout.{payloads}
use Rattle.fact_type_rules.proofs.members.payloads_of.Given as goal

abbrev pub invariant-loop-payload : goal.invariant-loop-payload
invariant-loop-payload l = l.types.items ≡ payloads (take l.payload-index l.payload-items)
