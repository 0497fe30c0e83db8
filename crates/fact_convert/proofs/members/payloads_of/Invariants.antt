use Rattle.std.proofs.Common.{◌≡◌, take}
use Rattle.std.specs.Prelude.{flat_map, option_to_list}
use Rattle.fact_convert.proofs.members.payloads_of.Given as goal

abbrev pub invariant-loop-payload : goal.invariant-loop-payload
invariant-loop-payload l = l.types ≡ flat_map (λ x. option_to_list x.1) (take l.payload-index l.cases)
