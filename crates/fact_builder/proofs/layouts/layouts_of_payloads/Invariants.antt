use Rattle.std.proofs.Common.{◌≡◌, map, take}
use Rattle.std.specs.Prelude.{option_map}
use Rattle.fact_types.specs.Tables.{abi_at}
use Rattle.fact_builder.proofs.layouts.layouts_of_payloads.Given as goal

abbrev pub invariant-loop-payload : goal.invariant-loop-payload
invariant-loop-payload l = l.layouts.items ≡ map (option_map (abi_at l.builder.tables)) (take l.payload-index l.payloads)
