use Rattle.std.proofs.Common.{◌≡◌, ◌++◌}
use Rattle.fact_kinds.specs.FlagPlaces.{bit_places_of}
use Rattle.fact_kinds.proofs.flags.bit_places.Given as goal

abbrev pub invariant-loop-name : goal.invariant-loop-name
invariant-loop-name l = l.places.items ++ bit_places_of l.names.keys l.name-iterator ≡ bit_places_of l.names.keys l.others.keys
