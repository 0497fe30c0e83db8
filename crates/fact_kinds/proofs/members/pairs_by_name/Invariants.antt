use Rattle.std.specs.Prelude.{◌≡◌, map, take}
use Rattle.fact_kinds.specs.MemberPairs.{place_named, pair_named}
use Rattle.fact_kinds.proofs.members.pairs_by_name.Given as goal

abbrev pub invariant-loop-field : goal.invariant-loop-field
invariant-loop-field l = l.pairs.items ≡ map (pair_named (place_named l.places)) (take l.field-index l.fields)
