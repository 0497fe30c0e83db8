use Rattle.fact_value_json.proofs.ReadLaws.{FlagsMade}
use Rattle.fact_value_json.proofs.parts.flags_set.Given as goal

abbrev pub invariant-loop-name : goal.invariant-loop-name
invariant-loop-name l = FlagsMade l.names l.given l.name-index l.flags
