use Rattle.std.proofs.Common.{◌≡◌, drop}
use Rattle.serde_json.specs.View.{view}
use Rattle.fact_plan.specs.Parts.{required_keys}
use Rattle.fact_value_json.proofs.parts.check_required.Given as goal

abbrev pub invariant-loop-name : goal.invariant-loop-name
invariant-loop-name l = required_keys l.names (view l.json) ≡ required_keys (drop l.name-index l.names) (view l.json)
