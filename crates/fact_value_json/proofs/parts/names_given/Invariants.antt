use Rattle.std.proofs.Common.{◌≡◌, [], drop}
use Rattle.serde_json.specs.View.{items_view}
use Rattle.fact_value_json.specs.Reading.{names_from}
use Rattle.fact_value_json.proofs.parts.names_given.Given as goal

abbrev pub invariant-loop-place : goal.invariant-loop-place
invariant-loop-place l = names_from l.names [] 0 (items_view l.item-items) ≡ names_from l.names l.given l.place (items_view (drop l.place l.item-items))
