use Rattle.std.proofs.Common.{◌≡◌}
use Rattle.serde_json.specs.View.{items_view}
use Rattle.fact_plan.specs.Parts.{items_from}
use Rattle.fact_plan.proofs.ReadLemmas.{prepend, rest_of}
use Rattle.fact_plan.proofs.parts.SeqFromJson.from_json.Given as goal

abbrev pub invariant-loop-place : goal.invariant-loop-place
invariant-loop-place g l = items_from g.T.FromJson.reads 0 (items_view l.item-items) ≡ prepend l.items (rest_of g.T.FromJson.reads l.item-items l.place)
