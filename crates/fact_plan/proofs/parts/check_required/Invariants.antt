use Rattle.std.proofs.Common.{◌≡◌, map, drop}
use Rattle.serde_json.specs.View.{view}
use Rattle.fact_plan.specs.Parts.{required_keys}
use Rattle.fact_plan.proofs.parts.check_required.Given as goal

abbrev pub invariant-loop-key : goal.invariant-loop-key
invariant-loop-key l = required_keys (map (λ k. k.now) l.keys) (view l.object) ≡ required_keys (map (λ k. k.now) (drop l.key-index l.keys)) (view l.object)
