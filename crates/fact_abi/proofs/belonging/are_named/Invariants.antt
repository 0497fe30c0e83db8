use Rattle.std.proofs.Common.{◌≡◌, ◌↔◌, drop}
use Rattle.std.specs.Prelude.{map}
use Rattle.fact_abi.proofs.belonging.are_named.Given as goal

abbrev pub invariant-loop-place : goal.invariant-loop-place
invariant-loop-place g l = (map (λ f. f.0) l.items ≡ l.names) ↔ (drop l.place (map (λ f. f.0) l.items) ≡ drop l.place l.names)
