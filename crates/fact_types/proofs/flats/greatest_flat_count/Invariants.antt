use Rattle.std.proofs.Common.{◌≡◌, map, drop}
use Rattle.fact_types.specs.Flat.{greater_flat, flat_greatest}
use Rattle.fact_types.specs.Layout.{payloads}
use Rattle.fact_types.proofs.flats.greatest_flat_count.Given as goal

abbrev pub invariant-loop-case : goal.invariant-loop-case
invariant-loop-case l =
    greater_flat l.greatest (flat_greatest (map (λ p. p.flat_count) (payloads (drop l.case-index l.cases)))) ≡ flat_greatest (map (λ p. p.flat_count) (payloads l.cases))
