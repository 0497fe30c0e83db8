use Rattle.std.proofs.Common.{◌≡◌, ◌≤◌, map, drop}
use Rattle.std.specs.Prelude.{IfSome}
use Rattle.fact_types.specs.Flat.{add_flat, flat_sum}
use Rattle.fact_types.proofs.flats.sum_of_flat_counts.Given as goal

abbrev pub invariant-loop-field : goal.invariant-loop-field
invariant-loop-field l = record {
  rest : add_flat l.sum (flat_sum (map (λ f. f.flat_count) (drop l.field-index l.fields))) ≡ flat_sum (map (λ f. f.flat_count) l.fields);
  within : IfSome l.sum (λ n. n ≤ 16);
}
