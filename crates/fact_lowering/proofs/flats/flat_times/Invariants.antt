use Rattle.std.proofs.Common.{◌≡◌, ◌≤◌, ◌++◌, ◌-◌, length}
use Rattle.fact_types.specs.FlatShapes.{times}
use Rattle.fact_lowering.proofs.flats.flat_times.Given as goal

abbrev pub invariant-loop : goal.invariant-loop
invariant-loop l = record {
  list : l.all.items ++ times (l.count - l.counter) l.flat ≡ times l.count l.flat;
  few : length l.all.items ≤ 16;
}
