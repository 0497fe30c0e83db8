use Rattle.std.proofs.Common.{◌≡◌, ◌≤◌, length}
use Rattle.fact_types.specs.FlatShapes.{times}
use Rattle.fact_builder.proofs.flat_list.FlatList.repeated.Given as goal

abbrev pub invariant-loop : goal.invariant-loop
invariant-loop l = record {
  list : l.all ≡ times l.counter l.self;
  few : length l.all ≤ 16;
}
