use Rattle.std.proofs.Common.{◌≡◌, ◌≤◌, length, take}
use Rattle.fact_types.specs.FlatShapes.{joined}
use Rattle.fact_builder.proofs.flat_list.FlatList.joined_with.Given as goal

abbrev pub invariant-loop-place : goal.invariant-loop-place
invariant-loop-place l = record {
  list : l.all ≡ joined (take l.place l.self) (take l.place l.others);
  few : length l.all ≤ l.place;
}
