use Rattle.std.proofs.Common.{◌≡◌, ◌≤◌, ◌++◌, length, take}
use Rattle.fact_builder.proofs.flat_list.FlatList.followed_by.Given as goal

abbrev pub invariant-loop-ty : goal.invariant-loop-ty
invariant-loop-ty l = record {
  list : l.all ≡ l.self ++ take l.ty-index l.others;
  few : length l.all ≤ 16;
}
