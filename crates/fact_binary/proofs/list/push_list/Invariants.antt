use Rattle.std.proofs.Common.{◌≡◌, ◌++◌, take, drop}
use Rattle.std.specs.List.{flat_map, AllByRecursion}
use Rattle.fact_binary.specs.Grammar.{list}
use Rattle.fact_binary.proofs.list.push_list.Given as goal

abbrev pub invariant-loop-item : goal.invariant-loop-item
invariant-loop-item g l = record {
  fits : AllByRecursion (g.I.Item.fits l.imports) (take l.item-index l.items);
  bytes : l.out.items ++ flat_map (g.I.Item.code l.imports) (drop l.item-index l.items) ≡ l.fn.out.items ++ list (g.I.Item.code l.imports) l.items;
}
