use Rattle.std.proofs.Common.{◌≡◌, ◌++◌, length}
use Rattle.std.specs.List.{AllByRecursion, flat_map}
use Rattle.fact_binary.proofs.Items.{GoesOn}
use Rattle.fact_binary.proofs.read_list.items_at.Given as goal

abbrev pub invariant-loop : goal.invariant-loop
invariant-loop g l = record {
  count : length l.items.items ≡ l.counter;
  each : AllByRecursion (g.I.ReadItem.fits l.imports) l.items.items;
  bytes : l.bytes ≡ flat_map (g.I.ReadItem.code l.imports) l.items.items ++ l.left;
  all : GoesOn (g.I.ReadItem.code l.imports) (g.I.ReadItem.fits l.imports) l.count l.bytes l.items.items l.left;
}
