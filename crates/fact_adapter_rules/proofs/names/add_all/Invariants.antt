use Rattle.std.proofs.Common.{true, ◌≡◌, ◌++◌}
use Rattle.std.specs.Vec.Iter.{into_iter_items}
use Rattle.fact_adapter_rules.specs.Fronts.{IsFront}
use Rattle.fact_adapter_rules.specs.AddedBindings.{AddsNames}
use Rattle.fact_adapter_rules.proofs.names.add_all.Given as goal

abbrev pub invariant-loop-name : goal.invariant-loop-name
invariant-loop-name l = record {
  added : AddsNames l.fn.exported l.exported l.yielded true;
  names : l.fn.names.items ≡ l.yielded ++ into_iter_items l.name-iterator;
  front : IsFront l.fn.exported l.exported;
}
