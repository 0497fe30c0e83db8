use Rattle.std.proofs.Common.{true, ◌≡◌, ◌++◌}
use Rattle.std.specs.Vec.Iter.{into_iter_items}
use Rattle.fact_adapter_rules.specs.Fronts.{IsFront}
use Rattle.fact_adapter_rules.specs.AddedBindings.{Binds}
use Rattle.fact_adapter_rules.proofs.uses.bind_all.Given as goal

abbrev pub invariant-loop-def : goal.invariant-loop-def
invariant-loop-def g l = record {
  bound : Binds l.fn.bindings l.bindings l.yielded true;
  pairs : l.fn.pairs.items ≡ l.yielded ++ into_iter_items l.def-iterator;
  front : IsFront l.fn.bindings l.bindings;
}
