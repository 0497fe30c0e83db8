use Rattle.std.proofs.Common.{◌∙◌}
use Rattle.fact_types.specs.Tuples.{tuple_of}
use Rattle.fact_adapter_rules.proofs.TupleLaws.{placed_pointer_pair}
use Rattle.fact_explain.proofs.sides.params_passed.Goals as goal

pub returns : goal.returns
returns c = λ ps rs h. record {
  by_pointer = c.in_ok-by_pointer.ensures ps rs h;
  holds_pointer = c.ty_contains_pointer_pair-holds_pointer.ensures (tuple_of ps) (c.params_tuple-tuple.ensures.shaped ps rs h) ∙ placed_pointer_pair 0 ps;
}
