use Rattle.std.proofs.Common.{◌∙◌}
use Rattle.fact_types.specs.Tuples.{tuple_of}
use Rattle.fact_adapter_rules.proofs.TupleLaws.{placed_pointer_pair}
use Rattle.fact_adapter_rules.proofs.memories.takes_pointer.Goals as goal

pub returns : goal.returns
returns c = λ ps rs h. c.ty_contains_pointer_pair.ensures (tuple_of ps) (c.params_tuple.ensures.shaped ps rs h) ∙ placed_pointer_pair 0 ps
