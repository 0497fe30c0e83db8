use Rattle.std.proofs.Common.{◌∙◌}
use Rattle.fact_types.specs.Tuples.{tuple_of}
use Rattle.fact_adapter_rules.proofs.TupleLaws.{placed_borrow}
use Rattle.fact_adapter_rules.proofs.mismatch.takes_borrow.Goals as goal

pub returns : goal.returns
returns c = λ ps rs h. c.ty_contains_borrow_resource.ensures (tuple_of ps) (c.params_tuple.ensures.shaped ps rs h) ∙ placed_borrow 0 ps
