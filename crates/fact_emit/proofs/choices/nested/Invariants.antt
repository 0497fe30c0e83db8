use Rattle.std.proofs.Common.{◌≡◌, length}
use Rattle.fact_machine.specs.Exits.{nest}
use Rattle.fact_code_laws.specs.Code.{arms}
use Rattle.fact_emit.proofs.choices.nested.Given as goal

abbrev pub invariant-loop-body : goal.invariant-loop-body
invariant-loop-body l = record {
  can_next : (goal.iterator-loop-body).can_next l.body-iterator;
  is_finite : (goal.iterator-loop-body).is_finite l.body-iterator;
  behind : l.behind ≡ length l.body-iterator.rest.items;
  left : nest (arms l.body-iterator.rest.items) l.code.items ≡ nest (arms l.fn.bodies.items) l.fn.inner.items;
}
