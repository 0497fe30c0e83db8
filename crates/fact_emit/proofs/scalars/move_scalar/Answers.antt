use Rattle.fact_emit.proofs.ScalarMoves.{char_node, number_node}
use Rattle.fact_emit.proofs.scalars.move_scalar.Goals as goal

pub returns-in_ok-move_tested-in-Char : goal.returns-in_ok-move_tested-in-Char
returns-in_ok-move_tested-in-Char c = record { grew = c.in_ok-move_tested-in-Char.ensures.grew; emits = λ h. char_node c.in-Char.is c.in_ok-move_tested-in-Char.ensures }

pub returns-in_ok-move_number-in_default : goal.returns-in_ok-move_number-in_default
returns-in_ok-move_number-in_default c = record {
  grew = c.in_ok-move_number-in_default.ensures.grew;
  emits = λ h. number_node c.args.ty c.canonical_form.result h c.in_default.not-Char c.number_for.ensures c.canonical_form.ensures c.in_ok-move_number-in_default.ensures;
}
