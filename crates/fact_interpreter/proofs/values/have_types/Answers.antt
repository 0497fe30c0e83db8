use Rattle.std.proofs.Common.{sym, ◌∙◌}
use Rattle.fact_interpreter.proofs.Typing.{untyped}
use Rattle.fact_interpreter.proofs.values.have_types.Goals as goal

pub returns-in_default : goal.returns-in_default
returns-in_default c = sym (untyped _ _ _ c.loop-value-test.true c.in_default.len_below) ∙ c.loop-value.invariant
