use Rattle.std.proofs.Common.{◌∙◌, sym, arith}
use Rattle.fact_abi.proofs.BelongLaws.{not_before, first_at, nowhere}
use Rattle.fact_abi.proofs.belonging.index_of_str.Goals as goal

pub returns-then-is_str_at : goal.returns-then-is_str_at
returns-then-is_str_at c = first_at c.args.name.now c.args.names.now c.loop-place.place (sym c.is_str_at.ensures ∙ c.if-is_str_at.true) c.loop-place.invariant

pub loop-place-preserved : goal.loop-place-preserved
loop-place-preserved c = not_before c.args.name.now c.args.names.now c.loop-place.place (sym c.is_str_at.ensures ∙ c.if-is_str_at.false) c.loop-place.invariant

pub returns : goal.returns
returns c = nowhere c.args.name.now c.args.names.now c.loop-place.place (omega (arith, c.loop-place-test.false, c.len-place-end.ensures)) c.loop-place.invariant
