use Rattle.std.proofs.Common.{sym, subst, ◌∙◌}
use Rattle.std.proofs.lemmas.Bool.{false≢true}
use Rattle.std.proofs.lemmas.Result.{err_from_is_err_and}
use Rattle.fact_wasm.specs.Ranges.{InRange}
use Rattle.fact_binary.proofs.Items.{passes, not_in_grammar}
use Rattle.fact_binary.proofs.OneModule.{own}
use Rattle.fact_binary.proofs.decoder.decode.Goals as goal

pub returns-in_err-module-clause-only : goal.returns-in_err-module-clause-only
returns-in_err-module-clause-only c m r s =
    let q = err_from_is_err_and c.from_residual.result c.from_residual.ensures.1 in
    rw (q.1, q.2) (passes c.in_err-module.field-0.0 _ _ (c.in_err-module.ensures.only m (own m r) s))

pub returns-in_err-module-clause-not_in_grammar : goal.returns-in_err-module-clause-not_in_grammar
returns-in_err-module-clause-not_in_grammar c e m r s = not_in_grammar c.from_residual.result _ (returns-in_err-module-clause-only c m r s) e

-- a module in range would be the one that was read
pub returns-then-not-in_range-clause-only : goal.returns-then-not-in_range-clause-only
returns-then-not-in_range-clause-only c m r s =
    let same = c.in_ok-module.ensures.only m (own m r) s in
    false≢true (sym c.if-not-in_range.true ∙ c.in_range.ensures.1 (subst InRange (sym same) r))

pub returns-then-not-in_range-clause-not_in_grammar : goal.returns-then-not-in_range-clause-not_in_grammar
returns-then-not-in_range-clause-not_in_grammar c e = returns-then-not-in_range-clause-only c

pub returns-clause-only : goal.returns-clause-only
returns-clause-only c m r s = c.in_ok-module.ensures.only m (own m r) s
