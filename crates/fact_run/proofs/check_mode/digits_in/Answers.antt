use Rattle.std.proofs.Common.{◌≡◌, ◌-◌, arith, get_or, length, subst}
use Rattle.fact_run.proofs.Digits.{digits-of-line, digits-of-text}
use Rattle.fact_run.proofs.check_mode.digits_in.Goals as goal

pub returns-then-last-eq10 : goal.returns-then-last-eq10
returns-then-last-eq10 c = digits-of-line c.args.input.now (length c.args.input.now - 1) (omega (arith, c.in-len1-up.len_at_least)) c.if-last-eq10.true

pub returns-else-last-eq10 : goal.returns-else-last-eq10
returns-else-last-eq10 c = digits-of-text c.args.input.now (λ k e x.
    let same : k ≡ length c.args.input.now - 1 = omega (arith, e) in
    c.if-last-eq10.false (subst (λ n. get_or c.args.input.now n 0 ≡ 10) same x))
