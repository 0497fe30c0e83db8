use Rattle.std.proofs.Common.{ℕ, Vec, Global, inl, inr, ap, length, arith}
use Rattle.fact_lowering.proofs.tuples.set_aside.Goals as goal

pub returns-in-Some-clause-aside : goal.returns-in-Some-clause-aside
returns-in-Some-clause-aside c = λ ss h. inl (c.in-Some.ensures.taken ss h)

pub returns-in-None-clause-aside : goal.returns-in-None-clause-aside
returns-in-None-clause-aside c = λ ss h.
    let p = c.in-None.ensures.taken ss h in
    inr (p.0, omega (arith, c.len.ensures, ap (λ (b : Vec ℕ Global). length b.items) c.in-None.ensures.bytes), p.1)
