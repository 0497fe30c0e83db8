use Rattle.std.proofs.Common.{◌≡◌, ℕ, ◌*◌, ◌++◌, arith, sym, ap, ◌∙◌}
use Rattle.fact_binary.specs.Numbers.{groups, count}
use Rattle.fact_binary.proofs.Groups.{count-positive, count-most, count-holds}
use Rattle.fact_binary.proofs.reading.read_signed_index.Goals as goal

pub returns-in_err-k-clause-only : goal.returns-in_err-k-clause-only
returns-in_err-k-clause-only c n rest lt e = absurd (c.in_err-k.ensures.only (count (2 * n)) n rest (count-positive (2 * n)) (count-most (2 * n)) (omega (arith, count-holds (2 * n) (omega arith))) e)

pub returns-then-n-ge4294967296-clause-only : goal.returns-then-n-ge4294967296-clause-only
returns-then-n-ge4294967296-clause-only c n rest lt e =
    let o = c.in_ok-k.ensures.only (count (2 * n)) n rest (count-positive (2 * n)) (count-most (2 * n)) (omega (arith, count-holds (2 * n) (omega arith))) e in
    let big = c.if-n-ge4294967296.true in omega (arith, o.1, big)

pub returns-then-group_count-k-clause-only : goal.returns-then-group_count-k-clause-only
returns-then-group_count-k-clause-only c n rest lt e =
    let o = c.in_ok-k.ensures.only (count (2 * n)) n rest (count-positive (2 * n)) (count-most (2 * n)) (omega (arith, count-holds (2 * n) (omega arith))) e in
    absurd (c.if-group_count-k.true (c.group_count.ensures ∙ ap (λ (m : ℕ). count (2 * m)) o.1 ∙ sym o.0))

pub returns-clause-found : goal.returns-clause-found
returns-clause-found c =
    let same : c.in_ok-k.k ≡ count (2 * c.in_ok-k.n) = sym c.if-group_count-k.false ∙ c.group_count.ensures in
    (omega arith, c.in_ok-k.ensures.found.3 ∙ ap (λ (k : ℕ). groups k c.in_ok-k.n ++ c.in_ok-k.rest.now) same)

pub returns-clause-only : goal.returns-clause-only
returns-clause-only c n rest lt e =
    let o = c.in_ok-k.ensures.only (count (2 * n)) n rest (count-positive (2 * n)) (count-most (2 * n)) (omega (arith, count-holds (2 * n) (omega arith))) e in
    (o.1, o.2)
