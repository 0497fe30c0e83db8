use Rattle.std.proofs.Common.{◌≡◌, ℕ, ◌++◌, List, arith, sym, ap, ◌∙◌}
use Rattle.fact_binary.specs.Numbers.{unsigned, groups, count}
use Rattle.fact_binary.proofs.Groups.{count-positive, count-most, count-holds, unsigned-groups}
use Rattle.fact_binary.proofs.reading.read_unsigned.Goals as goal

-- what the groups say where the bytes begin with a number's form
of : (bytes : List ℕ) (n : ℕ) (rest : List ℕ) → bytes ≡ unsigned n ++ rest → bytes ≡ groups (count n) n ++ rest
of bytes n rest e = e ∙ ap (λ (t : List ℕ). t ++ rest) (unsigned-groups n)

pub returns-in_err-k-clause-only : goal.returns-in_err-k-clause-only
returns-in_err-k-clause-only c n rest lt e = absurd (c.in_err-k.ensures.only (count n) n rest (count-positive n) (count-most n) (count-holds n (omega arith)) (of c.args.bytes.now n rest e))

pub returns-then-n-ge18446744073709551616-clause-only : goal.returns-then-n-ge18446744073709551616-clause-only
returns-then-n-ge18446744073709551616-clause-only c n rest lt e =
    let o = c.in_ok-k.ensures.only (count n) n rest (count-positive n) (count-most n) (count-holds n (omega arith)) (of c.args.bytes.now n rest e) in
    let big = c.if-n-ge18446744073709551616.true in omega (arith, o.1, big)

pub returns-then-group_count-k-clause-only : goal.returns-then-group_count-k-clause-only
returns-then-group_count-k-clause-only c n rest lt e =
    let o = c.in_ok-k.ensures.only (count n) n rest (count-positive n) (count-most n) (count-holds n (omega arith)) (of c.args.bytes.now n rest e) in
    absurd (c.if-group_count-k.true (c.group_count.ensures ∙ ap count o.1 ∙ sym o.0))

pub returns-clause-found : goal.returns-clause-found
returns-clause-found c =
    let same : c.in_ok-k.k ≡ count c.in_ok-k.n = sym c.if-group_count-k.false ∙ c.group_count.ensures in
    c.in_ok-k.ensures.found.3 ∙ ap (λ (k : ℕ). groups k c.in_ok-k.n ++ c.in_ok-k.rest.now) same ∙ ap (λ (t : List ℕ). t ++ c.in_ok-k.rest.now) (sym (unsigned-groups c.in_ok-k.n))

pub returns-clause-only : goal.returns-clause-only
returns-clause-only c n rest lt e =
    let o = c.in_ok-k.ensures.only (count n) n rest (count-positive n) (count-most n) (count-holds n (omega arith)) (of c.args.bytes.now n rest e) in
    (o.1, o.2)
