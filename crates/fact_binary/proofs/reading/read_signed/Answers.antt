use Rattle.std.proofs.Common.{◌≡◌, ℕ, ℤ, ◌*◌, ◌++◌, List, arith, sym, ap, ◌∙◌}
use Rattle.fact_binary.specs.Numbers.{groups, count, signed, magnitude}
use Rattle.fact_binary.proofs.Groups.{count-positive, count-most}
use Rattle.fact_binary.proofs.Signed.{whole_of, signed-groups, whole-holds, split-back, split-found}
use Rattle.fact_binary.proofs.reading.read_signed.Goals as goal

-- bytes that begin with a number begin with its groups
of : (bytes : List ℕ) (z : ℤ) (rest : List ℕ) → bytes ≡ signed z ++ rest → bytes ≡ groups (count (2 * magnitude z)) (whole_of z) ++ rest
of bytes z rest e = e ∙ ap (λ (t : List ℕ). t ++ rest) (signed-groups z)

pub returns-in_err-k-clause-only : goal.returns-in_err-k-clause-only
returns-in_err-k-clause-only c z rest lt e =
    absurd (c.in_err-k.ensures.only (count (2 * magnitude z)) (whole_of z) rest (count-positive (2 * magnitude z)) (count-most (2 * magnitude z)) (whole-holds z lt) (of c.args.bytes.now z rest e))

pub returns-then-size-ge9223372036854775808-clause-only : goal.returns-then-size-ge9223372036854775808-clause-only
returns-then-size-ge9223372036854775808-clause-only c z rest lt e =
    let o = c.in_ok-k.ensures.only (count (2 * magnitude z)) (whole_of z) rest (count-positive (2 * magnitude z)) (count-most (2 * magnitude z)) (whole-holds z lt) (of c.args.bytes.now z rest e) in
    let b = split-back c.in_ok-k.k c.in_ok-k.n _ _ z lt o.0 o.1 c.split_sign-negative.ensures.low c.split_sign-negative.ensures.high in
    let big = c.if-size-ge9223372036854775808.true in
    omega (arith, b.1, big)

pub returns-then-group_count-k-clause-only : goal.returns-then-group_count-k-clause-only
returns-then-group_count-k-clause-only c z rest lt e =
    let o = c.in_ok-k.ensures.only (count (2 * magnitude z)) (whole_of z) rest (count-positive (2 * magnitude z)) (count-most (2 * magnitude z)) (whole-holds z lt) (of c.args.bytes.now z rest e) in
    let b = split-back c.in_ok-k.k c.in_ok-k.n _ _ z lt o.0 o.1 c.split_sign-negative.ensures.low c.split_sign-negative.ensures.high in
    c.if-group_count-k.true (c.group_count.ensures ∙ ap (λ (m : ℕ). count (2 * m)) b.1 ∙ sym o.0)

pub returns-clause-found : goal.returns-clause-found
returns-clause-found c =
    let f = c.in_ok-k.ensures.found in
    let s = split-found c.in_ok-k.k c.in_ok-k.n c.split_sign-negative.result.0 c.split_sign-negative.result.1 f.2 (sym c.group_count.ensures ∙ c.if-group_count-k.false) c.split_sign-negative.ensures.low c.split_sign-negative.ensures.high in
    (c.if-size-ge9223372036854775808.false, f.3 ∙ ap (λ (t : List ℕ). t ++ c.in_ok-k.rest.now) (sym s))

pub returns-clause-only : goal.returns-clause-only
returns-clause-only c z rest lt e =
    let o = c.in_ok-k.ensures.only (count (2 * magnitude z)) (whole_of z) rest (count-positive (2 * magnitude z)) (count-most (2 * magnitude z)) (whole-holds z lt) (of c.args.bytes.now z rest e) in
    let b = split-back c.in_ok-k.k c.in_ok-k.n _ _ z lt o.0 o.1 c.split_sign-negative.ensures.low c.split_sign-negative.ensures.high in
    (b.0, o.2)
