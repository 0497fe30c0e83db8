use Rattle.std.proofs.Common.{ℕ, ◌+◌, ◌*◌, ◌^◌, ◌<◌, arith, lit<, get_or, length}
use Rattle.std.proofs.Math.Nat.{one-le-pow}
use Rattle.fact_machine.proofs.Bytes.{number_rest, eight_bytes}
use Rattle.fact_machine.proofs.numbers.+number_of_bytes.Goals as goal
use Rattle.fact_machine.proofs.numbers.+number_of_bytes.Goals.{After-number_of_bytes}

whole : (t : ℕ) (c : After-number_of_bytes t) → get_or c.args.bytes.now 0 0 + 256 * c.number_of_bytes.result < 256 ^ length c.args.bytes.now
whole t c = number_rest c.args.bytes.now _ c.in-len1-up.len_at_least (λ k. omega (arith, c.type_inv.bytes k)) c.number_of_bytes.ensures.value

pub overflow_mul-result : goal.overflow_mul-result
overflow_mul-result t c = omega (arith, whole t c, eight_bytes (length c.args.bytes.now) c.requires)

pub overflow_add-result : goal.overflow_add-result
overflow_add-result t c = omega (arith, whole t c, eight_bytes (length c.args.bytes.now) c.requires, c.from.ensures)

pub returns-in-empty-clause-below : goal.returns-in-empty-clause-below
returns-in-empty-clause-below t c = one-le-pow (length c.args.bytes.now) 256 (lit< tt)

pub returns-in-len1-up-clause-below : goal.returns-in-len1-up-clause-below
returns-in-len1-up-clause-below t c = omega (arith, whole t c, c.from.ensures)
