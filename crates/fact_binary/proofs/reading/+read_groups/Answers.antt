use Rattle.std.proofs.Common.{ℕ, List, ◌/◌, ◌∷◌, arith, sym, ap, ◌∙◌}
use Rattle.fact_binary.proofs.Groups.{last, more, groups-first, groups-front, groups-some, groups-one, front-below, ten-below}
use Rattle.fact_binary.proofs.reading.+read_groups.Goals as goal

pub returns-in_err-byte-clause-only : goal.returns-in_err-byte-clause-only
returns-in_err-byte-clause-only t c k n rest pos le lt e = absurd (groups-some k n rest pos (sym e ∙ c.in_err-byte.ensures.none))

pub returns-then-byte-lt128-clause-found : goal.returns-then-byte-lt128-clause-found
returns-then-byte-lt128-clause-found t c = (omega arith, omega arith, c.if-byte-lt128.true, rw groups-one c.in_ok-byte.ensures.found)

pub returns-then-byte-lt128-clause-only : goal.returns-then-byte-lt128-clause-only
returns-then-byte-lt128-clause-only t c k n rest pos le lt e =
    elim (groups-first c.in_ok-byte.byte c.in_ok-byte.rest.now k n rest pos lt (sym c.in_ok-byte.ensures.found ∙ e)) [
      | last _ one same tails ↦ (sym one, sym same, tails)
      | more low _ _ _ _ _ _ ↦ let high = c.if-byte-lt128.true in absurd (omega (arith, low, high))
    ]

pub returns-in_err-count-clause-only : goal.returns-in_err-count-clause-only
returns-in_err-count-clause-only t c k n rest pos le lt e =
    elim (groups-first c.in_ok-byte.byte c.in_ok-byte.rest.now k n rest pos lt (sym c.in_ok-byte.ensures.found ∙ e)) [
      | last small _ _ _ ↦ absurd (omega (arith, small, c.if-byte-lt128.false))
      | more low j one pj below tails whole ↦ absurd (c.in_err-count.ensures.only j (n / 128) rest pj (omega (arith, one, le)) below tails)
    ]

pub overflow_mul-result : goal.overflow_mul-result
overflow_mul-result t c = let f = c.in_ok-count.ensures.found in let b = ten-below c.in_ok-count.count c.in_ok-count.high (omega (arith, f.1, c.requires)) f.2 in omega (arith, b, c.in_ok-byte.ensures.byte)

pub overflow_add-result-2 : goal.overflow_add-result-2
overflow_add-result-2 t c = let f = c.in_ok-count.ensures.found in let b = ten-below c.in_ok-count.count c.in_ok-count.high (omega (arith, f.1, c.requires)) f.2 in omega (arith, b, c.in_ok-byte.ensures.byte)

pub returns-clause-found : goal.returns-clause-found
returns-clause-found t c = let f = c.in_ok-count.ensures.found in
    (omega arith, omega (arith, f.1, c.requires), front-below _ _ _ f.0 f.2 c.in_ok-byte.ensures.byte, rw (groups-front c.in_ok-count.count c.in_ok-count.high c.in_ok-byte.byte f.0 c.if-byte-lt128.false c.in_ok-byte.ensures.byte) (c.in_ok-byte.ensures.found ∙ ap (λ (r : List ℕ). c.in_ok-byte.byte ∷ r) f.3))

pub returns-clause-only : goal.returns-clause-only
returns-clause-only t c k n rest pos le lt e =
    elim (groups-first c.in_ok-byte.byte c.in_ok-byte.rest.now k n rest pos lt (sym c.in_ok-byte.ensures.found ∙ e)) [
      | last small _ _ _ ↦ absurd (omega (arith, small, c.if-byte-lt128.false))
      | more low j one pj below tails whole ↦
          let o = c.in_ok-count.ensures.only j (n / 128) rest pj (omega (arith, one, le)) below tails in
          (omega (arith, o.0, one), omega (arith, o.1, whole), o.2)
    ]
