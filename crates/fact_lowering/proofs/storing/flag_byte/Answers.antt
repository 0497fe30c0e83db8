use Rattle.std.proofs.Common.{◌≡◌, ◌∙◌, ◌+◌, ◌*◌, ◌^◌, ap, sym, subst, drop, arith, add-one, lit<, ◌≤◌}
use Rattle.std.proofs.Math.Nat.{pow-le-pow_right, pow-succ'}
use Rattle.fact_lowering.specs.Storings.{AreBits}
use Rattle.fact_lowering.proofs.FlagBytes.{bit_set, bit_unset}
use Rattle.fact_lowering.proofs.storing.flag_byte.Goals as goal
use Rattle.fact_lowering.proofs.storing.flag_byte.Goals.{then-is_set, else-is_set}

pub loop-bit-preserved : goal.loop-bit-preserved
loop-bit-preserved c =
    let wide : 2 ^ (c.loop-bit.bit + 1) ≡ 2 * 2 ^ c.loop-bit.bit = ap (λ k. 2 ^ k) (add-one c.loop-bit.bit) ∙ pow-succ' 2 c.loop-bit.bit in
    let low : c.loop-bit.bit ≤ 7 = omega (arith, c.loop-bit-test.true) in
    let small : 2 ^ c.loop-bit.bit ≤ 2 ^ 7 = pow-le-pow_right (lit< tt) low in
    elim c.if-is_set.branch [
      | then-is_set w ↦ (
        omega (arith, w.byte-is, wide, small, c.loop-bit.invariant.0),
        bit_set c.args.flags.now c.args.from c.loop-bit.bit c.loop-bit.byte c.if-is_set.byte (sym c.is_set.ensures ∙ w.if-is_set.true) (omega (arith, w.byte-is, small)) c.loop-bit.invariant.1,
      )
      | else-is_set w ↦ (
        omega (arith, w.byte-is, wide, c.loop-bit.invariant.0),
        subst (AreBits (drop c.args.from c.args.flags.now) (c.loop-bit.bit + 1)) (sym w.byte-is) (bit_unset c.args.flags.now c.args.from c.loop-bit.bit c.loop-bit.byte (sym c.is_set.ensures ∙ w.if-is_set.false) c.loop-bit.invariant.1),
      )
    ]

pub returns : goal.returns
returns c =
    let e : c.loop-bit.bit ≡ 8 = omega (arith, c.loop-bit-test.false, c.loop-bit.auto.bit-end) in
    subst (λ k. AreBits (drop c.args.from c.args.flags.now) k c.loop-bit.byte) e c.loop-bit.invariant.1
