use Rattle.std.proofs.Common.{◌≡◌, ◌+◌, ◌<◌, ℕ, [], ◌∷◌, ap, arith, get_or, length, length-append, refl, subst, sym}
use Rattle.fact_host.specs.Begun.{first_cursor}
use Rattle.fact_host.proofs.Loops.{each_next}
use Rattle.fact_host.proofs.beginning.first_cursors.Goals as goal

pub loop-number-preserved : goal.loop-number-preserved
loop-number-preserved c =
    let xs = c.loop-number.cursors in
    let i = c.loop-number.number in
    let pushed = c.in_ok-push.ensures.ok in
    record {
      count = omega (arith, ap length pushed, length-append xs (c.first_cursor.result ∷ []), c.loop-number.invariant.count);
      each =
          subst (λ ys. (n : ℕ) → n < i + 1 → get_or ys n 0 ≡ first_cursor c.args.memory c.args.cursor n) (sym pushed)
          (each_next (first_cursor c.args.memory c.args.cursor) xs i (i + 1) c.first_cursor.result refl c.loop-number.invariant.count c.first_cursor.ensures c.loop-number.invariant.each);
    }
