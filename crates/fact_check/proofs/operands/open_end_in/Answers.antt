use Rattle.std.proofs.Common.{◌-◌, sym, ◌∙◌, length, arith}
use Rattle.std.proofs.lemmas.List.{length-take-le}
use Rattle.fact_check.proofs.LastOperands.{any_left, last_taken}
use Rattle.fact_check.proofs.operands.open_end_in.Goals as goal

pub returns-in_default-below : goal.returns-in_default-below
returns-in_default-below c = any_left c.args.types.now c.loop-left.left.now c.args.known.now c.loop-left.below.now c.loop-left.invariant.same c.in_default-below.len_below

pub loop-left-preserved : goal.loop-left-preserved
loop-left-preserved c =
    let below = c.loop-left.below.now in
    let shorter = length-take-le (length below - 1) below (omega arith) in
    record {
      same = c.loop-left.invariant.same ∙ last_taken c.loop-left.left.now below _ _ c.in-len1-up.len_at_least c.in-len1-up-below.len_at_least (sym c.matches.ensures ∙ c.if-not-matches.false);
      fewer = omega (arith, shorter, c.loop-left.invariant.fewer);
    }
