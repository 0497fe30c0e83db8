use Rattle.std.proofs.Common.{◌≡◌, ◌∙◌, sym, arith}
use Rattle.fact_types.specs.FlatShapes.{flat}
use Rattle.fact_types.specs.Signatures.{width}
use Rattle.fact_types.proofs.ShapeLaws.{same_some, none_some}
use Rattle.fact_abi.specs.Leading.{leading}
use Rattle.fact_abi.proofs.KindLaws.{if_ok}
use Rattle.fact_abi.proofs.LiftingLaws.{all_lift, none_lifts}
use Rattle.fact_abi.proofs.lifting.lift.Goals as goal
use Rattle.fact_abi.proofs.lifting.lift.Goals.{then-count-flat-via-then-count-flat, then-count-flat-via-else-count-flat+then-count-gt-MAX_FLAT_TYPES}

pub returns-in_default : goal.returns-in_default
returns-in_default c = λ s h.
    none_lifts c.args.side.now c.args.bytes.now s c.args.flat.now (λ n led all few. none_some (leading (flat (width c.args.side.now.memory64) s) c.args.flat.now) n (sym (c.in_ok-count.ensures.value s h) ∙ c.in_default.is) led)

pub returns-then-count-flat : goal.returns-then-count-flat
returns-then-count-flat c = λ s h.
    none_lifts c.args.side.now c.args.bytes.now s c.args.flat.now (λ n led all few.
    let same : c.in-Some.count ≡ n = same_some (leading (flat (width c.args.side.now.memory64) s) c.args.flat.now) c.in-Some.count n (sym (c.in_ok-count.ensures.value s h) ∙ c.in-Some.is) led in
    elim c.then-count-flat.branch [
      | then-count-flat-via-then-count-flat w ↦ omega (arith, same, all, w.if-count-flat.true)
      | then-count-flat-via-else-count-flat+then-count-gt-MAX_FLAT_TYPES w ↦ omega (arith, same, few, w.if-count-gt-MAX_FLAT_TYPES.true)
    ])

pub returns : goal.returns
returns c =
    if_ok _ _ c.lift_value.result (λ o e s h.
    all_lift c.args.side.now c.args.bytes.now s c.args.flat.now c.in-Some.count o (sym c.in-Some.is ∙ c.in_ok-count.ensures.value s h) (omega (arith, c.if-count-flat.false)) (omega (arith, c.if-count-gt-MAX_FLAT_TYPES.false)) (λ k. e s h k)) c.lift_value.ensures
