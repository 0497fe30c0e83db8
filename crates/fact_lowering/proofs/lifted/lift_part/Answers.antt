use Rattle.std.proofs.Common.{◌∙◌, ap, sym, length, arith}
use Rattle.std.specs.Prelude.{min}
use Rattle.std.proofs.lemmas.List.{length-take}
use Rattle.fact_lowering.proofs.TupleLifts.{no_part, part_lifted, part_missing}
use Rattle.fact_lowering.proofs.lifted.lift_part.Goals as goal

pub returns-in_default : goal.returns-in_default
returns-in_default c = λ s h. no_part c.args.from.now.side c.args.bytes.now s _ (sym c.in_default.is ∙ c.in_ok-flat.ensures s h)

pub slice_bounds-lift-end : goal.slice_bounds-lift-end
slice_bounds-lift-end c = omega (arith, c.least-count.ensures, length-take c.least-count.result c.args.values.now)

pub returns-in-Some-2 : goal.returns-in-Some-2
returns-in-Some-2 c = λ s h.
    part_lifted c.args.from.now.side c.args.bytes.now s c.args.values.now c.in-Some.flat c.least-count.result (sym c.in-Some.is ∙ c.in_ok-flat.ensures s h) (c.least-count.ensures ∙ ap (λ n. min n (length c.args.values.now)) c.len.ensures) c.in_ok-value.field-0 c.in-Some-2.value (c.in_ok-value.ensures s h) c.in-Some-2.is

pub returns : goal.returns
returns c = λ s h.
    part_missing c.args.from.now.side c.args.bytes.now s c.args.values.now c.in-Some.flat c.least-count.result (sym c.in-Some.is ∙ c.in_ok-flat.ensures s h) (c.least-count.ensures ∙ ap (λ n. min n (length c.args.values.now)) c.len.ensures) c.in_ok-value.field-0 (c.in_ok-value.ensures s h) c.in-None.is
