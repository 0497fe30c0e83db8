use Rattle.std.proofs.Common.{arith, sym, subst, below_more}
use Rattle.std.specs.Int.{IsPowerOfTwo}
use Rattle.fact_types.specs.declared.extents.Extent.{Extent}
use Rattle.fact_types.specs.Fits.{FieldFits}
use Rattle.fact_types.proofs.FieldLaws.{walk_start, walk_on, walk_fits, fields_told}
use Rattle.fact_types.proofs.TestLaws.{refused, told_as}
use Rattle.fact_types.proofs.records.fields_fit.Goals as goal

pub loop-field-init : goal.loop-field-init
loop-field-init c = record { walk = walk_start c.args.width c.args.fields.now; powers = λ k h. absurd (omega arith) }

pub returns-then-not-next_field_fits : goal.returns-then-not-next_field_fits
returns-then-not-next_field_fits c =
    refused _ c.if-not-next_field_fits.true c.next_field_fits.ensures
    (λ fit. subst (λ (e : Extent). FieldFits e c.loop-field.placed.size) (sym c.extent-next.ensures)
    (walk_fits c.args.width c.args.fields.now c.loop-field.field-index _ c.loop-field.placed.size c.loop-field.placed.align c.loop-field-test.true c.loop-field.invariant.walk fit))

pub loop-field-preserved : goal.loop-field-preserved
loop-field-preserved c = record {
  walk =
      walk_on c.args.width c.args.fields.now c.loop-field.field-index _ c.loop-field.placed.size c.loop-field.placed.align c.extent-next.result _ _
      c.loop-field-test.true c.loop-field.invariant.walk c.extent-next.ensures c.followed_by-placed.ensures.size c.followed_by-placed.ensures.align;
  powers = below_more _ _ c.loop-field.invariant.powers
      (subst (λ (e : Extent). IsPowerOfTwo e.align) c.extent-next.ensures (c.next_field_fits.ensures.0 c.if-not-next_field_fits.false).power);
}

pub align_fits-requires : goal.align_fits-requires
align_fits-requires c = c.loop-field.invariant.walk.positive

pub returns : goal.returns
returns c =
    let t = fields_told _ _ _ _ _ c.loop-field-test.false c.loop-field.invariant.walk c.loop-field.invariant.powers in
    told_as _ c.align_fits.ensures t.0 t.1
