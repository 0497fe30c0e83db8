use Rattle.std.proofs.Common.{arith, sym, ◌∙◌, subst}
use Rattle.fact_types.specs.declared.extents.Extent.{Extent}
use Rattle.fact_types.specs.Fits.{FieldFits}
use Rattle.fact_types.proofs.FieldLaws.{walk_start, walk_on, walk_fits, walk_end, record_told}
use Rattle.fact_types.proofs.records.extent_of_fields.Goals as goal

pub followed_by-placed-requires : goal.followed_by-placed-requires
followed_by-placed-requires c =
    subst (λ (e : Extent). FieldFits e c.loop-field.placed.size) (sym c.extent.ensures)
    (walk_fits c.args.width c.args.fields.now c.loop-field.field-index _ c.loop-field.placed.size c.loop-field.placed.align c.loop-field-test.true c.loop-field.invariant c.requires)

pub loop-field-init : goal.loop-field-init
loop-field-init c = walk_start c.args.width c.args.fields.now

pub loop-field-preserved : goal.loop-field-preserved
loop-field-preserved c =
    walk_on c.args.width c.args.fields.now c.loop-field.field-index _ c.loop-field.placed.size c.loop-field.placed.align c.extent.result _ _
    c.loop-field-test.true c.loop-field.invariant c.extent.ensures c.followed_by-placed.ensures.size c.followed_by-placed.ensures.align

pub align_to-requires-clause-fits : goal.align_to-requires-clause-fits
align_to-requires-clause-fits c = omega (arith, record_told _ _ _ _ _ c.loop-field-test.false c.loop-field.invariant, c.requires.within)

pub returns : goal.returns
returns c =
    let align = (walk_end _ _ _ _ _ c.loop-field-test.false c.loop-field.invariant).1 in
    let size = c.align_to.ensures ∙ record_told _ _ _ _ _ c.loop-field-test.false c.loop-field.invariant in
    cc
