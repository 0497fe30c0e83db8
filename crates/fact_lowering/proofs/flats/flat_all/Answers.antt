use Rattle.std.proofs.Common.{◌∙◌, ◌++◌, ap}
use Rattle.fact_types.specs.Signatures.{width}
use Rattle.fact_lowering.proofs.FlatLaws.{all_flat_on, type_front}
use Rattle.fact_lowering.proofs.flats.flat_all.Goals as goal

pub loop-ty-preserved : goal.loop-ty-preserved
loop-ty-preserved c =
    λ ss h. all_flat_on c.args.types.now (width c.args.memory64) ss c.args.tys.now c.loop-ty.ty-index c.loop-ty.all.items _ c.in_ok-flat.field-0 (type_front c.args.tys.now c.loop-ty.ty-index _ c.loop-ty-test.true) c.in_ok-flat.ensures (c.loop-ty.invariant ss h) c.in-Some.flat c.in-Some.is c.extend_from_slice.new.self.items
    (c.in_ok-extend_from_slice.ensures.items ∙ ap (λ l. c.loop-ty.all.items ++ l) c.as_slice.ensures)
