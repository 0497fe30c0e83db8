use Rattle.std.proofs.Common.{◌≡◌, length, arith}
use Rattle.fact_types.specs.Layout.{aligned, extents, payloads, payload_offset, discriminant_size, discriminant_bytes}
use Rattle.fact_types.proofs.PayloadLaws.{payload_fits}
use Rattle.fact_types.proofs.variants.place_of_payload.Goals as goal

pub align_to-requires-clause-fits : goal.align_to-requires-clause-fits
align_to-requires-clause-fits c =
    let place : aligned c.byte_size.result c.greatest_payload.result.align ≡ payload_offset (discriminant_bytes (discriminant_size (length c.args.cases.now))) (extents c.args.width (payloads c.args.cases.now)) = cc in
    omega (arith, place, payload_fits c.args.width c.args.cases.now c.requires.fits)
