use Rattle.std.proofs.Common.{◌≡◌, arith}
use Rattle.fact_types.specs.Shapes.{layout_of}
use Rattle.fact_types.specs.Tuples.{tuple_of}
use Rattle.fact_lowering.specs.Room.{greatest_bytes}
use Rattle.fact_lowering.proofs.RoomLaws.{little_is}
use Rattle.fact_lowering.proofs.room.fits.Goals as goal

pub returns : goal.returns
returns c =
    λ ts us h g.
    let wide : c.max-tuples.result ≡ greatest_bytes (layout_of (tuple_of ts)) (layout_of (tuple_of us)) = omega (arith, c.max-tuples.ensures, c.tuple_bytes.ensures.value ts h, c.tuple_bytes-2.ensures.value us g) in
    little_is ts us c.args.values.now c.in_ok-asked.asked c.max-tuples.result c.is_little.result (c.in_ok-asked.ensures ts us h g) wide c.is_little.ensures
