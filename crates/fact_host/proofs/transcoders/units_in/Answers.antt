use Rattle.std.proofs.Common.{arith}
use Rattle.fact_host.proofs.Transcoded.{units_are}
use Rattle.fact_host.proofs.transcoders.units_in.Goals as goal

pub returns : goal.returns
returns c = units_are c.args.encoding c.in_ok-bytes.bytes.items c.args.text.now c.len.result c.unit_bytes.result c.in_ok-bytes.ensures (omega (arith, c.len.ensures)) c.unit_bytes.ensures.value
