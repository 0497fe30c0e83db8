use Rattle.std.proofs.Common.{length, ap, arith}
use Rattle.fact_machine.proofs.Bytes.{length-bytes_of}
use Rattle.fact_lowering.proofs.store.Store.put_number.Goals as goal

pub put-requires : goal.put-requires
put-requires c = omega (arith, length-bytes_of c.args.size c.args.number, ap length c.in_ok-bytes.ensures, ap length c.as_slice.ensures.value)
