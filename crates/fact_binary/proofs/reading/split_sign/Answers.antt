use Rattle.std.proofs.Common.{arith}
use Rattle.fact_binary.proofs.Groups.{below-all}
use Rattle.fact_binary.proofs.reading.split_sign.Goals as goal

pub overflow_mul-n : goal.overflow_mul-n
overflow_mul-n c = omega (arith, below-all c.args.k c.args.n c.requires.most c.requires.fits)
