use Rattle.std.proofs.Common.{arith}
use Rattle.fact_binary.proofs.Groups.{count-big, count-small, count-positive, count-most}
use Rattle.fact_binary.proofs.number.group_count.Goals as goal

pub loop-rest-preserved : goal.loop-rest-preserved
loop-rest-preserved c = record { below = omega arith; so_far = omega (arith, count-big c.loop-rest.rest c.loop-rest-test.true c.loop-rest.invariant.below) }

pub overflow_add-k : goal.overflow_add-k
overflow_add-k c = omega (arith, count-most c.args.n, count-positive c.loop-rest.rest)

pub returns : goal.returns
returns c = omega (arith, count-small c.loop-rest.rest c.loop-rest-test.false)
