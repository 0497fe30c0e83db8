use Rattle.std.proofs.Common.{arith}
use Rattle.fact_lowering.proofs.room.extent_of.Goals as goal

pub returns-then-memory64-clause-few : goal.returns-then-memory64-clause-few
returns-then-memory64-clause-few c = omega (arith, c.canonical_abi-abi.ensures.within.memory64)

pub returns-else-memory64-clause-few : goal.returns-else-memory64-clause-few
returns-else-memory64-clause-few c = omega (arith, c.canonical_abi-abi.ensures.within.memory32)
