use Rattle.std.proofs.Common.{arith}
use Rattle.fact_plan.proofs.ReadLemmas.{one_key-one, one_key-more}
use Rattle.fact_plan.proofs.entries.check_one_key.Goals as goal

pub returns-in-1 : goal.returns-in-1
returns-in-1 c = one_key-one _ c.in-Some.members.now.entries c.in-Some.ensures (omega arith)

pub returns-in_default-len : goal.returns-in_default-len
returns-in_default-len c =
    rw c.wrong_kind-in_default-len.ensures (one_key-more _ c.in-Some.members.now.entries c.in-Some.ensures (omega arith))
