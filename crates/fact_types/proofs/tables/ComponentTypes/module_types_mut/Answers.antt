use Rattle.std.proofs.Common.{Some}
use Rattle.fact_types.proofs.PushLaws.{types_set}
use Rattle.fact_types.proofs.tables.ComponentTypes.module_types_mut.Goals as goal

pub invariant_of-self-lent : goal.invariant_of-self-lent
invariant_of-self-lent c = λ w. types_set _ (Some w) c.self.invariant
