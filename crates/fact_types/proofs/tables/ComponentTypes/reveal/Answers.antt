use Rattle.std.proofs.Common.{subst}
use Rattle.fact_types.specs.Tables.{IsSound}
use Rattle.fact_types.proofs.FuncLaws.{has_signature, equal_entries}
use Rattle.fact_types.proofs.ShapeLaws.{one_shape}
use Rattle.fact_types.proofs.tables.ComponentTypes.reveal.Goals as goal

pub returns-clause-one_shape : goal.returns-clause-one_shape
returns-clause-one_shape c = λ ty s z h k. one_shape c.args.self.now s z ty h k

pub returns-clause-equal_entries : goal.returns-clause-equal_entries
returns-clause-equal_entries c = λ a b n s z e f h k. equal_entries c.args.self.now a b n s z e f h k

pub returns-clause-signatures : goal.returns-clause-signatures
returns-clause-signatures c = λ i h. has_signature c.args.self.now (subst IsSound c.self.view_is c.self.invariant) i h
