use Rattle.std.proofs.Common.{sym, ◌∙◌}
use Rattle.fact_compound.proofs.EntryFacts.{none_there, some_there}
use Rattle.fact_compound.proofs.entries.whether_any.Goals as goal

pub returns-then-is_empty : goal.returns-then-is_empty
returns-then-is_empty c = none_there c.args.results.now (sym c.is_empty.ensures ∙ c.if-is_empty.true)

pub returns-else-is_empty : goal.returns-else-is_empty
returns-else-is_empty c = some_there c.args.results.now (sym c.is_empty.ensures ∙ c.if-is_empty.false)
