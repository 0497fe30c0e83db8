use Rattle.std.proofs.Common.{sym, ◌∙◌}
use Rattle.fact_run.proofs.Ends.{none-generates, options-generate, untaken}
use Rattle.fact_run.proofs.top.ending_of.Goals as goal

pub returns-in-Ok-Some-clause-unread : goal.returns-in-Ok-Some-clause-unread
returns-in-Ok-Some-clause-unread g c = λ generates. c.end-ending.ensures.unread (options-generate _ _ (sym c.in-Ok-Some.ensures.reading ∙ c.in-Ok-Some.field-0-is) generates)

pub returns-in-Ok-None-clause-most : goal.returns-in-Ok-None-clause-most
returns-in-Ok-None-clause-most g c = untaken _ _

pub returns-in-Ok-None-clause-unread : goal.returns-in-Ok-None-clause-unread
returns-in-Ok-None-clause-unread g c = λ generates. absurd (none-generates _ (sym c.in-Ok-None.ensures.reading ∙ c.in-Ok-None.field-0-is) generates)

pub returns-in-Err-clause-most : goal.returns-in-Err-clause-most
returns-in-Err-clause-most g c = untaken _ _
