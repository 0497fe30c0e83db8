use Rattle.std.proofs.Common.{refl}
use Rattle.fact_run.proofs.Ends.{ended-unread, sent-of}
use Rattle.fact_run.proofs.top.end.Goals as goal

pub returns-in-Ok-clause-end : goal.returns-in-Ok-clause-end
returns-in-Ok-clause-end g c =
    rw c.of.ensures (sent-of _ _ _ _ _ c.in-Page.ensures.reply (rw c.as_bytes.ensures.value at c.in-Ok.ensures.whole), refl)

pub returns-in-Page-clause-end : goal.returns-in-Page-clause-end
returns-in-Page-clause-end g c =
    rw c.of-in-Err.ensures (c.in-Err.ensures.rose, sent-of _ _ _ _ _ c.in-Page.ensures.reply (rw c.as_bytes.ensures.value at c.in-Err.ensures.part), refl)

pub returns-clause-unread : goal.returns-clause-unread
returns-clause-unread g c = λ some. let told = c.reply_under.ensures.unread some in (told.0, rw c.ending_with.ensures (ended-unread _ told.1))
