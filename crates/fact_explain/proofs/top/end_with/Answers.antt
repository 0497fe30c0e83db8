use Rattle.std.proofs.Common.{string_bytes}
use Rattle.fact_explain.proofs.top.end_with.Goals as goal

pub returns-in-Ok-write_text-clause-done : goal.returns-in-Ok-write_text-clause-done
returns-in-Ok-write_text-clause-done g c = λ is. (string_bytes c.in-Ok.text, rw c.in-Ok.is at c.plan_page-page.ensures, rw c.as_bytes.ensures.value at c.in-Ok-write_text.ensures.whole)

pub returns-clause-part : goal.returns-clause-part
returns-clause-part g c = λ is. (string_bytes c.in-Ok.text, rw c.in-Ok.is at c.plan_page-page.ensures, rw c.as_bytes.ensures.value at c.in-Err.ensures.part)
