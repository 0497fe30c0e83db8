use Rattle.fact_run.proofs.Ends.{told}
use Rattle.fact_explain.proofs.top.module_bytes.Goals as goal

pub returns-in-Err-clause-end : goal.returns-in-Err-clause-end
returns-in-Err-clause-end g c = (
  _,
  c.in-Err.ensures.end,
  told c.write_text.result _ _ _ _ _ (rw (c.as_bytes.ensures.value, c.text.ensures) at c.write_text.ensures.whole)
      (rw (c.as_bytes.ensures.value, c.text.ensures) at c.write_text.ensures.part) c.write_text.ensures.rose,
)
