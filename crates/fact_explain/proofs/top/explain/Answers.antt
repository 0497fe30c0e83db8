use Rattle.fact_run.proofs.Ends.{told}
use Rattle.fact_explain.proofs.top.explain.Goals as goal

pub returns-clause-end : goal.returns-clause-end
returns-clause-end g c = (
  _,
  c.ending_of-ending.ensures.end,
  told c.write_text.result _ _ _ _ _ (rw (c.as_bytes.ensures.value, c.text.ensures) at c.write_text.ensures.whole)
      (rw (c.as_bytes.ensures.value, c.text.ensures) at c.write_text.ensures.part) c.write_text.ensures.rose,
)
