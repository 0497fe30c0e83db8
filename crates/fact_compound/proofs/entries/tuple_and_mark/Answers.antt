use Rattle.std.proofs.Common.{ℕ, Bool, false, Option, Some, None, ap, sym, ◌∙◌}
use Rattle.fact_types.specs.declared.kinds.TypeFunc.{TypeFunc}
use Rattle.fact_compound.proofs.entries.tuple_and_mark.Goals as goal

pub returns-clause-tuple : goal.returns-clause-tuple
returns-clause-tuple c =
    let there = rw c.component_types-tables.ensures at c.index-func.ensures in
    c.as_u32.ensures ∙ sym (ap (λ o. elim o as (λ (o : Option TypeFunc). ℕ) [ None ↦ 0 | Some f ↦ f.results.number ]) there)

pub returns-clause-mark : goal.returns-clause-mark
returns-clause-mark c =
    let there = rw c.component_types-tables.ensures at c.index-func.ensures in
    sym (ap (λ o. elim o as (λ (o : Option TypeFunc). Bool) [ None ↦ false | Some f ↦ f.async_ ]) there)
