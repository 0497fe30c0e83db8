use Rattle.std.proofs.Common.{Bool, false, Option, Some, None, ap, sym}
use Rattle.fact_types.specs.declared.kinds.TypeFunc.{TypeFunc}
use Rattle.fact_compound.proofs.functions.is_marked.Goals as goal

pub returns : goal.returns
returns c = sym (ap (λ o. elim o as (λ (o : Option TypeFunc). Bool) [ None ↦ false | Some f ↦ f.async_ ]) c.index.ensures)
