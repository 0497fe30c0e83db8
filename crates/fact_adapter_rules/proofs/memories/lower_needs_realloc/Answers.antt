use Rattle.std.proofs.Common.{sym, ◌∙◌}
use Rattle.fact_adapter_rules.proofs.memories.lower_needs_realloc.Goals as goal

pub returns : goal.returns
returns c = λ o s h. let g = c.gives_pointer.ensures _ _ h.signature in (λ e. sym g ∙ e, λ e. g ∙ e)
