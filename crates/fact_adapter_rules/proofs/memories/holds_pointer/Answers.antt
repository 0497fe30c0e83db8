use Rattle.std.proofs.Common.{sym, ◌∙◌}
use Rattle.fact_adapter_rules.proofs.Decisions.{here, there, denied}
use Rattle.fact_adapter_rules.proofs.memories.holds_pointer.Goals as goal

pub returns-then-takes_pointer : goal.returns-then-takes_pointer
returns-then-takes_pointer c = λ ps rs h. rw c.if-takes_pointer.true (here _ _ (sym (c.takes_pointer.ensures ps rs h) ∙ c.if-takes_pointer.true))

pub returns-else-takes_pointer : goal.returns-else-takes_pointer
returns-else-takes_pointer c = λ ps rs h.
    let t = c.takes_pointer.ensures ps rs h in
    let g = c.gives_pointer.ensures ps rs h in
    there _ _ _ (denied _ _ (λ e. sym t ∙ e, λ e. t ∙ e) c.if-takes_pointer.false) (λ e. sym g ∙ e, λ e. g ∙ e)
