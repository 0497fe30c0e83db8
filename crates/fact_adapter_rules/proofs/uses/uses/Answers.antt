use Rattle.fact_adapter_rules.proofs.UseLaws.{uses-gathered}
use Rattle.fact_adapter_rules.proofs.uses.uses.Goals as goal

pub returns : goal.returns
returns c = λ linked h.
    uses-gathered linked _ _ _ _ _ _ _ _ c.new-pairs.ensures.items (c.in_ok-push_side.ensures _ _ _ h.lift) (c.in_ok-push_side-2.ensures _ _ _ h.lower) c.in_ok-push_callee.ensures
    h.callee c.index-ty.ensures h.lift.core_type h.lift.post_return
