use Rattle.fact_adapter_rules.proofs.BindingLaws.{three-pushed}
use Rattle.fact_adapter_rules.proofs.names.push_parts.Goals as goal

pub returns : goal.returns
returns c =
    three-pushed _ _ _ _ _ _ _ _ _ _ c.in_ok-push.ensures.items c.in_ok-push-2.ensures.items c.in_ok-push-3.ensures.items c.in_ok-joined.ensures c.in_ok-joined-2.ensures c.in_ok-joined-3.ensures
