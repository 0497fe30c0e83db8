use Rattle.std.proofs.Common.{string_bytes}
use Rattle.fact_adapter_rules.proofs.Decisions.{mapped}
use Rattle.fact_explain.proofs.Passing.{side-told}
use Rattle.fact_explain.proofs.sides.side_text.Goals as goal

pub returns : goal.returns
returns c =
    mapped c.format.result _ _ (λ t told ps rs h. side-told c.args.role c.args.k c.args.side.now ps rs c.args.function.now (string_bytes c.in_ok-head.head) (string_bytes c.in_ok-core_type.core_type)
    (string_bytes c.in_ok-needs.needs) (string_bytes t) c.in_ok-head.ensures (c.in_ok-core_type.ensures ps rs h) (c.in_ok-needs.ensures ps rs h) told) c.format.ensures.ok
