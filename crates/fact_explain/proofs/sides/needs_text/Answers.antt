use Rattle.std.proofs.Common.{string_bytes}
use Rattle.fact_adapter_rules.proofs.Decisions.{mapped}
use Rattle.fact_explain.proofs.Passing.{needs-told}
use Rattle.fact_explain.proofs.sides.needs_text.Goals as goal

pub returns : goal.returns
returns c =
    mapped c.format.result _ _ (λ t told ps rs h. needs-told c.args.role c.args.side.now ps rs c.in_ok-needs.needs c.is_wide-wide.result (string_bytes c.in_ok-params.params) (string_bytes c.in_ok-results.results)
    (string_bytes c.in_ok-options.options) (string_bytes t) (c.in_ok-needs.ensures ps rs h) c.is_wide-wide.ensures (c.in_ok-params.ensures ps rs h) (c.in_ok-results.ensures ps rs h) c.in_ok-options.ensures told) c.format.ensures.ok
