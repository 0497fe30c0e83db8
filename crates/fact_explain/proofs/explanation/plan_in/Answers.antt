use Rattle.std.proofs.Common.{sym, ap, ◌∙◌, option_map}
use Rattle.serde_json.specs.View.{view}
use Rattle.fact_explain.proofs.Said.{of-json}
use Rattle.fact_explain.proofs.explanation.plan_in.Goals as goal

pub returns : goal.returns
returns c =
    let is_json = sym c.in_ok-value.ensures ∙ ap (option_map view) c.in-Some.is in
    of-json c.args.bytes.now (view c.in-Some.value) c.faultless_plan-plan.result c.requires is_json c.faultless_plan-plan.ensures
