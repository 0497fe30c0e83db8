use Rattle.std.proofs.Common.{sym, ap, ◌∙◌, option_map}
use Rattle.serde_json.specs.View.{view}
use Rattle.fact_run.proofs.Ends.{replied-fault}
use Rattle.fact_run.proofs.plan_mode.plan_in.Goals as goal

pub returns : goal.returns
returns c =
    let is_json = sym c.in_ok-value.ensures ∙ ap (option_map view) c.in-Some.is in
    λ o. replied-fault o c.args.bytes.now (view c.in-Some.value) c.in-Err.fault c.reply_to_fault.result c.requires is_json c.in-Err.ensures c.reply_to_fault.ensures
