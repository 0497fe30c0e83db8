use Rattle.std.proofs.Common.{sym, ap, ◌∙◌, option_map}
use Rattle.serde_json.specs.View.{view}
use Rattle.fact_library.proofs.Comes.{error-of-fault}
use Rattle.fact_library.proofs.compiling.plan_in.Goals as goal

pub returns : goal.returns
returns c =
    let is_json = sym c.in_ok-value.ensures ∙ ap (option_map view) c.in-Some.is in
    error-of-fault c.args.bytes.now (view c.in-Some.value) c.in-Err.fault c.bad_plan.result c.requires is_json c.in-Err.ensures c.bad_plan.ensures
