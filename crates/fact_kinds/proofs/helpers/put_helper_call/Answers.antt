use Rattle.std.proofs.lemmas.Result.{on_ok_weaker}
use Rattle.fact_kinds.proofs.HelperCodes.{wrote_call}
use Rattle.fact_kinds.proofs.helpers.put_helper_call.Goals as goal

pub returns : goal.returns
returns c = on_ok_weaker c.take_results.result (λ g. wrote_call c.in_ok-push_source.ensures c.in_ok-push_target.ensures c.in_ok-put.ensures g) c.take_results.ensures
