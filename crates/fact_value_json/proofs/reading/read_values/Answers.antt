use Rattle.std.proofs.Common.{ap}
use Rattle.serde_json.specs.View.{view}
use Rattle.fact_plan.specs.Fault.{at_step}
use Rattle.fact_value_json.specs.Reading.{values_at, values_in}
use Rattle.fact_value_json.proofs.StepLaws.{fault_at}
use Rattle.fact_value_json.proofs.reading.read_values.Goals as goal

pub returns-in-Ok : goal.returns-in-Ok
unfolding values_at
returns-in-Ok c = λ ss h. ap (at_step c.args.path.now) (c.in-Ok.ensures ss h)

pub returns-in_ok-under-in-Err : goal.returns-in_ok-under-in-Err
unfolding values_at
returns-in_ok-under-in-Err c = λ ss h. rw c.in_ok-under-in-Err.ensures (fault_at c.args.path.now (values_in ss (view c.args.json.now)) c.in-Err.fault (c.in-Err.ensures ss h))
