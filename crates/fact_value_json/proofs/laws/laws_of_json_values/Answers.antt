use Rattle.std.proofs.Common.{ap}
use Rattle.fact_plan.specs.Fault.{at_step}
use Rattle.fact_value_json.specs.Reading.{values_at}
use Rattle.fact_value_json.proofs.OfTypeLaws.{read_is_a, values_at_are}
use Rattle.fact_value_json.proofs.RoundLaws.{read_back, values_read_back}
use Rattle.fact_value_json.proofs.TextLaws.{value_has_texts}
use Rattle.fact_value_json.proofs.laws.laws_of_json_values.Goals as goal

pub returns-clause-value : goal.returns-clause-value
returns-clause-value c = λ s v f r h. read_back s f r v h

pub returns-clause-list : goal.returns-clause-list
unfolding values_at
returns-clause-list c = λ path ss vs f r h. ap (at_step path) (values_read_back ss vs f r h)

pub returns-clause-value_read : goal.returns-clause-value_read
returns-clause-value_read c = λ s d v f h e. read_is_a s f d v h e

pub returns-clause-list_read : goal.returns-clause-list_read
returns-clause-list_read c = λ path ss d vs f h e. values_at_are path ss d vs f h e

pub returns-clause-texts : goal.returns-clause-texts
returns-clause-texts c = λ v. value_has_texts v
