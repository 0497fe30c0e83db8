use Rattle.fact_machine.proofs.TypedTests.{value_decided, state_decided, answer_decided}
use Rattle.fact_machine.proofs.typed_laws.laws_of_typed.Goals as goal

pub returns : goal.returns
returns c = record {
  tests_value = value_decided;
  tests_state = state_decided;
  tests_answer = answer_decided;
}
