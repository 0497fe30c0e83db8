use Rattle.fact_host.proofs.TypedAnswers.{answers_are_typed}
use Rattle.fact_host.proofs.laws.laws_of_typed_answers.Goals as goal

pub returns : goal.returns
returns c = answers_are_typed
