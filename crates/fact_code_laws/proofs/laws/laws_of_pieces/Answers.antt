use Rattle.fact_code_laws.proofs.Functions.{bodies_run, bodies_are_plain}
use Rattle.fact_code_laws.proofs.KnowsLaws.{knows}
use Rattle.fact_code_laws.proofs.TypedStates.{states_agree, answers_agree}
use Rattle.fact_code_laws.proofs.laws.laws_of_pieces.Goals as goal

pub returns : goal.returns
returns c = record {
  bodies_run = λ M p f args func t state answers extra spare e h ty d. bodies_run M p f args func t state answers extra spare e h ty d;
  bodies_are_plain = λ M p f args func t state answers extra spare e h ty d follows straight. bodies_are_plain M p f args func t state answers extra spare e h ty d follows straight;
  known_is_kept = λ M M' p p' asks e k. knows e k;
  typed_states_agree = states_agree;
  typed_answers_agree = answers_agree;
}
