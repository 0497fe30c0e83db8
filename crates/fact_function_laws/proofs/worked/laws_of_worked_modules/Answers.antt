use Rattle.fact_function_laws.proofs.OneNumber.{one_number_arrives}
use Rattle.fact_function_laws.proofs.OneText.{one_text_arrives}
use Rattle.fact_function_laws.proofs.Spelled.{one_number_is_spelled, one_text_is_spelled}
use Rattle.fact_function_laws.proofs.worked.laws_of_worked_modules.Goals as goal

pub returns : goal.returns
returns c = record {
  one_number_is_spelled = one_number_is_spelled;
  one_number_arrives = one_number_arrives;
  one_text_is_spelled = one_text_is_spelled;
  one_text_arrives = one_text_arrives;
}
