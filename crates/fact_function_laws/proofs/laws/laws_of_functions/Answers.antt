use Rattle.fact_emit.specs.ImportSection.{mentions}
use Rattle.fact_machine.specs.Machine.{run_of}
use Rattle.fact_function_laws.proofs.AtOne.{answered_at_one, part_answered_at_one, typed_at_one}
use Rattle.fact_function_laws.proofs.Behaviour.{functions_behave}
use Rattle.fact_function_laws.proofs.EntryFunctions.{entry_functions_hand_over}
use Rattle.fact_function_laws.proofs.FewCalls.{no_second_call, runs_stay_short}
use Rattle.fact_function_laws.proofs.GoingOn.{lacking_runs_end_soon}
use Rattle.fact_function_laws.proofs.ImportNumbers.{named_log}
use Rattle.fact_function_laws.proofs.LoggedImports.{run_told}
use Rattle.fact_function_laws.proofs.PartFunctions.{part_functions_transfer}
use Rattle.fact_function_laws.proofs.Traps.{trap_functions_trap}
use Rattle.fact_function_laws.proofs.laws.laws_of_functions.Goals as goal

pub returns : goal.returns
returns c = record {
  functions_behave = functions_behave;
  trap_functions_trap = trap_functions_trap;
  part_functions_transfer = part_functions_transfer;
  entry_functions_hand_over = entry_functions_hand_over;
  events_are_named = λ m is adapters f args before answers steps names. named_log m is (mentions adapters) names.named (run_of m f args before answers steps).log (run_told m f args before answers steps);
  no_second_call = no_second_call;
  runs_stay_short = runs_stay_short;
  lacking_runs_end_soon = lacking_runs_end_soon;
  typed_at_one = typed_at_one;
  answered_at_one = answered_at_one;
  part_answered_at_one = part_answered_at_one;
}
