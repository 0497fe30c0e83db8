use Rattle.fact_machine.specs.Machine.{At}
use Rattle.fact_machine.proofs.Answered.{log_takes, no_more_calls, more_answers, runs_on_its_answers}
use Rattle.fact_machine.proofs.Laws.{exec_is, run_is, reach_stays, comes_silent, comes_one, comes_on}
use Rattle.fact_machine.proofs.WholeRuns.{run_untyped, run_stays, run_one_end}
use Rattle.fact_machine.proofs.Grows.{run_log, run_trace_more, run_log_more, trace_grows}
use Rattle.fact_machine.proofs.LastTrap.{traps_are_last}
use Rattle.fact_machine.proofs.Lengths.{lengths_stay}
use Rattle.fact_machine.proofs.run_laws.laws_of_runs.Goals as goal

pub returns : goal.returns
returns c = record {
  exec_is_reached = exec_is;
  run_is_reached = run_is;
  log_is_of_trace = run_log;
  untyped_is_stuck = run_untyped;
  end_stays = run_stays;
  reached_stays = reach_stays;
  one_end = run_one_end;
  no_step = λ M a b h. comes_silent h;
  one_step = λ M a b h. comes_one h;
  steps_add = λ M m n a b c p q. comes_on p q;
  trace_grows = run_trace_more;
  log_grows = run_log_more;
  trace_keeps = λ M n w vs ls code k. trace_grows M n (At w vs ls code k);
  log_takes_answers = log_takes;
  no_more_calls = no_more_calls;
  more_answers = more_answers;
  runs_on_its_answers = runs_on_its_answers;
  lengths_stay = lengths_stay;
  traps_are_last = traps_are_last;
}
