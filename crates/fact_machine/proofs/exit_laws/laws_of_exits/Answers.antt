use Rattle.fact_machine.proofs.Laws.{leaves_none, leaves_one, leaves_then, leaves_early}
use Rattle.fact_machine.proofs.Structure.{leaves_block, leaves_if, leaves_else, leaves_try, leaves_loop, leaves_loop_again, leaves_nest, leaves_call}
use Rattle.fact_machine.proofs.OutsideCalls.{leaves_import}
use Rattle.fact_machine.proofs.WholeRuns.{run_ends, run_going}
use Rattle.fact_machine.proofs.Grows.{leaves_replays}
use Rattle.fact_machine.proofs.exit_laws.laws_of_exits.Goals as goal

pub returns : goal.returns
returns c = record {
  nothing_leaves = λ M w vs ls. leaves_none;
  instruction_leaves = λ M i w vs ls x h. leaves_one h;
  sequence_leaves = λ M m n a b w w' vs vs' ls ls' x p q. leaves_then p q;
  early_leaves = λ M m a b w vs ls x early p. leaves_early b early p;
  block_leaves = λ M bt body w vs ls m n top below t x h p. leaves_block h p;
  then_leaves = λ M bt body other w vs ls m n top below c t x taken h p. leaves_if body other c taken h p;
  else_leaves = λ M bt body other w vs ls m n top below t x h p. leaves_else body other h p;
  try_leaves = λ M bt catches body w vs ls m n top below t x h p. leaves_try catches h p;
  loop_leaves = λ M bt body w vs ls m n top below t x h out p. leaves_loop h out p;
  loop_begins_again = λ M bt body w w' vs us ls ls' m n top below taken dropped t u x h p g q. leaves_loop_again h p g q;
  nest_leaves = λ blocks M t code w w' l us ls ls' p. leaves_nest blocks p;
  call_leaves = λ M f args func ty w vs ls t x h p. leaves_call vs h p;
  outside_call_leaves = λ M f args w vs ls h. leaves_import vs h;
  run_ends = λ M f args state answers func ty t x n h le. run_ends state answers h.calls h.leaves n le;
  run_goes_on = λ M f args state answers func ty t x n h lt. run_going state answers h.calls h.leaves n lt;
  stretch_is_replayed = λ M m code w vs ls x p. leaves_replays p;
}
