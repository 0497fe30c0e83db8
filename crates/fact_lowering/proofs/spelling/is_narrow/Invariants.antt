use Rattle.std.proofs.Common.{◌≡◌, drop}
use Rattle.fact_actions.specs.Transcoders.{all_latin1}
use Rattle.fact_lowering.proofs.spelling.is_narrow.Given as goal

abbrev pub invariant-loop-c : goal.invariant-loop-c
invariant-loop-c l = all_latin1 l.text ≡ all_latin1 (drop l.c-index l.text)
