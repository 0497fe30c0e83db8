use Rattle.fact_call_mode.specs.Replies.{sort_of_kind}
use Rattle.fact_call_mode.proofs.Counting.{IsCounted}
use Rattle.fact_call_mode.proofs.places.place_of.Given as goal

abbrev pub invariant-loop-place : goal.invariant-loop-place
invariant-loop-place l = IsCounted (sort_of_kind l.kind) l.def l.fused.module.imports l.fused.imports l.place l.number
