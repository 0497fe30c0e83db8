use Rattle.std.proofs.Common.{◌∙◌, sym}
use Rattle.fact_emit.proofs.ChunkBodies.{full_put, more_put}
use Rattle.fact_emit.proofs.choices.put_in_chunk.Goals as goal
use Rattle.fact_emit.proofs.choices.put_in_chunk.Goals.{then-len-eq64+in_ok-number+in_ok-code+in_ok-body_of+in_ok-push, else-len-eq64}

pub returns : goal.returns
returns c = λ done h. elim c.if-len-eq64.branch [
  | then-len-eq64+in_ok-number+in_ok-code+in_ok-body_of+in_ok-push w ↦
      full_put c.args.body (sym c.args.chunk.now.ok.0 ∙ sym c.len.ensures ∙ w.if-len-eq64.true) (λ i. (w.replace-full.ensures.value i).items) w.in_ok-number.ensures w.in_ok-code.ensures w.in_ok-body_of.ensures
      ((λ i. (w.codes-is i).items) ∙ w.in_ok-push.ensures.items) ((λ i. (w.chunk-is i).items) ∙ (λ i. (w.replace-full.ensures.after i).items) ∙ w.new.ensures.items) c.in_ok-push-2.ensures.items h
  | else-len-eq64 w ↦ more_put c.args.body (λ e. w.if-len-eq64.false (c.len.ensures ∙ c.args.chunk.now.ok.0 ∙ e)) (λ i. (w.codes-is i).items) (λ i. (w.chunk-is i).items) c.in_ok-push-2.ensures.items h
]
