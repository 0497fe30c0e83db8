use Rattle.std.proofs.Common.{◌∙◌, ◌++◌, ◌∷◌, [], ap, sym, append_assoc}
use Rattle.fact_emit.proofs.ChunkBodies.{all_put}
use Rattle.fact_emit.proofs.choices.chunk_bodies.Goals as goal

pub loop-body-preserved : goal.loop-body-preserved
loop-body-preserved c =
    let so_far = c.loop-body.invariant.so_far in
    record {
      can_next = tt;
      is_finite = tt;
      so_far = (so_far.0 ++ c.in-Some.body ∷ [], so_far.1 ∙ ap (λ bs. so_far.0 ++ bs) c.in-Some.ensures.steps.0 ∙ sym (append_assoc so_far.0 (c.in-Some.body ∷ []) c.next.new.self.rest.items), c.in_ok-put_in_chunk.ensures so_far.0 so_far.2);
    }

pub returns : goal.returns
returns c =
    let so_far = c.loop-body.invariant.so_far in
    all_put c.loop-body.body-iterator.rest.items so_far.1 (sym c.loop-body.body-iterator.rest.ok.0 ∙ c.in-None.ensures.steps.0) c.in_ok-number.ensures c.in_ok-last.ensures c.in_ok-body_of.ensures c.in_ok-push.ensures.items so_far.2
