use Rattle.std.proofs.Common.{◌∙◌, ap, ◌++◌, ◌∷◌, []}
use Rattle.fact_emit.proofs.ChosenBodies.{labels_more}
use Rattle.fact_emit.proofs.choices.labels.Goals as goal

pub loop-label-preserved : goal.loop-label-preserved
loop-label-preserved c = c.in_ok-push.ensures.ok ∙ ap (λ ls. ls ++ c.loop-label.label ∷ []) c.loop-label.invariant ∙ labels_more c.loop-label.label
