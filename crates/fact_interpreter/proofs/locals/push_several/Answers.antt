use Rattle.std.proofs.Common.{◌++◌, ◌∷◌, [], ap, sym, ◌∙◌, append_assoc}
use Rattle.fact_interpreter.proofs.Declared.{several_next}
use Rattle.fact_interpreter.proofs.locals.push_several.Goals as goal

pub loop-preserved : goal.loop-preserved
loop-preserved c =
    c.in_ok-push.ensures.ok ∙ ap (λ l. l ++ c.args.value ∷ []) c.loop.invariant ∙ append_assoc c.args.locals.now _ _ ∙ sym (ap (λ l. c.args.locals.now ++ l) (several_next c.loop.counter c.args.value))
