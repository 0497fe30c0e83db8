use Rattle.std.proofs.Common.{◌∙◌, ◌++◌, ◌∷◌, [], ap, sym, arith}
use Rattle.fact_types.specs.FlatShapes.{joined}
use Rattle.fact_lowering.proofs.FlatLaws.{all_joined, take_next, take_past}
use Rattle.fact_lowering.proofs.flats.joined.Goals as goal
use Rattle.fact_lowering.proofs.flats.joined.Goals.{in-Some+in_ok-push, in_default}

pub loop-place-preserved : goal.loop-place-preserved
loop-place-preserved c =
    elim c.match-joined_type.branch [
      | in-Some+in_ok-push w ↦ w.all-is ∙ w.in_ok-push.ensures.ok ∙ ap (λ l. l ++ w.in-Some.flat ∷ []) c.loop-place.invariant ∙ sym (take_next (joined c.args.first.now c.args.second.now) c.loop-place.place w.in-Some.flat (sym c.joined_type.ensures ∙ w.in-Some.is))
      | in_default w ↦ w.all-is ∙ c.loop-place.invariant ∙ sym (take_past (joined c.args.first.now c.args.second.now) c.loop-place.place (sym c.joined_type.ensures ∙ w.in_default.is))
    ]

pub returns : goal.returns
returns c = c.loop-place.invariant ∙ all_joined c.args.first.now c.args.second.now c.loop-place.place (omega (arith, c.loop-place-test.false, c.max-place-end.ensures))
