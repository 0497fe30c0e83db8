use Rattle.std.proofs.Common.{◌++◌, [], ◌∷◌, ◌∙◌, ap, slice_set, subst}
use Rattle.fact_emit.specs.PlacedBits.{IsTogether}
use Rattle.fact_emit.proofs.BitSums.{added_together, added_alone, bit_put, new_mask}
use Rattle.fact_emit.proofs.bits.add_bit.Goals as goal

pub returns-in-Some : goal.returns-in-Some
returns-in-Some c =
    let t = subst (λ l. IsTogether l c.in-Some.at c.args.from c.args.to) c.deref.ensures.value c.in-Some.ensures in
    added_together c.requires.goes c.requires.each t (ap (λ m. slice_set c.args.moves.now.items c.in-Some.at m) (bit_put c.index-moved.result.now t c.index-moved.ensures c.bit.ensures))

pub returns-in_ok-push-in-None : goal.returns-in_ok-push-in-None
returns-in_ok-push-in-None c =
    added_alone c.requires.leaves c.requires.goes c.requires.each (c.in_ok-push-in-None.ensures.items ∙ ap (λ b. c.args.moves.now.items ++ new_mask c.args.from c.args.to b ∷ []) c.bit-in-None.ensures)
