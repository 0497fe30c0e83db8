use Rattle.std.proofs.Common.{◌≡◌, ◌-◌, ◌+◌, ◌++◌, ◌∷◌, [], ◌%◌, ◌/◌, suc, ap, sym, ◌∙◌, arith, append_assoc}
use Rattle.fact_machine.specs.World.{bytes_of}
use Rattle.fact_lowering.proofs.store.number_bytes.Goals as goal

pub loop-preserved : goal.loop-preserved
loop-preserved c =
    let more : c.args.size - c.loop.counter ≡ suc (c.args.size - (c.loop.counter + 1)) = omega arith in
    ap (λ l. l ++ bytes_of (c.args.size - (c.loop.counter + 1)) (c.loop.rest / 256)) c.in_ok-push.ensures.items
    ∙ append_assoc c.loop.bytes.items (c.loop.rest % 256 ∷ []) (bytes_of (c.args.size - (c.loop.counter + 1)) (c.loop.rest / 256))
    ∙ ap (λ k. c.loop.bytes.items ++ bytes_of k c.loop.rest) (sym more)
    ∙ c.loop.invariant
