use Rattle.std.proofs.Common.{◌≡◌, ◌-◌, ◌+◌, ◌++◌, ◌∷◌, [], suc, ap, sym, ◌∙◌, arith, append_assoc}
use Rattle.std.specs.Prelude.{replicate}
use Rattle.fact_lowering.proofs.flats.repeated.Goals as goal

pub loop-preserved : goal.loop-preserved
loop-preserved c =
    let more : c.args.count - c.loop.counter ≡ suc (c.args.count - (c.loop.counter + 1)) = omega arith in
    ap (λ l. l ++ replicate (c.args.count - (c.loop.counter + 1)) c.args.flat) c.in_ok-push.ensures.ok
    ∙ append_assoc c.loop.flats (c.args.flat ∷ []) (replicate (c.args.count - (c.loop.counter + 1)) c.args.flat)
    ∙ ap (λ k. c.loop.flats ++ replicate k c.args.flat) (sym more)
    ∙ c.loop.invariant
