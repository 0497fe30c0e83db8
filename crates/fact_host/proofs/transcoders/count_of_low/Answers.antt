use Rattle.std.proofs.Common.{◌+◌, ◌≡◌, arith, get_or, length, refl}
use Rattle.std.proofs.lemmas.List.{get_or_read_under}
use Rattle.fact_host.proofs.Loops.{low_next}
use Rattle.fact_host.proofs.transcoders.count_of_low.Goals as goal

pub loop-place-preserved : goal.loop-place-preserved
loop-place-preserved c =
    let here : c.index-text-place.result ≡ get_or c.args.text.now c.loop-place.place 0 = get_or_read_under c.args.text.now c.loop-place.place (length c.args.text.now) c.index-text-place.result 0 c.index-text-place.is c.loop-place-test.true refl in
    low_next c.args.text.now c.loop-place.place (c.loop-place.place + 1) refl c.loop-place-test.true (omega (arith, here, c.from.ensures, c.if-from-ge256.false)) c.loop-place.invariant
