use Rattle.std.proofs.Common.{◌+◌, arith, length, refl, sym}
use Rattle.std.proofs.lemmas.List.{get_or_read_under}
use Rattle.fact_host.proofs.Loops.{fits_next, full_next}
use Rattle.fact_host.proofs.transcoders.count_that_fits.Goals as goal

pub returns-then-more-room-clause-full : goal.returns-then-more-room-clause-full
returns-then-more-room-clause-full c = λ lt.
    full_next c.args.text.now c.loop-place.place c.loop-place.used c.index-text-place.result c.units_of_char-more.result c.args.room c.loop-place.invariant.used_is c.loop-place.invariant.fits c.units_of_char-more.ensures.value
    (sym (get_or_read_under c.args.text.now c.loop-place.place (length c.args.text.now) c.index-text-place.result 0 c.index-text-place.is lt refl)) c.if-more-room.true

pub loop-place-preserved : goal.loop-place-preserved
loop-place-preserved c = record {
  used_is = fits_next c.args.text.now c.loop-place.place (c.loop-place.place + 1) c.loop-place.used c.index-text-place.result c.units_of_char-more.result refl c.loop-place-test.true c.loop-place.invariant.used_is c.units_of_char-more.ensures.value
      (sym (get_or_read_under c.args.text.now c.loop-place.place (length c.args.text.now) c.index-text-place.result 0 c.index-text-place.is c.loop-place-test.true refl));
  fits = omega (arith, c.if-more-room.false, c.loop-place.invariant.fits);
}
