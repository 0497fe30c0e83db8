use Rattle.std.proofs.Common.{◌≡◌, ◌<◌, ◌+◌, ◌-◌, ◌∙◌, ap, length, arith, Some}
use Rattle.fact_types.specs.FlatShapes.{times}
use Rattle.fact_lowering.proofs.FlatLaws.{long_so_far, times_nothing, times_on}
use Rattle.fact_lowering.proofs.flats.flat_times.Goals as goal

pub returns-then-flat-eq0 : goal.returns-then-flat-eq0
returns-then-flat-eq0 c =
    let none : length c.args.flat.now ≡ 0 = c.if-flat-eq0.true in
    ap Some (c.from_vec.ensures ∙ c.new-all.ensures.items) ∙ times_nothing c.args.count c.args.flat.now none

pub returns-then-len-gt-MAX_FLAT_TYPES : goal.returns-then-len-gt-MAX_FLAT_TYPES
returns-then-len-gt-MAX_FLAT_TYPES c =
    let more = times_on c.args.count c.loop.counter c.args.flat.now c.loop.all.items c.extend_from_slice.new.self.items (times c.args.count c.args.flat.now) c.loop-test.true c.in_ok-extend_from_slice.ensures.items c.loop.invariant.list in
    let long : 16 < length c.extend_from_slice.new.self.items = omega (arith, c.if-len-gt-MAX_FLAT_TYPES.true, c.len.ensures) in
    long_so_far c.extend_from_slice.new.self.items (times (c.args.count - (c.loop.counter + 1)) c.args.flat.now) (times c.args.count c.args.flat.now) more long

pub loop-preserved : goal.loop-preserved
loop-preserved c = record {
  list = times_on c.args.count c.loop.counter c.args.flat.now c.loop.all.items c.extend_from_slice.new.self.items (times c.args.count c.args.flat.now) c.loop-test.true c.in_ok-extend_from_slice.ensures.items c.loop.invariant.list;
  few = omega (arith, c.if-len-gt-MAX_FLAT_TYPES.false, c.len.ensures);
}
