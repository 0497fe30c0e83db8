use Rattle.std.proofs.Common.{◌<◌, ap, arith, length}
use Rattle.std.specs.Prelude.{bit_or}
use Rattle.fact_host.proofs.Transcoded.{low_all}
use Rattle.fact_host.proofs.Transcoding.{made_high, made_low, reads_utf16}
use Rattle.fact_host.proofs.transcoders.tagged.Goals as goal

pub units_in-requires : goal.units_in-requires
units_in-requires c = reads_utf16 c.args.op c.args.text.now c.requires.kind c.requires.spelled

pub spelled-requires : goal.spelled-requires
spelled-requires c = λ e. low_all c.args.text.now c.count_of_low.result c.if-count_of_low-text.true c.count_of_low.ensures.low

pub returns-then-count_of_low-text : goal.returns-then-count_of_low-text
returns-then-count_of_low-text c =
    made_low c.args.op c.args.text.now c.in_ok-bytes.bytes.items c.in_ok-units.units c.requires.kind c.requires.spelled (low_all c.args.text.now c.count_of_low.result c.if-count_of_low-text.true c.count_of_low.ensures.low) c.in_ok-bytes.ensures c.in_ok-units.ensures

pub returns : goal.returns
returns c =
    let lt : c.count_of_low.result < length c.args.text.now = omega (arith, c.count_of_low.ensures.within, c.if-count_of_low-text.false) in
    made_high c.args.op c.args.text.now c.in_ok-bytes-2.bytes.items _ c.count_of_low.result c.requires.kind c.requires.spelled lt (c.count_of_low.ensures.next lt) c.in_ok-bytes-2.ensures (ap (λ n. bit_or n 2147483648) c.in_ok-units.ensures)
