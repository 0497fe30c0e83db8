use Rattle.std.proofs.Common.{arith}
use Rattle.fact_abi.proofs.LiftingLaws.{wording_on, no_word, all_words}
use Rattle.fact_abi.proofs.lifting.bytes_of_words.Goals as goal

pub returns-in_default : goal.returns-in_default
returns-in_default c = no_word c.args.count c.loop-index.index c.args.values.now c.loop-index.bytes.items c.loop-index-test.true c.in_default.ensures.lookup.3 c.loop-index.invariant

pub loop-index-preserved : goal.loop-index-preserved
loop-index-preserved c =
    wording_on c.args.count c.loop-index.index c.args.values.now c.loop-index.bytes.items _ c.bytes_of_word-word.result c.in-Some.value.now c.number_as.result c.loop-index-test.true c.in-Some.ensures.lookup.3.0 (c.in-Some.ensures.lookup.3.1 _)
    c.number_as.ensures.value c.bytes_of_word-word.ensures.value c.bytes_of_word-word.ensures.four c.in_ok-extend_from_slice.ensures.items c.loop-index.invariant

pub returns : goal.returns
returns c = all_words c.args.count c.loop-index.index c.args.values.now c.loop-index.bytes.items (omega (arith, c.loop-index-test.false)) c.loop-index.invariant
