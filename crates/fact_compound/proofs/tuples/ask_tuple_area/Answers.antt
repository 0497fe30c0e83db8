use Rattle.fact_compound.proofs.TuplesWritten.{asked_tuple, unasked_tuple, width64, width32}
use Rattle.fact_compound.proofs.tuples.ask_tuple_area.Goals as goal

pub returns-in_ok-ask_area : goal.returns-in_ok-ask_area
returns-in_ok-ask_area c = asked_tuple c.args.linear c.canonical_abi-abi.ensures.laid c.canonical_abi-abi.ensures.within _ c.if-linear.true c.if-not-flat.true (width64 c.canonical_abi-abi.result.now) c.in_ok-ask_area.ensures

pub returns-in_ok-ask_area-2 : goal.returns-in_ok-ask_area-2
returns-in_ok-ask_area-2 c = asked_tuple c.args.linear c.canonical_abi-abi.ensures.laid c.canonical_abi-abi.ensures.within _ c.if-linear.false c.if-not-flat.true (width32 c.canonical_abi-abi.result.now) c.in_ok-ask_area-2.ensures

pub returns-else-not-flat : goal.returns-else-not-flat
returns-else-not-flat c = unasked_tuple c.args.linear c.canonical_abi-abi.ensures.laid c.canonical_abi-abi.ensures.within c.if-not-flat.false
