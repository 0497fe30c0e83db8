use Rattle.fact_compound.proofs.TuplesWritten.{checked_tuple, unchecked_tuple, width64, width32}
use Rattle.fact_compound.proofs.tuples.check_tuple_area.Goals as goal

pub returns-in_ok-check_area : goal.returns-in_ok-check_area
returns-in_ok-check_area c = checked_tuple c.args.linear c.canonical_abi-abi.ensures.laid c.canonical_abi-abi.ensures.within _ c.if-linear.true c.if-not-flat.true (width64 c.canonical_abi-abi.result.now) c.in_ok-check_area.ensures

pub returns-in_ok-check_area-2 : goal.returns-in_ok-check_area-2
returns-in_ok-check_area-2 c = checked_tuple c.args.linear c.canonical_abi-abi.ensures.laid c.canonical_abi-abi.ensures.within _ c.if-linear.false c.if-not-flat.true (width32 c.canonical_abi-abi.result.now) c.in_ok-check_area-2.ensures

pub returns-else-not-flat : goal.returns-else-not-flat
returns-else-not-flat c = unchecked_tuple c.args.linear c.canonical_abi-abi.ensures.laid c.canonical_abi-abi.ensures.within c.if-not-flat.false
