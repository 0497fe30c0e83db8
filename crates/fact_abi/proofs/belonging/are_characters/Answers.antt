use Rattle.std.proofs.Common.{arith, rules}
use Rattle.std.specs.Char.{IsScalar}
use Rattle.fact_abi.proofs.BelongLaws.{is_so, item_at, all_past, all_passed}
use Rattle.fact_abi.proofs.belonging.are_characters.Goals as goal

pub returns : goal.returns
returns c = is_so (all_passed IsScalar c.args.chars.now c.loop-place.place (omega (arith, c.loop-place-test.false)) c.loop-place.invariant)

pub loop-place-preserved : goal.loop-place-preserved
loop-place-preserved c =
    let scalar : IsScalar c.index-chars-place.result = search rules in
    all_past IsScalar c.args.chars.now c.loop-place.place c.index-chars-place.result (item_at c.args.chars.now c.loop-place.place c.index-chars-place.result c.loop-place-test.true c.index-chars-place.is) scalar c.loop-place.invariant
