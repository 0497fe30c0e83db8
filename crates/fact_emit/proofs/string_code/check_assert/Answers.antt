use Rattle.fact_emit.proofs.StringParts.{asserted, emits_behind_none, not_asserted, part_ranged}
use Rattle.fact_emit.proofs.StringRanged.{test_ranged}
use Rattle.fact_emit.proofs.string_code.check_assert.Goals as goal

pub put_guard-requires : goal.put_guard-requires
put_guard-requires c = part_ranged (test_ranged _) c.in_ok-test.ensures.is

pub returns-in_ok-put_guard : goal.returns-in_ok-put_guard
returns-in_ok-put_guard c = emits_behind_none c.in_ok-test.ensures.aside (asserted _ _ c.if-debug.true c.in_ok-test.ensures.is c.in_ok-put_guard.ensures)

pub returns-else-debug : goal.returns-else-debug
returns-else-debug c = not_asserted _ _ _ c.if-debug.false
