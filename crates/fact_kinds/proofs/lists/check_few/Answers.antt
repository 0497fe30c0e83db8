use Rattle.std.proofs.Common.{subst, sym}
use Rattle.fact_wasm.specs.Ranges.{AreRanged}
use Rattle.fact_kinds.proofs.ListParts.{few_emits, no_few_emits}
use Rattle.fact_kinds.proofs.ListRanged.{few_ranged}
use Rattle.fact_kinds.proofs.lists.check_few.Goals as goal

pub put_guard-requires : goal.put_guard-requires
put_guard-requires c = subst (AreRanged 0 0) (sym c.in_ok-test.ensures) (few_ranged _ _)

pub returns-in_ok-put_guard : goal.returns-in_ok-put_guard
returns-in_ok-put_guard c = few_emits _ _ _ c.may_be_many-tested.ensures c.if-tested.true c.in_ok-test.ensures c.in_ok-put_guard.ensures

pub returns-else-tested : goal.returns-else-tested
returns-else-tested c = no_few_emits _ _ _ _ c.may_be_many-tested.ensures c.if-tested.false
