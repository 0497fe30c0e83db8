use Rattle.std.proofs.Common.{subst, sym}
use Rattle.fact_wasm.specs.Ranges.{AreRanged}
use Rattle.fact_emit.proofs.CheckMoves.{address_emits, no_address_emits}
use Rattle.fact_emit.proofs.RangedCode.{place_ranged}
use Rattle.fact_emit.proofs.checks.check_address.Goals as goal

pub put_guard-requires : goal.put_guard-requires
put_guard-requires c = subst (AreRanged 0 0) (sym c.in_ok-test.ensures) (place_ranged _ _ _ _)

pub returns-in_ok-put_guard : goal.returns-in_ok-put_guard
returns-in_ok-put_guard c = address_emits _ _ _ _ _ c.if-debug.true c.if-align-ne1.true c.in_ok-test.ensures c.in_ok-put_guard.ensures

pub returns-else-debug : goal.returns-else-debug
returns-else-debug c = no_address_emits _ _ _ _ _ _ c.else-debug.either
