use Rattle.std.proofs.Common.{subst, sym}
use Rattle.fact_wasm.specs.Ranges.{AreRanged}
use Rattle.fact_emit.proofs.CheckMoves.{region_emits}
use Rattle.fact_emit.proofs.RangedCode.{bounds_ranged}
use Rattle.fact_emit.proofs.pointers.check_region.Goals as goal

pub put_guard-requires : goal.put_guard-requires
put_guard-requires c = subst (AreRanged 0 0) (sym c.in_ok-bounds.ensures) (bounds_ranged _ _ _)

pub returns : goal.returns
returns c = region_emits c.in_ok-bounds.ensures c.in_ok-check_aligned.ensures c.in_ok-put_length.ensures c.in_ok-put.ensures c.in_ok-put_guard.ensures
