use Rattle.std.proofs.Common.{subst, sym}
use Rattle.fact_wasm.specs.Ranges.{AreRanged}
use Rattle.fact_emit.proofs.StringParts.{limit_checked}
use Rattle.fact_emit.proofs.StringRanged.{limit_ranged}
use Rattle.fact_emit.proofs.string_code.check_limit.Goals as goal

pub put_guard-requires : goal.put_guard-requires
put_guard-requires c = subst (AreRanged 0 0) (sym c.in_ok-test.ensures) (limit_ranged c.args.l.units c.args.factor)

pub returns : goal.returns
returns c = limit_checked c.args.factor c.in_ok-test.ensures c.in_ok-put_guard.ensures
