use Rattle.std.proofs.Common.{◌∙◌, refl, sym, arith}
use Rattle.fact_abi.proofs.BelongLaws.{item_at}
use Rattle.fact_abi.proofs.WalkLaws.{flag_past, flag_at, no_flag_named}
use Rattle.fact_abi.proofs.carrying.flag_of_name.Goals as goal

pub loop-flag-init : goal.loop-flag-init
loop-flag-init c = refl

pub returns-then-is_name : goal.returns-then-is_name
returns-then-is_name c = sym (flag_at c.args.name.now c.args.flags.now c.loop-flag.flag-index c.flag-item.result (item_at c.args.flags.now c.loop-flag.flag-index c.flag-item.result c.loop-flag-test.true c.flag-item.is) (sym c.is_name.ensures ∙ c.if-is_name.true) c.loop-flag.invariant)

pub loop-flag-preserved : goal.loop-flag-preserved
loop-flag-preserved c = flag_past c.args.name.now c.args.flags.now c.loop-flag.flag-index c.flag-item.result (item_at c.args.flags.now c.loop-flag.flag-index c.flag-item.result c.loop-flag-test.true c.flag-item.is) (sym c.is_name.ensures ∙ c.if-is_name.false) c.loop-flag.invariant

pub returns : goal.returns
returns c = sym (no_flag_named c.args.name.now c.args.flags.now c.loop-flag.flag-index (omega (arith, c.loop-flag-test.false)) c.loop-flag.invariant)
