use Rattle.std.proofs.Common.{sym, subst, arith, map}
use Rattle.serde_json.specs.View.{view}
use Rattle.fact_abi.proofs.BelongLaws.{item_at}
use Rattle.fact_value_json.proofs.PrintWalkLaws.{ValuesPrinted, no_value_printed, value_printed, all_values_printed, one_viewed}
use Rattle.fact_value_json.proofs.printing.values_list.Goals as goal

pub loop-place-init : goal.loop-place-init
loop-place-init c = λ ss h are. subst (λ l. ValuesPrinted c.args.types.now c.args.tys.now ss c.args.values.now 0 (map view l)) (sym c.new-list.ensures.items) (no_value_printed c.args.types.now c.args.tys.now ss c.args.values.now h are)

pub loop-place-preserved : goal.loop-place-preserved
loop-place-preserved c = λ ss h are. value_printed (c.loop-place.invariant ss h are) c.index-values-place.result _ _ (item_at _ _ _ c.loop-place-test.true c.index-values-place.is) c.in_ok-print_at.ensures (one_viewed _ _ _ c.in_ok-push.ensures.items)

pub returns : goal.returns
returns c = λ ss h are. all_values_printed (omega (arith, c.loop-place-test.false)) (c.loop-place.invariant ss h are)
