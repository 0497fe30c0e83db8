use Rattle.std.proofs.Common.{◌∙◌, ◌++◌, ◌∷◌, [], ap, sym, arith}
use Rattle.fact_abi.proofs.BelongLaws.{item_at}
use Rattle.fact_abi.proofs.WalkLaws.{ordering_starts, ordering_on, not_ordered, all_ordered}
use Rattle.fact_abi.proofs.carrying.flags_in_order.Goals as goal

pub loop-name-init : goal.loop-name-init
loop-name-init c = ordering_starts c.args.names.now c.args.flags.now c.new-ordered.result c.new-ordered.ensures

pub returns-in_default : goal.returns-in_default
returns-in_default c = sym (not_ordered c.args.names.now c.args.flags.now c.loop-name.name-index c.name-item.result c.loop-name.ordered (item_at c.args.names.now c.loop-name.name-index c.name-item.result c.loop-name-test.true c.name-item.is) (sym c.flag_of_name.ensures ∙ c.in_default.is) c.loop-name.invariant)

pub loop-name-preserved : goal.loop-name-preserved
loop-name-preserved c =
    ordering_on c.args.names.now c.args.flags.now c.loop-name.name-index c.name-item.result c.in-Some.is_set c.loop-name.ordered c.push.new.self (item_at c.args.names.now c.loop-name.name-index c.name-item.result c.loop-name-test.true c.name-item.is) (sym c.flag_of_name.ensures ∙ c.in-Some.is)
    (c.in_ok-push.ensures.ok ∙ ap (λ n. c.loop-name.ordered ++ (n, c.in-Some.is_set) ∷ []) c.in_ok-try_clone.ensures) c.loop-name.invariant

pub returns : goal.returns
returns c = sym (all_ordered c.args.names.now c.args.flags.now c.loop-name.name-index c.loop-name.ordered (omega (arith, c.loop-name-test.false)) c.loop-name.invariant)
