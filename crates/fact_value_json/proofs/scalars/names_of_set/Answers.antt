use Rattle.std.proofs.Common.{ap, ◌∙◌, arith, subst, sym}
use Rattle.serde_json.specs.Data.{string}
use Rattle.fact_abi.proofs.BelongLaws.{item_at}
use Rattle.fact_value_json.proofs.PrintWalkLaws.{NamesPrinted, set_printed, unset_printed, all_set_printed}
use Rattle.fact_value_json.proofs.scalars.names_of_set.Goals as goal
use Rattle.fact_value_json.proofs.scalars.names_of_set.Goals.{then-is_set+in_ok-try_from_str+in_ok-push, else-is_set}

pub loop-name-preserved : goal.loop-name-preserved
loop-name-preserved c =
    let at = item_at c.args.flags.now c.loop-name.name-index c.loop-name-item.result c.loop-name-test.true c.loop-name-item.is in
    elim c.if-is_set.branch [
      | then-is_set+in_ok-try_from_str+in_ok-push w ↦
          set_printed c.args.flags.now c.loop-name.name-index c.loop-name-item.result.0 c.loop-name-item.result.1 c.loop-name.list.items c.if-is_set.list.items w.in_ok-try_from_str.field-0 at w.if-is_set.true
          (w.in_ok-try_from_str.ensures ∙ ap (λ n. string n) w.as_str.ensures) (ap (λ v. v.items) w.list-is ∙ w.in_ok-push.ensures.items) c.loop-name.invariant
      | else-is_set w ↦
          unset_printed c.args.flags.now c.loop-name.name-index c.loop-name-item.result.0 c.loop-name-item.result.1 c.if-is_set.list.items at w.if-is_set.false
          (subst (λ l. NamesPrinted c.args.flags.now c.loop-name.name-index l) (ap (λ v. v.items) (sym w.list-is)) c.loop-name.invariant)
    ]

pub returns : goal.returns
returns c = all_set_printed c.args.flags.now c.loop-name.name-index _ (omega (arith, c.loop-name-test.false)) c.loop-name.invariant
