use Rattle.fact_abi.proofs.KindLaws.{if_ok}
use Rattle.fact_abi.proofs.LiftingLaws.{list_lifts, no_list}
use Rattle.fact_abi.proofs.lifting.lift_list.Goals as goal

pub returns-in_default : goal.returns-in_default
returns-in_default c = λ ms are. no_list c.args.side.now c.args.bytes.now c.args.values.now ms c.in_default.ensures

pub returns : goal.returns
returns c =
    if_ok _ _ c.list_behind.result (λ o e ms are. list_lifts c.args.side.now c.args.bytes.now c.args.values.now ms (record { pointer = c.in-Some.pointer; count = c.in-Some.count }) o c.in-Some.ensures (e ms are)) c.list_behind.ensures
