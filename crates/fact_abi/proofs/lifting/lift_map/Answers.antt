use Rattle.fact_abi.proofs.KindLaws.{if_ok}
use Rattle.fact_abi.proofs.LiftingLaws.{map_lifts, no_map}
use Rattle.fact_abi.proofs.lifting.lift_map.Goals as goal

pub returns-in_default : goal.returns-in_default
returns-in_default c = λ ms h are. no_map c.args.side.now c.args.bytes.now c.args.values.now ms c.in_default.ensures

pub returns : goal.returns
returns c =
    if_ok _ _ c.map_behind.result (λ o e ms h are. map_lifts c.args.side.now c.args.bytes.now c.args.values.now ms (record { pointer = c.in-Some.pointer; count = c.in-Some.count }) o c.in-Some.ensures (e ms h are)) c.map_behind.ensures
