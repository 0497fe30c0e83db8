use Rattle.std.proofs.Common.{ap, sym, subst, Some}
use Rattle.std.specs.Option.{option_copied}
use Rattle.fact_abi.proofs.KindLaws.{if_ok}
use Rattle.fact_lowering.specs.Counted.{AsksBy, measured_at, weight_at}
use Rattle.fact_lowering.proofs.room.asked_by_any.Goals as goal

pub returns-in-Some : goal.returns-in-Some
returns-in-Some c =
    if_ok _ _ c.asked_by.result (λ a e s d h g. subst (λ v. AsksBy (λ m. measured_at m (Some s) (Some d) v) (weight_at (Some s) v) a) (sym (ap option_copied c.in-Some.is)) (e s d h g)) c.asked_by.ensures
