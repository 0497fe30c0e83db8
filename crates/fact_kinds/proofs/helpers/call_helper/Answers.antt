use Rattle.std.proofs.Common.{refl}
use Rattle.std.proofs.lemmas.Result.{on_ok_weaker}
use Rattle.fact_kinds.proofs.Helped.{call_asked, from_is, to_is}
use Rattle.fact_kinds.proofs.helpers.call_helper.Goals as goal

pub returns : goal.returns
returns c =
    on_ok_weaker c.put_helper_call.result
    (λ w. call_asked c.requires.told (from_is c.args.sides.from c.args.source) (to_is c.args.sides.to c.args.target) c.requires.sides c.requires.from_live c.requires.to_live c.helper_between-key.ensures refl refl c.in_ok-number.ensures.asked c.helper.ensures.keeps c.helper.ensures.once w) c.put_helper_call.ensures
