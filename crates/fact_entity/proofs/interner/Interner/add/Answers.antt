use Rattle.fact_entity.proofs.Places.{only_place, interned}
use Rattle.fact_entity.proofs.interner.Interner.add.Goals as goal

pub returns-clause-interned : goal.returns-clause-interned
returns-clause-interned g c =
    interned g.T.PartialEq.eq g.met.T.Eq.laws _ _ c.args.value _
    (let v = c.self.view_is in let i = c.in_ok-place.ensures.index in let k = c.key_at.ensures.number in cc)
    (let v = c.self.view_is in let k = c.in_ok-place.ensures.keys in cc)
    (only_place g.T.PartialEq.eq g.met.T.Eq.laws _ c.in_ok-place.ensures.unique c.args.value _ _ c.in_ok-place.ensures.stored c.key_at.ensures.number)
