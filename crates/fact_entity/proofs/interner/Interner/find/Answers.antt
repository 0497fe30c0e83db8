use Rattle.fact_entity.proofs.Places.{found}
use Rattle.fact_entity.proofs.interner.Interner.find.Goals as goal

pub returns-in-Some-clause-interned : goal.returns-in-Some-clause-interned
returns-in-Some-clause-interned g c =
    found g.T.PartialEq.eq g.met.T.Eq.laws _ c.self.invariant.1 c.args.self.now c.self.view_is c.args.value.now _ _
    c.in-Some.ensures.index c.key_at.ensures.number
