use Rattle.fact_value_laws.proofs.AgreementLaws.{agrees_through, places_through}
use Rattle.fact_value_laws.proofs.CompositionLaws.{crossed_through, places_crossed_through, carried_through, same_count}
use Rattle.fact_value_laws.proofs.laws.laws_of_composition.Goals as goal

pub returns-clause-agree : goal.returns-clause-agree
returns-clause-agree c = λ s m d g h. agrees_through d m s g h

pub returns-clause-places_agree : goal.returns-clause-places_agree
returns-clause-places_agree c = λ from between to g h. places_through to between from g h

pub returns-clause-composed : goal.returns-clause-composed
returns-clause-composed c = carried_through

pub returns-clause-crossed : goal.returns-clause-crossed
returns-clause-crossed c = crossed_through

pub returns-clause-places_crossed : goal.returns-clause-places_crossed
returns-clause-places_crossed c = places_crossed_through

pub returns-clause-same_count : goal.returns-clause-same_count
returns-clause-same_count c = same_count
