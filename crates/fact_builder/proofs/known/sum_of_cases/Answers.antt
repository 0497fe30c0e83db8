use Rattle.std.proofs.Common.{map, sym, ◌∙◌, List}
use Rattle.std.specs.Prelude.{Option}
use Rattle.std.proofs.lemmas.List.{at_drop_all}
use Rattle.indexmap.specs.IndexMap.{get}
use Rattle.fact_types.specs.declared.interface.InterfaceType.{InterfaceType}
use Rattle.fact_types.specs.contracts.interface.InterfaceTypePartialEq.TheImpl as type_eq
use Rattle.fact_builder.specs.Information.{nothing, sum_from, known_payload}
use Rattle.fact_builder.proofs.known.sum_of_cases.Goals as goal

pub returns : goal.returns
returns c =
    sym (at_drop_all (λ (xs : List (Option InterfaceType)). sum_from c.loop-payload.all (map (known_payload (get type_eq.ghosts.eq c.args.kept.now)) xs)) c.as_slice-payload-items.result.now c.loop-payload.payload-index c.loop-payload-test.false)
    ∙ c.loop-payload.invariant
    ∙ (λ i. sum_from nothing (map (known_payload (get type_eq.ghosts.eq c.args.kept.now)) ((c.as_slice-payload-items.ensures ∙ c.values.ensures.rest) i)))
