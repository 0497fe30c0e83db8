use Rattle.std.proofs.Common.{subst}
use Rattle.fact_types.specs.Shapes.{IsWithin}
use Rattle.fact_types.specs.Tables.{IsLiveFunc, of_functions}
use Rattle.fact_type_rules.proofs.FunctionLaws.{params-within, results-within}
use Rattle.fact_type_rules.proofs.ListLaws.{all-contained, contains-at}
use Rattle.fact_type_rules.proofs.functions.reveal_tuples.Goals as goal

pub canonical_abi-params-requires : goal.canonical_abi-params-requires
canonical_abi-params-requires c =
    let t = c.args.builder.now.tables in
    (all-contained (IsLiveFunc t) t.functions _ (c.reveal.ensures.sound.held_live of_functions) (contains-at t.functions _ _ c.index-func.ensures)).params

pub canonical_abi-results-requires : goal.canonical_abi-results-requires
canonical_abi-results-requires c =
    let t = c.args.builder.now.tables in
    (all-contained (IsLiveFunc t) t.functions _ (c.reveal.ensures.sound.held_live of_functions) (contains-at t.functions _ _ c.index-func.ensures)).results

pub returns-clause-params : goal.returns-clause-params
returns-clause-params c =
    params-within c.args.builder.now.tables c.reveal.ensures.sound c.args.ty c.index-func.result.now c.index-func.ensures
    (subst IsWithin c.canonical_abi-params.ensures.stands c.canonical_abi-params.ensures.within)

pub returns-clause-results : goal.returns-clause-results
returns-clause-results c =
    results-within c.args.builder.now.tables c.reveal.ensures.sound c.args.ty c.index-func.result.now c.index-func.ensures
    (subst IsWithin c.canonical_abi-results.ensures.stands c.canonical_abi-results.ensures.within)
