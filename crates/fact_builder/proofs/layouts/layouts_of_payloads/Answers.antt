use Rattle.std.proofs.Common.{[], ◌∷◌, ◌++◌, ap, ◌∙◌, arith}
use Rattle.std.specs.Prelude.{option_map}
use Rattle.fact_types.specs.Tables.{abi_at}
use Rattle.fact_builder.proofs.Mapping.{one_more, all_made}
use Rattle.fact_builder.proofs.layouts.layouts_of_payloads.Goals as goal

pub loop-payload-preserved : goal.loop-payload-preserved
loop-payload-preserved c =
    one_more (option_map (abi_at c.args.builder.now.tables)) c.args.payloads.now c.loop-payload.payload-index _ c.loop-payload.invariant _ _ c.loop-payload-test.true (c.in_ok-push.ensures.items ∙ ap (λ y. c.loop-payload.layouts.items ++ y ∷ []) c.layout_of_payload.ensures)

pub returns : goal.returns
returns c = all_made _ c.args.payloads.now c.loop-payload.payload-index _ c.loop-payload.invariant (omega (arith, c.loop-payload-test.false))
