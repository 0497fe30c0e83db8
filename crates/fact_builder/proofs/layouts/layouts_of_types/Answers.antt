use Rattle.std.proofs.Common.{[], ◌∷◌, ◌++◌, ap, ◌∙◌, arith}
use Rattle.fact_types.specs.Tables.{abi_at}
use Rattle.fact_builder.proofs.Mapping.{one_more, all_made}
use Rattle.fact_builder.proofs.layouts.layouts_of_types.Goals as goal

pub loop-ty-preserved : goal.loop-ty-preserved
loop-ty-preserved c =
    one_more (abi_at c.args.builder.now.tables) c.args.types.now c.loop-ty.ty-index _ c.loop-ty.invariant _ _ c.loop-ty-test.true (c.in_ok-push.ensures.items ∙ ap (λ y. c.loop-ty.layouts.items ++ y ∷ []) c.canonical_abi.ensures.stands)

pub returns : goal.returns
returns c = all_made _ c.args.types.now c.loop-ty.ty-index _ c.loop-ty.invariant (omega (arith, c.loop-ty-test.false))
