use Rattle.std.proofs.Common.{ap, ◌∙◌}
use Rattle.fact_types.specs.Ordered.{VariantType}
use Rattle.fact_kinds.specs.Sums.{paired_cases}
use Rattle.fact_kinds.proofs.SumFinds.{variant_is}
use Rattle.fact_kinds.proofs.sums.variant_sum.Goals as goal

pub returns : goal.returns
returns c =
    variant_is c.args.types.now c.args.from c.args.to c.index-source.result.now c.index-target.result.now _ c.index-source.ensures c.index-target.ensures (ap (λ (x : VariantType). x.info) c.source.view_is) (ap (λ (y : VariantType). y.info) c.target.view_is)
    (c.in_ok-cases.ensures ∙ ap (λ (x : VariantType). paired_cases x.cases c.target.inside.cases.entries) c.source.view_is ∙ ap (λ (y : VariantType). paired_cases c.index-source.result.now.cases y.cases) c.target.view_is)
