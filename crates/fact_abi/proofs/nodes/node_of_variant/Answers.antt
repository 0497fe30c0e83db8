use Rattle.std.proofs.Common.{◌∙◌, ap, refl, map}
use Rattle.fact_types.specs.declared.interface.InterfaceType.TheVariants as ty
use Rattle.fact_abi.proofs.KindLaws.{variant_told}
use Rattle.fact_abi.proofs.nodes.node_of_variant.Goals as goal

pub returns : goal.returns
returns c =
    variant_told c.args.types.now c.reveal.ensures.sound (ty.Variant c.args.i) c.requires _ _ c.args.i refl _ c.index.ensures
    (c.in_ok-names_of_cases.ensures ∙ ap (λ v. map (λ c. c.0) v.cases) c.behind-types.view_is) (c.in_ok-types_of_cases.ensures ∙ ap (λ v. map (λ c. c.1) v.cases) c.behind-types.view_is)
