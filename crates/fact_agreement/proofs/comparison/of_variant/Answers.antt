use Rattle.std.proofs.Common.{ap, refl, subst}
use Rattle.std.specs.Prelude.{slice_get}
use Rattle.fact_types.specs.Ordered.{VariantType}
use Rattle.fact_types.specs.declared.interface.InterfaceType.TheVariants.{Variant as from_kind}
use Rattle.fact_types.specs.Tables.{variant_node, IsLive}
use Rattle.fact_agreement.proofs.KindLaws.{other_kind}
use Rattle.fact_agreement.proofs.LeftLaws.{left_of_variants}
use Rattle.fact_agreement.proofs.comparison.of_variant.Goals as goal

pub returns-in-Variant : goal.returns-in-Variant
returns-in-Variant c =
    let cases = λ (v : VariantType). v.cases in
    left_of_variants c.args.types.now c.reveal.ensures.sound c.args.to.now c.args.i c.in-Variant.j _ _ _ _ c.requires.from_live c.index.ensures c.in-Variant.is c.index-in-Variant.ensures
    (ap cases c.behind-types.view_is) (ap cases c.behind-types-in-Variant.view_is)

pub index-requires-in-Variant : goal.index-requires-in-Variant
index-requires-in-Variant c = subst (IsLive c.args.types.now) c.in-Variant.is c.requires.to_live

pub returns-in_default : goal.returns-in_default
returns-in_default c =
    let t = c.args.types.now in
    other_kind t (from_kind c.args.i) c.args.to.now variant_node (slice_get t.variants c.args.i.number) refl refl (λ e is_of. c.in_default.not-Variant is_of.0 is_of.1)
