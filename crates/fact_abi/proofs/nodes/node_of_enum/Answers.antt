use Rattle.std.proofs.Common.{◌∙◌, ap, refl, map, None}
use Rattle.fact_types.specs.declared.interface.InterfaceType.TheVariants as ty
use Rattle.fact_abi.proofs.KindLaws.{enum_told}
use Rattle.fact_abi.proofs.nodes.node_of_enum.Goals as goal

pub returns : goal.returns
returns c =
    enum_told c.args.types.now c.reveal.ensures.sound (ty.Enum c.args.i) c.requires _ _ c.args.i refl _ c.index.ensures (c.in_ok-names.ensures ∙ ap (λ f. f.names) c.behind-types.view_is) (c.in_ok-none_typed.ensures ∙ ap (map (λ n. None)) c.as_slice.ensures)
