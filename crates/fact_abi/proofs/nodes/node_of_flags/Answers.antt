use Rattle.std.proofs.Common.{◌∙◌, ap, refl}
use Rattle.fact_types.specs.declared.interface.InterfaceType.TheVariants as ty
use Rattle.fact_abi.proofs.KindLaws.{flags_told}
use Rattle.fact_abi.proofs.nodes.node_of_flags.Goals as goal

pub returns : goal.returns
returns c =
    flags_told c.args.types.now c.reveal.ensures.sound (ty.Flags c.args.i) c.requires _ _ c.args.i refl _ c.index.ensures (c.in_ok-copied_names.ensures ∙ ap (λ f. f.names) c.behind-types.view_is) c.new.ensures
