use Rattle.std.proofs.Common.{refl, subst}
use Rattle.std.specs.Prelude.{slice_get}
use Rattle.fact_types.specs.declared.interface.InterfaceType.TheVariants.{Option as from_kind}
use Rattle.fact_types.specs.Tables.{option_node, IsLive}
use Rattle.fact_agreement.proofs.KindLaws.{other_kind}
use Rattle.fact_agreement.proofs.LeftLaws.{left_of_options}
use Rattle.fact_agreement.proofs.comparison.of_option.Goals as goal

pub returns-in-Option : goal.returns-in-Option
returns-in-Option c =
    left_of_options c.args.types.now c.reveal.ensures.sound c.args.to.now c.args.i c.in-Option.j _ _ c.requires.from_live c.index.ensures c.in-Option.is c.index-in-Option.ensures

pub index-requires-in-Option : goal.index-requires-in-Option
index-requires-in-Option c = subst (IsLive c.args.types.now) c.in-Option.is c.requires.to_live

pub returns-in_default : goal.returns-in_default
returns-in_default c =
    let t = c.args.types.now in
    other_kind t (from_kind c.args.i) c.args.to.now option_node (slice_get t.options c.args.i.number) refl refl (λ e is_of. c.in_default.not-Option is_of.0 is_of.1)
