use Rattle.std.proofs.Common.{refl, subst}
use Rattle.std.specs.Prelude.{slice_get}
use Rattle.fact_types.specs.declared.interface.InterfaceType.TheVariants.{Result as from_kind}
use Rattle.fact_types.specs.Tables.{result_node, IsLive}
use Rattle.fact_agreement.proofs.KindLaws.{other_kind}
use Rattle.fact_agreement.proofs.LeftLaws.{left_of_results}
use Rattle.fact_agreement.proofs.comparison.of_result.Goals as goal

pub returns-in-Result : goal.returns-in-Result
returns-in-Result c =
    left_of_results c.args.types.now c.reveal.ensures.sound c.args.to.now c.args.i c.in-Result.j _ _ c.requires.from_live c.index-source.ensures c.in-Result.is c.index-destination.ensures

pub index-destination-requires : goal.index-destination-requires
index-destination-requires c = subst (IsLive c.args.types.now) c.in-Result.is c.requires.to_live

pub returns-in_default : goal.returns-in_default
returns-in_default c =
    let t = c.args.types.now in
    other_kind t (from_kind c.args.i) c.args.to.now result_node (slice_get t.results c.args.i.number) refl refl (λ e is_of. c.in_default.not-Result is_of.0 is_of.1)
