use Rattle.std.proofs.Common.{refl, subst}
use Rattle.std.specs.Prelude.{slice_get}
use Rattle.fact_types.specs.declared.interface.InterfaceType.TheVariants.{Tuple as from_kind}
use Rattle.fact_types.specs.Tables.{tuple_node, IsLive}
use Rattle.fact_agreement.proofs.KindLaws.{other_kind}
use Rattle.fact_agreement.proofs.LeftLaws.{left_of_tuples}
use Rattle.fact_agreement.proofs.comparison.of_tuple.Goals as goal

pub returns-in-Tuple : goal.returns-in-Tuple
returns-in-Tuple c =
    left_of_tuples c.args.types.now c.reveal.ensures.sound c.args.to.now c.args.i c.in-Tuple.j _ _ _ _ c.requires.from_live c.index.ensures c.in-Tuple.is c.index-in-Tuple.ensures c.as_slice.ensures c.as_slice-in-Tuple.ensures

pub index-requires-in-Tuple : goal.index-requires-in-Tuple
index-requires-in-Tuple c = subst (IsLive c.args.types.now) c.in-Tuple.is c.requires.to_live

pub returns-in_default : goal.returns-in_default
returns-in_default c =
    let t = c.args.types.now in
    other_kind t (from_kind c.args.i) c.args.to.now tuple_node (slice_get t.tuples c.args.i.number) refl refl (λ e is_of. c.in_default.not-Tuple is_of.0 is_of.1)
