use Rattle.std.proofs.Common.{refl, subst}
use Rattle.std.specs.Prelude.{slice_get}
use Rattle.fact_types.specs.declared.interface.InterfaceType.TheVariants.{Record as from_kind}
use Rattle.fact_types.specs.Tables.{record_node, IsLive}
use Rattle.fact_agreement.proofs.KindLaws.{other_kind}
use Rattle.fact_agreement.proofs.LeftLaws.{left_of_records}
use Rattle.fact_agreement.proofs.comparison.of_record.Goals as goal

pub returns-in-Record : goal.returns-in-Record
returns-in-Record c =
    left_of_records c.args.types.now c.reveal.ensures.sound c.args.to.now c.args.i c.in-Record.j _ _ _ _ c.requires.from_live c.index.ensures c.in-Record.is c.index-in-Record.ensures c.as_slice.ensures c.as_slice-in-Record.ensures

pub index-requires-in-Record : goal.index-requires-in-Record
index-requires-in-Record c = subst (IsLive c.args.types.now) c.in-Record.is c.requires.to_live

pub returns-in_default : goal.returns-in_default
returns-in_default c =
    let t = c.args.types.now in
    other_kind t (from_kind c.args.i) c.args.to.now record_node (slice_get t.records c.args.i.number) refl refl (λ e is_of. c.in_default.not-Record is_of.0 is_of.1)
