use Rattle.std.proofs.Common.{subst, sym}
use Rattle.fact_abi.specs.Finding.{IsTypeOf}
use Rattle.fact_lowering.specs.Room.{shape_named}
use Rattle.fact_lowering.proofs.RoomLaws.{named_found, named_missing}
use Rattle.fact_lowering.proofs.room.type_named.Goals as goal

pub returns-in-Some-clause-shaped : goal.returns-in-Some-clause-shaped
returns-in-Some-clause-shaped c =
    λ t ms n h. subst (λ y. IsTypeOf t y (shape_named c.args.name.now ms)) (sym c.member_type.ensures) (named_found t c.args.name.now c.args.node.now.names c.args.node.now.types ms c.index_of_name.result c.in-Some.place n h c.in-Some.is c.index_of_name.ensures)

pub returns-in-None-clause-shaped : goal.returns-in-None-clause-shaped
returns-in-None-clause-shaped c = λ t ms n h. named_missing t c.args.name.now c.args.node.now.names ms c.index_of_name.result n c.in-None.is c.index_of_name.ensures
