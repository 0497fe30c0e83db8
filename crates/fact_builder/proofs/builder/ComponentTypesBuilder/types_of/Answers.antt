use Rattle.std.proofs.Common.{sym, subst, List}
use Rattle.std.specs.Prelude.{All}
use Rattle.fact_types.specs.declared.interface.InterfaceType.{InterfaceType}
use Rattle.fact_types.specs.Tables.{Tables, IsLive}
use Rattle.fact_builder.proofs.HandleLaws.{tuple_live}
use Rattle.fact_builder.proofs.builder.ComponentTypesBuilder.types_of.Goals as goal

pub returns-clause-taken_live : goal.returns-clause-taken_live
returns-clause-taken_live c =
    subst (λ (tys : List InterfaceType). All (IsLive c.args.self.now.tables) tys) (sym c.as_slice.ensures)
    (subst (λ (t : Tables). All (IsLive t) c.index.result.now.types) c.component_types-types.ensures (tuple_live _ c.reveal.ensures.sound _ _ c.index.ensures))

pub returns-clause-given_live : goal.returns-clause-given_live
returns-clause-given_live c =
    subst (λ (tys : List InterfaceType). All (IsLive c.args.self.now.tables) tys) (sym c.as_slice-2.ensures)
    (subst (λ (t : Tables). All (IsLive t) c.index-2.result.now.types) c.component_types-types.ensures (tuple_live _ c.reveal.ensures.sound _ _ c.index-2.ensures))
