use Rattle.std.proofs.Common.{◌≡◌, ◌∙◌, subst, ap}
use Rattle.std.specs.Prelude.{Result, Ok, Err, Some}
use Rattle.fact_entity.specs.declared.id.Id.{Id}
use Rattle.fact_entity.specs.declared.table.TypeComponents.{TypeComponents}
use Rattle.fact_types.specs.Tables.{Tables}
use Rattle.fact_builder.specs.Builder.{Builder}
use Rattle.fact_builder.specs.declared.error.BuildError.{BuildError}
use Rattle.fact_convert.specs.declared.component.Component.{Component}
use Rattle.fact_convert.specs.Finished.{Finishes, FinishesWith}
use Rattle.fact_convert.proofs.finish.finish_with.Goals as goal

-- the tables of a builder behind which the type of a component was put
ended : (b new : Builder) (c : Component) (t : Tables) (r : Result (Id TypeComponents) BuildError) (i : Id TypeComponents) → r ≡ Ok i → t ≡ record new.tables { module_types = Some new.module_types } → FinishesWith b c new r → Finishes b c (Ok (t, i))
ended b new c t r i w q h =
    let (e, is, grow, added, place) = subst (FinishesWith b c new) w h in
    (e, is, grow, q ∙ ap (λ (z : Builder). record z.tables { module_types = Some z.module_types }) added, place)

-- it was refused
ended_not : (b new : Builder) (c : Component) (r : Result (Id TypeComponents) BuildError) (e : BuildError) → r ≡ Err e → FinishesWith b c new r → Finishes b c (Err e)
ended_not b new c r e w h = (subst (FinishesWith b c new) w h).1

pub returns-in-Ok : goal.returns-in-Ok
returns-in-Ok c = ended c.args.builder c.push_whole-index.new.builder c.args.component.now _ c.push_whole-index.result _ c.in-Ok.is c.into_types-types.ensures c.push_whole-index.ensures

pub returns-in-Err : goal.returns-in-Err
returns-in-Err c = ended_not c.args.builder c.push_whole-index.new.builder c.args.component.now c.push_whole-index.result _ c.in-Err.is c.push_whole-index.ensures
