use Rattle.std.proofs.Common.{subst, List, map}
use Rattle.std.proofs.lemmas.List.{take_all}
use Rattle.fact_types.specs.declared.kinds.RecordField.{RecordField}
use Rattle.fact_types.specs.Tables.{IsLive, HasMembers}
use Rattle.fact_plan_types.specs.PlanShapes.{fields_of}
use Rattle.fact_plan_types.proofs.ListedLaws.{named, next_field}
use Rattle.fact_plan_types.proofs.ShapeLists.{all-more}
use Rattle.fact_plan_types.proofs.members.fields_of.Goals as goal

pub loop-name-preserved : goal.loop-name-preserved
loop-name-preserved c = record {
  shaped = λ t ss h. next_field t ss _ _ _ _ c.args.fields.now c.loop-name.name-index c.loop-name-item.result c.in_ok-push.ensures.ok c.loop-name-test.true c.loop-name-item.is c.in_ok-try_clone.ensures (c.loop-name.invariant.shaped t ss h) (c.type_of.ensures.shaped t ss h);
  live = λ t h. all-more (λ (f : RecordField). IsLive t f.ty) _ _ _ c.in_ok-push.ensures.ok (c.loop-name.invariant.live t h) (c.type_of.ensures.live t h);
}

pub returns : goal.returns
returns c =
    let all = take_all c.loop-name.name-index c.args.fields.now c.loop-name-test.false in
    record {
      shaped = λ t ss h. subst (λ (fs : List _). HasMembers t (map named c.loop-name.record_fields) (fields_of ss fs)) all (c.loop-name.invariant.shaped t ss h);
      live = c.loop-name.invariant.live;
    }
