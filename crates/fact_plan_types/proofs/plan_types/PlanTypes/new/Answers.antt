use Rattle.std.proofs.Common.{◌≡◌, List, Some, subst, sym}
use Rattle.std.specs.Prelude.{slice_get}
use Rattle.std.specs.List.{AllZip}
use Rattle.fact_entity.specs.declared.id.Id.{Id}
use Rattle.fact_entity.specs.declared.table.ModuleInternedTypes.{ModuleInternedTypes}
use Rattle.fact_entity.specs.declared.table.TypeFuncs.{TypeFuncs}
use Rattle.fact_plan_types.specs.PlanTypes.{HasTupleNumbers, IsFuncOf}
use Rattle.fact_plan_types.proofs.StepLaws.{all_faultless, all_types}
use Rattle.fact_plan_types.proofs.plan_types.PlanTypes.new.Goals as goal

pub returns-in-Ok : goal.returns-in-Ok
returns-in-Ok c =
    let p = c.args.plan.now in
    let b = c.add_all.new.builder in
    let a = c.in-Ok.ensures in
    let w = c.within.ensures in
    record {
      stand = all_types p b c.in-Ok.indices.types.items c.within.result w.builder w.types a.reached
          (subst (λ (is : List (Id TypeFuncs)). AllZip (IsFuncOf p b.tables) is p.funcs) (sym w.funcs) a.funcs)
          (subst (λ (is : List (Id TypeFuncs)). AllZip (HasTupleNumbers p b.tables) is p.funcs) (sym w.funcs) a.numbers)
          (subst (λ (is : List (Id ModuleInternedTypes)). AllZip (λ i ty. slice_get b.module_types i.number ≡ Some ty) is p.core_types) (sym w.core_types) a.core_types);
      faultless = all_faultless p b c.in-Ok.indices.types.items a.reached;
      refused = tt;
    }
