use Rattle.std.proofs.Common.{length, subst, sym, List}
use Rattle.std.specs.List.{AllZip}
use Rattle.fact_types.specs.Tables.{Tables}
use Rattle.fact_types.specs.declared.interface.InterfaceType.{InterfaceType}
use Rattle.fact_plan_types.specs.PlanTypes.{IsFuncOf}
use Rattle.fact_plan_types.specs.Reached.{HasFuncs}
use Rattle.fact_plan_types.proofs.StepLaws.{all_tuples, funcs_kept, funcs_start}
use Rattle.fact_plan_types.proofs.TupleLaws.{funcs_numbers}
use Rattle.fact_plan_types.proofs.plan_types.add_all.Goals as goal

pub add_funcs-requires : goal.add_funcs-requires
add_funcs-requires c =
    subst (λ (xs : List InterfaceType). HasFuncs c.args.plan.now 0 c.add_types.new.builder xs) (sym c.as_slice.ensures.value) (funcs_start c.args.plan.now _ _ c.in_ok-types.ensures.added)

pub returns : goal.returns
returns c =
    let p = c.args.plan.now in
    let reached = subst (λ (xs : List InterfaceType). HasFuncs p (length p.funcs) c.add_core_types.new.builder xs) c.as_slice.ensures.value
    (funcs_kept p _ _ _ _ c.in_ok-core_types.ensures.tables c.in_ok-funcs.ensures.reached) in
    let funcs = subst (λ (t : Tables). AllZip (IsFuncOf p t) c.in_ok-funcs.funcs.items p.funcs) (sym c.in_ok-core_types.ensures.tables) c.in_ok-funcs.ensures.added in
    record {
      reached = reached;
      funcs = funcs;
      numbers = funcs_numbers p c.add_core_types.new.builder.tables c.reveal.ensures.one_index (all_tuples p c.add_core_types.new.builder _ reached) c.in_ok-funcs.funcs.items p.funcs funcs;
      core_types = c.in_ok-core_types.ensures.added;
      refused = tt;
    }
