use Rattle.std.proofs.Common.{◌≡◌, ◌≤◌, ℕ, List, Some, ap, arith, length, refl, subst}
use Rattle.std.specs.Prelude.{slice_get}
use Rattle.std.specs.List.{AllZip}
use Rattle.std.proofs.lemmas.List.{take_all}
use Rattle.std.proofs.lemmas.Option.{slice_get_read}
use Rattle.fact_plan.specs.declared.plan.PlanFunc.{PlanFunc}
use Rattle.fact_plan_types.specs.PlanTypes.{IsFuncOf}
use Rattle.fact_plan_types.specs.Reached.{HasFuncs}
use Rattle.fact_plan_types.proofs.StepLaws.{funcs_longer}
use Rattle.fact_plan_types.proofs.funcs.add_funcs.Goals as goal

pub add_func-requires-clause-here : goal.add_func-requires-clause-here
add_func-requires-clause-here c =
    let x = c.func-item.result in
    subst (λ (fs : List PlanFunc). slice_get fs c.loop-k.k ≡ Some x) c.as_slice-func-items.ensures (slice_get_read c.as_slice-func-items.result.now _ c.loop-k.k x refl c.loop-k-test.true c.func-item.is)

pub loop-k-preserved : goal.loop-k-preserved
loop-k-preserved c =
    let x = c.func-item.result in
    let here = subst (λ (fs : List PlanFunc). slice_get fs c.loop-k.k ≡ Some x) c.as_slice-func-items.ensures (slice_get_read c.as_slice-func-items.result.now _ c.loop-k.k x refl c.loop-k-test.true c.func-item.is) in
    record {
      reached = c.in_ok-index.ensures.reached;
      added = funcs_longer c.args.plan.now _ _ c.loop-k.k c.loop-k.funcs.items _ c.in_ok-index.index x c.in_ok-index.ensures.keeps here c.in_ok-index.ensures.added c.in_ok-push.ensures.items c.loop-k.invariant.added;
    }

pub returns : goal.returns
returns c =
    let p = c.args.plan.now in
    let end : length p.funcs ≤ c.loop-k.k = omega (arith, c.loop-k-test.false, ap length c.as_slice-func-items.ensures) in
    let all : c.loop-k.k ≡ length p.funcs = omega (arith, end, c.loop-k.auto.k-end, ap length c.as_slice-func-items.ensures) in
    record {
      reached = subst (λ (k : ℕ). HasFuncs p k c.loop-k.builder c.args.types.now) all c.loop-k.invariant.reached;
      added = subst (λ (fs : List PlanFunc). AllZip (IsFuncOf p c.loop-k.builder.tables) c.loop-k.funcs.items fs) (take_all c.loop-k.k p.funcs end) c.loop-k.invariant.added;
      refused = tt;
    }
