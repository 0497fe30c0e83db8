use Rattle.std.proofs.Common.{subst, List}
use Rattle.std.proofs.lemmas.List.{take_all}
use Rattle.std.specs.List.{AllZip}
use Rattle.fact_wasm.specs.declared.types.FuncType.{FuncType}
use Rattle.fact_plan_types.proofs.CoreLaws.{IsAt, interned_next}
use Rattle.fact_plan_types.proofs.core_types.intern_all.Goals as goal

pub loop-ty-preserved : goal.loop-ty-preserved
loop-ty-preserved c =
    interned_next c.loop-ty.interned c.intern.new.self _ _ c.in-Ok.index _ c.ty-item.result c.args.types.now c.loop-ty.ty-index c.loop-ty.invariant c.in-Ok.ensures.interned
    c.in_ok-try_clone.ensures c.ty-item.is c.loop-ty-test.true c.in_ok-push-in-Ok.ensures.items

pub returns : goal.returns
returns c = subst (λ (tys : List FuncType). AllZip (IsAt c.loop-ty.interned) c.loop-ty.indices.items tys) (take_all c.loop-ty.ty-index c.args.types.now c.loop-ty-test.false) c.loop-ty.invariant
