use Rattle.std.proofs.Common.{◌≡◌, ◌∙◌, ◌+◌, ◌++◌, ◌∷◌, [], ℕ, List, Some, ap, arith, length, refl, subst, sym}
use Rattle.std.specs.Prelude.{slice_get}
use Rattle.std.proofs.lemmas.Option.{slice_get_read}
use Rattle.fact_builder.specs.Builder.{Builder}
use Rattle.fact_plan.specs.declared.plan.PlanType.{PlanType}
use Rattle.fact_types.specs.declared.interface.InterfaceType.{InterfaceType}
use Rattle.fact_plan_types.specs.Reached.{HasTypes}
use Rattle.fact_plan_types.proofs.StepLaws.{no_types_yet}
use Rattle.fact_plan_types.proofs.types.add_types.Goals as goal

pub loop-k-init : goal.loop-k-init
loop-k-init c =
    let p = c.args.plan.now in
    subst (λ (b : Builder). HasTypes p 0 b c.new-types.result.items) (sym c.requires) (subst (λ (xs : List InterfaceType). HasTypes p 0 _ xs) (sym c.new-types.ensures.items) (no_types_yet p))

pub add_type-requires : goal.add_type-requires
add_type-requires c =
    let p = c.args.plan.now in
    let x = c.entry-item.result in
    record {
      reached = subst (λ (xs : List InterfaceType). HasTypes p c.loop-k.k c.loop-k.builder xs) (sym c.as_slice.ensures.value) c.loop-k.invariant;
      here = subst (λ (es : List PlanType). slice_get es c.loop-k.k ≡ Some x) c.as_slice-entry-items.ensures (slice_get_read c.as_slice-entry-items.result.now _ c.loop-k.k x refl c.loop-k-test.true c.entry-item.is);
    }

pub loop-k-preserved : goal.loop-k-preserved
loop-k-preserved c =
    let e = ap (λ (xs : List InterfaceType). xs ++ c.in_ok-ty.ty ∷ []) c.as_slice.ensures.value ∙ sym c.in_ok-push.ensures.items in
    subst (HasTypes c.args.plan.now (c.loop-k.k + 1) c.add_type.new.builder) e c.in_ok-ty.ensures.added

pub returns : goal.returns
returns c =
    let p = c.args.plan.now in
    let all : c.loop-k.k ≡ length p.types = omega (arith, c.loop-k-test.false, c.loop-k.auto.k-end, ap length c.as_slice-entry-items.ensures) in
    record { added = subst (λ (k : ℕ). HasTypes p k c.loop-k.builder c.loop-k.types.items) all c.loop-k.invariant; refused = tt }
