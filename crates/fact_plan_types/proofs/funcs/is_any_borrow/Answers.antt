use Rattle.std.proofs.Common.{◌∙◌, refl, subst, sym, List}
use Rattle.std.specs.Prelude.{Any, IsTrue}
use Rattle.std.proofs.lemmas.Bool.{false≢true, true≢false}
use Rattle.std.proofs.lemmas.List.{take_all}
use Rattle.fact_types.specs.Handles.{has_borrow}
use Rattle.fact_plan.specs.declared.plan.PlanRef.{PlanRef}
use Rattle.fact_plan_types.specs.PlanShapes.{shape_of, shapes_of}
use Rattle.fact_plan_types.proofs.FuncLaws.{any_at, none_next}
use Rattle.fact_plan_types.proofs.funcs.is_any_borrow.Goals as goal

pub ty_contains_borrow_resource-requires : goal.ty_contains_borrow_resource-requires
ty_contains_borrow_resource-requires c = c.type_of.ensures.live c.args.builder.now.tables c.requires.live

pub loop-ty-preserved : goal.loop-ty-preserved
loop-ty-preserved c = λ ss h.
    let t = c.args.builder.now.tables in
    none_next (λ s. IsTrue (has_borrow s)) (shape_of ss) c.args.refs.now c.loop-ty.ty-index _ c.loop-ty-test.true (c.loop-ty.invariant ss h)
    (λ b. true≢false (sym b ∙ sym (c.ty_contains_borrow_resource.ensures _ (c.type_of.ensures.shaped t ss h)) ∙ c.if-ty_contains_borrow_resource.false))

pub returns-then-ty_contains_borrow_resource : goal.returns-then-ty_contains_borrow_resource
returns-then-ty_contains_borrow_resource c = λ ss h.
    let t = c.args.builder.now.tables in (
      λ b. any_at (λ s. IsTrue (has_borrow s)) (shape_of ss) c.args.refs.now c.loop-ty.ty-index _ c.loop-ty-test.true
          (sym (c.ty_contains_borrow_resource.ensures _ (c.type_of.ensures.shaped t ss h)) ∙ c.if-ty_contains_borrow_resource.true),
      λ a. refl,
    )

pub returns : goal.returns
returns c = λ ss h.
    let none = subst (λ (rs : List PlanRef). Any (λ s. IsTrue (has_borrow s)) (shapes_of ss rs) → ⊥) (take_all c.loop-ty.ty-index c.args.refs.now c.loop-ty-test.false) (c.loop-ty.invariant ss h) in
    (λ f. absurd (false≢true f), λ a. absurd (none a))
