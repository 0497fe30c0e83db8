use Rattle.std.proofs.Common.{refl, sym, ◌∙◌, subst, get_or, All}
use Rattle.std.specs.Prelude.{IsTrue}
use Rattle.std.proofs.lemmas.Bool.{false≢true}
use Rattle.std.proofs.lemmas.List.{take_all}
use Rattle.std.proofs.lemmas.List.Elements.{All-more, Contains-get_or}
use Rattle.fact_types.specs.declared.interface.InterfaceType.TheVariants as ty
use Rattle.fact_types.specs.Shapes.{Shape}
use Rattle.fact_types.specs.Tables.{HasShape}
use Rattle.fact_types.specs.Handles.{has_borrow}
use Rattle.fact_type_rules.proofs.WalkLaws.{any-listed, none-listed}
use Rattle.fact_type_rules.proofs.functions.is_any_borrow.Goals as goal

pub returns-then-ty_contains_borrow_resource : goal.returns-then-ty_contains_borrow_resource
returns-then-ty_contains_borrow_resource c = λ ss hs.
    let given = c.args.types.now in
    let x = get_or given c.loop-ty.ty-index ty.Bool in (
      λ b. any-listed (λ s. IsTrue (has_borrow s)) c.args.builder.now.tables given ss x hs (Contains-get_or given c.loop-ty.ty-index ty.Bool c.loop-ty-test.true)
          (λ s h. sym (c.ty_contains_borrow_resource.ensures s h) ∙ c.if-ty_contains_borrow_resource.true),
      λ a. refl,
    )

pub loop-ty-preserved : goal.loop-ty-preserved
loop-ty-preserved c =
    let given = c.args.types.now in
    All-more (λ ty. (s : Shape) → HasShape c.args.builder.now.tables ty s → IsTrue (has_borrow s) → ⊥) given c.loop-ty.ty-index ty.Bool c.loop-ty-test.true c.loop-ty.invariant
    (λ s h b. false≢true (sym c.if-ty_contains_borrow_resource.false ∙ c.ty_contains_borrow_resource.ensures s h ∙ b))

pub returns : goal.returns
returns c = λ ss hs.
    let given = c.args.types.now in
    let all = subst (All (λ ty. (s : Shape) → HasShape c.args.builder.now.tables ty s → IsTrue (has_borrow s) → ⊥)) (take_all c.loop-ty.ty-index given c.loop-ty-test.false) c.loop-ty.invariant in
    (λ b. absurd (false≢true b), λ a. absurd (none-listed (λ s. IsTrue (has_borrow s)) c.args.builder.now.tables given ss hs all a))
