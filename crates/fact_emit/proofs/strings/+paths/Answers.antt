use Rattle.std.proofs.Common.{arith, ap, subst, sym, ◌∙◌}
use Rattle.std.proofs.lemmas.Result.{on_ok_weaker}
use Rattle.fact_actions.specs.Paths.{align_of, Limit, Resize, Pass, If, Tag, Assert}
use Rattle.fact_emit.specs.StringPaths.{AreLimitsSome, amount_of, path_of, path_test_of}
use Rattle.fact_emit.proofs.PathLaws.{path_size}
use Rattle.fact_emit.proofs.SidesImported.{sides_on, sides_same}
use Rattle.fact_emit.proofs.StringParts.{part_ranged}
use Rattle.fact_emit.proofs.StringRanged.{test_ranged}
use Rattle.fact_emit.proofs.StringTexts.{assert_put, choice_put, either_put, end_put, limit_put, pass_put, resize_put, tag_put}
use Rattle.fact_emit.proofs.strings.+paths.Goals as goal

pub put_path-returns-in-End : goal.put_path-returns-in-End
put_path-returns-in-End t c = end_put _ (align_of c.args.sides.to.encoding) (ap path_of c.in-End.is)

pub put_path-check_limit-requires : goal.put_path-check_limit-requires
put_path-check_limit-requires t c = (subst AreLimitsSome (ap path_of c.in-Limit.is) c.requires.limits).0

pub put_path-put_path-requires : goal.put_path-put_path-requires
put_path-put_path-requires t c =
    let is = ap path_of c.in-Limit.is ∙ (λ i. Limit c.in-Limit.factor (path_of (sym c.deref.ensures i))) in
    let l = subst AreLimitsSome is c.requires.limits in
    (omega (arith, ap path_size is, c.decreases), (sides_on c.requires.sides c.in_ok-check_limit-in-Limit.ensures.grew, l.1))

pub put_path-put_path-requires-in-Resize : goal.put_path-put_path-requires-in-Resize
put_path-put_path-requires-in-Resize t c =
    let is = ap path_of c.in-Resize.is ∙ (λ i. Resize (amount_of c.in-Resize.from) (amount_of c.in-Resize.to) (path_of (sym c.deref-in-Resize.ensures i))) in
    let l = subst AreLimitsSome is c.requires.limits in
    (omega (arith, ap path_size is, c.decreases), (sides_on c.requires.sides c.in_ok-resize-in-Resize.ensures.grew, l))

pub put_path-put_path-requires-in-Pass : goal.put_path-put_path-requires-in-Pass
put_path-put_path-requires-in-Pass t c =
    let is = ap path_of c.in-Pass.is ∙ (λ i. Pass c.in-Pass.pass.op c.in-Pass.pass.rest c.in-Pass.pass.room (path_of (sym c.deref-in-Pass.ensures i))) in
    let l = subst AreLimitsSome is c.requires.limits in
    (omega (arith, ap path_size is, c.decreases), (sides_on c.requires.sides c.in_ok-put_pass-in-Pass.ensures.grew, l))

pub put_path-put_choice-requires : goal.put_path-put_choice-requires
put_path-put_choice-requires t c =
    let is = ap path_of c.in-If.is ∙ (λ i. If (path_test_of c.in-If.test) (path_of (sym c.deref-in-If.ensures i)) (path_of (sym c.deref-in-If-2.ensures i)) (path_of c.in-If.next.value)) in
    let l = subst AreLimitsSome is c.requires.limits in
    (omega (arith, ap path_size is, c.decreases), (c.requires.sides, (l.0, l.1)))

pub put_path-put_path-requires-in-If : goal.put_path-put_path-requires-in-If
put_path-put_path-requires-in-If t c =
    let is = ap path_of c.in-If.is ∙ (λ i. If (path_test_of c.in-If.test) (path_of (sym c.deref-in-If.ensures i)) (path_of (sym c.deref-in-If-2.ensures i)) (path_of (sym c.deref-in-If-3.ensures i))) in
    let l = subst AreLimitsSome is c.requires.limits in
    (omega (arith, ap path_size is, c.decreases), (sides_on c.requires.sides c.in_ok-put_choice-in-If.ensures.grew, l.2))

pub put_path-put_path-requires-in-Tag : goal.put_path-put_path-requires-in-Tag
put_path-put_path-requires-in-Tag t c =
    let is = ap path_of c.in-Tag.is ∙ (λ i. Tag (path_of (sym c.deref-in-Tag.ensures i))) in
    let l = subst AreLimitsSome is c.requires.limits in
    (omega (arith, ap path_size is, c.decreases), (sides_same c.in_ok-put_tag-in-Tag.ensures.imports c.requires.sides, l))

pub put_path-put_path-requires-in-Assert : goal.put_path-put_path-requires-in-Assert
put_path-put_path-requires-in-Assert t c =
    let is = ap path_of c.in-Assert.is ∙ (λ i. Assert c.in-Assert.trap (path_test_of c.in-Assert.test) (path_of (sym c.deref-in-Assert.ensures i))) in
    let l = subst AreLimitsSome is c.requires.limits in
    (omega (arith, ap path_size is, c.decreases), (sides_on c.requires.sides c.in_ok-check_assert-in-Assert.ensures.grew, l))

pub put_path-returns-in_ok-check_limit-in-Limit : goal.put_path-returns-in_ok-check_limit-in-Limit
put_path-returns-in_ok-check_limit-in-Limit t c = on_ok_weaker _ (limit_put (align_of c.args.sides.to.encoding) (ap path_of c.in-Limit.is ∙ (λ i. Limit c.in-Limit.factor (path_of (sym c.deref.ensures i)))) c.in_ok-check_limit-in-Limit.ensures) c.put_path.ensures

pub put_path-returns-in_ok-resize-in-Resize : goal.put_path-returns-in_ok-resize-in-Resize
put_path-returns-in_ok-resize-in-Resize t c = on_ok_weaker _ (resize_put (align_of c.args.sides.to.encoding) (ap path_of c.in-Resize.is ∙ (λ i. Resize (amount_of c.in-Resize.from) (amount_of c.in-Resize.to) (path_of (sym c.deref-in-Resize.ensures i)))) c.in_ok-resize-in-Resize.ensures) c.put_path-in-Resize.ensures

pub put_path-returns-in_ok-put_pass-in-Pass : goal.put_path-returns-in_ok-put_pass-in-Pass
put_path-returns-in_ok-put_pass-in-Pass t c = on_ok_weaker _ (pass_put (align_of c.args.sides.to.encoding) (ap path_of c.in-Pass.is ∙ (λ i. Pass c.in-Pass.pass.op c.in-Pass.pass.rest c.in-Pass.pass.room (path_of (sym c.deref-in-Pass.ensures i)))) c.in_ok-put_pass-in-Pass.ensures) c.put_path-in-Pass.ensures

pub put_path-returns-in_ok-put_choice-in-If : goal.put_path-returns-in_ok-put_choice-in-If
put_path-returns-in_ok-put_choice-in-If t c = on_ok_weaker _ (choice_put (align_of c.args.sides.to.encoding) (ap path_of c.in-If.is ∙ (λ i. If (path_test_of c.in-If.test) (path_of (sym c.deref-in-If.ensures i)) (path_of (sym c.deref-in-If-2.ensures i)) (path_of (sym c.deref-in-If-3.ensures i)))) c.in_ok-put_choice-in-If.ensures) c.put_path-in-If.ensures

pub put_path-returns-in_ok-put_tag-in-Tag : goal.put_path-returns-in_ok-put_tag-in-Tag
put_path-returns-in_ok-put_tag-in-Tag t c = on_ok_weaker _ (tag_put (align_of c.args.sides.to.encoding) (ap path_of c.in-Tag.is ∙ (λ i. Tag (path_of (sym c.deref-in-Tag.ensures i)))) c.in_ok-put_tag-in-Tag.ensures) c.put_path-in-Tag.ensures

pub put_path-returns-in_ok-check_assert-in-Assert : goal.put_path-returns-in_ok-check_assert-in-Assert
put_path-returns-in_ok-check_assert-in-Assert t c = on_ok_weaker _ (assert_put (align_of c.args.sides.to.encoding) (ap path_of c.in-Assert.is ∙ (λ i. Assert c.in-Assert.trap (path_test_of c.in-Assert.test) (path_of (sym c.deref-in-Assert.ensures i)))) c.in_ok-check_assert-in-Assert.ensures) c.put_path-in-Assert.ensures

-- ---- one path or another

pub put_choice-put_path-requires : goal.put_choice-put_path-requires
put_choice-put_path-requires t c = (omega (arith, c.decreases), (sides_same (c.begin-outer.ensures.imports ∙ c.in_ok-test.ensures.aside.imports) c.requires.sides, c.requires.false_limits))

pub put_choice-put_path-requires-2 : goal.put_choice-put_path-requires-2
put_choice-put_path-requires-2 t c =
    let before = sides_same (c.begin-outer.ensures.imports ∙ c.in_ok-test.ensures.aside.imports) c.requires.sides in
    (omega (arith, c.decreases), (sides_same (c.begin-outer-2.ensures.imports ∙ c.end-no.ensures.imports) (sides_on before c.in_ok-put_path.ensures.grew), c.requires.true_limits))

pub put_choice-returns : goal.put_choice-returns
put_choice-returns t c =
    either_put (part_ranged (test_ranged _) c.in_ok-test.ensures.is) c.in_ok-test.ensures.is c.in_ok-test.ensures.aside c.begin-outer.ensures c.in_ok-put_path.ensures c.end-no.ensures
    c.begin-outer-2.ensures c.in_ok-put_path-2.ensures c.end-yes.ensures c.in_ok-put_either.ensures
