use Rattle.std.proofs.Common.{◌≡◌, ◌+◌, ◌∙◌, true, Some, refl, sym, ap, subst, slice_get, arith}
use Rattle.std.proofs.lemmas.Option.{slice_get_read}
use Rattle.fact_machine.specs.Typing.{typed_function}
use Rattle.fact_check.specs.Accepted.{IsFirstIllTyped}
use Rattle.fact_check.proofs.Loops.{below_more, function_is}
use Rattle.fact_check.proofs.checking.first_ill_typed.Goals as goal

pub loop-func-preserved : goal.loop-func-preserved
loop-func-preserved c =
    let m = c.args.module.now in
    let i = c.loop-func.func-index in
    let f = c.func-item.result in
    let there : slice_get m.funcs i ≡ Some f = slice_get_read _ _ _ _ refl (rw c.as_slice-func-items.ensures at c.loop-func-test.true) (rw c.as_slice-func-items.ensures at c.func-item.is) in
    let typed = function_is m i f c.in_ok-is_typed_function.field-0 there c.in_ok-is_typed_function.ensures in
    (ap (λ k. k + 1) c.loop-func.invariant.0, below_more (λ k. typed_function m k ≡ true) i (i + 1) refl c.loop-func.invariant.1 (typed ∙ c.if-not-branch.false))

pub returns-then-not-branch : goal.returns-then-not-branch
returns-then-not-branch c =
    let m = c.args.module.now in
    let i = c.loop-func.func-index in
    let f = c.func-item.result in
    let there : slice_get m.funcs i ≡ Some f = slice_get_read _ _ _ _ refl (rw c.as_slice-func-items.ensures at c.loop-func-test.true) (rw c.as_slice-func-items.ensures at c.func-item.is) in
    let typed = function_is m i f c.in_ok-is_typed_function.field-0 there c.in_ok-is_typed_function.ensures in
    subst (IsFirstIllTyped m) (sym c.loop-func.invariant.0) (record { within = rw c.as_slice-func-items.ensures at c.loop-func-test.true; is_ill_typed = typed ∙ c.if-not-branch.true; before = c.loop-func.invariant.1 })

pub returns : goal.returns
returns c = λ k lt. c.loop-func.invariant.1 k (omega (arith, lt, rw c.as_slice-func-items.ensures at c.loop-func-test.false))
