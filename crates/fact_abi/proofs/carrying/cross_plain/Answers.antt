use Rattle.std.proofs.Common.{◌∙◌, ap, subst, sym, Some}
use Rattle.fact_values.specs.declared.value.HandleKind.TheVariants.{Own, Borrow, ErrorContext}
use Rattle.fact_values.specs.Carry.{take_number}
use Rattle.fact_abi.specs.CrossingWalks.{StepGives}
use Rattle.fact_values.specs.Handles.{cross_handle, cross_plain}
use Rattle.fact_values.specs.Numbers.{plain_of}
use Rattle.fact_abi.proofs.NodeWalkLaws.{stays}
use Rattle.fact_abi.proofs.carrying.cross_plain.Goals as goal

pub returns-in-Own : goal.returns-in-Own
returns-in-Own c =
    λ from. subst (λ y. StepGives c.cross_handle.result c.cross_handle.new.numbers (cross_plain take_number from (plain_of y) c.args.value.now c.args.numbers.now)) (sym c.in-Own.is)
    (subst (λ k. StepGives c.cross_handle.result c.cross_handle.new.numbers (cross_handle take_number Own from k c.args.value.now c.args.numbers.now)) c.as_u32.ensures (c.cross_handle.ensures from))

pub returns-in-Borrow : goal.returns-in-Borrow
returns-in-Borrow c =
    λ from. subst (λ y. StepGives c.cross_handle-in-Borrow.result c.cross_handle-in-Borrow.new.numbers (cross_plain take_number from (plain_of y) c.args.value.now c.args.numbers.now)) (sym c.in-Borrow.is)
    (subst (λ k. StepGives c.cross_handle-in-Borrow.result c.cross_handle-in-Borrow.new.numbers (cross_handle take_number Borrow from k c.args.value.now c.args.numbers.now)) c.as_u32-in-Borrow.ensures (c.cross_handle-in-Borrow.ensures from))

pub returns-in-ErrorContext : goal.returns-in-ErrorContext
returns-in-ErrorContext c =
    λ from. subst (λ y. StepGives c.cross_handle-in-ErrorContext.result c.cross_handle-in-ErrorContext.new.numbers (cross_plain take_number from (plain_of y) c.args.value.now c.args.numbers.now)) (sym c.in-ErrorContext.is)
    (subst (λ k. StepGives c.cross_handle-in-ErrorContext.result c.cross_handle-in-ErrorContext.new.numbers (cross_handle take_number ErrorContext from k c.args.value.now c.args.numbers.now)) c.as_u32-in-ErrorContext.ensures (c.cross_handle-in-ErrorContext.ensures from))

pub returns-in_ok-try_clone-in_default : goal.returns-in_ok-try_clone-in_default
returns-in_ok-try_clone-in_default c =
    λ from. stays c.args.to.now from c.args.value.now c.args.numbers.now c.in_default.not-Own c.in_default.not-Borrow c.in_default.not-ErrorContext ∙ ap (λ v. Some (v, c.args.numbers.now)) (sym c.in_ok-try_clone-in_default.ensures)
