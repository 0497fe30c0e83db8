use Rattle.std.proofs.Common.{subst}
use Rattle.fact_values.specs.Carry.{take_number}
use Rattle.fact_abi.specs.CrossingWalks.{StepGives}
use Rattle.fact_values.specs.Handles.{cross}
use Rattle.fact_abi.proofs.BelongLaws.{yes_says, no_says}
use Rattle.fact_abi.proofs.KindLaws.{if_ok}
use Rattle.fact_abi.proofs.WalkLaws.{carried_gives, not_a_value, not_agreed}
use Rattle.fact_abi.proofs.carrying.carry.Goals as goal

pub returns-then-not-branch : goal.returns-then-not-branch
returns-then-not-branch c =
    λ s d h k. not_a_value s d c.args.value.now c.args.numbers.now (no_says c.in_ok-is_value_of.field-0 (c.in_ok-is_value_of.ensures s h) c.if-not-branch.true)

pub returns-then-not-branch-2 : goal.returns-then-not-branch-2
returns-then-not-branch-2 c =
    λ s d h k. not_agreed s d c.args.value.now c.args.numbers.now (no_says c.in_ok-types_agree.field-0 (c.in_ok-types_agree.ensures s d h k) c.if-not-branch-2.true)

pub returns : goal.returns
returns c =
    if_ok _ _ c.cross_value.result (λ o g. λ s d h k.
    let agrees = yes_says c.in_ok-types_agree.field-0 (c.in_ok-types_agree.ensures s d h k) c.if-not-branch-2.false in
    carried_gives s d c.args.value.now c.args.numbers.now c.cross_value.new.numbers o (yes_says c.in_ok-is_value_of.field-0 (c.in_ok-is_value_of.ensures s h) c.if-not-branch.false) agrees
    (subst (λ ns. StepGives o c.cross_value.new.numbers (cross take_number s d c.args.value.now ns)) c.new-left.ensures (g s d h k agrees))) c.cross_value.ensures
