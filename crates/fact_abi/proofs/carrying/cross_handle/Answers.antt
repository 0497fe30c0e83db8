use Rattle.std.proofs.Common.{subst, sym}
use Rattle.std.proofs.lemmas.Bool.{MatchBool-at_true, MatchBool-at_false}
use Rattle.fact_values.specs.Carry.{take_number}
use Rattle.fact_abi.specs.CrossingWalks.{StepGives}
use Rattle.fact_values.specs.Handles.{cross_handle}
use Rattle.fact_abi.proofs.WalkLaws.{no_handle_there, handle_gives}
use Rattle.fact_abi.proofs.carrying.cross_handle.Goals as goal

pub returns-then-not-is_any_handle : goal.returns-then-not-is_any_handle
returns-then-not-is_any_handle c =
    λ from. no_handle_there c.args.kind from c.args.table c.args.value.now c.args.numbers.now (MatchBool-at_false _ _ c.if-not-is_any_handle.true c.is_any_handle.ensures)

pub returns : goal.returns
returns c =
    λ from.
    let there = MatchBool-at_true _ _ c.if-not-is_any_handle.false c.is_any_handle.ensures in
    subst (λ r. StepGives r c.take-number.new.self (cross_handle take_number c.args.kind from c.args.table c.args.value.now c.args.numbers.now)) (sym c.handle_by.ensures)
    (handle_gives c.args.kind from c.args.table c.args.value.now there.0 c.take-number.result c.args.numbers.now c.take-number.new.self there.1 c.take-number.ensures)
