use Rattle.std.proofs.Common.{sym, ◌∙◌, arith}
use Rattle.fact_abi.proofs.LeadingLaws.{repeats_on, not_repeated, none_repeated, all_repeated}
use Rattle.fact_abi.proofs.standing.leading_same.Goals as goal

pub returns-in_default-clause-value : goal.returns-in_default-clause-value
returns-in_default-clause-value c = none_repeated c.args.flat c.args.count c.args.values.now c.loop-index.index c.loop-index-test.true c.in_default.ensures.lookup.3 c.loop-index.invariant

pub returns-then-not-can_stand-clause-value : goal.returns-then-not-can_stand-clause-value
returns-then-not-can_stand-clause-value c =
    not_repeated c.args.flat c.args.count c.args.values.now c.loop-index.index c.in-Some.value.now c.loop-index-test.true c.in-Some.ensures.lookup.3.0 (c.in-Some.ensures.lookup.3.1 _) (sym c.can_stand.ensures ∙ c.if-not-can_stand.true) c.loop-index.invariant

pub loop-index-preserved : goal.loop-index-preserved
loop-index-preserved c =
    repeats_on c.args.flat c.args.count c.args.values.now c.loop-index.index c.in-Some.value.now c.loop-index-test.true c.in-Some.ensures.lookup.3.0 (c.in-Some.ensures.lookup.3.1 _) (sym c.can_stand.ensures ∙ c.if-not-can_stand.false) c.loop-index.invariant

pub returns-clause-value : goal.returns-clause-value
returns-clause-value c = all_repeated c.args.flat c.args.count c.args.values.now c.loop-index.index (omega (arith, c.loop-index-test.false)) c.loop-index.invariant
