use Rattle.std.proofs.Common.{◌<◌, length, get_or, subst, arith}
use Rattle.std.proofs.lemmas.Option.{slice_get-get_or}
use Rattle.fact_types.specs.declared.interface.InterfaceType.TheVariants as ty
use Rattle.fact_type_rules.specs.Walk.{Looks}
use Rattle.fact_type_rules.proofs.WalkLaws.{walk-ends, walk-finds, walk-goes-on, walk-lighter}
use Rattle.fact_type_rules.proofs.walk.reaches_fault.Goals as goal

pub returns-then-branch : goal.returns-then-branch
returns-then-branch c =
    let t = c.args.builder.now.tables in
    let met = c.loop-at.met.keys in
    let x = get_or met c.loop-at.at ty.Bool in
    let within : c.loop-at.at < length met = omega (arith, c.len.ensures.len, c.loop-at-test.true) in
    let here = slice_get-get_or met c.loop-at.at ty.Bool within in
    walk-finds t c.args.rules c.args.met.now.keys met c.finds_fault.new.met.keys c.args.clean.now.keys c.loop-at.at x c.reveal.ensures.sound c.loop-at.invariant here
    (subst (Looks t c.args.rules c.args.clean.now.keys met c.finds_fault.new.met.keys x) c.if-branch.true (c.in_ok-finds_fault.ensures x here))

pub loop-at-smaller : goal.loop-at-smaller
loop-at-smaller c =
    let t = c.args.builder.now.tables in
    let met = c.loop-at.met.keys in
    let x = get_or met c.loop-at.at ty.Bool in
    let within : c.loop-at.at < length met = omega (arith, c.len.ensures.len, c.loop-at-test.true) in
    let here = slice_get-get_or met c.loop-at.at ty.Bool within in
    walk-lighter t c.args.rules met c.finds_fault.new.met.keys c.args.clean.now.keys c.loop-at.at x c.reveal.ensures.sound c.loop-at.invariant.live here
    (subst (Looks t c.args.rules c.args.clean.now.keys met c.finds_fault.new.met.keys x) c.if-branch.false (c.in_ok-finds_fault.ensures x here))

pub loop-at-preserved : goal.loop-at-preserved
loop-at-preserved c =
    let t = c.args.builder.now.tables in
    let met = c.loop-at.met.keys in
    let x = get_or met c.loop-at.at ty.Bool in
    let within : c.loop-at.at < length met = omega (arith, c.len.ensures.len, c.loop-at-test.true) in
    let here = slice_get-get_or met c.loop-at.at ty.Bool within in
    walk-goes-on t c.args.rules c.args.met.now.keys met c.finds_fault.new.met.keys c.args.clean.now.keys c.loop-at.at x c.reveal.ensures.sound c.loop-at.invariant here
    (subst (Looks t c.args.rules c.args.clean.now.keys met c.finds_fault.new.met.keys x) c.if-branch.false (c.in_ok-finds_fault.ensures x here))

pub returns : goal.returns
returns c =
    walk-ends c.args.builder.now.tables c.args.rules c.args.met.now.keys c.loop-at.met.keys c.args.clean.now.keys c.loop-at.at c.loop-at.invariant
    (omega (arith, c.len.ensures.len, c.loop-at-test.false)) c.requires.clean
