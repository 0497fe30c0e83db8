use Rattle.std.proofs.Common.{◌≡◌, ◌≤◌, sym, subst, arith, length}
use Rattle.std.proofs.lemmas.Bool.Decides.{nat_tests}
use Rattle.std.proofs.lemmas.List.{length-take}
use Rattle.fact_abi.proofs.LeadingLaws.{from_place}
use Rattle.fact_lowering.proofs.FlagWords.{Wording, wording_ends, wording_last, wording_on}
use Rattle.fact_lowering.proofs.flags.flag_words.Goals as goal

pub slice_bounds-flag_word-end : goal.slice_bounds-flag_word-end
slice_bounds-flag_word-end c = omega (arith, length-take 32 c.loop-rest.rest.now, c.loop-rest-test.true)

pub flag_word-requires : goal.flag_word-requires
flag_word-requires c = omega (arith, length-take 32 c.loop-rest.rest.now)

pub loop-rest-preserved : goal.loop-rest-preserved
loop-rest-preserved c =
    subst (λ l. Wording c.args.flags.now l c.push.new.self) (sym (from_place 32 c.loop-rest.rest.now))
    (wording_on c.args.flags.now c.loop-rest.rest.now c.loop-rest.words c.push.new.self c.flag_word.result (omega (arith, c.loop-rest-test.true)) c.flag_word.ensures.value c.flag_word.ensures.small c.in_ok-push.ensures.ok c.loop-rest.invariant)

pub returns-then-is_empty : goal.returns-then-is_empty
returns-then-is_empty c =
    let none : length c.loop-rest.rest.now ≡ 0 = grind (arith, nat_tests, c.is_empty.ensures, c.if-is_empty.true) in
    wording_ends c.args.flags.now c.loop-rest.rest.now c.loop-rest.words none c.loop-rest.invariant

pub returns : goal.returns
returns c =
    let some : 1 ≤ length c.loop-rest.rest.now = grind (arith, nat_tests, c.is_empty.ensures, c.if-is_empty.false) in
    wording_last c.args.flags.now c.loop-rest.rest.now c.loop-rest.words c.push-2.new.self c.flag_word-2.result some (omega (arith, c.loop-rest-test.false)) c.flag_word-2.ensures.value c.flag_word-2.ensures.small c.in_ok-push-2.ensures.ok c.loop-rest.invariant
