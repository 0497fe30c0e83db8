use Rattle.std.proofs.Common.{◌≡◌, ◌+◌, ◌<◌, ◌∙◌, suc, arith, length, refl, subst, sym}
use Rattle.std.proofs.lemmas.Bool.{true≢false}
use Rattle.std.proofs.lemmas.Option.{slice_get-get_or, slice_get_read}
use Rattle.fact_host.proofs.ValueLists.{AreSoFar, as_many, at_last, one_more, one_not}
use Rattle.fact_host.proofs.results.are_values.Goals as goal

pub returns-then-tys-values : goal.returns-then-tys-values
returns-then-tys-values c = λ ss have. (
  (λ e. absurd (true≢false (sym e))),
  (λ are. let same = as_many c.args.types.now c.args.tys.now c.args.values.now ss have are in absurd (omega (arith, same))),
)

pub returns-then-not-branch : goal.returns-then-not-branch
returns-then-not-branch c = λ ss have. (
  (λ e. absurd (true≢false (sym e))),
  (λ are.
      let v = c.index-values-place.result in
      let within : c.loop-place.place < length c.args.values.now = omega arith in
      absurd (one_not c.args.types.now c.args.tys.now c.args.values.now c.loop-place.place _ v (slice_get-get_or c.args.tys.now c.loop-place.place _ c.loop-place-test.true)
      (slice_get_read c.args.values.now (length c.args.values.now) c.loop-place.place v refl within c.index-values-place.is)
      (λ s h is. true≢false (sym ((c.in_ok-is_value_of.ensures s h).1 is) ∙ c.if-not-branch.true)) c.loop-place.invariant ss have are)),
)

pub loop-place-preserved : goal.loop-place-preserved
loop-place-preserved c =
    let v = c.index-values-place.result in
    let within : c.loop-place.place < length c.args.values.now = omega arith in
    let next : suc c.loop-place.place ≡ c.loop-place.place + 1 = omega arith in
    subst (AreSoFar c.args.types.now c.args.tys.now c.args.values.now) next
    (one_more c.args.types.now c.args.tys.now c.args.values.now c.loop-place.place _ v (slice_get-get_or c.args.tys.now c.loop-place.place _ c.loop-place-test.true)
    (slice_get_read c.args.values.now (length c.args.values.now) c.loop-place.place v refl within c.index-values-place.is) (λ s h. (c.in_ok-is_value_of.ensures s h).0 c.if-not-branch.false) c.loop-place.invariant)

pub returns : goal.returns
returns c = λ ss have. ((λ e. at_last c.args.types.now c.args.tys.now c.args.values.now c.loop-place.place (omega arith) (omega arith) c.loop-place.invariant ss have), (λ are. refl))
