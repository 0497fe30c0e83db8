use Rattle.std.proofs.Common.{◌≡◌, Some, length, slice_get, sym, ap, subst, ◌∙◌, arith}
use Rattle.std.specs.Result.{IsErrAnd}
use Rattle.fact_entity.specs.declared.error.PushError.TheVariants.{OutOfMemory, TooLarge}
use Rattle.fact_entity.proofs.Entries.{keeps_appended, named_appended}
use Rattle.fact_entity.proofs.map.PrimaryMap.push.Goals as goal

pub returns-in_err-push-clause-too_large : goal.returns-in_err-push-clause-too_large
returns-in_err-push-clause-too_large g c =
    let v = ap length c.self.view_is in let n = c.self.inside.entries.ok.0 in (
      λ e. let other : TooLarge ≡ OutOfMemory = subst (λ r. IsErrAnd r (λ x. x ≡ OutOfMemory)) e c.from_residual.ensures.1 in cc,
      λ e. absurd (omega (arith, v, n, e)),
    )

pub returns-clause-named : goal.returns-clause-named
returns-clause-named g c =
    let n = g.K.EntityRef.number c.next_key-k.result in
    let v = ap length c.self.view_is in
    let k = ap g.K.EntityRef.number c.next_key-k.ensures ∙ g.met.K.EntityRef.number_of_key _ (omega (arith, c.self.invariant, v)) in
    subst (λ ys. slice_get ys n ≡ Some c.args.value) (sym c.in_ok-push.ensures.items) (named_appended c.self.inside.entries.items c.args.value n (k ∙ sym v))

pub returns-clause-keeps : goal.returns-clause-keeps
returns-clause-keeps g c = λ i x h.
    let there = keeps_appended c.self.inside.entries.items c.args.value i x (subst (λ ys. slice_get ys i ≡ Some x) (sym c.self.view_is) h) in
    subst (λ ys. slice_get ys i ≡ Some x) (sym c.in_ok-push.ensures.items) there

pub returns-clause-too_large : goal.returns-clause-too_large
returns-clause-too_large g c =
    let v = ap length c.self.view_is in let n = c.self.inside.entries.ok.0 in
    (λ e. cc, λ e. absurd (omega (arith, v, n, e)))
