use Rattle.std.proofs.Common.{◌≡◌, ◌++◌, ◌∙◌, sym, ap, true}
use Rattle.std.proofs.lemmas.List.{append_assoc}
use Rattle.std.specs.Vec.Iter.{into_iter_items}
use Rattle.fact_adapter_rules.proofs.FrontLaws.{IsFront-itself, IsFront-trans}
use Rattle.fact_adapter_rules.proofs.BindingLaws.{AddsNames-all, AddsNames-none, AddsNames-offered, AddsNames-one, AddsNames-then}
use Rattle.fact_adapter_rules.proofs.names.add_all.Goals as goal

pub loop-name-init : goal.loop-name-init
loop-name-init c =
    let given : into_iter_items c.into_iter-name-iterator.result ≡ c.args.names.items = c.into_iter-name-iterator.ensures.into_iter_gives.0 in
    record { added = AddsNames-none _; names = sym given; front = IsFront-itself _ }

pub returns-in_err-add-clause-front : goal.returns-in_err-add-clause-front
returns-in_err-add-clause-front c = IsFront-trans _ _ _ c.loop-name.invariant.front c.in_err-add.ensures.front

pub returns-then-not-branch-clause-front : goal.returns-then-not-branch-clause-front
returns-then-not-branch-clause-front c = IsFront-trans _ _ _ c.loop-name.invariant.front c.in_ok-add.ensures.front

pub returns-then-not-branch-clause-adds : goal.returns-then-not-branch-clause-adds
returns-then-not-branch-clause-adds c =
    AddsNames-offered _ _ _ _ _ _ _ c.in-Some.name c.in_ok-add.field-0 c.loop-name.invariant.names c.in-Some.ensures.steps.0 c.loop-name.invariant.added
    (AddsNames-one _ _ _ c.in_ok-add.field-0 c.in_ok-add.ensures.added c.in_ok-add.ensures.known c.in_ok-add.ensures.distinct) c.if-not-branch.true

pub loop-name-preserved : goal.loop-name-preserved
loop-name-preserved c = record {
  added = AddsNames-then _ _ _ _ _ true c.loop-name.invariant.added (c.in_ok-add.ensures.added c.if-not-branch.false, λ d. c.in_ok-add.ensures.distinct);
  names = c.loop-name.invariant.names ∙ ap (λ l. c.loop-name.yielded ++ l) c.in-Some.ensures.steps.0 ∙ sym (append_assoc c.loop-name.yielded _ _);
  front = IsFront-trans _ _ _ c.loop-name.invariant.front c.in_ok-add.ensures.front;
}

pub returns-clause-adds : goal.returns-clause-adds
returns-clause-adds c = AddsNames-all _ _ _ _ _ c.loop-name.invariant.names (sym c.loop-name.name-iterator.rest.ok.0 ∙ c.in-None.ensures.steps.0) c.loop-name.invariant.added
