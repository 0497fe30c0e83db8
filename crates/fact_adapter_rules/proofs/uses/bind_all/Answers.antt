use Rattle.std.proofs.Common.{◌≡◌, ◌++◌, ◌∙◌, sym, ap, true}
use Rattle.std.proofs.lemmas.List.{append_assoc}
use Rattle.std.specs.Vec.Iter.{into_iter_items}
use Rattle.fact_adapter_rules.proofs.FrontLaws.{IsFront-itself, IsFront-trans}
use Rattle.fact_adapter_rules.proofs.BindingLaws.{Binds-all, Binds-none, Binds-offered, Binds-one, Binds-then}
use Rattle.fact_adapter_rules.proofs.uses.bind_all.Goals as goal

pub loop-def-init : goal.loop-def-init
loop-def-init g c =
    let given : into_iter_items c.into_iter-def-iterator.result ≡ c.args.pairs.items = c.into_iter-def-iterator.ensures.into_iter_gives.0 in
    record { bound = Binds-none {V = g.row.V.Denot} _; pairs = sym given; front = IsFront-itself _ }

pub returns-in_err-bind-clause-front : goal.returns-in_err-bind-clause-front
returns-in_err-bind-clause-front g c = IsFront-trans _ _ _ c.loop-def.invariant.front c.in_err-bind.ensures.front

pub returns-then-not-branch-clause-front : goal.returns-then-not-branch-clause-front
returns-then-not-branch-clause-front g c = IsFront-trans _ _ _ c.loop-def.invariant.front c.in_ok-bind.ensures.front

pub returns-then-not-branch-clause-binds : goal.returns-then-not-branch-clause-binds
returns-then-not-branch-clause-binds g c =
    Binds-offered {V = g.row.V.Denot} _ _ _ _ _ _ _ c.in-Some.def c.in-Some.value c.in_ok-bind.field-0 c.loop-def.invariant.pairs c.in-Some.ensures.steps.0 c.loop-def.invariant.bound
    (Binds-one {V = g.row.V.Denot} _ _ _ _ c.in_ok-bind.field-0 c.in_ok-bind.ensures.bound c.in_ok-bind.ensures.another) c.if-not-branch.true

pub loop-def-preserved : goal.loop-def-preserved
loop-def-preserved g c = record {
  bound = Binds-then {V = g.row.V.Denot} _ _ _ _ _ true c.loop-def.invariant.bound (c.in_ok-bind.ensures.bound c.if-not-branch.false);
  pairs = c.loop-def.invariant.pairs ∙ ap (λ l. c.loop-def.yielded ++ l) c.in-Some.ensures.steps.0 ∙ sym (append_assoc c.loop-def.yielded _ _);
  front = IsFront-trans _ _ _ c.loop-def.invariant.front c.in_ok-bind.ensures.front;
}

pub returns-clause-binds : goal.returns-clause-binds
returns-clause-binds g c = Binds-all {V = g.row.V.Denot} _ _ _ _ _ c.loop-def.invariant.pairs (sym c.loop-def.def-iterator.rest.ok.0 ∙ c.in-None.ensures.steps.0) c.loop-def.invariant.bound
