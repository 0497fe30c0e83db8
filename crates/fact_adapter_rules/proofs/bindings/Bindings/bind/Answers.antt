use Rattle.std.proofs.Common.{[], ◌∷◌, ◌++◌, Contains, sym, subst, ◌∙◌}
use Rattle.fact_adapter_rules.specs.Bindings.{Covers}
use Rattle.fact_adapter_rules.specs.Fronts.{IsFront}
use Rattle.fact_adapter_rules.proofs.BoundLaws.{Covers-again, Covers-new, IsBoundToAnother-covered}
use Rattle.fact_adapter_rules.proofs.FrontLaws.{IsFront-append}
use Rattle.fact_adapter_rules.proofs.ItemLaws.{found, absent, pushed}
use Rattle.fact_adapter_rules.proofs.bindings.Bindings.bind.Goals as goal

pub returns-in-Some-clause-bound : goal.returns-in-Some-clause-bound
returns-in-Some-clause-bound g c = λ same xs covers.
    let there = found c.self.inside.values c.self.invariant c.args.self.now c.self.view_is c.args.def c.in-Some.bound.now c.in-Some.ensures.value in
    let value = c.requires.exact c.in-Some.bound.now c.args.value (sym c.eq.ensures ∙ same) in
    Covers-again c.args.self.now xs (c.args.def, c.args.value) (subst (λ v. Contains c.args.self.now (c.args.def, v)) value there) covers

pub returns-in-Some-clause-another : goal.returns-in-Some-clause-another
returns-in-Some-clause-another g c = λ other xs covers.
    let there = found c.self.inside.values c.self.invariant c.args.self.now c.self.view_is c.args.def c.in-Some.bound.now c.in-Some.ensures.value in
    let itself = g.met.V.Eq.laws.refl c.args.value in
    IsBoundToAnother-covered c.args.self.now xs c.args.def c.args.value c.in-Some.bound.now there (λ e. cc) covers

pub returns-clause-bound : goal.returns-clause-bound
returns-clause-bound g c = λ same xs covers.
    let new = pushed c.self.inside.values c.self.invariant c.args.self.now c.self.view_is c.args.def c.insert.new.self.entries c.args.value c.in_default.ensures.value c.in_ok-insert.ensures.entries in
    let none = absent c.self.inside.values c.self.invariant c.args.self.now c.self.view_is c.args.def c.in_default.ensures.value in
    subst (λ m. Covers m (xs ++ (c.args.def, c.args.value) ∷ [])) (sym new) (Covers-new c.args.self.now xs (c.args.def, c.args.value) none covers)

pub returns-clause-front : goal.returns-clause-front
returns-clause-front g c =
    let new = pushed c.self.inside.values c.self.invariant c.args.self.now c.self.view_is c.args.def c.insert.new.self.entries c.args.value c.in_default.ensures.value c.in_ok-insert.ensures.entries in
    subst (IsFront c.args.self.now) (sym new) (IsFront-append c.args.self.now _)
