use Rattle.std.proofs.Common.{◌⊎◌, List, refl, inl, sym, ◌∙◌, IsTrue}
use Rattle.std.specs.Prelude.{◌↔◌}
use Rattle.std.specs.List.{Any}
use Rattle.std.proofs.lemmas.Bool.{false≢true}
use Rattle.std.proofs.lemmas.Result.{IfOk-weaker}
use Rattle.fact_types.specs.Functions.{HasSignature, HaveShapes}
use Rattle.fact_types.specs.Shapes.{Shape}
use Rattle.fact_type_rules.specs.TypeFaults.{AnyIn}
use Rattle.fact_type_rules.specs.Walk.{BreaksRules}
use Rattle.fact_type_rules.proofs.FunctionLaws.{none-before}
use Rattle.fact_type_rules.proofs.functions.has_faulty_types.Goals as goal

pub returns-then-branch-clause-exact : goal.returns-then-branch-clause-exact
returns-then-branch-clause-exact c = λ ps rs h.
    (λ b. inl ((c.in_ok-is_any_faulty.ensures.exact ps (c.params_of.ensures.shaped ps rs h)).0 c.if-branch.true), λ f. refl)

pub returns-clause-exact : goal.returns-clause-exact
returns-clause-exact c =
    let t = c.args.builder.now.tables in
    IfOk-weaker c.is_any_faulty-2.result (λ found. (ss : List Shape) → HaveShapes t c.results_of.result.now ss → (IsTrue found ↔ Any (AnyIn (BreaksRules c.args.rules)) ss))
    (λ found. (ps rs : List Shape) → HasSignature t c.args.ty ps rs → (IsTrue found ↔ (Any (AnyIn (BreaksRules c.args.rules)) ps ⊎ Any (AnyIn (BreaksRules c.args.rules)) rs)))
    (λ found h ps rs s. none-before _ _ found (h rs (c.results_of.ensures.shaped ps rs s))
    (λ f. false≢true (sym c.if-branch.false ∙ (c.in_ok-is_any_faulty.ensures.exact ps (c.params_of.ensures.shaped ps rs s)).1 f)))
    c.is_any_faulty-2.ensures.exact
