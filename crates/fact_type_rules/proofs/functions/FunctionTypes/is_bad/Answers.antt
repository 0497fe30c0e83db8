use Rattle.std.proofs.Common.{◌⊎◌, true, List, refl, inl, inr, sym, subst, ◌∙◌, IsTrue}
use Rattle.std.specs.Prelude.{◌↔◌, IfOk}
use Rattle.std.specs.List.{Any}
use Rattle.std.proofs.lemmas.Bool.{false≢true}
use Rattle.std.proofs.lemmas.Result.{IfOk-weaker}
use Rattle.fact_types.specs.Functions.{HasSignature}
use Rattle.fact_types.specs.Shapes.{Shape}
use Rattle.fact_builder.specs.Builder.{Builder}
use Rattle.fact_type_rules.specs.TypeFaults.{AnyIn, IsBadFunction, IsBadShape}
use Rattle.fact_type_rules.proofs.FunctionLaws.{none-before}
use Rattle.fact_type_rules.proofs.functions.FunctionTypes.is_bad.Goals as goal

pub returns-then-branch-clause-exact : goal.returns-then-branch-clause-exact
returns-then-branch-clause-exact c =
    subst (λ (b : Builder). (ps rs : List Shape) (s : HasSignature b.tables c.args.ty ps rs) → (IsTrue true ↔ IsBadFunction s.func.param_names ps rs)) c.self.view_is
    (λ ps rs s. (λ b. inl ((c.in_ok-has_repeated_names.ensures ps rs s).0 c.if-branch.true), λ f. refl))

pub returns-then-is_any_borrow-clause-exact : goal.returns-then-is_any_borrow-clause-exact
returns-then-is_any_borrow-clause-exact c =
    subst (λ (b : Builder). (ps rs : List Shape) (s : HasSignature b.tables c.args.ty ps rs) → (IsTrue true ↔ IsBadFunction s.func.param_names ps rs)) c.self.view_is
    (λ ps rs s. (λ b. inr (inl ((c.is_any_borrow.ensures rs (c.results_of.ensures.shaped ps rs s)).0 c.if-is_any_borrow.true)), λ f. refl))

pub returns-clause-exact : goal.returns-clause-exact
returns-clause-exact c =
    subst (λ (b : Builder). IfOk c.has_faulty_types.result (λ found. (ps rs : List Shape) (s : HasSignature b.tables c.args.ty ps rs) → (IsTrue found ↔ IsBadFunction s.func.param_names ps rs))) c.self.view_is
    (IfOk-weaker c.has_faulty_types.result
    (λ found. (ps rs : List Shape) → HasSignature c.self.inside.builder.now.tables c.args.ty ps rs → (IsTrue found ↔ (Any (AnyIn IsBadShape) ps ⊎ Any (AnyIn IsBadShape) rs)))
    (λ found. (ps rs : List Shape) (s : HasSignature c.self.inside.builder.now.tables c.args.ty ps rs) → (IsTrue found ↔ IsBadFunction s.func.param_names ps rs))
    (λ found h ps rs s. none-before _ _ found
    (none-before _ _ found (h ps rs s) (λ f. false≢true (sym c.if-is_any_borrow.false ∙ (c.is_any_borrow.ensures rs (c.results_of.ensures.shaped ps rs s)).1 f)))
    (λ f. false≢true (sym c.if-branch.false ∙ (c.in_ok-has_repeated_names.ensures ps rs s).1 f)))
    c.has_faulty_types.ensures.exact)
