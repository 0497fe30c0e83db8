use Rattle.std.proofs.Common.{◌⊎◌, true, List, refl, inl, sym, subst, ◌∙◌, IsTrue}
use Rattle.std.specs.Prelude.{◌↔◌, IfOk}
use Rattle.std.specs.List.{Any}
use Rattle.std.proofs.lemmas.Bool.{false≢true}
use Rattle.std.proofs.lemmas.Result.{IfOk-weaker}
use Rattle.fact_types.specs.Functions.{HasSignature}
use Rattle.fact_types.specs.Shapes.{Shape}
use Rattle.fact_builder.specs.Builder.{Builder}
use Rattle.fact_type_rules.specs.TypeFaults.{AnyIn, IsLargeFunction, IsLargeShape}
use Rattle.fact_type_rules.proofs.FunctionLaws.{neither, none-before}
use Rattle.fact_type_rules.proofs.functions.FunctionTypes.is_large.Goals as goal

pub returns-then-is_long-clause-exact : goal.returns-then-is_long-clause-exact
returns-then-is_long-clause-exact c =
    subst (λ (b : Builder). (ps rs : List Shape) (s : HasSignature b.tables c.args.ty ps rs) → (IsTrue true ↔ IsLargeFunction s.func.param_names ps rs)) c.self.view_is
    (λ ps rs s. (λ b. inl ((c.is_long.ensures ps rs s).0 c.if-is_long.true), λ f. refl))

pub returns-clause-exact : goal.returns-clause-exact
returns-clause-exact c =
    subst (λ (b : Builder). IfOk c.has_faulty_types.result (λ found. (ps rs : List Shape) (s : HasSignature b.tables c.args.ty ps rs) → (IsTrue found ↔ IsLargeFunction s.func.param_names ps rs))) c.self.view_is
    (IfOk-weaker c.has_faulty_types.result
    (λ found. (ps rs : List Shape) → HasSignature c.self.inside.builder.now.tables c.args.ty ps rs → (IsTrue found ↔ (Any (AnyIn IsLargeShape) ps ⊎ Any (AnyIn IsLargeShape) rs)))
    (λ found. (ps rs : List Shape) (s : HasSignature c.self.inside.builder.now.tables c.args.ty ps rs) → (IsTrue found ↔ IsLargeFunction s.func.param_names ps rs))
    (λ found h ps rs s. none-before _ _ found
    (none-before _ _ found (h ps rs s) (neither _ _ (c.reveal_tuples.ensures.params ps rs s) (c.reveal_tuples.ensures.results ps rs s)))
    (λ f. false≢true (sym c.if-is_long.false ∙ (c.is_long.ensures ps rs s).1 f)))
    c.has_faulty_types.ensures.exact)
