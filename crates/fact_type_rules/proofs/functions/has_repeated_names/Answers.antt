use Rattle.std.proofs.Common.{List, subst, ◌∙◌, IsTrue}
use Rattle.std.specs.Prelude.{◌↔◌}
use Rattle.std.proofs.lemmas.Result.{IfOk-weaker}
use Rattle.fact_types.specs.Functions.{HasSignature}
use Rattle.fact_types.specs.Shapes.{Shape}
use Rattle.fact_plan_types.specs.TypeRules.{IsRepeated}
use Rattle.fact_type_rules.proofs.FunctionLaws.{same-names}
use Rattle.fact_type_rules.proofs.functions.has_repeated_names.Goals as goal

pub returns : goal.returns
returns c =
    let t = c.args.builder.now.tables in
    IfOk-weaker c.are_repeated.result (λ found. IsTrue found ↔ IsRepeated c.as_slice.result.now) (λ found. (ps rs : List Shape) (s : HasSignature t c.args.ty ps rs) → (IsTrue found ↔ IsRepeated s.func.param_names))
    (λ found h ps rs s. subst (λ names. IsTrue found ↔ IsRepeated names) (c.as_slice.ensures ∙ same-names t c.args.ty c.index.result.now ps rs c.index.ensures s) h)
    c.are_repeated.ensures
