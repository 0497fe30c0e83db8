use Rattle.std.proofs.Common.{◌↔◌, List, subst}
use Rattle.std.specs.Prelude.{IfOk, IsTrue}
use Rattle.std.proofs.lemmas.Result.{IfOk-weaker}
use Rattle.fact_builder.specs.Builder.{Builder}
use Rattle.fact_types.specs.Functions.{HasSignature}
use Rattle.fact_types.specs.Shapes.{Shape}
use Rattle.fact_types.specs.Tables.{IsSound, Tables}
use Rattle.fact_type_rules.specs.TypeFaults.{IsBadFunction}
use Rattle.fact_assembly.proofs.TypedLaws.{bad-type}
use Rattle.fact_assembly.proofs.typed.is_bad_type.Goals as goal

pub returns-clause-exact : goal.returns-clause-exact
returns-clause-exact c =
    let sound = subst (λ (t : Tables). IsSound t) c.component_types.ensures c.reveal-2.ensures.sound in
    IfOk-weaker c.is_bad.result _ _ (bad-type c.args.builder.now sound c.args.ty c.requires.live)
    (subst (λ (b : Builder). IfOk c.is_bad.result (λ found. (params results : List Shape) (s : HasSignature b.tables c.args.ty params results) → (IsTrue found ↔ IsBadFunction s.func.param_names params results))) c.requires.same c.is_bad.ensures.exact)
