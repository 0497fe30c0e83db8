use Rattle.std.proofs.Common.{subst, IsTrue}
use Rattle.std.specs.Prelude.{◌↔◌}
use Rattle.std.proofs.lemmas.Result.{IfOk-weaker}
use Rattle.fact_types.specs.Shapes.{Shape}
use Rattle.fact_types.specs.Tables.{node_of, HasShape}
use Rattle.fact_type_rules.specs.TypeFaults.{IsBadShape}
use Rattle.fact_type_rules.specs.Walk.{IsBadNode}
use Rattle.fact_type_rules.proofs.EntryLaws.{bad-entry}
use Rattle.fact_type_rules.proofs.rules.is_bad_type.Goals as goal

pub returns : goal.returns
returns c =
    let t = c.args.builder.now.tables in
    IfOk-weaker c.is_bad_entry.result (λ found. IsTrue found ↔ IsBadNode (node_of c.component_types.result.now c.args.ty.now)) (λ found. (s : Shape) → HasShape t c.args.ty.now s → IsTrue found ↔ IsBadShape s)
    (λ found h s k.
    let e = bad-entry t c.args.ty.now s k in
    let g = subst (λ t. IsTrue found ↔ IsBadNode (node_of t c.args.ty.now)) c.component_types.ensures h in
    (λ b. e.0 (g.0 b), λ b. g.1 (e.1 b)))
    c.is_bad_entry.ensures
