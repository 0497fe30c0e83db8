use Rattle.std.proofs.Common.{◌↔◌, subst}
use Rattle.std.specs.Prelude.{IfOk, IsTrue}
use Rattle.fact_types.specs.Agrees.{Agrees}
use Rattle.fact_types.specs.Shapes.{Shape}
use Rattle.fact_types.specs.Tables.{HasShape}
use Rattle.fact_abi.proofs.carrying.types_agree.Goals as goal

pub returns : goal.returns
returns c = subst (λ t. IfOk c.agrees-agree.result (λ b. (s d : Shape) → HasShape t c.args.from.now s → HasShape t c.args.to.now d → (IsTrue b ↔ Agrees s d))) c.new-agreement.ensures c.agrees-agree.ensures.exact
