use Rattle.std.proofs.Common.{◌≡◌, [], ◌∷◌, Some, IfOk, sym, ap, subst}
use Rattle.std.specs.Prelude.{option_and_then}
use Rattle.fact_machine.specs.Typing.{change, only_if}
use Rattle.fact_check.specs.Operands.{operands_of}
use Rattle.fact_check.proofs.typing.load.Goals as goal

pub returns-in-Some : goal.returns-in-Some
returns-in-Some c =
    subst (λ o. IfOk c.change.result (λ typed. option_and_then (λ a. change (a ∷ []) (c.args.ty ∷ []) (operands_of c.args.operands.now)) o ≡ only_if typed (Some (operands_of c.change.new.self))))
    (c.in-Some.ensures c.args.labels.now) c.change.ensures

pub returns-in-None : goal.returns-in-None
returns-in-None c = ap (option_and_then (λ a. change (a ∷ []) (c.args.ty ∷ []) (operands_of c.args.operands.now))) (sym (c.in-None.ensures c.args.labels.now))
