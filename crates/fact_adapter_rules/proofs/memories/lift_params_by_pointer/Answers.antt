use Rattle.std.proofs.Common.{sym, subst}
use Rattle.std.specs.Prelude.{◌↔◌, IsTrue}
use Rattle.fact_adapter_rules.specs.AdapterRules.{IsByPointer}
use Rattle.fact_adapter_rules.proofs.Decisions.{mapped}
use Rattle.fact_adapter_rules.proofs.memories.lift_params_by_pointer.Goals as goal

pub returns : goal.returns
returns c =
    mapped c.is_by_pointer.result _ _ (λ found h s side. subst (λ m. IsTrue found ↔ IsByPointer m 16 s.params) (sym side.memory) (h s.params (c.params_of.ensures.shaped _ _ side.signature))) c.is_by_pointer.ensures
