use Rattle.fact_adapter_rules.proofs.SignatureLaws.{other_params, results_decide}
use Rattle.fact_adapter_rules.proofs.signatures.has_signature.Goals as goal

pub returns-then-eq : goal.returns-then-eq
returns-then-eq c =
    results_decide c.args.ty.now _ _ _ _ _ _ c.as_slice.ensures c.as_slice-then-eq.ensures (rw c.as_slice-2.ensures at c.eq.ensures) c.if-eq.true (rw c.as_slice-then-eq-2.ensures at c.eq-then-eq.ensures)

pub returns-else-eq : goal.returns-else-eq
returns-else-eq c = other_params c.args.ty.now _ _ _ _ c.as_slice.ensures (rw c.as_slice-2.ensures at c.eq.ensures) c.if-eq.false
