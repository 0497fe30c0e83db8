use Rattle.fact_wasm.specs.contracts.types.FuncTypeEq.TheImpl.Laws.{laws-law}
use Rattle.fact_builder.proofs.IndexLaws.{once}
use Rattle.fact_assembly.proofs.TakeLaws.{made-first}
use Rattle.fact_assembly.proofs.module.Module.new.Goals as goal

pub invariant_of-result : goal.invariant_of-result
invariant_of-result c =
    rw (c.new-4.ensures.builder, c.new-4.ensures.tunables, c.new-4.ensures.features)
    (made-first _ _ _ (record { one_type = λ x y z. c.reveal.ensures.one_index y z x; one_core = once _ laws-law.refl _ c.reveal.ensures.module_types }) _ _ _ _ _ _ c.new-3.ensures.items c.new-4.ensures.nothing c.new-2.ensures, c.new.ensures)
