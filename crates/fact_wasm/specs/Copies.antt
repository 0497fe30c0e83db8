-- Cited by private clauses alone.
-- Which instructions own no lists.
use Rattle.std.specs.Prelude.{Bool, true, false}
use Rattle.fact_wasm.specs.declared.instr.Instr.TheOpen as o
use Rattle.fact_wasm.specs.declared.instr.Instr.TheOpen.{Instr-F}

abbrev pub is_flat : {A : Type 0} → Instr-F A → Bool
is_flat (o.Block t body) = false
is_flat (o.Loop t body) = false
is_flat (o.If t body other) = false
is_flat (o.BrTable ls l) = false
is_flat (o.TryTable t ls body) = false
is_flat _ = true
