-- Cited by private clauses alone.
-- A module without causes.
use Rattle.std.specs.Prelude.{ℕ, length}
use Rattle.fact_wasm.specs.declared.module.WasmModule.{WasmModule}
use Rattle.fact_check.specs.Accepted.{AreAdapterImports, AreTypedFunctions, IsRepeatedExport}

pub record IsFaultless (m : WasmModule) : Type 0 where
  pub imports : AreAdapterImports m (length m.imports)
  pub functions : AreTypedFunctions m (length m.funcs)
  pub exports : (n : ℕ) → IsRepeatedExport m.exports n → ⊥
