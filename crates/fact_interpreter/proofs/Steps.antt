-- Steps of a run.
use Rattle.std.proofs.Common.{◌≡◌, ℕ, suc, sym, ap, ◌∙◌}
use Rattle.fact_wasm.specs.declared.module.WasmModule.{WasmModule}
use Rattle.fact_machine.specs.Machine.{Config, Goes, next, begin, after, exec}

-- one step less of a run that goes on
pub exec_goes : (M : WasmModule) (m n : ℕ) (c c' : Config) → Goes c' ≡ begin M (next c) → n ≡ suc m → exec M m c' ≡ exec M n c
exec_goes M m n c c' h e = ap (after (exec M m)) h ∙ sym (ap (λ k. exec M k c) e)
