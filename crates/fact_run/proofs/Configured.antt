-- Plans with the tunables that the words ask for.
use Rattle.std.proofs.Common.{◌≡◌, Result, Ok, Err, IfOk, String, Global, string_bytes}
use Rattle.fact_wasm.specs.declared.module.WasmModule.{WasmModule}
use Rattle.fact_wasm.specs.Ranges.{InRange}
use Rattle.fact_binary.specs.Spelling.{Spells}
use Rattle.fact_plan.specs.declared.plan.FusePlan.{FusePlan}
use Rattle.fact_command.specs.declared.command.CommandOptions.{CommandOptions}
use Rattle.fact_module.specs.declared.fusion.Fused.{Fused}
use Rattle.fact_module.specs.Fused.{IsFused}
use Rattle.fact_run.specs.Run.{Prints, configured, page}

-- what prints the module of a plan
pub printed-page : {E : Type 0} (o : CommandOptions) (p : FusePlan) (f : Fused) (r : Result (String Global) E) → IsFused f (configured o p) → ((m : WasmModule) → InRange m → Spells f.bytes m → m ≡ f.«module»)
    → IfOk r (λ text. string_bytes text ≡ page f.bytes f.imports o.imports) → IfOk r (λ text. Prints o p (string_bytes text))
printed-page o p f (Ok text) made only is = record { fused = f; is_fused = made; is_only = only; is_page = is }
printed-page o p f (Err e) made only is = tt
