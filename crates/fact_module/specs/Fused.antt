-- The module of a plan, with its bytes and its imports, and all that it promises of the plan's adapters (`Promised`).
use Rattle.std.specs.Prelude.{ℕ, None, Some, slice_get}
use Rattle.fact_wasm.specs.Ranges.{InRange}
use Rattle.fact_binary.specs.Spelling.{Spells}
use Rattle.fact_plan.specs.declared.plan.FusePlan.{FusePlan}
use Rattle.fact_adapter_rules.specs.Adapters.{adapters_of}
use Rattle.fact_plan_types.specs.PlanTypes.{tuple_number}
use Rattle.fact_module.specs.declared.fusion.Fused.{Fused}
use Rattle.fact_emit.specs.declared.tunables.Tunables.{Tunables}
use Rattle.fact_emit.specs.declared.tunables.WasmFeatures.{WasmFeatures}
use Rattle.fact_assembly.specs.Faithful.{Promised}

-- what a module of a plan is made with: the plan's concurrency, debug checks and fuel
abbrev pub tunables_of : FusePlan → Tunables
tunables_of p = record { concurrency_support = p.tunables.concurrency; debug_adapter_modules = p.tunables.debug; fuel = p.tunables.fuel }

-- and the plan's exceptions
abbrev pub features_of : FusePlan → WasmFeatures
features_of p = record { exceptions = p.tunables.exceptions }

-- The number of the tuple of the results of the lift side's function, of the adapter at a place of a plan.
abbrev pub result_tuple : FusePlan → (place : ℕ) → ℕ
result_tuple p place = elim (slice_get p.adapters place) [ None ↦ 0 | Some a ↦ elim (slice_get p.funcs a.lift.ty) [ None ↦ 0 | Some f ↦ tuple_number p f.results ] ]

-- a module in range, its bytes and its imports, with all that it promises for the adapters of the plan
pub record IsFused (f : Fused) (p : FusePlan) : Type 0 where
  pub in_range : InRange f.module
  pub spelled : Spells f.bytes f.module
  pub promised : Promised f.module f.imports (tunables_of p) (features_of p) (adapters_of p) (result_tuple p)
