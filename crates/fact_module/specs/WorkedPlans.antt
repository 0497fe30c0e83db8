-- The plans of worked modules (`OneNumberArrives` and `OneTextArrives` of `fact_function_laws`), and that the promise is of the runs that are
-- worked there.
use Rattle.std.specs.Prelude.{◌≡◌, ℕ, false, List, [], ◌∷◌, Option, None, Some, codes}
use Rattle.fact_wasm.specs.declared.module.WasmModule.{WasmModule}
use Rattle.fact_source.specs.declared.defined.PrimitiveValType.TheVariants as word
use Rattle.fact_types.specs.declared.import.Import.{Import}
use Rattle.fact_types.specs.declared.outside.StringEncoding.TheVariants as string
use Rattle.fact_types.specs.Adapters.{LinkedAdapter}
use Rattle.fact_plan.specs.Plan.{default_tunables}
use Rattle.fact_plan.specs.declared.plan.FusePlan.{FusePlan}
use Rattle.fact_plan.specs.declared.plan.PlanMemory.{PlanMemory}
use Rattle.fact_plan.specs.declared.plan.PlanRef.TheVariants.{Entry, Word}
use Rattle.fact_plan.specs.declared.plan.PlanSide.{PlanSide}
use Rattle.fact_plan.specs.declared.plan.PlanType.TheVariants as entry
use Rattle.fact_adapter_rules.specs.Adapters.{adapters_of}
use Rattle.fact_function_laws.specs.Runs.{Behaves}
use Rattle.fact_function_laws.specs.Worked.{takes_i32, u32_adapter, u32_imports, u32_module}
use Rattle.fact_function_laws.specs.WorkedTexts.{pointer_and_length, texts_adapter, texts_callee, texts_export, texts_imports, texts_module, texts_realloc}
use Rattle.fact_module.specs.declared.fusion.Fused.{Fused}
use Rattle.fact_assembly.specs.Faithful.{adapter_tunables}
use Rattle.fact_module.specs.Fused.{IsFused, features_of, tunables_of}

-- The plan has this one adapter, and where the module that is fused of it is this one, with these imports, its first function behaves.
pub record IsWorkedPlan (p : FusePlan) (m : WasmModule) (is : List Import) (a : LinkedAdapter) : Type 0 where
  pub adapters : adapters_of p ≡ a ∷ []
  pub behaves : (f : Fused) → IsFused f p → f.module ≡ m → f.imports ≡ is → Behaves m is (adapter_tunables (tunables_of p) (features_of p)) a 0

abbrev pub plan_side : (instance : ℕ) → (memory : Option PlanMemory) → (realloc : Option ℕ) → PlanSide
plan_side n memory realloc = record { ty = 0; instance = n; core_type = 0; encoding = string.Utf8; async_ = false; memory = memory; realloc = realloc; callback = None; post_return = None }

abbrev pub u32_plan : FusePlan
u32_plan = record {
  instances = 2;
  types = [];
  tables = [];
  funcs = record { params = (codes "x", Word word.U32) ∷ []; results = []; async_ = false } ∷ [];
  core_types = takes_i32 ∷ [];
  core_defs = u32_adapter.callee ∷ [];
  adapters = record { name = codes "one-u32"; func = 0; transparent = false; lift = plan_side 1 None None; lower = plan_side 0 None None } ∷ [];
  tunables = default_tunables;
}

-- a memory whose pages have one byte
abbrev pub byte_pages : (def : ℕ) → PlanMemory
byte_pages n = record { def = n; memory64 = false; shared = false; page_size_log2 = 0 }

abbrev pub texts_plan : FusePlan
texts_plan = record {
  instances = 2;
  types = entry.List (Word word.String) ∷ [];
  tables = [];
  funcs = record { params = (codes "x", Entry 0) ∷ []; results = []; async_ = false } ∷ [];
  core_types = pointer_and_length ∷ [];
  core_defs = texts_callee ∷ texts_export 1 (codes "memory") ∷ texts_realloc ∷ texts_export 0 (codes "memory") ∷ [];
  adapters = record { name = codes "texts"; func = 0; transparent = false; lift = plan_side 1 (Some (byte_pages 1)) (Some 2); lower = plan_side 0 (Some (byte_pages 3)) None } ∷ [];
  tunables = default_tunables;
}

abbrev pub OneNumberIsPromised : Type 0
OneNumberIsPromised = IsWorkedPlan u32_plan u32_module u32_imports u32_adapter

abbrev pub OneTextIsPromised : Type 0
OneTextIsPromised = IsWorkedPlan texts_plan texts_module texts_imports texts_adapter
