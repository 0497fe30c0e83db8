-- The adapters of a plan, with all that they name looked up.
use Rattle.std.specs.Prelude.{ℕ, List, Option, Some, None, slice_get, take}
use Rattle.std.specs.List.{filter_map}
use Rattle.fact_types.specs.declared.outside.CoreDef.{CoreDef}
use Rattle.fact_types.specs.Adapters.{LinkedAdapter, Side}
use Rattle.fact_types.specs.Options.{◌>>=◌}
use Rattle.fact_plan.specs.declared.plan.PlanMemory.{PlanMemory}
use Rattle.fact_plan.specs.declared.plan.PlanSide.{PlanSide}
use Rattle.fact_plan.specs.declared.plan.PlanAdapter.{PlanAdapter}
use Rattle.fact_plan.specs.declared.plan.FusePlan.{FusePlan}
use Rattle.fact_plan_types.specs.TypeRules.{param_shapes, result_shapes}
use Rattle.fact_types.specs.declared.outside.MemoryOption.{MemoryOption}

-- the definition that an option names, where it names one: none where the plan lacks it
abbrev pub named_def : FusePlan → Option ℕ → Option (Option CoreDef)
named_def p None = Some None
named_def p (Some k) = slice_get p.core_defs k >>= (λ d. Some (Some d))

abbrev pub named_memory : FusePlan → Option PlanMemory → Option (Option MemoryOption)
named_memory p None = Some None
named_memory p (Some m) = slice_get p.core_defs m.def >>= (λ d. Some (Some (record { def = d; memory64 = m.memory64; shared = m.shared; page_size_log2 = m.page_size_log2 })))

abbrev pub side_of : FusePlan → PlanSide → Option Side
side_of p s = do
  func ← slice_get p.funcs s.ty
  core_type ← slice_get p.core_types s.core_type
  memory ← named_memory p s.memory
  realloc ← named_def p s.realloc
  callback ← named_def p s.callback
  post_return ← named_def p s.post_return
  Some (record {
    instance = s.instance;
    params = param_shapes p func;
    results = result_shapes p func;
    async_type = func.async_;
    core_type = core_type;
    encoding = s.encoding;
    async_side = s.async_;
    memory = memory;
    realloc = realloc;
    callback = callback;
    post_return = post_return;
  })

abbrev pub adapter_of : FusePlan → PlanAdapter → Option LinkedAdapter
adapter_of p a = do
  callee ← slice_get p.core_defs a.func
  lift ← side_of p a.lift
  lower ← side_of p a.lower
  Some (record { name = a.name; callee = callee; transparent = a.transparent; lift = lift; lower = lower })

-- The adapters of a plan, in order. A plan in which one of them names what is not there is refused, and has no module.
abbrev pub adapters_of : FusePlan → List LinkedAdapter
adapters_of p = filter_map (adapter_of p) p.adapters

-- The adapters before a place.
abbrev pub adapters_before : FusePlan → ℕ → List LinkedAdapter
adapters_before p k = filter_map (adapter_of p) (take k p.adapters)
