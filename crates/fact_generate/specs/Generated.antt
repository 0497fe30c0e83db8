-- The plan that is generated for a number of adapters: between two instances, adapter after adapter, in eight forms by turns.
use Rattle.std.specs.Prelude.{ℕ, zero, suc, ◌+◌, ◌*◌, Bool, true, false, List, [], ◌∷◌, ◌++◌, length, Option, Some, None, codes, if◌then◌else◌}
use Rattle.std.specs.Fmt.{decimal}
use Rattle.fact_wasm.specs.declared.types.FuncType.{FuncType}
use Rattle.fact_types.specs.declared.outside.CoreDef.{CoreDef}
use Rattle.fact_types.specs.declared.outside.CoreDef.TheVariants as def
use Rattle.fact_types.specs.declared.outside.StringEncoding.{StringEncoding}
use Rattle.fact_types.specs.declared.outside.StringEncoding.TheVariants.{Utf8, CompactUtf16}
use Rattle.fact_types.specs.declared.signature.Signature.{Signature}
use Rattle.fact_types.specs.Shapes.{Shape}
use Rattle.fact_types.specs.Signatures.{sync_lift, sync_lower}
use Rattle.fact_plan.specs.declared.plan.PlanFunc.{PlanFunc}
use Rattle.fact_plan.specs.declared.plan.PlanMemory.{PlanMemory}
use Rattle.fact_plan.specs.declared.plan.PlanSide.{PlanSide}
use Rattle.fact_plan.specs.declared.plan.PlanAdapter.{PlanAdapter}
use Rattle.fact_plan.specs.declared.plan.FusePlan.{FusePlan}
use Rattle.fact_plan.specs.Plan.{default_tunables}
use Rattle.fact_plan_types.specs.TypeRules.{param_shapes, result_shapes}
use Rattle.fact_generate.specs.declared.form.AdapterForm.{AdapterForm}
use Rattle.fact_generate.specs.Forms.{adapter_form, needs_memory, params_for, results_for, types_for}

-- The most adapters.
abbrev pub most_generated : ℕ
most_generated = 4096

-- the instance of a side, which is also the place of its function type behind the lower one's
abbrev pub instance_of : (lifts : Bool) → ℕ
instance_of false = 0
instance_of true = 1

-- an export of an instance
abbrev pub export_of : (instance : ℕ) → List ℕ → CoreDef
export_of instance name = def.Export (record { table = _; number = instance }) name

-- ---- functions and their core types

-- the function of a side of a form, over types the first of which is at a place
abbrev pub func_for : AdapterForm → (place : ℕ) → PlanFunc
func_for form place = record { params = params_for form place; results = results_for form place; async_ = false }

-- the canonical signature of a side, over the shapes of its function; the side that lifts has addresses of 64 bits
abbrev pub signature_for : (lifts memory : Bool) → (params results : List Shape) → Signature
signature_for false memory params results = sync_lower false params results
signature_for true memory params results = sync_lift memory params results

abbrev pub type_of_signature : Signature → FuncType
type_of_signature s = record { params = s.params; results = s.results }

-- the core type of a side, over the types of the plan
abbrev pub core_type_for : FusePlan → (lifts : Bool) → AdapterForm → PlanFunc → FuncType
core_type_for p lifts form f = type_of_signature (signature_for lifts (needs_memory form) (param_shapes p f) (result_shapes p f))

-- A plan with the types, the function and the core type of one more side, each behind what is there.
abbrev pub with_types : (lifts : Bool) → AdapterForm → FusePlan → FusePlan
with_types lifts form p = record p {
  types = p.types ++ types_for lifts form (length p.types);
  funcs = p.funcs ++ func_for form (length p.types) ∷ [];
}

abbrev pub with_function : (lifts : Bool) → AdapterForm → FusePlan → FusePlan
with_function lifts form p = record (with_types lifts form p) {
  core_types = p.core_types ++ core_type_for (with_types lifts form p) lifts form (func_for form (length p.types)) ∷ [];
}

-- ---- adapters

-- `f` and the number of the adapter in decimal
abbrev pub adapter_name : ℕ → List ℕ
adapter_name k = codes "f" ++ decimal k

abbrev pub encoding_for : (lifts : Bool) → StringEncoding
encoding_for false = Utf8
encoding_for true = CompactUtf16

-- the memory of a side, and its realloc behind it
abbrev pub memory_at : (lifts : Bool) → ℕ
memory_at lifts = 2 * instance_of lifts

abbrev pub memory_for : (lifts : Bool) → AdapterForm → Option PlanMemory
memory_for lifts form = if needs_memory form then Some (record { def = memory_at lifts; memory64 = lifts; shared = false; page_size_log2 = 16 }) else None

abbrev pub realloc_for : (lifts : Bool) → AdapterForm → Option ℕ
realloc_for lifts form = if needs_memory form then Some (memory_at lifts + 1) else None

-- a side of adapter k
abbrev pub side_for : (lifts : Bool) → ℕ → PlanSide
side_for lifts k = record {
  ty = 2 * k + instance_of lifts;
  instance = instance_of lifts;
  core_type = 2 * k + instance_of lifts;
  encoding = encoding_for lifts;
  async_ = false;
  memory = memory_for lifts (adapter_form k);
  realloc = realloc_for lifts (adapter_form k);
  callback = None;
  post_return = None;
}

-- The first core definitions are the memories and the reallocs; behind them each adapter has its callee.
abbrev pub shared_defs : List CoreDef
shared_defs = export_of 0 (codes "memory") ∷ export_of 0 (codes "realloc") ∷ export_of 1 (codes "memory") ∷ export_of 1 (codes "realloc") ∷ []

abbrev pub adapter_for : ℕ → PlanAdapter
adapter_for k = record { name = adapter_name k; func = 4 + k; transparent = false; lift = side_for true k; lower = side_for false k }

-- ---- the plan

abbrev pub without_adapters : FusePlan
without_adapters = record {
  instances = 2;
  types = [];
  tables = [];
  funcs = [];
  core_types = [];
  core_defs = shared_defs;
  adapters = [];
  tunables = default_tunables;
}

-- A plan with adapter k behind what is there: its lower side's types, function and core type, then those of its lift side.
abbrev pub with_adapter : ℕ → FusePlan → FusePlan
with_adapter k p = record (with_function true (adapter_form k) (with_function false (adapter_form k) p)) {
  core_defs = p.core_defs ++ export_of 1 (adapter_name k) ∷ [];
  adapters = p.adapters ++ adapter_for k ∷ [];
}

-- The plan of so many adapters.
unfoldable pub generated : ℕ → FusePlan
generated zero = without_adapters
generated (suc k) = with_adapter k (generated k)
