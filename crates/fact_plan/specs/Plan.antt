-- A plan in JSON: the keys of each object in the order in which they are read, those that have to be there first.
use Rattle.std.specs.Prelude.{ℕ, List, [], ◌∷◌, None, false, Result, Ok, codes}
use Rattle.serde_json.specs.Data.{Data}
use Rattle.fact_wasm.specs.declared.types.FuncType.{FuncType}
use Rattle.fact_types.specs.declared.outside.StringEncoding.TheVariants.{Utf8}
use Rattle.fact_plan.specs.declared.plan.PlanFunc.{PlanFunc}
use Rattle.fact_plan.specs.declared.plan.PlanType.{PlanType}
use Rattle.fact_plan.specs.declared.plan.PlanMemory.{PlanMemory}
use Rattle.fact_plan.specs.declared.plan.PlanSide.{PlanSide}
use Rattle.fact_plan.specs.declared.plan.PlanAdapter.{PlanAdapter}
use Rattle.fact_plan.specs.declared.plan.PlanTunables.{PlanTunables}
use Rattle.fact_plan.specs.declared.plan.FusePlan.{FusePlan}
use Rattle.fact_plan.specs.declared.fault.PlanFault.{PlanFault}
use Rattle.fact_plan.specs.Fault.{at_step, ◌>>=◌}
use Rattle.fact_plan.specs.Parts.{known_keys, required_keys, field, field_or, u8_in, u32_in, bool_in, text_in, list_in, nullable, pair_in}
use Rattle.fact_plan.specs.Words.{ref_in, val_type_in, encoding_in}
use Rattle.fact_plan.specs.Entries.{entry_in, core_def_in}

-- the keys of core types
abbrev pub core_type_keys : List (List ℕ)
core_type_keys = codes "params" ∷ codes "results" ∷ []

-- a core type
unfoldable pub core_type_in : Data → Result FuncType PlanFault
core_type_in d = do
  _ ← known_keys core_type_keys d
  _ ← required_keys core_type_keys d
  params ← field (list_in val_type_in) (codes "params") d
  results ← field (list_in val_type_in) (codes "results") d
  Ok (record { params = params; results = results })

-- the keys of functions
abbrev pub required_func_keys : List (List ℕ)
required_func_keys = codes "params" ∷ codes "results" ∷ []

abbrev pub func_keys : List (List ℕ)
func_keys = codes "params" ∷ codes "results" ∷ codes "async" ∷ []

-- a function
unfoldable pub func_in : Data → Result PlanFunc PlanFault
func_in d = do
  _ ← known_keys func_keys d
  _ ← required_keys required_func_keys d
  params ← field (list_in (pair_in text_in ref_in)) (codes "params") d
  results ← field (list_in ref_in) (codes "results") d
  is_async ← field_or bool_in false (codes "async") d
  Ok (record { params = params; results = results; async_ = is_async })

-- the keys of memories
abbrev pub required_memory_keys : List (List ℕ)
required_memory_keys = codes "def" ∷ []

abbrev pub memory_keys : List (List ℕ)
memory_keys = codes "def" ∷ codes "memory64" ∷ codes "shared" ∷ codes "page_size_log2" ∷ []

-- a memory, by default of addresses of 32 bits, not shared and of pages of 2^16 bytes
unfoldable pub memory_in : Data → Result PlanMemory PlanFault
memory_in d = do
  _ ← known_keys memory_keys d
  _ ← required_keys required_memory_keys d
  def ← field u32_in (codes "def") d
  memory64 ← field_or bool_in false (codes "memory64") d
  shared ← field_or bool_in false (codes "shared") d
  page_size_log2 ← field_or u8_in 16 (codes "page_size_log2") d
  Ok (record { def = def; memory64 = memory64; shared = shared; page_size_log2 = page_size_log2 })

-- the keys of the sides of an adapter
abbrev pub required_side_keys : List (List ℕ)
required_side_keys = codes "ty" ∷ codes "instance" ∷ codes "core_type" ∷ []

abbrev pub side_keys : List (List ℕ)
side_keys =
    codes "ty" ∷ codes "instance" ∷ codes "core_type" ∷ codes "encoding" ∷ codes "async" ∷ codes "memory" ∷ codes "realloc"
    ∷ codes "callback" ∷ codes "post_return" ∷ []

-- a side of an adapter, by default of texts in UTF-8, sync and without any other option
unfoldable pub side_in : Data → Result PlanSide PlanFault
side_in d = do
  _ ← known_keys side_keys d
  _ ← required_keys required_side_keys d
  ty ← field u32_in (codes "ty") d
  instance ← field u32_in (codes "instance") d
  core_type ← field u32_in (codes "core_type") d
  encoding ← field_or encoding_in Utf8 (codes "encoding") d
  is_async ← field_or bool_in false (codes "async") d
  memory ← field_or (nullable memory_in) None (codes "memory") d
  realloc ← field_or (nullable u32_in) None (codes "realloc") d
  callback ← field_or (nullable u32_in) None (codes "callback") d
  post_return ← field_or (nullable u32_in) None (codes "post_return") d
  Ok (record { ty = ty; instance = instance; core_type = core_type; encoding = encoding; async_ = is_async; memory = memory; realloc = realloc; callback = callback; post_return = post_return })

-- the keys of adapters
abbrev pub required_adapter_keys : List (List ℕ)
required_adapter_keys = codes "name" ∷ codes "func" ∷ codes "lift" ∷ codes "lower" ∷ []

abbrev pub adapter_keys : List (List ℕ)
adapter_keys = codes "name" ∷ codes "func" ∷ codes "lift" ∷ codes "lower" ∷ codes "transparent" ∷ []

-- an adapter, by default not marked transparent
unfoldable pub adapter_in : Data → Result PlanAdapter PlanFault
adapter_in d = do
  _ ← known_keys adapter_keys d
  _ ← required_keys required_adapter_keys d
  name ← field text_in (codes "name") d
  func ← field u32_in (codes "func") d
  lift ← field side_in (codes "lift") d
  lower ← field side_in (codes "lower") d
  transparent ← field_or bool_in false (codes "transparent") d
  Ok (record { name = name; func = func; transparent = transparent; lift = lift; lower = lower })

-- all tunables off, and the fuel that no plan names
abbrev pub default_tunables : PlanTunables
default_tunables = record { concurrency = false; exceptions = false; debug = false; fuel = 1000 }

-- the keys of tunables
abbrev pub tunables_keys : List (List ℕ)
tunables_keys = codes "concurrency" ∷ codes "exceptions" ∷ codes "debug" ∷ []

-- tunables, each off by default
unfoldable pub tunables_in : Data → Result PlanTunables PlanFault
tunables_in d = do
  _ ← known_keys tunables_keys d
  concurrency ← field_or bool_in false (codes "concurrency") d
  exceptions ← field_or bool_in false (codes "exceptions") d
  debug ← field_or bool_in false (codes "debug") d
  Ok (record default_tunables { concurrency = concurrency; exceptions = exceptions; debug = debug })

-- the keys of plans
abbrev pub required_plan_keys : List (List ℕ)
required_plan_keys = codes "instances" ∷ codes "types" ∷ codes "tables" ∷ codes "funcs" ∷ codes "core_types" ∷ codes "core_defs" ∷ codes "adapters" ∷ []

abbrev pub plan_keys : List (List ℕ)
plan_keys = codes "instances" ∷ codes "types" ∷ codes "tables" ∷ codes "funcs" ∷ codes "core_types" ∷ codes "core_defs" ∷ codes "adapters" ∷ codes "tunables" ∷ []

-- a plan, when its instances, types, tables and functions are read
unfoldable pub rest_of_plan : ℕ → List PlanType → List (ℕ × ℕ) → List PlanFunc → Data → Result FusePlan PlanFault
rest_of_plan instances types tables funcs d = do
  core_types ← field (list_in core_type_in) (codes "core_types") d
  core_defs ← field (list_in core_def_in) (codes "core_defs") d
  adapters ← field (list_in adapter_in) (codes "adapters") d
  tunables ← field_or tunables_in default_tunables (codes "tunables") d
  Ok (record { instances = instances; types = types; tables = tables; funcs = funcs; core_types = core_types; core_defs = core_defs; adapters = adapters; tunables = tunables })

-- a plan, by default with all tunables off, or a fault whose path begins below it
unfoldable pub plan_in : Data → Result FusePlan PlanFault
plan_in d = do
  _ ← known_keys plan_keys d
  _ ← required_keys required_plan_keys d
  instances ← field u32_in (codes "instances") d
  types ← field (list_in entry_in) (codes "types") d
  tables ← field (list_in (pair_in u32_in u32_in)) (codes "tables") d
  funcs ← field (list_in func_in) (codes "funcs") d
  rest_of_plan instances types tables funcs d

-- the plan that stands in a JSON value, or a fault with its whole path
unfoldable pub plan_of : Data → Result FusePlan PlanFault
plan_of d = at_step (codes "plan") (plan_in d)
