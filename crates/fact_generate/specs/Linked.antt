-- The adapters of a generated plan, with all that they name looked up.
use Rattle.std.specs.Prelude.{ℕ, zero, suc, Bool, true, false, List, [], ◌∷◌, Option, Some, None, codes, if◌then◌else◌, replicate}
use Rattle.fact_types.specs.declared.interface.InterfaceType.TheVariants as type
use Rattle.fact_types.specs.declared.outside.CoreDef.{CoreDef}
use Rattle.fact_types.specs.declared.outside.MemoryOption.{MemoryOption}
use Rattle.fact_types.specs.Adapters.{LinkedAdapter, Side}
use Rattle.fact_types.specs.Shapes.{k_list, k_option, k_record, k_result, k_tuple, k_variant, no_members, bare, typed, Shape, s_plain, s_node, none_name, some_name, ok_name, error_name}
use Rattle.fact_generate.specs.declared.form.AdapterForm.{AdapterForm}
use Rattle.fact_generate.specs.declared.form.AdapterForm.TheVariants as form
use Rattle.fact_generate.specs.Forms.{adapter_form, needs_memory}
use Rattle.fact_generate.specs.Generated.{type_of_signature, encoding_for, export_of, instance_of, adapter_name, signature_for}

-- ---- shapes

abbrev pub list_shape : Shape → Shape
list_shape s = s_node k_list (typed [] s no_members)

-- a tuple of a type and a list of it, so deep
abbrev pub nest_shape : (depth : ℕ) → Shape
nest_shape zero = s_plain type.U32
nest_shape (suc d) = s_node k_tuple (typed (0 ∷ []) (nest_shape d) (typed (1 ∷ []) (list_shape (nest_shape d)) no_members))

abbrev pub record_shape : (lifts : Bool) → Shape
record_shape false = s_node k_record (typed (codes "a") (s_plain type.U8) (typed (codes "b") (s_plain type.U32) no_members))
record_shape true = s_node k_record (typed (codes "b") (s_plain type.U32) (typed (codes "a") (s_plain type.U8) no_members))

abbrev pub variant_shape : (lifts : Bool) → Shape
variant_shape false = s_node k_variant (typed (codes "p") (s_plain type.Float32) (typed (codes "q") (s_plain type.Float64) (bare (codes "r") no_members)))
variant_shape true = s_node k_variant (bare (codes "r") (typed (codes "q") (s_plain type.Float64) (typed (codes "p") (s_plain type.Float32) no_members)))

abbrev pub option_shape : Shape
option_shape = s_node k_option (bare none_name (typed some_name (s_plain type.U64) no_members))

abbrev pub result_shape : Shape
result_shape = s_node k_result (typed ok_name (s_plain type.String) (typed error_name option_shape no_members))

-- the shapes of the parameters and of the results of a side
abbrev pub params_shaped : (lifts : Bool) → AdapterForm → List Shape
params_shaped lifts form.Number = s_plain type.U32 ∷ []
params_shaped lifts form.Chars = s_plain type.Char ∷ s_plain type.S8 ∷ []
params_shaped lifts form.Record = record_shape lifts ∷ []
params_shaped lifts form.Text = s_plain type.String ∷ []
params_shaped lifts form.List = list_shape (s_plain type.U16) ∷ []
params_shaped lifts form.Variant = variant_shape lifts ∷ []
params_shaped lifts (form.Nest depth) = nest_shape depth ∷ []
params_shaped lifts form.Many = replicate 17 (s_plain type.U32)

abbrev pub results_shaped : AdapterForm → List Shape
results_shaped form.Chars = s_plain type.Bool ∷ []
results_shaped form.Text = s_plain type.String ∷ []
results_shaped form.List = list_shape (s_plain type.U16) ∷ []
results_shaped form.Many = result_shape ∷ []
results_shaped _ = []

-- ---- sides and adapters

abbrev pub linked_memory : (lifts : Bool) → AdapterForm → Option MemoryOption
linked_memory lifts form = if needs_memory form then Some (record { def = export_of (instance_of lifts) (codes "memory"); memory64 = lifts; shared = false; page_size_log2 = 16 }) else None

abbrev pub linked_realloc : (lifts : Bool) → AdapterForm → Option CoreDef
linked_realloc lifts form = if needs_memory form then Some (export_of (instance_of lifts) (codes "realloc")) else None

abbrev pub linked_side : (lifts : Bool) → AdapterForm → Side
linked_side lifts form = record {
  instance = instance_of lifts;
  params = params_shaped lifts form;
  results = results_shaped form;
  async_type = false;
  core_type = type_of_signature (signature_for lifts (needs_memory form) (params_shaped lifts form) (results_shaped form));
  encoding = encoding_for lifts;
  async_side = false;
  memory = linked_memory lifts form;
  realloc = linked_realloc lifts form;
  callback = None;
  post_return = None;
}

-- adapter k
abbrev pub linked : ℕ → LinkedAdapter
linked k = record { name = adapter_name k; callee = export_of 1 (adapter_name k); transparent = false; lift = linked_side true (adapter_form k); lower = linked_side false (adapter_form k) }
