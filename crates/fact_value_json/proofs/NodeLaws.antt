-- What types with members are read as, by their kinds.
use Rattle.std.proofs.Common.{ℕ, List, [], ◌∷◌, length, Some, Result, Ok, refl, sym, subst}
use Rattle.serde_json.specs.Data.{Data}
use Rattle.fact_types.specs.declared.interface.InterfaceType.{InterfaceType}
use Rattle.fact_types.specs.Agrees.{names_of}
use Rattle.fact_types.specs.Shapes.{k_record, k_variant, k_list, k_tuple, k_map, k_flags, k_enum, k_option, k_result, k_fixed, k_future, k_stream, Shape, s_node, Members, no_members, bare, typed}
use Rattle.fact_types.specs.Tables.{Tables, HasShape}
use Rattle.fact_types.proofs.ShapeLaws.{same_some, none_some}
use Rattle.fact_plan.specs.declared.fault.PlanFault.{PlanFault}
use Rattle.fact_plan.specs.Fault.{Gives, ◌>>=◌}
use Rattle.fact_plan.specs.Parts.{list_in, items_from}
use Rattle.fact_values.specs.declared.value.HandleKind.TheVariants.{Future, Stream}
use Rattle.fact_values.specs.declared.value.Value.{Value}
use Rattle.fact_values.specs.declared.value.Value.TheVariants as value
use Rattle.fact_abi.specs.Nodes.{AreOf}
use Rattle.fact_values.specs.Places.{typed_names}
use Rattle.fact_value_json.specs.Reading.{read, read_fields, read_places, read_case, fields_in, places_in, entry_in, only_member, enum_in, flags_in, handle_in, counted_items}

pub record_reads : (ms : Members) (d : Data) (r : Result Value PlanFault) → Gives (fields_in (typed_names ms) (λ e. read_fields ms e) d) r → Gives (read (s_node k_record ms) d) r
unfolding read
record_reads ms d r g = g

pub tuple_reads : (ms : Members) (d : Data) (r : Result Value PlanFault) → Gives (places_in (length (typed_names ms)) (λ i ds. read_places ms i ds) d >>= (λ vs. Ok (value.Tuple vs))) r → Gives (read (s_node k_tuple ms) d) r
unfolding read
tuple_reads ms d r g = g

pub variant_reads : (ms : Members) (d : Data) (r : Result Value PlanFault) → Gives (only_member d >>= (λ m. read_case ms m.0 m.1)) r → Gives (read (s_node k_variant ms) d) r
unfolding read
variant_reads ms d r g = g

pub option_reads : (ms : Members) (d : Data) (r : Result Value PlanFault) → Gives (only_member d >>= (λ m. read_case ms m.0 m.1)) r → Gives (read (s_node k_option ms) d) r
unfolding read
option_reads ms d r g = g

pub result_reads : (ms : Members) (d : Data) (r : Result Value PlanFault) → Gives (only_member d >>= (λ m. read_case ms m.0 m.1)) r → Gives (read (s_node k_result ms) d) r
unfolding read
result_reads ms d r g = g

pub enum_reads : (ms : Members) (d : Data) (r : Result Value PlanFault) → Gives (enum_in (names_of ms) d) r → Gives (read (s_node k_enum ms) d) r
unfolding read
enum_reads ms d r g = g

pub flags_reads : (ms : Members) (d : Data) (r : Result Value PlanFault) → Gives (flags_in (names_of ms) d) r → Gives (read (s_node k_flags ms) d) r
unfolding read
flags_reads ms d r g = g

pub map_reads : (ms : Members) (d : Data) (r : Result Value PlanFault) → Gives (list_in (entry_in (length (typed_names ms)) (λ i ds. read_places ms i ds)) d >>= (λ es. Ok (value.Map es))) r → Gives (read (s_node k_map ms) d) r
unfolding read
map_reads ms d r g = g

pub future_reads : (table instance : ℕ) (ms : Members) (d : Data) (r : Result Value PlanFault) → Gives (handle_in Future table d) r → Gives (read (s_node (k_future table instance) ms) d) r
unfolding read
future_reads table instance ms d r g = g

pub stream_reads : (table instance : ℕ) (ms : Members) (d : Data) (r : Result Value PlanFault) → Gives (handle_in Stream table d) r → Gives (read (s_node (k_stream table instance) ms) d) r
unfolding read
stream_reads table instance ms d r g = g

pub list_reads : (t : Tables) (y : InterfaceType) (ms : Members) (d : Data) (r : Result Value PlanFault) → AreOf t (Some y ∷ []) ms → ((s : Shape) → HasShape t y s → Gives (list_in (λ d. read s d) d >>= (λ vs. Ok (value.List vs))) r) → Gives (read (s_node k_list ms) d) r
unfolding read
list_reads t y no_members d r a g = absurd a
list_reads t y (bare x ms) d r a g = absurd (none_some (Some y) y a.0 refl)
list_reads t y (typed x s ms) d r a g = g s (subst (λ y. HasShape t y s) (sym (same_some (Some y) y a.0.0 refl a.0.1)) a.0.2)

pub fixed_list_reads : (t : Tables) (n : ℕ) (y : InterfaceType) (ms : Members) (d : Data) (r : Result Value PlanFault) → AreOf t (Some y ∷ []) ms → ((s : Shape) → HasShape t y s → Gives (counted_items n d >>= (λ ds. items_from (λ d. read s d) 0 ds >>= (λ vs. Ok (value.List vs)))) r) → Gives (read (s_node (k_fixed n) ms) d) r
unfolding read
fixed_list_reads t n y no_members d r a g = absurd a
fixed_list_reads t n y (bare x ms) d r a g = absurd (none_some (Some y) y a.0 refl)
fixed_list_reads t n y (typed x s ms) d r a g = g s (subst (λ y. HasShape t y s) (sym (same_some (Some y) y a.0.0 refl a.0.1)) a.0.2)
