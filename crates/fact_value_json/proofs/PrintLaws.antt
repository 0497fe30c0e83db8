-- What values are printed as, by their forms and by the kinds of their types.
use Rattle.std.proofs.Common.{◌≡◌, ℕ, ℤ, pos, negsuc, List, [], ◌∷◌, map, Some, refl, sym, ap, ◌∙◌, subst, arith}
use Rattle.std.specs.List.{AllByRecursion, zip}
use Rattle.serde_json.specs.Data as json
use Rattle.serde_json.specs.Data.{Data, array, object}
use Rattle.serde_json.specs.View.{items_of}
use Rattle.fact_types.specs.declared.interface.InterfaceType.{InterfaceType}
use Rattle.fact_types.specs.declared.interface.InterfaceType.TheVariants as ty
use Rattle.fact_types.specs.Shapes.{k_record, k_variant, k_list, k_tuple, k_map, k_flags, k_enum, k_option, k_result, k_fixed, k_future, k_stream, Shape, s_plain, s_node, Members, no_members, bare, typed}
use Rattle.fact_types.specs.Tables.{Tables, HasShape}
use Rattle.fact_types.proofs.ShapeLaws.{same_some, none_some}
use Rattle.fact_values.specs.declared.value.HandleKind.{HandleKind}
use Rattle.fact_values.specs.declared.value.HandleKind.TheVariants.{Future, Stream}
use Rattle.fact_values.specs.declared.value.Value.{Value, out-Value, roll-Value}
use Rattle.fact_values.specs.declared.value.Value.TheOpen.{Value-F}
use Rattle.fact_values.specs.declared.value.Value.TheOpen as o
use Rattle.fact_values.specs.declared.value.Value.TheVariants as value
use Rattle.fact_values.specs.IsA.{IsA, AreMembers, HasCase, IsHandle, IsPlainValue, IsRecord, IsTuple, IsListOf, IsFixedList, IsMap, IsCase}
use Rattle.fact_values.specs.Numbers.{plain_of}
use Rattle.fact_values.specs.Opened.{fields_in, members_in, elements_in, map_entries_in, case_in}
use Rattle.fact_values.specs.Places.{typed_names}
use Rattle.fact_abi.specs.Nodes.{AreOf}
use Rattle.fact_value_json.specs.Printing.{where_there, object_of, plain_data, record_data, tuple_data, list_data, entry_data, map_data, flags_data, enum_data, case_data, data_of, data_places, data_case}
use Rattle.fact_value_json.specs.Walks.{IsOf64Bits, HasFewBits}
use Rattle.fact_value_json.proofs.RoundLaws.{made_of}

-- ---- integers are of at most 64 bits

few_bits_of : (y : InterfaceType) (z : ℤ) → IsPlainValue (plain_of y) (o.Int z) → IsOf64Bits z
few_bits_of ty.S8 (pos n) h = omega (arith, h)
few_bits_of ty.S8 (negsuc n) h = omega (arith, h)
few_bits_of ty.S16 (pos n) h = omega (arith, h)
few_bits_of ty.S16 (negsuc n) h = omega (arith, h)
few_bits_of ty.S32 (pos n) h = omega (arith, h)
few_bits_of ty.S32 (negsuc n) h = omega (arith, h)
few_bits_of ty.S64 (pos n) h = omega (arith, h)
few_bits_of ty.S64 (negsuc n) h = omega (arith, h)
few_bits_of ty.U8 (pos n) h = omega (arith, h)
few_bits_of ty.U8 (negsuc n) h = absurd h
few_bits_of ty.U16 (pos n) h = omega (arith, h)
few_bits_of ty.U16 (negsuc n) h = absurd h
few_bits_of ty.U32 (pos n) h = omega (arith, h)
few_bits_of ty.U32 (negsuc n) h = absurd h
few_bits_of ty.U64 (pos n) h = omega (arith, h)
few_bits_of ty.U64 (negsuc n) h = absurd h
few_bits_of _ z h = absurd h

few_bits : (y : InterfaceType) (w : Value-F Value) → IsPlainValue (plain_of y) w → HasFewBits w
few_bits y (o.Int z) h = few_bits_of y z h
few_bits y _ h = tt

handle_bits : (k : HandleKind) (t : ℕ) (w : Value-F Value) → IsHandle k t w → HasFewBits w
handle_bits k t (o.Int z) h = absurd h
handle_bits k t _ h = tt

pub plain_prints : (y : InterfaceType) (s : Shape) (v : Value) (d : Data) → s ≡ s_plain y → (HasFewBits (out-Value v) → d ≡ plain_data (out-Value v)) → IsA s v → d ≡ data_of s v
unfolding IsA data_of
plain_prints y s v d e f h = subst (λ s. d ≡ data_of s v) (sym e) (f (few_bits y (out-Value v) (subst (λ s. IsA s v) e h)))

-- ---- by kinds

pub record_prints : (ms : Members) (v : Value) (d : Data) → (IsRecord ms (λ vs. AreMembers ms vs) (out-Value v) → d ≡ record_data (typed_names ms) (λ vs. data_places ms vs) v) → IsA (s_node k_record ms) v → d ≡ data_of (s_node k_record ms) v
unfolding IsA data_of
record_prints ms v d f h = f h

pub tuple_prints : (ms : Members) (v : Value) (d : Data) → (IsTuple (λ vs. AreMembers ms vs) (out-Value v) → d ≡ tuple_data (λ vs. data_places ms vs) v) → IsA (s_node k_tuple ms) v → d ≡ data_of (s_node k_tuple ms) v
unfolding IsA data_of
tuple_prints ms v d f h = f h

pub map_prints : (ms : Members) (v : Value) (d : Data) → (IsMap (λ vs. AreMembers ms vs) (out-Value v) → d ≡ map_data (λ vs. data_places ms vs) v) → IsA (s_node k_map ms) v → d ≡ data_of (s_node k_map ms) v
unfolding IsA data_of
map_prints ms v d f h = f h

pub variant_prints : (ms : Members) (v : Value) (d : Data) → (IsCase (λ n vs. HasCase ms n vs) (out-Value v) → d ≡ case_data (λ n vs. data_case ms n vs) v) → IsA (s_node k_variant ms) v → d ≡ data_of (s_node k_variant ms) v
unfolding IsA data_of
variant_prints ms v d f h = f h

pub option_prints : (ms : Members) (v : Value) (d : Data) → (IsCase (λ n vs. HasCase ms n vs) (out-Value v) → d ≡ case_data (λ n vs. data_case ms n vs) v) → IsA (s_node k_option ms) v → d ≡ data_of (s_node k_option ms) v
unfolding IsA data_of
option_prints ms v d f h = f h

pub result_prints : (ms : Members) (v : Value) (d : Data) → (IsCase (λ n vs. HasCase ms n vs) (out-Value v) → d ≡ case_data (λ n vs. data_case ms n vs) v) → IsA (s_node k_result ms) v → d ≡ data_of (s_node k_result ms) v
unfolding IsA data_of
result_prints ms v d f h = f h

pub enum_prints : (ms : Members) (v : Value) (d : Data) → d ≡ enum_data v → IsA (s_node k_enum ms) v → d ≡ data_of (s_node k_enum ms) v
unfolding data_of
enum_prints ms v d e h = e

pub flags_prints : (ms : Members) (v : Value) (d : Data) → d ≡ flags_data v → IsA (s_node k_flags ms) v → d ≡ data_of (s_node k_flags ms) v
unfolding data_of
flags_prints ms v d e h = e

pub future_prints : (table instance : ℕ) (ms : Members) (v : Value) (d : Data) → (HasFewBits (out-Value v) → d ≡ plain_data (out-Value v)) → IsA (s_node (k_future table instance) ms) v → d ≡ data_of (s_node (k_future table instance) ms) v
unfolding IsA data_of
future_prints table instance ms v d f h = f (handle_bits Future table (out-Value v) h)

pub stream_prints : (table instance : ℕ) (ms : Members) (v : Value) (d : Data) → (HasFewBits (out-Value v) → d ≡ plain_data (out-Value v)) → IsA (s_node (k_stream table instance) ms) v → d ≡ data_of (s_node (k_stream table instance) ms) v
unfolding IsA data_of
stream_prints table instance ms v d f h = f (handle_bits Stream table (out-Value v) h)

pub list_prints : (t : Tables) (y : InterfaceType) (ms : Members) (v : Value) (d : Data) → AreOf t (Some y ∷ []) ms → ((s : Shape) → HasShape t y s → IsListOf (λ v. IsA s v) (out-Value v) → d ≡ list_data (λ v. data_of s v) v) → IsA (s_node k_list ms) v → d ≡ data_of (s_node k_list ms) v
unfolding IsA data_of
list_prints t y no_members v d a f h = absurd a
list_prints t y (bare x ms) v d a f h = absurd (none_some (Some y) y a.0 refl)
list_prints t y (typed x s ms) v d a f h = f s (subst (λ y. HasShape t y s) (sym (same_some (Some y) y a.0.0 refl a.0.1)) a.0.2) h

fixed_is_list : (n : ℕ) (Is : Value → Type 0) (w : Value-F Value) → IsFixedList n Is w → IsListOf Is w
fixed_is_list n Is (o.List vs) h = h.1
fixed_is_list n Is _ h = absurd h

pub fixed_list_prints : (t : Tables) (n : ℕ) (y : InterfaceType) (ms : Members) (v : Value) (d : Data) → AreOf t (Some y ∷ []) ms → ((s : Shape) → HasShape t y s → IsListOf (λ v. IsA s v) (out-Value v) → d ≡ list_data (λ v. data_of s v) v) → IsA (s_node (k_fixed n) ms) v → d ≡ data_of (s_node (k_fixed n) ms) v
unfolding IsA data_of
fixed_list_prints t n y no_members v d a f h = absurd a
fixed_list_prints t n y (bare x ms) v d a f h = absurd (none_some (Some y) y a.0 refl)
fixed_list_prints t n y (typed x s ms) v d a f h = f s (subst (λ y. HasShape t y s) (sym (same_some (Some y) y a.0.0 refl a.0.1)) a.0.2) (fixed_is_list n (λ v. IsA s v) (out-Value v) h)

-- ---- by forms

pub record_form : (ms : Members) (v : Value) (fs : List (List ℕ × Value)) (es : json.Members) → v ≡ value.Record fs → (map (λ f. f.0) fs ≡ typed_names ms → AreMembers ms (map (λ f. f.1) fs) → es ≡ object_of (zip (typed_names ms) (data_places ms (map (λ f. f.1) fs))) json.no_members)
    → IsRecord ms (λ vs. AreMembers ms vs) (out-Value v) → object es ≡ record_data (typed_names ms) (λ vs. data_places ms vs) v
record_form ms v fs es e f =
    subst (λ w. IsRecord ms (λ vs. AreMembers ms vs) w → object es ≡ where_there (fields_in w) (λ fs. object (object_of (zip (typed_names ms) (data_places ms (map (λ f. f.1) fs))) json.no_members))) (sym (ap out-Value e ∙ value.outs-Record fs)) (λ h. ap (λ m. object m) (f h.0 h.1))

pub tuple_form : (ms : Members) (v : Value) (vs : List Value) (ds : List Data) → v ≡ value.Tuple vs → (AreMembers ms vs → ds ≡ data_places ms vs) → IsTuple (λ vs. AreMembers ms vs) (out-Value v) → array (items_of ds) ≡ tuple_data (λ vs. data_places ms vs) v
tuple_form ms v vs ds e f =
    subst (λ w. IsTuple (λ vs. AreMembers ms vs) w → array (items_of ds) ≡ where_there (members_in w) (λ vs. array (items_of (data_places ms vs)))) (sym (ap out-Value e ∙ value.outs-Tuple vs)) (λ h. ap (λ l. array (items_of l)) (f h))

pub list_form : (s : Shape) (v : Value) (vs : List Value) (ds : List Data) → v ≡ value.List vs → (AllByRecursion (λ v. IsA s v) vs → ds ≡ map (λ v. data_of s v) vs) → IsListOf (λ v. IsA s v) (out-Value v) → array (items_of ds) ≡ list_data (λ v. data_of s v) v
list_form s v vs ds e f =
    subst (λ w. IsListOf (λ v. IsA s v) w → array (items_of ds) ≡ where_there (elements_in w) (λ vs. array (items_of (map (λ v. data_of s v) vs)))) (sym (ap out-Value e ∙ value.outs-List vs)) (λ h. ap (λ l. array (items_of l)) (f h))

pub map_form : (ms : Members) (v : Value) (es : List (Value × Value)) (ds : List Data) → v ≡ value.Map es → (AllByRecursion (λ e. AreMembers ms (e.0 ∷ e.1 ∷ [])) es → ds ≡ map (entry_data (λ vs. data_places ms vs)) es) → IsMap (λ vs. AreMembers ms vs) (out-Value v) → array (items_of ds) ≡ map_data (λ vs. data_places ms vs) v
map_form ms v es ds e f =
    subst (λ w. IsMap (λ vs. AreMembers ms vs) w → array (items_of ds) ≡ where_there (map_entries_in w) (λ es. array (items_of (map (entry_data (λ vs. data_places ms vs)) es)))) (sym (ap out-Value e ∙ value.outs-Map es)) (λ h. ap (λ l. array (items_of l)) (f h))

pub case_form : (ms : Members) (v : Value) (n : List ℕ) (vs : List Value) (d : Data) → v ≡ value.Case n vs → (HasCase ms n vs → d ≡ data_case ms n vs) → IsCase (λ n vs. HasCase ms n vs) (out-Value v) → object (json.member n d json.no_members) ≡ case_data (λ n vs. data_case ms n vs) v
case_form ms v n vs d e f =
    subst (λ w. IsCase (λ n vs. HasCase ms n vs) w → object (json.member n d json.no_members) ≡ where_there (case_in w) (λ c. object (json.member c.name (data_case ms c.name c.payload) json.no_members))) (sym (ap out-Value e ∙ value.outs-Case n vs)) (λ h. ap (λ d. object (json.member n d json.no_members)) (f h))

-- ---- values of other forms

not_record_at : (ms : Members) (v : Value) (w : Value-F Value) → out-Value v ≡ w → ((fs : List (List ℕ × Value)) → v ≡ value.Record fs → ⊥) → IsRecord ms (λ vs. AreMembers ms vs) w → ⊥
not_record_at ms v (o.Record fs) e f h = f fs (sym (made_of v) ∙ ap roll-Value e ∙ value.rolls-Record fs)
not_record_at ms v _ e f h = absurd h

pub not_record : (ms : Members) (v : Value) → ((fs : List (List ℕ × Value)) → v ≡ value.Record fs → ⊥) → IsRecord ms (λ vs. AreMembers ms vs) (out-Value v) → ⊥
not_record ms v f h = not_record_at ms v (out-Value v) refl f h

not_tuple_at : (Are : List Value → Type 0) (v : Value) (w : Value-F Value) → out-Value v ≡ w → ((vs : List Value) → v ≡ value.Tuple vs → ⊥) → IsTuple Are w → ⊥
not_tuple_at Are v (o.Tuple vs) e f h = f vs (sym (made_of v) ∙ ap roll-Value e ∙ value.rolls-Tuple vs)
not_tuple_at Are v _ e f h = absurd h

pub not_tuple : (Are : List Value → Type 0) (v : Value) → ((vs : List Value) → v ≡ value.Tuple vs → ⊥) → IsTuple Are (out-Value v) → ⊥
not_tuple Are v f h = not_tuple_at Are v (out-Value v) refl f h

not_list_at : (Is : Value → Type 0) (v : Value) (w : Value-F Value) → out-Value v ≡ w → ((vs : List Value) → v ≡ value.List vs → ⊥) → IsListOf Is w → ⊥
not_list_at Is v (o.List vs) e f h = f vs (sym (made_of v) ∙ ap roll-Value e ∙ value.rolls-List vs)
not_list_at Is v _ e f h = absurd h

pub not_list : (Is : Value → Type 0) (v : Value) → ((vs : List Value) → v ≡ value.List vs → ⊥) → IsListOf Is (out-Value v) → ⊥
not_list Is v f h = not_list_at Is v (out-Value v) refl f h

not_map_at : (Are : List Value → Type 0) (v : Value) (w : Value-F Value) → out-Value v ≡ w → ((es : List (Value × Value)) → v ≡ value.Map es → ⊥) → IsMap Are w → ⊥
not_map_at Are v (o.Map es) e f h = f es (sym (made_of v) ∙ ap roll-Value e ∙ value.rolls-Map es)
not_map_at Are v _ e f h = absurd h

pub not_map : (Are : List Value → Type 0) (v : Value) → ((es : List (Value × Value)) → v ≡ value.Map es → ⊥) → IsMap Are (out-Value v) → ⊥
not_map Are v f h = not_map_at Are v (out-Value v) refl f h

not_case_at : (Is : List ℕ → List Value → Type 0) (v : Value) (w : Value-F Value) → out-Value v ≡ w → ((n : List ℕ) (vs : List Value) → v ≡ value.Case n vs → ⊥) → IsCase Is w → ⊥
not_case_at Is v (o.Case n vs) e f h = f n vs (sym (made_of v) ∙ ap roll-Value e ∙ value.rolls-Case n vs)
not_case_at Is v _ e f h = absurd h

pub not_case : (Is : List ℕ → List Value → Type 0) (v : Value) → ((n : List ℕ) (vs : List Value) → v ≡ value.Case n vs → ⊥) → IsCase Is (out-Value v) → ⊥
not_case Is v f h = not_case_at Is v (out-Value v) refl f h
