-- The weight of a value: how many values are in it, itself one of them, and for each variant, option and result the number
-- of cases of its type.
use Rattle.std.specs.Prelude.{ℕ, ◌+◌, List, [], ◌∷◌, map, Option, Some, None, sum_by, if◌then◌else◌}
use Rattle.std.specs.Str.{bytes_eq}
use Rattle.fact_types.specs.Shapes.{Kind, k_record, k_variant, k_list, k_tuple, k_map, k_option, k_result, k_fixed, Shape, s_plain, s_node, Members, no_members, bare, typed}
use Rattle.fact_values.specs.declared.value.Value.{Value, out-Value}
use Rattle.fact_values.specs.Opened.{fields_in, members_in, elements_in, map_entries_in, case_in}
use Rattle.fact_values.specs.Places.{count_of_members}

-- The weight of what is there.
abbrev pub weight_in : {A : Type 0} → (A → ℕ) → Option A → ℕ
weight_in f None = 0
weight_in f (Some a) = f a

-- The weight of what a value of a kind of type with members ms holds.
abbrev pub weight_within : Kind → Members → (List Value → ℕ) → (List ℕ → List Value → ℕ) → (Value → ℕ) → Value → ℕ
weight_within k_record ms members case element v = weight_in (λ fs. members (map (λ f. f.1) fs)) (fields_in (out-Value v))
weight_within k_tuple ms members case element v = weight_in members (members_in (out-Value v))
weight_within k_list ms members case element v = weight_in (sum_by element) (elements_in (out-Value v))
weight_within (k_fixed n) ms members case element v = weight_in (sum_by element) (elements_in (out-Value v))
weight_within k_map ms members case element v = weight_in (sum_by (λ e. members (e.0 ∷ e.1 ∷ []))) (map_entries_in (out-Value v))
weight_within k_variant ms members case element v = count_of_members ms + weight_in (λ c. case c.name c.payload) (case_in (out-Value v))
weight_within k_option ms members case element v = count_of_members ms + weight_in (λ c. case c.name c.payload) (case_in (out-Value v))
weight_within k_result ms members case element v = count_of_members ms + weight_in (λ c. case c.name c.payload) (case_in (out-Value v))
weight_within _ ms members case element v = 0

unfoldable mutual
  pub weight : Shape → Value → ℕ
  weight (s_plain p) v = 1
  weight (s_node k ms) v = 1 + weight_within k ms (λ vs. weight_members ms vs) (λ x vs. weight_case ms x vs) (λ w. weight_element ms w) v

  -- values of the members that have a type, one by one
  pub weight_members : Members → List Value → ℕ
  weight_members no_members vs = 0
  weight_members (bare n ms) vs = weight_members ms vs
  weight_members (typed n s ms) [] = 0
  weight_members (typed n s ms) (v ∷ vs) = weight s v + weight_members ms vs

  -- the payload of the first case of a name
  pub weight_case : Members → List ℕ → List Value → ℕ
  weight_case no_members x vs = 0
  weight_case (bare n ms) x vs = if bytes_eq n x then 0 else weight_case ms x vs
  weight_case (typed n s ms) x vs = if bytes_eq n x then sum_by (λ v. weight s v) vs else weight_case ms x vs

  -- a value of the first member
  pub weight_element : Members → Value → ℕ
  weight_element no_members v = 0
  weight_element (bare n ms) v = 0
  weight_element (typed n s ms) v = weight s v
