-- The value of a type that stands at an address of a memory, none where nothing of that type stands there.
-- Component Model, canonical ABI, "Loading" (`load`).
use Rattle.std.specs.Prelude.{ℕ, zero, suc, ◌+◌, ◌*◌, List, [], ◌∷◌, Option, Some, None, if◌then◌else◌, option_map}
use Rattle.std.specs.List.{zip}
use Rattle.fact_types.specs.declared.interface.InterfaceType.{InterfaceType}
use Rattle.fact_types.specs.Agrees.{names_of}
use Rattle.fact_types.specs.Shapes.{Kind, k_record, k_variant, k_list, k_tuple, k_map, k_flags, k_enum, k_option, k_result, k_fixed, k_future, k_stream, Shape, s_plain, s_node, Members, no_members, bare, typed, place_of, next_of}
use Rattle.fact_types.specs.Options.{◌>>=◌}
use Rattle.fact_values.specs.declared.side.SideAbi.{SideAbi}
use Rattle.fact_values.specs.declared.value.HandleKind.TheVariants.{Future, Stream}
use Rattle.fact_values.specs.declared.value.Value.{Value}
use Rattle.fact_values.specs.declared.value.Value.TheVariants as value
use Rattle.fact_values.specs.Numbers.{Plain, text, plain_of, value_of_number, flags_of_number, number_in}
use Rattle.fact_values.specs.Places.{width_of, extent_on, case_bytes, payload_place, flags_bytes, element_extent, typed_names, Pair, pair_at, each_at}
use Rattle.fact_values.specs.Texts.{lies_aligned, text_at}

-- The text of a pointer and a length.
abbrev pub text_value : SideAbi → List ℕ → Pair → Option Value
text_value side bytes p = option_map (λ cs. value.Str cs) (text_at side.encoding bytes p.pointer p.count)

-- What stands at a pointer as often as a length says, where it is aligned and all there.
abbrev pub elements_of : {A : Type 0} → SideAbi → List ℕ → Kind → Members → (ℕ → Option A) → Pair → Option (List A)
elements_of side bytes k ms f p =
    if lies_aligned bytes (element_extent side k ms).align p.pointer (p.count * (element_extent side k ms).size)
    then each_at p.count (element_extent side k ms).size f p.pointer else None

abbrev pub list_value : SideAbi → List ℕ → Members → (ℕ → Option Value) → Pair → Option Value
list_value side bytes ms element p = option_map (λ vs. value.List vs) (elements_of side bytes k_list ms element p)

-- The entry of a key and a value.
abbrev pub entry_of : List Value → Option (Value × Value)
entry_of (k ∷ w ∷ []) = Some (k, w)
entry_of _ = None

abbrev pub map_value : SideAbi → List ℕ → Members → (ℕ → Option (List Value)) → Pair → Option Value
map_value side bytes ms members p =
    option_map (λ es. value.Map es) (elements_of side bytes k_map ms (λ a. members a >>= (λ vs. entry_of vs)) p)

abbrev pub load_plain : SideAbi → List ℕ → InterfaceType → Plain → ℕ → Option Value
load_plain side bytes p text a = pair_at side bytes a >>= (λ q. text_value side bytes q)
load_plain side bytes p plain a =
    number_in bytes (extent_on side (s_plain p)).size a >>= (λ n. value_of_number plain n)

-- The case of the number that stands at an address, with the payload behind it.
abbrev pub load_variant : SideAbi → List ℕ → Members → (ℕ → ℕ → Option Value) → ℕ → Option Value
load_variant side bytes ms case a =
    number_in bytes (case_bytes ms) a >>= (λ x. case x (a + payload_place side ms))

-- A value of a kind of type with members ms: members gives the values of ms one behind the other from an address on,
-- case the case of a number with the payload at an address, and element the value of the first of ms.
abbrev pub load_node : SideAbi → List ℕ → Kind → Members → (ℕ → Option (List Value)) → (ℕ → ℕ → Option Value) → (ℕ → Option Value) → ℕ → Option Value
load_node side bytes k_record ms members case element a = option_map (λ vs. value.Record (zip (typed_names ms) vs)) (members a)
load_node side bytes k_tuple ms members case element a = option_map (λ vs. value.Tuple vs) (members a)
load_node side bytes k_list ms members case element a = pair_at side bytes a >>= (λ q. list_value side bytes ms element q)
load_node side bytes k_map ms members case element a = pair_at side bytes a >>= (λ q. map_value side bytes ms members q)
load_node side bytes (k_fixed n) ms members case element a =
    option_map (λ vs. value.List vs) (each_at n (element_extent side (k_fixed n) ms).size element a)
load_node side bytes k_flags ms members case element a =
    option_map (λ n. value.Flags (flags_of_number (names_of ms) n)) (number_in bytes (flags_bytes ms) a)
load_node side bytes k_variant ms members case element a = load_variant side bytes ms case a
load_node side bytes k_enum ms members case element a = load_variant side bytes ms case a
load_node side bytes k_option ms members case element a = load_variant side bytes ms case a
load_node side bytes k_result ms members case element a = load_variant side bytes ms case a
load_node side bytes (k_future table instance) ms members case element a =
    option_map (λ n. value.Handle Future table n) (number_in bytes 4 a)
load_node side bytes (k_stream table instance) ms members case element a =
    option_map (λ n. value.Handle Stream table n) (number_in bytes 4 a)

unfoldable mutual
  pub load : SideAbi → List ℕ → Shape → ℕ → Option Value
  load side bytes (s_plain p) a = load_plain side bytes p (plain_of p) a
  load side bytes (s_node k ms) a =
      load_node side bytes k ms (λ b. load_members side bytes ms b 0) (λ x b. load_case side bytes ms x b) (λ b. load_element side bytes ms b) a

  -- the members that have a type, each at its place in a record at an address, behind so many bytes of it
  pub load_members : SideAbi → List ℕ → Members → ℕ → ℕ → Option (List Value)
  load_members side bytes no_members a n = Some []
  load_members side bytes (bare x ms) a n = load_members side bytes ms a n
  load_members side bytes (typed x s ms) a n =
      load side bytes s (a + place_of (width_of side) s n) >>= (λ v.
      load_members side bytes ms a (next_of (width_of side) s n) >>= (λ vs. Some (v ∷ vs)))

  -- the case of a number, with the payload at an address
  pub load_case : SideAbi → List ℕ → Members → ℕ → ℕ → Option Value
  load_case side bytes no_members x a = None
  load_case side bytes (bare n ms) zero a = Some (value.Case n [])
  load_case side bytes (typed n s ms) zero a = option_map (λ w. value.Case n (w ∷ [])) (load side bytes s a)
  load_case side bytes (bare n ms) (suc x) a = load_case side bytes ms x a
  load_case side bytes (typed n s ms) (suc x) a = load_case side bytes ms x a

  -- the value of the first member
  pub load_element : SideAbi → List ℕ → Members → ℕ → Option Value
  load_element side bytes no_members a = None
  load_element side bytes (bare n ms) a = None
  load_element side bytes (typed n s ms) a = load side bytes s a
