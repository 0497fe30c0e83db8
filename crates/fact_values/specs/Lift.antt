-- The value of a type that core values stand for, none where they stand for none.
-- Component Model, canonical ABI, "Flat Lifting" (`lift_flat`).
use Rattle.std.specs.Prelude.{ℕ, zero, suc, ◌%◌, ◌^◌, List, [], ◌∷◌, length, drop, replicate, Option, Some, None, Bool, true, false, if◌then◌else◌, ◌&&◌, option_map}
use Rattle.std.specs.List.{zip}
use Rattle.fact_machine.specs.declared.types.CoreValue.{CoreValue}
use Rattle.fact_machine.specs.declared.types.CoreValue.TheVariants as core
use Rattle.fact_types.specs.declared.flats.FlatType.{FlatType}
use Rattle.fact_types.specs.declared.flats.FlatType.TheVariants.{I32, I64, F32, F64}
use Rattle.fact_types.specs.declared.interface.InterfaceType.{InterfaceType}
use Rattle.fact_types.specs.declared.extents.MemoryWidth.{MemoryWidth}
use Rattle.fact_types.specs.Agrees.{names_of}
use Rattle.fact_types.specs.Flat.{join}
use Rattle.fact_types.specs.FlatShapes.{pointer, flat, flat_plain, flat_types}
use Rattle.fact_types.specs.Layout.{flags_size, flags_flat}
use Rattle.fact_types.specs.Shapes.{Kind, k_record, k_variant, k_list, k_tuple, k_map, k_flags, k_enum, k_option, k_result, k_fixed, k_future, k_stream, Shape, s_plain, s_node, Members, no_members, bare, typed}
use Rattle.fact_types.specs.Options.{◌>>=◌}
use Rattle.fact_values.specs.declared.side.SideAbi.{SideAbi}
use Rattle.fact_values.specs.declared.value.HandleKind.TheVariants.{Future, Stream}
use Rattle.fact_values.specs.declared.value.Value.{Value}
use Rattle.fact_values.specs.declared.value.Value.TheVariants as value
use Rattle.fact_values.specs.Load.{text_value, list_value, map_value, load_members, load_element}
use Rattle.fact_values.specs.Numbers.{Plain, text, plain_of, value_of_number, flags_of_number, number_of_words}
use Rattle.fact_values.specs.Places.{width_of, count_of_members, typed_names, Pair}

-- ---- core values in the place of flat types

abbrev pub is_same : FlatType → FlatType → Bool
is_same I32 I32 = true
is_same I64 I64 = true
is_same F32 F32 = true
is_same F64 F64 = true
is_same a b = false

-- A core value can stand for a flat type where its own type is the join of the two: it may be the wider one of another
-- case of a variant. A reference to a function stands for nothing.
abbrev pub can_stand : FlatType → CoreValue → Bool
can_stand f (core.I32 n) = is_same (join f I32) I32
can_stand f (core.I64 n) = is_same (join f I64) I64
can_stand f (core.F32 n) = is_same (join f F32) F32
can_stand f (core.F64 n) = is_same (join f F64) F64
can_stand f (core.Func g) = false

-- Core values stand for flat types, one by one.
abbrev pub can_stand_all : List FlatType → List CoreValue → Bool
can_stand_all [] [] = true
can_stand_all [] (c ∷ cs) = false
can_stand_all (f ∷ fs) [] = false
can_stand_all (f ∷ fs) (c ∷ cs) = can_stand f c && can_stand_all fs cs

-- The bits of a core value.
abbrev pub bits_of : CoreValue → ℕ
bits_of (core.I32 n) = n
bits_of (core.I64 n) = n
bits_of (core.F32 n) = n
bits_of (core.F64 n) = n
bits_of (core.Func g) = 0

-- A core value in the place of a flat type: one of 32 bits is the low half (`wrap_i64_to_i32`).
abbrev pub number_as : FlatType → CoreValue → ℕ
number_as I32 c = bits_of c % 2 ^ 32
number_as F32 c = bits_of c % 2 ^ 32
number_as I64 c = bits_of c
number_as F64 c = bits_of c

-- The numbers of the leading core values, in the places of flat types.
abbrev pub numbers_as : List FlatType → List CoreValue → Option (List ℕ)
numbers_as [] cs = Some []
numbers_as (f ∷ fs) [] = None
numbers_as (f ∷ fs) (c ∷ cs) = option_map (λ ns. number_as f c ∷ ns) (numbers_as fs cs)

-- ---- lifting: a value is read from the leading core values, and the others are left

abbrev pub one_number : FlatType → List CoreValue → Option ℕ
one_number f [] = None
one_number f (c ∷ cs) = Some (number_as f c)

abbrev pub leading_pair : SideAbi → List CoreValue → Option Pair
leading_pair side (p ∷ n ∷ cs) = Some (record { pointer = number_as (pointer (width_of side)) p; count = number_as (pointer (width_of side)) n })
leading_pair side _ = None

abbrev pub lift_number : Plain → List FlatType → List CoreValue → Option Value
lift_number plain (f ∷ []) cs = one_number f cs >>= (λ n. value_of_number plain n)
lift_number plain _ cs = None

abbrev pub lift_plain : SideAbi → List ℕ → InterfaceType → Plain → List CoreValue → Option Value
lift_plain side bytes p text cs = leading_pair side cs >>= (λ q. text_value side bytes q)
lift_plain side bytes p plain cs = lift_number plain (flat_plain (width_of side) p) cs

abbrev pub lift_variant : (ℕ → List CoreValue → Option Value) → List CoreValue → Option Value
lift_variant case [] = None
lift_variant case (c ∷ cs) = case (number_as I32 c) cs

-- So many values, each so many core values behind the one before.
abbrev pub each_of : ℕ → ℕ → (List CoreValue → Option Value) → List CoreValue → Option (List Value)
each_of zero n f cs = Some []
each_of (suc count) n f cs =
    f cs >>= (λ v. each_of count n f (drop n cs) >>= (λ vs. Some (v ∷ vs)))

-- How the members of a kind of type are lifted, and loaded where they stand behind a pointer.
pub record Lifting : Type 0 where
  pub members : List CoreValue → Option (List Value)
  pub case : ℕ → List CoreValue → Option Value
  pub element : List CoreValue → Option Value
  pub element_flat : ℕ
  pub load_members : ℕ → Option (List Value)
  pub load_element : ℕ → Option Value

-- A value of a kind of type with members ms.
abbrev pub lift_node : SideAbi → List ℕ → Kind → Members → Lifting → List CoreValue → Option Value
lift_node side bytes k_record ms l cs = option_map (λ vs. value.Record (zip (typed_names ms) vs)) (l.members cs)
lift_node side bytes k_tuple ms l cs = option_map (λ vs. value.Tuple vs) (l.members cs)
lift_node side bytes k_list ms l cs = leading_pair side cs >>= (λ q. list_value side bytes ms l.load_element q)
lift_node side bytes k_map ms l cs = leading_pair side cs >>= (λ q. map_value side bytes ms l.load_members q)
lift_node side bytes (k_fixed n) ms l cs = option_map (λ vs. value.List vs) (each_of n l.element_flat l.element cs)
lift_node side bytes k_flags ms l cs =
    option_map (λ ws. value.Flags (flags_of_number (names_of ms) (number_of_words ws))) (numbers_as (replicate (flags_flat (flags_size (count_of_members ms))) I32) cs)
lift_node side bytes k_variant ms l cs = lift_variant l.case cs
lift_node side bytes k_enum ms l cs = lift_variant l.case cs
lift_node side bytes k_option ms l cs = lift_variant l.case cs
lift_node side bytes k_result ms l cs = lift_variant l.case cs
lift_node side bytes (k_future table instance) ms l cs = option_map (λ n. value.Handle Future table n) (one_number I32 cs)
lift_node side bytes (k_stream table instance) ms l cs = option_map (λ n. value.Handle Stream table n) (one_number I32 cs)

-- How many flat types stand for the first member.
abbrev pub element_count : MemoryWidth → Members → ℕ
element_count w no_members = 0
element_count w (bare n ms) = 0
element_count w (typed n s ms) = length (flat w s)

unfoldable mutual
  pub lift_leading : SideAbi → List ℕ → Shape → List CoreValue → Option Value
  lift_leading side bytes (s_plain p) cs = lift_plain side bytes p (plain_of p) cs
  lift_leading side bytes (s_node k ms) cs = lift_node side bytes k ms (record {
    members = λ us. lift_members side bytes ms us;
    case = λ x us. lift_case side bytes ms x us;
    element = λ us. lift_element side bytes ms us;
    element_flat = element_count (width_of side) ms;
    load_members = λ a. load_members side bytes ms a 0;
    load_element = λ a. load_element side bytes ms a;
  }) cs

  -- the members that have a type, one behind the other
  pub lift_members : SideAbi → List ℕ → Members → List CoreValue → Option (List Value)
  lift_members side bytes no_members cs = Some []
  lift_members side bytes (bare n ms) cs = lift_members side bytes ms cs
  lift_members side bytes (typed n s ms) cs =
      lift_leading side bytes s cs >>= (λ v.
      lift_members side bytes ms (drop (length (flat (width_of side) s)) cs) >>= (λ vs. Some (v ∷ vs)))

  -- the case of a number, with its payload
  pub lift_case : SideAbi → List ℕ → Members → ℕ → List CoreValue → Option Value
  lift_case side bytes no_members x cs = None
  lift_case side bytes (bare n ms) zero cs = Some (value.Case n [])
  lift_case side bytes (typed n s ms) zero cs = option_map (λ w. value.Case n (w ∷ [])) (lift_leading side bytes s cs)
  lift_case side bytes (bare n ms) (suc x) cs = lift_case side bytes ms x cs
  lift_case side bytes (typed n s ms) (suc x) cs = lift_case side bytes ms x cs

  -- the value of the first member
  pub lift_element : SideAbi → List ℕ → Members → List CoreValue → Option Value
  lift_element side bytes no_members cs = None
  lift_element side bytes (bare n ms) cs = None
  lift_element side bytes (typed n s ms) cs = lift_leading side bytes s cs

-- The value that core values stand for: none where the type has no flat types, or where the core values cannot stand for
-- them, one by one.
abbrev pub lift : SideAbi → List ℕ → Shape → List CoreValue → Option Value
lift side bytes s cs = flat_types (width_of side) s >>= (λ fs. if can_stand_all fs cs then lift_leading side bytes s cs else None)
