-- How a value crosses from a type to another: scalars and texts stay, fields, cases and flags go by name into the order of
-- the destination, and each handle asks for its number in a table of the destination, in that order. What is asked is open:
-- it may take numbers from a list, or write down which handles cross.
-- Component Model, canonical ABI, "Storing": what was loaded under its names is stored under those of the destination
-- (`store_record`, `match_case`, `pack_flags_into_int`).
use Rattle.std.specs.Prelude.{ℕ, Bool, List, [], ◌∷◌, Option, Some, None, if◌then◌else◌}
use Rattle.std.specs.List.{zip}
use Rattle.std.specs.Str.{bytes_eq}
use Rattle.fact_types.specs.Agrees.{named, names_of}
use Rattle.fact_types.specs.Shapes.{Kind, k_record, k_variant, k_list, k_tuple, k_map, k_flags, k_enum, k_option, k_result, k_fixed, k_future, k_stream, Shape, s_plain, s_node, Members, no_members, bare, typed}
use Rattle.fact_types.specs.Options.{◌>>=◌}
use Rattle.fact_values.specs.declared.value.HandleKind.{HandleKind}
use Rattle.fact_values.specs.declared.value.HandleKind.TheVariants.{Future, Stream}
use Rattle.fact_values.specs.declared.value.Value.{Value, out-Value}
use Rattle.fact_values.specs.declared.value.Value.TheVariants as value
use Rattle.fact_values.specs.Load.{entry_of}
use Rattle.fact_values.specs.Numbers.{Plain, handle, plain_of}
use Rattle.fact_values.specs.Opened.{fields_in, members_in, elements_in, flags_in, map_entries_in, case_in, number_of_handle}
use Rattle.fact_values.specs.Places.{typed_names}

-- A handle that crosses: its kind, its number in a table of the source, and the table of the destination.
pub record Crossing : Type 0 where
  pub kind : HandleKind
  pub number : ℕ
  pub from : ℕ
  pub to : ℕ

-- A step with a state: it gives something and the next state, or nothing.
abbrev pub Step : Type 0 → Type 0 → Type 0
Step S A = S → Option (A × S)

abbrev pub done_step : {S A : Type 0} → A → Step S A
done_step a s = Some (a, s)

abbrev pub then_step : {S A B : Type 0} → Step S A → (A → Step S B) → Step S B
then_step f g s = f s >>= (λ r. g r.0 r.1)

-- Something that is there, and nothing where it is not.
abbrev pub given : {S A B : Type 0} → Option A → (A → Step S B) → Step S B
given None f s = None
given (Some a) f s = f a s

-- Steps one after another.
abbrev pub each_step : {S A B : Type 0} → (A → Step S B) → List A → Step S (List B)
each_step f [] = done_step []
each_step f (a ∷ more) = then_step (f a) (λ b. then_step (each_step f more) (λ bs. done_step (b ∷ bs)))

-- What answers a handle that crosses with its number in the destination.
abbrev pub Asked : Type 0 → Type 0
Asked S = Crossing → Step S ℕ

-- The members of a type that has some.
abbrev pub members_of : Shape → Members
members_of (s_plain p) = no_members
members_of (s_node k ms) = ms

-- The table of a type of handles.
abbrev pub table_number_of_plain : Plain → ℕ
table_number_of_plain (handle kind table) = table
table_number_of_plain _ = 0

abbrev pub table_number_of_kind : Kind → ℕ
table_number_of_kind (k_future table instance) = table
table_number_of_kind (k_stream table instance) = table
table_number_of_kind _ = 0

abbrev pub table_number_of : Shape → ℕ
table_number_of (s_plain p) = table_number_of_plain (plain_of p)
table_number_of (s_node k ms) = table_number_of_kind k

-- The value of the first field of a name.
abbrev pub value_named : List ℕ → List (List ℕ × Value) → Option Value
value_named x [] = None
value_named x ((n, v) ∷ fields) = if bytes_eq n x then Some v else value_named x fields

-- Whether the first flag of a name is set.
abbrev pub flag_named : List ℕ → List (List ℕ × Bool) → Option Bool
flag_named x [] = None
flag_named x ((n, b) ∷ flags) = if bytes_eq n x then Some b else flag_named x flags

-- The flags of these names, in their order, none where one of them is missing.
abbrev pub flags_named : List (List ℕ) → List (List ℕ × Bool) → Option (List (List ℕ × Bool))
flags_named [] flags = Some []
flags_named (x ∷ xs) flags = flag_named x flags >>= (λ b. flags_named xs flags >>= (λ gs. Some ((x, b) ∷ gs)))

abbrev pub only : List Value → Option Value
only (v ∷ []) = Some v
only _ = None

abbrev pub cross_handle : {S : Type 0} → Asked S → HandleKind → (from to : ℕ) → Value → Step S Value
cross_handle ask kind from to v =
    given (number_of_handle (out-Value v)) (λ n.
    then_step (ask (record { kind = kind; number = n; from = from; to = to })) (λ m. done_step (value.Handle kind to m)))

abbrev pub cross_plain : {S : Type 0} → Asked S → (from : ℕ) → Plain → Value → Step S Value
cross_plain ask from (handle kind table) v = cross_handle ask kind from table v
cross_plain ask from plain v = done_step v

-- How the members of a destination are crossed to, from those of the source.
pub record Across (S : Type 0) : Type 0 where
  pub fields : List (List ℕ × Value) → Step S (List Value)
  pub case : List ℕ → List Value → Step S Value
  pub places : List Value → Step S (List Value)
  pub element : Value → Step S Value

abbrev pub cross_list : {S : Type 0} → Across S → Value → Step S Value
cross_list x v = given (elements_in (out-Value v)) (λ vs. then_step (each_step x.element vs) (λ us. done_step (value.List us)))

abbrev pub cross_entry : {S : Type 0} → Across S → (Value × Value) → Step S (Value × Value)
cross_entry x e = then_step (x.places (e.0 ∷ e.1 ∷ [])) (λ us. given (entry_of us) done_step)

abbrev pub cross_case_value : {S : Type 0} → Across S → Value → Step S Value
cross_case_value x v = given (case_in (out-Value v)) (λ c. x.case c.name c.payload)

-- Flags cross by name.
abbrev pub cross_flags : {S : Type 0} → Members → Value → Step S Value
cross_flags ns v = given (flags_in (out-Value v)) (λ fs. given (flags_named (names_of ns) fs) (λ gs. done_step (value.Flags gs)))

-- A value crosses to a kind of type with members ns; a handle comes from a table.
abbrev pub cross_node : {S : Type 0} → Asked S → (from : ℕ) → Kind → Members → Across S → Value → Step S Value
cross_node ask from k_record ns x v =
    given (fields_in (out-Value v)) (λ fs. then_step (x.fields fs) (λ us. done_step (value.Record (zip (typed_names ns) us))))
cross_node ask from k_tuple ns x v = given (members_in (out-Value v)) (λ vs. then_step (x.places vs) (λ us. done_step (value.Tuple us)))
cross_node ask from k_list ns x v = cross_list x v
cross_node ask from (k_fixed n) ns x v = cross_list x v
cross_node ask from k_map ns x v =
    given (map_entries_in (out-Value v)) (λ es. then_step (each_step (cross_entry x) es) (λ fs. done_step (value.Map fs)))
cross_node ask from k_flags ns x v = cross_flags ns v
cross_node ask from k_variant ns x v = cross_case_value x v
cross_node ask from k_enum ns x v = cross_case_value x v
cross_node ask from k_option ns x v = cross_case_value x v
cross_node ask from k_result ns x v = cross_case_value x v
cross_node ask from (k_future table instance) ns x v = cross_handle ask Future from table v
cross_node ask from (k_stream table instance) ns x v = cross_handle ask Stream from table v

unfoldable mutual
  pub cross : {S : Type 0} → Asked S → Shape → Shape → Value → Step S Value
  cross ask s (s_plain q) v = cross_plain ask (table_number_of s) (plain_of q) v
  cross ask s (s_node k ns) v = cross_node ask (table_number_of s) k ns (record {
    fields = λ fs. cross_fields ask (members_of s) fs ns;
    case = λ x vs. cross_case ask (named x (members_of s)) x vs ns;
    places = λ vs. cross_places ask (members_of s) vs ns;
    element = λ w. cross_element ask (members_of s) w ns;
  }) v

  -- each field of the destination is the one of its name
  pub cross_fields : {S : Type 0} → Asked S → Members → List (List ℕ × Value) → Members → Step S (List Value)
  cross_fields ask ms fs no_members = done_step []
  cross_fields ask ms fs (bare x ns) = cross_fields ask ms fs ns
  cross_fields ask ms fs (typed x d ns) =
      given (named x ms) (λ s.
      given (value_named x fs) (λ v.
      then_step (cross ask s d v) (λ u. then_step (cross_fields ask ms fs ns) (λ us. done_step (u ∷ us)))))

  -- the case of a name, with its payload, whose type in the source may be given
  pub cross_case : {S : Type 0} → Asked S → Option Shape → List ℕ → List Value → Members → Step S Value
  cross_case ask p x vs no_members = given None done_step
  cross_case ask p x vs (bare n ns) = if bytes_eq n x then done_step (value.Case n []) else cross_case ask p x vs ns
  cross_case ask p x vs (typed n d ns) =
      if bytes_eq n x
      then given p (λ s. given (only vs) (λ v. then_step (cross ask s d v) (λ u. done_step (value.Case n (u ∷ [])))))
      else cross_case ask p x vs ns

  -- members one by one
  pub cross_places : {S : Type 0} → Asked S → Members → List Value → Members → Step S (List Value)
  cross_places ask no_members vs no_members = done_step []
  cross_places ask (bare m ms) vs (bare n ns) = cross_places ask ms vs ns
  cross_places ask (typed m s ms) (v ∷ vs) (typed n d ns) =
      then_step (cross ask s d v) (λ u. then_step (cross_places ask ms vs ns) (λ us. done_step (u ∷ us)))
  cross_places ask ms vs ns = given None done_step

  -- a value of the first member
  pub cross_element : {S : Type 0} → Asked S → Members → Value → Members → Step S Value
  cross_element ask (typed m s ms) v (typed n d ns) = cross ask s d v
  cross_element ask ms v ns = given None done_step
