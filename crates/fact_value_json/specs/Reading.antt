-- How values of types are read from JSON: a reader of a type is a function from a JSON value to a value or a fault, whose path
-- begins below the JSON value.
use Rattle.std.specs.Prelude.{ℤ, pos, negsuc, ℕ, ◌+◌, ◌-◌, ◌^◌, nat_abs, nat_lt, ◌==◌, List, [], ◌∷◌, ◌++◌, length, map, Bool, false, Option, Some, None, Result, Ok, Err, if◌then◌else◌, chars, ⊤}
use Rattle.std.specs.List.{zip}
use Rattle.std.specs.Str.{bytes_eq}
use Rattle.serde_json.specs.Data.{Num, unsigned, negative, float, Data, null, boolean, number, string, array, object, Items, no_items, item, Members, no_members, member}
use Rattle.fact_types.specs.Agrees.{names_of}
use Rattle.fact_types.specs.Shapes.{Kind, k_record, k_variant, k_list, k_tuple, k_map, k_flags, k_enum, k_option, k_result, k_fixed, k_future, k_stream, Shape, s_plain, s_node}
use Rattle.fact_types.specs.Shapes as shape
use Rattle.fact_types.specs.Tuples.{tuple_members}
use Rattle.fact_plan.specs.declared.fault.PlanFault.{PlanFault}
use Rattle.fact_plan.specs.declared.fault.PlanFault.TheVariants.{UnknownKey, WrongKind, OutOfRange}
use Rattle.fact_plan.specs.Fault.{at_step, key_step, place_step, ◌>>=◌}
use Rattle.fact_plan.specs.Parts.{is_known, known_keys, required_keys, field, u32_in, bool_in, text_in, list_in, items_from}
use Rattle.fact_values.specs.declared.value.HandleKind.{HandleKind}
use Rattle.fact_values.specs.declared.value.HandleKind.TheVariants.{Future, Stream}
use Rattle.fact_values.specs.declared.value.Value.{Value}
use Rattle.fact_values.specs.declared.value.Value.TheVariants as value
use Rattle.fact_values.specs.Load.{entry_of}
use Rattle.fact_values.specs.Numbers.{Plain, boolean as p_boolean, unsigned as p_unsigned, signed as p_signed, float32, float64, character, text, handle, nothing, plain_of}
use Rattle.fact_values.specs.Places.{typed_names}

-- ---- types without members

-- an integer that is given as one
abbrev pub integer_from : Num → Result ℤ PlanFault
integer_from (unsigned n) = Ok (pos n)
integer_from (negative z) = Ok z
integer_from (float x) = Err (WrongKind [])

unfoldable pub integer_in : Data → Result ℤ PlanFault
integer_in null = Err (WrongKind [])
integer_in (boolean b) = Err (WrongKind [])
integer_in (number n) = integer_from n
integer_in (string s) = Err (WrongKind [])
integer_in (array ds) = Err (WrongKind [])
integer_in (object ms) = Err (WrongKind [])

-- whether an integer is one of so many bits, without a sign or with one
abbrev pub fits_unsigned : ℕ → ℤ → Bool
fits_unsigned bits (pos n) = nat_lt n (2 ^ bits)
fits_unsigned bits (negsuc n) = false

abbrev pub fits_signed : ℕ → ℤ → Bool
fits_signed bits (pos n) = nat_lt n (2 ^ (bits - 1))
fits_signed bits (negsuc n) = nat_lt n (2 ^ (bits - 1))

-- what an integer within a range gives
abbrev pub within : Bool → Value → Result Value PlanFault
within b v = if b then Ok v else Err (OutOfRange [])

-- a text of one scalar value
abbrev pub one_scalar : List ℕ → Result Value PlanFault
one_scalar (c ∷ []) = Ok (value.Char c)
one_scalar _ = Err (OutOfRange [])

abbrev pub handle_in : HandleKind → ℕ → Data → Result Value PlanFault
handle_in kind table d = u32_in d >>= (λ n. Ok (value.Handle kind table n))

-- Floats are given as their bits.
abbrev pub read_plain : Plain → Data → Result Value PlanFault
read_plain p_boolean d = bool_in d >>= (λ b. Ok (value.Bool b))
read_plain (p_unsigned bits) d = integer_in d >>= (λ z. within (fits_unsigned bits z) (value.Int z))
read_plain (p_signed bits) d = integer_in d >>= (λ z. within (fits_signed bits z) (value.Int z))
read_plain float32 d = integer_in d >>= (λ z. within (fits_unsigned 32 z) (value.Float32 (nat_abs z)))
read_plain float64 d = integer_in d >>= (λ z. within (fits_unsigned 64 z) (value.Float64 (nat_abs z)))
read_plain character d = text_in d >>= (λ s. one_scalar (chars s))
read_plain text d = text_in d >>= (λ s. Ok (value.Str (chars s)))
read_plain (handle kind table) d = handle_in kind table d
read_plain nothing d = Err (WrongKind [])

-- ---- lists, and objects of one key

abbrev pub count_items : Items → ℕ
count_items no_items = 0
count_items (item d ds) = 1 + count_items ds

abbrev pub of_length : ℕ → Items → Result Items PlanFault
of_length n ds = if count_items ds == n then Ok ds else Err (WrongKind [])

-- the items of a list
unfoldable pub items_in : Data → Result Items PlanFault
items_in null = Err (WrongKind [])
items_in (boolean b) = Err (WrongKind [])
items_in (number n) = Err (WrongKind [])
items_in (string s) = Err (WrongKind [])
items_in (array ds) = Ok ds
items_in (object ms) = Err (WrongKind [])

-- those of a list of so many
abbrev pub counted_items : ℕ → Data → Result Items PlanFault
counted_items n d = items_in d >>= of_length n

-- the one key of an object, with its value
abbrev pub only_of : Members → Result (List ℕ × Data) PlanFault
only_of no_members = Err (WrongKind [])
only_of (member k d no_members) = Ok (k, d)
only_of (member k d (member l e ms)) = Err (WrongKind [])

unfoldable pub only_member : Data → Result (List ℕ × Data) PlanFault
only_member null = Err (WrongKind [])
only_member (boolean b) = Err (WrongKind [])
only_member (number n) = Err (WrongKind [])
only_member (string s) = Err (WrongKind [])
only_member (array ds) = Err (WrongKind [])
only_member (object ms) = only_of ms

-- null, where there is no payload
abbrev pub null_in : Data → Result ⊤ PlanFault
null_in null = Ok tt
null_in (boolean b) = Err (WrongKind [])
null_in (number n) = Err (WrongKind [])
null_in (string s) = Err (WrongKind [])
null_in (array ds) = Err (WrongKind [])
null_in (object ms) = Err (WrongKind [])

-- ---- flags and enums

-- a name that is one of these, and not one of those that were given before
abbrev pub new_name : (names given : List (List ℕ)) → List ℕ → Result (List ℕ) PlanFault
new_name names given s = if is_known names s then (if is_known given s then Err (OutOfRange []) else Ok s) else Err (OutOfRange [])

abbrev pub new_name_in : (names given : List (List ℕ)) → Data → Result (List ℕ) PlanFault
new_name_in names given d = text_in d >>= new_name names given

-- distinct names, behind those that were given before
abbrev pub names_from : (names given : List (List ℕ)) → ℕ → Items → Result (List (List ℕ)) PlanFault
names_from names given i no_items = Ok given
names_from names given i (item d ds) = at_step (place_step i) (new_name_in names given d) >>= (λ s. names_from names (given ++ s ∷ []) (i + 1) ds)

-- flags, of which these are set
abbrev pub flags_given : (names given : List (List ℕ)) → List (List ℕ × Bool)
flags_given names given = map (λ n. (n, is_known given n)) names

-- the distinct names in a list
abbrev pub names_in : List (List ℕ) → Data → Result (List (List ℕ)) PlanFault
names_in names d = items_in d >>= names_from names [] 0

abbrev pub flags_in : List (List ℕ) → Data → Result Value PlanFault
flags_in names d = names_in names d >>= (λ given. Ok (value.Flags (flags_given names given)))

abbrev pub enum_in : List (List ℕ) → Data → Result Value PlanFault
enum_in names d = text_in d >>= (λ s. if is_known names s then Ok (value.Case s []) else Err (OutOfRange []))

-- ---- types with members

-- How the members of a type are read.
pub record MemberReaders : Type 0 where
  pub fields : Data → Result (List Value) PlanFault
  pub places : ℕ → Items → Result (List Value) PlanFault
  pub case : List ℕ → Data → Result Value PlanFault
  pub element : Data → Result Value PlanFault

abbrev pub fields_in : List (List ℕ) → (Data → Result (List Value) PlanFault) → Data → Result Value PlanFault
fields_in names fields d = do
  _ ← known_keys names d
  _ ← required_keys names d
  fields d >>= (λ vs. Ok (value.Record (zip names vs)))

-- a list of as many as there are members
abbrev pub places_in : ℕ → (ℕ → Items → Result (List Value) PlanFault) → Data → Result (List Value) PlanFault
places_in n places d = counted_items n d >>= (λ ds. places 0 ds)

abbrev pub entry_from : Option (Value × Value) → Result (Value × Value) PlanFault
entry_from None = Err (WrongKind [])
entry_from (Some e) = Ok e

-- a key and a value
abbrev pub entry_in : ℕ → (ℕ → Items → Result (List Value) PlanFault) → Data → Result (Value × Value) PlanFault
entry_in n places d = places_in n places d >>= (λ vs. entry_from (entry_of vs))

abbrev pub read_node : Kind → shape.Members → MemberReaders → Data → Result Value PlanFault
read_node k_record ms r d = fields_in (typed_names ms) r.fields d
read_node k_tuple ms r d = places_in (length (typed_names ms)) r.places d >>= (λ vs. Ok (value.Tuple vs))
read_node k_list ms r d = list_in r.element d >>= (λ vs. Ok (value.List vs))
read_node (k_fixed n) ms r d = counted_items n d >>= (λ ds. items_from r.element 0 ds >>= (λ vs. Ok (value.List vs)))
read_node k_map ms r d = list_in (entry_in (length (typed_names ms)) r.places) d >>= (λ es. Ok (value.Map es))
read_node k_flags ms r d = flags_in (names_of ms) d
read_node k_enum ms r d = enum_in (names_of ms) d
read_node k_variant ms r d = only_member d >>= (λ m. r.case m.0 m.1)
read_node k_option ms r d = only_member d >>= (λ m. r.case m.0 m.1)
read_node k_result ms r d = only_member d >>= (λ m. r.case m.0 m.1)
read_node (k_future table instance) ms r d = handle_in Future table d
read_node (k_stream table instance) ms r d = handle_in Stream table d

unfoldable mutual
  pub read : Shape → Data → Result Value PlanFault
  read (s_plain p) d = read_plain (plain_of p) d
  read (s_node k ms) d = read_node k ms (record {
    fields = λ e. read_fields ms e;
    places = λ i ds. read_places ms i ds;
    case = λ x e. read_case ms x e;
    element = λ e. read_element ms e;
  }) d

  -- each field at its name, in the order of the type
  pub read_fields : shape.Members → Data → Result (List Value) PlanFault
  read_fields shape.no_members d = Ok []
  read_fields (shape.bare n ms) d = read_fields ms d
  read_fields (shape.typed n s ms) d = field (λ e. read s e) n d >>= (λ v. read_fields ms d >>= (λ vs. Ok (v ∷ vs)))

  -- the members that have a type, one by one, the first of them at place i
  pub read_places : shape.Members → ℕ → Items → Result (List Value) PlanFault
  read_places shape.no_members i ds = Ok []
  read_places (shape.bare n ms) i ds = read_places ms i ds
  read_places (shape.typed n s ms) i no_items = Err (WrongKind [])
  read_places (shape.typed n s ms) i (item d ds) = at_step (place_step i) (read s d) >>= (λ v. read_places ms (i + 1) ds >>= (λ vs. Ok (v ∷ vs)))

  -- the first case of a name, with its payload
  pub read_case : shape.Members → List ℕ → Data → Result Value PlanFault
  read_case shape.no_members x d = Err (UnknownKey (key_step x))
  read_case (shape.bare n ms) x d = if bytes_eq n x then at_step (key_step x) (null_in d) >>= (λ _. Ok (value.Case n [])) else read_case ms x d
  read_case (shape.typed n s ms) x d = if bytes_eq n x then at_step (key_step x) (read s d) >>= (λ v. Ok (value.Case n (v ∷ []))) else read_case ms x d

  -- a value of the first member
  pub read_element : shape.Members → Data → Result Value PlanFault
  read_element shape.no_members d = Err (WrongKind [])
  read_element (shape.bare n ms) d = Err (WrongKind [])
  read_element (shape.typed n s ms) d = read s d

-- Values of types, one by one, in a list of as many.
unfoldable pub values_in : List Shape → Data → Result (List Value) PlanFault
values_in ss d = places_in (length ss) (λ i ds. read_places (tuple_members ss) i ds) d

-- The same, at a path.
unfoldable pub values_at : List ℕ → List Shape → Data → Result (List Value) PlanFault
values_at path ss d = at_step path (values_in ss d)
