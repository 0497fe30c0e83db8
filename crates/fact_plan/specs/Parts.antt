-- How the parts of a plan are read: numbers, texts, lists, pairs, absent parts, and the keys of objects. A reader of a T is a
-- function from a JSON value to a T or a fault, whose path begins below the value.
use Rattle.std.specs.Prelude.{ℕ, ◌+◌, ◌^◌, List, [], ◌∷◌, Bool, Option, Some, None, Result, Ok, Err, if◌then◌else◌, nat_lt, ⊤}
use Rattle.std.specs.List.{list_any}
use Rattle.std.specs.Str.{bytes_eq}
use Rattle.serde_json.specs.Data.{Num, unsigned, negative, float, Data, null, boolean, number, string, array, object, Items, no_items, item, Members, no_members, member}
use Rattle.serde_json.specs.Find.{get, at}
use Rattle.fact_plan.specs.declared.fault.PlanFault.{PlanFault}
use Rattle.fact_plan.specs.declared.fault.PlanFault.TheVariants.{Missing, UnknownKey, WrongKind, OutOfRange}
use Rattle.fact_plan.specs.Fault.{at_step, key_step, place_step, ◌>>=◌}

-- the key is one of these
abbrev pub is_known : List (List ℕ) → List ℕ → Bool
is_known keys k = list_any (λ x. bytes_eq k x) keys

-- the first key that is none of these; the members stand in the order of their keys
abbrev pub first_unknown : List (List ℕ) → Members → Option (List ℕ)
first_unknown keys no_members = None
first_unknown keys (member k d ms) = if is_known keys k then first_unknown keys ms else Some k

-- a key that is none of those known is a fault
abbrev pub no_unknown : Option (List ℕ) → Result ⊤ PlanFault
no_unknown None = Ok tt
no_unknown (Some k) = Err (UnknownKey (key_step k))

-- an object that has none but these keys: the first other key is a fault
abbrev pub known_keys : List (List ℕ) → Data → Result ⊤ PlanFault
known_keys keys null = Err (WrongKind [])
known_keys keys (boolean b) = Err (WrongKind [])
known_keys keys (number n) = Err (WrongKind [])
known_keys keys (string s) = Err (WrongKind [])
known_keys keys (array ds) = Err (WrongKind [])
known_keys keys (object ms) = no_unknown (first_unknown keys ms)

-- the value that was looked up at a key, which has to be there
abbrev pub required_value : List ℕ → Option Data → Result Data PlanFault
required_value k None = Err (Missing (key_step k))
required_value k (Some d) = Ok d

-- each of these keys is there: the first that is missing is a fault
abbrev pub required_keys : List (List ℕ) → Data → Result ⊤ PlanFault
required_keys [] d = Ok tt
required_keys (k ∷ ks) d = required_value k (get k d) >>= (λ _. required_keys ks d)

-- the value of a key that has to be there
abbrev pub field : {T : Type 0} → (Data → Result T PlanFault) → List ℕ → Data → Result T PlanFault
field f k d = required_value k (get k d) >>= (λ e. at_step (key_step k) (f e))

-- a number below 2^32, given as an unsigned integer
abbrev pub u32_from : Num → Result ℕ PlanFault
u32_from (unsigned n) = if nat_lt n (2 ^ 32) then Ok n else Err (OutOfRange [])
u32_from (negative z) = Err (WrongKind [])
u32_from (float x) = Err (WrongKind [])

-- a number of 32 bits
unfoldable pub u32_in : Data → Result ℕ PlanFault
u32_in null = Err (WrongKind [])
u32_in (boolean b) = Err (WrongKind [])
u32_in (number n) = u32_from n
u32_in (string s) = Err (WrongKind [])
u32_in (array ds) = Err (WrongKind [])
u32_in (object ms) = Err (WrongKind [])

-- a number below 2^8, given as an unsigned integer
abbrev pub u8_from : Num → Result ℕ PlanFault
u8_from (unsigned n) = if nat_lt n (2 ^ 8) then Ok n else Err (OutOfRange [])
u8_from (negative z) = Err (WrongKind [])
u8_from (float x) = Err (WrongKind [])

-- a number of 8 bits
unfoldable pub u8_in : Data → Result ℕ PlanFault
u8_in null = Err (WrongKind [])
u8_in (boolean b) = Err (WrongKind [])
u8_in (number n) = u8_from n
u8_in (string s) = Err (WrongKind [])
u8_in (array ds) = Err (WrongKind [])
u8_in (object ms) = Err (WrongKind [])

-- true or false
unfoldable pub bool_in : Data → Result Bool PlanFault
bool_in null = Err (WrongKind [])
bool_in (boolean b) = Ok b
bool_in (number n) = Err (WrongKind [])
bool_in (string s) = Err (WrongKind [])
bool_in (array ds) = Err (WrongKind [])
bool_in (object ms) = Err (WrongKind [])

-- a text
unfoldable pub text_in : Data → Result (List ℕ) PlanFault
text_in null = Err (WrongKind [])
text_in (boolean b) = Err (WrongKind [])
text_in (number n) = Err (WrongKind [])
text_in (string s) = Ok s
text_in (array ds) = Err (WrongKind [])
text_in (object ms) = Err (WrongKind [])

-- the items in order, the first of them at place i
abbrev pub items_from : {T : Type 0} → (Data → Result T PlanFault) → ℕ → Items → Result (List T) PlanFault
items_from f i no_items = Ok []
items_from f i (item d ds) = at_step (place_step i) (f d) >>= (λ x. items_from f (i + 1) ds >>= (λ xs. Ok (x ∷ xs)))

-- a list of any length
unfoldable pub list_in : {T : Type 0} → (Data → Result T PlanFault) → Data → Result (List T) PlanFault
list_in f null = Err (WrongKind [])
list_in f (boolean b) = Err (WrongKind [])
list_in f (number n) = Err (WrongKind [])
list_in f (string s) = Err (WrongKind [])
list_in f (array ds) = items_from f 0 ds
list_in f (object ms) = Err (WrongKind [])

-- the value that was looked up at a key, or a default where there is none
abbrev pub or_default : {T : Type 0} → (Data → Result T PlanFault) → T → List ℕ → Option Data → Result T PlanFault
or_default f default k None = Ok default
or_default f default k (Some e) = at_step (key_step k) (f e)

-- the value of a key, or a default where the key is not there
abbrev pub field_or : {T : Type 0} → (Data → Result T PlanFault) → T → List ℕ → Data → Result T PlanFault
field_or f default k d = or_default f default k (get k d)

-- what was read, as a part that is there
abbrev pub present : {T : Type 0} → Result T PlanFault → Result (Option T) PlanFault
present (Ok x) = Ok (Some x)
present (Err e) = Err e

-- null stands for an absent part
unfoldable pub nullable : {T : Type 0} → (Data → Result T PlanFault) → Data → Result (Option T) PlanFault
nullable f null = Ok None
nullable f (boolean b) = present (f (boolean b))
nullable f (number n) = present (f (number n))
nullable f (string s) = present (f (string s))
nullable f (array ds) = present (f (array ds))
nullable f (object ms) = present (f (object ms))

-- a pair of the first two items, where there is no third
abbrev pub pair_of : {S T : Type 0} → (Data → Result S PlanFault) → (Data → Result T PlanFault) → Option Data → Option Data → Option Data → Result (S × T) PlanFault
pair_of f g None b c = Err (WrongKind [])
pair_of f g (Some a) None c = Err (WrongKind [])
pair_of f g (Some a) (Some b) (Some c) = Err (WrongKind [])
pair_of f g (Some a) (Some b) None = at_step (place_step 0) (f a) >>= (λ x. at_step (place_step 1) (g b) >>= (λ y. Ok (x, y)))

-- a list of two: it has a first and a second item, and no third
unfoldable pub pair_in : {S T : Type 0} → (Data → Result S PlanFault) → (Data → Result T PlanFault) → Data → Result (S × T) PlanFault
pair_in f g d = pair_of f g (at 0 d) (at 1 d) (at 2 d)
