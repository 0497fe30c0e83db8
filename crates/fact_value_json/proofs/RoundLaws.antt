-- What is printed of a value of a type is read as that value.
use Rattle.std.proofs.Common.{◌≡◌, ℕ, suc, pos, negsuc, ◌+◌, ◌-◌, ◌^◌, ◌<◌, List, [], ◌∷◌, length, map, Result, Ok, Err, Bool, true, false, ◌&&◌, ◌||◌, refl, sym, ap, ◌∙◌, subst, arith}
use Rattle.std.specs.Prelude.{nat_lt, ◌==◌, if◌then◌else◌, encode_utf8, chars}
use Rattle.std.specs.Char.{IsScalar}
use Rattle.std.specs.List.{AllByRecursion, zip}
use Rattle.std.specs.Str.{bytes_eq}
use Rattle.std.proofs.lemmas.Str.{chars-encodes}
use lib.Utf8.{scalars}
use Rattle.serde_json.specs.Data as json
use Rattle.serde_json.specs.Data.{Data, array, object, string}
use Rattle.serde_json.specs.View.{items_of}
use Rattle.fact_types.specs.Agrees.{chosen, names_of}
use Rattle.fact_types.specs.Shapes.{k_record, k_variant, k_list, k_tuple, k_map, k_flags, k_enum, k_option, k_result, k_fixed, k_future, k_stream, Shape, s_plain, s_node, Members, no_members, bare, typed}
use Rattle.fact_types.specs.Tuples.{members_from, tuple_members}
use Rattle.fact_types.specs.Valid.{AreDistinct, IsRuled, AreRuled}
use Rattle.fact_plan.specs.declared.fault.PlanFault.{PlanFault}
use Rattle.fact_plan.specs.declared.fault.PlanFault.TheVariants.{WrongKind, OutOfRange}
use Rattle.fact_plan.specs.Fault.{at_step, key_step, place_step, ◌>>=◌}
use Rattle.fact_plan.specs.Parts.{bool_in, is_known, items_from, list_in, required_keys, required_value, text_in, u32_in}
use Rattle.fact_values.specs.declared.value.HandleKind.{HandleKind}
use Rattle.fact_values.specs.declared.value.HandleKind.TheVariants.{Future, Stream}
use Rattle.fact_values.specs.declared.value.Value.{Value, out-Value, roll-Value, ind-Value, out-roll-Value}
use Rattle.fact_values.specs.declared.value.Value.TheOpen.{Value-F}
use Rattle.fact_values.specs.declared.value.Value.TheOpen as o
use Rattle.fact_values.specs.declared.value.Value.TheVariants as value
use Rattle.fact_values.specs.Formed.{AreBare, IsFormed, AreFormed}
use Rattle.fact_values.specs.Load.{entry_of}
use Rattle.fact_values.proofs.IsALaws.{bytes_are, bytes_same}
use Rattle.fact_values.specs.IsA.{IsA, AreMembers, HasCase, IsElement, IsHandle, IsPlainValue, IsRecord, IsTuple, IsListOf, IsFixedList, IsMap, IsFlags, IsCase, IsOnePayload}
use Rattle.fact_values.specs.Numbers.{Plain, boolean, unsigned, signed, float32, float64, character, text, handle, plain_of}
use Rattle.fact_values.specs.Opened as opened
use Rattle.fact_values.specs.Opened.{members_in, elements_in, map_entries_in, case_in}
use Rattle.fact_values.specs.Places.{typed_names}
use Rattle.fact_value_json.specs.Printing.{where_there, where_first, plain_data, object_of, set_names, entry_data, data_of, data_places, data_case, data_element, values_data}
use Rattle.fact_value_json.specs.Reading.{read, read_plain, read_fields, read_places, read_case, read_element, counted_items, count_items, items_in, entry_from, entry_in, enum_in, fields_in, flags_in, flags_given, names_from, handle_in, integer_in, null_in, one_scalar, only_member, places_in, values_in, within}
use Rattle.fact_value_json.proofs.NameLaws.{AreApart, AreAtNames, or_true, apart, typed_apart, keys_known, fields_at_names, names_required, set_names_back, flags_back}
use Rattle.fact_value_json.proofs.StepLaws.{append_none}

-- ---- a value is made of its layer

pub made_of : (v : Value) → roll-Value (out-Value v) ≡ v
made_of = ind-Value (λ v. roll-Value (out-Value v) ≡ v) (λ x y is. ap roll-Value (out-roll-Value x))

-- ---- types without members

all_scalars : (cs : List ℕ) → AllByRecursion IsScalar cs → scalars cs ≡ true
all_scalars [] h = refl
all_scalars (c ∷ cs) h = ap (λ b. b && scalars cs) h.0 ∙ all_scalars cs h.1

in_range : (b : Bool) (v : Value) → b ≡ true → within b v ≡ Ok v
in_range b v e = ap (λ b. within b v) e

below : (n m : ℕ) → n < m → nat_lt n m ≡ true
below n m h = grind (arith, h)

number_back : (kind : HandleKind) (table n : ℕ) → n < 2 ^ 32 → handle_in kind table (json.number (json.unsigned n)) ≡ Ok (value.Handle kind table n)
unfolding u32_in
number_back kind table n h = ap (λ b. (if b then Ok n else Err (OutOfRange [])) >>= (λ n. Ok (value.Handle kind table n))) (below n (2 ^ 32) h)

handle_back : (kind : HandleKind) (table : ℕ) (w : Value-F Value) → IsHandle kind table w → handle_in kind table (plain_data w) ≡ Ok (roll-Value w)
handle_back kind table (o.Handle k t n) h =
    number_back kind table n h.2 ∙ (λ j. Ok (value.Handle (sym h.0 j) (sym h.1 j) n)) ∙ ap (λ v. Ok v) (sym (value.rolls-Handle k t n))
handle_back kind table _ h = absurd h

plain_back : (p : Plain) (w : Value-F Value) → IsPlainValue p w → read_plain p (plain_data w) ≡ Ok (roll-Value w)
unfolding bool_in integer_in text_in
plain_back boolean (o.Bool b) h = ap (λ v. Ok v) (sym (value.rolls-Bool b))
plain_back (unsigned bits) (o.Int (pos n)) h = in_range (nat_lt n (2 ^ bits)) (value.Int (pos n)) (below n (2 ^ bits) h) ∙ ap (λ v. Ok v) (sym (value.rolls-Int (pos n)))
plain_back (unsigned bits) (o.Int (negsuc n)) h = absurd h
plain_back (signed bits) (o.Int (pos n)) h = in_range (nat_lt n (2 ^ (bits - 1))) (value.Int (pos n)) (below n (2 ^ (bits - 1)) h) ∙ ap (λ v. Ok v) (sym (value.rolls-Int (pos n)))
plain_back (signed bits) (o.Int (negsuc n)) h = in_range (nat_lt n (2 ^ (bits - 1))) (value.Int (negsuc n)) (below n (2 ^ (bits - 1)) h) ∙ ap (λ v. Ok v) (sym (value.rolls-Int (negsuc n)))
plain_back float32 (o.Float32 n) h = in_range (nat_lt n (2 ^ 32)) (value.Float32 n) (below n (2 ^ 32) h) ∙ ap (λ v. Ok v) (sym (value.rolls-Float32 n))
plain_back float64 (o.Float64 n) h = in_range (nat_lt n (2 ^ 64)) (value.Float64 n) (below n (2 ^ 64) h) ∙ ap (λ v. Ok v) (sym (value.rolls-Float64 n))
plain_back character (o.Char c) h =
    ap one_scalar (ap chars (sym (append_none (encode_utf8 c))) ∙ chars-encodes (c ∷ []) (all_scalars (c ∷ []) (h, tt))) ∙ ap (λ v. Ok v) (sym (value.rolls-Char c))
plain_back text (o.Str cs) h = ap (λ l. Ok (value.Str l)) (chars-encodes cs (all_scalars cs h)) ∙ ap (λ v. Ok v) (sym (value.rolls-Str cs))
plain_back (handle kind table) w h = handle_back kind table w h
plain_back _ _ h = absurd h

-- ---- types with members, by their forms

-- What is printed of values is read as them.
abbrev pub PlacesBack : Members → Type 0
PlacesBack ms = (vs : List Value) (i : ℕ) → AreMembers ms vs → read_places ms i (items_of (data_places ms vs)) ≡ Ok vs

abbrev pub FieldsBack : Members → Type 0
FieldsBack ms = (vs : List Value) (d : Data) → AreMembers ms vs → AreAtNames ms vs d → read_fields ms d ≡ Ok vs

abbrev pub CasesBack : Members → Type 0
CasesBack ms = (x : List ℕ) (vs : List Value) → HasCase ms x vs → read_case ms x (data_case ms x vs) ≡ Ok (value.Case x vs)

abbrev pub ElementBack : Members → Type 0
ElementBack ms = (v : Value) → IsElement ms v → read_element ms (data_element ms v) ≡ Ok v

count_of : (ds : List Data) → count_items (items_of ds) ≡ length ds
count_of [] = refl
count_of (d ∷ ds) = omega (arith, count_of ds)

counted_back : (n : ℕ) (ds : List Data) → length ds ≡ n → counted_items n (array (items_of ds)) ≡ Ok (items_of ds)
unfolding items_in
counted_back n ds e = let b : (count_items (items_of ds) == n) ≡ true = grind (arith, count_of ds, e) in ap (λ b. if b then Ok (items_of ds) else Err (WrongKind [])) b

places_count : (ms : Members) (vs : List Value) → AreMembers ms vs → length (data_places ms vs) ≡ length (typed_names ms)
unfolding data_places IsA
places_count no_members vs h = refl
places_count (bare n ms) vs h = places_count ms vs h
places_count (typed n s ms) [] h = absurd h
places_count (typed n s ms) (v ∷ vs) h = ap (λ k. suc k) (places_count ms vs h.1)

list_back : (ms : Members) (vs : List Value) → AreMembers ms vs → PlacesBack ms → places_in (length (typed_names ms)) (λ i ds. read_places ms i ds) (array (items_of (data_places ms vs))) ≡ Ok vs
list_back ms vs h f = ap (λ r. r >>= (λ ds. read_places ms 0 ds)) (counted_back (length (typed_names ms)) (data_places ms vs) (places_count ms vs h)) ∙ f vs 0 h

zip_back : (fs : List (List ℕ × Value)) → zip (map (λ f. f.0) fs) (map (λ f. f.1) fs) ≡ fs
zip_back [] = refl
zip_back (f ∷ fs) = ap (λ l. f ∷ l) (zip_back fs)

fields_back : (ms : Members) (fs : List (List ℕ × Value)) → AreDistinct (names_of ms) → map (λ f. f.0) fs ≡ typed_names ms → AreMembers ms (map (λ f. f.1) fs) → FieldsBack ms
    → fields_in (typed_names ms) (λ e. read_fields ms e) (object (object_of (zip (typed_names ms) (data_places ms (map (λ f. f.1) fs))) json.no_members)) ≡ Ok (value.Record fs)
fields_back ms fs distinct names are f =
    let vs = map (λ (f : List ℕ × Value). f.1) fs in
    let d = object (object_of (zip (typed_names ms) (data_places ms vs)) json.no_members) in
    let at = fields_at_names ms vs json.no_members (typed_apart ms (apart (names_of ms) distinct)) are in
    ap (λ r. r >>= (λ _. required_keys (typed_names ms) d >>= (λ _. read_fields ms d >>= (λ vs. Ok (value.Record (zip (typed_names ms) vs)))))) (keys_known (typed_names ms) (data_places ms vs))
    ∙ ap (λ r. r >>= (λ _. read_fields ms d >>= (λ vs. Ok (value.Record (zip (typed_names ms) vs))))) (names_required ms vs d are at)
    ∙ ap (λ r. r >>= (λ vs. Ok (value.Record (zip (typed_names ms) vs)))) (f vs d are at)
    ∙ ap (λ ns. Ok (value.Record (zip ns vs))) (sym names) ∙ ap (λ fs. Ok (value.Record fs)) (zip_back fs)

-- items, each of which is read back
items_back : {X : Type 0} (P : X → Type 0) (f : Data → Result X PlanFault) (g : X → Data) (xs : List X) (i : ℕ) → ((x : X) → P x → f (g x) ≡ Ok x) → AllByRecursion P xs → items_from f i (items_of (map g xs)) ≡ Ok xs
items_back P f g [] i back h = refl
items_back P f g (x ∷ xs) i back h =
    ap (λ r. at_step (place_step i) r >>= (λ x. items_from f (i + 1) (items_of (map g xs)) >>= (λ xs. Ok (x ∷ xs)))) (back x h.0)
    ∙ ap (λ r. r >>= (λ xs. Ok (x ∷ xs))) (items_back P f g xs (i + 1) back h.1)

elements_back : (ms : Members) (vs : List Value) → AllByRecursion (λ v. IsElement ms v) vs → ElementBack ms → list_in (λ e. read_element ms e) (array (items_of (map (λ v. data_element ms v) vs))) ≡ Ok vs
unfolding list_in
elements_back ms vs h f = items_back (λ v. IsElement ms v) (λ e. read_element ms e) (λ v. data_element ms v) vs 0 f h

map_length : {X Y : Type 0} (f : X → Y) (xs : List X) → length (map f xs) ≡ length xs
map_length f [] = refl
map_length f (x ∷ xs) = ap (λ k. suc k) (map_length f xs)

entries_back : (ms : Members) (es : List (Value × Value)) → AllByRecursion (λ e. AreMembers ms (e.0 ∷ e.1 ∷ [])) es → PlacesBack ms → list_in (entry_in (length (typed_names ms)) (λ i ds. read_places ms i ds)) (array (items_of (map (entry_data (λ vs. data_places ms vs)) es))) ≡ Ok es
unfolding list_in
entries_back ms es h f =
    items_back (λ e. AreMembers ms (e.0 ∷ e.1 ∷ [])) (entry_in (length (typed_names ms)) (λ i ds. read_places ms i ds)) (entry_data (λ vs. data_places ms vs)) es 0
    (λ e are. ap (λ r. r >>= (λ vs. entry_from (entry_of vs))) (list_back ms (e.0 ∷ e.1 ∷ []) are f)) h

abbrev IsNameAlone : Members → List ℕ → List Value → Type 0
IsNameAlone ms x vs = (is_known (names_of ms) x ≡ true) × (vs ≡ [])

enum_at : (b : Bool) (n : List ℕ) (ms : Members) (x : List ℕ) (vs : List Value) → bytes_eq n x ≡ b → chosen b (vs ≡ []) (HasCase ms x vs) → (HasCase ms x vs → IsNameAlone ms x vs) → IsNameAlone (bare n ms) x vs
enum_at true n ms x vs e h f = (ap (λ b. b || is_known (names_of ms) x) (ap (λ n. bytes_eq x n) (bytes_are n x e) ∙ bytes_same x), h)
enum_at false n ms x vs e h f = let (known, none) = f h in (or_true (bytes_eq x n) (is_known (names_of ms) x) known, none)

enum_back : (ms : Members) (x : List ℕ) (vs : List Value) → AreBare ms → HasCase ms x vs → IsNameAlone ms x vs
unfolding IsA
enum_back no_members x vs b h = absurd h
enum_back (bare n ms) x vs b h = enum_at (bytes_eq n x) n ms x vs refl h (λ more. enum_back ms x vs b more)
enum_back (typed n s ms) x vs b h = absurd b

case_back : (ms : Members) (x : List ℕ) (vs : List Value) → HasCase ms x vs → CasesBack ms → only_member (object (json.member x (data_case ms x vs) json.no_members)) >>= (λ m. read_case ms m.0 m.1) ≡ Ok (value.Case x vs)
unfolding only_member
case_back ms x vs h f = f x vs h

-- ---- types with members, by the forms of their values

record_back : (ms : Members) (w : Value-F Value) → AreDistinct (names_of ms) → IsRecord ms (λ vs. AreMembers ms vs) w → FieldsBack ms
    → fields_in (typed_names ms) (λ e. read_fields ms e) (where_there (opened.fields_in w) (λ fs. object (object_of (zip (typed_names ms) (data_places ms (map (λ f. f.1) fs))) json.no_members))) ≡ Ok (roll-Value w)
record_back ms (o.Record fs) distinct h f = fields_back ms fs distinct h.0 h.1 f ∙ ap (λ v. Ok v) (sym (value.rolls-Record fs))
record_back ms _ distinct h f = absurd h

tuple_back : (ms : Members) (w : Value-F Value) → IsTuple (λ vs. AreMembers ms vs) w → PlacesBack ms
    → places_in (length (typed_names ms)) (λ i ds. read_places ms i ds) (where_there (members_in w) (λ vs. array (items_of (data_places ms vs)))) >>= (λ vs. Ok (value.Tuple vs)) ≡ Ok (roll-Value w)
tuple_back ms (o.Tuple vs) h f = ap (λ r. r >>= (λ vs. Ok (value.Tuple vs))) (list_back ms vs h f) ∙ ap (λ v. Ok v) (sym (value.rolls-Tuple vs))
tuple_back ms _ h f = absurd h

elements_list : (ms : Members) (w : Value-F Value) → IsListOf (λ v. IsElement ms v) w → ElementBack ms
    → list_in (λ e. read_element ms e) (where_there (elements_in w) (λ vs. array (items_of (map (λ v. data_element ms v) vs)))) >>= (λ vs. Ok (value.List vs)) ≡ Ok (roll-Value w)
elements_list ms (o.List vs) h f = ap (λ r. r >>= (λ vs. Ok (value.List vs))) (elements_back ms vs h f) ∙ ap (λ v. Ok v) (sym (value.rolls-List vs))
elements_list ms _ h f = absurd h

fixed_back : (n : ℕ) (ms : Members) (w : Value-F Value) → IsFixedList n (λ v. IsElement ms v) w → ElementBack ms
    → counted_items n (where_there (elements_in w) (λ vs. array (items_of (map (λ v. data_element ms v) vs)))) >>= (λ ds. items_from (λ e. read_element ms e) 0 ds >>= (λ vs. Ok (value.List vs))) ≡ Ok (roll-Value w)
fixed_back n ms (o.List vs) h f =
    ap (λ r. r >>= (λ ds. items_from (λ e. read_element ms e) 0 ds >>= (λ vs. Ok (value.List vs)))) (counted_back n (map (λ v. data_element ms v) vs) (map_length (λ v. data_element ms v) vs ∙ h.0))
    ∙ ap (λ r. r >>= (λ vs. Ok (value.List vs))) (items_back (λ v. IsElement ms v) (λ e. read_element ms e) (λ v. data_element ms v) vs 0 f h.1)
    ∙ ap (λ v. Ok v) (sym (value.rolls-List vs))
fixed_back n ms _ h f = absurd h

entries_map : (ms : Members) (w : Value-F Value) → IsMap (λ vs. AreMembers ms vs) w → PlacesBack ms
    → list_in (entry_in (length (typed_names ms)) (λ i ds. read_places ms i ds)) (where_there (map_entries_in w) (λ es. array (items_of (map (entry_data (λ vs. data_places ms vs)) es)))) >>= (λ es. Ok (value.Map es)) ≡ Ok (roll-Value w)
entries_map ms (o.Map es) h f = ap (λ r. r >>= (λ es. Ok (value.Map es))) (entries_back ms es h f) ∙ ap (λ v. Ok v) (sym (value.rolls-Map es))
entries_map ms _ h f = absurd h

set_flags_back : (names : List (List ℕ)) (fs : List (List ℕ × Bool)) → map (λ f. f.0) fs ≡ names → AreDistinct names → flags_in names (array (items_of (map (λ n. string n) (set_names fs)))) ≡ Ok (value.Flags fs)
unfolding items_in
set_flags_back names fs e distinct =
    let a = subst AreApart (sym e) (apart names distinct) in
    ap (λ ns. names_from ns [] 0 (items_of (map (λ n. string n) (set_names fs))) >>= (λ given. Ok (value.Flags (flags_given ns given)))) (sym e)
    ∙ ap (λ r. r >>= (λ given. Ok (value.Flags (flags_given (map (λ f. f.0) fs) given)))) (set_names_back fs a)
    ∙ ap (λ fs. Ok (value.Flags fs)) (flags_back fs a)

flagged_back : (ms : Members) (w : Value-F Value) → AreDistinct (names_of ms) → IsFlags ms w → flags_in (names_of ms) (where_there (opened.flags_in w) (λ fs. array (items_of (map (λ n. string n) (set_names fs))))) ≡ Ok (roll-Value w)
flagged_back ms (o.Flags fs) distinct h = set_flags_back (names_of ms) fs h distinct ∙ ap (λ v. Ok v) (sym (value.rolls-Flags fs))
flagged_back ms _ distinct h = absurd h

named_back : (ms : Members) (w : Value-F Value) → AreBare ms → IsCase (λ x vs. HasCase ms x vs) w → enum_in (names_of ms) (where_there (case_in w) (λ c. string c.name)) ≡ Ok (roll-Value w)
unfolding text_in
named_back ms (o.Case x vs) b h =
    let (known, none) = enum_back ms x vs b h in
    ap (λ b. if b then Ok (value.Case x []) else Err (OutOfRange [])) known ∙ ap (λ vs. Ok (value.Case x vs)) (sym none) ∙ ap (λ v. Ok v) (sym (value.rolls-Case x vs))
named_back ms _ b h = absurd h

cased_back : (ms : Members) (w : Value-F Value) → IsCase (λ x vs. HasCase ms x vs) w → CasesBack ms
    → only_member (where_there (case_in w) (λ c. object (json.member c.name (data_case ms c.name c.payload) json.no_members))) >>= (λ m. read_case ms m.0 m.1) ≡ Ok (roll-Value w)
cased_back ms (o.Case x vs) h f = case_back ms x vs h f ∙ ap (λ v. Ok v) (sym (value.rolls-Case x vs))
cased_back ms _ h f = absurd h

-- ---- values of all types

payload_back : (n x : List ℕ) (s : Shape) (vs : List Value) → n ≡ x → ((v : Value) → IsA s v → read s (data_of s v) ≡ Ok v) → IsOnePayload (λ v. IsA s v) vs → at_step (key_step x) (read s (where_first (λ v. data_of s v) vs)) >>= (λ v. Ok (value.Case n (v ∷ []))) ≡ Ok (value.Case x vs)
payload_back n x s [] e f h = absurd h
payload_back n x s (v ∷ []) e f h = ap (λ r. at_step (key_step x) r >>= (λ v. Ok (value.Case n (v ∷ [])))) (f v h) ∙ ap (λ n. Ok (value.Case n (v ∷ []))) e
payload_back n x s (v ∷ w ∷ vs) e f h = absurd h

no_case : (x : List ℕ) (vs : List Value) → HasCase no_members x vs → read_case no_members x (data_case no_members x vs) ≡ Ok (value.Case x vs)
unfolding IsA
no_case x vs h = absurd h

bare_back : (n : List ℕ) (ms : Members) (x : List ℕ) (vs : List Value) → HasCase (bare n ms) x vs → (HasCase ms x vs → read_case ms x (data_case ms x vs) ≡ Ok (value.Case x vs)) → read_case (bare n ms) x (data_case (bare n ms) x vs) ≡ Ok (value.Case x vs)
unfolding read data_of IsA
bare_back n ms x vs h f = here (bytes_eq n x) refl
  where
    at : Bool → Result Value PlanFault
    at b = if b then at_step (key_step x) (null_in (if b then json.null else data_case ms x vs)) >>= (λ _. Ok (value.Case n [])) else read_case ms x (if b then json.null else data_case ms x vs)

    here : (b : Bool) → bytes_eq n x ≡ b → read_case (bare n ms) x (data_case (bare n ms) x vs) ≡ Ok (value.Case x vs)
    here true e = ap at e ∙ (λ j. Ok (value.Case (bytes_are n x e j) (sym (subst (λ b. chosen b (vs ≡ []) (HasCase ms x vs)) e h) j)))
    here false e = ap at e ∙ f (subst (λ b. chosen b (vs ≡ []) (HasCase ms x vs)) e h)

typed_back : (n : List ℕ) (s : Shape) (ms : Members) (x : List ℕ) (vs : List Value) → HasCase (typed n s ms) x vs → ((v : Value) → IsA s v → read s (data_of s v) ≡ Ok v) → (HasCase ms x vs → read_case ms x (data_case ms x vs) ≡ Ok (value.Case x vs)) → read_case (typed n s ms) x (data_case (typed n s ms) x vs) ≡ Ok (value.Case x vs)
unfolding read data_of IsA
typed_back n s ms x vs h g f = here (bytes_eq n x) refl
  where
    at : Bool → Result Value PlanFault
    at b = if b then at_step (key_step x) (read s (if b then where_first (λ v. data_of s v) vs else data_case ms x vs)) >>= (λ v. Ok (value.Case n (v ∷ []))) else read_case ms x (if b then where_first (λ v. data_of s v) vs else data_case ms x vs)

    here : (b : Bool) → bytes_eq n x ≡ b → read_case (typed n s ms) x (data_case (typed n s ms) x vs) ≡ Ok (value.Case x vs)
    here true e = ap at e ∙ payload_back n x s vs (bytes_are n x e) g (subst (λ b. chosen b (IsOnePayload (λ v. IsA s v) vs) (HasCase ms x vs)) e h)
    here false e = ap at e ∙ f (subst (λ b. chosen b (IsOnePayload (λ v. IsA s v) vs) (HasCase ms x vs)) e h)

tuple_count : (ss : List Shape) (i : ℕ) → length (typed_names (members_from i ss)) ≡ length ss
tuple_count [] i = refl
tuple_count (s ∷ ss) i = ap (λ k. suc k) (tuple_count ss (suc i))

mutual
  unfolding read data_of IsA

  -- what is printed of a value of a type is read as that value
  pub read_back : (s : Shape) → IsFormed s → IsRuled s → (v : Value) → IsA s v → read s (data_of s v) ≡ Ok v
  read_back (s_plain p) f r v h = plain_back (plain_of p) (out-Value v) h ∙ ap (λ v. Ok v) (made_of v)
  read_back (s_node k_record ms) f r v h = record_back ms (out-Value v) r.0.distinct h (fields_read_back ms f.1 r.1) ∙ ap (λ v. Ok v) (made_of v)
  read_back (s_node k_tuple ms) f r v h = tuple_back ms (out-Value v) h (places_read_back ms f.1 r.1) ∙ ap (λ v. Ok v) (made_of v)
  read_back (s_node k_list ms) f r v h = elements_list ms (out-Value v) h (element_read_back ms f.1 r.1) ∙ ap (λ v. Ok v) (made_of v)
  read_back (s_node (k_fixed n) ms) f r v h = fixed_back n ms (out-Value v) h (element_read_back ms f.1 r.1) ∙ ap (λ v. Ok v) (made_of v)
  read_back (s_node k_map ms) f r v h = entries_map ms (out-Value v) h (places_read_back ms f.1 r.1) ∙ ap (λ v. Ok v) (made_of v)
  read_back (s_node k_flags ms) f r v h = flagged_back ms (out-Value v) r.0.distinct h ∙ ap (λ v. Ok v) (made_of v)
  read_back (s_node k_enum ms) f r v h = named_back ms (out-Value v) f.0 h ∙ ap (λ v. Ok v) (made_of v)
  read_back (s_node k_variant ms) f r v h = cased_back ms (out-Value v) h (cases_read_back ms f.1 r.1) ∙ ap (λ v. Ok v) (made_of v)
  read_back (s_node k_option ms) f r v h = cased_back ms (out-Value v) h (cases_read_back ms f.1 r.1) ∙ ap (λ v. Ok v) (made_of v)
  read_back (s_node k_result ms) f r v h = cased_back ms (out-Value v) h (cases_read_back ms f.1 r.1) ∙ ap (λ v. Ok v) (made_of v)
  read_back (s_node (k_future table instance) ms) f r v h = handle_back Future table (out-Value v) h ∙ ap (λ v. Ok v) (made_of v)
  read_back (s_node (k_stream table instance) ms) f r v h = handle_back Stream table (out-Value v) h ∙ ap (λ v. Ok v) (made_of v)

  places_read_back : (ms : Members) → AreFormed ms → AreRuled ms → PlacesBack ms
  places_read_back no_members f r [] i h = refl
  places_read_back no_members f r (v ∷ vs) i h = absurd h
  places_read_back (bare n ms) f r vs i h = places_read_back ms f r vs i h
  places_read_back (typed n s ms) f r [] i h = absurd h
  places_read_back (typed n s ms) f r (v ∷ vs) i h =
      ap (λ r. at_step (place_step i) r >>= (λ v. read_places ms (i + 1) (items_of (data_places ms vs)) >>= (λ vs. Ok (v ∷ vs)))) (read_back s f.0 r.0 v h.0)
      ∙ ap (λ r. r >>= (λ vs. Ok (v ∷ vs))) (places_read_back ms f.1 r.1 vs (i + 1) h.1)

  fields_read_back : (ms : Members) → AreFormed ms → AreRuled ms → FieldsBack ms
  fields_read_back no_members f r [] d h at = refl
  fields_read_back no_members f r (v ∷ vs) d h at = absurd h
  fields_read_back (bare n ms) f r vs d h at = fields_read_back ms f r vs d h at
  fields_read_back (typed n s ms) f r [] d h at = absurd h
  fields_read_back (typed n s ms) f r (v ∷ vs) d h at =
      ap (λ o. required_value n o >>= (λ e. at_step (key_step n) (read s e)) >>= (λ v. read_fields ms d >>= (λ vs. Ok (v ∷ vs)))) at.0
      ∙ ap (λ r. at_step (key_step n) r >>= (λ v. read_fields ms d >>= (λ vs. Ok (v ∷ vs)))) (read_back s f.0 r.0 v h.0)
      ∙ ap (λ r. r >>= (λ vs. Ok (v ∷ vs))) (fields_read_back ms f.1 r.1 vs d h.1 at.1)

  cases_read_back : (ms : Members) → AreFormed ms → AreRuled ms → CasesBack ms
  cases_read_back no_members f r x vs h = no_case x vs h
  cases_read_back (bare n ms) f r x vs h = bare_back n ms x vs h (cases_read_back ms f r x vs)
  cases_read_back (typed n s ms) f r x vs h = typed_back n s ms x vs h (read_back s f.0 r.0) (cases_read_back ms f.1 r.1 x vs)

  element_read_back : (ms : Members) → AreFormed ms → AreRuled ms → ElementBack ms
  element_read_back no_members f r v h = absurd h
  element_read_back (bare n ms) f r v h = absurd h
  element_read_back (typed n s ms) f r v h = read_back s f.0 r.0 v h

-- what is printed of values of types, one by one, is read as those values
pub values_read_back : (ss : List Shape) (vs : List Value) → AreFormed (tuple_members ss) → AreRuled (tuple_members ss) → AreMembers (tuple_members ss) vs → values_in ss (values_data ss vs) ≡ Ok vs
unfolding values_in values_data
values_read_back ss vs f r h = ap (λ n. places_in n (λ i ds. read_places (tuple_members ss) i ds) (array (items_of (data_places (tuple_members ss) vs)))) (sym (tuple_count ss 0)) ∙ list_back (tuple_members ss) vs h (places_read_back (tuple_members ss) f r)
