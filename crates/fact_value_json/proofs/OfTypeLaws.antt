-- What is read by a type is a value of the type, where texts are UTF-8.
use Rattle.std.proofs.Common.{◌≡◌, ℕ, ℤ, pos, negsuc, ◌+◌, ◌-◌, ◌^◌, ◌<◌, List, [], ◌∷◌, length, map, Option, Some, None, Result, Ok, Err, Bool, true, false, ◌&&◌, ◌||◌, refl, sym, ap, ◌∙◌, subst, arith, true≢false, nat_abs, IsUtf8}
use Rattle.std.specs.Prelude.{nat_lt, ◌==◌, if◌then◌else◌, chars}
use Rattle.std.specs.Char.{IsScalar}
use Rattle.std.specs.List.{AllByRecursion, zip}
use Rattle.std.specs.Ordering.{nat_cmp, match_ordering}
use Rattle.std.specs.declared.cmp.Ordering.{Ordering}
use Rattle.std.specs.declared.cmp.Ordering.TheVariants.{Less, Equal, Greater}
use Rattle.std.specs.Cmp.Lexicographic.{slice_cmp}
use Rattle.std.specs.Str.{bytes_eq}
use Rattle.std.proofs.lemmas.Str.{scalars-chars}
use lib.Utf8.{scalar, scalars}
use Rattle.serde_json.specs.Data as json
use Rattle.serde_json.specs.Data.{Data, Items, null, boolean, number, string, array, object, no_items, item}
use Rattle.serde_json.specs.Find.{get, get_member}
use Rattle.fact_types.specs.Agrees.{chosen, names_of}
use Rattle.fact_types.specs.Shapes.{k_record, k_variant, k_list, k_tuple, k_map, k_flags, k_enum, k_option, k_result, k_fixed, k_future, k_stream, Shape, s_plain, s_node, Members, no_members, bare, typed}
use Rattle.fact_types.specs.Tuples.{tuple_members}
use Rattle.fact_types.proofs.ShapeLaws.{same_some, none_some}
use Rattle.fact_plan.specs.declared.fault.PlanFault.{PlanFault}
use Rattle.fact_plan.specs.declared.fault.PlanFault.TheVariants.{OutOfRange}
use Rattle.fact_plan.specs.Fault.{at_step, key_step, place_step, ◌>>=◌}
use Rattle.fact_plan.specs.Parts.{bool_in, field, is_known, items_from, known_keys, list_in, required_keys, required_value, text_in, u32_in}
use Rattle.fact_values.specs.declared.value.HandleKind.{HandleKind}
use Rattle.fact_values.specs.declared.value.HandleKind.TheVariants.{Future, Stream}
use Rattle.fact_values.specs.declared.value.Value.{Value, out-Value}
use Rattle.fact_values.specs.declared.value.Value.TheVariants as value
use Rattle.fact_values.specs.Formed.{AreBare, IsFormed, AreFormed}
use Rattle.fact_values.specs.IsA.{IsA, AreMembers, HasCase, IsElement, IsHandle, IsPlainValue, IsUnsigned, IsSigned, IsFlags, IsOnePayload}
use Rattle.fact_values.specs.Load.{entry_of}
use Rattle.fact_values.specs.Numbers.{Plain, boolean as p_boolean, unsigned, signed, float32, float64, character, text, handle, nothing, plain_of}
use Rattle.fact_values.specs.Places.{typed_names}
use Rattle.fact_values.proofs.IsALaws.{bytes_are, bytes_same, record_is, tuple_is, list_is, fixed_list_is, map_is, case_is, handle_is, text_is}
use Rattle.fact_value_json.specs.JsonLaws.{HasTexts, ItemsHaveTexts, MembersHaveTexts}
use Rattle.fact_value_json.specs.Reading.{read, read_plain, read_fields, read_places, read_case, read_element, counted_items, of_length, count_items, items_in, entry_from, entry_in, fields_in, fits_signed, fits_unsigned, flags_in, flags_given, names_in, handle_in, integer_in, null_in, one_scalar, only_member, only_of, places_in, values_at, values_in, within}
use Rattle.fact_value_json.proofs.NameLaws.{not_same}
use Rattle.fact_value_json.proofs.ReadLaws.{list_by_items}

-- ---- what was read first

record Split {A B : Type 0} (a : Result A PlanFault) (f : A → Result B PlanFault) (y : B) : Type 0 where
  pub first : A
  pub is : a ≡ Ok first
  pub next : f first ≡ Ok y

split : {A B : Type 0} (a : Result A PlanFault) (f : A → Result B PlanFault) (y : B) → a >>= f ≡ Ok y → Split a f y
split (Ok x) f y e = record { first = x; is = refl; next = e }
split (Err g) f y e = cc

abbrev given : {A : Type 0} → A → Result A PlanFault
given x = Ok x

same_ok : {A : Type 0} (x y : A) → given x ≡ Ok y → x ≡ y
same_ok x y e = cc

abbrev no_payload : List Value
no_payload = []

inside : {A : Type 0} (front : List ℕ) (a : Result A PlanFault) (x : A) → at_step front a ≡ Ok x → a ≡ Ok x
inside front (Ok y) x e = e
inside front (Err g) x e = cc

when_so : {A : Type 0} (b : Bool) (x : A) (g : PlanFault) (y : A) → (if b then Ok x else Err g) ≡ Ok y → (b ≡ true) × (x ≡ y)
when_so true x g y e = (refl, same_ok x y e)
when_so false x g y e = cc

below : (n m : ℕ) → nat_lt n m ≡ true → n < m
below n m h = grind (arith, h)

-- ---- types without members

int_is_unsigned : (bits : ℕ) (z : ℤ) → fits_unsigned bits z ≡ true → IsUnsigned bits z
int_is_unsigned bits (pos n) h = below n (2 ^ bits) h
int_is_unsigned bits (negsuc n) h = absurd (true≢false (sym h))

int_is_signed : (bits : ℕ) (z : ℤ) → fits_signed bits z ≡ true → IsSigned bits z
int_is_signed bits (pos n) h = below n (2 ^ (bits - 1)) h
int_is_signed bits (negsuc n) h = below n (2 ^ (bits - 1)) h

bits_below : (bits : ℕ) (z : ℤ) → fits_unsigned bits z ≡ true → nat_abs z < 2 ^ bits
bits_below bits (pos n) h = below n (2 ^ bits) h
bits_below bits (negsuc n) h = absurd (true≢false (sym h))

text_of : (d : Data) (s : List ℕ) → HasTexts d → text_in d ≡ Ok s → IsUtf8 s
unfolding text_in
text_of null s h e = cc
text_of (boolean b) s h e = cc
text_of (number n) s h e = cc
text_of (string t) s h e = subst IsUtf8 (same_ok t s e) h
text_of (array ds) s h e = cc
text_of (object ms) s h e = cc

and_true : (b c : Bool) → (b && c) ≡ true → (b ≡ true) × (c ≡ true)
and_true true c e = (refl, e)
and_true false c e = absurd (true≢false (sym e))

are_scalars : (cs : List ℕ) → scalars cs ≡ true → AllByRecursion IsScalar cs
are_scalars [] e = tt
are_scalars (c ∷ cs) e = let (here, more) = and_true (scalar c) (scalars cs) e in (here, are_scalars cs more)

one_scalar_is : (cs : List ℕ) (v : Value) → scalars cs ≡ true → one_scalar cs ≡ Ok v → IsPlainValue character (out-Value v)
one_scalar_is [] v h e = cc
one_scalar_is (c ∷ []) v h e = subst (λ v. IsPlainValue character (out-Value v)) (same_ok (value.Char c) v e) (subst (IsPlainValue character) (sym (value.outs-Char c)) (are_scalars (c ∷ []) h).0)
one_scalar_is (c ∷ k ∷ cs) v h e = cc

u32_below : (d : Data) (n : ℕ) → u32_in d ≡ Ok n → n < 2 ^ 32
unfolding u32_in
u32_below null n e = cc
u32_below (boolean b) n e = cc
u32_below (number (json.unsigned m)) n e = let (b, same) = when_so (nat_lt m (2 ^ 32)) m _ n e in subst (λ n. n < 2 ^ 32) same (below m (2 ^ 32) b)
u32_below (number (json.negative z)) n e = cc
u32_below (number (json.float x)) n e = cc
u32_below (string s) n e = cc
u32_below (array ds) n e = cc
u32_below (object ms) n e = cc

handle_read : (kind : HandleKind) (table : ℕ) (d : Data) (v : Value) → handle_in kind table d ≡ Ok v → IsHandle kind table (out-Value v)
handle_read kind table d v e =
    let s = split (u32_in d) (λ n. Ok (value.Handle kind table n)) v e in
    handle_is kind table s.first v (u32_below d s.first s.is) (same_ok _ v s.next)

plain_is : (p : Plain) (d : Data) (v : Value) → HasTexts d → read_plain p d ≡ Ok v → IsPlainValue p (out-Value v)
plain_is p_boolean d v h e =
    let s = split (bool_in d) (λ b. Ok (value.Bool b)) v e in
    subst (λ v. IsPlainValue p_boolean (out-Value v)) (same_ok _ v s.next) (subst (IsPlainValue p_boolean) (sym (value.outs-Bool s.first)) tt)
plain_is (unsigned bits) d v h e =
    let s = split (integer_in d) (λ z. within (fits_unsigned bits z) (value.Int z)) v e in
    let (fits, same) = when_so (fits_unsigned bits s.first) (value.Int s.first) _ v s.next in
    subst (λ v. IsPlainValue (unsigned bits) (out-Value v)) same (subst (IsPlainValue (unsigned bits)) (sym (value.outs-Int s.first)) (int_is_unsigned bits s.first fits))
plain_is (signed bits) d v h e =
    let s = split (integer_in d) (λ z. within (fits_signed bits z) (value.Int z)) v e in
    let (fits, same) = when_so (fits_signed bits s.first) (value.Int s.first) _ v s.next in
    subst (λ v. IsPlainValue (signed bits) (out-Value v)) same (subst (IsPlainValue (signed bits)) (sym (value.outs-Int s.first)) (int_is_signed bits s.first fits))
plain_is float32 d v h e =
    let s = split (integer_in d) (λ z. within (fits_unsigned 32 z) (value.Float32 (nat_abs z))) v e in
    let (fits, same) = when_so (fits_unsigned 32 s.first) (value.Float32 (nat_abs s.first)) _ v s.next in
    subst (λ v. IsPlainValue float32 (out-Value v)) same (subst (IsPlainValue float32) (sym (value.outs-Float32 (nat_abs s.first))) (bits_below 32 s.first fits))
plain_is float64 d v h e =
    let s = split (integer_in d) (λ z. within (fits_unsigned 64 z) (value.Float64 (nat_abs z))) v e in
    let (fits, same) = when_so (fits_unsigned 64 s.first) (value.Float64 (nat_abs s.first)) _ v s.next in
    subst (λ v. IsPlainValue float64 (out-Value v)) same (subst (IsPlainValue float64) (sym (value.outs-Float64 (nat_abs s.first))) (bits_below 64 s.first fits))
plain_is character d v h e =
    let s = split (text_in d) (λ s. one_scalar (chars s)) v e in
    one_scalar_is (chars s.first) v (scalars-chars s.first (text_of d s.first h s.is)) s.next
plain_is text d v h e =
    let s = split (text_in d) (λ s. Ok (value.Str (chars s))) v e in
    text_is (chars s.first) v (are_scalars (chars s.first) (scalars-chars s.first (text_of d s.first h s.is))) (same_ok _ v s.next)
plain_is (handle kind table) d v h e = handle_read kind table d v e
plain_is nothing d v h e = cc

-- ---- parts of JSON values

items_of_texts : (d : Data) (ds : Items) → HasTexts d → items_in d ≡ Ok ds → ItemsHaveTexts ds
unfolding items_in
items_of_texts null ds h e = cc
items_of_texts (boolean b) ds h e = cc
items_of_texts (number n) ds h e = cc
items_of_texts (string s) ds h e = cc
items_of_texts (array es) ds h e = subst ItemsHaveTexts (same_ok es ds e) h
items_of_texts (object ms) ds h e = cc

member_texts : (k : List ℕ) (ms : json.Members) (e : Data) → MembersHaveTexts ms → get_member k ms ≡ Some e → HasTexts e
member_texts k json.no_members e h at = absurd (none_some None e refl at)
member_texts k (json.member l d ms) e h at = go (slice_cmp nat_cmp k l) at (λ q. member_texts k ms e h.1 q)
  where
    go : (o : Ordering) → match_ordering o (get_member k ms) (Some d) (get_member k ms) ≡ Some e → (get_member k ms ≡ Some e → HasTexts e) → HasTexts e
    go Less at f = f at
    go Equal at f = subst HasTexts (same_some (Some d) d e refl at) h.0
    go Greater at f = f at

value_texts : (k : List ℕ) (d : Data) (e : Data) → HasTexts d → get k d ≡ Some e → HasTexts e
value_texts k null e h at = absurd (none_some None e refl at)
value_texts k (boolean b) e h at = absurd (none_some None e refl at)
value_texts k (number n) e h at = absurd (none_some None e refl at)
value_texts k (string s) e h at = absurd (none_some None e refl at)
value_texts k (array ds) e h at = absurd (none_some None e refl at)
value_texts k (object ms) e h at = member_texts k ms e h at

only_texts : (ms : json.Members) (m : List ℕ × Data) → MembersHaveTexts ms → only_of ms ≡ Ok m → HasTexts m.1
only_texts json.no_members m h e = cc
only_texts (json.member k d json.no_members) m h e = subst (λ (m : List ℕ × Data). HasTexts m.1) (same_ok (k, d) m e) h.0
only_texts (json.member k d (json.member l c ms)) m h e = cc

only_member_texts : (d : Data) (m : List ℕ × Data) → HasTexts d → only_member d ≡ Ok m → HasTexts m.1
unfolding only_member
only_member_texts null m h e = cc
only_member_texts (boolean b) m h e = cc
only_member_texts (number n) m h e = cc
only_member_texts (string s) m h e = cc
only_member_texts (array ds) m h e = cc
only_member_texts (object ms) m h e = only_texts ms m h e

-- ---- lists

each_item : {X : Type 0} (P : X → Type 0) (f : Data → Result X PlanFault) (i : ℕ) (ds : Items) (xs : List X) → ((d : Data) (x : X) → HasTexts d → f d ≡ Ok x → P x) → ItemsHaveTexts ds → items_from f i ds ≡ Ok xs → (length xs ≡ count_items ds) × AllByRecursion P xs
each_item P f i no_items xs g h e = subst (λ xs. (length xs ≡ 0) × AllByRecursion P xs) (same_ok [] xs e) (refl, tt)
each_item P f i (item d ds) xs g h e =
    let s = split (at_step (place_step i) (f d)) (λ x. items_from f (i + 1) ds >>= (λ xs. Ok (x ∷ xs))) xs e in
    let r = split (items_from f (i + 1) ds) (λ ys. Ok (s.first ∷ ys)) xs s.next in
    let (count, all) = each_item P f (i + 1) ds r.first g h.1 r.is in
    subst (λ xs. (length xs ≡ count_items (item d ds)) × AllByRecursion P xs) (same_ok (s.first ∷ r.first) xs r.next) (omega (arith, count), (g d s.first h.0 (inside (place_step i) (f d) s.first s.is), all))

each_of_list : {X : Type 0} (P : X → Type 0) (f : Data → Result X PlanFault) (d : Data) (xs : List X) → ((d : Data) (x : X) → HasTexts d → f d ≡ Ok x → P x) → HasTexts d → list_in f d ≡ Ok xs → AllByRecursion P xs
each_of_list P f d xs g h e =
    let s = split (items_in d) (λ ds. items_from f 0 ds) xs (sym (list_by_items f d) ∙ e) in
    (each_item P f 0 s.first xs g (items_of_texts d s.first h s.is) s.next).1

counted_is : (n : ℕ) (d : Data) (ds : Items) → counted_items n d ≡ Ok ds → (items_in d ≡ Ok ds) × (count_items ds ≡ n)
counted_is n d ds e =
    let s = split (items_in d) (of_length n) ds e in
    let (count, same) = when_so (count_items s.first == n) s.first _ ds s.next in
    (s.is ∙ ap (λ ds. Ok ds) same, subst (λ ds. count_items ds ≡ n) same (grind (arith, count)))

-- ---- flags and enums

names_given : (names given : List (List ℕ)) → map (λ f. f.0) (flags_given names given) ≡ names
names_given [] given = refl
names_given (n ∷ names) given = ap (λ l. n ∷ l) (names_given names given)

flags_read : (ms : Members) (d : Data) (v : Value) → flags_in (names_of ms) d ≡ Ok v → IsFlags ms (out-Value v)
flags_read ms d v e =
    let s = split (names_in (names_of ms) d) (λ given. Ok (value.Flags (flags_given (names_of ms) given))) v e in
    subst (λ v. IsFlags ms (out-Value v)) (same_ok _ v s.next) (subst (IsFlags ms) (sym (value.outs-Flags (flags_given (names_of ms) s.first))) (names_given (names_of ms) s.first))

or_right : (b c : Bool) → b ≡ false → (b || c) ≡ true → c ≡ true
or_right true c f e = absurd (true≢false f)
or_right false c f e = e

enum_at : (b : Bool) (n x : List ℕ) (ms : Members) → bytes_eq n x ≡ b → is_known (n ∷ names_of ms) x ≡ true → (is_known (names_of ms) x ≡ true → HasCase ms x []) → chosen b (no_payload ≡ []) (HasCase ms x [])
enum_at true n x ms e known f = refl
enum_at false n x ms e known f = f (or_right (bytes_eq x n) (is_known (names_of ms) x) (not_same x n (λ q. true≢false (sym (bytes_same x) ∙ ap (λ n. bytes_eq n x) q ∙ e))) known)

enum_has : (ms : Members) (x : List ℕ) → AreBare ms → is_known (names_of ms) x ≡ true → HasCase ms x []
unfolding IsA
enum_has no_members x b known = absurd (true≢false (sym known))
enum_has (bare n ms) x b known = enum_at (bytes_eq n x) n x ms refl known (λ k. enum_has ms x b k)
enum_has (typed n s ms) x b known = absurd b

-- ---- what members are read as

abbrev pub CaseRead : Members → List ℕ → Value → Type 0
CaseRead ms x v = (vs : List Value) × (v ≡ value.Case x vs) × HasCase ms x vs

case_past_bare : (n x : List ℕ) (ms : Members) (v : Value) → bytes_eq n x ≡ false → CaseRead ms x v → CaseRead (bare n ms) x v
unfolding IsA
case_past_bare n x ms v e c = (c.0, c.1, subst (λ b. chosen b (c.0 ≡ []) (HasCase ms x c.0)) (sym e) c.2)

case_past_typed : (n x : List ℕ) (s : Shape) (ms : Members) (v : Value) → bytes_eq n x ≡ false → CaseRead ms x v → CaseRead (typed n s ms) x v
unfolding IsA
case_past_typed n x s ms v e c = (c.0, c.1, subst (λ b. chosen b (IsOnePayload (λ v. IsA s v) c.0) (HasCase ms x c.0)) (sym e) c.2)

case_here_bare : (n x : List ℕ) (ms : Members) (d : Data) (v : Value) → bytes_eq n x ≡ true → at_step (key_step x) (null_in d) >>= (λ _. Ok (value.Case n [])) ≡ Ok v → CaseRead (bare n ms) x v
unfolding IsA
case_here_bare n x ms d v e q =
    let s = split (at_step (key_step x) (null_in d)) (λ _. Ok (value.Case n [])) v q in
    ([], sym (same_ok _ v s.next) ∙ ap (λ n. value.Case n []) (bytes_are n x e), subst (λ b. chosen b (no_payload ≡ []) (HasCase ms x [])) (sym e) refl)

case_here_typed : (n x : List ℕ) (s : Shape) (ms : Members) (d : Data) (v : Value) → bytes_eq n x ≡ true → ((w : Value) → read s d ≡ Ok w → IsA s w) → at_step (key_step x) (read s d) >>= (λ v. Ok (value.Case n (v ∷ []))) ≡ Ok v → CaseRead (typed n s ms) x v
unfolding IsA
case_here_typed n x s ms d v e f q =
    let r = split (at_step (key_step x) (read s d)) (λ v. Ok (value.Case n (v ∷ []))) v q in
    let is = f r.first (inside (key_step x) (read s d) r.first r.is) in
    (r.first ∷ [], sym (same_ok _ v r.next) ∙ ap (λ n. value.Case n (r.first ∷ [])) (bytes_are n x e), subst (λ b. chosen b (IsOnePayload (λ v. IsA s v) (r.first ∷ [])) (HasCase ms x (r.first ∷ []))) (sym e) is)

bare_case_read : (b : Bool) (n x : List ℕ) (ms : Members) (d : Data) (v : Value) → bytes_eq n x ≡ b → (if b then at_step (key_step x) (null_in d) >>= (λ _. Ok (value.Case n [])) else read_case ms x d) ≡ Ok v → (read_case ms x d ≡ Ok v → CaseRead ms x v) → CaseRead (bare n ms) x v
bare_case_read true n x ms d v e q f = case_here_bare n x ms d v e q
bare_case_read false n x ms d v e q f = case_past_bare n x ms v e (f q)

typed_case_read : (b : Bool) (n x : List ℕ) (s : Shape) (ms : Members) (d : Data) (v : Value) → bytes_eq n x ≡ b → (if b then at_step (key_step x) (read s d) >>= (λ v. Ok (value.Case n (v ∷ []))) else read_case ms x d) ≡ Ok v → ((w : Value) → read s d ≡ Ok w → IsA s w) → (read_case ms x d ≡ Ok v → CaseRead ms x v) → CaseRead (typed n s ms) x v
typed_case_read true n x s ms d v e q g f = case_here_typed n x s ms d v e g q
typed_case_read false n x s ms d v e q g f = case_past_typed n x s ms v e (f q)

-- ---- types with members, by what was read of their members

record_read : (ms : Members) (d : Data) (v : Value) → ((vs : List Value) → read_fields ms d ≡ Ok vs → AreMembers ms vs) → fields_in (typed_names ms) (λ e. read_fields ms e) d ≡ Ok v → (vs : List Value) × AreMembers ms vs × (value.Record (zip (typed_names ms) vs) ≡ v)
record_read ms d v f e =
    let s = split (known_keys (typed_names ms) d) (λ _. required_keys (typed_names ms) d >>= (λ _. read_fields ms d >>= (λ vs. Ok (value.Record (zip (typed_names ms) vs))))) v e in
    let r = split (required_keys (typed_names ms) d) (λ _. read_fields ms d >>= (λ vs. Ok (value.Record (zip (typed_names ms) vs)))) v s.next in
    let q = split (read_fields ms d) (λ vs. Ok (value.Record (zip (typed_names ms) vs))) v r.next in
    (q.first, f q.first q.is, same_ok _ v q.next)

places_of_list : (ms : Members) (d : Data) (vs : List Value) → HasTexts d → ((ds : Items) (vs : List Value) → ItemsHaveTexts ds → read_places ms 0 ds ≡ Ok vs → AreMembers ms vs) → places_in (length (typed_names ms)) (λ i ds. read_places ms i ds) d ≡ Ok vs → AreMembers ms vs
places_of_list ms d vs h f e =
    let s = split (counted_items (length (typed_names ms)) d) (λ ds. read_places ms 0 ds) vs e in
    let (is, count) = counted_is (length (typed_names ms)) d s.first s.is in
    f s.first vs (items_of_texts d s.first h is) s.next

entry_read : (Are : List Value → Type 0) (vs : List Value) (e : Value × Value) → Are vs → entry_from (entry_of vs) ≡ Ok e → Are (e.0 ∷ e.1 ∷ [])
entry_read Are [] e h q = cc
entry_read Are (k ∷ []) e h q = cc
entry_read Are (k ∷ w ∷ []) e h q = subst (λ (e : Value × Value). Are (e.0 ∷ e.1 ∷ [])) (same_ok (k, w) e q) h
entry_read Are (k ∷ w ∷ u ∷ vs) e h q = cc

entries_of_list : (ms : Members) (d : Data) (es : List (Value × Value)) → HasTexts d → ((ds : Items) (vs : List Value) → ItemsHaveTexts ds → read_places ms 0 ds ≡ Ok vs → AreMembers ms vs) → list_in (entry_in (length (typed_names ms)) (λ i ds. read_places ms i ds)) d ≡ Ok es → AllByRecursion (λ e. AreMembers ms (e.0 ∷ e.1 ∷ [])) es
entries_of_list ms d es h f e =
    each_of_list (λ e. AreMembers ms (e.0 ∷ e.1 ∷ [])) (entry_in (length (typed_names ms)) (λ i ds. read_places ms i ds)) d es
    (λ d e t q. let s = split (places_in (length (typed_names ms)) (λ i ds. read_places ms i ds) d) (λ vs. entry_from (entry_of vs)) e q in entry_read (λ vs. AreMembers ms vs) s.first e (places_of_list ms d s.first t f s.is) s.next) h e

found : (o : Option Data) (n : List ℕ) (f : Data → Result Value PlanFault) (v : Value) → required_value n o >>= (λ e. at_step (key_step n) (f e)) ≡ Ok v → (e : Data) × (o ≡ Some e) × (at_step (key_step n) (f e) ≡ Ok v)
found None n f v e = cc
found (Some d) n f v e = (d, refl, e)

mutual
  unfolding read IsA

  -- what is read by a type is a value of the type
  pub read_is_a : (s : Shape) → IsFormed s → (d : Data) (v : Value) → HasTexts d → read s d ≡ Ok v → IsA s v
  read_is_a (s_plain p) f d v h e = plain_is (plain_of p) d v h e
  read_is_a (s_node k_record ms) f d v h e = let r = record_read ms d v (λ vs q. fields_are ms f.1 d vs h q) e in record_is ms r.0 v r.1 r.2
  read_is_a (s_node k_tuple ms) f d v h e =
      let s = split (places_in (length (typed_names ms)) (λ i ds. read_places ms i ds) d) (λ vs. Ok (value.Tuple vs)) v e in
      tuple_is (λ vs. AreMembers ms vs) s.first v (places_of_list ms d s.first h (λ ds vs t q. places_are ms f.1 0 ds vs t q) s.is) (same_ok _ v s.next)
  read_is_a (s_node k_list ms) f d v h e =
      let s = split (list_in (λ e. read_element ms e) d) (λ vs. Ok (value.List vs)) v e in
      list_is (λ w. IsElement ms w) s.first v (each_of_list (λ w. IsElement ms w) (λ e. read_element ms e) d s.first (λ d w t q. element_is ms f.1 d w t q) h s.is) (same_ok _ v s.next)
  read_is_a (s_node (k_fixed n) ms) f d v h e =
      let s = split (counted_items n d) (λ ds. items_from (λ e. read_element ms e) 0 ds >>= (λ vs. Ok (value.List vs))) v e in
      let r = split (items_from (λ e. read_element ms e) 0 s.first) (λ vs. Ok (value.List vs)) v s.next in
      let (is, count) = counted_is n d s.first s.is in
      let (len, all) = each_item (λ w. IsElement ms w) (λ e. read_element ms e) 0 s.first r.first (λ d w t q. element_is ms f.1 d w t q) (items_of_texts d s.first h is) r.is in
      fixed_list_is n (λ w. IsElement ms w) r.first v (len ∙ count) all (same_ok _ v r.next)
  read_is_a (s_node k_map ms) f d v h e =
      let s = split (list_in (entry_in (length (typed_names ms)) (λ i ds. read_places ms i ds)) d) (λ es. Ok (value.Map es)) v e in
      map_is (λ vs. AreMembers ms vs) s.first v (entries_of_list ms d s.first h (λ ds vs t q. places_are ms f.1 0 ds vs t q) s.is) (same_ok _ v s.next)
  read_is_a (s_node k_flags ms) f d v h e = flags_read ms d v e
  read_is_a (s_node k_enum ms) f d v h e =
      let s = split (text_in d) (λ s. if is_known (names_of ms) s then Ok (value.Case s []) else Err (OutOfRange [])) v e in
      let (known, same) = when_so (is_known (names_of ms) s.first) (value.Case s.first []) _ v s.next in
      case_is (λ x vs. HasCase ms x vs) s.first [] v (enum_has ms s.first f.0 known) (sym same)
  read_is_a (s_node k_variant ms) f d v h e =
      let s = split (only_member d) (λ m. read_case ms m.0 m.1) v e in
      let c = case_is_read ms f.1 s.first.0 s.first.1 v (only_member_texts d s.first h s.is) s.next in
      case_is (λ x vs. HasCase ms x vs) s.first.0 c.0 v c.2 c.1
  read_is_a (s_node k_option ms) f d v h e =
      let s = split (only_member d) (λ m. read_case ms m.0 m.1) v e in
      let c = case_is_read ms f.1 s.first.0 s.first.1 v (only_member_texts d s.first h s.is) s.next in
      case_is (λ x vs. HasCase ms x vs) s.first.0 c.0 v c.2 c.1
  read_is_a (s_node k_result ms) f d v h e =
      let s = split (only_member d) (λ m. read_case ms m.0 m.1) v e in
      let c = case_is_read ms f.1 s.first.0 s.first.1 v (only_member_texts d s.first h s.is) s.next in
      case_is (λ x vs. HasCase ms x vs) s.first.0 c.0 v c.2 c.1
  read_is_a (s_node (k_future table instance) ms) f d v h e = handle_read Future table d v e
  read_is_a (s_node (k_stream table instance) ms) f d v h e = handle_read Stream table d v e

  pub places_are : (ms : Members) → AreFormed ms → (i : ℕ) (ds : Items) (vs : List Value) → ItemsHaveTexts ds → read_places ms i ds ≡ Ok vs → AreMembers ms vs
  places_are no_members f i ds vs h e = subst (λ vs. AreMembers no_members vs) (same_ok [] vs e) tt
  places_are (bare n ms) f i ds vs h e = places_are ms f i ds vs h e
  places_are (typed n s ms) f i no_items vs h e = cc
  places_are (typed n s ms) f i (item d ds) vs h e =
      let q = split (at_step (place_step i) (read s d)) (λ v. read_places ms (i + 1) ds >>= (λ vs. Ok (v ∷ vs))) vs e in
      let r = split (read_places ms (i + 1) ds) (λ vs. Ok (q.first ∷ vs)) vs q.next in
      subst (λ vs. AreMembers (typed n s ms) vs) (same_ok (q.first ∷ r.first) vs r.next) (read_is_a s f.0 d q.first h.0 (inside (place_step i) (read s d) q.first q.is), places_are ms f.1 (i + 1) ds r.first h.1 r.is)

  fields_are : (ms : Members) → AreFormed ms → (d : Data) (vs : List Value) → HasTexts d → read_fields ms d ≡ Ok vs → AreMembers ms vs
  fields_are no_members f d vs h e = subst (λ vs. AreMembers no_members vs) (same_ok [] vs e) tt
  fields_are (bare n ms) f d vs h e = fields_are ms f d vs h e
  fields_are (typed n s ms) f d vs h e =
      let q = split (field (λ e. read s e) n d) (λ v. read_fields ms d >>= (λ vs. Ok (v ∷ vs))) vs e in
      let r = split (read_fields ms d) (λ vs. Ok (q.first ∷ vs)) vs q.next in
      let p = found (get n d) n (λ e. read s e) q.first q.is in
      subst (λ vs. AreMembers (typed n s ms) vs) (same_ok (q.first ∷ r.first) vs r.next) (read_is_a s f.0 p.0 q.first (value_texts n d p.0 h p.1) (inside (key_step n) (read s p.0) q.first p.2), fields_are ms f.1 d r.first h r.is)

  case_is_read : (ms : Members) → AreFormed ms → (x : List ℕ) (d : Data) (v : Value) → HasTexts d → read_case ms x d ≡ Ok v → CaseRead ms x v
  case_is_read no_members f x d v h e = cc
  case_is_read (bare n ms) f x d v h e = bare_case_read (bytes_eq n x) n x ms d v refl e (λ q. case_is_read ms f x d v h q)
  case_is_read (typed n s ms) f x d v h e = typed_case_read (bytes_eq n x) n x s ms d v refl e (λ w q. read_is_a s f.0 d w h q) (λ q. case_is_read ms f.1 x d v h q)

  element_is : (ms : Members) → AreFormed ms → (d : Data) (v : Value) → HasTexts d → read_element ms d ≡ Ok v → IsElement ms v
  element_is no_members f d v h e = cc
  element_is (bare n ms) f d v h e = cc
  element_is (typed n s ms) f d v h e = read_is_a s f.0 d v h e

-- what is read by types, one by one, are values of the types
pub values_are : (ss : List Shape) (d : Data) (vs : List Value) → AreFormed (tuple_members ss) → HasTexts d → values_in ss d ≡ Ok vs → AreMembers (tuple_members ss) vs
unfolding values_in
values_are ss d vs f h e =
    let s = split (counted_items (length ss) d) (λ ds. read_places (tuple_members ss) 0 ds) vs e in
    let (is, count) = counted_is (length ss) d s.first s.is in
    places_are (tuple_members ss) f 0 s.first vs (items_of_texts d s.first h is) s.next

pub values_at_are : (path : List ℕ) (ss : List Shape) (d : Data) (vs : List Value) → AreFormed (tuple_members ss) → HasTexts d → values_at path ss d ≡ Ok vs → AreMembers (tuple_members ss) vs
unfolding values_at
values_at_are path ss d vs f h e = values_are ss d vs f h (inside path (values_in ss d) vs e)
