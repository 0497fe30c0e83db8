-- A value that is loaded or lifted is a value of its type.
use Rattle.std.proofs.Common.{◌≡◌, ℕ, zero, suc, ◌+◌, ◌*◌, ◌^◌, ◌/◌, ◌<◌, List, [], ◌∷◌, length, map, Option, Some, None, refl, sym, ap, ◌∙◌, subst, arith, lit≤}
use Rattle.std.specs.Prelude.{Bool, true, false, slice_get, option_map}
use Rattle.std.specs.Char.{IsScalar}
use Rattle.std.specs.List.{AllByRecursion, zip}
use Rattle.std.specs.Str.{bytes_eq}
use Rattle.std.proofs.lemmas.Slice.Eq.{bytes_eq-Decides}
use Rattle.std.specs.Cmp.Lexicographic.{nat_list_eq_equiv}
use Rattle.fact_types.specs.declared.interface.InterfaceType.{InterfaceType}
use Rattle.fact_types.specs.declared.interface.InterfaceType.TheVariants as ty
use Rattle.fact_types.specs.declared.extents.MemoryWidth.{MemoryWidth}
use Rattle.fact_types.specs.declared.extents.MemoryWidth.TheVariants.{Memory32, Memory64}
use Rattle.fact_types.specs.Agrees.{chosen, names_of}
use Rattle.fact_types.specs.Layout.{extent, scalar_layout}
use Rattle.fact_types.specs.Shapes.{Kind, k_record, k_variant, k_list, k_tuple, k_map, k_flags, k_enum, k_option, k_result, k_fixed, k_future, k_stream, Shape, s_plain, s_node, Members, no_members, bare, typed, place_of, next_of}
use Rattle.fact_types.specs.Options.{◌>>=◌}
use Rattle.fact_types.specs.Valid.{AreDistinct, IsRuled, AreRuled}
use Rattle.fact_types.proofs.ShapeLaws.{same_some, none_some}
use Rattle.fact_values.specs.Bytes.{AreBytes}
use Rattle.fact_values.specs.declared.side.SideAbi.{SideAbi}
use Rattle.fact_values.specs.declared.value.HandleKind.{HandleKind}
use Rattle.fact_values.specs.declared.value.HandleKind.TheVariants.{Future, Stream}
use Rattle.fact_values.specs.declared.value.Value.{Value, out-Value}
use Rattle.fact_values.specs.declared.value.Value.TheVariants as value
use Rattle.fact_values.specs.IsA.{IsHandle, IsPlainValue, IsRecord, IsTuple, IsListOf, IsFixedList, IsMap, IsFlags, IsCase, IsOnePayload, IsA, AreMembers, HasCase, IsElement}
use Rattle.fact_values.specs.Load.{load, load_members, load_case, load_element, load_plain, load_variant, text_value, elements_of, list_value, map_value, entry_of}
use Rattle.fact_values.specs.Numbers.{Plain, boolean, unsigned, signed, float32, float64, character, text, handle, nothing, plain_of, value_of_number, flags_of_number, number_in}
use Rattle.fact_values.specs.Places.{width_of, extent_on, case_bytes, payload_place, flags_bytes, element_extent, typed_names, Pair, pair_at, each_at}
use Rattle.fact_values.specs.Texts.{lies_aligned, text_at}
use Rattle.fact_values.proofs.NumberLaws.{then_some, map_some, when_some, number_small, IsSmall, number_is_a, text_scalars}

-- ---- names

pub bytes_same : (x : List ℕ) → bytes_eq x x ≡ true
bytes_same x = nat_list_eq_equiv.refl x

pub bytes_are : (x y : List ℕ) → bytes_eq x y ≡ true → x ≡ y
bytes_are x y e = (bytes_eq-Decides x y).0 e

-- ---- the forms of values

members_named : (ms : Members) (vs : List Value) → AreMembers ms vs → (map (λ f. f.0) (zip (typed_names ms) vs) ≡ typed_names ms) × (map (λ f. f.1) (zip (typed_names ms) vs) ≡ vs)
unfolding IsA
members_named no_members [] h = (refl, refl)
members_named no_members (v ∷ vs) h = absurd h
members_named (bare n ms) vs h = members_named ms vs h
members_named (typed n s ms) [] h = absurd h
members_named (typed n s ms) (v ∷ vs) h = let (a, b) = members_named ms vs h.1 in (ap (λ l. n ∷ l) a, ap (λ l. v ∷ l) b)

pub record_is : (ms : Members) (vs : List Value) (v : Value) → AreMembers ms vs → value.Record (zip (typed_names ms) vs) ≡ v → IsRecord ms (λ vs. AreMembers ms vs) (out-Value v)
record_is ms vs v h e =
    let (a, b) = members_named ms vs h in
    subst (λ v. IsRecord ms (λ vs. AreMembers ms vs) (out-Value v)) e
    (subst (IsRecord ms (λ vs. AreMembers ms vs)) (sym (value.outs-Record (zip (typed_names ms) vs))) (a, subst (AreMembers ms) (sym b) h))

pub tuple_is : (Are : List Value → Type 0) (vs : List Value) (v : Value) → Are vs → value.Tuple vs ≡ v → IsTuple Are (out-Value v)
tuple_is Are vs v h e = subst (λ v. IsTuple Are (out-Value v)) e (subst (IsTuple Are) (sym (value.outs-Tuple vs)) h)

pub list_is : (Is : Value → Type 0) (vs : List Value) (v : Value) → AllByRecursion Is vs → value.List vs ≡ v → IsListOf Is (out-Value v)
list_is Is vs v h e = subst (λ v. IsListOf Is (out-Value v)) e (subst (IsListOf Is) (sym (value.outs-List vs)) h)

pub fixed_list_is : (n : ℕ) (Is : Value → Type 0) (vs : List Value) (v : Value) → length vs ≡ n → AllByRecursion Is vs → value.List vs ≡ v → IsFixedList n Is (out-Value v)
fixed_list_is n Is vs v l h e = subst (λ v. IsFixedList n Is (out-Value v)) e (subst (IsFixedList n Is) (sym (value.outs-List vs)) (l, h))

pub map_is : (Are : List Value → Type 0) (es : List (Value × Value)) (v : Value) → AllByRecursion (λ e. Are (e.0 ∷ e.1 ∷ [])) es → value.Map es ≡ v → IsMap Are (out-Value v)
map_is Are es v h e = subst (λ v. IsMap Are (out-Value v)) e (subst (IsMap Are) (sym (value.outs-Map es)) h)

flags_named : (names : List (List ℕ)) (n : ℕ) → map (λ f. f.0) (flags_of_number names n) ≡ names
flags_named [] n = refl
flags_named (x ∷ xs) n = ap (λ l. x ∷ l) (flags_named xs (n / 2))

pub flags_is : (ms : Members) (n : ℕ) (v : Value) → value.Flags (flags_of_number (names_of ms) n) ≡ v → IsFlags ms (out-Value v)
flags_is ms n v e = subst (λ v. IsFlags ms (out-Value v)) e (subst (IsFlags ms) (sym (value.outs-Flags (flags_of_number (names_of ms) n))) (flags_named (names_of ms) n))

pub case_is : (Is : List ℕ → List Value → Type 0) (x : List ℕ) (vs : List Value) (v : Value) → Is x vs → v ≡ value.Case x vs → IsCase Is (out-Value v)
case_is Is x vs v h e = subst (λ v. IsCase Is (out-Value v)) (sym e) (subst (IsCase Is) (sym (value.outs-Case x vs)) h)

pub handle_is : (kind : HandleKind) (table n : ℕ) (v : Value) → n < 2 ^ 32 → value.Handle kind table n ≡ v → IsHandle kind table (out-Value v)
handle_is kind table n v h e = subst (λ v. IsHandle kind table (out-Value v)) e (subst (IsHandle kind table) (sym (value.outs-Handle kind table n)) (refl, refl, h))

pub text_is : (cs : List ℕ) (v : Value) → AllByRecursion IsScalar cs → value.Str cs ≡ v → IsPlainValue text (out-Value v)
text_is cs v h e = subst (λ v. IsPlainValue text (out-Value v)) e (subst (IsPlainValue text) (sym (value.outs-Str cs)) h)

-- ---- several values

pub each_is : {A : Type 0} (P : A → Type 0) (n stride : ℕ) (f : ℕ → Option A) (a : ℕ) (vs : List A) → ((b : ℕ) (v : A) → f b ≡ Some v → P v) → each_at n stride f a ≡ Some vs → (length vs ≡ n) × AllByRecursion P vs
each_is P zero stride f a vs h e = subst (λ vs. (length vs ≡ 0) × AllByRecursion P vs) (same_some _ [] vs refl e) (refl, tt)
each_is P (suc n) stride f a vs h e =
    let (v, here, rest) = then_some (f a) _ vs e in
    let (ws, there, is) = then_some (each_at n stride f (a + stride)) _ vs rest in
    let (l, all) = each_is P n stride f (a + stride) ws h there in
    subst (λ vs. (length vs ≡ suc n) × AllByRecursion P vs) (same_some _ (v ∷ ws) vs refl is) (ap suc l, (h a v here, all))

entry_is : (Are : List Value → Type 0) (vs : List Value) (e : Value × Value) → Are vs → entry_of vs ≡ Some e → Are (e.0 ∷ e.1 ∷ [])
entry_is Are [] e h q = absurd (none_some None e refl q)
entry_is Are (k ∷ []) e h q = absurd (none_some None e refl q)
entry_is Are (k ∷ w ∷ []) e h q = subst (λ e. Are (e.0 ∷ e.1 ∷ [])) (same_some _ (k, w) e refl q) h
entry_is Are (k ∷ w ∷ u ∷ vs) e h q = absurd (none_some None e refl q)

-- the elements behind a pointer
elements_are : {A : Type 0} (P : A → Type 0) (side : SideAbi) (bytes : List ℕ) (k : Kind) (ms : Members) (f : ℕ → Option A) (p : Pair) (vs : List A) → ((b : ℕ) (v : A) → f b ≡ Some v → P v) → elements_of side bytes k ms f p ≡ Some vs → AllByRecursion P vs
elements_are P side bytes k ms f p vs h e =
    let (inside, there) = when_some (lies_aligned bytes (element_extent side k ms).align p.pointer (p.count * (element_extent side k ms).size)) _ vs e in
    (each_is P p.count (element_extent side k ms).size f p.pointer vs h there).1

pub list_value_is : (Is : Value → Type 0) (side : SideAbi) (bytes : List ℕ) (ms : Members) (element : ℕ → Option Value) (p : Pair) (v : Value) → ((b : ℕ) (w : Value) → element b ≡ Some w → Is w) → list_value side bytes ms element p ≡ Some v → IsListOf Is (out-Value v)
list_value_is Is side bytes ms element p v h e =
    let (vs, there, is) = map_some (λ vs. value.List vs) (elements_of side bytes k_list ms element p) v e in
    list_is Is vs v (elements_are Is side bytes k_list ms element p vs h there) is

pub map_value_is : (Are : List Value → Type 0) (side : SideAbi) (bytes : List ℕ) (ms : Members) (members : ℕ → Option (List Value)) (p : Pair) (v : Value) → ((b : ℕ) (vs : List Value) → members b ≡ Some vs → Are vs) → map_value side bytes ms members p ≡ Some v → IsMap Are (out-Value v)
map_value_is Are side bytes ms members p v h e =
    let (es, there, is) = map_some (λ es. value.Map es) (elements_of side bytes k_map ms (λ a. members a >>= (λ vs. entry_of vs)) p) v e in
    map_is Are es v (elements_are (λ e. Are (e.0 ∷ e.1 ∷ [])) side bytes k_map ms (λ a. members a >>= (λ vs. entry_of vs)) p es
    (λ b e q. let (vs, here, one) = then_some (members b) (λ vs. entry_of vs) e q in entry_is Are vs e (h b vs here) one) there) is

pub text_value_is : (side : SideAbi) (bytes : List ℕ) (p : Pair) (v : Value) → AreBytes bytes → text_value side bytes p ≡ Some v → IsPlainValue text (out-Value v)
text_value_is side bytes p v h e =
    let (cs, there, is) = map_some (λ cs. value.Str cs) (text_at side.encoding bytes p.pointer p.count) v e in
    text_is cs v (text_scalars side.encoding bytes p.pointer p.count cs h there) is

-- ---- cases with distinct names

pub distinct_rest : (x : List ℕ) (xs : List (List ℕ)) → AreDistinct (x ∷ xs) → AreDistinct xs
distinct_rest x xs d i j y p q = suc_same i j (d (suc i) (suc j) y p q)
  where
    suc_same : (i j : ℕ) → suc i ≡ suc j → i ≡ j
    suc_same i j e = omega (arith, e)

distinct_first : (x : List ℕ) (xs : List (List ℕ)) (i : ℕ) (y : List ℕ) → AreDistinct (x ∷ xs) → slice_get xs i ≡ Some y → bytes_eq x y ≡ false
distinct_first x xs i y d at = go (bytes_eq x y) refl
  where
    go : (b : Bool) → bytes_eq x y ≡ b → bytes_eq x y ≡ false
    go false e = e
    go true e =
        let same : x ≡ y = bytes_are x y e in
        let clash : 0 ≡ suc i = d 0 (suc i) y (ap Some same) at in
        absurd (omega (arith, clash))

-- a case of a number: its name, its payload, and that it has them
pub record Cased (ms : Members) (x : ℕ) (v : Value) : Type 0 where
  pub name : List ℕ
  pub payload : List Value
  pub is : v ≡ value.Case name payload
  pub at : slice_get (names_of ms) x ≡ Some name
  pub has : HasCase ms name payload

-- past a case of another name
pub past_bare : (n : List ℕ) (ms : Members) (x : ℕ) (v : Value) → AreDistinct (n ∷ names_of ms) → Cased ms x v → Cased (bare n ms) (suc x) v
unfolding IsA
past_bare n ms x v d c = record {
  name = c.name;
  payload = c.payload;
  is = c.is;
  at = c.at;
  has = subst (λ b. chosen b (c.payload ≡ []) (HasCase ms c.name c.payload)) (sym (distinct_first n (names_of ms) x c.name d c.at)) c.has;
}

pub past_typed : (n : List ℕ) (s : Shape) (ms : Members) (x : ℕ) (v : Value) → AreDistinct (n ∷ names_of ms) → Cased ms x v → Cased (typed n s ms) (suc x) v
unfolding IsA
past_typed n s ms x v d c = record {
  name = c.name;
  payload = c.payload;
  is = c.is;
  at = c.at;
  has = subst (λ b. chosen b (IsOnePayload (λ v. IsA s v) c.payload) (HasCase ms c.name c.payload)) (sym (distinct_first n (names_of ms) x c.name d c.at)) c.has;
}

pub first_bare : (n : List ℕ) (ms : Members) (v : Value) → Some (value.Case n []) ≡ Some v → Cased (bare n ms) 0 v
unfolding IsA
first_bare n ms v e = record {
  name = n;
  payload = [];
  is = sym (same_some _ (value.Case n []) v refl e);
  at = refl;
  has = subst (λ b. chosen b (◌≡◌ {A = List Value} [] []) (HasCase ms n [])) (sym (bytes_same n)) refl;
}

pub first_typed : (n : List ℕ) (s : Shape) (ms : Members) (o : Option Value) (v : Value) → ((w : Value) → o ≡ Some w → IsA s w) → option_map (λ w. value.Case n (w ∷ [])) o ≡ Some v → Cased (typed n s ms) 0 v
unfolding IsA
first_typed n s ms o v h e =
    let (w, there, is) = map_some (λ w. value.Case n (w ∷ [])) o v e in
    record {
      name = n;
      payload = w ∷ [];
      is = sym is;
      at = refl;
      has = subst (λ b. chosen b (IsOnePayload (λ v. IsA s v) (w ∷ [])) (HasCase ms n (w ∷ []))) (sym (bytes_same n)) (h w there);
    }

pub cased : (ms : Members) (x : ℕ) (v : Value) → Cased ms x v → IsCase (λ y ps. HasCase ms y ps) (out-Value v)
cased ms x v c = case_is (λ y ps. HasCase ms y ps) c.name c.payload v c.has c.is

-- ---- loading

-- the numbers of types without members are small enough
scalar_bytes : (w : MemoryWidth) (k : ℕ) → (extent w (scalar_layout k)).size ≡ k
scalar_bytes Memory32 k = refl
scalar_bytes Memory64 k = refl

scalar_small : (side : SideAbi) (bytes : List ℕ) (k n a : ℕ) → AreBytes bytes → number_in bytes (extent (width_of side) (scalar_layout k)).size a ≡ Some n → n < 256 ^ k
scalar_small side bytes k n a h e = number_small bytes k a n h (ap (λ k. number_in bytes k a) (sym (scalar_bytes (width_of side) k)) ∙ e)

plain_small : (side : SideAbi) (bytes : List ℕ) (p : InterfaceType) (n a : ℕ) → AreBytes bytes → number_in bytes (extent_on side (s_plain p)).size a ≡ Some n → IsSmall (plain_of p) n
plain_small side bytes ty.Float32 n a h e = scalar_small side bytes 4 n a h e
plain_small side bytes ty.Float64 n a h e = scalar_small side bytes 8 n a h e
plain_small side bytes (ty.Own i) n a h e = scalar_small side bytes 4 n a h e
plain_small side bytes (ty.Borrow i) n a h e = scalar_small side bytes 4 n a h e
plain_small side bytes (ty.ErrorContext i) n a h e = scalar_small side bytes 4 n a h e
plain_small side bytes ty.S8 n a h e = lit≤ tt
plain_small side bytes ty.S16 n a h e = lit≤ tt
plain_small side bytes ty.S32 n a h e = lit≤ tt
plain_small side bytes ty.S64 n a h e = lit≤ tt
plain_small side bytes _ n a h e = tt

-- a number that is read, and its value
pub number_value : (o : Option ℕ) (q : Plain) (v : Value) → ((n : ℕ) → o ≡ Some n → IsSmall q n) → o >>= (λ n. value_of_number q n) ≡ Some v → IsPlainValue q (out-Value v)
number_value o q v small e = let (n, there, is) = then_some o (λ n. value_of_number q n) v e in number_is_a q n v is (small n there)

plain_loaded : (side : SideAbi) (bytes : List ℕ) (p : InterfaceType) (q : Plain) (a : ℕ) (v : Value) → AreBytes bytes → ((n : ℕ) → number_in bytes (extent_on side (s_plain p)).size a ≡ Some n → IsSmall q n)
    → load_plain side bytes p q a ≡ Some v → IsPlainValue q (out-Value v)
plain_loaded side bytes p text a v h small e =
    let (q, there, is) = then_some (pair_at side bytes a) (λ q. text_value side bytes q) v e in
    text_value_is side bytes q v h is
plain_loaded side bytes p boolean a v h small e = number_value _ boolean v small e
plain_loaded side bytes p (unsigned bits) a v h small e = number_value _ (unsigned bits) v small e
plain_loaded side bytes p (signed bits) a v h small e = number_value _ (signed bits) v small e
plain_loaded side bytes p float32 a v h small e = number_value _ float32 v small e
plain_loaded side bytes p float64 a v h small e = number_value _ float64 v small e
plain_loaded side bytes p character a v h small e = number_value _ character v small e
plain_loaded side bytes p (handle kind table) a v h small e = number_value _ (handle kind table) v small e
plain_loaded side bytes p nothing a v h small e = number_value _ nothing v small e

variant_loaded : (side : SideAbi) (bytes : List ℕ) (ms : Members) (case : ℕ → ℕ → Option Value) (a : ℕ) (v : Value) → ((x b : ℕ) → case x b ≡ Some v → Cased ms x v) → load_variant side bytes ms case a ≡ Some v → IsCase (λ y ps. HasCase ms y ps) (out-Value v)
variant_loaded side bytes ms case a v h e =
    let (x, there, is) = then_some (number_in bytes (case_bytes ms) a) (λ x. case x (a + payload_place side ms)) v e in
    cased ms x v (h x (a + payload_place side ms) is)

handle_loaded : (bytes : List ℕ) (kind : HandleKind) (table a : ℕ) (v : Value) → AreBytes bytes → option_map (λ n. value.Handle kind table n) (number_in bytes 4 a) ≡ Some v → IsHandle kind table (out-Value v)
handle_loaded bytes kind table a v h e =
    let (n, there, is) = map_some (λ n. value.Handle kind table n) (number_in bytes 4 a) v e in
    handle_is kind table n v (number_small bytes 4 a n h there) is

mutual
  unfolding load IsA

  pub load_is_a : (side : SideAbi) (bytes : List ℕ) → AreBytes bytes → (s : Shape) → IsRuled s → (a : ℕ) (v : Value) → load side bytes s a ≡ Some v → IsA s v
  load_is_a side bytes h (s_plain p) r a v e = plain_loaded side bytes p (plain_of p) a v h (λ n q. plain_small side bytes p n a h q) e
  load_is_a side bytes h (s_node k_record ms) r a v e =
      let (vs, there, is) = map_some (λ vs. value.Record (zip (typed_names ms) vs)) (load_members side bytes ms a 0) v e in
      record_is ms vs v (load_members_are side bytes h ms r.1 a 0 vs there) is
  load_is_a side bytes h (s_node k_tuple ms) r a v e =
      let (vs, there, is) = map_some (λ vs. value.Tuple vs) (load_members side bytes ms a 0) v e in
      tuple_is (λ vs. AreMembers ms vs) vs v (load_members_are side bytes h ms r.1 a 0 vs there) is
  load_is_a side bytes h (s_node k_list ms) r a v e =
      let (q, there, is) = then_some (pair_at side bytes a) (λ q. list_value side bytes ms (λ b. load_element side bytes ms b) q) v e in
      list_value_is (λ w. IsElement ms w) side bytes ms (λ b. load_element side bytes ms b) q v (λ b w z. load_element_is side bytes h ms r.1 b w z) is
  load_is_a side bytes h (s_node k_map ms) r a v e =
      let (q, there, is) = then_some (pair_at side bytes a) (λ q. map_value side bytes ms (λ b. load_members side bytes ms b 0) q) v e in
      map_value_is (λ vs. AreMembers ms vs) side bytes ms (λ b. load_members side bytes ms b 0) q v (λ b vs z. load_members_are side bytes h ms r.1 b 0 vs z) is
  load_is_a side bytes h (s_node (k_fixed n) ms) r a v e =
      let (vs, there, is) = map_some (λ vs. value.List vs) (each_at n (element_extent side (k_fixed n) ms).size (λ b. load_element side bytes ms b) a) v e in
      let (l, all) = each_is (λ w. IsElement ms w) n (element_extent side (k_fixed n) ms).size (λ b. load_element side bytes ms b) a vs (λ b w z. load_element_is side bytes h ms r.1 b w z) there in
      fixed_list_is n (λ w. IsElement ms w) vs v l all is
  load_is_a side bytes h (s_node k_flags ms) r a v e =
      let (n, there, is) = map_some (λ n. value.Flags (flags_of_number (names_of ms) n)) (number_in bytes (flags_bytes ms) a) v e in
      flags_is ms n v is
  load_is_a side bytes h (s_node k_variant ms) r a v e = variant_loaded side bytes ms (λ x b. load_case side bytes ms x b) a v (λ x b z. load_case_has side bytes h ms r.1 r.0.distinct x b v z) e
  load_is_a side bytes h (s_node k_enum ms) r a v e = variant_loaded side bytes ms (λ x b. load_case side bytes ms x b) a v (λ x b z. load_case_has side bytes h ms r.1 r.0.distinct x b v z) e
  load_is_a side bytes h (s_node k_option ms) r a v e = variant_loaded side bytes ms (λ x b. load_case side bytes ms x b) a v (λ x b z. load_case_has side bytes h ms r.1 r.0.distinct x b v z) e
  load_is_a side bytes h (s_node k_result ms) r a v e = variant_loaded side bytes ms (λ x b. load_case side bytes ms x b) a v (λ x b z. load_case_has side bytes h ms r.1 r.0.distinct x b v z) e
  load_is_a side bytes h (s_node (k_future table instance) ms) r a v e = handle_loaded bytes Future table a v h e
  load_is_a side bytes h (s_node (k_stream table instance) ms) r a v e = handle_loaded bytes Stream table a v h e

  pub load_members_are : (side : SideAbi) (bytes : List ℕ) → AreBytes bytes → (ms : Members) → AreRuled ms → (a n : ℕ) (vs : List Value) → load_members side bytes ms a n ≡ Some vs → AreMembers ms vs
  load_members_are side bytes h no_members r a n vs e = subst (AreMembers no_members) (same_some _ [] vs refl e) tt
  load_members_are side bytes h (bare x ms) r a n vs e = load_members_are side bytes h ms r a n vs e
  load_members_are side bytes h (typed x s ms) r a n vs e =
      let (v, here, rest) = then_some (load side bytes s (a + place_of (width_of side) s n)) (λ v. load_members side bytes ms a (next_of (width_of side) s n) >>= (λ vs. Some (v ∷ vs))) vs e in
      let (ws, there, is) = then_some (load_members side bytes ms a (next_of (width_of side) s n)) (λ vs. Some (v ∷ vs)) vs rest in
      subst (AreMembers (typed x s ms)) (same_some _ (v ∷ ws) vs refl is) (load_is_a side bytes h s r.0 (a + place_of (width_of side) s n) v here, load_members_are side bytes h ms r.1 a (next_of (width_of side) s n) ws there)

  load_case_has : (side : SideAbi) (bytes : List ℕ) → AreBytes bytes → (ms : Members) → AreRuled ms → AreDistinct (names_of ms) → (x a : ℕ) (v : Value) → load_case side bytes ms x a ≡ Some v → Cased ms x v
  load_case_has side bytes h no_members r d x a v e = absurd (none_some None v refl e)
  load_case_has side bytes h (bare n ms) r d zero a v e = first_bare n ms v e
  load_case_has side bytes h (typed n s ms) r d zero a v e = first_typed n s ms (load side bytes s a) v (λ w z. load_is_a side bytes h s r.0 a w z) e
  load_case_has side bytes h (bare n ms) r d (suc x) a v e = past_bare n ms x v d (load_case_has side bytes h ms r (distinct_rest n (names_of ms) d) x a v e)
  load_case_has side bytes h (typed n s ms) r d (suc x) a v e = past_typed n s ms x v d (load_case_has side bytes h ms r.1 (distinct_rest n (names_of ms) d) x a v e)

  pub load_element_is : (side : SideAbi) (bytes : List ℕ) → AreBytes bytes → (ms : Members) → AreRuled ms → (a : ℕ) (v : Value) → load_element side bytes ms a ≡ Some v → IsElement ms v
  load_element_is side bytes h no_members r a v e = absurd (none_some None v refl e)
  load_element_is side bytes h (bare n ms) r a v e = absurd (none_some None v refl e)
  load_element_is side bytes h (typed n s ms) r a v e = load_is_a side bytes h s r.0 a v e
