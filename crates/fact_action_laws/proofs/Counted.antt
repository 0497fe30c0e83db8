-- A value calls for no more items than it weighs, and each item for no more than 29 calls.
use Rattle.std.proofs.Common.{◌≡◌, ℕ, suc, ◌+◌, ◌*◌, ◌≤◌, Bool, true, false, List, [], ◌∷◌, length, map, Option, Some, None, refl, sym, ap, ◌∙◌, subst, arith}
use Rattle.std.specs.Prelude.{sum_by, if◌then◌else◌}
use Rattle.std.specs.List.{zip, flat_map, AllByRecursion, Contains}
use Rattle.std.specs.Str.{bytes_eq}
use Rattle.std.proofs.lemmas.List.{length-append, length-map}
use Rattle.std.proofs.lemmas.List.Sums.{sum_by-cons}
use Rattle.std.proofs.lemmas.Slice.Eq.{bytes_eq-Decides}
use Rattle.fact_types.specs.Agrees.{Agrees, AgreesBy, AgreesFields, AgreesCase, AgreesPlaces, BothThere, chosen, first_of, named, names_of}
use Rattle.fact_types.specs.Shapes.{Kind, k_record, k_variant, k_list, k_tuple, k_map, k_flags, k_enum, k_option, k_result, k_fixed, k_future, k_stream, Shape, s_plain, s_node, Members, no_members, bare, typed}
use Rattle.fact_types.specs.Valid.{IsRuled, AreRuled, AreDistinct}
use Rattle.fact_types.proofs.ShapeLaws.{same_some, none_some}
use Rattle.fact_values.specs.declared.side.SideAbi.{SideAbi}
use Rattle.fact_values.specs.declared.value.HandleKind.{HandleKind}
use Rattle.fact_values.specs.declared.value.Value.{Value, out-Value}
use Rattle.fact_values.specs.declared.value.Value.TheOpen.{Value-F}
use Rattle.fact_values.specs.declared.value.Value.TheOpen as o
use Rattle.fact_values.specs.Formed.{AreBare}
use Rattle.fact_values.specs.Handles.{table_number_of, value_named, only}
use Rattle.fact_values.specs.IsA.{IsA, AreMembers, HasCase, IsElement, IsOnePayload, IsCase, IsRecord, IsTuple, IsListOf, IsFixedList, IsMap}
use Rattle.fact_values.specs.Limits.{CaseType, case_type}
use Rattle.fact_values.specs.Numbers.{Plain, boolean, unsigned, signed, float32, float64, character, handle, text, nothing, plain_of}
use Rattle.fact_values.specs.Opened.{fields_in, members_in, elements_in, map_entries_in, case_in, number_of_handle}
use Rattle.fact_values.specs.Places.{typed_names}
use Rattle.fact_values.specs.Weight.{weight, weight_members, weight_case, weight_element, weight_in}
use Rattle.fact_actions.specs.Running.{Call}
use Rattle.fact_action_laws.specs.Items.{ValueItem, HandleItem, RegionItem, TextItem, of_some, chars_in, handle_item, items_plain, Inner, items, items_fields, items_case, items_places, items_element, case_items, AreItemCalls, BeginItemCalls, IsItemCalls, BeginsItem}
use Rattle.fact_action_laws.specs.MoveTerms.{AreTyped, IsWellFormed, AreWellFormed}
use Rattle.fact_action_laws.proofs.Distinct.{case_named, case_weighs, each_agrees, places_agree, IsPayloadOf}
use Rattle.fact_action_laws.proofs.MoveLaws.{field_weight, fields_weight}
use Rattle.fact_action_laws.proofs.Sums.{payload_weight}
use Rattle.fact_action_laws.proofs.Weights.{record_weight}
use Rattle.fact_action_laws.proofs.Variants.{case_has}
use Rattle.std.proofs.Common.{inl, inr}
use Rattle.fact_action_laws.specs.Items.{region_item}
use Rattle.fact_values.specs.declared.value.HandleKind.TheVariants.{Future, Stream}
use Rattle.fact_values.specs.Opened.{CaseOf}

-- ---- items of plain values

one_at_most : {A : Type 0} (q : Option A) (f : A → ValueItem) → length (of_some q (λ a. f a ∷ [])) ≤ 1
one_at_most None f = omega arith
one_at_most (Some a) f = omega arith

plain_items : (from : ℕ) (p : Plain) (v : Value) → length (items_plain from p v) ≤ 1
plain_items from (handle kind table) v = one_at_most (number_of_handle (out-Value v)) _
plain_items from text v = one_at_most (chars_in (out-Value v)) _
plain_items from boolean v = omega arith
plain_items from (unsigned n) v = omega arith
plain_items from (signed n) v = omega arith
plain_items from float32 v = omega arith
plain_items from float64 v = omega arith
plain_items from character v = omega arith
plain_items from nothing v = omega arith

weighs_some : (t : Shape) (v : Value) → 1 ≤ weight t v
unfolding weight
weighs_some (s_plain p) v = omega arith
weighs_some (s_node k ms) v = omega arith

-- ---- sums

flat_map_length : {A B : Type 0} (F : A → List B) (g : A → ℕ) (Is : A → Type 0) → ((a : A) → Is a → length (F a) ≤ g a) → (xs : List A) → AllByRecursion Is xs → length (flat_map F xs) ≤ sum_by g xs
flat_map_length F g Is h [] all = omega arith
flat_map_length F g Is h (x ∷ xs) all = omega (arith, length-append (F x) (flat_map F xs), h x all.0, flat_map_length F g Is h xs all.1, sum_by-cons g x xs)

-- ---- what is known of fields and cases of values

-- the field of a name
pub member_named : (ms : Members) (vs : List Value) (x : List ℕ) (s : Shape) (v : Value) → AreTyped ms → AreMembers ms vs → named x ms ≡ Some s → value_named x (zip (typed_names ms) vs) ≡ Some v → IsA s v
unfolding AreMembers
member_named no_members vs x s v t are e f = absurd (none_some None s refl e)
member_named (bare n ms) vs x s v t are e f = absurd t
member_named (typed n u ms) [] x s v t are e f = absurd are
member_named (typed n u ms) (w ∷ vs) x s v t are e f = go (bytes_eq n x) e f (λ e f. member_named ms vs x s v t are.1 e f)
  where
    go : (b : Bool) → first_of b (Some u) (named x ms) ≡ Some s → (if b then Some w else value_named x (zip (typed_names ms) vs)) ≡ Some v → (named x ms ≡ Some s → value_named x (zip (typed_names ms) vs) ≡ Some v → IsA s v) → IsA s v
    go true e f more = subst (λ s. IsA s v) (same_some (Some s) u s (sym e) refl) (subst (IsA u) (same_some (Some v) w v (sym f) refl) are.0)
    go false e f more = more e f

-- what is known of a field
pub named_known : (x : List ℕ) (ms : Members) → AreRuled ms → AreWellFormed ms → (s : Shape) → named x ms ≡ Some s → IsRuled s × IsWellFormed s
named_known x no_members r f s e = absurd (none_some None s refl e)
named_known x (bare n ms) r f s e = named_known x ms r f s e
named_known x (typed n u ms) r f s e = go (bytes_eq n x) e (named_known x ms r.1 f.1 s)
  where
    go : (b : Bool) → first_of b (Some u) (named x ms) ≡ Some s → (named x ms ≡ Some s → IsRuled s × IsWellFormed s) → IsRuled s × IsWellFormed s
    go true e more = subst (λ s. IsRuled s × IsWellFormed s) (same_some (Some s) u s (sym e) refl) (r.0, f.0)
    go false e more = more e

-- a payload of a type
abbrev IsPayloadOfType : Option Shape → List Value → Type 0
IsPayloadOfType None ps = ps ≡ []
IsPayloadOfType (Some s) ps = (w : Value) × (ps ≡ w ∷ []) × IsA s w

-- the case of a name, by its number
record HasNumber (ms : Members) (x : List ℕ) (vs : List Value) : Type 0 where
  number : ℕ
  case : CaseType
  is : case_type ms number ≡ Some case
  name : case.name ≡ x
  payload : IsPayloadOfType case.payload vs

numbered : (n : List ℕ) (ms : Members) (x : List ℕ) (vs : List Value) → HasNumber ms x vs → HasNumber (bare n ms) x vs
numbered n ms x vs h = record { number = suc h.number; case = h.case; is = h.is; name = h.name; payload = h.payload }

numbered_typed : (n : List ℕ) (s : Shape) (ms : Members) (x : List ℕ) (vs : List Value) → HasNumber ms x vs → HasNumber (typed n s ms) x vs
numbered_typed n s ms x vs h = record { number = suc h.number; case = h.case; is = h.is; name = h.name; payload = h.payload }

one_payload : (s : Shape) (vs : List Value) → IsOnePayload (λ v. IsA s v) vs → IsPayloadOfType (Some s) vs
one_payload s [] h = absurd h
one_payload s (v ∷ []) h = (v, refl, h)
one_payload s (v ∷ w ∷ vs) h = absurd h

case_number : (ms : Members) (x : List ℕ) (vs : List Value) → HasCase ms x vs → HasNumber ms x vs
unfolding HasCase
case_number no_members x vs h = absurd h
case_number (bare n ms) x vs h = go (bytes_eq n x) refl h (λ h. case_number ms x vs h)
  where
    go : (b : Bool) → bytes_eq n x ≡ b → chosen b (vs ≡ []) (HasCase ms x vs) → (HasCase ms x vs → HasNumber ms x vs) → HasNumber (bare n ms) x vs
    go true e h more = record { number = 0; case = record { name = n; payload = None }; is = refl; name = (bytes_eq-Decides n x).0 e; payload = h }
    go false e h more = numbered n ms x vs (more h)
case_number (typed n s ms) x vs h = go (bytes_eq n x) refl h (λ h. case_number ms x vs h)
  where
    go : (b : Bool) → bytes_eq n x ≡ b → chosen b (IsOnePayload (λ v. IsA s v) vs) (HasCase ms x vs) → (HasCase ms x vs → HasNumber ms x vs) → HasNumber (typed n s ms) x vs
    go true e h more = record { number = 0; case = record { name = n; payload = Some s }; is = refl; name = (bytes_eq-Decides n x).0 e; payload = one_payload s vs h }
    go false e h more = numbered_typed n s ms x vs (more h)

pub zip_parts : (fs : List (List ℕ × Value)) → zip (map (λ f. f.0) fs) (map (λ f. f.1) fs) ≡ fs
zip_parts [] = refl
zip_parts (f ∷ fs) = ap (λ l. f ∷ l) (zip_parts fs)

-- ---- the induction

-- a payload of the case of a name
abbrev known_payload : Option Shape → Type 0
known_payload p = (s : Shape) → p ≡ Some s → IsRuled s × IsWellFormed s

-- what is known of the payloads of cases
payloads_known : (ms : Members) (n : ℕ) (k : CaseType) → AreRuled ms → AreWellFormed ms → case_type ms n ≡ Some k → known_payload k.payload
payloads_known ms n k r f h s e = (case_has IsRuled AreRuled (λ x ms a. a) (λ x s ms a. a) ms n k s r h e, case_has IsWellFormed AreWellFormed (λ x ms a. a) (λ x s ms a. a) ms n k s f h e)

payload_of : (p : Option Shape) (ps : List Value) → IsPayloadOfType p ps → IsPayloadOf p ps
payload_of None ps h = h
payload_of (Some s) ps h = (h.0, h.1)

module _ (side : SideAbi) where
  -- what is to be shown of members of a destination
  abbrev FieldsAre : Members → Type 0
  FieldsAre ns =
      (ms : Members) (fs : List (List ℕ × Value)) → AgreesFields ms ns → AreRuled ms → AreWellFormed ms → ((x : List ℕ) (s : Shape) (v : Value) → named x ms ≡ Some s → value_named x fs ≡ Some v → IsA s v)
      → length (items_fields side ms fs ns) ≤ fields_weight ms fs ns

  abbrev CaseIs : Members → Type 0
  CaseIs ns = (p : Option Shape) (x : List ℕ) (vs : List Value) → AgreesCase x p ns → known_payload p → IsPayloadOfType p vs → length (items_case side p x vs ns) ≤ payload_weight p vs

  abbrev PlacesAre : Members → Type 0
  PlacesAre ns = (ms : Members) (vs : List Value) → AgreesPlaces ms ns → AreRuled ms → AreWellFormed ms → AreMembers ms vs → length (items_places side ms vs ns) ≤ weight_members ms vs

  abbrev ElementIs : Members → Type 0
  ElementIs ns = (ms : Members) (v : Value) → AgreesPlaces ms ns → AreRuled ms → AreWellFormed ms → IsElement ms v → length (items_element side ms v ns) ≤ weight_element ms v

  abbrev inner : Members → Members → Inner
  inner ms ns = record { fields = λ fs. items_fields side ms fs ns; case = λ x vs. items_case side (named x ms) x vs ns; places = λ vs. items_places side ms vs ns; element = λ w. items_element side ms w ns }

  -- the case of a value of a sum
  sum_items : (ms ns : Members) (w : Value-F Value) → AreDistinct (names_of ms) → AreRuled ms → AreWellFormed ms → ((n : ℕ) (k : CaseType) → case_type ms n ≡ Some k → AgreesCase k.name k.payload ns) → CaseIs ns
      → IsCase (λ x vs. HasCase ms x vs) w → length (of_some (case_in w) (λ c. items_case side (named c.name ms) c.name c.payload ns)) ≤ weight_in (λ c. weight_case ms c.name c.payload) (case_in w)
  sum_items ms ns (o.Case x vs) d r f agree G h =
      let c = case_number ms x vs h in
      let is_named : named x ms ≡ c.case.payload = ap (λ y. named y ms) (sym c.name) ∙ case_named ms c.number c.case d c.is in
      let weighs : weight_case ms x vs ≡ payload_weight c.case.payload vs = ap (λ y. weight_case ms y vs) (sym c.name) ∙ case_weighs ms c.number c.case vs d c.is (payload_of c.case.payload vs c.payload) in
      let one = G c.case.payload x vs (subst (λ y. AgreesCase y c.case.payload ns) c.name (agree c.number c.case c.is)) (payloads_known ms c.number c.case r f c.is) c.payload in
      subst (λ q. length (items_case side q x vs ns) ≤ weight_case ms x vs) (sym is_named) (subst (λ n. length (items_case side c.case.payload x vs ns) ≤ n) (sym weighs) one)
  sum_items ms ns _ d r f agree G h = absurd h

  -- cases without payloads call for nothing
  bare_items : (p : Option Shape) (x : List ℕ) (vs : List Value) (ns : Members) → AreBare ns → items_case side p x vs ns ≡ []
  unfolding items_case
  bare_items p x vs no_members h = refl
  bare_items p x vs (bare n ns) h = go (bytes_eq n x) (bare_items p x vs ns h)
    where
      go : (b : Bool) → items_case side p x vs ns ≡ [] → (if b then [] else items_case side p x vs ns) ≡ []
      go true e = refl
      go false e = e
  bare_items p x vs (typed n d ns) h = absurd h

  enum_items : (ms ns : Members) (w : Value-F Value) → AreBare ns → length (of_some (case_in w) (λ c. items_case side (named c.name ms) c.name c.payload ns)) ≤ 0
  enum_items ms ns w bare_ns = go (case_in w)
    where
      go : (q : Option CaseOf) → length (of_some q (λ c. items_case side (named c.name ms) c.name c.payload ns)) ≤ 0
      go None = omega arith
      go (Some c) = let e = ap length (bare_items (named c.name ms) c.name c.payload ns bare_ns) in omega (arith, e)

  record_items : (ms ns : Members) (w : Value-F Value) → AreTyped ms → AreTyped ns → AreDistinct (names_of ms) → AreDistinct (names_of ns) → AgreesFields ms ns → ((x : List ℕ) → Contains (names_of ms) x → Contains (names_of ns) x) → AreRuled ms → AreWellFormed ms → FieldsAre ns
      → IsRecord ms (λ vs. AreMembers ms vs) w → length (of_some (fields_in w) (λ fs. items_fields side ms fs ns)) ≤ weight_in (λ fs. weight_members ms (map (λ f. f.1) fs)) (fields_in w)
  record_items ms ns (o.Record fs) t u d e a names r f F h =
      let vs = map (λ f. f.1) fs in
      let zipped : zip (typed_names ms) vs ≡ fs = ap (λ l. zip l vs) (sym h.0) ∙ zip_parts fs in
      let long : length vs ≡ length (typed_names ms) = length-map fs (λ f. f.1) ∙ sym (length-map fs (λ f. f.0)) ∙ ap length h.0 in
      let weighs : fields_weight ms fs ns ≡ weight_members ms vs = subst (λ l. fields_weight ms l ns ≡ weight_members ms (map (λ f. f.1) l)) zipped (record_weight ms ns vs t u d e a names long) in
      let one = F ms fs a r f (λ x s v i j. member_named ms vs x s v t h.1 i (ap (value_named x) zipped ∙ j)) in
      subst (λ n. length (items_fields side ms fs ns) ≤ n) weighs one
  record_items ms ns _ t u d e a names r f F h = absurd h

  tuple_items : (ms ns : Members) (w : Value-F Value) → AgreesPlaces ms ns → AreRuled ms → AreWellFormed ms → PlacesAre ns → IsTuple (λ vs. AreMembers ms vs) w
      → length (of_some (members_in w) (λ vs. items_places side ms vs ns)) ≤ weight_in (weight_members ms) (members_in w)
  tuple_items ms ns (o.Tuple vs) a r f P h = P ms vs a r f h
  tuple_items ms ns _ a r f P h = absurd h

  list_items : (ms ns : Members) (w : Value-F Value) (item : ℕ → ValueItem) → AgreesPlaces ms ns → AreRuled ms → AreWellFormed ms → ElementIs ns → IsListOf (λ v. IsElement ms v) w
      → length (of_some (elements_in w) (λ vs. item (length vs) ∷ flat_map (λ v. items_element side ms v ns) vs)) ≤ 1 + weight_in (sum_by (λ v. weight_element ms v)) (elements_in w)
  list_items ms ns (o.List vs) item a r f E h = let l = flat_map_length (λ v. items_element side ms v ns) (λ v. weight_element ms v) (IsElement ms) (λ v k. E ms v a r f k) vs h in omega (arith, l)
  list_items ms ns _ item a r f E h = absurd h

  fixed_items : (n : ℕ) (ms ns : Members) (w : Value-F Value) → AgreesPlaces ms ns → AreRuled ms → AreWellFormed ms → ElementIs ns → IsFixedList n (λ v. IsElement ms v) w
      → length (of_some (elements_in w) (flat_map (λ v. items_element side ms v ns))) ≤ weight_in (sum_by (λ v. weight_element ms v)) (elements_in w)
  fixed_items n ms ns (o.List vs) a r f E h = flat_map_length (λ v. items_element side ms v ns) (λ v. weight_element ms v) (IsElement ms) (λ v k. E ms v a r f k) vs h.1
  fixed_items n ms ns _ a r f E h = absurd h

  map_items : (ms ns : Members) (w : Value-F Value) (item : ℕ → ValueItem) → AgreesPlaces ms ns → AreRuled ms → AreWellFormed ms → PlacesAre ns → IsMap (λ vs. AreMembers ms vs) w
      → length (of_some (map_entries_in w) (λ es. item (length es) ∷ flat_map (λ e. items_places side ms (e.0 ∷ e.1 ∷ []) ns) es)) ≤ 1 + weight_in (sum_by (λ e. weight_members ms (e.0 ∷ e.1 ∷ []))) (map_entries_in w)
  map_items ms ns (o.Map es) item a r f P h =
      let l = flat_map_length (λ e. items_places side ms (e.0 ∷ e.1 ∷ []) ns) (λ e. weight_members ms (e.0 ∷ e.1 ∷ [])) (λ e. AreMembers ms (e.0 ∷ e.1 ∷ [])) (λ e k. P ms (e.0 ∷ e.1 ∷ []) a r f k) es h in omega (arith, l)
  map_items ms ns _ item a r f P h = absurd h

  -- ---- what a node calls for

  own_items : (kind : HandleKind) (from to : ℕ) (v : Value) (n : ℕ) → length (handle_item kind from to v) ≤ 1 + n
  own_items kind from to v n = let e = one_at_most (number_of_handle (out-Value v)) (λ m. HandleItem (record { kind = kind; number = m; from = from; to = to })) in omega (arith, e)

  case_step : (ms ns : Members) (v : Value) (n m : ℕ) → length (case_items (inner ms ns) v) ≤ n → length (case_items (inner ms ns) v) ≤ 1 + (m + n)
  case_step ms ns v n m h = omega (arith, h)

  node_bound : (l : Kind) (t : Shape) (ns : Members) → AgreesBy l t ns (λ ms. AgreesFields ms ns) (λ x p. AgreesCase x p ns) (λ ms. AgreesPlaces ms ns) → IsRuled t → IsRuled (s_node l ns) → IsWellFormed t → IsWellFormed (s_node l ns)
      → FieldsAre ns → CaseIs ns → PlacesAre ns → ElementIs ns → (v : Value) → IsA t v → length (items side t (s_node l ns) v) ≤ weight t v
  unfolding items weight IsA
  node_bound k_record (s_node k_record ms) ns a rt ru ft fu F C P E v h =
      let q = record_items ms ns (out-Value v) ft.0 fu.0 rt.0.distinct ru.0.distinct a.fields a.names rt.1 ft.1 F h in omega (arith, q)
  node_bound k_tuple (s_node k_tuple ms) ns a rt ru ft fu F C P E v h = let q = tuple_items ms ns (out-Value v) a rt.1 ft.1 P h in omega (arith, q)
  node_bound k_variant (s_node k_variant ms) ns a rt ru ft fu F C P E v h =
      case_step ms ns v _ _ (sum_items ms ns (out-Value v) rt.0.distinct rt.1 ft.1 (λ n k e. each_agrees ms ns n k a e) C h)
  node_bound k_option (s_node k_option ms) ns a rt ru ft fu F C P E v h =
      case_step ms ns v _ _ (sum_items ms ns (out-Value v) rt.0.distinct rt.1 ft.1 (λ n k e. places_agree ms ns n k a (ft.0 ∙ sym fu.0) ru.0.distinct e) C h)
  node_bound k_result (s_node k_result ms) ns a rt ru ft fu F C P E v h =
      case_step ms ns v _ _ (sum_items ms ns (out-Value v) rt.0.distinct rt.1 ft.1 (λ n k e. places_agree ms ns n k a (ft.0 ∙ sym fu.0) ru.0.distinct e) C h)
  node_bound k_enum (s_node k_enum ms) ns a rt ru ft fu F C P E v h = let q = enum_items ms ns (out-Value v) fu.0 in omega (arith, q)
  node_bound k_flags (s_node k_flags ms) ns a rt ru ft fu F C P E v h = omega arith
  node_bound k_list (s_node k_list ms) ns a rt ru ft fu F C P E v h = list_items ms ns (out-Value v) (region_item side k_list ns) a rt.1 ft.1 E h
  node_bound k_map (s_node k_map ms) ns a rt ru ft fu F C P E v h = map_items ms ns (out-Value v) (region_item side k_map ns) a rt.1 ft.1 P h
  node_bound (k_fixed m) (s_node (k_fixed n) ms) ns a rt ru ft fu F C P E v h = let q = fixed_items n ms ns (out-Value v) a.1 rt.1 ft.1 E h in omega (arith, q)
  node_bound (k_future u j) (s_node (k_future t i) ms) ns a rt ru ft fu F C P E v h = own_items Future _ u v 0
  node_bound (k_stream u j) (s_node (k_stream t i) ms) ns a rt ru ft fu F C P E v h = own_items Stream _ u v 0
  node_bound l t ns a rt ru ft fu F C P E v h = absurd a

  -- ---- the induction

  some_items : (s d : Shape) (q : Option Shape) (o : Option Value) (n : ℕ) → BothThere q (λ s. Agrees s d) → ((s : Shape) → q ≡ Some s → IsRuled s × IsWellFormed s) → ((s : Shape) (v : Value) → q ≡ Some s → o ≡ Some v → IsA s v)
      → ((s : Shape) (v : Value) → Agrees s d → IsRuled s → IsWellFormed s → IsA s v → length (items side s d v) ≤ weight s v)
      → length (of_some q (λ s. of_some o (λ v. items side s d v))) ≤ field_weight q o
  some_items s d None o n a k are one = absurd a
  some_items s d (Some t) None n a k are one = omega arith
  some_items s d (Some t) (Some v) n a k are one = one t v a (k t refl).0 (k t refl).1 (are t v refl refl)

  case_hit : (d : Shape) (p : Option Shape) (vs : List Value) → BothThere p (λ s. Agrees s d) → known_payload p → IsPayloadOfType p vs
      → ((s : Shape) (v : Value) → Agrees s d → IsRuled s → IsWellFormed s → IsA s v → length (items side s d v) ≤ weight s v)
      → length (of_some p (λ s. of_some (only vs) (λ v. items side s d v))) ≤ payload_weight p vs
  case_hit d None vs a k h one = absurd a
  case_hit d (Some s) vs a k (w, e, is) one =
      subst (λ l. length (of_some (only l) (λ v. items side s d v)) ≤ payload_weight (Some s) l) (sym e) (let q = one s w a (k s refl).0 (k s refl).1 is in omega (arith, q))

  mutual
    unfolding items items_fields items_case items_places items_element weight_members weight_element AreMembers IsElement

    pub bound : (u t : Shape) → Agrees t u → IsRuled t → IsRuled u → IsWellFormed t → IsWellFormed u → (v : Value) → IsA t v → length (items side t u v) ≤ weight t v
    bound (s_plain q) t a rt ru ft fu v h = let m = plain_items (table_number_of t) (plain_of q) v in let n = weighs_some t v in omega (arith, m, n)
    bound (s_node l ns) t a rt ru ft fu v h =
        node_bound l t ns a rt ru ft fu (λ ms fs a r f are. fields_bound ns ms fs a r ru.1 f fu.1 are) (λ p x vs a k h. case_bound ns p x vs a k ru.1 fu.1 h)
        (λ ms vs a r f h. places_bound ns ms vs a r ru.1 f fu.1 h) (λ ms v a r f h. element_bound ns ms v a r ru.1 f fu.1 h) v h

    fields_bound : (ns ms : Members) (fs : List (List ℕ × Value)) → AgreesFields ms ns → AreRuled ms → AreRuled ns → AreWellFormed ms → AreWellFormed ns → ((x : List ℕ) (s : Shape) (v : Value) → named x ms ≡ Some s → value_named x fs ≡ Some v → IsA s v)
        → length (items_fields side ms fs ns) ≤ fields_weight ms fs ns
    fields_bound no_members ms fs a r q f g are = omega arith
    fields_bound (bare x ns) ms fs a r q f g are = fields_bound ns ms fs a r q f g are
    fields_bound (typed x d ns) ms fs a r q f g are =
        let one = some_items d d (named x ms) (value_named x fs) 0 a.0 (named_known x ms r f) (are x) (λ s v b rs fs h. bound d s b rs q.0 fs g.0 v h) in
        let more = fields_bound ns ms fs a.1 r q.1 f g.1 are in
        let l = length-append (of_some (named x ms) (λ s. of_some (value_named x fs) (λ v. items side s d v))) (items_fields side ms fs ns) in
        omega (arith, one, more, l)

    case_bound : (ns : Members) (p : Option Shape) (x : List ℕ) (vs : List Value) → AgreesCase x p ns → known_payload p → AreRuled ns → AreWellFormed ns → IsPayloadOfType p vs → length (items_case side p x vs ns) ≤ payload_weight p vs
    case_bound no_members p x vs a k r f h = absurd a
    case_bound (bare n ns) p x vs a k r f h = go (bytes_eq n x) a (λ a. case_bound ns p x vs a k r f h)
      where
        go : (b : Bool) → chosen b (p ≡ None) (AgreesCase x p ns) → (AgreesCase x p ns → length (items_case side p x vs ns) ≤ payload_weight p vs) → length (if b then [] else items_case side p x vs ns) ≤ payload_weight p vs
        go true a more = omega arith
        go false a more = more a
    case_bound (typed n d ns) p x vs a k r f h = go (bytes_eq n x) a (λ a. case_hit d p vs a k h (λ s v b rs fs i. bound d s b rs r.0 fs f.0 v i)) (λ a. case_bound ns p x vs a k r.1 f.1 h)
      where
        go : (b : Bool) → chosen b (BothThere p (λ s. Agrees s d)) (AgreesCase x p ns) → (BothThere p (λ s. Agrees s d) → length (of_some p (λ s. of_some (only vs) (λ v. items side s d v))) ≤ payload_weight p vs)
            → (AgreesCase x p ns → length (items_case side p x vs ns) ≤ payload_weight p vs) → length (if b then of_some p (λ s. of_some (only vs) (λ v. items side s d v)) else items_case side p x vs ns) ≤ payload_weight p vs
        go true a one more = one a
        go false a one more = more a

    pub places_bound : (ns ms : Members) (vs : List Value) → AgreesPlaces ms ns → AreRuled ms → AreRuled ns → AreWellFormed ms → AreWellFormed ns → AreMembers ms vs → length (items_places side ms vs ns) ≤ weight_members ms vs
    places_bound no_members no_members vs a r q f g h = omega arith
    places_bound no_members (bare n ns) vs a r q f g h = absurd a
    places_bound no_members (typed n d ns) vs a r q f g h = absurd a
    places_bound (bare n ns) no_members vs a r q f g h = absurd a
    places_bound (bare n ns) (bare m ms) vs a r q f g h = places_bound ns ms vs a r q f g h
    places_bound (bare n ns) (typed m s ms) vs a r q f g h = absurd a
    places_bound (typed n d ns) no_members vs a r q f g h = absurd a
    places_bound (typed n d ns) (bare m ms) vs a r q f g h = absurd a
    places_bound (typed n d ns) (typed m s ms) [] a r q f g h = absurd h
    places_bound (typed n d ns) (typed m s ms) (v ∷ vs) a r q f g h =
        let one = bound d s a.0 r.0 q.0 f.0 g.0 v h.0 in
        let more = places_bound ns ms vs a.1 r.1 q.1 f.1 g.1 h.1 in
        let l = length-append (items side s d v) (items_places side ms vs ns) in
        omega (arith, one, more, l)

    element_bound : (ns ms : Members) (v : Value) → AgreesPlaces ms ns → AreRuled ms → AreRuled ns → AreWellFormed ms → AreWellFormed ns → IsElement ms v → length (items_element side ms v ns) ≤ weight_element ms v
    element_bound ns no_members v a r q f g h = absurd h
    element_bound ns (bare m ms) v a r q f g h = absurd h
    element_bound no_members (typed m s ms) v a r q f g h = absurd a
    element_bound (bare n ns) (typed m s ms) v a r q f g h = absurd a
    element_bound (typed n d ns) (typed m s ms) v a r q f g h = bound d s a.0 r.0 q.0 f.0 g.0 v h

-- ---- calls

-- an item makes at most 29 calls
item_few : (i : ValueItem) (cs : List Call) → IsItemCalls i cs → length cs ≤ 29
item_few (HandleItem x) cs h = let e = h.few in omega (arith, e)
item_few (RegionItem a n) cs h = let e = h.few in omega (arith, e)
item_few (TextItem t) cs h = h.few

begun_few : (i : ValueItem) (cs : List Call) → BeginsItem i cs → length cs ≤ 29
begun_few (HandleItem x) cs h = let e = ap length h in omega (arith, e)
begun_few (RegionItem a n) cs h = let e = h.few in omega (arith, e)
begun_few (TextItem t) cs h = h.few

pub calls_few : (is : List ValueItem) (cs : List Call) → AreItemCalls is cs → length cs ≤ 29 * length is
calls_few [] cs h = let e = ap length h in omega (arith, e)
calls_few (i ∷ is) cs h =
    let one = item_few i h.first h.left in let more = calls_few is h.others h.right in let l = ap length h.is ∙ length-append h.first h.others in omega (arith, one, more, l)

pub begun_calls_few : (is : List ValueItem) (cs : List Call) → BeginItemCalls is cs → length cs ≤ 29 * length is
begun_calls_few [] cs h = let e = ap length h in omega (arith, e)
begun_calls_few (i ∷ is) cs (inl h) = let one = begun_few i cs h in omega (arith, one)
begun_calls_few (i ∷ is) cs (inr h) =
    let one = item_few i h.first h.left in let more = begun_calls_few is h.others h.right in let l = ap length h.is ∙ length-append h.first h.others in omega (arith, one, more, l)
