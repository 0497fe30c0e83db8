-- What values are printed as one after another: what a walk has printed so far, and what is left.
use Rattle.std.proofs.Common.{◌≡◌, ℕ, zero, suc, ◌+◌, ◌≤◌, ◌<◌, List, [], ◌∷◌, ◌++◌, length, drop, map, Bool, Option, Some, None, true, false, refl, sym, ap, ◌∙◌, subst, arith, rules}
use Rattle.std.specs.Prelude.{slice_get, if◌then◌else◌}
use Rattle.std.specs.List.{AllByRecursion, zip}
use Rattle.std.proofs.lemmas.List.{drop_all}
use Rattle.serde_json.specs.Data as json
use Rattle.serde_json.specs.Data.{Data, null, array, put, string}
use Rattle.serde_json.specs.View.{items_of, view}
use Rattle.serde_json.specs.declared.value.Value.{Value as Json, Null, the_lemmas}
use Rattle.fact_types.specs.declared.interface.InterfaceType.{InterfaceType}
use Rattle.fact_types.specs.Agrees.{chosen, names_of}
use Rattle.fact_types.specs.Functions.{HaveShapes}
use Rattle.fact_types.specs.Shapes.{Shape, Members, no_members, bare, typed}
use Rattle.fact_types.specs.Tables.{Tables}
use Rattle.fact_types.specs.Tuples.{members_from, tuple_members}
use Rattle.fact_types.proofs.ShapeLaws.{same_some, none_some}
use Rattle.fact_values.specs.declared.value.Value.{Value}
use Rattle.fact_values.specs.IsA.{IsA, AreMembers, HasCase, IsOnePayload}
use Rattle.fact_values.specs.Places.{typed_names}
use Rattle.fact_abi.specs.declared.nodes.Node.{Node}
use Rattle.fact_abi.specs.Finding.{IsFirstNamed, IsNowhere, IsTypeOf, member_type_at}
use Rattle.fact_abi.specs.Nodes.{AreOf}
use Rattle.fact_abi.proofs.BelongLaws.{slice_past}
use Rattle.fact_value_json.specs.Printing.{where_first, object_of, set_names, entry_data, data_of, data_places, data_case}
use Rattle.fact_value_json.specs.Walks.{AreTyped, AreAllOf, PrintsMember, PrintsValue}
use Rattle.fact_value_json.proofs.StepLaws.{append_one, append_none, front_at}
use Rattle.fact_value_json.proofs.WalkLaws.{first_left, none_left, heads, tails}
use Rattle.fact_value_json.proofs.ValuesLaws.{FirstType, split_types}

pub view-Null : view Null ≡ null
view-Null = search (rules, the_lemmas)

-- ---- lists of what was printed

mapped_more : {X Y : Type 0} (f : X → Y) (xs : List X) (x : X) → map f (xs ++ x ∷ []) ≡ map f xs ++ f x ∷ []
mapped_more f [] x = refl
mapped_more f (y ∷ xs) x = ap (λ l. f y ∷ l) (mapped_more f xs x)

-- one more was printed
pub one_viewed : (list more : List Json) (v : Json) → more ≡ list ++ v ∷ [] → map view more ≡ map view list ++ view v ∷ []
one_viewed list more v e = ap (map view) e ∙ mapped_more view list v

-- The items before place i gave ds.
pub record ItemsPrinted {X : Type 0} (P : X → Type 0) (f : X → Data) (xs : List X) (i : ℕ) (ds : List Data) : Type 0 where
  pub left : AllByRecursion P (drop i xs)
  pub same : map f xs ≡ ds ++ map f (drop i xs)

pub no_item_printed : {X : Type 0} (P : X → Type 0) (f : X → Data) (xs : List X) → AllByRecursion P xs → ItemsPrinted P f xs 0 []
no_item_printed P f xs a = record { left = a; same = refl }

pub item_printed : {X : Type 0} (P : X → Type 0) (f : X → Data) (xs : List X) (i : ℕ) (ds more : List Data) (x : X) (d : Data) → slice_get xs i ≡ Some x → ItemsPrinted P f xs i ds → (P x → d ≡ f x) → more ≡ ds ++ d ∷ [] → ItemsPrinted P f xs (i + 1) more
item_printed P f xs i ds more x d at w is m =
    let left : AllByRecursion P (x ∷ drop (i + 1) xs) = subst (AllByRecursion P) (front_at xs i x at) w.left in
    record {
      left = left.1;
      same = w.same ∙ ap (λ l. ds ++ map f l) (front_at xs i x at) ∙ ap (λ d. ds ++ d ∷ map f (drop (i + 1) xs)) (sym (is left.0)) ∙ append_one ds d (map f (drop (i + 1) xs)) ∙ ap (λ l. l ++ map f (drop (i + 1) xs)) (sym m);
    }

pub all_items_printed : {X : Type 0} (P : X → Type 0) (f : X → Data) (xs : List X) (i : ℕ) (ds : List Data) → length xs ≤ i → ItemsPrinted P f xs i ds → ds ≡ map f xs
all_items_printed P f xs i ds ge w = sym (w.same ∙ ap (λ l. ds ++ map f l) (drop_all i xs ge) ∙ append_none ds)

-- ---- members that are left

left_below : (t : Tables) (types : List (Option InterfaceType)) (i : ℕ) (rest : Members) → AreOf t (drop i types) rest → (rest ≡ no_members → ⊥) → i < length types
left_below t [] zero rest a ne = absurd (ne (none_left t rest a))
left_below t [] (suc i) rest a ne = absurd (ne (none_left t rest a))
left_below t (x ∷ xs) zero rest a ne = omega arith
left_below t (x ∷ xs) (suc i) rest a ne = omega (arith, left_below t xs i rest a ne)

not_none : (rest : Members) (v : Value) (vs : List Value) → AreMembers rest (v ∷ vs) → rest ≡ no_members → ⊥
unfolding IsA
not_none rest v vs are e = subst (λ r. AreMembers r (v ∷ vs)) e are

is_none : (rest : Members) → AreTyped rest → AreMembers rest [] → rest ≡ no_members
unfolding IsA
is_none no_members h are = refl
is_none (bare n ms) h are = absurd h
is_none (typed n s ms) h are = absurd are

are_typed : (rest more : Members) (n : List ℕ) (s : Shape) (vs ws : List Value) (v : Value) → rest ≡ typed n s more → vs ≡ v ∷ ws → AreMembers rest vs → IsA s v × AreMembers more ws
unfolding IsA
are_typed rest more n s vs ws v is e are = subst (AreMembers (typed n s more)) e (subst (λ r. AreMembers r vs) is are)

printed_typed : (rest more : Members) (n : List ℕ) (s : Shape) (vs ws : List Value) (v : Value) → rest ≡ typed n s more → vs ≡ v ∷ ws → data_places rest vs ≡ data_of s v ∷ data_places more ws
unfolding data_places
printed_typed rest more n s vs ws v is e = (λ j. data_places (is j) (e j))

printed_none : (rest : Members) (vs : List Value) → rest ≡ no_members → data_places rest vs ≡ []
unfolding data_places
printed_none rest vs e = ap (λ r. data_places r vs) e

-- ---- a walk by places

-- The members before place i gave ds.
pub record PlacesPrinted (t : Tables) (types : List (Option InterfaceType)) (ms : Members) (vs : List Value) (i : ℕ) (ds : List Data) : Type 0 where
  pub rest : Members
  pub of : AreOf t (drop i types) rest
  pub typed : AreTyped rest
  pub are : AreMembers rest (drop i vs)
  pub same : data_places ms vs ≡ ds ++ data_places rest (drop i vs)

pub no_place_printed : (t : Tables) (types : List (Option InterfaceType)) (ms : Members) (vs : List Value) → AreOf t types ms → AreTyped ms → AreMembers ms vs → PlacesPrinted t types ms vs 0 []
no_place_printed t types ms vs a h are = record { rest = ms; of = a; typed = h; are = are; same = refl }

pub place_printed : {t : Tables} {types : List (Option InterfaceType)} {ms : Members} {vs : List Value} {i : ℕ} {ds : List Data} (w : PlacesPrinted t types ms vs i ds) (v : Value) (d : Data) (more : List Data) → slice_get vs i ≡ Some v → PrintsMember t (member_type_at types i) v d → more ≡ ds ++ d ∷ [] → PlacesPrinted t types ms vs (i + 1) more
place_printed {t} {types} {ms} {vs} {i} {ds} w v d more at prints m =
    let front = front_at vs i v at in
    let f = first_left t types i w.rest (left_below t types i w.rest w.of (not_none w.rest v (drop (i + 1) vs) (subst (AreMembers w.rest) front w.are))) w.of w.typed in
    let are = are_typed w.rest f.more f.name f.shape (drop i vs) (drop (i + 1) vs) v f.is front w.are in
    record {
      rest = f.more;
      of = f.of;
      typed = f.typed;
      are = are.1;
      same = w.same ∙ ap (λ l. ds ++ l) (printed_typed w.rest f.more f.name f.shape (drop i vs) (drop (i + 1) vs) v f.is front)
          ∙ ap (λ d. ds ++ d ∷ data_places f.more (drop (i + 1) vs)) (sym (prints f.shape f.type_is are.0)) ∙ append_one ds d (data_places f.more (drop (i + 1) vs)) ∙ ap (λ l. l ++ data_places f.more (drop (i + 1) vs)) (sym m);
    }

pub all_places_printed : {t : Tables} {types : List (Option InterfaceType)} {ms : Members} {vs : List Value} {i : ℕ} {ds : List Data} → length vs ≤ i → PlacesPrinted t types ms vs i ds → ds ≡ data_places ms vs
all_places_printed {t} {types} {ms} {vs} {i} {ds} ge w =
    sym (w.same ∙ ap (λ l. ds ++ l) (printed_none w.rest (drop i vs) (is_none w.rest w.typed (subst (AreMembers w.rest) (drop_all i vs ge) w.are))) ∙ append_none ds)

-- a key and a value
pub entry_printed : (t : Tables) (x : Node) (ms : Members) (k v : Value) (d e : Data) → AreAllOf t x ms → AreMembers ms (k ∷ v ∷ []) → PrintsMember t (member_type_at x.types 0) k d → PrintsMember t (member_type_at x.types 1) v e → array (items_of (d ∷ e ∷ [])) ≡ entry_data (λ vs. data_places ms vs) (k, v)
entry_printed t x ms k v d e all are f g =
    let first = place_printed (no_place_printed t x.types ms (k ∷ v ∷ []) all.of all.typed are) k d (d ∷ []) refl f refl in
    let second = place_printed first v e (d ∷ e ∷ []) refl g refl in
    ap (λ l. array (items_of l)) (all_places_printed (omega arith) second)

-- ---- a walk by names

-- The fields before place i gave the members es.
pub record FieldsPrinted (t : Tables) (types : List (Option InterfaceType)) (ms : Members) (fs : List (List ℕ × Value)) (i : ℕ) (es : json.Members) : Type 0 where
  pub rest : Members
  pub of : AreOf t (drop i types) rest
  pub typed : AreTyped rest
  pub named : map (λ f. f.0) (drop i fs) ≡ typed_names rest
  pub are : AreMembers rest (map (λ f. f.1) (drop i fs))
  pub same : object_of (zip (typed_names ms) (data_places ms (map (λ f. f.1) fs))) json.no_members ≡ object_of (zip (typed_names rest) (data_places rest (map (λ f. f.1) (drop i fs)))) es

pub no_field_printed : (t : Tables) (types : List (Option InterfaceType)) (ms : Members) (fs : List (List ℕ × Value)) → AreOf t types ms → AreTyped ms → map (λ f. f.0) fs ≡ typed_names ms → AreMembers ms (map (λ f. f.1) fs) → FieldsPrinted t types ms fs 0 json.no_members
no_field_printed t types ms fs a h named are = record { rest = ms; of = a; typed = h; named = named; are = are; same = refl }

fields_typed : (rest more : Members) (n : List ℕ) (s : Shape) (v : Value) (vs : List Value) (ws : List Value) (es : json.Members) → rest ≡ typed n s more → ws ≡ v ∷ vs → object_of (zip (typed_names rest) (data_places rest ws)) es ≡ object_of (zip (typed_names more) (data_places more vs)) (put n (data_of s v) es)
unfolding data_places
fields_typed rest more n s v vs ws es is e = (λ j. object_of (zip (typed_names (is j)) (data_places (is j) (e j))) es)

pub field_printed : {t : Tables} {types : List (Option InterfaceType)} {ms : Members} {fs : List (List ℕ × Value)} {i : ℕ} {es : json.Members} (w : FieldsPrinted t types ms fs i es) (f : List ℕ × Value) (d : Data) (more : json.Members) → slice_get fs i ≡ Some f → PrintsMember t (member_type_at types i) f.1 d → more ≡ put f.0 d es → FieldsPrinted t types ms fs (i + 1) more
field_printed {t} {types} {ms} {fs} {i} {es} w f d more at prints m =
    let front = front_at fs i f at in
    let values = ap (map (λ (f : List ℕ × Value). f.1)) front in
    let l = first_left t types i w.rest (left_below t types i w.rest w.of (not_none w.rest f.1 (map (λ f. f.1) (drop (i + 1) fs)) (subst (AreMembers w.rest) values w.are))) w.of w.typed in
    let names : f.0 ∷ map (λ (f : List ℕ × Value). f.0) (drop (i + 1) fs) ≡ l.name ∷ typed_names l.more = sym (ap (map (λ (f : List ℕ × Value). f.0)) front) ∙ w.named ∙ ap typed_names l.is in
    let are = are_typed w.rest l.more l.name l.shape (map (λ f. f.1) (drop i fs)) (map (λ f. f.1) (drop (i + 1) fs)) f.1 l.is values w.are in
    record {
      rest = l.more;
      of = l.of;
      typed = l.typed;
      named = tails _ _ _ _ names;
      are = are.1;
      same = w.same ∙ fields_typed w.rest l.more l.name l.shape f.1 (map (λ f. f.1) (drop (i + 1) fs)) (map (λ f. f.1) (drop i fs)) es l.is values
          ∙ ap (object_of (zip (typed_names l.more) (data_places l.more (map (λ f. f.1) (drop (i + 1) fs))))) ((λ j. put (sym (heads _ _ _ _ names) j) (sym (prints l.shape l.type_is are.0) j) es) ∙ sym m);
    }

no_fields_left : (rest : Members) (vs : List Value) (es : json.Members) → rest ≡ no_members → object_of (zip (typed_names rest) (data_places rest vs)) es ≡ es
no_fields_left rest vs es e = ap (λ r. object_of (zip (typed_names r) (data_places r vs)) es) e

pub all_fields_printed : {t : Tables} {types : List (Option InterfaceType)} {ms : Members} {fs : List (List ℕ × Value)} {i : ℕ} {es : json.Members} → length fs ≤ i → FieldsPrinted t types ms fs i es → es ≡ object_of (zip (typed_names ms) (data_places ms (map (λ f. f.1) fs))) json.no_members
all_fields_printed {t} {types} {ms} {fs} {i} {es} ge w =
    sym (w.same ∙ no_fields_left w.rest (map (λ f. f.1) (drop i fs)) es (is_none w.rest w.typed (subst (λ l. AreMembers w.rest (map (λ (f : List ℕ × Value). f.1) l)) (drop_all i fs ge) w.are)))

-- ---- payloads

abbrev IsPayload : Option Shape → List Value → Type 0
IsPayload None vs = vs ≡ []
IsPayload (Some s) vs = IsOnePayload (λ v. IsA s v) vs

abbrev payload_data : Option Shape → List Value → Data
payload_data None vs = null
payload_data (Some s) vs = where_first (λ v. data_of s v) vs

-- the payload of the case of a name
record PayloadAt (t : Tables) (types : List (Option InterfaceType)) (ms : Members) (i : ℕ) (x : List ℕ) (vs : List Value) : Type 0 where
  pub payload : Option Shape
  pub type_is : IsTypeOf t (member_type_at types i) payload
  pub has : IsPayload payload vs
  pub same : data_case ms x vs ≡ payload_data payload vs

payload_at : (t : Tables) (types : List (Option InterfaceType)) (ms : Members) (i : ℕ) (x : List ℕ) (vs : List Value) → AreOf t types ms → IsFirstNamed x (names_of ms) i → HasCase ms x vs → PayloadAt t types ms i x vs
unfolding IsA data_case
payload_at t [] no_members i x vs a f h = absurd f
payload_at t (o ∷ types) no_members i x vs a f h = absurd a
payload_at t [] (bare n ms) i x vs a f h = absurd a
payload_at t (o ∷ types) (bare n ms) zero x vs a f h = record {
  payload = None;
  type_is = subst (λ o. IsTypeOf t o None) (sym a.0) tt;
  has = subst (λ b. chosen b (vs ≡ []) (HasCase ms x vs)) f h;
  same = ap (λ b. if b then null else data_case ms x vs) f;
}
payload_at t (o ∷ types) (bare n ms) (suc i) x vs a f h =
    let p = payload_at t types ms i x vs a.1 f.1 (subst (λ b. chosen b (vs ≡ []) (HasCase ms x vs)) f.0 h) in
    record { payload = p.payload; type_is = p.type_is; has = p.has; same = ap (λ b. if b then null else data_case ms x vs) f.0 ∙ p.same }
payload_at t [] (typed n s ms) i x vs a f h = absurd a
payload_at t (o ∷ types) (typed n s ms) zero x vs a f h = record {
  payload = Some s;
  type_is = subst (λ o. IsTypeOf t o (Some s)) (sym a.0.1) a.0.2;
  has = subst (λ b. chosen b (IsOnePayload (λ v. IsA s v) vs) (HasCase ms x vs)) f h;
  same = ap (λ b. if b then where_first (λ v. data_of s v) vs else data_case ms x vs) f;
}
payload_at t (o ∷ types) (typed n s ms) (suc i) x vs a f h =
    let p = payload_at t types ms i x vs a.1 f.1 (subst (λ b. chosen b (IsOnePayload (λ v. IsA s v) vs) (HasCase ms x vs)) f.0 h) in
    record { payload = p.payload; type_is = p.type_is; has = p.has; same = ap (λ b. if b then where_first (λ v. data_of s v) vs else data_case ms x vs) f.0 ∙ p.same }

pub no_such_case : (ms : Members) (x : List ℕ) (vs : List Value) → IsNowhere x (names_of ms) → HasCase ms x vs → ⊥
unfolding IsA
no_such_case no_members x vs f h = h
no_such_case (bare n ms) x vs f h = no_such_case ms x vs f.1 (subst (λ b. chosen b (vs ≡ []) (HasCase ms x vs)) f.0 h)
no_such_case (typed n s ms) x vs f h = no_such_case ms x vs f.1 (subst (λ b. chosen b (IsOnePayload (λ v. IsA s v) vs) (HasCase ms x vs)) f.0 h)

given_payload : (t : Tables) (y : Option InterfaceType) (p : Option Shape) (vs : List Value) (v : Value) (d : Data) → IsTypeOf t y p → IsPayload p vs → slice_get vs 0 ≡ Some v → PrintsMember t y v d → d ≡ payload_data p vs
given_payload t y None vs v d ty has at f = absurd (none_some None v refl (sym (ap (λ l. slice_get l 0) has) ∙ at))
given_payload t y (Some s) [] v d ty has at f = absurd has
given_payload t y (Some s) (w ∷ []) v d ty has at f =
    let same = same_some (Some w) w v refl at in
    f s ty (subst (λ v. IsA s v) same has) ∙ ap (λ v. data_of s v) (sym same)
given_payload t y (Some s) (w ∷ u ∷ vs) v d ty has at f = absurd has

pub payload_printed : (t : Tables) (types : List (Option InterfaceType)) (ms : Members) (i : ℕ) (x : List ℕ) (vs : List Value) (v : Value) (d : Data) → AreOf t types ms → IsFirstNamed x (names_of ms) i → HasCase ms x vs → slice_get vs 0 ≡ Some v → PrintsMember t (member_type_at types i) v d → d ≡ data_case ms x vs
payload_printed t types ms i x vs v d a f h at prints =
    let p = payload_at t types ms i x vs a f h in
    given_payload t (member_type_at types i) p.payload vs v d p.type_is p.has at prints ∙ sym p.same

lacking_payload : (p : Option Shape) (vs : List Value) → IsPayload p vs → slice_get vs 0 ≡ None → null ≡ payload_data p vs
lacking_payload None vs has at = refl
lacking_payload (Some s) [] has at = absurd has
lacking_payload (Some s) (v ∷ vs) has at = absurd (none_some (Some v) v at refl)

pub no_payload_printed : (t : Tables) (types : List (Option InterfaceType)) (ms : Members) (i : ℕ) (x : List ℕ) (vs : List Value) → AreOf t types ms → IsFirstNamed x (names_of ms) i → HasCase ms x vs → slice_get vs 0 ≡ None → null ≡ data_case ms x vs
no_payload_printed t types ms i x vs a f h at =
    let p = payload_at t types ms i x vs a f h in
    lacking_payload p.payload vs p.has at ∙ sym p.same

-- ---- values of types, one by one

-- The values before place i gave ds.
pub record ValuesPrinted (t : Tables) (tys : List InterfaceType) (ss : List Shape) (vs : List Value) (i : ℕ) (ds : List Data) : Type 0 where
  pub rest : List Shape
  pub has : HaveShapes t (drop i tys) rest
  pub are : AreMembers (members_from i rest) (drop i vs)
  pub same : data_places (tuple_members ss) vs ≡ ds ++ data_places (members_from i rest) (drop i vs)

pub no_value_printed : (t : Tables) (tys : List InterfaceType) (ss : List Shape) (vs : List Value) → HaveShapes t tys ss → AreMembers (tuple_members ss) vs → ValuesPrinted t tys ss vs 0 []
no_value_printed t tys ss vs h are = record { rest = ss; has = h; are = are; same = refl }

-- the first of the types that are left, for the first of the values that are left
record FrontType (t : Tables) (tys : List InterfaceType) (i : ℕ) (rest : List Shape) : Type 0 where
  pub ty : InterfaceType
  pub at : slice_get tys i ≡ Some ty
  pub first : FirstType t tys i ty rest

front_type : (t : Tables) (tys : List InterfaceType) (i : ℕ) (rest : List Shape) (v : Value) (vs : List Value) → HaveShapes t (drop i tys) rest → AreMembers (members_from i rest) (v ∷ vs) → FrontType t tys i rest
unfolding IsA
front_type t tys i [] v vs h are = absurd are
front_type t tys i (s ∷ ss) v vs h are = go (slice_get tys i) refl
  where
    go : (o : Option InterfaceType) → slice_get tys i ≡ o → FrontType t tys i (s ∷ ss)
    go None e = absurd (subst (λ l. HaveShapes t l (s ∷ ss)) (slice_past tys i e) h)
    go (Some y) e = record { ty = y; at = e; first = split_types t tys i y (s ∷ ss) (subst (λ l. HaveShapes t l (s ∷ ss)) (front_at tys i y e) h) }

are_from : (rest more : List Shape) (s : Shape) (i : ℕ) (vs ws : List Value) (v : Value) → rest ≡ s ∷ more → vs ≡ v ∷ ws → AreMembers (members_from i rest) vs → IsA s v × AreMembers (members_from (suc i) more) ws
unfolding IsA
are_from rest more s i vs ws v is e are = subst (AreMembers (members_from i (s ∷ more))) e (subst (λ r. AreMembers (members_from i r) vs) is are)

printed_from : (rest more : List Shape) (s : Shape) (i : ℕ) (vs ws : List Value) (v : Value) → rest ≡ s ∷ more → vs ≡ v ∷ ws → data_places (members_from i rest) vs ≡ data_of s v ∷ data_places (members_from (suc i) more) ws
unfolding data_places
printed_from rest more s i vs ws v is e = (λ j. data_places (members_from i (is j)) (e j))

pub value_printed : {t : Tables} {tys : List InterfaceType} {ss : List Shape} {vs : List Value} {i : ℕ} {ds : List Data} (w : ValuesPrinted t tys ss vs i ds) (v : Value) (d : Data) (more : List Data) → slice_get vs i ≡ Some v → ((y : InterfaceType) → slice_get tys i ≡ Some y → PrintsValue t y v d) → more ≡ ds ++ d ∷ [] → ValuesPrinted t tys ss vs (i + 1) more
value_printed {t} {tys} {ss} {vs} {i} {ds} w v d more at prints m =
    let front = front_at vs i v at in
    let f = front_type t tys i w.rest v (drop (i + 1) vs) w.has (subst (AreMembers (members_from i w.rest)) front w.are) in
    let are = are_from w.rest f.first.more f.first.shape i (drop i vs) (drop (i + 1) vs) v f.first.is front w.are in
    let next : suc i ≡ i + 1 = omega arith in
    record {
      rest = f.first.more;
      has = f.first.has;
      are = subst (λ k. AreMembers (members_from k f.first.more) (drop (i + 1) vs)) next are.1;
      same = w.same ∙ ap (λ l. ds ++ l) (printed_from w.rest f.first.more f.first.shape i (drop i vs) (drop (i + 1) vs) v f.first.is front)
          ∙ ap (λ k. ds ++ data_of f.first.shape v ∷ data_places (members_from k f.first.more) (drop (i + 1) vs)) next
          ∙ ap (λ d. ds ++ d ∷ data_places (members_from (i + 1) f.first.more) (drop (i + 1) vs)) (sym (prints f.ty f.at f.first.shape f.first.shaped are.0)) ∙ append_one ds d (data_places (members_from (i + 1) f.first.more) (drop (i + 1) vs)) ∙ ap (λ l. l ++ data_places (members_from (i + 1) f.first.more) (drop (i + 1) vs)) (sym m);
    }

none_from : (rest : List Shape) (i : ℕ) (vs : List Value) → vs ≡ [] → AreMembers (members_from i rest) vs → data_places (members_from i rest) vs ≡ []
unfolding IsA data_places
none_from [] i vs e are = refl
none_from (s ∷ ss) i vs e are = absurd (subst (AreMembers (members_from i (s ∷ ss))) e are)

pub all_values_printed : {t : Tables} {tys : List InterfaceType} {ss : List Shape} {vs : List Value} {i : ℕ} {ds : List Data} → length vs ≤ i → ValuesPrinted t tys ss vs i ds → ds ≡ data_places (tuple_members ss) vs
all_values_printed {t} {tys} {ss} {vs} {i} {ds} ge w = sym (w.same ∙ ap (λ l. ds ++ l) (none_from w.rest i (drop i vs) (drop_all i vs ge) w.are) ∙ append_none ds)

-- ---- names of flags that are set

-- The flags before place i gave these names.
abbrev pub NamesPrinted : List (List ℕ × Bool) → ℕ → List Json → Type 0
NamesPrinted flags i list = map (λ n. string n) (set_names flags) ≡ map view list ++ map (λ n. string n) (set_names (drop i flags))

pub set_printed : (flags : List (List ℕ × Bool)) (i : ℕ) (n : List ℕ) (b : Bool) (list more : List Json) (v : Json) → slice_get flags i ≡ Some (n, b) → b ≡ true → view v ≡ string n → more ≡ list ++ v ∷ [] → NamesPrinted flags i list → NamesPrinted flags (i + 1) more
set_printed flags i n b list more v at set is e w =
    let front = front_at flags i (n, b) at ∙ ap (λ b. (n, b) ∷ drop (i + 1) flags) set in
    let names = map (λ n. string n) (set_names (drop (i + 1) flags)) in
    w ∙ ap (λ fs. map view list ++ map (λ n. string n) (set_names fs)) front ∙ ap (λ d. map view list ++ d ∷ names) (sym is) ∙ append_one (map view list) (view v) names ∙ ap (λ l. l ++ names) (sym (one_viewed list more v e))

pub unset_printed : (flags : List (List ℕ × Bool)) (i : ℕ) (n : List ℕ) (b : Bool) (list : List Json) → slice_get flags i ≡ Some (n, b) → b ≡ false → NamesPrinted flags i list → NamesPrinted flags (i + 1) list
unset_printed flags i n b list at unset w =
    w ∙ ap (λ fs. map view list ++ map (λ n. string n) (set_names fs)) (front_at flags i (n, b) at ∙ ap (λ b. (n, b) ∷ drop (i + 1) flags) unset)

pub all_set_printed : (flags : List (List ℕ × Bool)) (i : ℕ) (list : List Json) → length flags ≤ i → NamesPrinted flags i list → map view list ≡ map (λ n. string n) (set_names flags)
all_set_printed flags i list ge w = sym (w ∙ ap (λ fs. map view list ++ map (λ n. string n) (set_names fs)) (drop_all i flags ge) ∙ append_none (map view list))
