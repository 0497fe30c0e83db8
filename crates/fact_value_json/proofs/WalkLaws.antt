-- What the members of a type are read as, one after another.
use Rattle.std.proofs.Common.{◌≡◌, ℕ, zero, suc, ◌+◌, ◌≤◌, ◌<◌, List, [], ◌∷◌, ◌++◌, length, drop, get_or, map, Option, Some, None, Result, Ok, Err, true, false, refl, sym, ap, ◌∙◌, subst, arith}
use Rattle.std.specs.Prelude.{slice_get, if◌then◌else◌, ⊤}
use Rattle.std.specs.Str.{bytes_eq}
use Rattle.std.proofs.lemmas.List.{drop_all}
use Rattle.std.proofs.lemmas.Option.{slice_get-get_or}
use Rattle.serde_json.specs.Data.{Data, Items}
use Rattle.serde_json.specs.View.{view, items_view}
use Rattle.serde_json.specs.declared.value.Value.{Value as Json}
use Rattle.fact_types.specs.declared.interface.InterfaceType.{InterfaceType}
use Rattle.fact_types.specs.declared.interface.InterfaceType.TheVariants as ty
use Rattle.fact_types.specs.declared.kinds.RecordField.{RecordField}
use Rattle.fact_types.specs.Agrees.{names_of}
use Rattle.fact_types.specs.Shapes.{Kind, k_record, k_tuple, k_map, Shape, s_plain, s_node, Members, no_members, bare, typed}
use Rattle.fact_types.specs.Tables as tables
use Rattle.fact_types.specs.Tables.{Tables, node_of, HasShape, HasMembers, placed, record_node, variant_node, list_node, tuple_node, map_node, flags_node, enum_node, option_node, result_node, future_node, stream_node, fixed_length_list_node}
use Rattle.fact_types.proofs.ShapeLaws.{same_some, none_some}
use Rattle.fact_plan.specs.declared.fault.PlanFault.{PlanFault}
use Rattle.fact_plan.specs.declared.fault.PlanFault.TheVariants.{UnknownKey}
use Rattle.fact_plan.specs.Fault.{Gives, UnlessMemory, at_step, key_step, place_step, ◌>>=◌}
use Rattle.fact_plan.proofs.ReadLemmas.{prepend}
use Rattle.fact_plan.specs.Parts.{field}
use Rattle.fact_abi.specs.declared.nodes.Node.{Node}
use Rattle.fact_abi.specs.declared.nodes.NodeKind.{NodeKind}
use Rattle.fact_values.specs.declared.value.Value.{Value}
use Rattle.fact_values.specs.declared.value.Value.TheVariants as value
use Rattle.fact_abi.specs.Finding.{IsFirstNamed, IsNowhere, IsTypeOf, member_type_at}
use Rattle.fact_abi.specs.Nodes.{kind_of, AreOf, AreTold, HasNode}
use Rattle.fact_values.specs.Numbers.{plain_of}
use Rattle.fact_values.specs.Places.{typed_names}
use Rattle.fact_values.proofs.FormedLaws.{each_entry}
use Rattle.fact_values.proofs.IsALaws.{bytes_are}
use Rattle.fact_abi.proofs.LoadLaws.{of_kind}
use Rattle.fact_value_json.proofs.TypeLaws.{member_type_is}
use Rattle.fact_value_json.proofs.StepLaws.{front_at, first_failed, same_failed, given_at, nothing_read, one_read, one_failed, all_read}
use Rattle.fact_value_json.specs.Reading.{read, read_plain, read_fields, read_places, read_case, null_in}
use Rattle.fact_value_json.specs.Walks.{AreTyped, AreAllOf, ReadsField, ReadsMember, ReadsPayload, payload_in}

-- ---- by the kinds of types

pub plain_reads : (y : InterfaceType) (s : Shape) (d : Data) (r : Result Value PlanFault) → s ≡ s_plain y → Gives (read_plain (plain_of y) d) r → Gives (read s d) r
unfolding read
plain_reads y s d r e g = subst (λ s. Gives (read s d) r) (sym e) g

pub by_shape : (t : Tables) (y : InterfaceType) (x : Node) (k : NodeKind) (P : Shape → Type 0) → HasNode t y x → x.kind ≡ k → ((ms : Members) → AreTold k t x.names x.types ms → HasShape t y (s_node (kind_of k) ms) → P (s_node (kind_of k) ms)) → (s : Shape) → HasShape t y s → P s
by_shape t y x k P node is f s h =
    let o = of_kind t y x k s node is h in
    subst P (sym o.is) (f o.members o.told (subst (HasShape t y) o.is h))

-- ---- each member of a record, of a tuple and of a map has a type

abbrev HasAllTyped : Kind → Members → Type 0
HasAllTyped k_record ms = AreTyped ms
HasAllTyped k_tuple ms = AreTyped ms
HasAllTyped k_map ms = AreTyped ms
HasAllTyped _ ms = Unit {0}

abbrev AllTyped : Tables → tables.Node → Type 0
AllTyped t n = (ms : Members) → HasMembers t n.members ms → HasAllTyped n.kind ms

fields_typed : (t : Tables) (fs : List RecordField) (ms : Members) → HasMembers t (map (λ (f : RecordField). (f.name, Some f.ty)) fs) ms → AreTyped ms
fields_typed t [] no_members h = tt
fields_typed t (f ∷ fs) no_members h = absurd h
fields_typed t [] (bare n ms) h = absurd h
fields_typed t (f ∷ fs) (bare n ms) h = absurd (none_some (Some f.ty) f.ty h.1 refl)
fields_typed t [] (typed n s ms) h = absurd h
fields_typed t (f ∷ fs) (typed n s ms) h = fields_typed t fs ms h.2

places_typed : (t : Tables) (i : ℕ) (ys : List InterfaceType) (ms : Members) → HasMembers t (placed i ys) ms → AreTyped ms
places_typed t i [] no_members h = tt
places_typed t i (y ∷ ys) no_members h = absurd h
places_typed t i [] (bare n ms) h = absurd h
places_typed t i (y ∷ ys) (bare n ms) h = absurd (none_some (Some y) y h.1 refl)
places_typed t i [] (typed n s ms) h = absurd h
places_typed t i (y ∷ ys) (typed n s ms) h = places_typed t (suc i) ys ms h.2

node_typed : (t : Tables) (y : InterfaceType) (n : tables.Node) → node_of t y ≡ Some n → AllTyped t n
node_typed t (ty.Record i) n is = each_entry (AllTyped t) record_node (slice_get t.records i.number) n is (λ e ms h. fields_typed t e.fields ms h)
node_typed t (ty.Variant i) n is = each_entry (AllTyped t) variant_node (slice_get t.variants i.number) n is (λ e ms h. tt)
node_typed t (ty.List i) n is = each_entry (AllTyped t) list_node (slice_get t.lists i.number) n is (λ e ms h. tt)
node_typed t (ty.Tuple i) n is = each_entry (AllTyped t) tuple_node (slice_get t.tuples i.number) n is (λ e ms h. places_typed t 0 e.types ms h)
node_typed t (ty.Map i) n is = each_entry (AllTyped t) map_node (slice_get t.maps i.number) n is (λ e ms h. places_typed t 0 (e.key ∷ e.value ∷ []) ms h)
node_typed t (ty.Flags i) n is = each_entry (AllTyped t) flags_node (slice_get t.flags i.number) n is (λ e ms h. tt)
node_typed t (ty.Enum i) n is = each_entry (AllTyped t) enum_node (slice_get t.enums i.number) n is (λ e ms h. tt)
node_typed t (ty.Option i) n is = each_entry (AllTyped t) option_node (slice_get t.options i.number) n is (λ e ms h. tt)
node_typed t (ty.Result i) n is = each_entry (AllTyped t) result_node (slice_get t.results i.number) n is (λ e ms h. tt)
node_typed t (ty.Future i) n is = each_entry (AllTyped t) (future_node t.futures i.number) (slice_get t.future_tables i.number) n is (λ e ms h. tt)
node_typed t (ty.Stream i) n is = each_entry (AllTyped t) (stream_node t.streams i.number) (slice_get t.stream_tables i.number) n is (λ e ms h. tt)
node_typed t (ty.FixedLengthList i) n is = each_entry (AllTyped t) fixed_length_list_node (slice_get t.fixed_length_lists i.number) n is (λ e ms h. tt)
node_typed t _ n is = absurd (none_some None n refl is)

all_typed : (t : Tables) (y : InterfaceType) (k : Kind) (ms : Members) → HasShape t y (s_node k ms) → HasAllTyped k ms
all_typed t y k ms h = subst (λ k. HasAllTyped k ms) h.2 (node_typed t y h.0 h.1 ms h.3)

pub record_typed : (t : Tables) (y : InterfaceType) (ms : Members) → HasShape t y (s_node k_record ms) → AreTyped ms
record_typed t y ms h = all_typed t y k_record ms h

pub tuple_typed : (t : Tables) (y : InterfaceType) (ms : Members) → HasShape t y (s_node k_tuple ms) → AreTyped ms
tuple_typed t y ms h = all_typed t y k_tuple ms h

pub map_typed : (t : Tables) (y : InterfaceType) (ms : Members) → HasShape t y (s_node k_map ms) → AreTyped ms
map_typed t y ms h = all_typed t y k_map ms h

pub typed_names_are : (ms : Members) → AreTyped ms → typed_names ms ≡ names_of ms
typed_names_are no_members h = refl
typed_names_are (bare n ms) h = absurd h
typed_names_are (typed n s ms) h = ap (λ l. n ∷ l) (typed_names_are ms h)

pub typed_count : (t : Tables) (types : List (Option InterfaceType)) (ms : Members) → AreOf t types ms → AreTyped ms → length types ≡ length (typed_names ms)
typed_count t [] no_members a h = refl
typed_count t (x ∷ xs) no_members a h = absurd a
typed_count t [] (bare n ms) a h = absurd a
typed_count t (x ∷ xs) (bare n ms) a h = absurd h
typed_count t [] (typed n s ms) a h = absurd a
typed_count t (x ∷ xs) (typed n s ms) a h = ap suc (typed_count t xs ms a.1 h)

-- ---- members that are left

-- The first of members that are left, where there is one.
pub record FirstLeft (t : Tables) (types : List (Option InterfaceType)) (i : ℕ) (rest : Members) : Type 0 where
  pub name : List ℕ
  pub shape : Shape
  pub more : Members
  pub is : rest ≡ typed name shape more
  pub type_is : IsTypeOf t (member_type_at types i) (Some shape)
  pub of : AreOf t (drop (i + 1) types) more
  pub typed : AreTyped more

type_of_front : (t : Tables) (types : List (Option InterfaceType)) (i : ℕ) (o : Option InterfaceType) (y : InterfaceType) (s : Shape) → slice_get types i ≡ Some o → o ≡ Some y → HasShape t y s → IsTypeOf t (member_type_at types i) (Some s)
type_of_front t types i o y s at is h = subst (λ y. IsTypeOf t y (Some s)) (sym (member_type_is types i o at ∙ is)) h

split_left : (t : Tables) (types : List (Option InterfaceType)) (i : ℕ) (o : Option InterfaceType) (rest : Members) → slice_get types i ≡ Some o → AreOf t (o ∷ drop (i + 1) types) rest → AreTyped rest → FirstLeft t types i rest
split_left t types i o no_members at a h = absurd a
split_left t types i o (bare n ms) at a h = absurd h
split_left t types i o (typed n s ms) at a h = record { name = n; shape = s; more = ms; is = refl; type_is = type_of_front t types i o a.0.0 s at a.0.1 a.0.2; of = a.1; typed = h }

pub first_left : (t : Tables) (types : List (Option InterfaceType)) (i : ℕ) (rest : Members) → i < length types → AreOf t (drop i types) rest → AreTyped rest → FirstLeft t types i rest
first_left t types i rest lt a h =
    let at = slice_get-get_or types i None lt in
    split_left t types i (get_or types i None) rest at (subst (λ xs. AreOf t xs rest) (front_at types i _ at) a) h

pub none_left : (t : Tables) (rest : Members) → AreOf t [] rest → rest ≡ no_members
none_left t no_members a = refl
none_left t (bare n ms) a = absurd a
none_left t (typed n s ms) a = absurd a

-- ---- a walk by places

-- The members before place i gave xs.
pub record PlacesRead (t : Tables) (types : List (Option InterfaceType)) (ms : Members) (vs : List Json) (i : ℕ) (xs : List Value) : Type 0 where
  pub rest : Members
  pub of : AreOf t (drop i types) rest
  pub typed : AreTyped rest
  pub same : read_places ms 0 (items_view vs) ≡ prepend xs (read_places rest i (items_view (drop i vs)))

pub no_place_read : (t : Tables) (types : List (Option InterfaceType)) (ms : Members) (vs : List Json) → AreOf t types ms → AreTyped ms → PlacesRead t types ms vs 0 []
no_place_read t types ms vs a h = record { rest = ms; of = a; typed = h; same = nothing_read (read_places ms 0 (items_view vs)) }

place_left : (rest more : Members) (n : List ℕ) (s : Shape) (vs : List Json) (i : ℕ) (v : Json) → rest ≡ typed n s more → slice_get vs i ≡ Some v
    → read_places rest i (items_view (drop i vs)) ≡ at_step (place_step i) (read s (view v)) >>= (λ x. read_places more (i + 1) (items_view (drop (i + 1) vs)) >>= (λ ys. Ok (x ∷ ys)))
unfolding read_places
place_left rest more n s vs i v is at = (λ j. read_places (is j) i (items_view (front_at vs i v at j)))

module _ {t : Tables} {types : List (Option InterfaceType)} {ms : Members} {vs : List Json} {i : ℕ} {xs : List Value} (w : PlacesRead t types ms vs i xs) (lt : i < length types) (v : Json) (at : slice_get vs i ≡ Some v) where
  pub place_read : (inner r : Result Value PlanFault) (x : Value) (more : List Value) → ReadsMember t (member_type_at types i) (view v) inner → Gives (at_step (place_step i) inner) r → r ≡ Ok x → more ≡ xs ++ x ∷ [] → PlacesRead t types ms vs (i + 1) more
  place_read inner r x more reads g e m =
      let f = first_left t types i w.rest lt w.of w.typed in
      let here : at_step (place_step i) (read f.shape (view v)) ≡ Ok x = subst (Gives (at_step (place_step i) (read f.shape (view v)))) e (given_at (place_step i) (read f.shape (view v)) inner r (reads f.shape f.type_is) g) in
      record { rest = f.more; of = f.of; typed = f.typed; same = one_read _ xs _ (read_places f.more (i + 1) (items_view (drop (i + 1) vs))) x more (w.same ∙ ap (prepend xs) (place_left w.rest f.more f.name f.shape vs i v f.is at)) here m }

  pub place_failed : (inner r : Result Value PlanFault) (e : PlanFault) → ReadsMember t (member_type_at types i) (view v) inner → Gives (at_step (place_step i) inner) r → r ≡ Err e → UnlessMemory e (read_places ms 0 (items_view vs) ≡ Err e)
  place_failed inner r e reads g q =
      let f = first_left t types i w.rest lt w.of w.typed in
      one_failed _ xs _ _ e (w.same ∙ ap (prepend xs) (place_left w.rest f.more f.name f.shape vs i v f.is at)) (subst (Gives (at_step (place_step i) (read f.shape (view v)))) q (given_at (place_step i) (read f.shape (view v)) inner r (reads f.shape f.type_is) g))

no_places : (rest : Members) (i : ℕ) (ds : Items) → rest ≡ no_members → read_places rest i ds ≡ Ok []
unfolding read_places
no_places rest i ds e = ap (λ r. read_places r i ds) e

pub all_places_read : {t : Tables} {types : List (Option InterfaceType)} {ms : Members} {vs : List Json} {i : ℕ} {xs : List Value} → length types ≤ i → PlacesRead t types ms vs i xs → read_places ms 0 (items_view vs) ≡ Ok xs
all_places_read {t} {types} {ms} {vs} {i} {xs} ge w =
    all_read _ _ xs w.same (no_places w.rest i _ (none_left t w.rest (subst (λ ys. AreOf t ys w.rest) (drop_all i types ge) w.of)))

-- ---- a walk by names

pub named_count : (t : Tables) (types : List (Option InterfaceType)) (ms : Members) → AreOf t types ms → length types ≡ length (names_of ms)
named_count t [] no_members a = refl
named_count t (x ∷ xs) no_members a = absurd a
named_count t [] (bare n ms) a = absurd a
named_count t (x ∷ xs) (bare n ms) a = ap suc (named_count t xs ms a.1)
named_count t [] (typed n s ms) a = absurd a
named_count t (x ∷ xs) (typed n s ms) a = ap suc (named_count t xs ms a.1)

-- The fields before place i gave xs.
pub record FieldsRead (t : Tables) (x : Node) (ms : Members) (d : Data) (i : ℕ) (xs : List Value) : Type 0 where
  pub rest : Members
  pub of : AreOf t (drop i x.types) rest
  pub typed : AreTyped rest
  pub named : drop i x.names ≡ names_of rest
  pub count : length x.types ≡ length x.names
  pub same : read_fields ms d ≡ prepend xs (read_fields rest d)

pub no_field_read : (t : Tables) (x : Node) (ms : Members) (d : Data) → AreAllOf t x ms → x.names ≡ names_of ms → FieldsRead t x ms d 0 []
no_field_read t x ms d a n = record { rest = ms; of = a.of; typed = a.typed; named = n; count = named_count t x.types ms a.of ∙ ap length (sym n); same = nothing_read (read_fields ms d) }

pub heads : (x y : List ℕ) (xs ys : List (List ℕ)) → x ∷ xs ≡ y ∷ ys → x ≡ y
heads x y xs ys e = same_some (slice_get (x ∷ xs) 0) x y refl (ap (λ l. slice_get l 0) e)

pub tails : (x y : List ℕ) (xs ys : List (List ℕ)) → x ∷ xs ≡ y ∷ ys → xs ≡ ys
tails x y xs ys e = ap (λ l. drop 1 l) e

field_left : (rest more : Members) (n m : List ℕ) (s : Shape) (d : Data) → rest ≡ typed m s more → n ≡ m → read_fields rest d ≡ field (λ e. read s e) n d >>= (λ x. read_fields more d >>= (λ ys. Ok (x ∷ ys)))
unfolding read_fields
field_left rest more n m s d is e = ap (λ r. read_fields r d) is ∙ ap (λ n. field (λ e. read s e) n d >>= (λ x. read_fields more d >>= (λ ys. Ok (x ∷ ys)))) (sym e)

module _ {t : Tables} {x : Node} {ms : Members} {d : Data} {i : ℕ} {xs : List Value} (w : FieldsRead t x ms d i xs) (lt : i < length x.names) (n : List ℕ) (at : slice_get x.names i ≡ Some n) where
  here : FirstLeft t x.types i w.rest
  here = first_left t x.types i w.rest (omega (arith, lt, w.count)) w.of w.typed

  names_are : n ∷ drop (i + 1) x.names ≡ here.name ∷ names_of here.more
  names_are = sym (front_at x.names i n at) ∙ w.named ∙ ap names_of here.is

  pub field_read : (r : Result Value PlanFault) (v : Value) (more : List Value) → ReadsField t (member_type_at x.types i) n d r → r ≡ Ok v → more ≡ xs ++ v ∷ [] → FieldsRead t x ms d (i + 1) more
  field_read r v more reads e m = record {
    rest = here.more;
    of = here.of;
    typed = here.typed;
    named = tails _ _ _ _ names_are;
    count = w.count;
    same = one_read _ xs _ (read_fields here.more d) v more (w.same ∙ ap (prepend xs) (field_left w.rest here.more n here.name here.shape d here.is (heads _ _ _ _ names_are))) (subst (Gives (field (λ e. read here.shape e) n d)) e (reads here.shape here.type_is)) m;
  }

  pub field_failed : (r : Result Value PlanFault) (e : PlanFault) → ReadsField t (member_type_at x.types i) n d r → r ≡ Err e → UnlessMemory e (read_fields ms d ≡ Err e)
  field_failed r e reads q =
      one_failed _ xs _ _ e (w.same ∙ ap (prepend xs) (field_left w.rest here.more n here.name here.shape d here.is (heads _ _ _ _ names_are))) (subst (Gives (field (λ e. read here.shape e) n d)) q (reads here.shape here.type_is))

no_names : (rest : Members) → [] ≡ names_of rest → rest ≡ no_members
no_names no_members e = refl
no_names (bare n ms) e = cc
no_names (typed n s ms) e = cc

no_fields : (rest : Members) (d : Data) → rest ≡ no_members → read_fields rest d ≡ Ok []
unfolding read_fields
no_fields rest d e = ap (λ r. read_fields r d) e

pub all_fields_read : {t : Tables} {x : Node} {ms : Members} {d : Data} {i : ℕ} {xs : List Value} → length x.names ≤ i → FieldsRead t x ms d i xs → read_fields ms d ≡ Ok xs
all_fields_read {t} {x} {ms} {d} {i} {xs} ge w = all_read _ _ xs w.same (no_fields w.rest d (no_names w.rest (sym (drop_all i x.names ge) ∙ w.named)))

-- ---- cases

-- what the case of a name is read as: its payload, at the name
pub record CaseAt (t : Tables) (types : List (Option InterfaceType)) (ms : Members) (i : ℕ) (x : List ℕ) (d : Data) : Type 0 where
  pub payload : Option Shape
  pub type_is : IsTypeOf t (member_type_at types i) payload
  pub same : read_case ms x d ≡ at_step (key_step x) (payload_in payload d) >>= (λ vs. Ok (value.Case x vs))

bare_payload : (x : List ℕ) (r : Result ⊤ PlanFault) → at_step (key_step x) r >>= (λ _. Ok (value.Case x [])) ≡ at_step (key_step x) (r >>= (λ _. Ok [])) >>= (λ vs. Ok (value.Case x vs))
bare_payload x (Ok u) = refl
bare_payload x (Err e) = refl

typed_payload : (x : List ℕ) (r : Result Value PlanFault) → at_step (key_step x) r >>= (λ v. Ok (value.Case x (v ∷ []))) ≡ at_step (key_step x) (r >>= (λ v. Ok (v ∷ []))) >>= (λ vs. Ok (value.Case x vs))
typed_payload x (Ok v) = refl
typed_payload x (Err e) = refl

bare_case : (n x : List ℕ) (ms : Members) (d : Data) → bytes_eq n x ≡ true → read_case (bare n ms) x d ≡ at_step (key_step x) (payload_in None d) >>= (λ vs. Ok (value.Case x vs))
unfolding read_case
bare_case n x ms d e =
    ap (λ b. if b then at_step (key_step x) (null_in d) >>= (λ _. Ok (value.Case n [])) else read_case ms x d) e
    ∙ ap (λ n. at_step (key_step x) (null_in d) >>= (λ _. Ok (value.Case n []))) (bytes_are n x e) ∙ bare_payload x (null_in d)

typed_case : (n x : List ℕ) (s : Shape) (ms : Members) (d : Data) → bytes_eq n x ≡ true → read_case (typed n s ms) x d ≡ at_step (key_step x) (payload_in (Some s) d) >>= (λ vs. Ok (value.Case x vs))
unfolding read_case
typed_case n x s ms d e =
    ap (λ b. if b then at_step (key_step x) (read s d) >>= (λ v. Ok (value.Case n (v ∷ []))) else read_case ms x d) e
    ∙ ap (λ n. at_step (key_step x) (read s d) >>= (λ v. Ok (value.Case n (v ∷ [])))) (bytes_are n x e) ∙ typed_payload x (read s d)

other_bare : (n x : List ℕ) (ms : Members) (d : Data) → bytes_eq n x ≡ false → read_case (bare n ms) x d ≡ read_case ms x d
unfolding read_case
other_bare n x ms d e = ap (λ b. if b then at_step (key_step x) (null_in d) >>= (λ _. Ok (value.Case n [])) else read_case ms x d) e

other_typed : (n x : List ℕ) (s : Shape) (ms : Members) (d : Data) → bytes_eq n x ≡ false → read_case (typed n s ms) x d ≡ read_case ms x d
unfolding read_case
other_typed n x s ms d e = ap (λ b. if b then at_step (key_step x) (read s d) >>= (λ v. Ok (value.Case n (v ∷ []))) else read_case ms x d) e

case_further : {t : Tables} {o : Option InterfaceType} {types : List (Option InterfaceType)} {ms all : Members} {i : ℕ} {x : List ℕ} {d : Data} → read_case all x d ≡ read_case ms x d → CaseAt t types ms i x d → CaseAt t (o ∷ types) all (suc i) x d
case_further e c = record { payload = c.payload; type_is = c.type_is; same = e ∙ c.same }

pub case_at : (t : Tables) (types : List (Option InterfaceType)) (ms : Members) (i : ℕ) (x : List ℕ) (d : Data) → AreOf t types ms → IsFirstNamed x (names_of ms) i → CaseAt t types ms i x d
case_at t [] no_members i x d a f = absurd f
case_at t (o ∷ types) no_members i x d a f = absurd a
case_at t [] (bare n ms) i x d a f = absurd a
case_at t (o ∷ types) (bare n ms) zero x d a f = record { payload = None; type_is = subst (λ o. IsTypeOf t o None) (sym a.0) tt; same = bare_case n x ms d f }
case_at t (o ∷ types) (bare n ms) (suc i) x d a f = case_further (other_bare n x ms d f.0) (case_at t types ms i x d a.1 f.1)
case_at t [] (typed n s ms) i x d a f = absurd a
case_at t (o ∷ types) (typed n s ms) zero x d a f = record { payload = Some s; type_is = subst (λ o. IsTypeOf t o (Some s)) (sym a.0.1) a.0.2; same = typed_case n x s ms d f }
case_at t (o ∷ types) (typed n s ms) (suc i) x d a f = case_further (other_typed n x s ms d f.0) (case_at t types ms i x d a.1 f.1)

pub case_unknown : (ms : Members) (x : List ℕ) (d : Data) → IsNowhere x (names_of ms) → read_case ms x d ≡ Err (UnknownKey (key_step x))
unfolding read_case
case_unknown no_members x d f = refl
case_unknown (bare n ms) x d f = other_bare n x ms d f.0 ∙ case_unknown ms x d f.1
case_unknown (typed n s ms) x d f = other_typed n x s ms d f.0 ∙ case_unknown ms x d f.1

-- the case of a name is read as its payload is
pub case_failed : {t : Tables} {types : List (Option InterfaceType)} {ms : Members} {i : ℕ} {x : List ℕ} {d : Data} (a : CaseAt t types ms i x d) (inner : Result (List Value) PlanFault) (e : PlanFault) → ReadsPayload t (member_type_at types i) d inner → UnlessMemory e (at_step (key_step x) inner ≡ Err e) → UnlessMemory e (read_case ms x d ≡ Err e)
case_failed {t} {types} {ms} {i} {x} {d} a inner e reads h =
    same_failed (read_case ms x d) (at_step (key_step x) (payload_in a.payload d) >>= (λ vs. Ok (value.Case x vs))) e a.same
    (first_failed (at_step (key_step x) (payload_in a.payload d)) (λ vs. Ok (value.Case x vs)) e (given_at (key_step x) (payload_in a.payload d) inner (Err e) (reads a.payload a.type_is) h))

pub case_read : {t : Tables} {types : List (Option InterfaceType)} {ms : Members} {i : ℕ} {x : List ℕ} {d : Data} (a : CaseAt t types ms i x d) (inner : Result (List Value) PlanFault) (vs : List Value) (n : List ℕ) → ReadsPayload t (member_type_at types i) d inner → at_step (key_step x) inner ≡ Ok vs → n ≡ x → read_case ms x d ≡ Ok (value.Case n vs)
case_read {t} {types} {ms} {i} {x} {d} a inner vs n reads h e =
    a.same ∙ ap (λ r. r >>= (λ vs. Ok (value.Case x vs))) (given_at (key_step x) (payload_in a.payload d) inner (Ok vs) (reads a.payload a.type_is) h) ∙ ap (λ n. Ok (value.Case n vs)) (sym e)
