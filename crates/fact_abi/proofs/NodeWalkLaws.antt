-- How values of each kind of type with members cross, by what their members give.
use Rattle.std.proofs.Common.{◌≡◌, ℕ, List, [], ◌∷◌, map, Option, Some, None, refl, sym, ap, ◌∙◌, subst}
use Rattle.std.specs.Prelude.{slice_get}
use Rattle.fact_entity.specs.declared.id.Id.{Id}
use Rattle.fact_entity.specs.declared.table.TypeResourceTables.{TypeResourceTables}
use Rattle.fact_entity.specs.declared.table.TypeComponentLocalErrorContextTables.{TypeComponentLocalErrorContextTables}
use Rattle.fact_types.specs.declared.interface.InterfaceType.{InterfaceType}
use Rattle.fact_types.specs.declared.interface.InterfaceType.TheVariants as ty
use Rattle.fact_types.specs.declared.kinds.RecordField.{RecordField}
use Rattle.fact_types.specs.Agrees.{names_of, named, Agrees, AgreesFields, AgreesCase, AgreesPlaces}
use Rattle.fact_types.specs.Shapes.{Kind, k_record, k_variant, k_list, k_tuple, k_map, k_flags, k_enum, k_option, k_result, k_fixed, k_future, k_stream, Shape, s_plain, s_node, Members, no_members, bare, typed}
use Rattle.fact_types.specs.Tables as tables
use Rattle.fact_types.specs.Tables.{Tables, node_of, HasShape, HasMembers, record_node, variant_node, list_node, tuple_node, map_node, flags_node, enum_node, option_node, result_node, future_node, stream_node, fixed_length_list_node}
use Rattle.fact_types.proofs.ShapeLaws.{none_some}
use Rattle.fact_abi.specs.declared.nodes.Node.{Node}
use Rattle.fact_abi.specs.declared.nodes.NodeKind.{NodeKind}
use Rattle.fact_abi.specs.declared.nodes.NodeKind.TheVariants as is
use Rattle.fact_values.specs.declared.value.HandleKind.TheVariants.{Future, Stream}
use Rattle.fact_values.specs.declared.value.Value.{Value, out-Value}
use Rattle.fact_values.specs.declared.value.Value.TheVariants as value
use Rattle.fact_values.specs.Carry.{take_number}
use Rattle.fact_abi.specs.CrossingWalks.{StepGives, CrossingGives, Meets, record_crossed, tuple_crossed, list_crossed, map_crossed, entry_crossed, case_crossed}
use Rattle.fact_values.specs.Handles.{Step, done_step, then_step, given, each_step, table_number_of, members_of, cross_handle, cross_plain, cross_flags, cross, cross_places}
use Rattle.fact_values.specs.Load.{entry_of}
use Rattle.fact_abi.specs.Nodes.{kind_of, AreOf, AreTold, HasNode}
use Rattle.fact_types.specs.Options.{◌>>=◌}
use Rattle.fact_values.specs.Numbers.{plain_of}
use Rattle.fact_values.specs.Opened.{map_entries_in}
use Rattle.fact_values.specs.Places.{typed_names}
use Rattle.fact_values.proofs.CarryLaws.{record_source, tuple_source, list_source, map_source, fixed_source, enum_source, variant_source, option_source, result_source}
use Rattle.fact_values.proofs.FormedLaws.{each_entry, formed}
use Rattle.fact_abi.proofs.LoadLaws.{of_kind, split_typed}
use Rattle.fact_values.proofs.MemberLaws.{names_told}
use Rattle.fact_abi.proofs.ToldLaws.{fields_told, field_names_are}
use Rattle.fact_abi.proofs.WalkLaws.{with_first, each_meets, bare_meets, places_meet}

-- ---- what is told of the source, whose kind is that of the target

abbrev kind_in : Shape → Kind
kind_in (s_plain p) = k_list
kind_in (s_node k ms) = k

abbrev HasTypes : Kind → Type 0
HasTypes k_flags = ⊥
HasTypes (k_future table instance) = ⊥
HasTypes (k_stream table instance) = ⊥
HasTypes _ = Unit {0}

abbrev HasNames : Kind → Type 0
HasNames k_variant = Unit {0}
HasNames k_enum = Unit {0}
HasNames k_option = Unit {0}
HasNames k_result = Unit {0}
HasNames _ = ⊥

abbrev HasFields : Kind → Type 0
HasFields k_record = Unit {0}
HasFields _ = ⊥

told_types : (k : NodeKind) (t : Tables) (names : List (List ℕ)) (types : List (Option InterfaceType)) (ms : Members) → HasTypes (kind_of k) → AreTold k t names types ms → AreOf t types ms
told_types is.Record t names types ms h a = a.1
told_types is.Variant t names types ms h a = a.1
told_types is.Enum t names types ms h a = a.1
told_types is.Option t names types ms h a = a.1
told_types is.Result t names types ms h a = a.1
told_types is.Flags t names types ms h a = absurd h
told_types (is.List e) t names types ms h a = a.1
told_types is.Tuple t names types ms h a = a
told_types (is.Map k v) t names types ms h a = a.1
told_types (is.FixedList n e) t names types ms h a = a.1
told_types (is.Future table instance) t names types ms h a = absurd h
told_types (is.Stream table instance) t names types ms h a = absurd h

told_names : (k : NodeKind) (t : Tables) (names : List (List ℕ)) (types : List (Option InterfaceType)) (ms : Members) → HasNames (kind_of k) → AreTold k t names types ms → names ≡ names_of ms
told_names is.Variant t names types ms h a = a.0
told_names is.Enum t names types ms h a = a.0
told_names is.Option t names types ms h a = a.0
told_names is.Result t names types ms h a = a.0
told_names is.Record t names types ms h a = absurd h
told_names is.Flags t names types ms h a = absurd h
told_names (is.List e) t names types ms h a = absurd h
told_names is.Tuple t names types ms h a = absurd h
told_names (is.Map k v) t names types ms h a = absurd h
told_names (is.FixedList n e) t names types ms h a = absurd h
told_names (is.Future table instance) t names types ms h a = absurd h
told_names (is.Stream table instance) t names types ms h a = absurd h

told_fields : (k : NodeKind) (t : Tables) (names : List (List ℕ)) (types : List (Option InterfaceType)) (ms : Members) → HasFields (kind_of k) → AreTold k t names types ms → names ≡ typed_names ms
told_fields is.Record t names types ms h a = a.0
told_fields is.Variant t names types ms h a = absurd h
told_fields is.Enum t names types ms h a = absurd h
told_fields is.Option t names types ms h a = absurd h
told_fields is.Result t names types ms h a = absurd h
told_fields is.Flags t names types ms h a = absurd h
told_fields (is.List e) t names types ms h a = absurd h
told_fields is.Tuple t names types ms h a = absurd h
told_fields (is.Map k v) t names types ms h a = absurd h
told_fields (is.FixedList n e) t names types ms h a = absurd h
told_fields (is.Future table instance) t names types ms h a = absurd h
told_fields (is.Stream table instance) t names types ms h a = absurd h

module _ (t : Tables) (y : InterfaceType) (x : Node) (k : Kind) (ms : Members) (node : HasNode t y x) (h : HasShape t y (s_node k ms)) where
  same_kind : k ≡ kind_of x.kind
  same_kind = ap kind_in (node.shaped (s_node k ms) h).is

  same_members : (node.shaped (s_node k ms) h).members ≡ ms
  same_members = sym (ap members_of (node.shaped (s_node k ms) h).is)

  source_types : HasTypes k → AreOf t x.types ms
  source_types p = subst (AreOf t x.types) same_members (told_types x.kind t x.names x.types _ (subst HasTypes same_kind p) (node.shaped (s_node k ms) h).told)

  source_names : HasNames k → x.names ≡ names_of ms
  source_names p = subst (λ ms. x.names ≡ names_of ms) same_members (told_names x.kind t x.names x.types _ (subst HasNames same_kind p) (node.shaped (s_node k ms) h).told)

  source_fields : HasFields k → x.names ≡ typed_names ms
  source_fields p = subst (λ ms. x.names ≡ typed_names ms) same_members (told_fields x.kind t x.names x.types _ (subst HasFields same_kind p) (node.shaped (s_node k ms) h).told)

-- ---- each field of a record has a type

abbrev HasFieldsAlone : Kind → Members → Type 0
HasFieldsAlone k_record ms = names_of ms ≡ typed_names ms
HasFieldsAlone _ ms = Unit {0}

abbrev Alone : Tables → tables.Node → Type 0
Alone t n = (ms : Members) → HasMembers t n.members ms → HasFieldsAlone n.kind ms

fields_alone : (t : Tables) (fs : List RecordField) (ms : Members) → HasMembers t (map (λ (f : RecordField). (f.name, Some f.ty)) fs) ms → names_of ms ≡ typed_names ms
fields_alone t fs ms h = sym (names_told t (map (λ (f : RecordField). (f.name, Some f.ty)) fs) ms h) ∙ sym (field_names_are fs) ∙ fields_told t fs ms h

node_alone : (t : Tables) (y : InterfaceType) (n : tables.Node) → node_of t y ≡ Some n → Alone t n
node_alone t (ty.Record i) n is = each_entry (Alone t) record_node (slice_get t.records i.number) n is (λ e ms h. fields_alone t e.fields ms h)
node_alone t (ty.Variant i) n is = each_entry (Alone t) variant_node (slice_get t.variants i.number) n is (λ e ms h. tt)
node_alone t (ty.List i) n is = each_entry (Alone t) list_node (slice_get t.lists i.number) n is (λ e ms h. tt)
node_alone t (ty.Tuple i) n is = each_entry (Alone t) tuple_node (slice_get t.tuples i.number) n is (λ e ms h. tt)
node_alone t (ty.Map i) n is = each_entry (Alone t) map_node (slice_get t.maps i.number) n is (λ e ms h. tt)
node_alone t (ty.Flags i) n is = each_entry (Alone t) flags_node (slice_get t.flags i.number) n is (λ e ms h. tt)
node_alone t (ty.Enum i) n is = each_entry (Alone t) enum_node (slice_get t.enums i.number) n is (λ e ms h. tt)
node_alone t (ty.Option i) n is = each_entry (Alone t) option_node (slice_get t.options i.number) n is (λ e ms h. tt)
node_alone t (ty.Result i) n is = each_entry (Alone t) result_node (slice_get t.results i.number) n is (λ e ms h. tt)
node_alone t (ty.Future i) n is = each_entry (Alone t) (future_node t.futures i.number) (slice_get t.future_tables i.number) n is (λ e ms h. tt)
node_alone t (ty.Stream i) n is = each_entry (Alone t) (stream_node t.streams i.number) (slice_get t.stream_tables i.number) n is (λ e ms h. tt)
node_alone t (ty.FixedLengthList i) n is = each_entry (Alone t) fixed_length_list_node (slice_get t.fixed_length_lists i.number) n is (λ e ms h. tt)
node_alone t _ n is = absurd (none_some None n refl is)

pub record_alone : (t : Tables) (y : InterfaceType) (ms : Members) → HasShape t y (s_node k_record ms) → names_of ms ≡ typed_names ms
record_alone t y ms h = subst (λ k. HasFieldsAlone k ms) h.2 (node_alone t y h.0 h.1 ms h.3)

-- ---- plain types

-- a plain type that is no handle keeps its value
pub stays : (q : InterfaceType) (from : ℕ) (v : Value) (left : List ℕ) → ((j : Id TypeResourceTables) → q ≡ ty.Own j → ⊥) → ((j : Id TypeResourceTables) → q ≡ ty.Borrow j → ⊥) → ((j : Id TypeComponentLocalErrorContextTables) → q ≡ ty.ErrorContext j → ⊥)
    → cross_plain take_number from (plain_of q) v left ≡ Some (v, left)
stays (ty.Own j) from v left a b c = absurd (a j refl)
stays (ty.Borrow j) from v left a b c = absurd (b j refl)
stays (ty.ErrorContext j) from v left a b c = absurd (c j refl)
stays _ from v left a b c = refl

pub plain_given : (t : Tables) (from to : InterfaceType) (v : Value) (numbers left : List ℕ) (o : Option Value) → ((d : Shape) → HasShape t to d → d ≡ s_plain to) → ((table : ℕ) → StepGives o left (cross_plain take_number table (plain_of to) v numbers)) → CrossingGives t from to v numbers left o
unfolding cross
plain_given t from to v numbers left o plain g s d h k a = subst (λ d. StepGives o left (cross take_number s d v numbers)) (sym (plain d k)) (g (table_number_of s))

-- a plain source agrees with no type that has members
no_plain_source : (k : Kind) (p : InterfaceType) (ns : Members) → Agrees (s_plain p) (s_node k ns) → ⊥
no_plain_source k_record p ns a = a
no_plain_source k_variant p ns a = a
no_plain_source k_list p ns a = a
no_plain_source k_tuple p ns a = a
no_plain_source k_map p ns a = a
no_plain_source k_flags p ns a = a
no_plain_source k_enum p ns a = a
no_plain_source k_option p ns a = a
no_plain_source k_result p ns a = a
no_plain_source (k_fixed n) p ns a = a
no_plain_source (k_future table instance) p ns a = a
no_plain_source (k_stream table instance) p ns a = a

pub plain_source : (t : Tables) (from to : InterfaceType) (target : Node) (v : Value) (numbers left : List ℕ) (o : Option Value) → HasNode t to target → ((s : Shape) → HasShape t from s → s ≡ s_plain from) → CrossingGives t from to v numbers left o
plain_source t from to target v numbers left o node plain s d h k a =
    let q = node.shaped d k in
    absurd (no_plain_source (kind_of target.kind) from q.members (subst (λ s. Agrees s (s_node (kind_of target.kind) q.members)) (plain s h) (subst (Agrees s) q.is a)))

-- ---- the members of maps

each_same : {A B : Type 0} (f g : A → Step (List ℕ) B) → ((a : A) (left : List ℕ) → f a left ≡ g a left) → (items : List A) (left : List ℕ) → each_step f items left ≡ each_step g items left
each_same f g e [] left = refl
each_same {A} {B} f g e (a ∷ items) left = ap (λ (o : Option (B × List ℕ)). ◌>>=◌ {B = List B × List ℕ} o (λ r. with_first r.0 (each_step f items r.1))) (e a left) ∙ rest (λ st. each_same f g e items st) (g a left)
  where
    rest : ((st : List ℕ) → each_step f items st ≡ each_step g items st) → (o : Option (B × List ℕ)) → ◌>>=◌ {B = List B × List ℕ} o (λ r. with_first r.0 (each_step f items r.1)) ≡ ◌>>=◌ {B = List B × List ℕ} o (λ r. with_first r.0 (each_step g items r.1))
    rest h None = refl
    rest h (Some r) = ap (with_first r.0) (h r.1)

module _ (m n k l : List ℕ) (s d u w : Shape) where
  entry_same : (entry : Value × Value) (left : List ℕ) → entry_crossed s d u w entry left
      ≡ then_step (cross_places take_number (typed m s (typed k u no_members)) (entry.0 ∷ entry.1 ∷ []) (typed n d (typed l w no_members))) (λ us. given (entry_of us) done_step) left
  unfolding cross
  entry_same entry left = first (cross take_number s d entry.0 left)
    where
      second : (a : Value) (o : Option (Value × List ℕ)) → ◌>>=◌ {B = (Value × Value) × List ℕ} o (λ r. Some ((a, r.0), r.1))
          ≡ ◌>>=◌ {A = List Value × List ℕ} {B = (Value × Value) × List ℕ} (with_first a (◌>>=◌ {B = List Value × List ℕ} o (λ r. with_first r.0 (Some ([], r.1))))) (λ r. given (entry_of r.0) done_step r.1)
      second a None = refl
      second a (Some r) = refl

      first : (o : Option (Value × List ℕ)) → ◌>>=◌ {B = (Value × Value) × List ℕ} o (λ r. ◌>>=◌ {B = (Value × Value) × List ℕ} (cross take_number u w entry.1 r.1) (λ q. Some ((r.0, q.0), q.1)))
          ≡ ◌>>=◌ {A = List Value × List ℕ} {B = (Value × Value) × List ℕ} (◌>>=◌ {B = List Value × List ℕ} o (λ r. with_first r.0 (cross_places take_number (typed k u no_members) (entry.1 ∷ []) (typed l w no_members) r.1))) (λ r. given (entry_of r.0) done_step r.1)
      first None = refl
      first (Some r) = second r.0 (cross take_number u w entry.1 r.1)

  -- a key and a value that cross as members
  abbrev both : Value × Value → Step (List ℕ) (Value × Value)
  both entry = then_step (cross_places take_number (typed m s (typed k u no_members)) (entry.0 ∷ entry.1 ∷ []) (typed n d (typed l w no_members))) (λ us. given (entry_of us) done_step)

  map_same : (v : Value) (left : List ℕ) → map_crossed s d u w v left ≡ cross take_number (s_node k_map (typed m s (typed k u no_members))) (s_node k_map (typed n d (typed l w no_members))) v left
  unfolding cross
  map_same v left = go (map_entries_in (out-Value v))
    where
      go : (o : Option (List (Value × Value))) → given o (λ es. then_step (each_step (entry_crossed s d u w) es) (λ fs. done_step (value.Map fs))) left
          ≡ given o (λ es. then_step (each_step (λ e. then_step (cross_places take_number (typed m s (typed k u no_members)) (e.0 ∷ e.1 ∷ []) (typed n d (typed l w no_members))) (λ us. given (entry_of us) done_step)) es) (λ fs. done_step (value.Map fs))) left
      go None = refl
      go (Some es) = ap (λ r. r >>= (λ q. Some (value.Map q.0, q.1))) (each_same (entry_crossed s d u w) both (λ e st. entry_same e st) es left)

-- ---- each kind, by what its members give

-- the one member of a list, and its source's
record OneMember (t : Tables) (ms ns : Members) : Type 0 where
  m : List ℕ
  n : List ℕ
  s : Shape
  d : Shape
  from : Members
  to : Members
  from_is : ms ≡ typed m s from
  to_is : ns ≡ typed n d to
  agrees : Agrees s d

one_member : (t : Tables) (y : InterfaceType) (ys : List (Option InterfaceType)) (ms ns : Members) → AreOf t (Some y ∷ ys) ns → AgreesPlaces ms ns → OneMember t ms ns
one_member t y ys ms ns h a =
    let p = split_typed t y ys ns h in
    go ms p.name p.shape p.rest p.is (subst (AgreesPlaces ms) p.is a)
  where
    go : (ms : Members) (n : List ℕ) (d : Shape) (to : Members) → ns ≡ typed n d to → AgreesPlaces ms (typed n d to) → OneMember t ms ns
    go no_members n d to e a = absurd a
    go (bare m from) n d to e a = absurd a
    go (typed m s from) n d to e a = record { m = m; n = n; s = s; d = d; from = from; to = to; from_is = refl; to_is = e; agrees = a.0 }

-- the key and the value of a map, and the source's
record TwoMembers (ms ns : Members) : Type 0 where
  m : List ℕ
  n : List ℕ
  k : List ℕ
  l : List ℕ
  s : Shape
  d : Shape
  u : Shape
  w : Shape
  from_is : ms ≡ typed m s (typed k u no_members)
  to_is : ns ≡ typed n d (typed l w no_members)
  keys : Agrees s d
  items : Agrees u w

two_members : (t : Tables) (y z : InterfaceType) (ms ns : Members) → AreOf t (Some y ∷ Some z ∷ []) ns → AgreesPlaces ms ns → TwoMembers ms ns
two_members t y z ms no_members h a = absurd h
two_members t y z ms (bare n ns) h a = absurd (none_some (Some y) y h.0 refl)
two_members t y z ms (typed n d no_members) h a = absurd h.1
two_members t y z ms (typed n d (bare l ns)) h a = absurd (none_some (Some z) z h.1.0 refl)
two_members t y z ms (typed n d (typed l w (bare r ns))) h a = absurd h.1.1
two_members t y z ms (typed n d (typed l w (typed r x ns))) h a = absurd h.1.1
two_members t y z no_members (typed n d (typed l w no_members)) h a = absurd a
two_members t y z (bare m ms) (typed n d (typed l w no_members)) h a = absurd a
two_members t y z (typed m s no_members) (typed n d (typed l w no_members)) h a = absurd a.1
two_members t y z (typed m s (bare k ms)) (typed n d (typed l w no_members)) h a = absurd a.1
two_members t y z (typed m s (typed k u (bare r ms))) (typed n d (typed l w no_members)) h a = absurd a.1.1
two_members t y z (typed m s (typed k u (typed r x ms))) (typed n d (typed l w no_members)) h a = absurd a.1.1
two_members t y z (typed m s (typed k u no_members)) (typed n d (typed l w no_members)) h a =
    record { m = m; n = n; k = k; l = l; s = s; d = d; u = u; w = w; from_is = refl; to_is = refl; keys = a.0; items = a.1.0 }

module _ (t : Tables) (from to : InterfaceType) (source target : Node) (v : Value) (numbers left : List ℕ) (o : Option Value) (src : HasNode t from source) (dst : HasNode t to target) where
  -- what is to be shown of a kind, once its members are known
  by_target : (k : NodeKind) → target.kind ≡ k → ((s : Shape) (ns : Members) → HasShape t from s → HasShape t to (s_node (kind_of k) ns) → AreTold k t target.names target.types ns → Agrees s (s_node (kind_of k) ns) → StepGives o left (cross take_number s (s_node (kind_of k) ns) v numbers))
      → CrossingGives t from to v numbers left o
  by_target k is f s d h i a =
      let q = of_kind t to target k d dst is i in
      subst (λ d. StepGives o left (cross take_number s d v numbers)) (sym q.is) (f s q.members h (subst (HasShape t to) q.is i) q.told (subst (Agrees s) q.is a))

  pub record_given : target.kind ≡ is.Record
      → ((ms ns : Members) → source.names ≡ names_of ms → AreOf t source.types ms → target.names ≡ names_of ns → AreOf t target.types ns → names_of ns ≡ typed_names ns → AgreesFields ms ns → StepGives o left (record_crossed ms ns v numbers))
      → CrossingGives t from to v numbers left o
  unfolding cross
  record_given kind f = by_target is.Record kind (λ s ns h i told a.
      let (ms, at, agree) = record_source ns (λ ms. AgreesFields ms ns) (λ x p. AgreesCase x p ns) (λ ms. AgreesPlaces ms ns) s a in
      let h' = subst (HasShape t from) at h in
      let alone = record_alone t to ns i in
      subst (λ s. StepGives o left (cross take_number s (s_node k_record ns) v numbers)) (sym at)
      (f ms ns (source_fields t from source k_record ms src h' tt ∙ sym (record_alone t from ms h')) (source_types t from source k_record ms src h' tt) (told.0 ∙ sym alone) told.1 alone agree.fields))

  pub tuple_given : target.kind ≡ is.Tuple → ((ms ns : Members) → AreOf t source.types ms → AreOf t target.types ns → AgreesPlaces ms ns → StepGives o left (tuple_crossed ms ns v numbers)) → CrossingGives t from to v numbers left o
  unfolding cross
  tuple_given kind f = by_target is.Tuple kind (λ s ns h i told a.
      let (ms, at, agree) = tuple_source ns (λ ms. AgreesFields ms ns) (λ x p. AgreesCase x p ns) (λ ms. AgreesPlaces ms ns) s a in
      subst (λ s. StepGives o left (cross take_number s (s_node k_tuple ns) v numbers)) (sym at) (f ms ns (source_types t from source k_tuple ms src (subst (HasShape t from) at h) tt) told agree))

  abbrev Cases : Type 0
  Cases = (ms ns : Members) → source.names ≡ names_of ms → AreOf t source.types ms → target.names ≡ names_of ns → AreOf t target.types ns → ((x : List ℕ) → Meets x (named x ms) ns) → StepGives o left (case_crossed ms ns v numbers)

  pub variant_given : target.kind ≡ is.Variant → Cases → CrossingGives t from to v numbers left o
  unfolding cross
  variant_given kind f = by_target is.Variant kind (λ s ns h i told a.
      let (ms, at, agree) = variant_source ns (λ ms. AgreesFields ms ns) (λ x p. AgreesCase x p ns) (λ ms. AgreesPlaces ms ns) s a in
      let h' = subst (HasShape t from) at h in
      subst (λ s. StepGives o left (cross take_number s (s_node k_variant ns) v numbers)) (sym at) (f ms ns (source_names t from source k_variant ms src h' tt) (source_types t from source k_variant ms src h' tt) told.0 told.1 (each_meets ms ns agree)))

  pub enum_given : target.kind ≡ is.Enum → Cases → CrossingGives t from to v numbers left o
  unfolding cross
  enum_given kind f = by_target is.Enum kind (λ s ns h i told a.
      let (ms, at, agree) = enum_source ns (λ ms. AgreesFields ms ns) (λ x p. AgreesCase x p ns) (λ ms. AgreesPlaces ms ns) s a in
      let h' = subst (HasShape t from) at h in
      subst (λ s. StepGives o left (cross take_number s (s_node k_enum ns) v numbers)) (sym at)
      (f ms ns (source_names t from source k_enum ms src h' tt) (source_types t from source k_enum ms src h' tt) told.0 told.1 (λ x. bare_meets x (named x ms) ns (formed t to (s_node k_enum ns) i).0)))

  pub option_given : target.kind ≡ is.Option → Cases → CrossingGives t from to v numbers left o
  unfolding cross
  option_given kind f = by_target is.Option kind (λ s ns h i told a.
      let (ms, at, agree) = option_source ns (λ ms. AgreesFields ms ns) (λ x p. AgreesCase x p ns) (λ ms. AgreesPlaces ms ns) s a in
      let h' = subst (HasShape t from) at h in
      subst (λ s. StepGives o left (cross take_number s (s_node k_option ns) v numbers)) (sym at)
      (f ms ns (source_names t from source k_option ms src h' tt) (source_types t from source k_option ms src h' tt) told.0 told.1 (places_meet ms ns ((formed t from (s_node k_option ms) h').0 ∙ sym (formed t to (s_node k_option ns) i).0) agree)))

  pub result_given : target.kind ≡ is.Result → Cases → CrossingGives t from to v numbers left o
  unfolding cross
  result_given kind f = by_target is.Result kind (λ s ns h i told a.
      let (ms, at, agree) = result_source ns (λ ms. AgreesFields ms ns) (λ x p. AgreesCase x p ns) (λ ms. AgreesPlaces ms ns) s a in
      let h' = subst (HasShape t from) at h in
      subst (λ s. StepGives o left (cross take_number s (s_node k_result ns) v numbers)) (sym at)
      (f ms ns (source_names t from source k_result ms src h' tt) (source_types t from source k_result ms src h' tt) told.0 told.1 (places_meet ms ns ((formed t from (s_node k_result ms) h').0 ∙ sym (formed t to (s_node k_result ns) i).0) agree)))

  abbrev Lists : Type 0
  Lists = (m n : List ℕ) (s d : Shape) (ms ns : Members) → AreOf t source.types (typed m s ms) → AreOf t target.types (typed n d ns) → Agrees s d → StepGives o left (list_crossed s d v numbers)

  list_members : (k : Kind) → (ms ns : Members) (y : InterfaceType) → target.types ≡ Some y ∷ [] → AreOf t source.types ms → AreOf t target.types ns → AgreesPlaces ms ns → Lists
      → ((m n : List ℕ) (s d : Shape) (a b : Members) → StepGives o left (list_crossed s d v numbers) → StepGives o left (cross take_number (s_node k (typed m s a)) (s_node k (typed n d b)) v numbers)) → StepGives o left (cross take_number (s_node k ms) (s_node k ns) v numbers)
  list_members k ms ns y types h i agree f g =
      let p = one_member t y [] ms ns (subst (λ xs. AreOf t xs ns) types i) agree in
      subst (λ a. StepGives o left (cross take_number (s_node k a) (s_node k ns) v numbers)) (sym p.from_is)
      (subst (λ b. StepGives o left (cross take_number (s_node k (typed p.m p.s p.from)) (s_node k b) v numbers)) (sym p.to_is)
      (g p.m p.n p.s p.d p.from p.to (f p.m p.n p.s p.d p.from p.to (subst (AreOf t source.types) p.from_is h) (subst (AreOf t target.types) p.to_is i) p.agrees)))

  pub list_given : (y : InterfaceType) → target.kind ≡ is.List y → Lists → CrossingGives t from to v numbers left o
  unfolding cross
  list_given y kind f = by_target (is.List y) kind (λ s ns h i told a.
      let (ms, at, agree) = list_source ns (λ ms. AgreesFields ms ns) (λ x p. AgreesCase x p ns) (λ ms. AgreesPlaces ms ns) s a in
      subst (λ s. StepGives o left (cross take_number s (s_node k_list ns) v numbers)) (sym at)
      (list_members k_list ms ns y told.0 (source_types t from source k_list ms src (subst (HasShape t from) at h) tt) told.1 agree f (λ m n s d a b g. g)))

  pub fixed_list_given : (j : ℕ) (y : InterfaceType) → target.kind ≡ is.FixedList j y → Lists → CrossingGives t from to v numbers left o
  unfolding cross
  fixed_list_given j y kind f = by_target (is.FixedList j y) kind (λ s ns h i told a.
      let (r, ms, at, same, agree) = fixed_source ns (λ ms. AgreesFields ms ns) (λ x p. AgreesCase x p ns) (λ ms. AgreesPlaces ms ns) j s a in
      let at' = at ∙ ap (λ r. s_node (k_fixed r) ms) same in
      subst (λ s. StepGives o left (cross take_number s (s_node (k_fixed j) ns) v numbers)) (sym at')
      (list_members (k_fixed j) ms ns y told.0 (source_types t from source (k_fixed j) ms src (subst (HasShape t from) at' h) tt) told.1 agree f (λ m n s d a b g. g)))

  abbrev Maps : Type 0
  Maps = (m n k l : List ℕ) (s d u w : Shape) (ms ns : Members) → AreOf t source.types (typed m s (typed k u ms)) → AreOf t target.types (typed n d (typed l w ns)) → Agrees s d → Agrees u w → StepGives o left (map_crossed s d u w v numbers)

  pub map_given : (y z : InterfaceType) → target.kind ≡ is.Map y z → Maps → CrossingGives t from to v numbers left o
  map_given y z kind f = by_target (is.Map y z) kind (λ s ns h i told a.
      let (ms, at, agree) = map_source ns (λ ms. AgreesFields ms ns) (λ x p. AgreesCase x p ns) (λ ms. AgreesPlaces ms ns) s a in
      let p = two_members t y z ms ns (subst (λ xs. AreOf t xs ns) told.0 told.1) agree in
      let g = f p.m p.n p.k p.l p.s p.d p.u p.w no_members no_members (subst (AreOf t source.types) p.from_is (source_types t from source k_map ms src (subst (HasShape t from) at h) tt)) (subst (AreOf t target.types) p.to_is told.1) p.keys p.items in
      subst (λ s. StepGives o left (cross take_number s (s_node k_map ns) v numbers)) (sym at)
      (subst (λ a. StepGives o left (cross take_number (s_node k_map a) (s_node k_map ns) v numbers)) (sym p.from_is)
      (subst (λ b. StepGives o left (cross take_number (s_node k_map (typed p.m p.s (typed p.k p.u no_members))) (s_node k_map b) v numbers)) (sym p.to_is)
      (subst (StepGives o left) (map_same p.m p.n p.k p.l p.s p.d p.u p.w v numbers) g))))

  pub flags_given : target.kind ≡ is.Flags → ((ns : Members) (left : List ℕ) → target.names ≡ names_of ns → StepGives o left (cross_flags ns v left)) → numbers ≡ left → CrossingGives t from to v numbers left o
  unfolding cross
  flags_given kind f same = by_target is.Flags kind (λ s ns h i told a. subst (λ st. StepGives o left (cross take_number s (s_node k_flags ns) v st)) (sym same) (f ns left told))

  pub future_given : (table instance : ℕ) → target.kind ≡ is.Future table instance → ((from : ℕ) → StepGives o left (cross_handle take_number Future from table v numbers)) → CrossingGives t from to v numbers left o
  unfolding cross
  future_given table instance kind f = by_target (is.Future table instance) kind (λ s ns h i told a. f (table_number_of s))

  pub stream_given : (table instance : ℕ) → target.kind ≡ is.Stream table instance → ((from : ℕ) → StepGives o left (cross_handle take_number Stream from table v numbers)) → CrossingGives t from to v numbers left o
  unfolding cross
  stream_given table instance kind f = by_target (is.Stream table instance) kind (λ s ns h i told a. f (table_number_of s))
