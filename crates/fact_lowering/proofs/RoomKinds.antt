-- What values of each kind of type ask for, by what their members ask for.
use Rattle.std.proofs.Common.{◌≡◌, ℕ, ◌+◌, ◌*◌, List, [], ◌∷◌, length, map, Option, Some, None, refl, sym, ap, ◌∙◌, subst, arith}
use Rattle.std.specs.Prelude.{Bool, true, false, sum_by, if◌then◌else◌}
use Rattle.std.specs.Str.{bytes_eq}
use Rattle.std.proofs.lemmas.Bool.{true≢false}
use Rattle.fact_entity.specs.declared.id.Id.{Id}
use Rattle.fact_entity.specs.declared.table.TypeResourceTables.{TypeResourceTables}
use Rattle.fact_entity.specs.declared.table.TypeComponentLocalErrorContextTables.{TypeComponentLocalErrorContextTables}
use Rattle.fact_types.specs.declared.interface.InterfaceType.{InterfaceType}
use Rattle.fact_types.specs.declared.interface.InterfaceType.TheVariants as ty
use Rattle.fact_types.specs.Agrees.{names_of}
use Rattle.fact_types.specs.Shapes.{Kind, k_record, k_variant, k_list, k_tuple, k_map, k_flags, k_enum, k_option, k_result, k_fixed, k_future, k_stream, Shape, s_plain, s_node, Members, no_members, bare, typed}
use Rattle.fact_types.specs.Tables.{Tables, HasShape}
use Rattle.fact_values.specs.declared.value.Value.{Value, out-Value, roll-Value, roll-out-Value}
use Rattle.fact_values.specs.declared.value.Value.TheOpen.{Value-F}
use Rattle.fact_values.specs.declared.value.Value.TheOpen as o
use Rattle.fact_values.specs.declared.value.Value.TheVariants as value
use Rattle.fact_values.specs.Formed.{AreBare, IsFormed}
use Rattle.fact_values.specs.Numbers.{plain_of, text}
use Rattle.fact_values.specs.Opened.{fields_in, members_in, elements_in, map_entries_in, case_in}
use Rattle.fact_values.specs.Places.{count_of_members, element_layout, typed_names}
use Rattle.fact_values.specs.Weight.{weight, weight_case, weight_element, weight_in, weight_members}
use Rattle.fact_values.proofs.FormedLaws.{formed}
use Rattle.fact_abi.specs.declared.nodes.Node.{Node}
use Rattle.fact_abi.specs.declared.nodes.NodeKind.{NodeKind}
use Rattle.fact_abi.specs.declared.nodes.NodeKind.TheVariants as is
use Rattle.fact_abi.specs.Nodes.{kind_of, AreOf, HasNode, IsNodeOf}
use Rattle.fact_abi.proofs.NodeWalkLaws.{record_alone}
use Rattle.fact_abi.proofs.LoadLaws.{of_kind}
use Rattle.fact_lowering.specs.declared.room.Asked.{Asked}
use Rattle.fact_lowering.specs.Counted.{AsksBy, CountsFor, stopped}
use Rattle.fact_lowering.specs.Room.{Measure, each_once, greatest_bytes, inner_room, measured, measured_element, measured_fields, measured_node, measured_payload, measured_places, measured_plain, MeasuredParts, members_there, same_kind, shape_named, text_in, where_there}
use Rattle.fact_lowering.proofs.RoomLaws.{Adds, asks_as}

-- what a value asks for
abbrev pub Asks : Shape → Shape → Value → Asked → Type 0
Asks s d v a = AsksBy (λ m. measured m s d v) (weight s v) a

asks_along : {s d s' d' : Shape} (v : Value) (a : Asked) → s ≡ s' → d ≡ d' → Asks s' d' v a → Asks s d v a
asks_along {s} {d} {s'} {d'} v a e f h = subst (λ s. Asks s d v a) (sym e) (subst (λ d. Asks s' d v a) (sym f) h)

-- ---- the other type, of the same kind

abbrev Alike : Node → Node → Type 0
Alike x z = same_kind (kind_of x.kind) (kind_of z.kind) ≡ true

alike_as : (x z : Node) (k : NodeKind) → x.kind ≡ k → Alike x z → same_kind (kind_of k) (kind_of z.kind) ≡ true
alike_as x z k is e = subst (λ (k : NodeKind). same_kind (kind_of k) (kind_of z.kind) ≡ true) is e

record Other (t : Tables) (z : Node) (k : Kind) (d : Shape) : Type 0 where
  members : Members
  same : d ≡ s_node k members
  types : AreOf t z.types members

record Named (t : Tables) (z : Node) (k : Kind) (d : Shape) : Type 0 where
  members : Members
  same : d ≡ s_node k members
  names : z.names ≡ names_of members
  types : AreOf t z.types members

module _ (t : Tables) (y : InterfaceType) (z : Node) (d : Shape) (node : HasNode t y z) (h : HasShape t y d) where
  other_record : same_kind k_record (kind_of z.kind) ≡ true → Named t z k_record d
  other_record e = go z.kind refl e
    where
      go : (k : NodeKind) → z.kind ≡ k → same_kind k_record (kind_of k) ≡ true → Named t z k_record d
      go is.Record at e = let q = of_kind t y z is.Record d node at h in record { members = q.members; same = q.is; names = q.told.0 ∙ sym (record_alone t y q.members (subst (HasShape t y) q.is h)); types = q.told.1 }
      go _ at e = absurd (true≢false (sym e))

  other_variant : same_kind k_variant (kind_of z.kind) ≡ true → Named t z k_variant d
  other_variant e = go z.kind refl e
    where
      go : (k : NodeKind) → z.kind ≡ k → same_kind k_variant (kind_of k) ≡ true → Named t z k_variant d
      go is.Variant at e = let q = of_kind t y z is.Variant d node at h in record { members = q.members; same = q.is; names = q.told.0; types = q.told.1 }
      go _ at e = absurd (true≢false (sym e))

  other_option : same_kind k_option (kind_of z.kind) ≡ true → Named t z k_option d
  other_option e = go z.kind refl e
    where
      go : (k : NodeKind) → z.kind ≡ k → same_kind k_option (kind_of k) ≡ true → Named t z k_option d
      go is.Option at e = let q = of_kind t y z is.Option d node at h in record { members = q.members; same = q.is; names = q.told.0; types = q.told.1 }
      go _ at e = absurd (true≢false (sym e))

  other_result : same_kind k_result (kind_of z.kind) ≡ true → Named t z k_result d
  other_result e = go z.kind refl e
    where
      go : (k : NodeKind) → z.kind ≡ k → same_kind k_result (kind_of k) ≡ true → Named t z k_result d
      go is.Result at e = let q = of_kind t y z is.Result d node at h in record { members = q.members; same = q.is; names = q.told.0; types = q.told.1 }
      go _ at e = absurd (true≢false (sym e))

  other_tuple : same_kind k_tuple (kind_of z.kind) ≡ true → Other t z k_tuple d
  other_tuple e = go z.kind refl e
    where
      go : (k : NodeKind) → z.kind ≡ k → same_kind k_tuple (kind_of k) ≡ true → Other t z k_tuple d
      go is.Tuple at e = let q = of_kind t y z is.Tuple d node at h in record { members = q.members; same = q.is; types = q.told }
      go _ at e = absurd (true≢false (sym e))

  other_map : same_kind k_map (kind_of z.kind) ≡ true → Other t z k_map d
  other_map e = go z.kind refl e
    where
      go : (k : NodeKind) → z.kind ≡ k → same_kind k_map (kind_of k) ≡ true → Other t z k_map d
      go (is.Map a b) at e = let q = of_kind t y z (is.Map a b) d node at h in record { members = q.members; same = q.is; types = q.told.1 }
      go _ at e = absurd (true≢false (sym e))

  other_list : same_kind k_list (kind_of z.kind) ≡ true → (f : InterfaceType) × (z.types ≡ Some f ∷ []) × Other t z k_list d
  other_list e = go z.kind refl e
    where
      go : (k : NodeKind) → z.kind ≡ k → same_kind k_list (kind_of k) ≡ true → (f : InterfaceType) × (z.types ≡ Some f ∷ []) × Other t z k_list d
      go (is.List f) at e = let q = of_kind t y z (is.List f) d node at h in (f, q.told.0, record { members = q.members; same = q.is; types = q.told.1 })
      go _ at e = absurd (true≢false (sym e))

  other_fixed : (n : ℕ) → same_kind (k_fixed n) (kind_of z.kind) ≡ true → (m : ℕ) × Other t z (k_fixed m) d
  other_fixed n e = go z.kind refl e
    where
      go : (k : NodeKind) → z.kind ≡ k → same_kind (k_fixed n) (kind_of k) ≡ true → (m : ℕ) × Other t z (k_fixed m) d
      go (is.FixedList m f) at e = let q = of_kind t y z (is.FixedList m f) d node at h in (m, record { members = q.members; same = q.is; types = q.told.1 })
      go _ at e = absurd (true≢false (sym e))

-- ---- something of no room put in front

added : (f : Measure → ℕ) {w h : ℕ} {a b c : Asked} → CountsFor 0 0 h a → CountsFor (f inner_room) (f each_once) w b → Adds a b c → CountsFor (f inner_room) (f each_once) (h + w) c
added f {w} {h} {a} {b} {c} one asks adds =
    let r = adds 0 (f inner_room) 0 (f each_once) h w one asks in
    let room : 0 + f inner_room ≡ f inner_room = omega arith in
    let pieces : 0 + f each_once ≡ f each_once = omega arith in
    record { room_is = r.room_is ∙ ap stopped room; pieces_are = r.pieces_are ∙ ap stopped pieces; weight_is = r.weight_is }

-- ---- whole types

module _ (t : Tables) (from to : InterfaceType) (x z : Node) (v : Value) (a : Asked) (source : HasNode t from x) (target : HasNode t to z) (alike : Alike x z) where
  pub record_asks : x.kind ≡ is.Record → ((ms ns : Members) → x.names ≡ typed_names ms → AreOf t x.types ms → z.names ≡ names_of ns → AreOf t z.types ns → Asks (s_node k_record ms) (s_node k_record ns) v a) → (s d : Shape) → HasShape t from s → HasShape t to d → Asks s d v a
  record_asks at e s d h g =
      let p = of_kind t from x is.Record s source at h in
      let q = other_record t to z d target g (alike_as x z is.Record at alike) in
      asks_along v a p.is q.same (e p.members q.members p.told.0 p.told.1 q.names q.types)

  pub tuple_asks : x.kind ≡ is.Tuple → ((ms ns : Members) → AreOf t x.types ms → AreOf t z.types ns → Asks (s_node k_tuple ms) (s_node k_tuple ns) v a) → (s d : Shape) → HasShape t from s → HasShape t to d → Asks s d v a
  tuple_asks at e s d h g =
      let p = of_kind t from x is.Tuple s source at h in
      let q = other_tuple t to z d target g (alike_as x z is.Tuple at alike) in
      asks_along v a p.is q.same (e p.members q.members p.told q.types)

  pub list_asks : (y : InterfaceType) → x.kind ≡ is.List y
      → ((e f : InterfaceType) (ms ns : Members) → x.types ≡ Some e ∷ [] → AreOf t x.types ms → z.types ≡ Some f ∷ [] → AreOf t z.types ns → Asks (s_node k_list ms) (s_node k_list ns) v a)
      → (s d : Shape) → HasShape t from s → HasShape t to d → Asks s d v a
  list_asks y at e s d h g =
      let p = of_kind t from x (is.List y) s source at h in
      let (f, one, q) = other_list t to z d target g (alike_as x z (is.List y) at alike) in
      asks_along v a p.is q.same (e y f p.members q.members p.told.0 p.told.1 one q.types)

  pub fixed_list_asks : (n : ℕ) (y : InterfaceType) → x.kind ≡ is.FixedList n y → ((m k : ℕ) (ms ns : Members) → AreOf t x.types ms → AreOf t z.types ns → Asks (s_node (k_fixed m) ms) (s_node (k_fixed k) ns) v a)
      → (s d : Shape) → HasShape t from s → HasShape t to d → Asks s d v a
  fixed_list_asks n y at e s d h g =
      let p = of_kind t from x (is.FixedList n y) s source at h in
      let (k, q) = other_fixed t to z d target g n (alike_as x z (is.FixedList n y) at alike) in
      asks_along v a p.is q.same (e n k p.members q.members p.told.1 q.types)

  pub map_asks : (k w : InterfaceType) → x.kind ≡ is.Map k w
      → ((y u : InterfaceType) (ms ns : Members) → HasShape t from (s_node k_map ms) → HasShape t to (s_node k_map ns) → x.types ≡ Some y ∷ Some u ∷ [] → AreOf t x.types ms → AreOf t z.types ns → Asks (s_node k_map ms) (s_node k_map ns) v a)
      → (s d : Shape) → HasShape t from s → HasShape t to d → Asks s d v a
  map_asks k w at e s d h g =
      let p = of_kind t from x (is.Map k w) s source at h in
      let q = other_map t to z d target g (alike_as x z (is.Map k w) at alike) in
      asks_along v a p.is q.same (e k w p.members q.members (subst (HasShape t from) p.is h) (subst (HasShape t to) q.same g) p.told.0 p.told.1 q.types)

  abbrev CasesAsk : Type 0
  CasesAsk = (ms ns : Members) → x.names ≡ names_of ms → AreOf t x.types ms → z.names ≡ names_of ns → AreOf t z.types ns → Asks (s_node k_variant ms) (s_node k_variant ns) v a

  pub variant_asks : x.kind ≡ is.Variant → CasesAsk → (s d : Shape) → HasShape t from s → HasShape t to d → Asks s d v a
  variant_asks at e s d h g =
      let p = of_kind t from x is.Variant s source at h in
      let q = other_variant t to z d target g (alike_as x z is.Variant at alike) in
      asks_along v a p.is q.same (e p.members q.members p.told.0 p.told.1 q.names q.types)

  pub option_asks : x.kind ≡ is.Option → CasesAsk → (s d : Shape) → HasShape t from s → HasShape t to d → Asks s d v a
  unfolding measured weight
  option_asks at e s d h g =
      let p = of_kind t from x is.Option s source at h in
      let q = other_option t to z d target g (alike_as x z is.Option at alike) in
      asks_along v a p.is q.same (as_option p.members q.members (e p.members q.members p.told.0 p.told.1 q.names q.types))
    where
      as_option : (ms ns : Members) → Asks (s_node k_variant ms) (s_node k_variant ns) v a → Asks (s_node k_option ms) (s_node k_option ns) v a
      as_option ms ns h = record { room_is = h.room_is; pieces_are = h.pieces_are; weight_is = h.weight_is }

  pub result_asks : x.kind ≡ is.Result → CasesAsk → (s d : Shape) → HasShape t from s → HasShape t to d → Asks s d v a
  unfolding measured weight
  result_asks at e s d h g =
      let p = of_kind t from x is.Result s source at h in
      let q = other_result t to z d target g (alike_as x z is.Result at alike) in
      asks_along v a p.is q.same (as_result p.members q.members (e p.members q.members p.told.0 p.told.1 q.names q.types))
    where
      as_result : (ms ns : Members) → Asks (s_node k_variant ms) (s_node k_variant ns) v a → Asks (s_node k_result ms) (s_node k_result ns) v a
      as_result ms ns h = record { room_is = h.room_is; pieces_are = h.pieces_are; weight_is = h.weight_is }

  -- a kind that is like no other
  pub never_alike : (x.kind ≡ is.Record → ⊥) → (x.kind ≡ is.Variant → ⊥) → ((y : InterfaceType) → x.kind ≡ is.List y → ⊥) → (x.kind ≡ is.Tuple → ⊥) → ((k w : InterfaceType) → x.kind ≡ is.Map k w → ⊥) → (x.kind ≡ is.Option → ⊥) → (x.kind ≡ is.Result → ⊥)
      → ((n : ℕ) (y : InterfaceType) → x.kind ≡ is.FixedList n y → ⊥) → ⊥
  never_alike a b c e f g h i = go x.kind refl alike
    where
      go : (k : NodeKind) → x.kind ≡ k → same_kind (kind_of k) (kind_of z.kind) ≡ true → ⊥
      go is.Record at q = a at
      go is.Variant at q = b at
      go (is.List y) at q = c y at
      go is.Tuple at q = e at
      go (is.Map k w) at q = f k w at
      go is.Option at q = g at
      go is.Result at q = h at
      go (is.FixedList n y) at q = i n y at
      go _ at q = true≢false (sym q)

-- ---- the type itself in the place of another one

own_members : (k : Kind) (ms : Members) → members_there k ms (s_node k ms) ≡ ms
own_members k ms = go (same_kind k k)
  where
    go : (b : Bool) → (if b then ms else ms) ≡ ms
    go true = refl
    go false = refl

own_measured : (m : Measure) (k : Kind) (ms : Members) (d : Shape) (v : Value) → members_there k ms d ≡ ms → measured m (s_node k ms) (s_node k ms) v ≡ measured m (s_node k ms) d v
unfolding measured
own_measured m k ms d v e = λ i. measured_node m k ms (both i) (parts (both i)) v
  where
    both : members_there k ms (s_node k ms) ≡ members_there k ms d
    both = own_members k ms ∙ sym e

    parts : Members → MeasuredParts
    parts ns = record {
      fields = λ fs. measured_fields m ms fs ns;
      case = λ x vs. measured_payload m ms x vs (shape_named x ns);
      places = λ vs. measured_places m ms vs ns;
      element = λ w. measured_element m ms w ns;
    }

abbrev OwnAsks : Tables → InterfaceType → Value → Asked → Type 0
OwnAsks t from v a = (s d : Shape) → HasShape t from s → HasShape t from d → Asks s d v a

as_own : (t : Tables) (from : InterfaceType) (k : Kind) (ms : Members) (s d : Shape) (v : Value) (a : Asked) → OwnAsks t from v a → HasShape t from s → s ≡ s_node k ms → members_there k ms d ≡ ms → Asks s d v a
as_own t from k ms s d v a own h e f = asks_as (λ m. measured m s s v) (λ m. measured m s d v) (λ m. (λ i. measured m (e i) (e i) v) ∙ own_measured m k ms d v f ∙ (λ i. measured m (sym e i) d v)) refl (own s s h h)

pub plain_target : (t : Tables) (from to : InterfaceType) (x : Node) (v : Value) (a : Asked) → HasNode t from x → IsNodeOf t to None → OwnAsks t from v a → (s d : Shape) → HasShape t from s → HasShape t to d → Asks s d v a
plain_target t from to x v a node plain own s d h g =
    let p = node.shaped s h in
    as_own t from (kind_of x.kind) p.members s d v a own h p.is (ap (members_there (kind_of x.kind) p.members) (plain d g))

pub other_target : (t : Tables) (from to : InterfaceType) (x z : Node) (v : Value) (a : Asked) → HasNode t from x → HasNode t to z → same_kind (kind_of x.kind) (kind_of z.kind) ≡ false → OwnAsks t from v a → (s d : Shape) → HasShape t from s → HasShape t to d → Asks s d v a
other_target t from to x z v a node other differ own s d h g =
    let p = node.shaped s h in
    let q = other.shaped d g in
    as_own t from (kind_of x.kind) p.members s d v a own h p.is (ap (members_there (kind_of x.kind) p.members) q.is ∙ ap (λ (b : Bool). if b then q.members else p.members) differ)

-- ---- types whose values hold no others

bare_payload : (m : Measure) (ms : Members) (n : List ℕ) (vs : List Value) (p : Option Shape) → AreBare ms → measured_payload m ms n vs p ≡ 0
unfolding measured
bare_payload m no_members n vs p b = refl
bare_payload m (bare y ms) n vs p b = one (bytes_eq y n) (bare_payload m ms n vs p b)
  where
    one : (c : Bool) → measured_payload m ms n vs p ≡ 0 → (if c then 0 else measured_payload m ms n vs p) ≡ 0
    one true h = refl
    one false h = h
bare_payload m (typed y s ms) n vs p b = absurd b

module _ (t : Tables) (from : InterfaceType) (x : Node) (v : Value) (a : Asked) (node : HasNode t from x) where
  pub flags_ask : x.kind ≡ is.Flags → CountsFor 0 0 1 a → (s d : Shape) → HasShape t from s → Asks s d v a
  unfolding measured weight
  flags_ask at asks s d h = let p = of_kind t from x is.Flags s node at h in asks_along {d' = d} v a p.is refl (go p.members)
    where
      go : (ms : Members) → Asks (s_node k_flags ms) d v a
      go ms = record { room_is = asks.room_is; pieces_are = asks.pieces_are; weight_is = asks.weight_is }

  pub enum_ask : x.kind ≡ is.Enum → CountsFor 0 0 1 a → (s d : Shape) → HasShape t from s → Asks s d v a
  unfolding measured weight
  enum_ask at asks s d h =
      let p = of_kind t from x is.Enum s node at h in
      asks_along {d' = d} v a p.is refl (go p.members (subst IsFormed p.is (formed t from s h)).0)
    where
      no_case : {A : Type 0} (c : Option A) (f : A → ℕ) → ((y : A) → f y ≡ 0) → where_there c f ≡ 0
      no_case None f e = refl
      no_case (Some y) f e = e y

      nothing : (m : Measure) (ms : Members) → AreBare ms → 0 ≡ measured m (s_node k_enum ms) d v
      nothing m ms b = sym (no_case (case_in (out-Value v)) (λ c. measured_payload m ms c.name c.payload (shape_named c.name (members_there k_enum ms d))) (λ c. bare_payload m ms c.name c.payload (shape_named c.name (members_there k_enum ms d)) b))

      light : (ms : Members) → 1 ≡ weight (s_node k_enum ms) v
      light ms = refl

      go : (ms : Members) → AreBare ms → Asks (s_node k_enum ms) d v a
      go ms b = asks_as (λ m. 0) (λ m. measured m (s_node k_enum ms) d v) (λ m. nothing m ms b) (light ms) asks

  pub future_asks : (table instance : ℕ) → x.kind ≡ is.Future table instance → CountsFor 0 1 1 a → (s d : Shape) → HasShape t from s → Asks s d v a
  unfolding measured weight
  future_asks table instance at asks s d h = let p = of_kind t from x (is.Future table instance) s node at h in asks_along {d' = d} v a p.is refl (go p.members)
    where
      go : (ms : Members) → Asks (s_node (k_future table instance) ms) d v a
      go ms = record { room_is = asks.room_is; pieces_are = asks.pieces_are; weight_is = asks.weight_is }

  pub stream_asks : (table instance : ℕ) → x.kind ≡ is.Stream table instance → CountsFor 0 1 1 a → (s d : Shape) → HasShape t from s → Asks s d v a
  unfolding measured weight
  stream_asks table instance at asks s d h = let p = of_kind t from x (is.Stream table instance) s node at h in asks_along {d' = d} v a p.is refl (go p.members)
    where
      go : (ms : Members) → Asks (s_node (k_stream table instance) ms) d v a
      go ms = record { room_is = asks.room_is; pieces_are = asks.pieces_are; weight_is = asks.weight_is }

-- the other kinds are like themselves
pub holds_others : (k : NodeKind) → (k ≡ is.Flags → ⊥) → (k ≡ is.Enum → ⊥) → ((a b : ℕ) → k ≡ is.Future a b → ⊥) → ((a b : ℕ) → k ≡ is.Stream a b → ⊥) → same_kind (kind_of k) (kind_of k) ≡ true
holds_others is.Flags a b c d = absurd (a refl)
holds_others is.Enum a b c d = absurd (b refl)
holds_others (is.Future m n) a b c d = absurd (c m n refl)
holds_others (is.Stream m n) a b c d = absurd (d m n refl)
holds_others _ a b c d = refl

-- ---- types without members

pub plain_asks : (t : Tables) (from : InterfaceType) (v : Value) (a : Asked) → IsNodeOf t from None → AsksBy (λ m. measured_plain m (plain_of from) v) 1 a → (s d : Shape) → HasShape t from s → Asks s d v a
unfolding measured weight
plain_asks t from v a plain asks s d h = asks_along {d' = d} v a (plain s h) refl go
  where
    go : Asks (s_plain from) d v a
    go = record { room_is = asks.room_is; pieces_are = asks.pieces_are; weight_is = asks.weight_is }

abbrev PlainAsks : InterfaceType → Value → Asked → Type 0
PlainAsks y v a = AsksBy (λ m. measured_plain m (plain_of y) v) 1 a

pub string_asks : (y : InterfaceType) (v : Value) (a : Asked) → y ≡ ty.String → AsksBy (λ m. measured_plain m text v) 1 a → PlainAsks y v a
string_asks y v a e h = subst (λ y. PlainAsks y v a) (sym e) h

pub own_asks : (y : InterfaceType) (v : Value) (a : Asked) (i : Id TypeResourceTables) → y ≡ ty.Own i → CountsFor 0 1 1 a → PlainAsks y v a
own_asks y v a i e h = subst (λ y. PlainAsks y v a) (sym e) h

pub borrow_asks : (y : InterfaceType) (v : Value) (a : Asked) (i : Id TypeResourceTables) → y ≡ ty.Borrow i → CountsFor 0 1 1 a → PlainAsks y v a
borrow_asks y v a i e h = subst (λ y. PlainAsks y v a) (sym e) h

pub error_context_asks : (y : InterfaceType) (v : Value) (a : Asked) (i : Id TypeComponentLocalErrorContextTables) → y ≡ ty.ErrorContext i → CountsFor 0 1 1 a → PlainAsks y v a
error_context_asks y v a i e h = subst (λ y. PlainAsks y v a) (sym e) h

pub others_ask : (y : InterfaceType) (v : Value) (a : Asked) → (y ≡ ty.String → ⊥) → ((i : Id TypeResourceTables) → y ≡ ty.Own i → ⊥) → ((i : Id TypeResourceTables) → y ≡ ty.Borrow i → ⊥) → ((i : Id TypeComponentLocalErrorContextTables) → y ≡ ty.ErrorContext i → ⊥) → CountsFor 0 0 1 a
    → PlainAsks y v a
others_ask ty.String v a b c d e h = absurd (b refl)
others_ask (ty.Own i) v a b c d e h = absurd (c i refl)
others_ask (ty.Borrow i) v a b c d e h = absurd (d i refl)
others_ask (ty.ErrorContext i) v a b c d e h = absurd (e i refl)
others_ask _ v a b c d e h = h

pub text_asks : (v : Value) (a : Asked) (cs : List ℕ) (n : ℕ) → v ≡ value.Str cs → n ≡ length cs → CountsFor (8 + 16 * n) 1 1 a → AsksBy (λ m. measured_plain m text v) 1 a
text_asks v a cs n e f h = asks_as (λ m. m.of_text n) (λ m. measured_plain m text v) (λ m. ap m.of_text f ∙ ap (λ w. where_there (text_in w) (λ cs. m.of_text (length cs))) (sym (ap out-Value e ∙ value.outs-Str cs))) refl h

-- ---- values of other forms

no_fields_in : (v : Value) → ((fs : List (List ℕ × Value)) → v ≡ value.Record fs → ⊥) → fields_in (out-Value v) ≡ None
no_fields_in v never = go (out-Value v) (sym (roll-out-Value v))
  where
    go : (w : Value-F Value) → v ≡ roll-Value w → fields_in w ≡ None
    go (o.Record fs) e = absurd (never fs (e ∙ value.rolls-Record fs))
    go _ e = refl

no_members_in : (v : Value) → ((vs : List Value) → v ≡ value.Tuple vs → ⊥) → members_in (out-Value v) ≡ None
no_members_in v never = go (out-Value v) (sym (roll-out-Value v))
  where
    go : (w : Value-F Value) → v ≡ roll-Value w → members_in w ≡ None
    go (o.Tuple vs) e = absurd (never vs (e ∙ value.rolls-Tuple vs))
    go _ e = refl

no_elements_in : (v : Value) → ((vs : List Value) → v ≡ value.List vs → ⊥) → elements_in (out-Value v) ≡ None
no_elements_in v never = go (out-Value v) (sym (roll-out-Value v))
  where
    go : (w : Value-F Value) → v ≡ roll-Value w → elements_in w ≡ None
    go (o.List vs) e = absurd (never vs (e ∙ value.rolls-List vs))
    go _ e = refl

no_entries_in : (v : Value) → ((es : List (Value × Value)) → v ≡ value.Map es → ⊥) → map_entries_in (out-Value v) ≡ None
no_entries_in v never = go (out-Value v) (sym (roll-out-Value v))
  where
    go : (w : Value-F Value) → v ≡ roll-Value w → map_entries_in w ≡ None
    go (o.Map es) e = absurd (never es (e ∙ value.rolls-Map es))
    go _ e = refl

no_case_in : (v : Value) → ((n : List ℕ) (vs : List Value) → v ≡ value.Case n vs → ⊥) → case_in (out-Value v) ≡ None
no_case_in v never = go (out-Value v) (sym (roll-out-Value v))
  where
    go : (w : Value-F Value) → v ≡ roll-Value w → case_in w ≡ None
    go (o.Case n vs) e = absurd (never n vs (e ∙ value.rolls-Case n vs))
    go _ e = refl

module _ (ms ns : Members) (v : Value) (a : Asked) where
  pub no_record_counts : ((fs : List (List ℕ × Value)) → v ≡ value.Record fs → ⊥) → CountsFor 0 0 1 a → Asks (s_node k_record ms) (s_node k_record ns) v a
  unfolding measured weight
  no_record_counts never h =
      let e = no_fields_in v never in
      asks_as (λ m. 0) (λ m. measured m (s_node k_record ms) (s_node k_record ns) v) (λ m. ap (λ r. where_there r (λ fs. measured_fields m ms fs ns)) (sym e)) (ap (λ r. 1 + weight_in (λ fs. weight_members ms (map (λ f. f.1) fs)) r) (sym e)) h

  pub no_tuple_counts : ((vs : List Value) → v ≡ value.Tuple vs → ⊥) → CountsFor 0 0 1 a → Asks (s_node k_tuple ms) (s_node k_tuple ns) v a
  unfolding measured weight
  no_tuple_counts never h =
      let e = no_members_in v never in
      asks_as (λ m. 0) (λ m. measured m (s_node k_tuple ms) (s_node k_tuple ns) v) (λ m. ap (λ r. where_there r (λ vs. measured_places m ms vs ns)) (sym e)) (ap (λ r. 1 + weight_in (λ vs. weight_members ms vs) r) (sym e)) h

  pub no_fixed_list_counts : (j k : ℕ) → ((vs : List Value) → v ≡ value.List vs → ⊥) → CountsFor 0 0 1 a → Asks (s_node (k_fixed j) ms) (s_node (k_fixed k) ns) v a
  unfolding measured weight
  no_fixed_list_counts j k never h =
      let e = no_elements_in v never in
      asks_as (λ m. 0) (λ m. measured m (s_node (k_fixed j) ms) (s_node (k_fixed k) ns) v) (λ m. ap (λ r. where_there r (sum_by (λ w. measured_element m ms w ns))) (sym e)) (ap (λ r. 1 + weight_in (sum_by (λ w. weight_element ms w)) r) (sym e)) h

  pub no_list_counts : ((vs : List Value) → v ≡ value.List vs → ⊥) → CountsFor 0 0 1 a → Asks (s_node k_list ms) (s_node k_list ns) v a
  unfolding measured weight
  no_list_counts never h =
      let e = no_elements_in v never in
      asks_as (λ m. 0) (λ m. measured m (s_node k_list ms) (s_node k_list ns) v) (λ m. ap (λ r. where_there r (λ vs. m.of_list (length vs) (element_layout k_list ms) (element_layout k_list ns) + sum_by (λ w. measured_element m ms w ns) vs)) (sym e)) (ap (λ r. 1 + weight_in (sum_by (λ w. weight_element ms w)) r) (sym e)) h

  pub no_map_counts : ((es : List (Value × Value)) → v ≡ value.Map es → ⊥) → CountsFor 0 0 1 a → Asks (s_node k_map ms) (s_node k_map ns) v a
  unfolding measured weight
  no_map_counts never h =
      let e = no_entries_in v never in
      asks_as (λ m. 0) (λ m. measured m (s_node k_map ms) (s_node k_map ns) v) (λ m. ap (λ r. where_there r (λ es. m.of_list (length es) (element_layout k_map ms) (element_layout k_map ns) + sum_by (λ e. measured_places m ms (e.0 ∷ e.1 ∷ []) ns) es)) (sym e)) (ap (λ r. 1 + weight_in (sum_by (λ e. weight_members ms (e.0 ∷ e.1 ∷ []))) r) (sym e)) h

  pub no_case_counts : ((n : List ℕ) (vs : List Value) → v ≡ value.Case n vs → ⊥) → CountsFor 0 0 (1 + count_of_members ms) a → Asks (s_node k_variant ms) (s_node k_variant ns) v a
  unfolding measured weight
  no_case_counts never h =
      let e = no_case_in v never in
      asks_as (λ m. 0) (λ m. measured m (s_node k_variant ms) (s_node k_variant ns) v) (λ m. ap (λ r. where_there r (λ c. measured_payload m ms c.name c.payload (shape_named c.name ns))) (sym e))
      ((let z : 1 + count_of_members ms ≡ 1 + (count_of_members ms + 0) = omega arith in z) ∙ ap (λ r. 1 + (count_of_members ms + weight_in (λ c. weight_case ms c.name c.payload) r)) (sym e)) h

-- ---- values by their forms

module _ (ms ns : Members) (v : Value) (a b c : Asked) where
  pub tuple_counts : (vs : List Value) → v ≡ value.Tuple vs → CountsFor 0 0 1 a → AsksBy (λ m. measured_places m ms vs ns) (weight_members ms vs) b → Adds a b c → Asks (s_node k_tuple ms) (s_node k_tuple ns) v c
  unfolding measured weight
  tuple_counts vs e one asks adds =
      asks_as (λ m. measured_places m ms vs ns) (λ m. measured m (s_node k_tuple ms) (s_node k_tuple ns) v) (λ m. ap (λ w. where_there (members_in w) (λ vs. measured_places m ms vs ns)) (sym at)) (ap (λ w. 1 + weight_in (λ vs. weight_members ms vs) (members_in w)) (sym at))
      (added (λ m. measured_places m ms vs ns) one asks adds)
    where
      at : out-Value v ≡ o.Tuple vs
      at = ap out-Value e ∙ value.outs-Tuple vs

  pub record_counts : (fs : List (List ℕ × Value)) → v ≡ value.Record fs → CountsFor 0 0 1 a → AsksBy (λ m. measured_fields m ms fs ns) (weight_members ms (map (λ f. f.1) fs)) b → Adds a b c → Asks (s_node k_record ms) (s_node k_record ns) v c
  unfolding measured weight
  record_counts fs e one asks adds =
      asks_as (λ m. measured_fields m ms fs ns) (λ m. measured m (s_node k_record ms) (s_node k_record ns) v) (λ m. ap (λ w. where_there (fields_in w) (λ fs. measured_fields m ms fs ns)) (sym at)) (ap (λ w. 1 + weight_in (λ fs. weight_members ms (map (λ f. f.1) fs)) (fields_in w)) (sym at))
      (added (λ m. measured_fields m ms fs ns) one asks adds)
    where
      at : out-Value v ≡ o.Record fs
      at = ap out-Value e ∙ value.outs-Record fs

  pub fixed_list_counts : (j k : ℕ) (vs : List Value) → v ≡ value.List vs → CountsFor 0 0 1 a → AsksBy (λ m. sum_by (λ w. measured_element m ms w ns) vs) (sum_by (λ w. weight_element ms w) vs) b → Adds a b c → Asks (s_node (k_fixed j) ms) (s_node (k_fixed k) ns) v c
  unfolding measured weight
  fixed_list_counts j k vs e one asks adds =
      asks_as (λ m. sum_by (λ w. measured_element m ms w ns) vs) (λ m. measured m (s_node (k_fixed j) ms) (s_node (k_fixed k) ns) v) (λ m. ap (λ w. where_there (elements_in w) (sum_by (λ w. measured_element m ms w ns))) (sym at)) (ap (λ w. 1 + weight_in (sum_by (λ w. weight_element ms w)) (elements_in w)) (sym at))
      (added (λ m. sum_by (λ w. measured_element m ms w ns) vs) one asks adds)
    where
      at : out-Value v ≡ o.List vs
      at = ap out-Value e ∙ value.outs-List vs

  pub list_counts : (vs : List Value) (n each : ℕ) → v ≡ value.List vs → n ≡ length vs → each ≡ greatest_bytes (element_layout k_list ms) (element_layout k_list ns) → CountsFor (8 + n * each) 1 1 a → AsksBy (λ m. sum_by (λ w. measured_element m ms w ns) vs) (sum_by (λ w. weight_element ms w) vs) b → Adds a b c
      → Asks (s_node k_list ms) (s_node k_list ns) v c
  unfolding measured weight
  list_counts vs n each e long wide one asks adds =
      asks_as (λ m. m.of_list (length vs) (element_layout k_list ms) (element_layout k_list ns) + sum_by (λ w. measured_element m ms w ns) vs) (λ m. measured m (s_node k_list ms) (s_node k_list ns) v) (λ m. ap (λ w. where_there (elements_in w) (λ vs. m.of_list (length vs) (element_layout k_list ms) (element_layout k_list ns) + sum_by (λ w. measured_element m ms w ns) vs)) (sym at)) (ap (λ w. 1 + weight_in (sum_by (λ w. weight_element ms w)) (elements_in w)) (sym at))
      (adds (8 + length vs * greatest_bytes (element_layout k_list ms) (element_layout k_list ns)) (sum_by (λ w. measured_element inner_room ms w ns) vs) 1 (sum_by (λ w. measured_element each_once ms w ns) vs) 1 (sum_by (λ w. weight_element ms w) vs) (own one) asks)
    where
      at : out-Value v ≡ o.List vs
      at = ap out-Value e ∙ value.outs-List vs

      own : CountsFor (8 + n * each) 1 1 a → CountsFor (8 + length vs * greatest_bytes (element_layout k_list ms) (element_layout k_list ns)) 1 1 a
      own h = record { room_is = h.room_is ∙ (λ i. stopped (8 + long i * wide i)); pieces_are = h.pieces_are; weight_is = h.weight_is }

  pub map_counts : (es : List (Value × Value)) (n each : ℕ) → v ≡ value.Map es → n ≡ length es → each ≡ greatest_bytes (element_layout k_map ms) (element_layout k_map ns) → CountsFor (8 + n * each) 1 1 a
      → AsksBy (λ m. sum_by (λ e. measured_places m ms (e.0 ∷ e.1 ∷ []) ns) es) (sum_by (λ e. weight_members ms (e.0 ∷ e.1 ∷ [])) es) b → Adds a b c → Asks (s_node k_map ms) (s_node k_map ns) v c
  unfolding measured weight
  map_counts es n each e long wide one asks adds =
      asks_as (λ m. m.of_list (length es) (element_layout k_map ms) (element_layout k_map ns) + sum_by (λ e. measured_places m ms (e.0 ∷ e.1 ∷ []) ns) es) (λ m. measured m (s_node k_map ms) (s_node k_map ns) v) (λ m. ap (λ w. where_there (map_entries_in w) (λ es. m.of_list (length es) (element_layout k_map ms) (element_layout k_map ns) + sum_by (λ e. measured_places m ms (e.0 ∷ e.1 ∷ []) ns) es)) (sym at)) (ap (λ w. 1 + weight_in (sum_by (λ e. weight_members ms (e.0 ∷ e.1 ∷ []))) (map_entries_in w)) (sym at))
      (adds (8 + length es * greatest_bytes (element_layout k_map ms) (element_layout k_map ns)) (sum_by (λ e. measured_places inner_room ms (e.0 ∷ e.1 ∷ []) ns) es) 1 (sum_by (λ e. measured_places each_once ms (e.0 ∷ e.1 ∷ []) ns) es) 1 (sum_by (λ e. weight_members ms (e.0 ∷ e.1 ∷ [])) es) (own one) asks)
    where
      at : out-Value v ≡ o.Map es
      at = ap out-Value e ∙ value.outs-Map es

      own : CountsFor (8 + n * each) 1 1 a → CountsFor (8 + length es * greatest_bytes (element_layout k_map ms) (element_layout k_map ns)) 1 1 a
      own h = record { room_is = h.room_is ∙ (λ i. stopped (8 + long i * wide i)); pieces_are = h.pieces_are; weight_is = h.weight_is }

  pub case_counts : (y : List ℕ) (vs : List Value) → v ≡ value.Case y vs → CountsFor 0 0 (1 + count_of_members ms) a → AsksBy (λ m. measured_payload m ms y vs (shape_named y ns)) (weight_case ms y vs) b → Adds a b c → Asks (s_node k_variant ms) (s_node k_variant ns) v c
  unfolding measured weight
  case_counts y vs e one asks adds =
      asks_as (λ m. measured_payload m ms y vs (shape_named y ns)) (λ m. measured m (s_node k_variant ms) (s_node k_variant ns) v) (λ m. ap (λ w. where_there (case_in w) (λ c. measured_payload m ms c.name c.payload (shape_named c.name ns))) (sym at))
      ((let z : 1 + count_of_members ms + weight_case ms y vs ≡ 1 + (count_of_members ms + weight_case ms y vs) = omega arith in z) ∙ ap (λ w. 1 + (count_of_members ms + weight_in (λ c. weight_case ms c.name c.payload) (case_in w))) (sym at))
      (added (λ m. measured_payload m ms y vs (shape_named y ns)) one asks adds)
    where
      at : out-Value v ≡ o.Case y vs
      at = ap out-Value e ∙ value.outs-Case y vs
