-- How the members of a record are loaded, one behind the other.
use Rattle.std.proofs.Common.{◌≡◌, ℕ, suc, ◌+◌, ◌^◌, ◌<◌, ◌≤◌, List, [], ◌∷◌, ◌++◌, length, drop, get_or, Option, Some, None, refl, sym, ap, ◌∙◌, subst, arith, add-one, append_assoc}
use Rattle.std.specs.Prelude.{option_map}
use Rattle.std.specs.List.{zip}
use Rattle.std.proofs.Math.Seq.{drop-cons}
use Rattle.std.proofs.lemmas.List.{drop_all}
use Rattle.std.proofs.lemmas.Option.{slice_get-get_or}
use Rattle.fact_types.specs.declared.abi.CanonicalAbiInfo.{CanonicalAbiInfo}
use Rattle.fact_types.specs.declared.interface.InterfaceType.{InterfaceType}
use Rattle.fact_types.specs.declared.extents.MemoryWidth.{MemoryWidth}
use Rattle.fact_types.specs.declared.extents.MemoryWidth.TheVariants.{Memory32, Memory64}
use Rattle.fact_types.specs.Layout.{extent}
use Rattle.fact_types.specs.Shapes.{Kind, k_record, k_tuple, Shape, s_plain, s_node, Members, no_members, bare, typed, layout_of, place_of, next_of, ends_of, IsWithin}
use Rattle.fact_types.specs.Tables.{Tables, HasShape, abi_at}
use Rattle.fact_types.proofs.PlaceLaws.{ends_grow, ends_within}
use Rattle.fact_types.proofs.ShapeLaws.{same_some, none_some}
use Rattle.fact_abi.specs.declared.nodes.Node.{Node}
use Rattle.fact_abi.specs.declared.nodes.NodeKind.{NodeKind}
use Rattle.fact_abi.specs.declared.nodes.NodeKind.TheVariants as is
use Rattle.fact_values.specs.declared.side.SideAbi.{SideAbi}
use Rattle.fact_values.specs.declared.value.Value.{Value}
use Rattle.fact_values.specs.declared.value.Value.TheVariants as value
use Rattle.fact_values.specs.Load.{load, load_members, load_plain}
use Rattle.fact_abi.specs.Loading.{Loading}
use Rattle.fact_abi.specs.Nodes.{kind_of, AreOf, AreTold, AreLower, IsOfKind, HasNode}
use Rattle.fact_types.specs.Heights.{IsMemberOf}
use Rattle.fact_types.specs.Options.{◌>>=◌}
use Rattle.fact_values.specs.Numbers.{plain_of}
use Rattle.fact_values.specs.Places.{width_of, typed_names}
use Rattle.fact_abi.specs.Rooms.{RoomFor, RoomForMembers}
use Rattle.fact_abi.proofs.TextLaws.{one_more, none_left, all_read, starts}

-- ---- members by their types

pub record Typed (t : Tables) (y : InterfaceType) (xs : List (Option InterfaceType)) (ms : Members) : Type 0 where
  pub name : List ℕ
  pub shape : Shape
  pub rest : Members
  pub is : ms ≡ typed name shape rest
  pub shaped : HasShape t y shape
  pub has : AreOf t xs rest

pub split_typed : (t : Tables) (y : InterfaceType) (xs : List (Option InterfaceType)) (ms : Members) → AreOf t (Some y ∷ xs) ms → Typed t y xs ms
split_typed t y xs no_members h = absurd h
split_typed t y xs (bare n ms) h = absurd (none_some (Some y) y h.0 refl)
split_typed t y xs (typed n s ms) h = record {
  name = n;
  shape = s;
  rest = ms;
  is = refl;
  shaped = subst (λ y. HasShape t y s) (sym (same_some (Some y) y h.0.0 refl h.0.1)) h.0.2;
  has = h.1;
}

pub record Bare (t : Tables) (xs : List (Option InterfaceType)) (ms : Members) : Type 0 where
  pub name : List ℕ
  pub rest : Members
  pub is : ms ≡ bare name rest
  pub has : AreOf t xs rest

pub split_bare : (t : Tables) (xs : List (Option InterfaceType)) (ms : Members) → AreOf t (None ∷ xs) ms → Bare t xs ms
split_bare t xs no_members h = absurd h
split_bare t xs (bare n ms) h = record { name = n; rest = ms; is = refl; has = h.1 }
split_bare t xs (typed n s ms) h = absurd (none_some None h.0.0 refl h.0.1)

-- ---- a walk over members

nothing_left : (t : Tables) (side : SideAbi) (bytes : List ℕ) (a n : ℕ) (r : Members) → AreOf t [] r → load_members side bytes r a n ≡ Some []
unfolding load load_members
nothing_left t side bytes a n no_members h = refl
nothing_left t side bytes a n (bare x r) h = absurd h
nothing_left t side bytes a n (typed x s r) h = absurd h

-- the front of what is left
pub front : (types : List (Option InterfaceType)) (i : ℕ) (x : Option InterfaceType) → i < length types → get_or types i None ≡ x → drop i types ≡ x ∷ drop (i + 1) types
front types i x lt e = drop-cons types i None lt ∙ ap (λ y. y ∷ drop (suc i) types) e ∙ ap (λ k. x ∷ drop k types) (sym (add-one i))

pub record Here (t : Tables) (side : SideAbi) (bytes : List ℕ) (ms : Members) (types : List (Option InterfaceType)) (i n a : ℕ) (values : List Value) (y : InterfaceType) : Type 0 where
  pub shape : Shape
  pub rest : Members
  pub shaped : HasShape t y shape
  pub has : AreOf t (drop (i + 1) types) rest
  pub ends : ends_of (width_of side) ms 0 ≡ ends_of (width_of side) rest (next_of (width_of side) shape n)
  pub same : load_members side bytes ms a 0 ≡ option_map (λ vs. values ++ vs) (load side bytes shape (a + place_of (width_of side) shape n) >>= (λ v. load_members side bytes rest a (next_of (width_of side) shape n) >>= (λ vs. Some (v ∷ vs))))

pub here : {t : Tables} {side : SideAbi} {bytes : List ℕ} {ms : Members} {types : List (Option InterfaceType)} {i n a : ℕ} {values : List Value} (y : InterfaceType) → i < length types → get_or types i None ≡ Some y → Loading t side bytes ms types i n a values → Here t side bytes ms types i n a values y
unfolding load load_members
here {t} {side} {bytes} {ms} {types} {i} {n} {a} {values} y lt e g =
    let p = split_typed t y (drop (i + 1) types) g.rest (subst (λ xs. AreOf t xs g.rest) (front types i (Some y) lt e) g.has) in
    record {
      shape = p.shape;
      rest = p.rest;
      shaped = p.shaped;
      has = p.has;
      ends = g.ends ∙ ap (λ r. ends_of (width_of side) r n) p.is;
      same = g.same ∙ ap (λ r. option_map (λ vs. values ++ vs) (load_members side bytes r a n)) p.is;
    }

pub here_ends : {t : Tables} {side : SideAbi} {bytes : List ℕ} {ms : Members} {types : List (Option InterfaceType)} {i n a : ℕ} {values : List Value} {y : InterfaceType} (h : Here t side bytes ms types i n a values y) → next_of (width_of side) h.shape n ≤ ends_of (width_of side) ms 0
here_ends {t} {side} {bytes} {ms} {types} {i} {n} h = omega (arith, ends_grow (width_of side) h.rest (next_of (width_of side) h.shape n), h.ends)

-- a member without a type is passed over
pub passed : {t : Tables} {side : SideAbi} {bytes : List ℕ} {ms : Members} {types : List (Option InterfaceType)} {i n a : ℕ} {values : List Value} → i < length types → get_or types i None ≡ None → Loading t side bytes ms types i n a values → Loading t side bytes ms types (i + 1) n a values
unfolding load load_members
passed {t} {side} {bytes} {ms} {types} {i} {n} {a} {values} lt e g =
    let p = split_bare t (drop (i + 1) types) g.rest (subst (λ xs. AreOf t xs g.rest) (front types i None lt e) g.has) in
    record {
      rest = p.rest;
      has = p.has;
      ends = g.ends ∙ ap (λ r. ends_of (width_of side) r n) p.is;
      same = g.same ∙ ap (λ r. option_map (λ vs. values ++ vs) (load_members side bytes r a n)) p.is;
    }

-- the value of a member that is there
pub loaded : {t : Tables} {side : SideAbi} {bytes : List ℕ} {ms : Members} {types : List (Option InterfaceType)} {i n a : ℕ} {values : List Value} {y : InterfaceType} (h : Here t side bytes ms types i n a values y) (place : ℕ) (n' : ℕ) (o : Option Value) (v : Value) (values' : List Value)
    → place ≡ place_of (width_of side) h.shape n → n' ≡ next_of (width_of side) h.shape n → o ≡ load side bytes h.shape (a + place) → o ≡ Some v → values' ≡ values ++ v ∷ []
    → Loading t side bytes ms types (i + 1) n' a values'
loaded {t} {side} {bytes} {ms} {types} {i} {n} {a} {values} h place n' o v values' at moved is there pushed =
    let read : load side bytes h.shape (a + place_of (width_of side) h.shape n) ≡ Some v = ap (λ p. load side bytes h.shape (a + p)) (sym at) ∙ sym is ∙ there in
    record {
      rest = h.rest;
      has = h.has;
      ends = h.ends ∙ ap (ends_of (width_of side) h.rest) (sym moved);
      same = one_more _ _ (load_members side bytes h.rest a n') values values' v h.same
          (ap (λ o. o >>= (λ v. load_members side bytes h.rest a (next_of (width_of side) h.shape n) >>= (λ vs. Some (v ∷ vs)))) read
          ∙ ap (λ n. load_members side bytes h.rest a n >>= (λ vs. Some (v ∷ vs))) (sym moved)) pushed;
    }

pub not_loaded : {t : Tables} {side : SideAbi} {bytes : List ℕ} {ms : Members} {types : List (Option InterfaceType)} {i n a : ℕ} {values : List Value} {y : InterfaceType} (h : Here t side bytes ms types i n a values y) (place : ℕ) (o : Option Value) → place ≡ place_of (width_of side) h.shape n → o ≡ load side bytes h.shape (a + place) → o ≡ None → None ≡ load_members side bytes ms a 0
not_loaded {t} {side} {bytes} {ms} {types} {i} {n} {a} {values} h place o at is none =
    let read : load side bytes h.shape (a + place_of (width_of side) h.shape n) ≡ None = ap (λ p. load side bytes h.shape (a + p)) (sym at) ∙ sym is ∙ none in
    none_left _ _ values h.same (ap (λ o. o >>= (λ v. load_members side bytes h.rest a (next_of (width_of side) h.shape n) >>= (λ vs. Some (v ∷ vs)))) read)

pub all_loaded : {t : Tables} {side : SideAbi} {bytes : List ℕ} {ms : Members} {types : List (Option InterfaceType)} {i n a : ℕ} {values : List Value} → length types ≤ i → Loading t side bytes ms types i n a values → Some values ≡ load_members side bytes ms a 0
all_loaded {t} {side} {bytes} {ms} {types} {i} {n} {a} {values} ge g = all_read _ _ values g.same (nothing_left t side bytes a n g.rest (subst (λ xs. AreOf t xs g.rest) (drop_all i types ge) g.has))

-- a member that is there is live and lower
pub member_within : (t : Tables) (owner : InterfaceType) (types : List (Option InterfaceType)) (i : ℕ) (y : InterfaceType) → AreLower t owner types → i < length types → get_or types i None ≡ Some y → IsMemberOf t y owner
member_within t owner types i y w lt e = w.each i y (slice_get-get_or types i None lt ∙ ap Some e)

pub loading_starts : (t : Tables) (side : SideAbi) (bytes : List ℕ) (ms : Members) (types : List (Option InterfaceType)) (a : ℕ) → AreOf t types ms → Loading t side bytes ms types 0 0 a []
loading_starts t side bytes ms types a h = record { rest = ms; has = h; ends = refl; same = starts (load_members side bytes ms a 0) }

-- ---- whole types

-- a type without members
pub plain_loads : (side : SideAbi) (bytes : List ℕ) (a : ℕ) (y : InterfaceType) (s : Shape) (o : Option Value) → s ≡ s_plain y → o ≡ load_plain side bytes y (plain_of y) a → o ≡ load side bytes s a
unfolding load
plain_loads side bytes a y s o is e = e ∙ ap (λ s. load side bytes s a) (sym is)

-- a type with members, by its kind
pub by_kind : (t : Tables) (y : InterfaceType) (x : Node) (k : NodeKind) (P : Shape → Type 0) → HasNode t y x → x.kind ≡ k → ((ms : Members) → AreTold k t x.names x.types ms → P (s_node (kind_of k) ms)) → (s : Shape) → HasShape t y s → P s
by_kind t y x k P node is f s h =
    let o = node.shaped s h in
    subst P (sym (o.is ∙ ap (λ (k : NodeKind). s_node (kind_of k) o.members) is)) (f o.members (subst (λ (k : NodeKind). AreTold k t x.names x.types o.members) is o.told))

-- the members of a record or a tuple have room where the whole has
pub members_room : (t : Tables) (w : MemoryWidth) (a : ℕ) (y : InterfaceType) (types : List (Option InterfaceType)) (k : Kind) (whole : CanonicalAbiInfo) (s : Shape) (ms : Members)
    → AreOf t types ms → s ≡ s_node k ms → whole ≡ abi_at t y → whole ≡ layout_of s → IsWithin whole → RoomFor t w a y → layout_of (s_node k ms) ≡ layout_of (s_node k_record ms) → RoomForMembers t w a types
members_room t w a y types k whole s ms are is at laid within room alike =
    let size : (extent w (abi_at t y)).size ≡ (extent w (layout_of (s_node k_record ms))).size = ap (λ (l : CanonicalAbiInfo). (extent w l).size) (sym at ∙ laid ∙ ap layout_of is ∙ alike) in
    let few : (extent w (layout_of (s_node k_record ms))).size ≤ 4294967295 = subst (λ (l : CanonicalAbiInfo). (extent w l).size ≤ 4294967295) (laid ∙ ap layout_of is ∙ alike) (bound w within) in
    record { members = ms; are = are; fits = record { ends = omega (arith, ends_within w ms, few); room = omega (arith, ends_within w ms, room, size) } }
  where
    bound : (w : MemoryWidth) → IsWithin whole → (extent w whole).size ≤ 4294967295
    bound Memory32 h = h.memory32
    bound Memory64 h = h.memory64

pub member_room : (t : Tables) (w : MemoryWidth) (a : ℕ) (y : InterfaceType) (s : Shape) (n ends place : ℕ) → place ≡ place_of w s n → abi_at t y ≡ layout_of s → next_of w s n ≤ ends → a + ends ≤ 2 ^ 90 → RoomFor t w (a + place) y
member_room t w a y s n ends place at laid le room =
    let size : (extent w (abi_at t y)).size ≡ (extent w (layout_of s)).size = ap (λ (l : CanonicalAbiInfo). (extent w l).size) laid in
    omega (arith, at, size, le, room)

-- the shape of a type of a kind that was found
pub of_kind : (t : Tables) (y : InterfaceType) (x : Node) (k : NodeKind) (s : Shape) → HasNode t y x → x.kind ≡ k → HasShape t y s → IsOfKind t k x.names x.types s
of_kind t y x k s node is h = subst (λ (k : NodeKind). IsOfKind t k x.names x.types s) is (node.shaped s h)

module _ (t : Tables) (w : MemoryWidth) (a : ℕ) (y : InterfaceType) (x : Node) (whole : CanonicalAbiInfo) (s : Shape) (node : HasNode t y x) (h : HasShape t y s) (at : whole ≡ abi_at t y) (laid : whole ≡ layout_of s) (within : IsWithin whole) (room : RoomFor t w a y) where
  pub record_room : x.kind ≡ is.Record → RoomForMembers t w a x.types
  record_room kind = let o = of_kind t y x is.Record s node kind h in members_room t w a y x.types k_record whole s o.members o.told.1 o.is at laid within room refl

  pub tuple_room : x.kind ≡ is.Tuple → RoomForMembers t w a x.types
  tuple_room kind = let o = of_kind t y x is.Tuple s node kind h in members_room t w a y x.types k_tuple whole s o.members o.told o.is at laid within room refl

-- ---- values with their names
append_nil : {X : Type 0} (xs : List X) → xs ++ [] ≡ xs
append_nil [] = refl
append_nil (x ∷ xs) = ap (λ l. x ∷ l) (append_nil xs)

pub one_named : (all fields fields' : List (List ℕ × Value)) (names : List (List ℕ)) (i : ℕ) (name : List ℕ) (v : Value) (vs vs' : List Value) → i < length names → name ≡ get_or names i name → vs ≡ v ∷ vs'
    → fields' ≡ fields ++ (name, v) ∷ [] → all ≡ fields ++ zip (drop i names) vs → all ≡ fields' ++ zip (drop (i + 1) names) vs'
one_named all fields fields' names i name v vs vs' lt at is pushed e =
    let front : drop i names ≡ name ∷ drop (i + 1) names = drop-cons names i name lt ∙ ap (λ y. y ∷ drop (suc i) names) (sym at) ∙ ap (λ k. name ∷ drop k names) (sym (add-one i)) in
    e ∙ (λ j. fields ++ zip (front j) (is j)) ∙ sym (append_assoc fields ((name, v) ∷ []) (zip (drop (i + 1) names) vs')) ∙ ap (λ fs. fs ++ zip (drop (i + 1) names) vs') (sym pushed)

zip_none : (names : List (List ℕ)) (vs : List Value) → vs ≡ [] → zip names vs ≡ []
zip_none [] vs e = refl
zip_none (n ∷ ns) [] e = refl
zip_none (n ∷ ns) (v ∷ vs) e = cc

pub no_more_values : (all fields : List (List ℕ × Value)) (names : List (List ℕ)) (vs : List Value) → vs ≡ [] → all ≡ fields ++ zip names vs → fields ≡ all
no_more_values all fields names vs is e = sym (e ∙ ap (λ zs. fields ++ zs) (zip_none names vs is) ∙ append_nil fields)

pub no_more_names : (all fields : List (List ℕ × Value)) (names : List (List ℕ)) (i : ℕ) (vs : List Value) → length names ≤ i → all ≡ fields ++ zip (drop i names) vs → fields ≡ all
no_more_names all fields names i vs ge e = sym (e ∙ ap (λ ns. fields ++ zip ns vs) (drop_all i names ge) ∙ append_nil fields)

-- ---- records and tuples

pub record_loads : (side : SideAbi) (bytes : List ℕ) (a : ℕ) (ms : Members) (names : List (List ℕ)) (values : List Value) (fields : List (List ℕ × Value)) → Some values ≡ load_members side bytes ms a 0 → names ≡ typed_names ms → fields ≡ zip names values
    → Some (value.Record fields) ≡ load side bytes (s_node k_record ms) a
unfolding load load_members
record_loads side bytes a ms names values fields read named zipped =
    ap (λ fs. Some (value.Record fs)) (zipped ∙ ap (λ ns. zip ns values) named) ∙ ap (option_map (λ vs. value.Record (zip (typed_names ms) vs))) read

pub no_record : (side : SideAbi) (bytes : List ℕ) (a : ℕ) (ms : Members) (o : Option (List Value)) → o ≡ load_members side bytes ms a 0 → o ≡ None → None ≡ load side bytes (s_node k_record ms) a
unfolding load load_members
no_record side bytes a ms o read none = ap (option_map (λ vs. value.Record (zip (typed_names ms) vs))) (sym none ∙ read)

pub tuple_loads : (side : SideAbi) (bytes : List ℕ) (a : ℕ) (ms : Members) (values : List Value) (o : Option (List Value)) → o ≡ load_members side bytes ms a 0 → o ≡ Some values → Some (value.Tuple values) ≡ load side bytes (s_node k_tuple ms) a
unfolding load load_members
tuple_loads side bytes a ms values o read there = ap (option_map (λ vs. value.Tuple vs)) (sym there ∙ read)

pub no_tuple : (side : SideAbi) (bytes : List ℕ) (a : ℕ) (ms : Members) (o : Option (List Value)) → o ≡ load_members side bytes ms a 0 → o ≡ None → None ≡ load side bytes (s_node k_tuple ms) a
unfolding load load_members
no_tuple side bytes a ms o read none = ap (option_map (λ vs. value.Tuple vs)) (sym none ∙ read)
