-- Types with members, as the functions that store their values meet them.
use Rattle.std.proofs.Common.{◌≡◌, ℕ, ◌+◌, ◌≤◌, ◌<◌, ◌^◌, Bool, true, false, List, [], ◌∷◌, length, map, Option, Some, None, refl, sym, ap, ◌∙◌, subst, arith}
use Rattle.std.specs.Prelude.{slice_get}
use Rattle.fact_types.specs.declared.abi.CanonicalAbiInfo.{CanonicalAbiInfo}
use Rattle.fact_types.specs.declared.interface.InterfaceType.{InterfaceType}
use Rattle.fact_types.specs.declared.extents.MemoryWidth.{MemoryWidth}
use Rattle.fact_types.specs.declared.extents.MemoryWidth.TheVariants.{Memory32, Memory64}
use Rattle.fact_types.specs.Agrees.{chosen, names_of}
use Rattle.fact_types.specs.Heights.{IsMemberOf}
use Rattle.fact_types.specs.Layout.{extent}
use Rattle.fact_types.specs.Shapes.{Kind, k_record, k_variant, k_list, k_tuple, k_map, k_flags, k_enum, k_option, k_result, k_fixed, k_future, k_stream, Shape, s_plain, s_node, Members, layout_of, IsWithin}
use Rattle.fact_types.specs.Tables.{Tables, IsLive, HasShape}
use Rattle.fact_types.proofs.ShapeLaws.{one_shape, none_some}
use Rattle.fact_abi.specs.declared.nodes.Node.{Node}
use Rattle.fact_abi.specs.declared.nodes.NodeKind.{NodeKind}
use Rattle.fact_abi.specs.declared.nodes.NodeKind.TheVariants as is
use Rattle.fact_abi.specs.Nodes.{AreOf, AreTold, HasNode, IsNodeOf, IsOfKind, kind_of}
use Rattle.fact_abi.proofs.LoadLaws.{of_kind}
use Rattle.fact_types.specs.Signatures.{pointer_bytes}
use Rattle.fact_values.specs.declared.side.SideAbi.{SideAbi}
use Rattle.fact_values.specs.declared.value.HandleKind.{HandleKind}
use Rattle.fact_values.specs.declared.value.HandleKind.TheVariants.{Future, Stream}
use Rattle.fact_values.specs.declared.value.Value.{Value, out-Value}
use Rattle.fact_values.specs.declared.value.Value.TheVariants as value
use Rattle.fact_values.specs.Formed.{IsFormed}
use Rattle.fact_values.proofs.FormedLaws.{formed}
use Rattle.fact_values.specs.IsA.{IsA, IsCase, IsFlags, IsHandle, IsPlainValue, HasCase}
use Rattle.fact_values.specs.Numbers.{plain_of, number_in}
use Rattle.fact_values.specs.Places.{Pair, pair_at, width_of, extent_on, flags_bytes}
use Rattle.fact_lowering.specs.declared.places.Pair.{Pair as PointerPair}
use Rattle.fact_lowering.specs.Lowered.{IsPut, IsStored, IsWritten, LacksRoom, ReadsAt, own_room}
use Rattle.fact_lowering.specs.Storings.{HasSpace, IsBehindPair, IsCaseStorable, IsNodeStorable, IsStorable, PutOr, pair_of}
use Rattle.fact_lowering.proofs.Agreeing.{written_also, written_wider}
use Rattle.fact_lowering.proofs.OwnRooms.{IsCaseKind}
use Rattle.fact_lowering.proofs.Stored.{reads_future, reads_stream}
use Rattle.fact_lowering.proofs.StoreSteps.{IsBehind, behind_size, pair_stored}
use Rattle.fact_lowering.proofs.StoreWalks.{can_still}
use Rattle.fact_lowering.proofs.StoredCases.{variant_size}

-- ---- values of the kinds

pub case_of : (k : Kind) (ms : Members) (v : Value) → IsCaseKind k → IsA (s_node k ms) v → IsCase (λ x vs. HasCase ms x vs) (out-Value v)
unfolding IsA
case_of k_variant ms v h a = a
case_of k_enum ms v h a = a
case_of k_option ms v h a = a
case_of k_result ms v h a = a
case_of k_record ms v h a = absurd h
case_of k_list ms v h a = absurd h
case_of k_tuple ms v h a = absurd h
case_of k_map ms v h a = absurd h
case_of k_flags ms v h a = absurd h
case_of (k_fixed n) ms v h a = absurd h
case_of (k_future table instance) ms v h a = absurd h
case_of (k_stream table instance) ms v h a = absurd h

pub flags_of : (ms : Members) (v : Value) → IsA (s_node k_flags ms) v → IsFlags ms (out-Value v)
unfolding IsA
flags_of ms v a = a

pub future_of : (table instance : ℕ) (ms : Members) (v : Value) → IsA (s_node (k_future table instance) ms) v → IsHandle Future table (out-Value v)
unfolding IsA
future_of table instance ms v a = a

pub stream_of : (table instance : ℕ) (ms : Members) (v : Value) → IsA (s_node (k_stream table instance) ms) v → IsHandle Stream table (out-Value v)
unfolding IsA
stream_of table instance ms v a = a

pub plain_is : (y : InterfaceType) (v : Value) → IsA (s_plain y) v → IsPlainValue (plain_of y) (out-Value v)
unfolding IsA
plain_is y v a = a

pub flags_size_is : (side : SideAbi) (ms : Members) → (extent_on side (s_node k_flags ms)).size ≡ flags_bytes ms
flags_size_is side ms = go (width_of side)
  where
    go : (w : MemoryWidth) → (extent w (layout_of (s_node k_flags ms))).size ≡ flags_bytes ms
    go Memory32 = refl
    go Memory64 = refl

future_size : (side : SideAbi) (table instance : ℕ) (ms : Members) → (extent_on side (s_node (k_future table instance) ms)).size ≡ 4
future_size side table instance ms = go (width_of side)
  where
    go : (w : MemoryWidth) → (extent w (layout_of (s_node (k_future table instance) ms))).size ≡ 4
    go Memory32 = refl
    go Memory64 = refl

stream_size : (side : SideAbi) (table instance : ℕ) (ms : Members) → (extent_on side (s_node (k_stream table instance) ms)).size ≡ 4
stream_size side table instance ms = go (width_of side)
  where
    go : (w : MemoryWidth) → (extent w (layout_of (s_node (k_stream table instance) ms))).size ≡ 4
    go Memory32 = refl
    go Memory64 = refl

-- ---- a value of a type of a kind

within_size : (w : MemoryWidth) (c : CanonicalAbiInfo) → IsWithin c → (extent w c).size ≤ 4294967295
within_size Memory32 c h = h.memory32
within_size Memory64 c h = h.memory64

module _ (t : Tables) (side : SideAbi) (y : InterfaceType) (x : Node) (v : Value) (a low : ℕ) (m : List ℕ) (node : HasNode t y x) (st : IsStorable t side y v a low m) where
  -- what is told of its members
  told_of : (k : NodeKind) → x.kind ≡ k → IsOfKind t k x.names x.types st.shape
  told_of k kind = of_kind t y x k st.shape node kind st.shaped

  pub node_storable : (k : NodeKind) → x.kind ≡ k → (whole : CanonicalAbiInfo) → ((s : Shape) → HasShape t y s → whole ≡ layout_of s) → IsWithin whole → ((ms : Members) → AreTold k t x.names x.types ms → AreOf t x.types ms) → IsNodeStorable t side (kind_of k) x.types v a low m
  node_storable k kind whole laid within has =
      let q = told_of k kind in
      let few : (extent_on side st.shape).size ≤ 4294967295 = subst (λ l. (extent (width_of side) l).size ≤ 4294967295) (laid st.shape st.shaped) (within_size (width_of side) whole within) in
      record {
        members = q.members;
        are = has q.members q.told;
        is = subst (λ s. IsA s v) q.is st.is;
        few = subst (λ s. (extent_on side s).size ≤ 4294967295) q.is few;
        room = subst (λ s. HasSpace (extent_on side s).size a low m) q.is st.room;
      }

  -- and what is answered of each shape of the type
  pub node_answers : (k : NodeKind) → x.kind ≡ k → (P : Shape → Type 0) → ((ms : Members) → AreTold k t x.names x.types ms → HasShape t y (s_node (kind_of k) ms) → IsA (s_node (kind_of k) ms) v → P (s_node (kind_of k) ms)) → (s : Shape) → HasShape t y s → P s
  node_answers k kind P f s h =
      let q = of_kind t y x k s node kind h in
      let is : IsA s v = subst (λ z. IsA z v) (one_shape t st.shape s y st.shaped h) st.is in
      subst P (sym q.is) (f q.members q.told (subst (HasShape t y) q.is h) (subst (λ s. IsA s v) q.is is))

  pub case_storable : (k : NodeKind) → x.kind ≡ k → IsCaseKind (kind_of k) → ((ms : Members) → AreTold k t x.names x.types ms → (x.names ≡ names_of ms) × AreOf t x.types ms) → IsCaseStorable t side x.names x.types v a low m
  case_storable k kind c has =
      let q = told_of k kind in
      let n = has q.members q.told in
      let s = s_node (kind_of k) q.members in
      let room : HasSpace (extent_on side s).size a low m = subst (λ s. HasSpace (extent_on side s).size a low m) q.is st.room in
      record {
        members = q.members;
        named = n.0;
        are = n.1;
        is = case_of (kind_of k) q.members v c (subst (λ s. IsA s v) q.is st.is);
        room = subst (λ n. HasSpace n a low m) (variant_size side (kind_of k) q.members v c (subst IsFormed q.is (formed t y st.shape st.shaped))) room;
      }

  pub flags_storable : x.kind ≡ is.Flags → (ms : Members) × IsFlags ms (out-Value v) × HasSpace (flags_bytes ms) a low m
  flags_storable kind =
      let q = told_of is.Flags kind in
      (q.members, flags_of q.members v (subst (λ s. IsA s v) q.is st.is), subst (λ n. HasSpace n a low m) (flags_size_is side q.members) (subst (λ s. HasSpace (extent_on side s).size a low m) q.is st.room))

  pub future_storable : (table instance : ℕ) → x.kind ≡ is.Future table instance → ((kind : HandleKind) × (table : ℕ) × IsHandle kind table (out-Value v)) × HasSpace 4 a low m
  future_storable table instance kind =
      let q = told_of (is.Future table instance) kind in
      ((Future, table, future_of table instance q.members v (subst (λ s. IsA s v) q.is st.is)), subst (λ n. HasSpace n a low m) (future_size side table instance q.members) (subst (λ s. HasSpace (extent_on side s).size a low m) q.is st.room))

  pub stream_storable : (table instance : ℕ) → x.kind ≡ is.Stream table instance → ((kind : HandleKind) × (table : ℕ) × IsHandle kind table (out-Value v)) × HasSpace 4 a low m
  stream_storable table instance kind =
      let q = told_of (is.Stream table instance) kind in
      ((Stream, table, stream_of table instance q.members v (subst (λ s. IsA s v) q.is st.is)), subst (λ n. HasSpace n a low m) (stream_size side table instance q.members) (subst (λ s. HasSpace (extent_on side s).size a low m) q.is st.room))

-- ---- types without members

pub plain_storable : (t : Tables) (side : SideAbi) (y : InterfaceType) (v : Value) (a low : ℕ) (m : List ℕ) → ((s : Shape) → HasShape t y s → s ≡ s_plain y) → IsStorable t side y v a low m → IsPlainValue (plain_of y) (out-Value v) × HasSpace (extent_on side (s_plain y)).size a low m
plain_storable t side y v a low m none st =
    let q = none st.shape st.shaped in
    (plain_is y v (subst (λ s. IsA s v) q st.is), subst (λ s. HasSpace (extent_on side s).size a low m) q st.room)

-- ---- handles

-- what a handle that was stored says
abbrev pub HandleOr : Bool → HandleKind → (table : ℕ) → Value → (a low high : ℕ) → (m m' : List ℕ) → Type 0
HandleOr done kind table v a low high m m' = chosen done ((n : ℕ) × (v ≡ value.Handle kind table n) × IsWritten (λ b. number_in b 4 a ≡ Some n) a 4 low high 0 m m') ⊥

pub future_stored : (side : SideAbi) (table instance : ℕ) (ms : Members) (v : Value) (done : Bool) (a low high : ℕ) (m m' : List ℕ) → HandleOr done Future table v a low high m m' → chosen done (IsStored side (s_node (k_future table instance) ms) v a low high m m') (LacksRoom low (own_room side (s_node (k_future table instance) ms) v) m)
future_stored side table instance ms v true a low high m m' (n, e, w) =
    written_wider a (extent_on side (s_node (k_future table instance) ms)).size (own_room side (s_node (k_future table instance) ms) v) (omega arith) (omega (arith, future_size side table instance ms)) (omega arith)
    (written_also w (λ b l r. subst (λ v. ReadsAt side (s_node (k_future table instance) ms) v a b) (sym e) (reads_future side b table instance ms a n r)))
future_stored side table instance ms v false a low high m m' h = absurd h

pub stream_stored : (side : SideAbi) (table instance : ℕ) (ms : Members) (v : Value) (done : Bool) (a low high : ℕ) (m m' : List ℕ) → HandleOr done Stream table v a low high m m' → chosen done (IsStored side (s_node (k_stream table instance) ms) v a low high m m') (LacksRoom low (own_room side (s_node (k_stream table instance) ms) v) m)
stream_stored side table instance ms v true a low high m m' (n, e, w) =
    written_wider a (extent_on side (s_node (k_stream table instance) ms)).size (own_room side (s_node (k_stream table instance) ms) v) (omega arith) (omega (arith, stream_size side table instance ms)) (omega arith)
    (written_also w (λ b l r. subst (λ v. ReadsAt side (s_node (k_stream table instance) ms) v a b) (sym e) (reads_stream side b table instance ms a n r)))
stream_stored side table instance ms v false a low high m m' h = absurd h

-- ---- behind pointers

pub put_is : (side : SideAbi) (s : Shape) (v : Value) (low high : ℕ) (m m' : List ℕ) (L : Type 0) (o : Option PointerPair) (p : PointerPair) → o ≡ Some p → PutOr o (λ p. IsPut side s v p low high m m') L → IsPut side s v (pair_of p) low high m m'
put_is side s v low high m m' L o p e h = subst (λ o. PutOr o (λ p. IsPut side s v p low high m m') L) e h

pub not_put : (side : SideAbi) (s : Shape) (v : Value) (low high : ℕ) (m m' : List ℕ) (L : Type 0) (o : Option PointerPair) → o ≡ None → PutOr o (λ p. IsPut side s v p low high m m') L → L
not_put side s v low high m m' L o e h = subst (λ o. PutOr o (λ p. IsPut side s v p low high m m') L) e h

-- no other kind stands behind a pointer
pub behind_kind : (k : NodeKind) → IsBehindPair (kind_of k) → ((e : InterfaceType) → k ≡ is.List e → ⊥) → ((x y : InterfaceType) → k ≡ is.Map x y → ⊥) → ⊥
behind_kind (is.List e) h f g = f e refl
behind_kind (is.Map x y) h f g = g x y refl
behind_kind is.Record h f g = h
behind_kind is.Variant h f g = h
behind_kind is.Tuple h f g = h
behind_kind is.Flags h f g = h
behind_kind is.Enum h f g = h
behind_kind is.Option h f g = h
behind_kind is.Result h f g = h
behind_kind (is.FixedList n e) h f g = h
behind_kind (is.Future table instance) h f g = h
behind_kind (is.Stream table instance) h f g = h

pub behind_shape : (t : Tables) (y : InterfaceType) (x : Node) (s : Shape) → HasNode t y x → IsBehindPair (kind_of x.kind) → HasShape t y s → IsBehind s
behind_shape t y x s node kind h = subst IsBehind (sym (node.shaped s h).is) kind

-- room for a pointer and a length
pub pair_room : (t : Tables) (side : SideAbi) (y : InterfaceType) (v : Value) (p : Pair) (a low high : ℕ) (m m' : List ℕ) (st : IsStorable t side y v a low m) → IsBehind st.shape → IsPut side st.shape v p low high m m' → HasSpace (pointer_bytes (width_of side) + pointer_bytes (width_of side)) a high m'
pair_room t side y v p a low high m m' st behind put =
    record { below = omega (arith, behind_size side st.shape behind, st.room.below, put.written.rises.up); can = can_still st.room.can put.written }

-- a pointer and a length that were put for a value
pub value_stored : (t : Tables) (side : SideAbi) (y : InterfaceType) (v : Value) (p : Pair) (a low high end : ℕ) (m m' m'' : List ℕ) (st : IsStorable t side y v a low m) (s : Shape) → HasShape t y s → IsBehind s → IsPut side s v p low high m m' → end ≡ high
    → IsWritten (λ b. pair_at side b a ≡ Some p) a (pointer_bytes (width_of side) + pointer_bytes (width_of side)) high high 0 m' m'' → IsStored side s v a low end m m''
value_stored t side y v p a low high end m m' m'' st s h behind put same w =
    let fits : a + (extent_on side s).size ≤ low = subst (λ z. a + (extent_on side z).size ≤ low) (one_shape t st.shape s y st.shaped h) st.room.below in
    subst (λ n. IsStored side s v a low n m m'') (sym same) (pair_stored side s v p a low high m m' m'' behind fits put w)
