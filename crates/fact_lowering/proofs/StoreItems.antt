-- Elements of lists and entries of maps, where they are stored one by one.
use Rattle.std.proofs.Common.{◌≡◌, ℕ, zero, suc, ◌+◌, ◌*◌, ◌≤◌, ◌<◌, List, [], ◌∷◌, length, Option, Some, None, refl, sym, ap, ◌∙◌, subst, arith}
use Rattle.std.specs.Prelude.{slice_get}
use Rattle.std.proofs.Math.Nat.{mul-le-mul_right}
use Rattle.fact_types.specs.declared.interface.InterfaceType.{InterfaceType}
use Rattle.fact_types.specs.declared.extents.MemoryWidth.{MemoryWidth}
use Rattle.fact_types.specs.Shapes.{Shape, Members, no_members, bare, typed, ends_of, layout_of, layouts_of, next_of}
use Rattle.fact_types.specs.Tables.{Tables, HasShape}
use Rattle.fact_types.proofs.ShapeLaws.{none_some, one_shape, same_some}
use Rattle.fact_abi.specs.Nodes.{AreOf}
use Rattle.fact_values.specs.declared.side.SideAbi.{SideAbi}
use Rattle.fact_values.specs.declared.value.Value.{Value}
use Rattle.fact_values.specs.IsA.{IsA, AreMembers}
use Rattle.fact_values.specs.Places.{extent_on, width_of}
use Rattle.fact_lowering.specs.Lowered.{own_room}
use Rattle.fact_lowering.specs.Storings.{AreElements, AreEntries, AreEntryMembers, AreStorable, HasSpace, IsStorable}
use Rattle.fact_lowering.proofs.StoreWalks.{Itemwise, can_still, element_reads, element_forms, entry_reads, entry_forms, entry_room, one_of_all}

same_shape : (t : Tables) (x : Option InterfaceType) (s z : Shape) → ((y : InterfaceType) × (x ≡ Some y) × HasShape t y s) → ((y : InterfaceType) × (x ≡ Some y) × HasShape t y z) → s ≡ z
same_shape t x s z h k = one_shape t s z k.0 (subst (λ y. HasShape t y s) (same_some x h.0 k.0 h.1 k.1) h.2) k.2

-- Members of the same types have the same values and ends.
pub same_members : (t : Tables) (types : List (Option InterfaceType)) (ms ns : Members) (vs : List Value) → AreOf t types ms → AreOf t types ns → AreMembers ms vs → AreMembers ns vs
unfolding IsA
same_members t [] no_members no_members vs h k a = a
same_members t [] no_members (bare n ns) vs h k a = absurd k
same_members t [] no_members (typed n s ns) vs h k a = absurd k
same_members t [] (bare n ms) ns vs h k a = absurd h
same_members t [] (typed n s ms) ns vs h k a = absurd h
same_members t (x ∷ xs) no_members ns vs h k a = absurd h
same_members t (x ∷ xs) (bare n ms) no_members vs h k a = absurd k
same_members t (x ∷ xs) (bare n ms) (bare n' ns) vs h k a = same_members t xs ms ns vs h.1 k.1 a
same_members t (x ∷ xs) (bare n ms) (typed n' s ns) vs h k a = absurd (none_some x k.0.0 h.0 k.0.1)
same_members t (x ∷ xs) (typed n s ms) no_members vs h k a = absurd k
same_members t (x ∷ xs) (typed n s ms) (bare n' ns) vs h k a = absurd (none_some x h.0.0 k.0 h.0.1)
same_members t (x ∷ xs) (typed n s ms) (typed n' s' ns) [] h k a = absurd a
same_members t (x ∷ xs) (typed n s ms) (typed n' s' ns) (v ∷ vs) h k a = (subst (λ z. IsA z v) (same_shape t x s s' h.0 k.0) a.0, same_members t xs ms ns vs h.1 k.1 a.1)

pub same_ends : (t : Tables) (w : MemoryWidth) (types : List (Option InterfaceType)) (ms ns : Members) (n : ℕ) → AreOf t types ms → AreOf t types ns → ends_of w ms n ≡ ends_of w ns n
same_ends t w [] no_members no_members n h k = refl
same_ends t w [] no_members (bare x ns) n h k = absurd k
same_ends t w [] no_members (typed x s ns) n h k = absurd k
same_ends t w [] (bare x ms) ns n h k = absurd h
same_ends t w [] (typed x s ms) ns n h k = absurd h
same_ends t w (x ∷ xs) no_members ns n h k = absurd h
same_ends t w (x ∷ xs) (bare y ms) no_members n h k = absurd k
same_ends t w (x ∷ xs) (bare y ms) (bare y' ns) n h k = same_ends t w xs ms ns n h.1 k.1
same_ends t w (x ∷ xs) (bare y ms) (typed y' s ns) n h k = absurd (none_some x k.0.0 h.0 k.0.1)
same_ends t w (x ∷ xs) (typed y s ms) no_members n h k = absurd k
same_ends t w (x ∷ xs) (typed y s ms) (bare y' ns) n h k = absurd (none_some x h.0.0 k.0 h.0.1)
same_ends t w (x ∷ xs) (typed y s ms) (typed y' s' ns) n h k = ap (λ z. ends_of w ms (next_of w z n)) (same_shape t x s s' h.0 k.0) ∙ same_ends t w xs ms ns (next_of w s' n) h.1 k.1

pub same_layouts : (t : Tables) (types : List (Option InterfaceType)) (ms ns : Members) → AreOf t types ms → AreOf t types ns → layouts_of ms ≡ layouts_of ns
same_layouts t [] no_members no_members h k = refl
same_layouts t [] no_members (bare x ns) h k = absurd k
same_layouts t [] no_members (typed x s ns) h k = absurd k
same_layouts t [] (bare x ms) ns h k = absurd h
same_layouts t [] (typed x s ms) ns h k = absurd h
same_layouts t (x ∷ xs) no_members ns h k = absurd h
same_layouts t (x ∷ xs) (bare y ms) no_members h k = absurd k
same_layouts t (x ∷ xs) (bare y ms) (bare y' ns) h k = ap (λ ls. None ∷ ls) (same_layouts t xs ms ns h.1 k.1)
same_layouts t (x ∷ xs) (bare y ms) (typed y' s ns) h k = absurd (none_some x k.0.0 h.0 k.0.1)
same_layouts t (x ∷ xs) (typed y s ms) no_members h k = absurd k
same_layouts t (x ∷ xs) (typed y s ms) (bare y' ns) h k = absurd (none_some x h.0.0 k.0 h.0.1)
same_layouts t (x ∷ xs) (typed y s ms) (typed y' s' ns) h k = λ i. Some (layout_of (same_shape t x s s' h.0 k.0 i)) ∷ same_layouts t xs ms ns h.1 k.1 i

-- one more item still lies among so many
within : (i count stride : ℕ) → i < count → (i + 1) * stride ≤ count * stride
within i count stride lt = mul-le-mul_right stride (omega (arith, lt))

module _ {t : Tables} {side : SideAbi} {y : InterfaceType} {vs : List Value} {stride a low : ℕ} {m : List ℕ} (st : AreElements t side y vs stride a low m) where
  pub element_fits : {i : ℕ} → i < length vs → (i + 1) * stride + a ≤ low
  element_fits {i} lt = omega (arith, within i (length vs) stride lt, st.room.below)

  pub stride_fits : (s : Shape) → HasShape t y s → (extent_on side s).size ≤ stride
  stride_fits s h = let same : (extent_on side st.shape).size ≡ (extent_on side s).size = ap (λ z. (extent_on side z).size) (one_shape t st.shape s y st.shaped h) in omega (arith, same, st.stride_is)

  pub element_storable : {i at high : ℕ} {m' : List ℕ} → Itemwise (element_reads side st.shape) (element_forms side st.shape) (own_room side st.shape) stride vs a low m i at high m' → (v : Value) → slice_get vs i ≡ Some v → i < length vs → IsStorable t side y v at high m'
  element_storable {i} {at} {high} {m'} g v there lt = record {
    shape = st.shape;
    shaped = st.shaped;
    is = one_of_all (λ v. IsA st.shape v) vs i v there st.are;
    room = record { below = omega (arith, g.place, within i (length vs) stride lt, st.stride_is, st.room.below, g.written.rises.up); can = can_still st.room.can g.written };
  }

-- ---- entries of maps

module _ {t : Tables} {side : SideAbi} {key item : InterfaceType} {es : List (Value × Value)} {stride a low : ℕ} {m : List ℕ} (st : AreEntries t side key item es stride a low m) where
  pub entry_fits : {i : ℕ} → i < length es → (i + 1) * stride + a ≤ low
  entry_fits {i} lt = omega (arith, within i (length es) stride lt, st.room.below)

  pub entry_is : (ms : Members) → AreEntryMembers t key item ms → (i : ℕ) (e : Value × Value) → slice_get es i ≡ Some e → AreMembers ms (e.0 ∷ e.1 ∷ [])
  entry_is ms has i e there = same_members t (Some key ∷ Some item ∷ []) st.members ms (e.0 ∷ e.1 ∷ []) st.has has (one_of_all (λ e. AreMembers st.members (e.0 ∷ e.1 ∷ [])) es i e there st.are)

  pub entry_ends : (ms : Members) → AreEntryMembers t key item ms → ends_of (width_of side) ms 0 ≤ stride
  entry_ends ms has = omega (arith, same_ends t (width_of side) (Some key ∷ Some item ∷ []) st.members ms 0 st.has has, st.few)

  pub entry_storable : {i at high : ℕ} {m' : List ℕ} → Itemwise (entry_reads side st.members) (entry_forms side st.members) (entry_room side st.members) stride es a low m i at high m' → (e : Value × Value) → slice_get es i ≡ Some e → i < length es → stride ≤ 4294967295
      → AreStorable t side (Some key ∷ Some item ∷ []) (e.0 ∷ e.1 ∷ []) at high m'
  entry_storable {i} {at} {high} {m'} g e there lt small = record {
    members = st.members;
    are = st.has;
    values = one_of_all (λ e. AreMembers st.members (e.0 ∷ e.1 ∷ [])) es i e there st.are;
    few = omega (arith, st.few, small);
    room = record { below = omega (arith, g.place, within i (length es) stride lt, st.few, st.room.below, g.written.rises.up); can = can_still st.room.can g.written };
  }
