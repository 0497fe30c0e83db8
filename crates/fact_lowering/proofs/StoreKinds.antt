-- Values of each kind of type with members, stored by their parts.
use Rattle.std.proofs.Common.{◌≡◌, ℕ, zero, suc, ◌+◌, ◌*◌, ◌%◌, ◌^◌, ◌≤◌, ◌<◌, Bool, true, false, List, [], ◌∷◌, length, map, take, drop, Option, Some, None, refl, sym, ap, ◌∙◌, subst, arith}
use Rattle.std.proofs.Math.Nat.{mul_comm}
use Rattle.std.specs.Prelude.{sum_by}
use Rattle.std.specs.List.{AllByRecursion}
use Rattle.fact_types.specs.declared.interface.InterfaceType.{InterfaceType}
use Rattle.fact_types.specs.declared.extents.MemoryWidth.{MemoryWidth}
use Rattle.fact_types.specs.declared.extents.MemoryWidth.TheVariants.{Memory32, Memory64}
use Rattle.fact_types.specs.Agrees.{chosen, names_of}
use Rattle.fact_types.specs.Layout.{extent, extents, fixed_list_layout, greatest_align, payloads, record_layout}
use Rattle.fact_types.specs.Shapes.{Kind, k_record, k_variant, k_list, k_tuple, k_map, k_flags, k_enum, k_option, k_result, k_fixed, k_future, k_stream, Shape, s_node, Members, no_members, bare, typed, ends_of, layout_of, layouts_of}
use Rattle.fact_types.specs.Tables.{Tables, HasShape}
use Rattle.fact_types.proofs.PlaceLaws.{ends_within}
use Rattle.fact_types.proofs.ShapeLaws.{one_shape}
use Rattle.fact_abi.specs.Nodes.{AreOf}
use Rattle.fact_abi.proofs.LoadLaws.{split_typed}
use Rattle.fact_values.specs.declared.side.SideAbi.{SideAbi}
use Rattle.fact_values.specs.declared.value.Value.{Value, out-Value}
use Rattle.fact_values.specs.declared.value.Value.TheOpen.{Value-F}
use Rattle.fact_values.specs.declared.value.Value.TheOpen as o
use Rattle.fact_values.specs.declared.value.Value.TheVariants as value
use Rattle.fact_values.specs.IsA.{IsA, IsRecord, IsTuple, IsListOf, IsFixedList, IsMap, AreMembers, IsElement}
use Rattle.fact_values.specs.Places.{width_of, extent_on, element_extent, typed_names, Pair}
use Rattle.fact_lowering.specs.Lowered.{CanStore, IsPut, IsStored, IsWritten, LacksRoom, ReadsAt, ReadsBehind, ReadsEach, ReadsEntries, ReadsMembers, own_room, own_rooms}
use Rattle.fact_lowering.specs.Lowerings.{own_entries}
use Rattle.fact_lowering.specs.Storings.{AreElements, AreEntries, AreEntryMembers, AreStorable, HasSpace, IsNodeStorable}
use Rattle.fact_lowering.proofs.Agreeing.{written_also, written_taken, written_wider}
use Rattle.fact_lowering.proofs.OwnRooms.{record_room, tuple_room, fixed_room, list_room, map_room}
use Rattle.fact_lowering.proofs.SmallAlignments.{small, all_small}
use Rattle.fact_lowering.proofs.Stored.{reads_record, reads_tuple, reads_fixed, reads_elements, reads_entries}
use Rattle.fact_lowering.proofs.StoreSteps.{chosen_also}

-- ---- what values of a kind hold

-- values of these kinds, opened
pub record_of : (ms : Members) (v : Value) → IsA (s_node k_record ms) v → IsRecord ms (λ vs. AreMembers ms vs) (out-Value v)
unfolding IsA
record_of ms v a = a

pub tuple_of : (ms : Members) (v : Value) → IsA (s_node k_tuple ms) v → IsTuple (λ vs. AreMembers ms vs) (out-Value v)
unfolding IsA
tuple_of ms v a = a

pub fixed_of : (n : ℕ) (ms : Members) (v : Value) → IsA (s_node (k_fixed n) ms) v → IsFixedList n (λ w. IsElement ms w) (out-Value v)
unfolding IsA
fixed_of n ms v a = a

pub list_of : (ms : Members) (v : Value) → IsA (s_node k_list ms) v → IsListOf (λ w. IsElement ms w) (out-Value v)
unfolding IsA
list_of ms v a = a

pub map_of : (ms : Members) (v : Value) → IsA (s_node k_map ms) v → IsMap (λ vs. AreMembers ms vs) (out-Value v)
unfolding IsA
map_of ms v a = a

record_is : (ms : Members) (v : Value) (fs : List (List ℕ × Value)) → v ≡ value.Record fs → IsRecord ms (λ vs. AreMembers ms vs) (out-Value v) → (map (λ f. f.0) fs ≡ typed_names ms) × AreMembers ms (map (λ f. f.1) fs)
record_is ms v fs e h = subst (IsRecord ms (λ vs. AreMembers ms vs)) (ap out-Value e ∙ value.outs-Record fs) h

tuple_is : (ms : Members) (v : Value) (vs : List Value) → v ≡ value.Tuple vs → IsTuple (λ vs. AreMembers ms vs) (out-Value v) → AreMembers ms vs
tuple_is ms v vs e h = subst (IsTuple (λ vs. AreMembers ms vs)) (ap out-Value e ∙ value.outs-Tuple vs) h

fixed_is : (n : ℕ) (x : List ℕ) (s : Shape) (rest : Members) (v : Value) (vs : List Value) → v ≡ value.List vs → IsFixedList n (λ w. IsElement (typed x s rest) w) (out-Value v) → (length vs ≡ n) × AllByRecursion (λ v. IsA s v) vs
unfolding IsA
fixed_is n x s rest v vs e h = subst (IsFixedList n (λ w. IsElement (typed x s rest) w)) (ap out-Value e ∙ value.outs-List vs) h

list_is : (x : List ℕ) (s : Shape) (rest : Members) (v : Value) (vs : List Value) → v ≡ value.List vs → IsListOf (λ w. IsElement (typed x s rest) w) (out-Value v) → AllByRecursion (λ v. IsA s v) vs
unfolding IsA
list_is x s rest v vs e h = subst (IsListOf (λ w. IsElement (typed x s rest) w)) (ap out-Value e ∙ value.outs-List vs) h

map_is : (ms : Members) (v : Value) (es : List (Value × Value)) → v ≡ value.Map es → IsMap (λ vs. AreMembers ms vs) (out-Value v) → AllByRecursion (λ e. AreMembers ms (e.0 ∷ e.1 ∷ [])) es
map_is ms v es e h = subst (IsMap (λ vs. AreMembers ms vs)) (ap out-Value e ∙ value.outs-Map es) h

-- ---- records and tuples

-- what it takes to store members
ends_fit : (side : SideAbi) (ms : Members) → ends_of (width_of side) ms 0 ≤ (extent_on side (s_node k_record ms)).size
ends_fit side ms = ends_within (width_of side) ms

tuple_fit : (side : SideAbi) (ms : Members) → ends_of (width_of side) ms 0 ≤ (extent_on side (s_node k_tuple ms)).size
tuple_fit side ms = ends_within (width_of side) ms

entry_fit : (side : SideAbi) (ms : Members) → ends_of (width_of side) ms 0 ≤ (element_extent side k_map ms).size
entry_fit side ms = ends_within (width_of side) ms

module _ (t : Tables) (side : SideAbi) (types : List (Option InterfaceType)) (v : Value) (a low : ℕ) (m : List ℕ) where
  pub fields_storable : (fs : List (List ℕ × Value)) → v ≡ value.Record fs → IsNodeStorable t side k_record types v a low m → AreStorable t side types (map (λ f. f.1) fs) a low m
  fields_storable fs e n = record {
    members = n.members;
    are = n.are;
    values = (record_is n.members v fs e (record_of n.members v n.is)).1;
    few = omega (arith, ends_fit side n.members, n.few);
    room = record { below = omega (arith, ends_fit side n.members, n.room.below); can = n.room.can };
  }

  pub members_storable : (vs : List Value) → v ≡ value.Tuple vs → IsNodeStorable t side k_tuple types v a low m → AreStorable t side types vs a low m
  members_storable vs e n = record {
    members = n.members;
    are = n.are;
    values = tuple_is n.members v vs e (tuple_of n.members v n.is);
    few = omega (arith, tuple_fit side n.members, n.few);
    room = record { below = omega (arith, tuple_fit side n.members, n.room.below); can = n.room.can };
  }

  -- members that were stored, or lacked room
  abbrev pub MembersOr : Bool → List Value → (high : ℕ) → List ℕ → Members → Type 0
  MembersOr done vs high m' ms = chosen done (IsWritten (ReadsMembers side ms vs a 0) a (ends_of (width_of side) ms 0) low high (own_rooms side ms vs) m m') (LacksRoom low (own_rooms side ms vs) m)

  abbrev NodeOr : Bool → Kind → (high : ℕ) → List ℕ → Members → Type 0
  NodeOr done k high m' ms = chosen done (IsStored side (s_node k ms) v a low high m m') (LacksRoom low (own_room side (s_node k ms) v) m)

  pub record_stored : (fs : List (List ℕ × Value)) (done : Bool) (high : ℕ) (m' : List ℕ) → v ≡ value.Record fs → ((ms : Members) → AreOf t types ms → AreMembers ms (map (λ f. f.1) fs) → MembersOr done (map (λ f. f.1) fs) high m' ms)
      → (ms : Members) → AreOf t types ms → IsRecord ms (λ vs. AreMembers ms vs) (out-Value v) → NodeOr done k_record high m' ms
  record_stored fs done high m' e f ms are is =
      let q = record_is ms v fs e is in
      let room : own_rooms side ms (map (λ f. f.1) fs) ≡ own_room side (s_node k_record ms) v = sym (ap (own_room side (s_node k_record ms)) e ∙ record_room side ms fs) in
      chosen_also done
      (λ w. written_wider a (extent_on side (s_node k_record ms)).size (own_room side (s_node k_record ms) v) (omega arith) (omega (arith, ends_fit side ms)) (omega (arith, room))
      (written_also w (λ b l r. subst (λ v. ReadsAt side (s_node k_record ms) v a b) (sym e) (reads_record side b ms a fs q.0 r))))
      (λ l. omega (arith, room, l)) (f ms are q.1)

  pub tuple_stored : (vs : List Value) (done : Bool) (high : ℕ) (m' : List ℕ) → v ≡ value.Tuple vs → ((ms : Members) → AreOf t types ms → AreMembers ms vs → MembersOr done vs high m' ms)
      → (ms : Members) → AreOf t types ms → IsTuple (λ vs. AreMembers ms vs) (out-Value v) → NodeOr done k_tuple high m' ms
  tuple_stored vs done high m' e f ms are is =
      let q = tuple_is ms v vs e is in
      let room : own_rooms side ms vs ≡ own_room side (s_node k_tuple ms) v = sym (ap (own_room side (s_node k_tuple ms)) e ∙ tuple_room side ms vs) in
      chosen_also done
      (λ w. written_wider a (extent_on side (s_node k_tuple ms)).size (own_room side (s_node k_tuple ms) v) (omega arith) (omega (arith, tuple_fit side ms)) (omega (arith, room))
      (written_also w (λ b l r. subst (λ v. ReadsAt side (s_node k_tuple ms) v a b) (sym e) (reads_tuple side b ms a vs r))))
      (λ l. omega (arith, room, l)) (f ms are q)

-- ---- lists of a fixed length

fixed_size : (w : MemoryWidth) (n : ℕ) (x : List ℕ) (s : Shape) (rest : Members) → (extent w (layout_of (s_node (k_fixed n) (typed x s rest)))).size ≡ (extent w (layout_of s)).size * n
fixed_size Memory32 n x s rest = refl
fixed_size Memory64 n x s rest = refl

module _ (t : Tables) (side : SideAbi) (y : InterfaceType) (n : ℕ) (v : Value) (vs : List Value) (e : v ≡ value.List vs) (a low : ℕ) (m : List ℕ) where
  pub fixed_storable : (stride : ℕ) → ((s : Shape) → HasShape t y s → stride ≡ (extent_on side s).size) → IsNodeStorable t side (k_fixed n) (Some y ∷ []) v a low m → AreElements t side y vs stride a low m
  fixed_storable stride sized h =
      let p = split_typed t y [] h.members h.are in
      let is = fixed_is n p.name p.shape p.rest v vs e (fixed_of n (typed p.name p.shape p.rest) v (subst (λ ms. IsA (s_node (k_fixed n) ms) v) p.is h.is)) in
      let size = fixed_size (width_of side) n p.name p.shape p.rest in
      let below : a + (extent_on side (s_node (k_fixed n) (typed p.name p.shape p.rest))).size ≤ low = subst (λ ms. a + (extent_on side (s_node (k_fixed n) ms)).size ≤ low) p.is h.room.below in
      let same : length vs * stride ≡ (extent_on side p.shape).size * n = ap (λ z. length vs * z) (sized p.shape p.shaped) ∙ ap (λ k. k * (extent_on side p.shape).size) is.0 ∙ mul_comm n (extent_on side p.shape).size in
      record {
        shape = p.shape;
        shaped = p.shaped;
        are = is.1;
        stride_is = sized p.shape p.shaped;
        room = record { below = omega (arith, same, size, below); can = h.room.can };
      }

  pub fixed_stored : (stride : ℕ) (done : Bool) (high : ℕ) (m' : List ℕ) → ((s : Shape) → HasShape t y s → stride ≡ (extent_on side s).size)
      → ((s : Shape) → HasShape t y s → chosen done (IsWritten (ReadsEach side s stride vs a) a (length vs * stride) low high (sum_by (own_room side s) vs) m m') (LacksRoom low (sum_by (own_room side s) vs) m))
      → (ms : Members) → AreOf t (Some y ∷ []) ms → IsFixedList n (λ w. IsElement ms w) (out-Value v) → chosen done (IsStored side (s_node (k_fixed n) ms) v a low high m m') (LacksRoom low (own_room side (s_node (k_fixed n) ms) v) m)
  fixed_stored stride done high m' sized f ms are is =
      let p = split_typed t y [] ms are in
      let ns : Members = typed p.name p.shape p.rest in
      let q = fixed_is n p.name p.shape p.rest v vs e (subst (λ ms. IsFixedList n (λ w. IsElement ms w) (out-Value v)) p.is is) in
      let room : sum_by (own_room side p.shape) vs ≡ own_room side (s_node (k_fixed n) ns) v = sym (ap (own_room side (s_node (k_fixed n) ns)) e ∙ fixed_room side n p.name p.shape p.rest vs) in
      let same : length vs * stride ≡ (extent_on side p.shape).size * n = ap (λ z. length vs * z) (sized p.shape p.shaped) ∙ ap (λ k. k * (extent_on side p.shape).size) q.0 ∙ mul_comm n (extent_on side p.shape).size in
      subst (λ ms. chosen done (IsStored side (s_node (k_fixed n) ms) v a low high m m') (LacksRoom low (own_room side (s_node (k_fixed n) ms) v) m)) (sym p.is)
      (chosen_also done
      (λ w. written_wider a (extent_on side (s_node (k_fixed n) ns)).size (own_room side (s_node (k_fixed n) ns) v) (omega arith) (omega (arith, same, fixed_size (width_of side) n p.name p.shape p.rest)) (omega (arith, room))
      (written_also w (λ b l r. subst (λ v. ReadsAt side (s_node (k_fixed n) ns) v a b) (sym e) (reads_fixed side b n p.name p.shape p.rest a vs q.0 (subst (λ z. ReadsEach side p.shape z vs a b) (sized p.shape p.shaped) r)))))
      (λ l. omega (arith, room, l)) (f p.shape p.shaped))

-- ---- lists behind pointers

-- what was put behind a pointer that was taken at the cursor
module _ (side : SideAbi) (s : Shape) (v : Value) (low pointer mid high size align more : ℕ) (m m' : List ℕ) (ge : low ≤ pointer) (near : pointer < low + align) (few : align ≤ 8) (is : mid ≡ pointer + size) (can : CanStore low m) (count : ℕ) (small : count < 2 ^ 32)
    (R : List ℕ → Type 0) (w : IsWritten R pointer size mid high more m m') (spent : (8 + size) + more ≡ own_room side s v) (reads : (b : List ℕ) → length m ≡ length b → R b → ReadsBehind side s v (record { pointer = pointer; count = count }) b) where
  pub behind_put : IsPut side s v (record { pointer = pointer; count = count }) low high m m'
  behind_put = record {
    written = written_taken low (own_room side s v) ge is (omega (arith, near, few, is, spent)) (written_also w reads);
    pointer_small = omega (arith, is, w.rises.up, w.rises.inside, w.changed.same_length, can.short);
    count_small = small;
  }

element_size : (side : SideAbi) (x : List ℕ) (s : Shape) (rest : Members) → element_extent side k_list (typed x s rest) ≡ extent_on side s
element_size side x s rest = refl

module _ (t : Tables) (side : SideAbi) (y : InterfaceType) (v : Value) (vs : List Value) (e : v ≡ value.List vs) (low : ℕ) (m : List ℕ) (size align : ℕ) (sized : (s : Shape) → HasShape t y s → size ≡ (extent_on side s).size) (aligned : (s : Shape) → HasShape t y s → align ≡ (extent_on side s).align) (can : CanStore low m) where
  pub elements_storable : (pointer mid : ℕ) → pointer + length vs * size ≤ length m → mid ≡ pointer + length vs * size → ((ms : Members) × AreOf t (Some y ∷ []) ms × IsA (s_node k_list ms) v) → AreElements t side y vs size pointer mid m
  elements_storable pointer mid fits is (ms, are, a) =
      let p = split_typed t y [] ms are in
      record {
        shape = p.shape;
        shaped = p.shaped;
        are = list_is p.name p.shape p.rest v vs e (list_of (typed p.name p.shape p.rest) v (subst (λ ms. IsA (s_node k_list ms) v) p.is a));
        stride_is = sized p.shape p.shaped;
        room = record { below = omega (arith, is); can = record { inside = omega (arith, is, fits); short = can.short } };
      }

  list_spent : (x : List ℕ) (s : Shape) (rest : Members) → HasShape t y s → own_room side (s_node k_list (typed x s rest)) v ≡ (8 + length vs * size) + sum_by (own_room side s) vs
  list_spent x s rest h = ap (own_room side (s_node k_list (typed x s rest))) e ∙ list_room side x s rest vs ∙ ap (λ z. (8 + length vs * z) + sum_by (own_room side s) vs) (sym (sized s h))

  -- no place for the elements, or none for what stands behind them
  pub list_lacks : LacksRoom low (align + length vs * size) m → (ms : Members) → AreOf t (Some y ∷ []) ms → LacksRoom low (own_room side (s_node k_list ms) v) m
  list_lacks l ms are =
      let p = split_typed t y [] ms are in
      subst (λ ms. LacksRoom low (own_room side (s_node k_list ms) v) m) (sym p.is)
      (omega (arith, l, list_spent p.name p.shape p.rest p.shaped, aligned p.shape p.shaped, small (width_of side) p.shape))

  pub elements_lack : (pointer mid : ℕ) → pointer < low + align → mid ≡ pointer + length vs * size → ((s : Shape) → HasShape t y s → LacksRoom mid (sum_by (own_room side s) vs) m) → (ms : Members) → AreOf t (Some y ∷ []) ms → LacksRoom low (own_room side (s_node k_list ms) v) m
  elements_lack pointer mid near is f ms are =
      let p = split_typed t y [] ms are in
      subst (λ ms. LacksRoom low (own_room side (s_node k_list ms) v) m) (sym p.is)
      (omega (arith, f p.shape p.shaped, near, is, list_spent p.name p.shape p.rest p.shaped, aligned p.shape p.shaped, small (width_of side) p.shape))

  pub list_put : (pointer mid high count : ℕ) (m' : List ℕ) → low ≤ pointer → pointer < low + align → pointer % align ≡ 0 → pointer + length vs * size ≤ length m → mid ≡ pointer + length vs * size → count ≡ length vs → count < 2 ^ 32
      → ((s : Shape) → HasShape t y s → IsWritten (ReadsEach side s size vs pointer) pointer (length vs * size) mid high (sum_by (own_room side s) vs) m m')
      → (ms : Members) → AreOf t (Some y ∷ []) ms → IsPut side (s_node k_list ms) v (record { pointer = pointer; count = count }) low high m m'
  list_put pointer mid high count m' ge near al fits is counted few w ms are =
      let p = split_typed t y [] ms are in
      let ns : Members = typed p.name p.shape p.rest in
      let al' : pointer % (extent_on side p.shape).align ≡ 0 = ap (λ z. pointer % z) (sym (aligned p.shape p.shaped)) ∙ al in
      let fits' : pointer + length vs * (extent_on side p.shape).size ≤ length m = subst (λ z. pointer + length vs * z ≤ length m) (sized p.shape p.shaped) fits in
      subst (λ ms. IsPut side (s_node k_list ms) v (record { pointer = pointer; count = count }) low high m m') (sym p.is)
      (behind_put side (s_node k_list ns) v low pointer mid high (length vs * size) align (sum_by (own_room side p.shape) vs) m m' ge near (omega (arith, aligned p.shape p.shaped, small (width_of side) p.shape)) is can count few
      (ReadsEach side p.shape size vs pointer) (w p.shape p.shaped) (sym (list_spent p.name p.shape p.rest p.shaped))
      (λ b l r. subst (λ (k : ℕ). ReadsBehind side (s_node k_list ns) v (record { pointer = pointer; count = k }) b) (sym counted) (subst (λ v. ReadsBehind side (s_node k_list ns) v (record { pointer = pointer; count = length vs }) b) (sym e)
      (reads_elements side b p.name p.shape p.rest pointer vs al' (omega (arith, fits', l)) (subst (λ z. ReadsEach side p.shape z vs pointer b) (sized p.shape p.shaped) r)))))

-- ---- maps behind pointers

entry_small : (side : SideAbi) (ms : Members) → (element_extent side k_map ms).align ≤ 8
entry_small side ms = go (width_of side)
  where
    go : (w : MemoryWidth) → (extent w (record_layout (payloads (layouts_of ms)))).align ≤ 8
    go Memory32 = all_small Memory32 ms
    go Memory64 = all_small Memory64 ms

module _ (side : SideAbi) (ms : Members) (v : Value) (es : List (Value × Value)) (e : v ≡ value.Map es) (low : ℕ) (m : List ℕ) (size align : ℕ) (sized : size ≡ (element_extent side k_map ms).size) (aligned : align ≡ (element_extent side k_map ms).align) (can : CanStore low m) where
  pub entries_storable : (t : Tables) (key item : InterfaceType) (pointer mid : ℕ) → AreEntryMembers t key item ms → IsA (s_node k_map ms) v → pointer + length es * size ≤ length m → mid ≡ pointer + length es * size → AreEntries t side key item es size pointer mid m
  entries_storable t key item pointer mid are a fits is = record {
    members = ms;
    has = are;
    are = map_is ms v es e (map_of ms v a);
    few = omega (arith, entry_fit side ms, sized);
    room = record { below = omega (arith, is); can = record { inside = omega (arith, is, fits); short = can.short } };
  }

  map_spent : own_room side (s_node k_map ms) v ≡ (8 + length es * size) + own_entries side ms es
  map_spent = ap (own_room side (s_node k_map ms)) e ∙ map_room side ms es ∙ ap (λ z. (8 + length es * z) + own_entries side ms es) (sym sized)

  pub map_lacks : LacksRoom low (align + length es * size) m → LacksRoom low (own_room side (s_node k_map ms) v) m
  map_lacks l = omega (arith, l, map_spent, aligned, entry_small side ms)

  pub entries_lack : (pointer mid : ℕ) → pointer < low + align → mid ≡ pointer + length es * size → LacksRoom mid (own_entries side ms es) m → LacksRoom low (own_room side (s_node k_map ms) v) m
  entries_lack pointer mid near is l = omega (arith, l, near, is, map_spent, aligned, entry_small side ms)

  pub map_put : (pointer mid high count : ℕ) (m' : List ℕ) → low ≤ pointer → pointer < low + align → pointer % align ≡ 0 → pointer + length es * size ≤ length m → mid ≡ pointer + length es * size → count ≡ length es → count < 2 ^ 32
      → IsWritten (ReadsEntries side ms size es pointer) pointer (length es * size) mid high (own_entries side ms es) m m' → IsPut side (s_node k_map ms) v (record { pointer = pointer; count = count }) low high m m'
  map_put pointer mid high count m' ge near al fits is counted few w =
      let al' : pointer % (element_extent side k_map ms).align ≡ 0 = ap (λ z. pointer % z) (sym aligned) ∙ al in
      let fits' : pointer + length es * (element_extent side k_map ms).size ≤ length m = subst (λ z. pointer + length es * z ≤ length m) sized fits in
      behind_put side (s_node k_map ms) v low pointer mid high (length es * size) align (own_entries side ms es) m m' ge near (omega (arith, aligned, entry_small side ms)) is can count few
      (ReadsEntries side ms size es pointer) w (sym map_spent)
      (λ b l r. subst (λ (k : ℕ). ReadsBehind side (s_node k_map ms) v (record { pointer = pointer; count = k }) b) (sym counted) (subst (λ v. ReadsBehind side (s_node k_map ms) v (record { pointer = pointer; count = length es }) b) (sym e)
      (reads_entries side b ms pointer es al' (omega (arith, fits', l)) (subst (λ z. ReadsEntries side ms z es pointer b) sized r))))
