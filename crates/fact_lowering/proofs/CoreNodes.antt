-- How values of each kind of type with members are lowered, by what their members give.
use Rattle.std.proofs.Common.{◌≡◌, ℕ, suc, ◌+◌, ◌-◌, ◌<◌, ◌≤◌, List, [], ◌∷◌, length, length-drop, map, take, drop, get_or, Option, Some, None, refl, sym, ap, ◌∙◌, subst, arith, add-one}
use Rattle.std.specs.Prelude.{slice_get, sum_by, nat_le, if◌then◌else◌, Bool, true, false}
use Rattle.std.specs.List.{AllByRecursion}
use Rattle.std.proofs.lemmas.Bool.Decides.{nat_tests}
use Rattle.fact_machine.specs.declared.types.CoreValue.{CoreValue}
use Rattle.fact_types.specs.declared.flats.FlatType.{FlatType}
use Rattle.fact_types.specs.declared.interface.InterfaceType.{InterfaceType}
use Rattle.fact_types.specs.Agrees.{chosen}
use Rattle.fact_types.specs.declared.extents.MemoryWidth.{MemoryWidth}
use Rattle.fact_types.specs.FlatShapes.{flat, flat_types, times}
use Rattle.fact_types.specs.Shapes.{k_record, k_tuple, k_fixed, Shape, s_node, Members, no_members, bare, typed}
use Rattle.fact_types.specs.Tables.{Tables, HasShape}
use Rattle.fact_types.proofs.ShapeLaws.{one_shape, same_some, none_some}
use Rattle.fact_values.specs.declared.side.SideAbi.{SideAbi}
use Rattle.fact_values.specs.declared.value.Value.{Value, out-Value}
use Rattle.fact_values.specs.declared.value.Value.TheOpen.{Value-F}
use Rattle.fact_values.specs.declared.value.Value.TheOpen as o
use Rattle.fact_values.specs.declared.value.Value.TheVariants as value
use Rattle.fact_values.specs.Handles.{members_of}
use Rattle.fact_values.specs.IsA.{IsA, IsCase, IsFixedList, IsRecord, IsTuple, AreMembers, IsElement}
use Rattle.fact_values.specs.Opened.{case_in, elements_in, fields_in, members_in}
use Rattle.fact_values.specs.Places.{width_of}
use Rattle.fact_abi.specs.declared.nodes.Node.{Node}
use Rattle.fact_abi.specs.declared.nodes.NodeKind.{NodeKind}
use Rattle.fact_abi.specs.declared.nodes.NodeKind.TheVariants as is
use Rattle.fact_abi.specs.Nodes.{AreOf, AreTold, HasNode, kind_of}
use Rattle.fact_abi.proofs.BelongLaws.{slice_front, slice_past}
use Rattle.fact_abi.proofs.LeadingLaws.{append_nil, from_place}
use Rattle.fact_abi.proofs.LoadLaws.{of_kind, front, split_typed}
use Rattle.fact_lowering.specs.declared.store.Store.{Store}
use Rattle.fact_lowering.specs.CoreSteps.{IsLowerable, IsMemberLowerable, LoweredOr, MemberLowered, MemberLoweredOr}
use Rattle.fact_lowering.specs.Lowered.{AreWideFor, BeginWideFor, CanStore, IsLowered, IsLoweredTo, LacksRoom, ReadsAs, own_room, own_rooms}
use Rattle.fact_lowering.proofs.CoreMembers.{LowersMembers, LowersElements, MemberHere, members_start, members_can, members_done, member_here, member_on, member_past, member_lacks, elements_start, elements_can, element_here, element_on, elements_done, element_lacks}
use Rattle.fact_lowering.proofs.CoreReads.{record_reads, tuple_reads, fixed_reads}
use Rattle.fact_lowering.proofs.CoreWrites.{also_lowered}
use Rattle.fact_lowering.proofs.OwnRooms.{record_room, tuple_room, fixed_room}
use Rattle.fact_lowering.proofs.WideLaws.{wide_taken}

-- ---- the members of the type of a node

-- What is known of the members of a type of a kind, for a value that can be lowered.
pub record Opened (t : Tables) (side : SideAbi) (k : NodeKind) (names : List (List ℕ)) (types : List (Option InterfaceType)) (v : Value) (slots : List FlatType) (ms : Members) : Type 0 where
  pub told : AreTold k t names types ms
  pub is : IsA (s_node (kind_of k) ms) v
  pub wide : AreWideFor (flat (width_of side) (s_node (kind_of k) ms)) slots

module _ {t : Tables} {ty : InterfaceType} {x : Node} (k : NodeKind) (node : HasNode t ty x) (kind : x.kind ≡ k) where
  pub told_of : (ms : Members) → HasShape t ty (s_node (kind_of k) ms) → AreTold k t x.names x.types ms
  told_of ms h = let q = of_kind t ty x k (s_node (kind_of k) ms) node kind h in subst (AreTold k t x.names x.types) (sym (ap members_of q.is)) q.told

  -- what holds of the shapes of such members holds of each shape of the type
  pub by_members : (P : Shape → Type 0) → ((ms : Members) → HasShape t ty (s_node (kind_of k) ms) → P (s_node (kind_of k) ms)) → (s : Shape) → HasShape t ty s → P s
  by_members P f s h = let q = of_kind t ty x k s node kind h in subst P (sym q.is) (f q.members (subst (HasShape t ty) q.is h))

  pub opened : (side : SideAbi) (v : Value) (slots : List FlatType) (cursor : ℕ) (bytes : List ℕ) → IsLowerable t side ty v slots cursor bytes → (ms : Members) → HasShape t ty (s_node (kind_of k) ms) → Opened t side k x.names x.types v slots ms
  opened side v slots cursor bytes l ms h =
      let one : l.shape ≡ s_node (kind_of k) ms = one_shape t l.shape (s_node (kind_of k) ms) ty l.shaped h in
      record { told = told_of ms h; is = subst (λ s. IsA s v) one l.is; wide = subst (λ s. AreWideFor (flat (width_of side) s) slots) one l.wide }

  -- there are such members
  pub some_members : (s : Shape) → HasShape t ty s → (ms : Members) × HasShape t ty (s_node (kind_of k) ms)
  some_members s h = let q = of_kind t ty x k s node kind h in (q.members, subst (HasShape t ty) q.is h)

-- ---- members

module _ {t : Tables} {side : SideAbi} {ms : Members} {types : List (Option InterfaceType)} {values : List Value} {slots : List FlatType} {low : ℕ} {before : List ℕ} {out : List CoreValue} {i taken at cursor : ℕ} {bytes : List ℕ} {now : List CoreValue}
    (g : LowersMembers t side ms types values slots low before out i taken at cursor bytes now) (y : InterfaceType) (lt : i < length types) (typed_at : get_or types i None ≡ Some y) where
  here : MemberHere t side types values slots i taken at y g.rest
  here = member_here g y (front types i (Some y) lt typed_at ∙ ap (λ k. Some y ∷ drop k types) (add-one i))

  -- it has a value
  pub member_missing : {X : Type 0} → slice_get values taken ≡ None → X
  member_missing none = absurd (omega (arith, ap length (sym (slice_past values taken none) ∙ here.there)))

  value_is : (v : Value) → slice_get values taken ≡ Some v → here.value ≡ v
  value_is v there = same_some (slice_get (drop taken values) 0) here.value v (ap (λ l. slice_get l 0) here.there) (ap (λ l. slice_get l 0) (slice_front values taken v there))

  pub member_lowerable : (v : Value) → slice_get values taken ≡ Some v → CanStore low before → length slots ≤ 16 → IsMemberLowerable t side y v (take (length slots - at) (drop at slots)) cursor bytes
  member_lowerable v there can few = record {
    shape = here.shape;
    shaped = here.shaped;
    is = subst (IsA here.shape) (value_is v there) here.is_a;
    wide = subst (BeginWideFor (flat (width_of side) here.shape)) (sym (from_place at slots)) here.wide;
    few = omega (arith, few, ap length (from_place at slots), length-drop at slots);
    can = members_can g can;
  }

  pub member_lowered : (v : Value) (count : Option ℕ) (n at' taken' cursor' : ℕ) (bytes' : List ℕ) (now' : List CoreValue) → slice_get values taken ≡ Some v → count ≡ Some n → at' ≡ at + n → taken' ≡ taken + 1
      → MemberLoweredOr t side y v (take (length slots - at) (drop at slots)) count cursor cursor' bytes bytes' now now' → LowersMembers t side ms types values slots low before out (i + 1) taken' at' cursor' bytes' now'
  member_lowered v count n at' taken' cursor' bytes' now' there is moved more l =
      let p = subst (λ o. MemberLowered side here.shape v (take (length slots - at) (drop at slots)) o cursor cursor' bytes bytes' now now') is (l here.shape here.shaped) in
      let q = subst (λ fs. IsLowered side here.shape v (take n fs) cursor cursor' bytes bytes' now now') (from_place at slots) p.1 in
      let r = subst (λ w. IsLowered side here.shape w (take n (drop at slots)) cursor cursor' bytes bytes' now now') (sym (value_is v there)) q in
      subst (λ k. LowersMembers t side ms types values slots low before out k taken' at' cursor' bytes' now') (sym (add-one i))
      (subst (λ k. LowersMembers t side ms types values slots low before out (suc i) k at' cursor' bytes' now') (sym (more ∙ add-one taken)) (member_on g y here n at' cursor' bytes' now' p.0 moved r))

  pub member_count : (v : Value) (count : Option ℕ) (n cursor' : ℕ) (bytes' : List ℕ) (now' : List CoreValue) → count ≡ Some n → MemberLoweredOr t side y v (take (length slots - at) (drop at slots)) count cursor cursor' bytes bytes' now now' → at + n ≤ length slots
  member_count v count n cursor' bytes' now' is l =
      let p = subst (λ o. MemberLowered side here.shape v (take (length slots - at) (drop at slots)) o cursor cursor' bytes bytes' now now') is (l here.shape here.shaped) in
      omega (arith, p.0, here.wide.0, length-drop at slots, g.few)

  pub member_fails : (v : Value) (count : Option ℕ) (cursor' : ℕ) (bytes' : List ℕ) (now' : List CoreValue) → slice_get values taken ≡ Some v → count ≡ None → MemberLoweredOr t side y v (take (length slots - at) (drop at slots)) count cursor cursor' bytes bytes' now now'
      → LacksRoom low (own_rooms side ms values) before
  member_fails v count cursor' bytes' now' there is l =
      member_lacks g y here (subst (λ w. LacksRoom cursor (own_room side here.shape w) bytes) (sym (value_is v there)) (subst (λ o. MemberLowered side here.shape v (take (length slots - at) (drop at slots)) o cursor cursor' bytes bytes' now now') is (l here.shape here.shaped)))

-- a member without a type
pub member_passed : {t : Tables} {side : SideAbi} {ms : Members} {types : List (Option InterfaceType)} {values : List Value} {slots : List FlatType} {low : ℕ} {before : List ℕ} {out : List CoreValue} {i taken at cursor : ℕ} {bytes : List ℕ} {now : List CoreValue}
    → i < length types → get_or types i None ≡ None → LowersMembers t side ms types values slots low before out i taken at cursor bytes now → LowersMembers t side ms types values slots low before out (i + 1) taken at cursor bytes now
member_passed {t} {side} {ms} {types} {values} {slots} {low} {before} {out} {i} {taken} {at} {cursor} {bytes} {now} lt none g =
    subst (λ k. LowersMembers t side ms types values slots low before out k taken at cursor bytes now) (sym (add-one i)) (member_past g (front types i None lt none ∙ ap (λ k. None ∷ drop k types) (add-one i)))

-- ---- the first of some slots

pub few_flats : (w : MemoryWidth) (s : Shape) → length (flat w s) ≤ 16 → flat_types w s ≡ Some (flat w s)
few_flats w s le = let e : nat_le (length (flat w s)) 16 ≡ true = grind (arith, le, nat_tests) in ap (λ (b : Bool). if b then Some (flat w s) else None) e

module _ {t : Tables} {side : SideAbi} {ty : InterfaceType} {v : Value} {slots : List FlatType} {cursor : ℕ} {bytes : List ℕ} (l : IsMemberLowerable t side ty v slots cursor bytes) (o : Option (List FlatType)) (told : (s : Shape) → HasShape t ty s → o ≡ flat_types (width_of side) s) where
  flats_there : o ≡ Some (flat (width_of side) l.shape)
  flats_there = told l.shape l.shaped ∙ few_flats (width_of side) l.shape (omega (arith, l.wide.0, l.few))

  pub no_flats : {X : Type 0} → o ≡ None → X
  no_flats none = absurd (none_some o (flat (width_of side) l.shape) none flats_there)

  -- as many as the type has
  pub flats_count : (fs : List FlatType) (count : ℕ) → o ≡ Some fs → count ≡ length fs → count ≡ length (flat (width_of side) l.shape)
  flats_count fs count is counted = counted ∙ ap length (same_some o fs (flat (width_of side) l.shape) is flats_there)

  pub flats_within : (fs : List FlatType) (count : ℕ) → o ≡ Some fs → count ≡ length fs → count ≤ length slots
  flats_within fs count is counted = omega (arith, flats_count fs count is counted, l.wide.0)

  pub first_lowerable : (fs : List FlatType) (count : ℕ) → o ≡ Some fs → count ≡ length fs → IsLowerable t side ty v (take count slots) cursor bytes
  first_lowerable fs count is counted =
      let wide : AreWideFor (flat (width_of side) l.shape) (take count slots) = subst (λ k. AreWideFor (flat (width_of side) l.shape) (take k slots)) (sym (flats_count fs count is counted)) (wide_taken (flat (width_of side) l.shape) slots l.wide) in
      record { shape = l.shape; shaped = l.shaped; is = l.is; wide = wide; few = omega (arith, wide.0, l.wide.0, l.few); can = l.can }

  pub first_lowered : (fs : List FlatType) (count : ℕ) (done : Bool) (cursor' : ℕ) (bytes' : List ℕ) (out out' : List CoreValue) → o ≡ Some fs → count ≡ length fs → done ≡ true → LoweredOr t side ty v (take count slots) done cursor cursor' bytes bytes' out out' → MemberLoweredOr t side ty v slots (Some count) cursor cursor' bytes bytes' out out'
  first_lowered fs count done cursor' bytes' out out' is counted told_yes lowered = λ s h. (
    flats_count fs count is counted ∙ ap (λ s. length (flat (width_of side) s)) (one_shape t l.shape s ty l.shaped h),
    subst (λ b. chosen b (IsLowered side s v (take count slots) cursor cursor' bytes bytes' out out') (LacksRoom cursor (own_room side s v) bytes)) told_yes (lowered s h),
  )

pub first_lacks : (t : Tables) (side : SideAbi) (ty : InterfaceType) (v : Value) (slots taken : List FlatType) (cursor cursor' : ℕ) (bytes bytes' : List ℕ) (out out' : List CoreValue) (done : Bool) → done ≡ false → LoweredOr t side ty v taken done cursor cursor' bytes bytes' out out'
    → MemberLoweredOr t side ty v slots None cursor cursor' bytes bytes' out out'
first_lacks t side ty v slots taken cursor cursor' bytes bytes' out out' done told_no lowered = λ s h. subst (λ b. chosen b (IsLowered side s v taken cursor cursor' bytes bytes' out out') (LacksRoom cursor (own_room side s v) bytes)) told_no (lowered s h)

-- ---- records and tuples

module _ (t : Tables) (side : SideAbi) (ms : Members) (fs : List (List ℕ × Value)) (slots : List FlatType) (low high : ℕ) (before after : List ℕ) (out out' : List CoreValue) where
  -- fields of a record that can be lowered
  pub fields_start : {names : List (List ℕ)} {types : List (Option InterfaceType)} → Opened t side is.Record names types (value.Record fs) slots ms → low ≤ length before → LowersMembers t side ms types (map (λ f. f.1) fs) slots low before out 0 0 0 low before out
  unfolding IsA
  fields_start {names} {types} p inside = members_start t side ms types (map (λ f. f.1) fs) slots low before out p.told.1 (subst (IsRecord ms (λ vs. AreMembers ms vs)) (value.outs-Record fs) p.is).1 p.wide inside

  pub fields_lowered : {names : List (List ℕ)} {types : List (Option InterfaceType)} {i taken at : ℕ} → Opened t side is.Record names types (value.Record fs) slots ms → length types ≤ i
      → LowersMembers t side ms types (map (λ f. f.1) fs) slots low before out i taken at high after out' → IsLowered side (s_node k_record ms) (value.Record fs) slots low high before after out out'
  unfolding IsA
  fields_lowered {names} {types} {i} {taken} {at} p ge g =
      subst (λ n. IsLoweredTo (ReadsAs side (s_node k_record ms) (value.Record fs)) slots low high n before after out out') (sym (record_room side ms fs))
      (also_lowered (λ cs other r. record_reads side ms other cs fs (subst (IsRecord ms (λ vs. AreMembers ms vs)) (value.outs-Record fs) p.is).0 r) (members_done g ge))

  pub fields_lack : LacksRoom low (own_rooms side ms (map (λ f. f.1) fs)) before → LacksRoom low (own_room side (s_node k_record ms) (value.Record fs)) before
  fields_lack l = subst (λ n. LacksRoom low n before) (sym (record_room side ms fs)) l

module _ (t : Tables) (side : SideAbi) (ms : Members) (vs : List Value) (slots : List FlatType) (low high : ℕ) (before after : List ℕ) (out out' : List CoreValue) where
  pub members_of_tuple_start : {names : List (List ℕ)} {types : List (Option InterfaceType)} → Opened t side is.Tuple names types (value.Tuple vs) slots ms → low ≤ length before → LowersMembers t side ms types vs slots low before out 0 0 0 low before out
  unfolding IsA
  members_of_tuple_start {names} {types} p inside = members_start t side ms types vs slots low before out p.told (subst (IsTuple (λ vs. AreMembers ms vs)) (value.outs-Tuple vs) p.is) p.wide inside

  pub tuple_lowered : {types : List (Option InterfaceType)} {i taken at : ℕ} → length types ≤ i → LowersMembers t side ms types vs slots low before out i taken at high after out' → IsLowered side (s_node k_tuple ms) (value.Tuple vs) slots low high before after out out'
  tuple_lowered {types} {i} {taken} {at} ge g =
      subst (λ n. IsLoweredTo (ReadsAs side (s_node k_tuple ms) (value.Tuple vs)) slots low high n before after out out') (sym (tuple_room side ms vs)) (also_lowered (λ cs other r. tuple_reads side ms other cs vs r) (members_done g ge))

  pub tuple_lacks : LacksRoom low (own_rooms side ms vs) before → LacksRoom low (own_room side (s_node k_tuple ms) (value.Tuple vs)) before
  tuple_lacks l = subst (λ n. LacksRoom low n before) (sym (tuple_room side ms vs)) l

-- ---- lists of fixed length

-- The element of a list of fixed length.
pub record FixedOpened (t : Tables) (side : SideAbi) (count : ℕ) (e : InterfaceType) (vs : List Value) (slots : List FlatType) (ms : Members) : Type 0 where
  pub name : List ℕ
  pub shape : Shape
  pub shaped : HasShape t e shape
  pub is : ms ≡ typed name shape no_members
  pub long : length vs ≡ count
  pub are : AllByRecursion (λ v. IsA shape v) vs
  pub wide : AreWideFor (times (length vs) (flat (width_of side) shape)) slots

pub fixed_opened : {t : Tables} {side : SideAbi} {count : ℕ} {e : InterfaceType} {vs : List Value} {slots : List FlatType} {ms : Members} {names : List (List ℕ)} {types : List (Option InterfaceType)} → Opened t side (is.FixedList count e) names types (value.List vs) slots ms → FixedOpened t side count e vs slots ms
unfolding IsA
fixed_opened {t} {side} {count} {e} {vs} {slots} {ms} {names} {types} p =
    let q = split_typed t e [] ms (subst (λ xs. AreOf t xs ms) p.told.0 p.told.1) in
    go q.name q.shape q.rest q.is q.shaped q.has
  where
    go : (n : List ℕ) (s : Shape) (r : Members) → ms ≡ typed n s r → HasShape t e s → AreOf t [] r → FixedOpened t side count e vs slots ms
    go n s (bare m r) is shaped has = absurd has
    go n s (typed m z r) is shaped has = absurd has
    go n s no_members is shaped has =
        let all = subst (IsFixedList count (λ w. IsElement (typed n s no_members) w)) (value.outs-List vs) (subst (λ ms. IsA (s_node (k_fixed count) ms) (value.List vs)) is p.is) in
        let wide = subst (λ ms. AreWideFor (flat (width_of side) (s_node (k_fixed count) ms)) slots) is p.wide in
        record {
          name = n;
          shape = s;
          shaped = shaped;
          is = is;
          long = all.0;
          are = all.1;
          wide = subst (λ k. AreWideFor (times k (flat (width_of side) s)) slots) (sym all.0) (subst (λ fs. AreWideFor (times count fs) slots) (append_nil (flat (width_of side) s)) wide);
        }

module _ {side : SideAbi} {s : Shape} {values : List Value} {slots : List FlatType} {low : ℕ} {before : List ℕ} {out : List CoreValue} {i at cursor : ℕ} {bytes : List ℕ} {now : List CoreValue}
    (g : LowersElements side s values slots low before out i at cursor bytes now) (t : Tables) (y : InterfaceType) (shaped : HasShape t y s) (v : Value) (there : slice_get values i ≡ Some v) where
  pub element_lowerable : CanStore low before → length slots ≤ 16 → IsMemberLowerable t side y v (take (length slots - at) (drop at slots)) cursor bytes
  element_lowerable can few =
      let h = element_here g v there in
      record {
        shape = s;
        shaped = shaped;
        is = h.is_a;
        wide = subst (BeginWideFor (flat (width_of side) s)) (sym (from_place at slots)) h.wide;
        few = omega (arith, few, ap length (from_place at slots), length-drop at slots);
        can = elements_can g can;
      }

  pub element_lowered : (count : Option ℕ) (n at' cursor' : ℕ) (bytes' : List ℕ) (now' : List CoreValue) → count ≡ Some n → at' ≡ at + n → MemberLoweredOr t side y v (take (length slots - at) (drop at slots)) count cursor cursor' bytes bytes' now now'
      → LowersElements side s values slots low before out (i + 1) at' cursor' bytes' now'
  element_lowered count n at' cursor' bytes' now' is moved l =
      let p = subst (λ o. MemberLowered side s v (take (length slots - at) (drop at slots)) o cursor cursor' bytes bytes' now now') is (l s shaped) in
      let q = subst (λ fs. IsLowered side s v (take n fs) cursor cursor' bytes bytes' now now') (from_place at slots) p.1 in
      subst (λ k. LowersElements side s values slots low before out k at' cursor' bytes' now') (sym (add-one i)) (element_on g v (element_here g v there) n at' cursor' bytes' now' p.0 moved q)

  pub element_count : (count : Option ℕ) (n cursor' : ℕ) (bytes' : List ℕ) (now' : List CoreValue) → count ≡ Some n → MemberLoweredOr t side y v (take (length slots - at) (drop at slots)) count cursor cursor' bytes bytes' now now' → at + n ≤ length slots
  element_count count n cursor' bytes' now' is l =
      let p = subst (λ o. MemberLowered side s v (take (length slots - at) (drop at slots)) o cursor cursor' bytes bytes' now now') is (l s shaped) in
      omega (arith, p.0, (element_here g v there).wide.0, length-drop at slots, g.few)

  pub element_fails : (count : Option ℕ) (cursor' : ℕ) (bytes' : List ℕ) (now' : List CoreValue) → count ≡ None → MemberLoweredOr t side y v (take (length slots - at) (drop at slots)) count cursor cursor' bytes bytes' now now' → LacksRoom low (sum_by (λ v. own_room side s v) values) before
  element_fails count cursor' bytes' now' is l =
      element_lacks g v (element_here g v there) (subst (λ o. MemberLowered side s v (take (length slots - at) (drop at slots)) o cursor cursor' bytes bytes' now now') is (l s shaped))

module _ (t : Tables) (side : SideAbi) (count : ℕ) (e : InterfaceType) (ms : Members) (vs : List Value) (slots : List FlatType) (low high : ℕ) (before after : List ℕ) (out out' : List CoreValue) (p : FixedOpened t side count e vs slots ms) where
  pub fixed_lowered : {i at : ℕ} → length vs ≤ i → LowersElements side p.shape vs slots low before out i at high after out' → IsLowered side (s_node (k_fixed count) ms) (value.List vs) slots low high before after out out'
  fixed_lowered {i} {at} ge g =
      subst (λ ms. IsLowered side (s_node (k_fixed count) ms) (value.List vs) slots low high before after out out') (sym p.is)
      (subst (λ n. IsLoweredTo (ReadsAs side (s_node (k_fixed count) (typed p.name p.shape no_members)) (value.List vs)) slots low high n before after out out') (sym (fixed_room side count p.name p.shape no_members vs))
      (also_lowered (λ cs other r. fixed_reads side p.name p.shape other cs count vs p.long r) (elements_done g ge)))

  pub fixed_lacks : LacksRoom low (sum_by (λ v. own_room side p.shape v) vs) before → LacksRoom low (own_room side (s_node (k_fixed count) ms) (value.List vs)) before
  fixed_lacks l =
      subst (λ ms. LacksRoom low (own_room side (s_node (k_fixed count) ms) (value.List vs)) before) (sym p.is) (subst (λ n. LacksRoom low n before) (sym (fixed_room side count p.name p.shape no_members vs)) l)

pub fixed_start : (t : Tables) (side : SideAbi) (count : ℕ) (e : InterfaceType) (ms : Members) (vs : List Value) (slots : List FlatType) (low : ℕ) (before : List ℕ) (out : List CoreValue) (p : FixedOpened t side count e vs slots ms) → low ≤ length before
    → (s : Shape) → HasShape t e s → LowersElements side s vs slots low before out 0 0 low before out
fixed_start t side count e ms vs slots low before out p inside s h =
    subst (λ s. LowersElements side s vs slots low before out 0 0 low before out) (one_shape t p.shape s e p.shaped h) (elements_start side p.shape vs slots low before out p.are p.wide inside)

-- the same state by other names
pub members_same : {t : Tables} {side : SideAbi} {ms : Members} {types : List (Option InterfaceType)} {values : List Value} {slots : List FlatType} {low : ℕ} {before : List ℕ} {out : List CoreValue} {i : ℕ} {taken at : ℕ} (taken' at' : ℕ) (s s' : Store) {now : List CoreValue} (now' : List CoreValue)
    → taken' ≡ taken → at' ≡ at → s' ≡ s → now' ≡ now → LowersMembers t side ms types values slots low before out i taken at s.cursor s.bytes.items now → LowersMembers t side ms types values slots low before out i taken' at' s'.cursor s'.bytes.items now'
members_same {t} {side} {ms} {types} {values} {slots} {low} {before} {out} {i} {taken} {at} taken' at' s s' {now} now' e f g h l =
    subst (λ k. LowersMembers t side ms types values slots low before out i k at' s'.cursor s'.bytes.items now') (sym e)
    (subst (λ k. LowersMembers t side ms types values slots low before out i taken k s'.cursor s'.bytes.items now') (sym f)
    (subst (λ (k : Store). LowersMembers t side ms types values slots low before out i taken at k.cursor k.bytes.items now') (sym g)
    (subst (λ k. LowersMembers t side ms types values slots low before out i taken at s.cursor s.bytes.items k) (sym h) l)))

-- ---- values of other forms

pub not_fields : (ms : Members) (Are : List Value → Type 0) (v : Value) → fields_in (out-Value v) ≡ None → IsRecord ms Are (out-Value v) → ⊥
not_fields ms Are v e h = go (out-Value v) e h
  where
    go : (w : Value-F Value) → fields_in w ≡ None → IsRecord ms Are w → ⊥
    go (o.Record fs) e h = none_some (Some fs) fs e refl
    go _ e h = h

pub not_members : (Are : List Value → Type 0) (v : Value) → members_in (out-Value v) ≡ None → IsTuple Are (out-Value v) → ⊥
not_members Are v e h = go (out-Value v) e h
  where
    go : (w : Value-F Value) → members_in w ≡ None → IsTuple Are w → ⊥
    go (o.Tuple vs) e h = none_some (Some vs) vs e refl
    go _ e h = h

pub not_elements : (n : ℕ) (Is : Value → Type 0) (v : Value) → elements_in (out-Value v) ≡ None → IsFixedList n Is (out-Value v) → ⊥
not_elements n Is v e h = go (out-Value v) e h
  where
    go : (w : Value-F Value) → elements_in w ≡ None → IsFixedList n Is w → ⊥
    go (o.List vs) e h = none_some (Some vs) vs e refl
    go _ e h = h

pub not_a_case : (Is : List ℕ → List Value → Type 0) (v : Value) → case_in (out-Value v) ≡ None → IsCase Is (out-Value v) → ⊥
not_a_case Is v e h = go (out-Value v) e h
  where
    go : (w : Value-F Value) → case_in w ≡ None → IsCase Is w → ⊥
    go (o.Case x vs) e h = none_some (Some (record { name = x; payload = vs })) (record { name = x; payload = vs }) e refl
    go _ e h = h

module _ {t : Tables} {side : SideAbi} {names : List (List ℕ)} {types : List (Option InterfaceType)} {v : Value} {slots : List FlatType} {ms : Members} where
  pub no_record : Opened t side is.Record names types v slots ms → fields_in (out-Value v) ≡ None → ⊥
  unfolding IsA
  no_record p none = not_fields ms (λ vs. AreMembers ms vs) v none p.is

  pub no_tuple : Opened t side is.Tuple names types v slots ms → members_in (out-Value v) ≡ None → ⊥
  unfolding IsA
  no_tuple p none = not_members (λ vs. AreMembers ms vs) v none p.is

  pub no_fixed_list : {count : ℕ} {element : InterfaceType} → Opened t side (is.FixedList count element) names types v slots ms → elements_in (out-Value v) ≡ None → ⊥
  unfolding IsA
  no_fixed_list {count} p none = not_elements count (λ w. IsElement ms w) v none p.is
