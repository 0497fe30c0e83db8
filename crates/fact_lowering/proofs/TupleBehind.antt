-- A tuple that is stored behind a pointer.
use Rattle.std.proofs.Common.{◌≡◌, ℕ, zero, suc, ◌+◌, ◌^◌, ◌<◌, ◌≤◌, List, [], ◌∷◌, ◌++◌, length, map, take, get_or, Option, Some, None, refl, sym, ap, ◌∙◌, subst, arith}
use Rattle.std.specs.Prelude.{slice_get, Bool, true, false}
use Rattle.std.proofs.Math.Seq.{drop-cons}
use Rattle.std.proofs.lemmas.List.{take_all}
use Rattle.std.proofs.lemmas.List.Elements.{All-head, All-tail}
use Rattle.fact_machine.specs.declared.types.CoreValue.{CoreValue}
use Rattle.fact_types.specs.declared.interface.InterfaceType.{InterfaceType}
use Rattle.fact_types.specs.declared.extents.MemoryWidth.{MemoryWidth}
use Rattle.fact_types.specs.declared.extents.MemoryWidth.TheVariants.{Memory32, Memory64}
use Rattle.fact_types.specs.Agrees.{chosen}
use Rattle.fact_types.specs.FlatShapes.{pointer}
use Rattle.fact_types.specs.Functions.{HaveShapes}
use Rattle.fact_types.specs.Layout.{extent}
use Rattle.fact_types.specs.Shapes.{Shape, Members, ends_of, layout_of}
use Rattle.fact_types.specs.Tables.{Tables, IsLive}
use Rattle.fact_types.specs.Tuples.{members_from, tuple_members, tuple_of}
use Rattle.fact_types.proofs.PlaceLaws.{ends_within}
use Rattle.fact_types.proofs.ShapeLaws.{same_some, none_some}
use Rattle.fact_values.specs.declared.side.SideAbi.{SideAbi}
use Rattle.fact_values.specs.declared.value.Value.{Value}
use Rattle.fact_values.specs.IsA.{AreMembers}
use Rattle.fact_values.specs.Places.{extent_on, width_of}
use Rattle.fact_abi.specs.Nodes.{AreOf}
use Rattle.fact_lowering.specs.Lowered.{AreAllLive, IsTakenFor, IsWritten, LacksRoom, ReadsMembers, own_rooms}
use Rattle.fact_lowering.specs.Lowerings.{core_of}
use Rattle.fact_lowering.specs.Storings.{AreLiveMembers, AreStorable}
use Rattle.fact_lowering.specs.TupleSteps.{IsTupleLowerable, StandsBehind, TakenOr}
use Rattle.fact_lowering.proofs.CoreMembers.{take_more}
use Rattle.fact_lowering.proofs.CoreWrites.{map_behind}
use Rattle.fact_lowering.proofs.TupleExtents.{same_shapes}

pub all_of : (t : Tables) (tys : List InterfaceType) (ss : List Shape) (n : ℕ) → HaveShapes t tys ss → AreOf t (map (λ ty. Some ty) tys) (members_from n ss)
all_of t [] [] n h = tt
all_of t [] (s ∷ ss) n h = absurd h
all_of t (y ∷ ys) [] n h = absurd h
all_of t (y ∷ ys) (s ∷ ss) n h = ((y, refl, h.0), all_of t ys ss (suc n) h.1)

-- types as members, one by one
pub one_more_member : (members members' : List (Option InterfaceType)) (tys : List InterfaceType) (i : ℕ) (d : InterfaceType) → i < length tys → members ≡ map (λ ty. Some ty) (take i tys) → members' ≡ members ++ Some (get_or tys i d) ∷ [] → members' ≡ map (λ ty. Some ty) (take (i + 1) tys)
one_more_member members members' tys i d lt g pushed =
    let front : take (i + 1) tys ≡ take i tys ++ get_or tys i d ∷ [] = take_more tys i 1 ∙ ap (λ (l : List InterfaceType). take i tys ++ take 1 l) (drop-cons tys i d lt) in
    pushed ∙ ap (λ (l : List (Option InterfaceType)). l ++ Some (get_or tys i d) ∷ []) g ∙ sym (map_behind (λ (ty : InterfaceType). Some ty) (take i tys) (get_or tys i d ∷ [])) ∙ ap (λ (l : List InterfaceType). map (λ ty. Some ty) l) (sym front)

pub all_told : (members : List (Option InterfaceType)) (tys : List InterfaceType) (i : ℕ) → length tys ≤ i → members ≡ map (λ ty. Some ty) (take i tys) → members ≡ map (λ ty. Some ty) tys
all_told members tys i ge g = g ∙ ap (λ (l : List InterfaceType). map (λ ty. Some ty) l) (take_all i tys ge)

live_there : (t : Tables) (tys : List InterfaceType) (i : ℕ) (y : InterfaceType) → AreAllLive t tys → slice_get (map (λ ty. Some ty) tys) i ≡ Some (Some y) → IsLive t y
live_there t [] i y h e = absurd (none_some None (Some y) refl e)
live_there t (x ∷ xs) zero y h e = subst (IsLive t) (same_some (Some x) x y refl (same_some (Some (Some x)) (Some x) (Some y) refl e)) (All-head (IsLive t) x xs h)
live_there t (x ∷ xs) (suc i) y h e = live_there t xs i y (All-tail (IsLive t) x xs h) e

pub live_members : (t : Tables) (tys : List InterfaceType) (members : List (Option InterfaceType)) → members ≡ map (λ ty. Some ty) tys → AreAllLive t tys → AreLiveMembers t members
live_members t tys members e h = record { each = λ i y there. live_there t tys i y h (ap (λ l. slice_get l i) (sym e) ∙ there) }

-- values of the types of a tuple are values of their shapes
pub values_are : (t : Tables) (side : SideAbi) (tys : List InterfaceType) (vs : List Value) (cursor : ℕ) (bytes : List ℕ) (ss : List Shape) → IsTupleLowerable t side tys vs cursor bytes → HaveShapes t tys ss → AreMembers (tuple_members ss) vs
values_are t side tys vs cursor bytes ss l h = subst (λ zs. AreMembers (tuple_members zs) vs) (same_shapes t tys l.shapes ss l.shaped h) l.are

-- the members of a tuple end within it
pub tuple_ends : (side : SideAbi) (ss : List Shape) → ends_of (width_of side) (tuple_members ss) 0 ≤ (extent_on side (tuple_of ss)).size
tuple_ends side ss = go (width_of side)
  where
    go : (w : MemoryWidth) → ends_of w (tuple_members ss) 0 ≤ (extent w (layout_of (tuple_of ss))).size
    go Memory32 = ends_within Memory32 (tuple_members ss)
    go Memory64 = ends_within Memory64 (tuple_members ss)

module _ {t : Tables} {side : SideAbi} {tys : List InterfaceType} {vs : List Value} {low : ℕ} {bytes : List ℕ} (l : IsTupleLowerable t side tys vs low bytes) {place middle : ℕ} (taken : IsTakenFor side l.shapes place low middle bytes) where
  pub tuple_storable : (members : List (Option InterfaceType)) → members ≡ map (λ ty. Some ty) tys → AreStorable t side members vs place middle bytes
  tuple_storable members e =
      let ends = tuple_ends side l.shapes in
      let short : length bytes < 2 ^ 31 = l.can.short in
      record {
        members = tuple_members l.shapes;
        are = subst (λ xs. AreOf t xs (tuple_members l.shapes)) (sym e) (all_of t tys l.shapes 0 l.shaped);
        values = l.are;
        few = omega (arith, ends, short, taken.end, taken.rises.inside);
        room = record { below = omega (arith, ends, taken.end); can = record { inside = taken.rises.inside; short = l.can.short } };
      }

module _ (side : SideAbi) (ss : List Shape) (vs : List Value) (low : ℕ) (before : List ℕ) where
  pub behind_untaken : (o : Option ℕ) (high : ℕ) → o ≡ None → TakenOr side ss o low high before → LacksRoom low (8 + (extent_on side (tuple_of ss)).size + own_rooms side (tuple_members ss) vs) before
  behind_untaken o high none taken = let p = subst (λ o. TakenOr side ss o low high before) none taken in omega (arith, p.0)

  pub behind_lacks : (place middle : ℕ) → IsTakenFor side ss place low middle before → LacksRoom middle (own_rooms side (tuple_members ss) vs) before → LacksRoom low (8 + (extent_on side (tuple_of ss)).size + own_rooms side (tuple_members ss) vs) before
  behind_lacks place middle taken lacks = omega (arith, taken.rises.few, lacks)

  pub stands_behind : (place middle high : ℕ) (after : List ℕ) (cores : List CoreValue) (c : CoreValue) → IsTakenFor side ss place low middle before → length before < 2 ^ 31 → c ≡ core_of (pointer (width_of side)) place → cores ≡ [] ++ c ∷ []
      → IsWritten (ReadsMembers side (tuple_members ss) vs place 0) place (ends_of (width_of side) (tuple_members ss) 0) middle high (own_rooms side (tuple_members ss) vs) before after → StandsBehind side ss vs cores low high before after
  stands_behind place middle high after cores c taken short is pushed written = record {
    place = place;
    middle = middle;
    taken = taken;
    small = omega (arith, taken.end, taken.rises.inside, short);
    pointer = pushed ∙ ap (λ k. k ∷ []) is;
    written = written;
  }

-- By what storing the members answered, in a memory of the same bytes.
module _ (t : Tables) (side : SideAbi) (tys : List InterfaceType) (ss : List Shape) (vs : List Value) (low place middle high : ℕ) (before now after : List ℕ) (members : List (Option InterfaceType)) (done : Bool)
    (l : IsTupleLowerable t side tys vs low before) (h : HaveShapes t tys ss) (taken : IsTakenFor side ss place low middle before) (same : now ≡ before) (are : members ≡ map (λ ty. Some ty) tys)
    (stored : (ms : Members) → AreOf t members ms → AreMembers ms vs → chosen done (IsWritten (ReadsMembers side ms vs place 0) place (ends_of (width_of side) ms 0) middle high (own_rooms side ms vs) now after) (LacksRoom middle (own_rooms side ms vs) now)) where
  here : chosen done (IsWritten (ReadsMembers side (tuple_members ss) vs place 0) place (ends_of (width_of side) (tuple_members ss) 0) middle high (own_rooms side (tuple_members ss) vs) before after) (LacksRoom middle (own_rooms side (tuple_members ss) vs) before)
  here = subst (λ b. chosen done (IsWritten (ReadsMembers side (tuple_members ss) vs place 0) place (ends_of (width_of side) (tuple_members ss) 0) middle high (own_rooms side (tuple_members ss) vs) b after) (LacksRoom middle (own_rooms side (tuple_members ss) vs) b)) same
      (stored (tuple_members ss) (subst (λ xs. AreOf t xs (tuple_members ss)) (sym are) (all_of t tys ss 0 h)) (values_are t side tys vs low before ss l h))

  pub not_stored : done ≡ false → LacksRoom low (8 + (extent_on side (tuple_of ss)).size + own_rooms side (tuple_members ss) vs) before
  not_stored unmet =
      behind_lacks side ss vs low before place middle taken
      (subst (λ b. chosen b (IsWritten (ReadsMembers side (tuple_members ss) vs place 0) place (ends_of (width_of side) (tuple_members ss) 0) middle high (own_rooms side (tuple_members ss) vs) before after) (LacksRoom middle (own_rooms side (tuple_members ss) vs) before)) unmet here)

  pub was_stored : (cores : List CoreValue) (c : CoreValue) → done ≡ true → c ≡ core_of (pointer (width_of side)) place → cores ≡ [] ++ c ∷ [] → StandsBehind side ss vs cores low high before after
  was_stored cores c met is pushed =
      stands_behind side ss vs low before place middle high after cores c taken l.can.short is pushed
      (subst (λ b. chosen b (IsWritten (ReadsMembers side (tuple_members ss) vs place 0) place (ends_of (width_of side) (tuple_members ss) 0) middle high (own_rooms side (tuple_members ss) vs) before after) (LacksRoom middle (own_rooms side (tuple_members ss) vs) before)) met here)
