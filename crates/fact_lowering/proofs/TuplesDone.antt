-- Tuples that were lowered: flat, or behind a pointer.
use Rattle.std.proofs.Common.{◌≡◌, inl, ℕ, zero, suc, ◌+◌, ◌%◌, ◌^◌, ◌<◌, ◌≤◌, List, [], ◌∷◌, length, map, take, get_or, Option, Some, None, refl, sym, ap, ◌∙◌, subst, arith}
use Rattle.std.specs.Prelude.{IfSome, IsNone, nat_le, if◌then◌else◌, Bool, true, false}
use Rattle.std.specs.List.{AllZip}
use Rattle.fact_wasm.specs.declared.types.ValType.{ValType}
use Rattle.fact_machine.specs.Typed.{IsValue}
use Rattle.fact_machine.specs.declared.types.CoreValue.{CoreValue}
use Rattle.fact_types.specs.declared.flats.FlatType.{FlatType}
use Rattle.fact_types.specs.declared.extents.MemoryWidth.{MemoryWidth}
use Rattle.fact_types.specs.declared.extents.MemoryWidth.TheVariants.{Memory32, Memory64}
use Rattle.fact_types.specs.Flat.{value_type}
use Rattle.fact_types.specs.FlatShapes.{flat_all, flat_each, pointer, when_upto}
use Rattle.fact_types.specs.Layout.{aligned}
use Rattle.fact_types.specs.Shapes.{Shape, ends_of}
use Rattle.fact_types.specs.Signatures.{address, flat_or, flat_params, width}
use Rattle.fact_types.specs.Tuples.{tuple_members, tuple_of}
use Rattle.fact_types.proofs.AlignLaws.{aligned_bounds, aligned_multiple}
use Rattle.fact_types.proofs.PlaceLaws.{align_pos}
use Rattle.fact_types.proofs.ShapeLaws.{none_some}
use Rattle.fact_values.specs.declared.side.SideAbi.{SideAbi}
use Rattle.fact_values.specs.declared.value.Value.{Value}
use Rattle.fact_values.specs.Lift.{bits_of, can_stand, number_as}
use Rattle.fact_values.specs.Places.{extent_on, width_of}
use Rattle.fact_values.specs.Tuples.{behind_only, lift_all, load_tuple, where_flat}
use Rattle.fact_actions.specs.Adapters.{last_bits}
use Rattle.fact_lowering.specs.Lowered.{AgreeWithin, AreLowered, IsLoweredTo, IsTakenFor, LacksRoom, Rises, own_rooms, tuple_room}
use Rattle.fact_lowering.specs.Lowerings.{core_of}
use Rattle.fact_lowering.specs.TextForms.{AreByForm, AreByFormAt}
use Rattle.fact_lowering.specs.TupleSteps.{BehindLoweredOr, FlatLoweredOr, ReadsTuple, StandsBehind, TakenOr, TupleLoweredOr}
use Rattle.fact_lowering.proofs.CoreNumbers.{core_typed}
use Rattle.fact_lowering.proofs.CoreWrites.{core_kept}
use Rattle.fact_lowering.proofs.SmallAlignments.{small}
use Rattle.fact_lowering.proofs.TupleLifts.{tuple_there}

-- ---- a region for a tuple

module _ (side : SideAbi) (ss : List Shape) (low : ℕ) (bytes : List ℕ) where
  align_small : (extent_on side (tuple_of ss)).align ≤ 8
  align_small = small (width_of side) (tuple_of ss)

  align_some : 0 < (extent_on side (tuple_of ss)).align
  align_some = align_pos (width_of side) (tuple_of ss)

  pub region_taken : (place high : ℕ) → place ≡ aligned low (extent_on side (tuple_of ss)).align → high ≡ place + (extent_on side (tuple_of ss)).size → high ≤ length bytes → IsTakenFor side ss place low high bytes
  region_taken place high at end inside =
      let bounds = aligned_bounds low (extent_on side (tuple_of ss)).align align_some in
      record {
        aligned = ap (λ n. n % (extent_on side (tuple_of ss)).align) at ∙ aligned_multiple low (extent_on side (tuple_of ss)).align;
        behind = omega (arith, bounds.0, at);
        end = end;
        rises = record { up = omega (arith, bounds.0, at, end); few = omega (arith, bounds.1, at, end, align_small); inside = inside };
      }

  pub region_lacks : length bytes < aligned low (extent_on side (tuple_of ss)).align + (extent_on side (tuple_of ss)).size → length bytes < low + 8 + (extent_on side (tuple_of ss)).size
  region_lacks lt = omega (arith, lt, (aligned_bounds low (extent_on side (tuple_of ss)).align align_some).1, align_small)

  -- a region that was taken, or for which there is no room
  pub taken_or : (o : Option ℕ) (high size align : ℕ) → size ≡ (extent_on side (tuple_of ss)).size → align ≡ (extent_on side (tuple_of ss)).align → IfSome o (λ at. at ≡ aligned low align) → IfSome o (λ at. at + size ≤ length bytes) → IfSome o (λ at. high ≡ at + size)
      → (IsNone o → length bytes < aligned low align + size) → (IsNone o → high ≡ low) → TakenOr side ss o low high bytes
  taken_or None high size align sized laid at fits ends lacks stays = (region_lacks (omega (arith, lacks refl, sized, ap (λ a. aligned low a) laid)), stays refl)
  taken_or (Some place) high size align sized laid at fits ends lacks stays =
      let last : place + size ≤ length bytes = fits in
      let end : high ≡ place + size = ends in
      region_taken place high (at ∙ ap (λ a. aligned low a) laid) (end ∙ ap (λ n. place + n) sized) (omega (arith, last, end))

-- ---- memories of which the first bytes are the same

first_same : (n : ℕ) (xs ys : List ℕ) → length xs ≡ length ys → ((j : ℕ) → j < n → get_or xs j 0 ≡ get_or ys j 0) → take n xs ≡ take n ys
first_same zero [] [] e f = refl
first_same (suc n) [] [] e f = refl
first_same n [] (y ∷ ys) e f = absurd (omega (arith, e))
first_same n (x ∷ xs) [] e f = absurd (omega (arith, e))
first_same zero (x ∷ xs) (y ∷ ys) e f = refl
first_same (suc n) (x ∷ xs) (y ∷ ys) e f = (λ i. f 0 (let h : 0 < suc n = omega arith in h) i ∷ first_same n xs ys (let h : length xs ≡ length ys = omega (arith, e) in h) (λ j h. f (suc j) (let k : suc j < suc n = omega (arith, h) in k)) i)

agree_itself : (low high : ℕ) (x : List ℕ) → AgreeWithin low high x x
agree_itself low high x = record { same_length = refl; each = λ j p q. refl }

-- ---- flat

-- the forms of the texts of a tuple, flat or behind the first core value
abbrev FormsBehind : SideAbi → List ℕ → List Shape → List CoreValue → Type 0
FormsBehind side bytes ss [] = Unit {0}
FormsBehind side bytes ss (c ∷ more) = AreByFormAt side bytes (tuple_members ss) (last_bits (c ∷ [])) 0

abbrev Forms : SideAbi → List ℕ → List Shape → List CoreValue → Option (List FlatType) → Type 0
Forms side bytes ss cores (Some flats) = AreByForm side bytes (tuple_members ss) cores
Forms side bytes ss cores None = FormsBehind side bytes ss cores

abbrev flat_of : Option (List FlatType) → Option (List ValType)
flat_of None = None
flat_of (Some fs) = Some (map value_type fs)

params_flat : (b : Bool) (limit : ℕ) (ss : List Shape) (fs : List FlatType) → flat_all (width b) limit ss ≡ Some fs → map value_type fs ≡ flat_params b limit ss
params_flat b limit ss fs e = ap (λ o. flat_or (address b ∷ []) (flat_of o)) (sym e)

params_behind : (b : Bool) (limit : ℕ) (ss : List Shape) → flat_all (width b) limit ss ≡ None → address b ∷ [] ≡ flat_params b limit ss
params_behind b limit ss e = ap (λ o. flat_or (address b ∷ []) (flat_of o)) (sym e)

pub each_flat : (w : MemoryWidth) (limit : ℕ) (ss : List Shape) (fs : List FlatType) → Some fs ≡ flat_all w limit ss → flat_each w ss ≡ Some fs
each_flat w limit ss fs e = go (flat_each w ss) e
  where
    go : (o : Option (List FlatType)) → Some fs ≡ when_upto limit o → o ≡ Some fs
    go None e = absurd (none_some None fs refl (sym e))
    go (Some gs) e = least (nat_le (length gs) limit) e
      where
        least : (b : Bool) → Some fs ≡ (if b then Some gs else None) → Some gs ≡ Some fs
        least true e = sym e
        least false e = absurd (none_some None fs refl (sym e))

pub flat_done : (side : SideAbi) (limit : ℕ) (ss : List Shape) (vs : List Value) (fs : List FlatType) (cores : List CoreValue) (low high : ℕ) (before after : List ℕ) → Some fs ≡ flat_all (width_of side) limit ss
    → IsLoweredTo (λ cs other. ReadsTuple side 0 ss vs cs other) fs low high (own_rooms side (tuple_members ss) vs) before after [] cores → AreLowered side limit ss vs cores low high before after
flat_done side limit ss vs fs cores low high before after e l =
    let is : flat_all (width_of side) limit ss ≡ Some fs = sym e in
    let all : cores ≡ l.cores = l.pushed in
    let r = subst (λ cs. ReadsTuple side 0 ss vs cs after) (sym all) (l.written.reads after (agree_itself low (low + 0) after) (agree_itself low high after)) in
    record {
      stands = ap (λ o. where_flat o (lift_all side after ss cores) (behind_only side after ss cores)) is ∙ r.0;
      forms = subst (Forms side after ss cores) e r.1;
      typed = subst (λ ts. AllZip (λ c ty. IsValue c ty) cores ts) (params_flat side.memory64 limit ss fs is) (subst (λ cs. AllZip (λ c ty. IsValue c ty) cs (map value_type fs)) (sym all) l.typed);
      same_length = sym l.written.changed.same_length;
      kept = sym (first_same low before after l.written.changed.same_length (λ j h. core_kept l.written.changed j (inl h)));
      rises = subst (λ n. Rises low high n after) (ap (λ o. where_flat o (own_rooms side (tuple_members ss) vs) (8 + (extent_on side (tuple_of ss)).size + own_rooms side (tuple_members ss) vs)) e) l.written.rises;
    }

pub flat_lacks : (side : SideAbi) (limit : ℕ) (ss : List Shape) (vs : List Value) (fs : List FlatType) (low : ℕ) (before : List ℕ) → Some fs ≡ flat_all (width_of side) limit ss → LacksRoom low (own_rooms side (tuple_members ss) vs) before → LacksRoom low (tuple_room side limit ss vs) before
flat_lacks side limit ss vs fs low before e l = subst (λ n. LacksRoom low n before) (ap (λ o. where_flat o (own_rooms side (tuple_members ss) vs) (8 + (extent_on side (tuple_of ss)).size + own_rooms side (tuple_members ss) vs)) e) l

pub flat_or_lacks : (side : SideAbi) (limit : ℕ) (ss : List Shape) (vs : List Value) (fs : List FlatType) (o : Option (List CoreValue)) (low high : ℕ) (before after : List ℕ) → Some fs ≡ flat_all (width_of side) limit ss → FlatLoweredOr side ss vs o low high before after
    → TupleLoweredOr side limit ss vs o low high before after
flat_or_lacks side limit ss vs fs None low high before after e l = flat_lacks side limit ss vs fs low before e l
flat_or_lacks side limit ss vs fs (Some cores) low high before after e l = flat_done side limit ss vs fs cores low high before after e (l fs (each_flat (width_of side) limit ss fs e))

-- ---- behind a pointer

pointer_stands : (w : MemoryWidth) (n : ℕ) → n < 2 ^ 32 → (can_stand (pointer w) (core_of (pointer w) n) ≡ true) × (number_as (pointer w) (core_of (pointer w) n) ≡ n) × (bits_of (core_of (pointer w) n) ≡ n)
pointer_stands Memory32 n h = let one : (n % 2 ^ 32) % 2 ^ 32 ≡ n = omega (arith, h) in let two : n % 2 ^ 32 ≡ n = omega (arith, h) in (refl, one, two)
pointer_stands Memory64 n h = (refl, refl, refl)

-- what is loaded stays, as the memory agrees with itself
pub behind_done : (side : SideAbi) (limit : ℕ) (ss : List Shape) (vs : List Value) (cores : List CoreValue) (low high : ℕ) (before after : List ℕ) → None ≡ flat_all (width_of side) limit ss → StandsBehind side ss vs cores low high before after → AreLowered side limit ss vs cores low high before after
behind_done side limit ss vs cores low high before after e l =
    let is : flat_all (width_of side) limit ss ≡ None = sym e in
    let c = core_of (pointer (width_of side)) l.place in
    let p = pointer_stands (width_of side) l.place l.small in
    let r = l.written.reads after (agree_itself l.place (l.place + ends_of (width_of side) (tuple_members ss) 0) after) (agree_itself l.middle high after) in
    let inside : l.place + (extent_on side (tuple_of ss)).size ≤ length after = omega (arith, l.taken.end, l.taken.rises.inside, l.written.changed.same_length) in
    let there : Some vs ≡ load_tuple side after ss l.place = tuple_there side after ss l.place (Some vs) l.taken.aligned inside (sym r.0) in
    record {
      stands = ap (λ o. where_flat o (lift_all side after ss cores) (behind_only side after ss cores)) is ∙ ap (behind_only side after ss) l.pointer
          ∙ ap (λ (b : Bool). if b then load_tuple side after ss (number_as (pointer (width_of side)) c) else None) p.0 ∙ ap (load_tuple side after ss) p.1 ∙ sym there;
      forms = subst (Forms side after ss cores) e (subst (FormsBehind side after ss) (sym l.pointer) (subst (λ n. AreByFormAt side after (tuple_members ss) n 0) (sym p.2) r.1));
      typed = subst (λ ts. AllZip (λ c ty. IsValue c ty) cores ts) (params_behind side.memory64 limit ss is)
          (subst (λ cs. AllZip (λ c ty. IsValue c ty) cs (address side.memory64 ∷ [])) (sym l.pointer) (core_typed (pointer (width_of side)) l.place (omega (arith, l.small)), tt));
      same_length = sym l.written.changed.same_length;
      kept = sym (first_same low before after l.written.changed.same_length (λ j h. l.written.changed.kept j (inl (omega (arith, h, l.taken.behind))) (inl (omega (arith, h, l.taken.rises.up)))));
      rises = subst (λ n. Rises low high n after) (ap (λ o. where_flat o (own_rooms side (tuple_members ss) vs) (8 + (extent_on side (tuple_of ss)).size + own_rooms side (tuple_members ss) vs)) e) (record {
        up = omega (arith, l.taken.rises.up, l.written.rises.up);
        few = omega (arith, l.taken.rises.few, l.written.rises.few);
        inside = l.written.rises.inside;
      });
    }

pub behind_or_lacks : (side : SideAbi) (limit : ℕ) (ss : List Shape) (vs : List Value) (o : Option (List CoreValue)) (low high : ℕ) (before after : List ℕ) → None ≡ flat_all (width_of side) limit ss → BehindLoweredOr side ss vs o low high before after
    → TupleLoweredOr side limit ss vs o low high before after
behind_or_lacks side limit ss vs None low high before after e l = subst (λ n. LacksRoom low n before) (ap (λ o. where_flat o (own_rooms side (tuple_members ss) vs) (8 + (extent_on side (tuple_of ss)).size + own_rooms side (tuple_members ss) vs)) e) l
behind_or_lacks side limit ss vs (Some cores) low high before after e l = behind_done side limit ss vs cores low high before after e l
