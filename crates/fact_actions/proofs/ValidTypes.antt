-- Valid types have room for their values, and the lists of fixed length among them have elements of one type.
use Rattle.std.proofs.Common.{◌≡◌, ℕ, suc, ◌+◌, ◌*◌, ◌/◌, ◌≤◌, ◌<◌, ◌%◌, max, min, Bool, true, false, List, [], ◌∷◌, length, Option, Some, None, sym, ap, ◌∙◌, subst, arith}
use Rattle.std.proofs.Math.Nat.{div-add-mod, le-max_left, le-max_right, mul_comm}
use Rattle.fact_types.specs.declared.extents.Extent.{Extent}
use Rattle.fact_types.specs.declared.extents.MemoryWidth.{MemoryWidth}
use Rattle.fact_types.specs.declared.extents.MemoryWidth.TheVariants.{Memory32, Memory64}
use Rattle.fact_types.specs.Adapters.{Side, LinkedAdapter, is_wide}
use Rattle.fact_types.specs.FlatShapes.{AreCounted}
use Rattle.fact_types.specs.Layout.{extent, aligned, payloads, record_layout, record_extent}
use Rattle.fact_types.specs.Shapes.{Kind, k_record, k_variant, k_list, k_tuple, k_map, k_flags, k_enum, k_option, k_result, k_fixed, k_future, k_stream, Shape, s_plain, s_node, Members, no_members, bare, typed, layout_of, layouts_of, next_of, ends_of}
use Rattle.fact_types.specs.Signatures.{flat_values}
use Rattle.fact_types.specs.Sound.{IsSoundExtent}
use Rattle.fact_types.specs.Valid.{AreEnough, AreRuled, IsValid, nesting, deepest_nesting}
use Rattle.fact_types.proofs.PlaceLaws.{sound_in, align_pos, ends_grow, ends_within}
use Rattle.fact_types.proofs.ValidLaws.{valid_takes_bytes, valid_counted}
use Rattle.fact_types.specs.Tuples.{members_from, tuple_members}
use Rattle.fact_actions.specs.Adapters.{flat_results}
use Rattle.fact_actions.specs.AdapterLaws.{HasCountedTypes}
use Rattle.fact_actions.specs.Confined.{HasRoomBy, HasRoom, HaveRoom, HasRoomForValues, HasElementsBy, HasElements, HaveElements, AreValidTypes, HasValidTypes}
use Rattle.fact_actions.specs.Moves.{entry_extent}
use Rattle.fact_actions.specs.Sides.{LiftLowerOptions, options_of, width_of_side}

takes : (w : MemoryWidth) (s : Shape) → IsValid s → 1 ≤ (extent w (layout_of s)).size
takes Memory32 s v = (valid_takes_bytes s v).memory32
takes Memory64 s v = (valid_takes_bytes s v).memory64

head_valid : (x : List ℕ) (s : Shape) (ms : Members) → AreRuled (typed x s ms) → deepest_nesting (typed x s ms) ≤ 100 → IsValid s
head_valid x s ms r n = record { ruled = r.0; nested = let l = le-max_left (nesting s) (deepest_nesting ms) in omega (arith, l, n) }

tail_nested : (x : List ℕ) (s : Shape) (ms : Members) → deepest_nesting (typed x s ms) ≤ 100 → deepest_nesting ms ≤ 100
tail_nested x s ms n = let l = le-max_right (nesting s) (deepest_nesting ms) in omega (arith, l, n)

-- members of which one has a type take bytes
some_ends : (w : MemoryWidth) (ms : Members) (n : ℕ) → AreRuled ms → deepest_nesting ms ≤ 100 → 1 ≤ length (payloads (layouts_of ms)) → 1 ≤ ends_of w ms n
some_ends w no_members n r d h = absurd (omega (arith, h))
some_ends w (bare x ms) n r d h = some_ends w ms n r d h
some_ends w (typed x s ms) n r d h = omega (arith, ends_grow w ms (next_of w s n), takes w s (head_valid x s ms r d))

record_takes : (w : MemoryWidth) (ms : Members) → AreRuled ms → deepest_nesting ms ≤ 100 → 1 ≤ length (payloads (layouts_of ms)) → 1 ≤ (extent w (layout_of (s_node k_record ms))).size
record_takes w ms r d h = omega (arith, ends_within w ms, some_ends w ms 0 r d h)

-- ---- a record of one member is laid out as the member

aligned_already : (n a : ℕ) → n % a ≡ 0 → aligned n a ≡ n
unfolding aligned
aligned_already n a h = ap (λ r. (n / a + min 1 r) * a) h ∙ omega (arith, div-add-mod n a, h)

zero_aligned : (a : ℕ) → aligned 0 a ≡ 0
zero_aligned a = aligned_already 0 a (omega arith)

single_record : (x : Extent) → IsSoundExtent x → 0 < x.align → record_extent (x ∷ []) ≡ x
single_record x h pos =
    let one : max x.align 1 ≡ x.align = omega (arith, pos) in
    let size : aligned (aligned 0 x.align + x.size) (max x.align 1) ≡ x.size =
    ap (aligned (aligned 0 x.align + x.size)) one ∙ ap (λ k. aligned (k + x.size) x.align) (zero_aligned x.align)
    ∙ (let z : 0 + x.size ≡ x.size = omega arith in ap (λ k. aligned k x.align) z) ∙ aligned_already x.size x.align h.divides in
    ap (λ s. record { size = s; align = max x.align 1 }) size ∙ ap (λ a. record { size = x.size; align = a }) one

pub single_extent : (w : MemoryWidth) (s : Shape) → extent w (record_layout (layout_of s ∷ [])) ≡ extent w (layout_of s)
single_extent Memory32 s = single_record (extent Memory32 (layout_of s)) (sound_in Memory32 s) (align_pos Memory32 s)
single_extent Memory64 s = single_record (extent Memory64 (layout_of s)) (sound_in Memory64 s) (align_pos Memory64 s)

-- ---- room

fixed_room : (w : MemoryWidth) (n : ℕ) (ms : Members) → AreRuled ms → deepest_nesting ms ≤ 100 → length (layouts_of ms) ≡ 1 → length (payloads (layouts_of ms)) ≡ 1
    → (1 ≤ (extent w (layout_of (s_node k_record ms))).size) × (n * (extent w (layout_of (s_node k_record ms))).size ≤ (extent w (layout_of (s_node (k_fixed n) ms))).size)
fixed_room w n no_members r d m t = absurd (omega (arith, m))
fixed_room w n (bare x no_members) r d m t = absurd (omega (arith, t))
fixed_room w n (bare x (bare y ms)) r d m t = absurd (omega (arith, m))
fixed_room w n (bare x (typed y s ms)) r d m t = absurd (omega (arith, m))
fixed_room w n (typed x s no_members) r d m t = (record_takes w (typed x s no_members) r d (omega (arith, t)), by_width w)
  where
    same : {a b : ℕ} → a ≡ b → n * a ≤ b * n
    same {b} e = let g = ap (λ k. n * k) e ∙ mul_comm n b in omega (arith, g)

    by_width : (w : MemoryWidth) → n * (extent w (layout_of (s_node k_record (typed x s no_members)))).size ≤ (extent w (layout_of (s_node (k_fixed n) (typed x s no_members)))).size
    by_width Memory32 = same (ap (λ e. e.size) (single_extent Memory32 s))
    by_width Memory64 = same (ap (λ e. e.size) (single_extent Memory64 s))
fixed_room w n (typed x s (bare y ms)) r d m t = absurd (omega (arith, m))
fixed_room w n (typed x s (typed y u ms)) r d m t = absurd (omega (arith, m))

room_by : (o : LiftLowerOptions) (k : Kind) (ms : Members) → AreEnough k (length (layouts_of ms)) (length (payloads (layouts_of ms))) → HasElementsBy k ms → AreRuled ms → deepest_nesting ms ≤ 100 → HasRoomBy o k ms
room_by o k_list ms enough some r d = record_takes (width_of_side o) ms r d some
room_by o k_map ms enough some r d = record_takes (width_of_side o) ms r d some
room_by o (k_fixed n) ms enough some r d = fixed_room (width_of_side o) n ms r d enough.1 enough.2
room_by o k_record ms enough some r d = tt
room_by o k_tuple ms enough some r d = tt
room_by o k_variant ms enough some r d = tt
room_by o k_option ms enough some r d = tt
room_by o k_result ms enough some r d = tt
room_by o k_enum ms enough some r d = tt
room_by o k_flags ms enough some r d = tt
room_by o (k_future t i) ms enough some r d = tt
room_by o (k_stream t i) ms enough some r d = tt

mutual
  has_room : (o : LiftLowerOptions) (t : Shape) → IsValid t → HasElements t → HasRoom o t
  has_room o (s_plain p) v e = tt
  has_room o (s_node k ms) v e =
      let d : deepest_nesting ms ≤ 100 = let n = v.nested in omega (arith, n) in
      (takes (width_of_side o) (s_node k ms) v, room_by o k ms v.ruled.0.enough e.0 v.ruled.1 d, have_room o ms v.ruled.1 d e.1)

  have_room : (o : LiftLowerOptions) (ms : Members) → AreRuled ms → deepest_nesting ms ≤ 100 → HaveElements ms → HaveRoom o ms
  have_room o no_members r d e = tt
  have_room o (bare x ms) r d e = have_room o ms r d e
  have_room o (typed x t ms) r d e = (has_room o t (head_valid x t ms r d) e.0, have_room o ms r.1 (tail_nested x t ms d) e.1)

-- ---- adapters

tuple_room : (o : LiftLowerOptions) (n : ℕ) (ts : List Shape) → AreValidTypes ts → HaveRoom o (members_from n ts)
tuple_room o n [] h = tt
tuple_room o n (t ∷ ts) h = (has_room o t h.0 h.1, tuple_room o (suc n) ts h.2)

tuple_counted : (n : ℕ) (ts : List Shape) → AreValidTypes ts → AreCounted (members_from n ts)
tuple_counted n [] h = tt
tuple_counted n (t ∷ ts) h = (valid_counted t h.0, tuple_counted (suc n) ts h.2)

IsNothing : {A : Type 0} → Option A → Type 0
IsNothing None = Unit {0}
IsNothing (Some a) = ⊥

some_none : {A B : Type 0} {a : A} → Some a ≡ None → B
unfolding IsNothing
some_none e = absurd (subst IsNothing (sym e) tt)

some_tuple : (o : LiftLowerOptions) (t : Shape) (ts : List Shape) → IsValid t → 1 ≤ (entry_extent o (tuple_members (t ∷ ts))).size
some_tuple o t ts v =
    let w = width_of_side o in
    omega (arith, ends_within w (tuple_members (t ∷ ts)), ends_grow w (members_from 1 ts) (next_of w t 0), takes w t v)

params_some : (o : LiftLowerOptions) (ts : List Shape) → AreValidTypes ts → flat_values (is_wide o.memory) 16 ts ≡ None → 1 ≤ (entry_extent o (tuple_members ts)).size
params_some o [] h e = some_none e
params_some o (t ∷ ts) h e = some_tuple o t ts h.0

results_some : (s : Side) → AreValidTypes s.results → flat_results s ≡ None → 1 ≤ (entry_extent (options_of s) (tuple_members s.results)).size
results_some s h e = by_mark s.async_side s.results h e
  where
    by_mark : (b : Bool) (ts : List Shape) → AreValidTypes ts → flat_results (record s { async_side = b; results = ts }) ≡ None → 1 ≤ (entry_extent (options_of s) (tuple_members ts)).size
    by_mark true [] h e = some_none e
    by_mark false [] h e = some_none e
    by_mark b (t ∷ ts) h e = some_tuple (options_of s) t ts h.0

pub valid_types_serve : (a : LinkedAdapter) → HasValidTypes a → HasRoomForValues a × HasCountedTypes a
valid_types_serve a h = (
  record {
    params = tuple_room (options_of a.lift) 0 a.lift.params h.lift_params;
    results = tuple_room (options_of a.lower) 0 a.lower.results h.lower_results;
    params_tuple = params_some (options_of a.lift) a.lift.params h.lift_params;
    results_tuple = results_some a.lower h.lower_results;
  },
  record {
    lower_params = tuple_counted 0 a.lower.params h.lower_params;
    lower_results = tuple_counted 0 a.lower.results h.lower_results;
    lift_params = tuple_counted 0 a.lift.params h.lift_params;
    lift_results = tuple_counted 0 a.lift.results h.lift_results;
  },
)
