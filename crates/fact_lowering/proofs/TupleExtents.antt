-- Where the members of a tuple stand, one behind the other.
use Rattle.std.proofs.Common.{◌≡◌, ℕ, zero, suc, ◌+◌, ◌<◌, ◌≤◌, List, [], ◌∷◌, length, map, drop, get_or, refl, sym, ap, ◌∙◌, subst, arith, add-one}
use Rattle.std.specs.Prelude.{max}
use Rattle.std.proofs.lemmas.List.Elements.{All-head, All-tail}
use Rattle.fact_types.specs.declared.abi.CanonicalAbiInfo.{CanonicalAbiInfo}
use Rattle.fact_types.specs.declared.interface.InterfaceType.{InterfaceType}
use Rattle.fact_types.specs.declared.extents.Extent.{Extent}
use Rattle.fact_types.specs.declared.extents.MemoryWidth.{MemoryWidth}
use Rattle.fact_types.specs.declared.extents.MemoryWidth.TheVariants.{Memory32, Memory64}
use Rattle.fact_types.specs.Functions.{HaveShapes}
use Rattle.fact_types.specs.Layout.{aligned, end_of_fields, extent, extents, greatest_align, payloads, record_extent, record_layout}
use Rattle.fact_types.specs.Shapes.{Shape, layout_of, layouts_of}
use Rattle.fact_types.specs.Tables.{Tables, HasShape, IsLive, IsSound}
use Rattle.fact_types.specs.Tuples.{members_from, tuple_of}
use Rattle.fact_types.proofs.ShapeLaws.{one_shape}
use Rattle.fact_values.specs.declared.side.SideAbi.{SideAbi}
use Rattle.fact_values.specs.Places.{extent_on, width_of}
use Rattle.fact_lowering.specs.Lowered.{AreAllLive}

-- the extents of shapes
abbrev pub extents_of : MemoryWidth → List Shape → List Extent
extents_of w ss = map (λ s. extent w (layout_of s)) ss

tuple_extents : (w : MemoryWidth) (n : ℕ) (ss : List Shape) → extents w (payloads (layouts_of (members_from n ss))) ≡ extents_of w ss
tuple_extents w n [] = refl
tuple_extents w n (s ∷ ss) = ap (λ l. extent w (layout_of s) ∷ l) (tuple_extents w (suc n) ss)

record_in : (w : MemoryWidth) (fs : List CanonicalAbiInfo) → extent w (record_layout fs) ≡ record_extent (extents w fs)
record_in Memory32 fs = refl
record_in Memory64 fs = refl

pub tuple_is : (side : SideAbi) (ss : List Shape) → extent_on side (tuple_of ss) ≡ record_extent (extents_of (width_of side) ss)
tuple_is side ss = record_in (width_of side) (payloads (layouts_of (members_from 0 ss))) ∙ ap record_extent (tuple_extents (width_of side) 0 ss)

-- ---- types that have shapes, one by one

pub record ShapeHere (t : Tables) (tys : List InterfaceType) (ss : List Shape) (i : ℕ) (y : InterfaceType) : Type 0 where
  pub shape : Shape
  pub shaped : HasShape t y shape
  pub front : drop i ss ≡ shape ∷ drop (suc i) ss

pub shape_here : (t : Tables) (tys : List InterfaceType) (ss : List Shape) (i : ℕ) (y : InterfaceType) → HaveShapes t tys ss → i < length tys → y ≡ get_or tys i y → ShapeHere t tys ss i y
shape_here t [] ss i y h lt e = absurd (omega (arith, lt))
shape_here t (x ∷ xs) [] i y h lt e = absurd h
shape_here t (x ∷ xs) (s ∷ ss) zero y h lt e = record { shape = s; shaped = subst (λ y. HasShape t y s) (sym e) h.0; front = refl }
shape_here t (x ∷ xs) (s ∷ ss) (suc i) y h lt e = let p = shape_here t xs ss i y h.1 (omega (arith, lt)) e in record { shape = p.shape; shaped = p.shaped; front = p.front }

-- what stands at a place does not go by what would stand past the end
read_same : (tys : List InterfaceType) (i : ℕ) (d e : InterfaceType) → i < length tys → get_or tys i d ≡ get_or tys i e
read_same [] i d e lt = absurd (omega (arith, lt))
read_same (x ∷ xs) zero d e lt = refl
read_same (x ∷ xs) (suc i) d e lt = read_same xs i d e (omega (arith, lt))

pub shape_read : (t : Tables) (tys : List InterfaceType) (ss : List Shape) (i : ℕ) (d : InterfaceType) → HaveShapes t tys ss → i < length tys → ShapeHere t tys ss i (get_or tys i d)
shape_read t tys ss i d h lt = shape_here t tys ss i (get_or tys i d) h lt (read_same tys i d (get_or tys i d) lt)

pub shapes_past : (t : Tables) (tys : List InterfaceType) (ss : List Shape) (i : ℕ) → HaveShapes t tys ss → length tys ≤ i → drop i ss ≡ []
shapes_past t [] [] zero h ge = refl
shapes_past t [] [] (suc i) h ge = refl
shapes_past t [] (s ∷ ss) i h ge = absurd h
shapes_past t (x ∷ xs) [] i h ge = absurd h
shapes_past t (x ∷ xs) (s ∷ ss) zero h ge = absurd (omega (arith, ge))
shapes_past t (x ∷ xs) (s ∷ ss) (suc i) h ge = shapes_past t xs ss i h.1 (omega (arith, ge))

-- ---- the extent of a tuple, member by member

-- In front of a member, behind so many bytes, with this the greatest alignment so far.
pub record Extending (w : MemoryWidth) (ss : List Shape) (i offset greatest : ℕ) : Type 0 where
  pub ends : end_of_fields 0 (extents_of w ss) ≡ end_of_fields offset (extents_of w (drop i ss))
  pub aligns : greatest_align (extents_of w ss) ≡ max greatest (greatest_align (extents_of w (drop i ss)))

pub extending_starts : (w : MemoryWidth) (ss : List Shape) → Extending w ss 0 0 1
extending_starts w ss = record { ends = refl; aligns = least (extents_of w ss) }
  where
    least : (es : List Extent) → greatest_align es ≡ max 1 (greatest_align es)
    least [] = omega arith
    least (e ∷ es) = omega (arith, least es)

pub extending_on : {t : Tables} {tys : List InterfaceType} {ss : List Shape} {i offset greatest : ℕ} {y : InterfaceType} (w : MemoryWidth) (h : ShapeHere t tys ss i y) (size align offset' greatest' : ℕ) → size ≡ (extent w (layout_of h.shape)).size → align ≡ (extent w (layout_of h.shape)).align
    → offset' ≡ aligned offset align + size → greatest' ≡ max align greatest → Extending w ss i offset greatest → Extending w ss (i + 1) offset' greatest'
extending_on {t} {tys} {ss} {i} {offset} {greatest} {y} w h size align offset' greatest' sized aligns moved most g =
    let left : drop (suc i) ss ≡ drop (i + 1) ss = ap (λ k. drop k ss) (sym (add-one i)) in
    record {
      ends = g.ends ∙ ap (λ l. end_of_fields offset (extents_of w l)) h.front ∙ (λ j. end_of_fields (aligned offset (sym aligns j) + sym sized j) (extents_of w (left j))) ∙ ap (λ n. end_of_fields n (extents_of w (drop (i + 1) ss))) (sym moved);
      aligns = g.aligns ∙ ap (λ l. max greatest (greatest_align (extents_of w l))) h.front ∙ ap (λ l. max greatest (max (extent w (layout_of h.shape)).align (greatest_align (extents_of w l)))) left ∙ omega (arith, most, aligns);
    }

pub extended : (t : Tables) (tys : List InterfaceType) (ss : List Shape) (side : SideAbi) (i offset greatest : ℕ) → HaveShapes t tys ss → length tys ≤ i → 1 ≤ greatest → Extending (width_of side) ss i offset greatest
    → (aligned offset greatest ≡ (extent_on side (tuple_of ss)).size) × (greatest ≡ (extent_on side (tuple_of ss)).align)
extended t tys ss side i offset greatest h ge some g =
    let none = shapes_past t tys ss i h ge in
    let ends : end_of_fields 0 (extents_of (width_of side) ss) ≡ offset = g.ends ∙ ap (λ l. end_of_fields offset (extents_of (width_of side) l)) none in
    let aligns : greatest_align (extents_of (width_of side) ss) ≡ greatest = g.aligns ∙ ap (λ l. max greatest (greatest_align (extents_of (width_of side) l))) none ∙ omega (arith, some) in
    ((λ j. aligned (sym ends j) (sym aligns j)) ∙ ap (λ (e : Extent). e.size) (sym (tuple_is side ss)), sym aligns ∙ ap (λ (e : Extent). e.align) (sym (tuple_is side ss)))

-- live types have shapes
pub shapes_exist : (t : Tables) (tys : List InterfaceType) → IsSound t → AreAllLive t tys → (ss : List Shape) × HaveShapes t tys ss
shapes_exist t [] k h = ([], tt)
shapes_exist t (y ∷ ys) k h =
    let (s, shaped, d) = k.shaped y (All-head (IsLive t) y ys h) in
    let (ss, all) = shapes_exist t ys k (All-tail (IsLive t) y ys h) in
    (s ∷ ss, (shaped, all))

pub live_at : (t : Tables) (tys : List InterfaceType) (i : ℕ) (y : InterfaceType) → AreAllLive t tys → i < length tys → y ≡ get_or tys i y → IsLive t y
live_at t [] i y h lt e = absurd (omega (arith, lt))
live_at t (x ∷ xs) zero y h lt e = subst (IsLive t) (sym e) (All-head (IsLive t) x xs h)
live_at t (x ∷ xs) (suc i) y h lt e = live_at t xs i y (All-tail (IsLive t) x xs h) (omega (arith, lt)) e

pub live_read : (t : Tables) (tys : List InterfaceType) (i : ℕ) (d : InterfaceType) → AreAllLive t tys → i < length tys → IsLive t (get_or tys i d)
live_read t tys i d h lt = live_at t tys i (get_or tys i d) h lt (read_same tys i d (get_or tys i d) lt)

-- types stand for one list of shapes
pub same_shapes : (t : Tables) (tys : List InterfaceType) (ss zs : List Shape) → HaveShapes t tys ss → HaveShapes t tys zs → ss ≡ zs
same_shapes t [] [] [] h k = refl
same_shapes t [] [] (z ∷ zs) h k = absurd k
same_shapes t [] (s ∷ ss) zs h k = absurd h
same_shapes t (y ∷ ys) [] zs h k = absurd h
same_shapes t (y ∷ ys) (s ∷ ss) [] h k = absurd k
same_shapes t (y ∷ ys) (s ∷ ss) (z ∷ zs) h k = (λ i. one_shape t s z y h.0 k.0 i ∷ same_shapes t ys ss zs h.1 k.1 i)
