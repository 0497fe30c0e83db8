-- The bytes of a tuple, by its members one behind the other.
use Rattle.std.proofs.Common.{◌≡◌, ℕ, suc, ◌+◌, ◌≤◌, max, List, [], ◌∷◌, length, map, drop, refl, sym, ap, ◌∙◌, subst, arith}
use Rattle.std.proofs.lemmas.List.{drop_all}
use Rattle.fact_types.specs.declared.interface.InterfaceType.{InterfaceType}
use Rattle.fact_types.specs.declared.extents.Extent.{Extent}
use Rattle.fact_types.specs.declared.extents.MemoryWidth.{MemoryWidth}
use Rattle.fact_types.specs.declared.extents.MemoryWidth.TheVariants.{Memory32, Memory64}
use Rattle.fact_types.specs.Functions.{HaveShapes}
use Rattle.fact_types.specs.Layout.{aligned, end_of_fields, extent, extents, greatest_align, payloads, record_layout}
use Rattle.fact_types.specs.Shapes.{Shape, layout_of, layouts_of}
use Rattle.fact_types.specs.Tables.{Tables, HasShape}
use Rattle.fact_types.specs.Tuples.{members_from, tuple_of}

abbrev pub parts : MemoryWidth → List Shape → List Extent
parts w ss = extents w (map layout_of ss)

-- In front of the type of a place.
pub record TupleLeft (t : Tables) (w : MemoryWidth) (ss : List Shape) (tys : List InterfaceType) (i end greatest : ℕ) : Type 0 where
  pub rest : List Shape
  pub has : HaveShapes t (drop i tys) rest
  pub ends : end_of_fields 0 (parts w ss) ≡ end_of_fields end (parts w rest)
  pub aligns : greatest_align (parts w ss) ≡ max greatest (greatest_align (parts w rest))

some_align : (es : List Extent) → 1 ≤ greatest_align es
some_align [] = omega arith
some_align (e ∷ es) = omega (arith, some_align es)

pub tuple_starts : (t : Tables) (w : MemoryWidth) (ss : List Shape) (tys : List InterfaceType) → HaveShapes t tys ss → TupleLeft t w ss tys 0 0 1
tuple_starts t w ss tys h = record { rest = ss; has = h; ends = refl; aligns = omega (arith, some_align (parts w ss)) }

pub tuple_on : {t : Tables} {w : MemoryWidth} {ss : List Shape} {tys : List InterfaceType} {i end greatest : ℕ} → TupleLeft t w ss tys i end greatest → (y : InterfaceType) (size align end' greatest' : ℕ) → drop i tys ≡ y ∷ drop (i + 1) tys
    → ((s : Shape) → HasShape t y s → size ≡ (extent w (layout_of s)).size) → ((s : Shape) → HasShape t y s → align ≡ (extent w (layout_of s)).align) → end' ≡ aligned end align + size → greatest' ≡ max align greatest → TupleLeft t w ss tys (i + 1) end' greatest'
tuple_on {t} {w} {ss} {tys} {i} {end} {greatest} g y size align end' greatest' here sized laid moved grown = go g.rest g.has g.ends g.aligns
  where
    go : (r : List Shape) → HaveShapes t (drop i tys) r → end_of_fields 0 (parts w ss) ≡ end_of_fields end (parts w r) → greatest_align (parts w ss) ≡ max greatest (greatest_align (parts w r)) → TupleLeft t w ss tys (i + 1) end' greatest'
    go [] h e f = absurd (subst (λ ys. HaveShapes t ys []) here h)
    go (s ∷ r) h e f =
        let has : HaveShapes t (y ∷ drop (i + 1) tys) (s ∷ r) = subst (λ ys. HaveShapes t ys (s ∷ r)) here h in
        record {
          rest = r;
          has = has.1;
          ends = e ∙ ap (λ n. end_of_fields n (parts w r)) ((λ j. aligned end (sym (laid s has.0) j) + sym (sized s has.0) j) ∙ sym moved);
          aligns = omega (arith, f, grown, laid s has.0);
        }

payloads_of : (n : ℕ) (ss : List Shape) → payloads (layouts_of (members_from n ss)) ≡ map layout_of ss
payloads_of n [] = refl
payloads_of n (s ∷ ss) = ap (λ l. layout_of s ∷ l) (payloads_of (suc n) ss)

tuple_size : (w : MemoryWidth) (ss : List Shape) → (extent w (layout_of (tuple_of ss))).size ≡ aligned (end_of_fields 0 (parts w ss)) (greatest_align (parts w ss))
tuple_size w ss = ap (λ l. (extent w (record_layout l)).size) (payloads_of 0 ss) ∙ go w
  where
    go : (w : MemoryWidth) → (extent w (record_layout (map layout_of ss))).size ≡ aligned (end_of_fields 0 (parts w ss)) (greatest_align (parts w ss))
    go Memory32 = refl
    go Memory64 = refl

pub tuple_ends : {t : Tables} {w : MemoryWidth} {ss : List Shape} {tys : List InterfaceType} {i end greatest : ℕ} → 1 ≤ greatest → length tys ≤ i → TupleLeft t w ss tys i end greatest → aligned end greatest ≡ (extent w (layout_of (tuple_of ss))).size
tuple_ends {t} {w} {ss} {tys} {i} {end} {greatest} some ge g = go g.rest (subst (λ ys. HaveShapes t ys g.rest) (drop_all i tys ge) g.has) g.ends g.aligns
  where
    go : (r : List Shape) → HaveShapes t [] r → end_of_fields 0 (parts w ss) ≡ end_of_fields end (parts w r) → greatest_align (parts w ss) ≡ max greatest (greatest_align (parts w r)) → aligned end greatest ≡ (extent w (layout_of (tuple_of ss))).size
    go [] h e f =
        let one : max greatest 1 ≡ greatest = omega (arith, some) in
        sym (tuple_size w ss ∙ (λ j. aligned (e j) ((f ∙ one) j)))
    go (s ∷ r) h e f = absurd h
