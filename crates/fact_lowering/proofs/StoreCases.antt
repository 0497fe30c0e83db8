-- Cases that are stored: the number of the case, and its payload behind it.
use Rattle.std.proofs.Common.{◌≡◌, ℕ, zero, suc, ◌+◌, ◌^◌, ◌≤◌, ◌<◌, ◌⊎◌, inl, inr, max, Bool, true, false, List, [], ◌∷◌, length, Option, Some, None, refl, sym, ap, ◌∙◌, subst, arith}
use Rattle.std.specs.Prelude.{option_map, replicate, nat_le, if◌then◌else◌}
use Rattle.std.specs.Str.{bytes_eq}
use Rattle.std.proofs.lemmas.Bool.{leb-true}
use Rattle.fact_types.specs.declared.interface.InterfaceType.{InterfaceType}
use Rattle.fact_types.specs.declared.abi.CanonicalAbiInfo.{CanonicalAbiInfo}
use Rattle.fact_types.specs.declared.sizes.DiscriminantSize.{DiscriminantSize}
use Rattle.fact_types.specs.declared.sizes.DiscriminantSize.TheVariants.{Size1 as one_byte, Size2 as two_bytes, Size4 as four_bytes}
use Rattle.fact_types.specs.declared.extents.MemoryWidth.{MemoryWidth}
use Rattle.fact_types.specs.declared.extents.MemoryWidth.TheVariants.{Memory32, Memory64}
use Rattle.fact_types.specs.Agrees.{chosen, names_of}
use Rattle.fact_types.specs.Layout.{extent, extents, aligned, greatest_align, greatest_size, payloads, payload_offset, variant_layout, variant_extent, discriminant_size, discriminant_bytes}
use Rattle.fact_types.specs.Shapes.{Kind, k_record, k_variant, k_list, k_tuple, k_map, k_flags, k_enum, k_option, k_result, k_fixed, k_future, k_stream, Shape, s_node, Members, no_members, bare, typed, layout_of, layouts_of}
use Rattle.fact_types.specs.Options.{◌>>=◌}
use Rattle.fact_types.specs.Tables.{Tables, HasShape}
use Rattle.fact_types.proofs.AlignLaws.{aligned_bounds}
use Rattle.fact_types.proofs.FieldLaws.{greatest_align_pos}
use Rattle.fact_types.proofs.ShapeLaws.{same_some, none_some}
use Rattle.fact_abi.specs.Finding.{IsFirstNamed, member_type_at}
use Rattle.fact_abi.specs.Nodes.{AreOf}
use Rattle.fact_values.specs.declared.side.SideAbi.{SideAbi}
use Rattle.fact_values.specs.declared.value.Value.{Value}
use Rattle.fact_values.specs.declared.value.Value.TheVariants as value
use Rattle.fact_values.specs.Formed.{AreBare, IsFormed}
use Rattle.fact_values.specs.Handles.{only}
use Rattle.fact_values.specs.IsA.{IsA, HasCase, IsOnePayload}
use Rattle.fact_values.specs.Load.{load, load_case}
use Rattle.fact_values.specs.Numbers.{number_in}
use Rattle.fact_values.specs.Places.{width_of, extent_on, count_of_members, case_bytes, payload_place}
use Rattle.fact_values.proofs.IsALaws.{bytes_are}
use Rattle.fact_lowering.specs.Lowered.{ReadsAt, own_measure, own_room}
use Rattle.fact_lowering.specs.Lowerings.{ReadsCase, own_case}
use Rattle.fact_lowering.specs.Room.{measured, measured_payload, or_own, where_there, shape_named}
use Rattle.fact_lowering.specs.TextForms.{IsByFormAt, IsCaseByFormAt}
use Rattle.fact_lowering.proofs.OwnRooms.{IsCaseKind, own_any}
use Rattle.fact_lowering.proofs.Stored.{there_is}

-- The case of a name at a place among cases, which has a payload of a type.
pub record TypedCase (t : Tables) (side : SideAbi) (ms : Members) (x : List ℕ) (i : ℕ) (y : InterfaceType) : Type 0 where
  pub shape : Shape
  pub shaped : HasShape t y shape
  pub has : (vs : List Value) → HasCase ms x vs → IsOnePayload (λ v. IsA shape v) vs
  pub loads : (b : List ℕ) (a : ℕ) → load_case side b ms i a ≡ option_map (λ w. value.Case x (w ∷ [])) (load side b shape a)
  pub forms : (b : List ℕ) (a : ℕ) → IsByFormAt side b shape a → IsCaseByFormAt side b ms i a
  pub room : (v : Value) (p : Option Shape) → measured_payload (own_measure side) ms x (v ∷ []) p ≡ own_room side shape v
  pub size : (extent_on side shape).size ≤ greatest_size (extents (width_of side) (payloads (layouts_of ms)))
  pub below : i < count_of_members ms

pub typed_case : (t : Tables) (side : SideAbi) (x : List ℕ) (y : InterfaceType) (types : List (Option InterfaceType)) (ms : Members) (i : ℕ) → AreOf t types ms → IsFirstNamed x (names_of ms) i → member_type_at types i ≡ Some y → TypedCase t side ms x i y
unfolding IsA load IsByFormAt measured
typed_case t side x y types no_members i h g e = absurd g
typed_case t side x y [] (bare n ms) i h g e = absurd h
typed_case t side x y (z ∷ zs) (bare n ms) zero h g e = absurd (none_some z y h.0 e)
typed_case t side x y (z ∷ zs) (bare n ms) (suc i) h g e =
    let c = typed_case t side x y zs ms i h.1 g.1 e in
    record {
      shape = c.shape;
      shaped = c.shaped;
      has = λ vs k. c.has vs (subst (λ b. chosen b (vs ≡ []) (HasCase ms x vs)) g.0 k);
      loads = c.loads;
      forms = c.forms;
      room = λ v p. ap (λ (b : Bool). if b then 0 else measured_payload (own_measure side) ms x (v ∷ []) p) g.0 ∙ c.room v p;
      size = c.size;
      below = omega (arith, c.below);
    }
typed_case t side x y [] (typed n s ms) i h g e = absurd h
typed_case t side x y (z ∷ zs) (typed n s ms) zero h g e = record {
  shape = s;
  shaped = subst (λ y. HasShape t y s) (same_some z h.0.0 y h.0.1 e) h.0.2;
  has = λ vs k. subst (λ b. chosen b (IsOnePayload (λ v. IsA s v) vs) (HasCase ms x vs)) g k;
  loads = λ b a. ap (λ n. option_map (λ w. value.Case n (w ∷ [])) (load side b s a)) (bytes_are n x g);
  forms = λ b a f. f;
  room = λ v p. ap (λ (b : Bool). if b then measured (own_measure side) s (or_own s p) v else measured_payload (own_measure side) ms x (v ∷ []) p) g ∙ own_any side s (or_own s p) s v;
  size = omega arith;
  below = omega arith;
}
typed_case t side x y (z ∷ zs) (typed n s ms) (suc i) h g e =
    let c = typed_case t side x y zs ms i h.1 g.1 e in
    record {
      shape = c.shape;
      shaped = c.shaped;
      has = λ vs k. c.has vs (subst (λ b. chosen b (IsOnePayload (λ v. IsA s v) vs) (HasCase ms x vs)) g.0 k);
      loads = c.loads;
      forms = c.forms;
      room = λ v p. ap (λ (b : Bool). if b then measured (own_measure side) s (or_own s p) v else measured_payload (own_measure side) ms x (v ∷ []) p) g.0 ∙ c.room v p;
      size = omega (arith, c.size);
      below = omega (arith, c.below);
    }

-- The same of a case without payload.
pub record BareCase (side : SideAbi) (ms : Members) (x : List ℕ) (i : ℕ) : Type 0 where
  pub has : (vs : List Value) → HasCase ms x vs → vs ≡ []
  pub loads : (b : List ℕ) (a : ℕ) → load_case side b ms i a ≡ Some (value.Case x [])
  pub forms : (b : List ℕ) (a : ℕ) → IsCaseByFormAt side b ms i a
  pub below : i < count_of_members ms

pub bare_case : (t : Tables) (side : SideAbi) (x : List ℕ) (types : List (Option InterfaceType)) (ms : Members) (i : ℕ) → AreOf t types ms → IsFirstNamed x (names_of ms) i → member_type_at types i ≡ None → BareCase side ms x i
unfolding IsA load IsByFormAt
bare_case t side x types no_members i h g e = absurd g
bare_case t side x [] (bare n ms) i h g e = absurd h
bare_case t side x (z ∷ zs) (bare n ms) zero h g e = record {
  has = λ vs k. subst (λ b. chosen b (vs ≡ []) (HasCase ms x vs)) g k;
  loads = λ b a. ap (λ n. Some (value.Case n [])) (bytes_are n x g);
  forms = λ b a. tt;
  below = omega arith;
}
bare_case t side x (z ∷ zs) (bare n ms) (suc i) h g e =
    let c = bare_case t side x zs ms i h.1 g.1 e in
    record {
      has = λ vs k. c.has vs (subst (λ b. chosen b (vs ≡ []) (HasCase ms x vs)) g.0 k);
      loads = c.loads;
      forms = c.forms;
      below = omega (arith, c.below);
    }
bare_case t side x [] (typed n s ms) i h g e = absurd h
bare_case t side x (z ∷ zs) (typed n s ms) zero h g e = absurd (none_some z h.0.0 e h.0.1)
bare_case t side x (z ∷ zs) (typed n s ms) (suc i) h g e =
    let c = bare_case t side x zs ms i h.1 g.1 e in
    record {
      has = λ vs k. c.has vs (subst (λ b. chosen b (IsOnePayload (λ v. IsA s v) vs) (HasCase ms x vs)) g.0 k);
      loads = c.loads;
      forms = c.forms;
      below = omega (arith, c.below);
    }

-- ---- what is read

module _ (side : SideAbi) (b : List ℕ) (ms : Members) (x : List ℕ) (i a : ℕ) (at : number_in b (case_bytes ms) a ≡ Some i) where
  pub reads_bare : BareCase side ms x i → ReadsCase side ms x [] a b
  reads_bare c = (
    ap (λ o. o >>= (λ n. load_case side b ms n (a + payload_place side ms))) at ∙ c.loads b (a + payload_place side ms),
    there_is (number_in b (case_bytes ms) a) i (λ n. IsCaseByFormAt side b ms n (a + payload_place side ms)) at (c.forms b (a + payload_place side ms)),
  )

  pub reads_payload : {t : Tables} {y : InterfaceType} (c : TypedCase t side ms x i y) (v : Value) → ReadsAt side c.shape v (a + payload_place side ms) b → ReadsCase side ms x (v ∷ []) a b
  reads_payload c v r = (
    ap (λ o. o >>= (λ n. load_case side b ms n (a + payload_place side ms))) at ∙ c.loads b (a + payload_place side ms) ∙ ap (option_map (λ w. value.Case x (w ∷ []))) r.0,
    there_is (number_in b (case_bytes ms) a) i (λ n. IsCaseByFormAt side b ms n (a + payload_place side ms)) at (c.forms b (a + payload_place side ms) r.1),
  )

-- ---- places

-- the number of a case fits its bytes
pub case_fits : (n i : ℕ) → i < n → i < 2 ^ 32 → i < 256 ^ discriminant_bytes (discriminant_size n)
case_fits n i lt small = go (nat_le n 256) (nat_le n 65536) refl refl
  where
    go : (a b : Bool) → nat_le n 256 ≡ a → nat_le n 65536 ≡ b → i < 256 ^ discriminant_bytes (if a then one_byte else (if b then two_bytes else four_bytes))
    go true b e f = let le : n ≤ 256 = leb-true n 256 e in omega (arith, lt, le)
    go false true e f = let le : n ≤ 65536 = leb-true n 65536 f in omega (arith, lt, le)
    go false false e f = omega (arith, small)

variant_size : (w : MemoryWidth) (cs : List (Option CanonicalAbiInfo)) → (extent w (variant_layout cs)).size ≡ (variant_extent (discriminant_bytes (discriminant_size (length cs))) (extents w (payloads cs))).size
variant_size Memory32 cs = refl
variant_size Memory64 cs = refl

some_bytes : (z : DiscriminantSize) → 1 ≤ discriminant_bytes z
some_bytes one_byte = omega arith
some_bytes two_bytes = omega arith
some_bytes four_bytes = omega arith

-- the discriminant stands before the payload, and both lie in the variant
pub payload_within : (side : SideAbi) (ms : Members) → (case_bytes ms ≤ payload_place side ms) × (payload_place side ms + greatest_size (extents (width_of side) (payloads (layouts_of ms))) ≤ (extent (width_of side) (variant_layout (layouts_of ms))).size)
payload_within side ms =
    let es = extents (width_of side) (payloads (layouts_of ms)) in
    let d : ℕ = case_bytes ms in
    let some : 1 ≤ d = some_bytes (discriminant_size (count_of_members ms)) in
    ((aligned_bounds d (greatest_align es) (greatest_align_pos es)).0, omega (arith, (aligned_bounds (payload_offset d es + greatest_size es) (max d (greatest_align es)) (omega (arith, some))).0, variant_size (width_of side) (layouts_of ms)))

bare_layouts : (ms : Members) → AreBare ms → layouts_of ms ≡ replicate (length (layouts_of ms)) None
bare_layouts no_members h = refl
bare_layouts (bare n ms) h = ap (λ l. None ∷ l) (bare_layouts ms h)
bare_layouts (typed n s ms) h = absurd h

-- the four kinds of variants are laid out alike
pub variant_laid : (k : Kind) (ms : Members) → IsCaseKind k → IsFormed (s_node k ms) → layout_of (s_node k ms) ≡ variant_layout (layouts_of ms)
variant_laid k_variant ms h f = refl
variant_laid k_option ms h f = refl
variant_laid k_result ms h f = refl
variant_laid k_enum ms h f = ap variant_layout (sym (bare_layouts ms f.0))
variant_laid k_record ms h f = absurd h
variant_laid k_list ms h f = absurd h
variant_laid k_tuple ms h f = absurd h
variant_laid k_map ms h f = absurd h
variant_laid k_flags ms h f = absurd h
variant_laid (k_fixed n) ms h f = absurd h
variant_laid (k_future table instance) ms h f = absurd h
variant_laid (k_stream table instance) ms h f = absurd h
