-- What values call for on their way to a side takes no more bytes than their room.
use Rattle.std.proofs.Common.{◌≡◌, ℕ, zero, suc, ◌+◌, ◌*◌, ◌≤◌, inl, inr, Bool, true, false, List, [], ◌∷◌, ◌++◌, length, map, Option, Some, None, refl, sym, ap, ◌∙◌, subst, arith}
use Rattle.std.specs.Prelude.{max, replicate, sum_by, if◌then◌else◌}
use Rattle.std.specs.List.{zip, flat_map, AllByRecursion}
use Rattle.std.specs.Str.{bytes_eq}
use Rattle.std.proofs.lemmas.List.Sums.{sum_by-cons}
use Rattle.std.proofs.lemmas.Slice.Eq.{bytes_eq-Decides}
use Rattle.fact_types.specs.Agrees.{Agrees, AgreesPlain, AgreesBy, AgreesFields, AgreesCase, AgreesPlaces, BothThere, chosen, first_of, named, names_of}
use Rattle.fact_types.specs.Layout.{extent, extents, greatest_align, discriminant_size, discriminant_bytes, flags_size, flags_extent, payloads, variant_layout}
use Rattle.fact_types.specs.Shapes.{Kind, k_record, k_variant, k_list, k_tuple, k_map, k_flags, k_enum, k_option, k_result, k_fixed, k_future, k_stream, Shape, s_plain, s_node, Members, no_members, bare, typed, plain_layout, repeated_layout, layout_by, layout_of, layouts_of}
use Rattle.fact_types.specs.Valid.{IsRuled, AreRuled, AreDistinct}
use Rattle.fact_types.specs.declared.abi.CanonicalAbiInfo.{CanonicalAbiInfo}
use Rattle.fact_types.specs.declared.interface.InterfaceType.{InterfaceType}
use Rattle.fact_types.specs.declared.interface.InterfaceType.TheVariants as ty
use Rattle.fact_types.specs.declared.sizes.DiscriminantSize.{DiscriminantSize}
use Rattle.fact_types.specs.declared.sizes.DiscriminantSize.TheVariants.{Size1 as one_byte, Size2 as two_bytes, Size4 as four_bytes}
use Rattle.fact_types.specs.declared.sizes.FlagsSize.{FlagsSize}
use Rattle.fact_types.specs.declared.sizes.FlagsSize.TheVariants.{Size0, Size1, Size2, Size4Plus}
use Rattle.fact_types.specs.declared.extents.MemoryWidth.{MemoryWidth}
use Rattle.fact_types.specs.declared.extents.MemoryWidth.TheVariants.{Memory32, Memory64}
use Rattle.fact_types.proofs.ShapeLaws.{none_some, same_some}
use Rattle.fact_values.specs.declared.side.SideAbi.{SideAbi}
use Rattle.fact_values.specs.declared.value.HandleKind.{HandleKind}
use Rattle.fact_values.specs.declared.value.HandleKind.TheVariants.{Future, Stream}
use Rattle.fact_values.specs.declared.value.Value.{Value, out-Value}
use Rattle.fact_values.specs.declared.value.Value.TheOpen.{Value-F}
use Rattle.fact_values.specs.declared.value.Value.TheOpen as o
use Rattle.fact_values.specs.Formed.{AreBare}
use Rattle.fact_values.specs.Handles.{table_number_of, value_named, only}
use Rattle.fact_values.specs.IsA.{IsA, AreMembers, HasCase, IsElement, IsOnePayload, IsCase, IsRecord, IsTuple, IsListOf, IsFixedList, IsMap}
use Rattle.fact_values.specs.Limits.{CaseType, case_type}
use Rattle.fact_values.specs.Numbers.{Plain, boolean, unsigned, signed, float32, float64, character, handle, text, nothing, plain_of}
use Rattle.fact_values.specs.Opened.{fields_in, members_in, elements_in, map_entries_in, case_in, number_of_handle}
use Rattle.fact_values.specs.Places.{first_layout, element_layout, width_of, typed_names}
use Rattle.fact_action_laws.specs.Items.{ValueItem, HandleItem, TextItem, of_some, chars_in, handle_item, items_plain, items, items_fields, items_case, items_places, items_element, region_item}
use Rattle.fact_action_laws.specs.MoveTerms.{AreTyped, IsWellFormed, AreWellFormed}
use Rattle.fact_action_laws.proofs.Counted.{member_named, named_known, zip_parts}
use Rattle.fact_action_laws.proofs.Distinct.{distinct_later, each_agrees, places_agree}
use Rattle.fact_action_laws.proofs.Weights.{In, in_at, less_of, fields_in_source}
use Rattle.fact_action_laws.specs.Rooms.{item_bytes, items_bytes}
use Rattle.fact_host.specs.Fitting.{ItemsFit}
use Rattle.fact_lowering.specs.Room.{where_there, text_in, measured_plain, shape_named, or_own, measured, measured_fields, measured_payload, measured_places, measured_element, greatest_bytes, inner_room}

-- ---- alignments are at most 8

discriminant_most : (d : DiscriminantSize) → discriminant_bytes d ≤ 8
discriminant_most one_byte = omega arith
discriminant_most two_bytes = omega arith
discriminant_most four_bytes = omega arith

flags_most : (f : FlagsSize) → (flags_extent f).align ≤ 8
flags_most Size0 = omega arith
flags_most Size1 = omega arith
flags_most Size2 = omega arith
flags_most (Size4Plus n) = omega arith

max_most : (a b : ℕ) → a ≤ 8 → b ≤ 8 → max a b ≤ 8
max_most a b h k = grind (arith, h, k)

abbrev AlignMost : CanonicalAbiInfo → Type 0
AlignMost l = (l.align32 ≤ 8) × (l.align64 ≤ 8)

abbrev AllMost : List (Option CanonicalAbiInfo) → Type 0
AllMost [] = Unit {0}
AllMost (None ∷ ls) = AllMost ls
AllMost (Some l ∷ ls) = AlignMost l × AllMost ls

greatest_most : (w : MemoryWidth) (ls : List (Option CanonicalAbiInfo)) → AllMost ls → greatest_align (extents w (payloads ls)) ≤ 8
greatest_most w [] h = omega arith
greatest_most w (None ∷ ls) h = greatest_most w ls h
greatest_most Memory32 (Some l ∷ ls) h = max_most l.align32 (greatest_align (extents Memory32 (payloads ls))) h.0.0 (greatest_most Memory32 ls h.1)
greatest_most Memory64 (Some l ∷ ls) h = max_most l.align64 (greatest_align (extents Memory64 (payloads ls))) h.0.1 (greatest_most Memory64 ls h.1)

nones_most : (n : ℕ) → AllMost (replicate n None)
nones_most zero = tt
nones_most (suc n) = nones_most n

variant_most : (ls : List (Option CanonicalAbiInfo)) → AllMost ls → AlignMost (variant_layout ls)
variant_most ls h = (
  max_most _ (greatest_align (extents Memory32 (payloads ls))) (discriminant_most (discriminant_size (length ls))) (greatest_most Memory32 ls h),
  max_most _ (greatest_align (extents Memory64 (payloads ls))) (discriminant_most (discriminant_size (length ls))) (greatest_most Memory64 ls h),
)

first_most : (ls : List (Option CanonicalAbiInfo)) → AllMost ls → AlignMost (first_layout (payloads ls))
first_most [] h = (omega arith, omega arith)
first_most (None ∷ ls) h = first_most ls h
first_most (Some l ∷ ls) h = h.0

repeated_most : (n : ℕ) (ls : List (Option CanonicalAbiInfo)) → AllMost ls → AlignMost (repeated_layout n (payloads ls))
repeated_most n [] h = (omega arith, omega arith)
repeated_most n (None ∷ ls) h = repeated_most n ls h
repeated_most n (Some l ∷ ls) h = h.0

by_most : (k : Kind) (ls : List (Option CanonicalAbiInfo)) → AllMost ls → AlignMost (layout_by k ls)
by_most k_record ls h = (greatest_most Memory32 ls h, greatest_most Memory64 ls h)
by_most k_variant ls h = variant_most ls h
by_most k_list ls h = (omega arith, omega arith)
by_most k_tuple ls h = (greatest_most Memory32 ls h, greatest_most Memory64 ls h)
by_most k_map ls h = (omega arith, omega arith)
by_most k_flags ls h = (flags_most (flags_size (length ls)), flags_most (flags_size (length ls)))
by_most k_enum ls h = variant_most (replicate (length ls) None) (nones_most (length ls))
by_most k_option ls h = variant_most ls h
by_most k_result ls h = variant_most ls h
by_most (k_fixed n) ls h = repeated_most n ls h
by_most (k_future t i) ls h = (omega arith, omega arith)
by_most (k_stream t i) ls h = (omega arith, omega arith)

plain_most : (p : InterfaceType) → AlignMost (plain_layout p)
plain_most ty.Bool = (omega arith, omega arith)
plain_most ty.S8 = (omega arith, omega arith)
plain_most ty.U8 = (omega arith, omega arith)
plain_most ty.S16 = (omega arith, omega arith)
plain_most ty.U16 = (omega arith, omega arith)
plain_most ty.S64 = (omega arith, omega arith)
plain_most ty.U64 = (omega arith, omega arith)
plain_most ty.Float64 = (omega arith, omega arith)
plain_most ty.String = (omega arith, omega arith)
plain_most p = (omega arith, omega arith)

mutual
  pub layout_most : (s : Shape) → AlignMost (layout_of s)
  layout_most (s_plain p) = plain_most p
  layout_most (s_node k ms) = by_most k (layouts_of ms) (layouts_most ms)

  layouts_most : (ms : Members) → AllMost (layouts_of ms)
  layouts_most no_members = tt
  layouts_most (bare n ms) = layouts_most ms
  layouts_most (typed n s ms) = (layout_most s, layouts_most ms)

-- ---- regions

times_more : (n a b : ℕ) → a ≤ b → n * a ≤ n * b
times_more zero a b h = omega arith
times_more (suc n) a b h = let r = times_more n a b h in omega (arith, h, r)

pub align_in : (w : MemoryWidth) (l : CanonicalAbiInfo) → AlignMost l → (extent w l).align ≤ 8
align_in Memory32 l h = h.0
align_in Memory64 l h = h.1

pub size_in : (w : MemoryWidth) (a l : CanonicalAbiInfo) → (extent w l).size ≤ greatest_bytes a l
size_in Memory32 a l = grind arith
size_in Memory64 a l = grind arith

module _ (side : SideAbi) where
  region_fits : (k : Kind) (ms ns : Members) (n : ℕ) → AlignMost (element_layout k ns) → item_bytes (region_item side k ns n) ≤ 8 + n * greatest_bytes (element_layout k ms) (element_layout k ns)
  region_fits k ms ns n h =
      let a = align_in (width_of side) (element_layout k ns) h in
      let m = times_more n (extent (width_of side) (element_layout k ns)).size (greatest_bytes (element_layout k ms) (element_layout k ns)) (size_in (width_of side) (element_layout k ms) (element_layout k ns)) in
      omega (arith, a, m)

  -- ---- sums

  items_append : (is js : List ValueItem) → items_bytes (is ++ js) ≡ items_bytes is + items_bytes js
  items_append [] js = omega arith
  items_append (i ∷ is) js = let r = items_append is js in omega (arith, r)

  each_fits : {A : Type 0} (F : A → List ValueItem) (g : A → ℕ) (Is : A → Type 0) → ((a : A) → Is a → items_bytes (F a) ≤ g a) → (xs : List A) → AllByRecursion Is xs → items_bytes (flat_map F xs) ≤ sum_by g xs
  each_fits F g Is h [] all = omega arith
  each_fits F g Is h (x ∷ xs) all = omega (arith, items_append (F x) (flat_map F xs), h x all.0, each_fits F g Is h xs all.1, sum_by-cons g x xs)

  some_none : {A : Type 0} (q : Option A) (f : A → List ValueItem) → ((a : A) → items_bytes (f a) ≡ 0) → items_bytes (of_some q f) ≡ 0
  some_none None f h = refl
  some_none (Some a) f h = h a

  -- ---- plain types

  text_fits : (w : Value-F Value) → items_bytes (of_some (chars_in w) (λ cs. TextItem cs ∷ [])) ≤ where_there (text_in w) (λ cs. 8 + 16 * length cs)
  text_fits (o.Str cs) = omega arith
  text_fits _ = omega arith

  plain_fits : (p : Plain) (from : ℕ) (v : Value) → items_bytes (items_plain from p v) ≤ measured_plain inner_room p v
  plain_fits text from v = text_fits (out-Value v)
  plain_fits (handle kind table) from v = let e = some_none (number_of_handle (out-Value v)) (λ n. HandleItem (record { kind = kind; number = n; from = from; to = table }) ∷ []) (λ n. refl) in omega (arith, e)
  plain_fits boolean from v = omega arith
  plain_fits (unsigned n) from v = omega arith
  plain_fits (signed n) from v = omega arith
  plain_fits float32 from v = omega arith
  plain_fits float64 from v = omega arith
  plain_fits character from v = omega arith
  plain_fits nothing from v = omega arith

  -- a type that agrees with a plain one is that type, or a handle of the same kind
  handles_fit : (kind : HandleKind) (from to : ℕ) (v : Value) (n : ℕ) → items_bytes (handle_item kind from to v) ≤ n
  handles_fit kind from to v n = let e = some_none (number_of_handle (out-Value v)) (λ m. HandleItem (record { kind = kind; number = m; from = from; to = to }) ∷ []) (λ m. refl) in omega (arith, e)

  to_plain_fits : (q : InterfaceType) (t : Shape) (v : Value) → AgreesPlain q t → items_bytes (items_plain (table_number_of t) (plain_of q) v) ≤ measured inner_room t (s_plain q) v
  unfolding measured
  to_plain_fits (ty.Own j) (s_plain (ty.Own i)) v a = handles_fit _ _ _ v _
  to_plain_fits (ty.Borrow j) (s_plain (ty.Borrow i)) v a = handles_fit _ _ _ v _
  to_plain_fits (ty.ErrorContext j) (s_plain (ty.ErrorContext i)) v a = handles_fit _ _ _ v _
  to_plain_fits q (s_plain p) v a = subst (λ r. items_bytes (items_plain (table_number_of (s_plain p)) (plain_of r) v) ≤ measured_plain inner_room (plain_of p) v) a (plain_fits (plain_of p) (table_number_of (s_plain p)) v)
  to_plain_fits q (s_node k ms) v a = absurd a

  -- ---- members by name

  abbrev field_room : Option Shape → Option Value → Shape → ℕ
  field_room (Some s) (Some v) d = measured inner_room s d v
  field_room _ _ d = 0

  abbrev fields_room : Members → List (List ℕ × Value) → Members → ℕ
  fields_room ms fs no_members = 0
  fields_room ms fs (bare x ns) = fields_room ms fs ns
  fields_room ms fs (typed x d ns) = field_room (named x ms) (value_named x fs) d + fields_room ms fs ns

  abbrev payload_room : Option Shape → List Value → Option Shape → ℕ
  payload_room (Some s) (v ∷ []) q = measured inner_room s (or_own s q) v
  payload_room _ vs q = 0

  -- a member that is of a name, or behind one of another
  same_name : (x : List ℕ) → bytes_eq x x ≡ true
  same_name x = (bytes_eq-Decides x x).1 refl

  in_shapes : (x : List ℕ) (ns : Members) (d : Shape) → shape_named x ns ≡ Some d → In x (names_of ns)
  in_shapes x no_members d h = absurd (none_some None d refl h)
  in_shapes x (bare n ns) d h = go (bytes_eq n x) (λ k. in_shapes x ns d k) h
    where
      go : (b : Bool) → (shape_named x ns ≡ Some d → In x (names_of ns)) → (if b then None else shape_named x ns) ≡ Some d → In x (n ∷ names_of ns)
      go true more h = absurd (none_some None d refl h)
      go false more h = inr (more h)
  in_shapes x (typed n u ns) d h = go (bytes_eq n x) refl (λ k. in_shapes x ns d k) h
    where
      go : (b : Bool) → bytes_eq n x ≡ b → (shape_named x ns ≡ Some d → In x (names_of ns)) → (if b then Some u else shape_named x ns) ≡ Some d → In x (n ∷ names_of ns)
      go true e more h = inl ((bytes_eq-Decides n x).0 e)
      go false e more h = inr (more h)

  apart : (n y : List ℕ) (xs : List (List ℕ)) → AreDistinct (n ∷ xs) → In y xs → bytes_eq n y ≡ false
  apart n y xs d h = go (bytes_eq n y) refl
    where
      go : (b : Bool) → bytes_eq n y ≡ b → b ≡ false
      go false e = refl
      go true e = absurd (let k = in_at y xs h in let bad : 0 ≡ suc k.0 = d 0 (suc k.0) y (ap (λ z. Some z) ((bytes_eq-Decides n y).0 e)) k.1 in omega (arith, bad))

  -- what a field takes, by its name
  abbrev field_named : Members → List ℕ → Option Shape → Option Value → ℕ
  field_named ns x (Some s) (Some v) = measured inner_room s (or_own s (shape_named x ns)) v
  field_named ns x _ _ = 0

  abbrev named_room : Members → List (List ℕ × Value) → Members → List ℕ → ℕ
  named_room ms fs ns x = field_named ns x (named x ms) (value_named x fs)

  -- the fields of the last of a destination's members
  by_destination : (ms : Members) (fs : List (List ℕ × Value)) (whole ns : Members) → AreTyped ns → AreDistinct (names_of ns) → ((x : List ℕ) (d : Shape) → shape_named x ns ≡ Some d → shape_named x whole ≡ Some d)
      → fields_room ms fs ns ≤ sum_by (named_room ms fs whole) (names_of ns)
  by_destination ms fs whole no_members t d k = omega arith
  by_destination ms fs whole (bare x ns) t d k = absurd t
  by_destination ms fs whole (typed x u ns) t d k =
      let there : shape_named x whole ≡ Some u = k x u (ap (λ b. if b then Some u else shape_named x ns) (same_name x)) in
      let more = by_destination ms fs whole ns t (distinct_later x (names_of ns) d) (λ y v h. k y v (ap (λ b. if b then Some u else shape_named y ns) (apart x y (names_of ns) d (in_shapes y ns v h)) ∙ h)) in
      let here : field_room (named x ms) (value_named x fs) u ≡ named_room ms fs whole x = same (named x ms) (value_named x fs) there in
      omega (arith, here, more, sum_by-cons (named_room ms fs whole) x (names_of ns))
    where
      same : (q : Option Shape) (r : Option Value) → shape_named x whole ≡ Some u → field_room q r u ≡ field_named whole x q r
      same None r e = refl
      same (Some s) None e = refl
      same (Some s) (Some v) e = ap (λ o. measured inner_room s (or_own s o) v) (sym e)

  in_named : (x : List ℕ) (ms : Members) (s : Shape) → named x ms ≡ Some s → In x (names_of ms)
  in_named x no_members s h = absurd (none_some None s refl h)
  in_named x (bare n ms) s h = inr (in_named x ms s h)
  in_named x (typed n t ms) s h = go (bytes_eq n x) refl (λ k. in_named x ms s k) h
    where
      go : (b : Bool) → bytes_eq n x ≡ b → (named x ms ≡ Some s → In x (names_of ms)) → first_of b (Some t) (named x ms) ≡ Some s → In x (n ∷ names_of ms)
      go true e more h = inl ((bytes_eq-Decides n x).0 e)
      go false e more h = inr (more h)

  -- Those of the last of a source's members, of which each is the first of its name.
  by_source : (whole_ms : Members) (whole_fs : List (List ℕ × Value)) (ns ms : Members) (fs : List (List ℕ × Value)) → AreTyped ms → AreDistinct (names_of ms) → map (λ f. f.0) fs ≡ typed_names ms
      → ((x : List ℕ) (s : Shape) (v : Value) → named x ms ≡ Some s → value_named x fs ≡ Some v → (named x whole_ms ≡ Some s) × (value_named x whole_fs ≡ Some v))
      → sum_by (named_room whole_ms whole_fs ns) (names_of ms) ≤ measured_fields inner_room ms fs ns
  unfolding measured_fields
  by_source wms wfs ns no_members fs t d e k = omega arith
  by_source wms wfs ns (bare x ms) fs t d e k = absurd t
  by_source wms wfs ns (typed x s ms) [] t d e k = absurd (let l : 0 ≡ suc (length (typed_names ms)) = ap length e in omega (arith, l))
  by_source wms wfs ns (typed x s ms) ((n, v) ∷ fs) t d e k =
      let is : n ≡ x = cc in
      let others : map (λ f. f.0) fs ≡ typed_names ms = cc in
      let found : value_named x ((n, v) ∷ fs) ≡ Some v = ap (λ b. if b then Some v else value_named x fs) (ap (λ y. bytes_eq y x) is ∙ same_name x) in
      let first = k x s v (ap (λ b. first_of b (Some s) (named x ms)) (same_name x)) found in
      let here : named_room wms wfs ns x ≡ measured inner_room s (or_own s (shape_named x ns)) v = ap (λ q. field_named ns x q (value_named x wfs)) first.0 ∙ ap (λ r. field_named ns x (Some s) r) first.1 in
      let more = by_source wms wfs ns ms fs t (distinct_later x (names_of ms) d) others (λ y u w h i.
      let far : bytes_eq x y ≡ false = apart x y (names_of ms) d (in_named y ms u h) in
      k y u w (ap (λ b. first_of b (Some s) (named y ms)) far ∙ h) (ap (λ b. if b then Some v else value_named y fs) (ap (λ z. bytes_eq z y) is ∙ far) ∙ i)) in
      omega (arith, here, more, sum_by-cons (named_room wms wfs ns) x (names_of ms))

  -- the fields of a record, in the order of the destination
  record_fits : (ms ns : Members) (fs : List (List ℕ × Value)) → AreTyped ms → AreTyped ns → AreDistinct (names_of ms) → AreDistinct (names_of ns) → AgreesFields ms ns → map (λ f. f.0) fs ≡ typed_names ms → fields_room ms fs ns ≤ measured_fields inner_room ms fs ns
  record_fits ms ns fs t u d e a names =
      let one = by_destination ms fs ns ns u e (λ x d h. h) in
      let two = less_of (named_room ms fs ns) (names_of ns) (names_of ms) e (λ z h. fields_in_source ms ns z u a h) in
      let three = by_source ms fs ns ms fs t d names (λ x s v h i. (h, i)) in
      omega (arith, one, two, three)

  -- ---- what is to be shown of members of a destination

  abbrev FieldsFit : Members → Type 0
  FieldsFit ns =
      (ms : Members) (fs : List (List ℕ × Value)) → AgreesFields ms ns → AreRuled ms → AreWellFormed ms → ((x : List ℕ) (s : Shape) (v : Value) → named x ms ≡ Some s → value_named x fs ≡ Some v → IsA s v)
      → items_bytes (items_fields side ms fs ns) ≤ fields_room ms fs ns

  -- what is known of the payload of a case
  abbrev IsKnownPayload : List ℕ → Option Shape → List Value → Members → Type 0
  IsKnownPayload x p vs ns = (s : Shape) → p ≡ Some s → AgreesCase x (Some s) ns × IsRuled s × IsWellFormed s × ((v : Value) → vs ≡ v ∷ [] → IsA s v)

  abbrev CaseFits : Members → Type 0
  CaseFits ns = (p : Option Shape) (x : List ℕ) (vs : List Value) → IsKnownPayload x p vs ns → items_bytes (items_case side p x vs ns) ≤ payload_room p vs (shape_named x ns)

  abbrev PlacesFit : Members → Type 0
  PlacesFit ns = (ms : Members) (vs : List Value) → AgreesPlaces ms ns → AreRuled ms → AreWellFormed ms → AreMembers ms vs → items_bytes (items_places side ms vs ns) ≤ measured_places inner_room ms vs ns

  abbrev ElementFits : Members → Type 0
  ElementFits ns = (ms : Members) (v : Value) → AgreesPlaces ms ns → AreRuled ms → AreWellFormed ms → IsElement ms v → items_bytes (items_element side ms v ns) ≤ measured_element inner_room ms v ns

  -- ---- cases

  -- the payload of a case that the value has
  case_payload : (ms : Members) (x : List ℕ) (vs : List Value) (s : Shape) (v : Value) → HasCase ms x vs → named x ms ≡ Some s → vs ≡ v ∷ [] → IsA s v
  unfolding HasCase
  case_payload no_members x vs s v h n e = absurd h
  case_payload (bare y ms) x vs s v h n e = go (bytes_eq y x) (λ k. case_payload ms x vs s v k n e) h
    where
      go : (b : Bool) → (HasCase ms x vs → IsA s v) → chosen b (vs ≡ []) (HasCase ms x vs) → IsA s v
      go true more h = absurd (let l : 1 ≡ 0 = sym (ap length e) ∙ ap length h in omega (arith, l))
      go false more h = more h
  case_payload (typed y t ms) x vs s v h n e = go (bytes_eq y x) (λ k i. case_payload ms x vs s v k i e) h n
    where
      go : (b : Bool) → (HasCase ms x vs → named x ms ≡ Some s → IsA s v) → chosen b (IsOnePayload (λ v. IsA t v) vs) (HasCase ms x vs) → first_of b (Some t) (named x ms) ≡ Some s → IsA s v
      go true more h n = subst (λ s. IsA s v) (same_some (Some t) t s refl n) (subst (IsOnePayload (λ v. IsA t v)) e h)
      go false more h n = more h n

  case_measures : (ms : Members) (x : List ℕ) (vs : List Value) (q : Option Shape) → HasCase ms x vs → payload_room (named x ms) vs q ≤ measured_payload inner_room ms x vs q
  unfolding HasCase measured_payload
  case_measures no_members x vs q h = absurd h
  case_measures (bare y ms) x vs q h = go (bytes_eq y x) (λ k. case_measures ms x vs q k) h
    where
      empty : (p : Option Shape) → vs ≡ [] → payload_room p vs q ≤ 0
      empty None e = omega arith
      empty (Some s) e = let z : payload_room (Some s) vs q ≡ 0 = ap (λ vs. payload_room (Some s) vs q) e in omega (arith, z)

      go : (b : Bool) → (HasCase ms x vs → payload_room (named x ms) vs q ≤ measured_payload inner_room ms x vs q) → chosen b (vs ≡ []) (HasCase ms x vs) → payload_room (named x ms) vs q ≤ (if b then 0 else measured_payload inner_room ms x vs q)
      go true more h = empty (named x ms) h
      go false more h = more h
  case_measures (typed y t ms) x vs q h = go (bytes_eq y x) (λ k. case_measures ms x vs q k) h
    where
      here : (vs : List Value) → payload_room (Some t) vs q ≤ where_there (only vs) (λ v. measured inner_room t (or_own t q) v)
      here [] = omega arith
      here (v ∷ []) = omega arith
      here (v ∷ (w ∷ vs)) = omega arith

      go : (b : Bool) → (HasCase ms x vs → payload_room (named x ms) vs q ≤ measured_payload inner_room ms x vs q) → chosen b (IsOnePayload (λ v. IsA t v) vs) (HasCase ms x vs)
          → payload_room (first_of b (Some t) (named x ms)) vs q ≤ (if b then where_there (only vs) (λ v. measured inner_room t (or_own t q) v) else measured_payload inner_room ms x vs q)
      go true more h = here vs
      go false more h = more h

  sum_fits : (ms ns : Members) (w : Value-F Value) → ((x : List ℕ) (vs : List Value) → HasCase ms x vs → IsKnownPayload x (named x ms) vs ns) → CaseFits ns → IsCase (λ x vs. HasCase ms x vs) w
      → items_bytes (of_some (case_in w) (λ c. items_case side (named c.name ms) c.name c.payload ns)) ≤ where_there (case_in w) (λ c. measured_payload inner_room ms c.name c.payload (shape_named c.name ns))
  sum_fits ms ns (o.Case x vs) known C h =
      let one = C (named x ms) x vs (known x vs h) in
      let two = case_measures ms x vs (shape_named x ns) h in
      omega (arith, one, two)
  sum_fits ms ns _ known C h = absurd h

  -- the number of a case with a payload
  record Numbered (ms : Members) (x : List ℕ) (s : Shape) : Type 0 where
    number : ℕ
    is : case_type ms number ≡ Some (record { name = x; payload = Some s })

  numbered : (ms : Members) (x : List ℕ) (s : Shape) → named x ms ≡ Some s → Numbered ms x s
  numbered no_members x s h = absurd (none_some None s refl h)
  numbered (bare y ms) x s h = let r = numbered ms x s h in record { number = suc r.number; is = r.is }
  numbered (typed y t ms) x s h = go (bytes_eq y x) refl (λ k. numbered ms x s k) h
    where
      go : (b : Bool) → bytes_eq y x ≡ b → (named x ms ≡ Some s → Numbered ms x s) → first_of b (Some t) (named x ms) ≡ Some s → Numbered (typed y t ms) x s
      go true e more h = record { number = 0; is = ap (λ n. Some (record { name = n; payload = Some t })) ((bytes_eq-Decides y x).0 e) ∙ ap (λ p. Some (record { name = x; payload = p })) h }
      go false e more h = let r = more h in record { number = suc r.number; is = r.is }

  known_by : (ms ns : Members) → AreRuled ms → AreWellFormed ms → ((n : ℕ) (k : CaseType) → case_type ms n ≡ Some k → AgreesCase k.name k.payload ns) → (x : List ℕ) (vs : List Value) → HasCase ms x vs → IsKnownPayload x (named x ms) vs ns
  known_by ms ns r f agree x vs h = λ s e.
      let n = numbered ms x s e in
      let k = named_known x ms r f s e in
      (agree n.number (record { name = x; payload = Some s }) n.is, k.0, k.1, λ v i. case_payload ms x vs s v h e i)

  -- cases without payloads call for nothing
  bare_fits : (p : Option Shape) (x : List ℕ) (vs : List Value) (ns : Members) → AreBare ns → items_case side p x vs ns ≡ []
  unfolding items_case
  bare_fits p x vs no_members h = refl
  bare_fits p x vs (bare n ns) h = go (bytes_eq n x) (bare_fits p x vs ns h)
    where
      go : (b : Bool) → items_case side p x vs ns ≡ [] → (if b then [] else items_case side p x vs ns) ≡ []
      go true e = refl
      go false e = e
  bare_fits p x vs (typed n d ns) h = absurd h

  enum_fits : (ms ns : Members) (w : Value-F Value) (n : ℕ) → AreBare ns → items_bytes (of_some (case_in w) (λ c. items_case side (named c.name ms) c.name c.payload ns)) ≤ n
  enum_fits ms ns w n h = let e = some_none (case_in w) (λ c. items_case side (named c.name ms) c.name c.payload ns) (λ c. ap items_bytes (bare_fits (named c.name ms) c.name c.payload ns h)) in omega (arith, e)

  -- ---- the other kinds

  fields_fit : (ms ns : Members) (w : Value-F Value) → AreTyped ms → AreTyped ns → AreDistinct (names_of ms) → AreDistinct (names_of ns) → AgreesFields ms ns → AreRuled ms → AreWellFormed ms → FieldsFit ns → IsRecord ms (λ vs. AreMembers ms vs) w
      → items_bytes (of_some (fields_in w) (λ fs. items_fields side ms fs ns)) ≤ where_there (fields_in w) (λ fs. measured_fields inner_room ms fs ns)
  fields_fit ms ns (o.Record fs) t u d e a r f F h =
      let vs = map (λ f. f.1) fs in
      let zipped : zip (typed_names ms) vs ≡ fs = ap (λ l. zip l vs) (sym h.0) ∙ zip_parts fs in
      let one = F ms fs a r f (λ x s v i j. member_named ms vs x s v t h.1 i (ap (value_named x) zipped ∙ j)) in
      let two = record_fits ms ns fs t u d e a h.0 in
      omega (arith, one, two)
  fields_fit ms ns _ t u d e a r f F h = absurd h

  tuple_fits : (ms ns : Members) (w : Value-F Value) → AgreesPlaces ms ns → AreRuled ms → AreWellFormed ms → PlacesFit ns → IsTuple (λ vs. AreMembers ms vs) w
      → items_bytes (of_some (members_in w) (λ vs. items_places side ms vs ns)) ≤ where_there (members_in w) (λ vs. measured_places inner_room ms vs ns)
  tuple_fits ms ns (o.Tuple vs) a r f P h = P ms vs a r f h
  tuple_fits ms ns _ a r f P h = absurd h

  list_fits : (ms ns : Members) (w : Value-F Value) → AgreesPlaces ms ns → AreRuled ms → AreWellFormed ms → ElementFits ns → IsListOf (λ v. IsElement ms v) w
      → items_bytes (of_some (elements_in w) (λ vs. region_item side k_list ns (length vs) ∷ flat_map (λ v. items_element side ms v ns) vs))
      ≤ where_there (elements_in w) (λ vs. (8 + length vs * greatest_bytes (element_layout k_list ms) (element_layout k_list ns)) + sum_by (λ v. measured_element inner_room ms v ns) vs)
  list_fits ms ns (o.List vs) a r f E h =
      let one = region_fits k_list ms ns (length vs) (first_most (layouts_of ns) (layouts_most ns)) in
      let two = each_fits (λ v. items_element side ms v ns) (λ v. measured_element inner_room ms v ns) (IsElement ms) (λ v k. E ms v a r f k) vs h in
      omega (arith, one, two)
  list_fits ms ns _ a r f E h = absurd h

  fixed_fits : (n : ℕ) (ms ns : Members) (w : Value-F Value) → AgreesPlaces ms ns → AreRuled ms → AreWellFormed ms → ElementFits ns → IsFixedList n (λ v. IsElement ms v) w
      → items_bytes (of_some (elements_in w) (flat_map (λ v. items_element side ms v ns))) ≤ where_there (elements_in w) (sum_by (λ v. measured_element inner_room ms v ns))
  fixed_fits n ms ns (o.List vs) a r f E h = each_fits (λ v. items_element side ms v ns) (λ v. measured_element inner_room ms v ns) (IsElement ms) (λ v k. E ms v a r f k) vs h.1
  fixed_fits n ms ns _ a r f E h = absurd h

  map_fits : (ms ns : Members) (w : Value-F Value) → AgreesPlaces ms ns → AreRuled ms → AreWellFormed ms → PlacesFit ns → IsMap (λ vs. AreMembers ms vs) w
      → items_bytes (of_some (map_entries_in w) (λ es. region_item side k_map ns (length es) ∷ flat_map (λ e. items_places side ms (e.0 ∷ e.1 ∷ []) ns) es))
      ≤ where_there (map_entries_in w) (λ es. (8 + length es * greatest_bytes (element_layout k_map ms) (element_layout k_map ns)) + sum_by (λ e. measured_places inner_room ms (e.0 ∷ e.1 ∷ []) ns) es)
  map_fits ms ns (o.Map es) a r f P h =
      let one = region_fits k_map ms ns (length es) (greatest_most Memory32 (layouts_of ns) (layouts_most ns), greatest_most Memory64 (layouts_of ns) (layouts_most ns)) in
      let two = each_fits (λ e. items_places side ms (e.0 ∷ e.1 ∷ []) ns) (λ e. measured_places inner_room ms (e.0 ∷ e.1 ∷ []) ns) (λ e. AreMembers ms (e.0 ∷ e.1 ∷ [])) (λ e k. P ms (e.0 ∷ e.1 ∷ []) a r f k) es h in
      omega (arith, one, two)
  map_fits ms ns _ a r f P h = absurd h

  node_fits : (l : Kind) (t : Shape) (ns : Members) → AgreesBy l t ns (λ ms. AgreesFields ms ns) (λ x p. AgreesCase x p ns) (λ ms. AgreesPlaces ms ns) → IsRuled t → IsRuled (s_node l ns) → IsWellFormed t → IsWellFormed (s_node l ns)
      → FieldsFit ns → CaseFits ns → PlacesFit ns → ElementFits ns → (v : Value) → IsA t v → items_bytes (items side t (s_node l ns) v) ≤ measured inner_room t (s_node l ns) v
  unfolding items measured IsA
  node_fits k_record (s_node k_record ms) ns a rt ru ft fu F C P E v h = fields_fit ms ns (out-Value v) ft.0 fu.0 rt.0.distinct ru.0.distinct a.fields rt.1 ft.1 F h
  node_fits k_tuple (s_node k_tuple ms) ns a rt ru ft fu F C P E v h = tuple_fits ms ns (out-Value v) a rt.1 ft.1 P h
  node_fits k_variant (s_node k_variant ms) ns a rt ru ft fu F C P E v h = sum_fits ms ns (out-Value v) (known_by ms ns rt.1 ft.1 (λ n k e. each_agrees ms ns n k a e)) C h
  node_fits k_option (s_node k_option ms) ns a rt ru ft fu F C P E v h = sum_fits ms ns (out-Value v) (known_by ms ns rt.1 ft.1 (λ n k e. places_agree ms ns n k a (ft.0 ∙ sym fu.0) ru.0.distinct e)) C h
  node_fits k_result (s_node k_result ms) ns a rt ru ft fu F C P E v h = sum_fits ms ns (out-Value v) (known_by ms ns rt.1 ft.1 (λ n k e. places_agree ms ns n k a (ft.0 ∙ sym fu.0) ru.0.distinct e)) C h
  node_fits k_enum (s_node k_enum ms) ns a rt ru ft fu F C P E v h = enum_fits ms ns (out-Value v) _ fu.0
  node_fits k_flags (s_node k_flags ms) ns a rt ru ft fu F C P E v h = omega arith
  node_fits k_list (s_node k_list ms) ns a rt ru ft fu F C P E v h = list_fits ms ns (out-Value v) a rt.1 ft.1 E h
  node_fits k_map (s_node k_map ms) ns a rt ru ft fu F C P E v h = map_fits ms ns (out-Value v) a rt.1 ft.1 P h
  node_fits (k_fixed m) (s_node (k_fixed n) ms) ns a rt ru ft fu F C P E v h = fixed_fits n ms ns (out-Value v) a.1 rt.1 ft.1 E h
  node_fits (k_future u j) (s_node (k_future t i) ms) ns a rt ru ft fu F C P E v h = handles_fit Future _ u v _
  node_fits (k_stream u j) (s_node (k_stream t i) ms) ns a rt ru ft fu F C P E v h = handles_fit Stream _ u v _
  node_fits l t ns a rt ru ft fu F C P E v h = absurd a

  -- ---- the induction

  field_fits : (d : Shape) (q : Option Shape) (r : Option Value) → BothThere q (λ s. Agrees s d) → ((s : Shape) → q ≡ Some s → IsRuled s × IsWellFormed s) → ((s : Shape) (v : Value) → q ≡ Some s → r ≡ Some v → IsA s v)
      → ((s : Shape) (v : Value) → Agrees s d → IsRuled s → IsWellFormed s → IsA s v → items_bytes (items side s d v) ≤ measured inner_room s d v)
      → items_bytes (of_some q (λ s. of_some r (λ v. items side s d v))) ≤ field_room q r d
  field_fits d None r a k are one = absurd a
  field_fits d (Some s) None a k are one = omega arith
  field_fits d (Some s) (Some v) a k are one = one s v a (k s refl).0 (k s refl).1 (are s v refl refl)

  case_hit : (x : List ℕ) (d : Shape) (p : Option Shape) (vs : List Value) → ((s : Shape) → p ≡ Some s → Agrees s d × IsRuled s × IsWellFormed s × ((v : Value) → vs ≡ v ∷ [] → IsA s v))
      → ((s : Shape) (v : Value) → Agrees s d → IsRuled s → IsWellFormed s → IsA s v → items_bytes (items side s d v) ≤ measured inner_room s d v)
      → items_bytes (of_some p (λ s. of_some (only vs) (λ v. items side s d v))) ≤ payload_room p vs (Some d)
  case_hit x d None vs k one = omega arith
  case_hit x d (Some s) [] k one = omega arith
  case_hit x d (Some s) (v ∷ []) k one = let (a, r, f, h) = k s refl in one s v a r f (h v refl)
  case_hit x d (Some s) (v ∷ (w ∷ vs)) k one = omega arith

  mutual
    unfolding items items_fields items_case items_places items_element measured measured_places measured_element AreMembers IsElement

    pub fits : (u t : Shape) → Agrees t u → IsRuled t → IsRuled u → IsWellFormed t → IsWellFormed u → (v : Value) → IsA t v → items_bytes (items side t u v) ≤ measured inner_room t u v
    fits (s_plain q) t a rt ru ft fu v h = to_plain_fits q t v a
    fits (s_node l ns) t a rt ru ft fu v h =
        node_fits l t ns a rt ru ft fu (λ ms fs a r f are. fields_in_room ns ms fs a r ru.1 f fu.1 are) (λ p x vs k. case_in_room ns p x vs k ru.1 fu.1)
        (λ ms vs a r f h. places_in_room ns ms vs a r ru.1 f fu.1 h) (λ ms v a r f h. element_in_room ns ms v a r ru.1 f fu.1 h) v h

    fields_in_room : (ns ms : Members) (fs : List (List ℕ × Value)) → AgreesFields ms ns → AreRuled ms → AreRuled ns → AreWellFormed ms → AreWellFormed ns → ((x : List ℕ) (s : Shape) (v : Value) → named x ms ≡ Some s → value_named x fs ≡ Some v → IsA s v)
        → items_bytes (items_fields side ms fs ns) ≤ fields_room ms fs ns
    fields_in_room no_members ms fs a r q f g are = omega arith
    fields_in_room (bare x ns) ms fs a r q f g are = fields_in_room ns ms fs a r q f g are
    fields_in_room (typed x d ns) ms fs a r q f g are =
        let one = field_fits d (named x ms) (value_named x fs) a.0 (named_known x ms r f) (are x) (λ s v b rs fs h. fits d s b rs q.0 fs g.0 v h) in
        let more = fields_in_room ns ms fs a.1 r q.1 f g.1 are in
        let l = items_append (of_some (named x ms) (λ s. of_some (value_named x fs) (λ v. items side s d v))) (items_fields side ms fs ns) in
        omega (arith, one, more, l)

    case_in_room : (ns : Members) (p : Option Shape) (x : List ℕ) (vs : List Value) → IsKnownPayload x p vs ns → AreRuled ns → AreWellFormed ns → items_bytes (items_case side p x vs ns) ≤ payload_room p vs (shape_named x ns)
    case_in_room no_members p x vs k r f = omega arith
    case_in_room (bare n ns) p x vs k r f = go (bytes_eq n x) (λ s e. (k s e).0) (λ m. case_in_room ns p x vs m r f)
      where
        go : (b : Bool) → ((s : Shape) → p ≡ Some s → chosen b (◌≡◌ {A = Option Shape} (Some s) None) (AgreesCase x (Some s) ns)) → (IsKnownPayload x p vs ns → items_bytes (items_case side p x vs ns) ≤ payload_room p vs (shape_named x ns))
            → items_bytes (if b then [] else items_case side p x vs ns) ≤ payload_room p vs (if b then None else shape_named x ns)
        go true a more = omega arith
        go false a more = more (λ s e. let (b, rs, fs, h) = k s e in (a s e, rs, fs, h))
    case_in_room (typed n d ns) p x vs k r f = go (bytes_eq n x) (λ s e. (k s e).0) (λ m. case_hit x d p vs m (λ s v b rs fs i. fits d s b rs r.0 fs f.0 v i)) (λ m. case_in_room ns p x vs m r.1 f.1)
      where
        go : (b : Bool) → ((s : Shape) → p ≡ Some s → chosen b (Agrees s d) (AgreesCase x (Some s) ns)) → (((s : Shape) → p ≡ Some s → Agrees s d × IsRuled s × IsWellFormed s × ((v : Value) → vs ≡ v ∷ [] → IsA s v)) → items_bytes (of_some p (λ s. of_some (only vs) (λ v. items side s d v))) ≤ payload_room p vs (Some d))
            → (IsKnownPayload x p vs ns → items_bytes (items_case side p x vs ns) ≤ payload_room p vs (shape_named x ns))
            → items_bytes (if b then of_some p (λ s. of_some (only vs) (λ v. items side s d v)) else items_case side p x vs ns) ≤ payload_room p vs (if b then Some d else shape_named x ns)
        go true a one more = one (λ s e. let (b, rs, fs, h) = k s e in (a s e, rs, fs, h))
        go false a one more = more (λ s e. let (b, rs, fs, h) = k s e in (a s e, rs, fs, h))

    pub places_in_room : (ns ms : Members) (vs : List Value) → AgreesPlaces ms ns → AreRuled ms → AreRuled ns → AreWellFormed ms → AreWellFormed ns → AreMembers ms vs → items_bytes (items_places side ms vs ns) ≤ measured_places inner_room ms vs ns
    places_in_room no_members no_members vs a r q f g h = omega arith
    places_in_room no_members (bare n ns) vs a r q f g h = absurd a
    places_in_room no_members (typed n d ns) vs a r q f g h = absurd a
    places_in_room (bare n ns) no_members vs a r q f g h = absurd a
    places_in_room (bare n ns) (bare m ms) vs a r q f g h = places_in_room ns ms vs a r q f g h
    places_in_room (bare n ns) (typed m s ms) vs a r q f g h = absurd a
    places_in_room (typed n d ns) no_members vs a r q f g h = absurd a
    places_in_room (typed n d ns) (bare m ms) vs a r q f g h = absurd a
    places_in_room (typed n d ns) (typed m s ms) [] a r q f g h = absurd h
    places_in_room (typed n d ns) (typed m s ms) (v ∷ vs) a r q f g h =
        let one = fits d s a.0 r.0 q.0 f.0 g.0 v h.0 in
        let more = places_in_room ns ms vs a.1 r.1 q.1 f.1 g.1 h.1 in
        let l = items_append (items side s d v) (items_places side ms vs ns) in
        omega (arith, one, more, l)

    element_in_room : (ns ms : Members) (v : Value) → AgreesPlaces ms ns → AreRuled ms → AreRuled ns → AreWellFormed ms → AreWellFormed ns → IsElement ms v → items_bytes (items_element side ms v ns) ≤ measured_element inner_room ms v ns
    element_in_room ns no_members v a r q f g h = absurd h
    element_in_room ns (bare m ms) v a r q f g h = absurd h
    element_in_room no_members (typed m s ms) v a r q f g h = absurd a
    element_in_room (bare n ns) (typed m s ms) v a r q f g h = absurd a
    element_in_room (typed n d ns) (typed m s ms) v a r q f g h = fits d s a.0 r.0 q.0 f.0 g.0 v h

pub items_fit : ItemsFit
items_fit side t u v a rt ru ft fu h = fits side u t a rt ru ft fu v h
