-- A move carries the value that stands at its source, by induction over types (`carried`): the law of each kind of type follows from those of its members.
use Rattle.std.proofs.Common.{◌≡◌, ℕ, suc, ◌+◌, ◌^◌, ◌≤◌, max, List, [], ◌∷◌, length, Option, Some, None, refl, sym, ap, ◌∙◌, subst, arith}
use Rattle.fact_types.specs.declared.interface.InterfaceType.{InterfaceType}
use Rattle.fact_types.specs.declared.interface.InterfaceType.TheVariants as ty
use Rattle.fact_types.specs.Agrees.{named, names_of, BothThere, Agrees, AgreesPlain, AgreesBy, AgreesFields, AgreesCase, AgreesPlaces}
use Rattle.fact_types.specs.Fields.{Field, find}
use Rattle.std.specs.Str.{bytes_eq}
use Rattle.fact_types.specs.declared.flats.FlatType.{FlatType}
use Rattle.fact_types.specs.declared.extents.MemoryWidth.TheVariants.{Memory32, Memory64}
use Rattle.fact_types.specs.FlatShapes.{flat, flat_plain}
use Rattle.fact_machine.specs.declared.types.CoreValue.{CoreValue}
use Rattle.fact_values.specs.declared.value.Value.{Value}
use Rattle.fact_values.specs.Lift.{lift_leading, lift_plain, lift_number}
use Rattle.fact_values.specs.Load.{load, load_plain}
use Rattle.fact_values.specs.Numbers.{nothing, plain_of, value_of_number, number_in}
use Rattle.fact_values.specs.Places.{extent_on, count_of_members, case_bytes}
use Rattle.fact_types.specs.Shapes.{Kind, k_record, k_variant, k_list, k_tuple, k_map, k_flags, k_enum, k_option, k_result, k_fixed, k_future, k_stream, Shape, s_plain, s_node, Members, no_members, bare, typed, layouts_of, next_of}
use Rattle.fact_types.specs.Valid.{AreRuled, IsValid, nesting, deepest_nesting, AreDistinct}
use Rattle.fact_types.proofs.ShapeLaws.{none_some}
use Rattle.fact_values.specs.Limits.{CaseType, case_type}
use Rattle.fact_actions.specs.Sides.{Source, Values, AtAddress, width_of_side}
use Rattle.fact_action_laws.specs.MoveTerms.{HasPointers, IsSupplied, AreSupplied, IsWellFormed, AreWellFormed, AreTyped, ArePlaces, size_on}
use Rattle.fact_action_laws.specs.Places.{from_side, to_side, value_at_source, IsGrounded}
use Rattle.fact_action_laws.specs.Regions.{TransferSetting}
use Rattle.fact_action_laws.proofs.Cases.{count_same, tag_is}
use Rattle.fact_action_laws.proofs.Distinct.{each_agrees, places_agree}
use Rattle.fact_action_laws.proofs.Elements.{IsSingle, single, IsDouble, double}
use Rattle.fact_action_laws.proofs.Enums.{enum_law}
use Rattle.fact_action_laws.proofs.Fields.{found_named, formed_found, found_has, later}
use Rattle.fact_action_laws.proofs.FixedLaws.{fixed_law}
use Rattle.fact_action_laws.proofs.Flagged.{flags_law}
use Rattle.fact_action_laws.proofs.Handing.{char_law, own_law, borrow_law, error_context_law, future_law, stream_law}
use Rattle.fact_action_laws.proofs.MoveLaws.{AreLawfulMoves}
use Rattle.fact_action_laws.proofs.ListLaws.{list_law}
use Rattle.fact_action_laws.proofs.MapLaws.{two, map_law}
use Rattle.fact_action_laws.proofs.Numeric.{IsScalar, bool_scalar, s8_scalar, u8_scalar, s16_scalar, u16_scalar, s32_scalar, u32_scalar, s64_scalar, u64_scalar, float32_scalar, float64_scalar}
use Rattle.fact_action_laws.proofs.Plain.{both, numeric_law}
use Rattle.fact_action_laws.proofs.Products.{record_law, tuple_law}
use Rattle.fact_action_laws.proofs.Records.{no_fields, bare_fields, typed_fields}
use Rattle.fact_action_laws.proofs.Sums.{IsLawfulCase, bare_case, typed_case}
use Rattle.fact_action_laws.proofs.Tuples.{places_fields, crosses_alike, items_alike, weighs_alike}
use Rattle.fact_action_laws.proofs.Variants.{a_variant, an_option, a_result, case_has, case_formed, sum_law}
use Rattle.fact_action_laws.proofs.Weights.{taken_length, record_weight}
use Rattle.fact_types.specs.PointerPairs.{has_pointer_pair, have_pointer_pair, is_string}
use Rattle.std.proofs.lemmas.Bool.{false≢true}
use Rattle.std.specs.Prelude.{Bool, true, false, ◌||◌}
use Rattle.fact_action_laws.specs.MoveLaws.{IsLawfulMove}

-- ---- members of valid types are valid

abbrev pub AreValid : Members → Type 0
AreValid no_members = Unit {0}
AreValid (bare n ms) = AreValid ms
AreValid (typed n s ms) = IsValid s × AreValid ms

left_most : (a b : ℕ) → a ≤ max a b
left_most a b = grind arith

right_most : (a b : ℕ) → b ≤ max a b
right_most a b = grind arith

are_valid : (ms : Members) → AreRuled ms → deepest_nesting ms ≤ 100 → AreValid ms
are_valid no_members r h = tt
are_valid (bare n ms) r h = are_valid ms r h
are_valid (typed n s ms) r h =
    (record { ruled = r.0; nested = omega (arith, h, left_most (nesting s) (deepest_nesting ms)) }, are_valid ms r.1 (omega (arith, h, right_most (nesting s) (deepest_nesting ms))))

pub members_valid : (k : Kind) (ms : Members) → IsValid (s_node k ms) → AreValid ms
members_valid k ms v = let h : 1 + deepest_nesting ms ≤ 100 = v.nested in are_valid ms v.ruled.1 (omega (arith, h))

pub valid_found : (x : List ℕ) (ms : Members) (k a b : ℕ) (f : Field) → AreValid ms → find x ms k a b ≡ Some f → IsValid f.shape
valid_found x no_members k a b f h e = absurd (none_some None f refl e)
valid_found x (bare n ms) k a b f h e = valid_found x ms k a b f h e
valid_found x (typed n s ms) k a b f h e = found_has IsValid (bytes_eq n x) s k a b (later x s ms k a b) f h.0 e (λ e2. valid_found x ms (k + length (flat Memory32 s)) (next_of Memory32 s a) (next_of Memory64 s b) f h.1 e2)

pub case_valid : (ms : Members) (n : ℕ) (k : CaseType) (p : Shape) → AreValid ms → case_type ms n ≡ Some k → k.payload ≡ Some p → IsValid p
case_valid = case_has IsValid AreValid (λ x ms a. a) (λ x s ms a. a)

or_left : (a b : Bool) → a ≡ true → a || b ≡ true
or_left true b h = refl
or_left false b h = absurd (false≢true h)

or_right : (a b : Bool) → b ≡ true → a || b ≡ true
or_right true b h = refl
or_right false b h = h

-- what holds of members that have pointers holds of each of them
pub supplied_parts : (c : TransferSetting) (x : List ℕ) (s : Shape) (ms : Members) → AreSupplied c (typed x s ms) → IsSupplied c s × AreSupplied c ms
supplied_parts c x s ms h = (λ e. h (or_left (has_pointer_pair s) (have_pointer_pair ms) e), λ e. h (or_right (has_pointer_pair s) (have_pointer_pair ms) e))

pub supplied_found : (c : TransferSetting) (x : List ℕ) (ms : Members) (k a b : ℕ) (f : Field) → AreSupplied c ms → find x ms k a b ≡ Some f → IsSupplied c f.shape
supplied_found c x no_members k a b f h e = absurd (none_some None f refl e)
supplied_found c x (bare n ms) k a b f h e = supplied_found c x ms k a b f h e
supplied_found c x (typed n s ms) k a b f h e =
    let (one, others) = supplied_parts c n s ms h in
    found_has (IsSupplied c) (bytes_eq n x) s k a b (later x s ms k a b) f one e (λ e2. supplied_found c x ms (k + length (flat Memory32 s)) (next_of Memory32 s a) (next_of Memory64 s b) f others e2)

pub case_supplied : (c : TransferSetting) (ms : Members) (n : ℕ) (k : CaseType) (p : Shape) → AreSupplied c ms → case_type ms n ≡ Some k → k.payload ≡ Some p → IsSupplied c p
case_supplied c = case_has (IsSupplied c) (AreSupplied c) (λ x ms a. a) (λ x s ms a. supplied_parts c x s ms a)

pub few_cases : (k : Kind) (ns : Members) → IsValid (s_node k ns) → count_of_members ns ≤ 268435456
few_cases k ns v = let f : length (layouts_of ns) ≤ 268435456 = v.ruled.0.few in omega (arith, f, count_same ns)

-- the names of members by place
pub places_names : (n : ℕ) (ms ns : Members) → AgreesPlaces ms ns → ArePlaces n (names_of ms) → ArePlaces n (names_of ns) → names_of ms ≡ names_of ns
places_names n no_members no_members a p q = refl
places_names n no_members (bare y ns) a p q = absurd a
places_names n no_members (typed y u ns) a p q = absurd a
places_names n (bare x ms) no_members a p q = absurd a
places_names n (bare x ms) (typed y u ns) a p q = absurd a
places_names n (typed x s ms) no_members a p q = absurd a
places_names n (typed x s ms) (bare y ns) a p q = absurd a
places_names n (bare x ms) (bare y ns) a p q = ap (λ z. z ∷ names_of ms) (p.0 ∙ sym q.0) ∙ ap (λ l. y ∷ l) (places_names (1 + n) ms ns a p.1 q.1)
places_names n (typed x s ms) (typed y u ns) a p q = ap (λ z. z ∷ names_of ms) (p.0 ∙ sym q.0) ∙ ap (λ l. y ∷ l) (places_names (1 + n) ms ns a.1 p.1 q.1)

-- ---- plain types

scalar_law : (c : TransferSetting) → IsGrounded c → (p : InterfaceType) → IsScalar p → IsLawfulMove c (s_plain p) (s_plain p)
scalar_law c g p n = record { by = λ s d v gs w m is h ready target. numeric_law g n.numeric n.silent s d v gs w m _ is h ready target }

-- nothing stands where a type with members has none
no_value : (c : TransferSetting) (p : InterfaceType) (s : Source) (v : Value) → plain_of p ≡ nothing → value_at_source c (s_plain p) s ≡ Some v → ⊥
unfolding load lift_leading
no_value c p (AtAddress a) v e h =
    let b = both (number_in c.source (extent_on (from_side c) (s_plain p)).size a) (λ n. value_of_number nothing n) v (ap (λ pl. load_plain (from_side c) c.source p pl a) (sym e) ∙ h) in none_some None v refl b.last
no_value c p (Values vs) v e h = go (flat_plain (width_of_side c.transfer.from) p) vs (ap (λ pl. lift_plain (from_side c) c.source p pl vs) (sym e) ∙ h)
  where
    go : (fs : List FlatType) (vs : List CoreValue) → lift_number nothing fs vs ≡ Some v → ⊥
    go [] vs h = none_some None v refl h
    go (f ∷ []) [] h = none_some None v refl h
    go (f ∷ []) (u ∷ us) h = none_some None v refl h
    go (f ∷ (f2 ∷ fs)) vs h = none_some None v refl h

nothing_law : (c : TransferSetting) (p q : InterfaceType) → p ≡ q → plain_of q ≡ nothing → IsLawfulMove c (s_plain p) (s_plain q)
nothing_law c p q e n = record { by = λ s d v gs w m is h ready target. absurd (no_value c p s v (ap plain_of e ∙ n) h) }

same_scalar : (c : TransferSetting) → IsGrounded c → (p q : InterfaceType) → p ≡ q → IsScalar q → IsLawfulMove c (s_plain p) (s_plain q)
same_scalar c g p q e n = subst (λ p. IsLawfulMove c (s_plain p) (s_plain q)) (sym e) (scalar_law c g q n)

module _ (c : TransferSetting) (g : IsGrounded c) (texts : HasPointers c.transfer.from c.transfer.to → IsLawfulMove c (s_plain ty.String) (s_plain ty.String)) where
  plain_law : (q : InterfaceType) (t : Shape) → AgreesPlain q t → IsSupplied c t → IsLawfulMove c t (s_plain q)
  plain_law ty.Bool (s_plain p) e has = same_scalar c g p ty.Bool e bool_scalar
  plain_law ty.S8 (s_plain p) e has = same_scalar c g p ty.S8 e s8_scalar
  plain_law ty.U8 (s_plain p) e has = same_scalar c g p ty.U8 e u8_scalar
  plain_law ty.S16 (s_plain p) e has = same_scalar c g p ty.S16 e s16_scalar
  plain_law ty.U16 (s_plain p) e has = same_scalar c g p ty.U16 e u16_scalar
  plain_law ty.S32 (s_plain p) e has = same_scalar c g p ty.S32 e s32_scalar
  plain_law ty.U32 (s_plain p) e has = same_scalar c g p ty.U32 e u32_scalar
  plain_law ty.S64 (s_plain p) e has = same_scalar c g p ty.S64 e s64_scalar
  plain_law ty.U64 (s_plain p) e has = same_scalar c g p ty.U64 e u64_scalar
  plain_law ty.Float32 (s_plain p) e has = same_scalar c g p ty.Float32 e float32_scalar
  plain_law ty.Float64 (s_plain p) e has = same_scalar c g p ty.Float64 e float64_scalar
  plain_law ty.Char (s_plain p) e has = subst (λ p. IsLawfulMove c (s_plain p) (s_plain ty.Char)) (sym e) (char_law c g)
  plain_law ty.String (s_plain p) e has = subst (λ p. IsLawfulMove c (s_plain p) (s_plain ty.String)) (sym e) (texts (has (ap is_string e)))
  plain_law (ty.Own j) (s_plain (ty.Own i)) e has = own_law c g i j
  plain_law (ty.Own j) (s_plain p) e has = subst (λ p. IsLawfulMove c (s_plain p) (s_plain (ty.Own j))) (sym e) (own_law c g j j)
  plain_law (ty.Borrow j) (s_plain (ty.Borrow i)) e has = borrow_law c g i j
  plain_law (ty.Borrow j) (s_plain p) e has = subst (λ p. IsLawfulMove c (s_plain p) (s_plain (ty.Borrow j))) (sym e) (borrow_law c g j j)
  plain_law (ty.ErrorContext j) (s_plain (ty.ErrorContext i)) e has = error_context_law c g i j
  plain_law (ty.ErrorContext j) (s_plain p) e has = subst (λ p. IsLawfulMove c (s_plain p) (s_plain (ty.ErrorContext j))) (sym e) (error_context_law c g j j)
  plain_law (ty.Record i) (s_plain p) e has = nothing_law c p (ty.Record i) e refl
  plain_law (ty.Variant i) (s_plain p) e has = nothing_law c p (ty.Variant i) e refl
  plain_law (ty.List i) (s_plain p) e has = nothing_law c p (ty.List i) e refl
  plain_law (ty.Tuple i) (s_plain p) e has = nothing_law c p (ty.Tuple i) e refl
  plain_law (ty.Map i) (s_plain p) e has = nothing_law c p (ty.Map i) e refl
  plain_law (ty.Flags i) (s_plain p) e has = nothing_law c p (ty.Flags i) e refl
  plain_law (ty.Enum i) (s_plain p) e has = nothing_law c p (ty.Enum i) e refl
  plain_law (ty.Option i) (s_plain p) e has = nothing_law c p (ty.Option i) e refl
  plain_law (ty.Result i) (s_plain p) e has = nothing_law c p (ty.Result i) e refl
  plain_law (ty.Future i) (s_plain p) e has = nothing_law c p (ty.Future i) e refl
  plain_law (ty.Stream i) (s_plain p) e has = nothing_law c p (ty.Stream i) e refl
  plain_law (ty.FixedLengthList i) (s_plain p) e has = nothing_law c p (ty.FixedLengthList i) e refl
  plain_law q (s_node k ms) e has = absurd e

  -- what is proved of the members of a destination
  abbrev Fields : Members → Type 0
  Fields ns = (ms : Members) → AgreesFields ms ns → AreValid ms → AreWellFormed ms → AreSupplied c ms → AreLawfulMoves c ms ns 0

  abbrev Cases : Members → Type 0
  Cases ns = (ms : Members) (k : CaseType) (size : ℕ) → AgreesCase k.name k.payload ns → ((p : Shape) → k.payload ≡ Some p → IsValid p × IsWellFormed p × IsSupplied c p) → 256 ^ case_bytes ns ≤ 2 ^ 32 → IsLawfulCase c ms ns k ns 0 size

  places_law : (ms ns : Members) → AgreesPlaces ms ns → names_of ms ≡ names_of ns → AreDistinct (names_of ns) → AreTyped ms → AreValid ms → AreWellFormed ms → AreSupplied c ms → Fields ns → AreLawfulMoves c ms ns 0
  places_law ms ns a e d t v f has fields = fields ms (places_fields ms ns a e d t) v f has

  cases_law : (l : Kind) (ms ns : Members) (n : ℕ) (k : CaseType) → AgreesCase k.name k.payload ns → IsValid (s_node l ms) → IsWellFormed (s_node l ms) → AreSupplied c ms → case_type ms n ≡ Some k → Cases ns → IsLawfulCase c ms ns k ns 0 (size_on c.transfer.to (s_node k_variant ns))
  cases_law l ms ns n k a v f has h cases =
      cases ms k _ a (λ p e. (case_valid ms n k p (members_valid l ms v) h e, case_formed ms n k p f.1 h e, case_supplied c ms n k p has h e)) (tag_is (count_of_members ns)).small

  lists : HasPointers c.transfer.from c.transfer.to → (ms ns : Members) → IsSingle [] ms → IsSingle [] ns → IsValid (s_node k_list ns) → AreLawfulMoves c ms ns 0 → IsLawfulMove c (s_node k_list ms) (s_node k_list ns)
  lists has ms ns x y v fields =
      let valid = members_valid k_list (typed [] y.shape no_members) (subst (λ l. IsValid (s_node k_list l)) y.is v) in
      subst (λ l. IsLawfulMove c (s_node k_list l) (s_node k_list ns)) (sym x.is) (subst (λ l. IsLawfulMove c (s_node k_list (typed [] x.shape no_members)) (s_node k_list l)) (sym y.is)
      (list_law c g has x.shape y.shape valid.0 (subst (λ l. AreLawfulMoves c (typed [] x.shape no_members) l 0) y.is (subst (λ l. AreLawfulMoves c l ns 0) x.is fields))))

  maps : HasPointers c.transfer.from c.transfer.to → (ms ns : Members) → IsDouble (0 ∷ []) (1 ∷ []) ms → IsDouble (0 ∷ []) (1 ∷ []) ns → IsValid (s_node k_map ns) → AreDistinct ((0 ∷ []) ∷ (1 ∷ []) ∷ []) → AreLawfulMoves c ms ns 0 → IsLawfulMove c (s_node k_map ms) (s_node k_map ns)
  maps has ms ns x y v d fields =
      let valid = members_valid k_map (two (0 ∷ []) (1 ∷ []) y.key y.value) (subst (λ l. IsValid (s_node k_map l)) y.is v) in
      subst (λ l. IsLawfulMove c (s_node k_map l) (s_node k_map ns)) (sym x.is) (subst (λ l. IsLawfulMove c (s_node k_map (two (0 ∷ []) (1 ∷ []) x.key x.value)) (s_node k_map l)) (sym y.is)
      (map_law c x.key x.value y.key y.value d g has valid.0 (subst (λ l. AreLawfulMoves c (two (0 ∷ []) (1 ∷ []) x.key x.value) l 0) y.is (subst (λ l. AreLawfulMoves c l ns 0) x.is fields))))

  fixed_lists : (m n : ℕ) → n ≡ m → (ms ns : Members) → IsSingle [] ms → IsSingle [] ns → AreWellFormed ms → AreWellFormed ns → AreLawfulMoves c ms ns 0 → IsLawfulMove c (s_node (k_fixed n) ms) (s_node (k_fixed m) ns)
  fixed_lists m n e ms ns x y fm fn fields =
      let from_formed : AreWellFormed (typed [] x.shape no_members) = subst AreWellFormed x.is fm in
      let to_formed : AreWellFormed (typed [] y.shape no_members) = subst AreWellFormed y.is fn in
      subst (λ k. IsLawfulMove c (s_node (k_fixed n) ms) (s_node (k_fixed k) ns)) e
      (subst (λ l. IsLawfulMove c (s_node (k_fixed n) l) (s_node (k_fixed n) ns)) (sym x.is) (subst (λ l. IsLawfulMove c (s_node (k_fixed n) (typed [] x.shape no_members)) (s_node (k_fixed n) l)) (sym y.is)
      (fixed_law c n x.shape y.shape from_formed.0 to_formed.0 g (subst (λ l. AreLawfulMoves c (typed [] x.shape no_members) l 0) y.is (subst (λ l. AreLawfulMoves c l ns 0) x.is fields)))))

  node_law : (l : Kind) (t : Shape) (ns : Members) → AgreesBy l t ns (λ ms. AgreesFields ms ns) (λ x p. AgreesCase x p ns) (λ ms. AgreesPlaces ms ns) → IsValid t → IsValid (s_node l ns) → IsWellFormed t → IsWellFormed (s_node l ns)
      → IsSupplied c t → Fields ns → Cases ns → IsLawfulMove c t (s_node l ns)
  node_law k_record (s_node k_record ms) ns a vt vu ft fu has F G =
      record_law c g ms ns (F ms a.fields (members_valid k_record ms vt) ft.1 has)
      (λ vs s l. record_weight ms ns vs ft.0 fu.0 vt.ruled.0.distinct vu.ruled.0.distinct a.fields a.names (taken_length c ms s vs l))
  node_law k_tuple (s_node k_tuple ms) ns a vt vu ft fu has F G =
      let e = places_names 0 ms ns a ft.0.0 fu.0.0 in
      let d = vu.ruled.0.distinct in
      tuple_law c g ms ns (places_law ms ns a e d ft.0.1 (members_valid k_tuple ms vt) ft.1 has F)
      (λ vs s l. let n = taken_length c ms s vs l in record {
        crosses = crosses_alike ms ns vs e d ft.0.1 fu.0.1 n;
        items = items_alike (to_side c) ms ns vs e d ft.0.1 fu.0.1 n;
        weighs = weighs_alike ms ns vs e d ft.0.1 fu.0.1 n;
      })
  node_law k_variant (s_node k_variant ms) ns a vt vu ft fu has F G =
      sum_law a_variant c g ms ns ft.1 vt.ruled.0.distinct (few_cases k_variant ns vu) (λ n k h. cases_law k_variant ms ns n k (each_agrees ms ns n k a h) vt ft has h G)
  node_law k_option (s_node k_option ms) ns a vt vu ft fu has F G =
      sum_law an_option c g ms ns ft.1 vt.ruled.0.distinct (few_cases k_option ns vu) (λ n k h. cases_law k_option ms ns n k (places_agree ms ns n k a (ft.0 ∙ sym fu.0) vu.ruled.0.distinct h) vt ft has h G)
  node_law k_result (s_node k_result ms) ns a vt vu ft fu has F G =
      sum_law a_result c g ms ns ft.1 vt.ruled.0.distinct (few_cases k_result ns vu) (λ n k h. cases_law k_result ms ns n k (places_agree ms ns n k a (ft.0 ∙ sym fu.0) vu.ruled.0.distinct h) vt ft has h G)
  node_law k_enum (s_node k_enum ms) ns a vt vu ft fu has F G = enum_law c g ms ns ft.0 fu.0 a (few_cases k_enum ns vu)
  node_law k_flags (s_node k_flags ms) ns a vt vu ft fu has F G = flags_law c g ms ns a vt.ruled.0.enough.0 vt.ruled.0.enough.1 vu.ruled.0.enough.0 vu.ruled.0.enough.1
  node_law k_list (s_node k_list ms) ns a vt vu ft fu has F G =
      lists (has refl) ms ns (single [] ms ft.0.0 ft.0.1) (single [] ns fu.0.0 fu.0.1) vu
      (places_law ms ns a (ft.0.0 ∙ sym fu.0.0) vu.ruled.0.distinct ft.0.1 (members_valid k_list ms vt) ft.1 (λ e. has refl) F)
  node_law k_map (s_node k_map ms) ns a vt vu ft fu has F G =
      maps (has refl) ms ns (double (0 ∷ []) (1 ∷ []) ms ft.0.0 ft.0.1) (double (0 ∷ []) (1 ∷ []) ns fu.0.0 fu.0.1) vu (subst AreDistinct fu.0.0 vu.ruled.0.distinct)
      (places_law ms ns a (ft.0.0 ∙ sym fu.0.0) vu.ruled.0.distinct ft.0.1 (members_valid k_map ms vt) ft.1 (λ e. has refl) F)
  node_law (k_fixed m) (s_node (k_fixed n) ms) ns a vt vu ft fu has F G =
      fixed_lists m n a.0 ms ns (single [] ms ft.0.0 ft.0.1) (single [] ns fu.0.0 fu.0.1) ft.1 fu.1 (places_law ms ns a.1 (ft.0.0 ∙ sym fu.0.0) vu.ruled.0.distinct ft.0.1 (members_valid (k_fixed n) ms vt) ft.1 has F)
  node_law (k_future u j) (s_node (k_future t i) ms) ns a vt vu ft fu has F G = future_law c g t i u j ms ns
  node_law (k_stream u j) (s_node (k_stream t i) ms) ns a vt vu ft fu has F G = stream_law c g t i u j ms ns
  node_law l t ns a vt vu ft fu has F G = absurd a

  -- ---- the induction

  -- a field of a name, and then the others
  field_step : (ms ns : Members) (x : List ℕ) (u : Shape) (e : ℕ) → AreValid ms → AreWellFormed ms → AreSupplied c ms → IsWellFormed u → BothThere (named x ms) (λ s. Agrees s u)
      → ((s : Shape) → Agrees s u → IsValid s → IsWellFormed s → IsSupplied c s → IsLawfulMove c s u) → AreLawfulMoves c ms ns (next_of (width_of_side c.transfer.to) u e) → AreLawfulMoves c ms (typed x u ns) e
  field_step ms ns x u e v f has fu a one rest = go (named x ms) refl a
    where
      go : (q : Option Shape) → named x ms ≡ q → BothThere q (λ s. Agrees s u) → AreLawfulMoves c ms (typed x u ns) e
      go None h a = absurd a
      go (Some s) h a =
          let q = found_named x ms 0 0 0 s h in
          let r = subst (λ z. Agrees z u) (sym q.shape) a in
          typed_fields c ms ns x u e q.field fu q.is (h ∙ ap (λ z. Some z) (sym q.shape)) f
          (one q.field.shape r (valid_found x ms 0 0 0 q.field v q.is) (formed_found x ms 0 0 0 q.field f q.is) (supplied_found c x ms 0 0 0 q.field has q.is)) rest

  mutual
    pub carried : (u t : Shape) → Agrees t u → IsValid t → IsValid u → IsWellFormed t → IsWellFormed u → IsSupplied c t → IsLawfulMove c t u
    carried (s_plain q) t a vt vu ft fu has = plain_law q t a has
    carried (s_node l ns) t a vt vu ft fu has =
        node_law l t ns a vt vu ft fu has (λ ms af vm fm h. fields_carried ns ms 0 af vm fm (members_valid l ns vu) fu.1 h)
        (λ ms k size ac known small. cases_carried ns ms ns k 0 size ac known small (members_valid l ns vu) fu.1)

    pub fields_carried : (ns ms : Members) (e : ℕ) → AgreesFields ms ns → AreValid ms → AreWellFormed ms → AreValid ns → AreWellFormed ns → AreSupplied c ms → AreLawfulMoves c ms ns e
    fields_carried no_members ms e a vm fm vn fn has = no_fields c ms e
    fields_carried (bare x ns) ms e a vm fm vn fn has = bare_fields c ms ns x e (fields_carried ns ms e a vm fm vn fn has)
    fields_carried (typed x u ns) ms e a vm fm vn fn has =
        field_step ms ns x u e vm fm has fn.0 a.0 (λ s b vs fs h. carried u s b vs vn.0 fs fn.0 h) (fields_carried ns ms (next_of (width_of_side c.transfer.to) u e) a.1 vm fm vn.1 fn.1 has)

    cases_carried : (ns ms all : Members) (k : CaseType) (i size : ℕ) → AgreesCase k.name k.payload ns → ((p : Shape) → k.payload ≡ Some p → IsValid p × IsWellFormed p × IsSupplied c p) → 256 ^ case_bytes all ≤ 2 ^ 32
        → AreValid ns → AreWellFormed ns → IsLawfulCase c ms all k ns i size
    cases_carried no_members ms all k i size a known small vn fn = absurd a
    cases_carried (bare x ns) ms all k i size a known small vn fn = bare_case c g ms all k ns i size x small a (λ b. cases_carried ns ms all k (suc i) size b known small vn fn)
    cases_carried (typed x u ns) ms all k i size a known small vn fn =
        typed_case c g ms all k ns i size x u fn.0 small a (λ p e b. carried u p b (known p e).0 vn.0 (known p e).1 fn.0 (known p e).2) (λ b. cases_carried ns ms all k (suc i) size b known small vn.1 fn.1)
