-- A move gives only where its source lifts to a value.
use Rattle.std.proofs.Common.{◌≡◌, ℕ, suc, ◌^◌, ◌≤◌, List, [], ◌∷◌, length, Option, Some, None, refl, sym, ◌∙◌, subst, ap}
use Rattle.fact_types.specs.declared.interface.InterfaceType.{InterfaceType}
use Rattle.fact_types.specs.declared.interface.InterfaceType.TheVariants as ty
use Rattle.fact_types.specs.Agrees.{named, names_of, BothThere, Agrees, AgreesPlain, AgreesBy, AgreesFields, AgreesCase, AgreesPlaces}
use Rattle.fact_types.specs.FlatShapes.{flat}
use Rattle.fact_types.specs.Shapes.{Kind, k_record, k_variant, k_list, k_tuple, k_map, k_flags, k_enum, k_option, k_result, k_fixed, k_future, k_stream, Shape, s_plain, s_node, Members, no_members, bare, typed, next_of}
use Rattle.fact_types.specs.Valid.{IsValid, AreDistinct}
use Rattle.fact_types.proofs.ShapeLaws.{none_some}
use Rattle.fact_machine.specs.World.{World}
use Rattle.fact_values.specs.Limits.{CaseType}
use Rattle.fact_values.specs.Places.{count_of_members, case_bytes}
use Rattle.fact_actions.specs.Moves.{move}
use Rattle.fact_actions.specs.Sides.{Source, Target, width_of_side}
use Rattle.fact_values.specs.declared.value.Value.{Value}
use Rattle.fact_values.specs.Numbers.{plain_of, value_of_number}
use Rattle.fact_action_laws.specs.MoveTerms.{HasPointers, IsSupplied, AreSupplied, IsWellFormed, AreWellFormed, AreTyped, size_on}
use Rattle.fact_action_laws.specs.Places.{value_at_source, IsSource, IsTarget, HoldsMemories, IsGrounded}
use Rattle.fact_actions.specs.Regions.{Region}
use Rattle.fact_action_laws.specs.Regions.{TransferSetting, IsInHand}
use Rattle.fact_action_laws.proofs.Cases.{tag_is}
use Rattle.fact_action_laws.proofs.Elements.{IsSingle, single, IsDouble, double}
use Rattle.fact_action_laws.proofs.FixedLaws.{fixed_refuses}
use Rattle.fact_action_laws.proofs.Fields.{members_taken, found_named, formed_found}
use Rattle.fact_action_laws.proofs.Judges.{does_more}
use Rattle.fact_action_laws.proofs.MoveLaws.{AreLawfulMoves}
use Rattle.fact_action_laws.proofs.ListLaws.{one}
use Rattle.fact_action_laws.proofs.Missing.{NotAll, no_fields_refuse, bare_fields_refuse, typed_fields_refuse, record_refuses, tuple_refuses, all_taken}
use Rattle.fact_action_laws.proofs.Never.{does_always}
use Rattle.fact_action_laws.proofs.NoCase.{RefusesCase, bare_case_refuses, typed_case_refuses, sum_refuses}
use Rattle.fact_action_laws.proofs.NoLeaf.{own_refuses, borrow_refuses, error_context_refuses, future_refuses, stream_refuses, flags_refuse, enum_refuses}
use Rattle.fact_action_laws.proofs.MapLaws.{two}
use Rattle.fact_action_laws.proofs.NoList.{list_refuses, map_refuses}
use Rattle.fact_action_laws.proofs.Numeric.{IsScalar, bool_scalar, s8_scalar, u8_scalar, s16_scalar, u16_scalar, s32_scalar, u32_scalar, s64_scalar, u64_scalar, float32_scalar, float64_scalar}
use Rattle.fact_action_laws.proofs.Refusals.{RefusesFields, scalar_refuses, char_refuses}
use Rattle.fact_action_laws.proofs.Theorem.{AreValid, members_valid, valid_found, case_valid, places_names, few_cases, carried, fields_carried, supplied_found, case_supplied}
use Rattle.fact_action_laws.proofs.Tuples.{places_fields}
use Rattle.fact_action_laws.proofs.Variants.{a_variant, an_option, a_result, case_formed}
use Rattle.fact_action_laws.proofs.Distinct.{each_agrees, places_agree}
use Rattle.fact_action_laws.proofs.Weights.{In, in_contains, contains_in}
use Rattle.fact_types.specs.PointerPairs.{is_string}
use Rattle.fact_action_laws.specs.Judged.{RunsHonestly}
use Rattle.fact_action_laws.specs.MoveLaws.{IsLawfulMove, Refuses, Texts, MovesAreLawful, MovesRefuse}

-- a type of whose numbers each is a value
scalar : (c : TransferSetting) → IsGrounded c → (p q : InterfaceType) → p ≡ q → (n : IsScalar q) → ((x : ℕ) → value_of_number (plain_of q) x ≡ None → ⊥) → Refuses c (s_plain p) (s_plain q)
scalar c g p q e n total = subst (λ p. Refuses c (s_plain p) (s_plain q)) (sym e) (scalar_refuses c g q n total)

some_is : (x : Value) → Some x ≡ None → ⊥
some_is x h = none_some None x refl (sym h)

module _ (c : TransferSetting) (g : IsGrounded c) (texts : Texts c) where
  -- the law, of each pair of types
  pub carries : (u t : Shape) → Agrees t u → IsValid t → IsValid u → IsWellFormed t → IsWellFormed u → IsSupplied c t → IsLawfulMove c t u
  carries = carried c g texts.carries

  pub carries_fields : (ns ms : Members) (e : ℕ) → AgreesFields ms ns → AreValid ms → AreWellFormed ms → AreValid ns → AreWellFormed ns → AreSupplied c ms → AreLawfulMoves c ms ns e
  carries_fields = fields_carried c g texts.carries

  plain_refuses : (q : InterfaceType) (t : Shape) → AgreesPlain q t → IsWellFormed (s_plain q) → IsSupplied c t → Refuses c t (s_plain q)
  plain_refuses ty.Bool (s_plain p) e f has = scalar c g p ty.Bool e bool_scalar (λ x h. some_is _ h)
  plain_refuses ty.S8 (s_plain p) e f has = scalar c g p ty.S8 e s8_scalar (λ x h. some_is _ h)
  plain_refuses ty.U8 (s_plain p) e f has = scalar c g p ty.U8 e u8_scalar (λ x h. some_is _ h)
  plain_refuses ty.S16 (s_plain p) e f has = scalar c g p ty.S16 e s16_scalar (λ x h. some_is _ h)
  plain_refuses ty.U16 (s_plain p) e f has = scalar c g p ty.U16 e u16_scalar (λ x h. some_is _ h)
  plain_refuses ty.S32 (s_plain p) e f has = scalar c g p ty.S32 e s32_scalar (λ x h. some_is _ h)
  plain_refuses ty.U32 (s_plain p) e f has = scalar c g p ty.U32 e u32_scalar (λ x h. some_is _ h)
  plain_refuses ty.S64 (s_plain p) e f has = scalar c g p ty.S64 e s64_scalar (λ x h. some_is _ h)
  plain_refuses ty.U64 (s_plain p) e f has = scalar c g p ty.U64 e u64_scalar (λ x h. some_is _ h)
  plain_refuses ty.Float32 (s_plain p) e f has = scalar c g p ty.Float32 e float32_scalar (λ x h. some_is _ h)
  plain_refuses ty.Float64 (s_plain p) e f has = scalar c g p ty.Float64 e float64_scalar (λ x h. some_is _ h)
  plain_refuses ty.Char (s_plain p) e f has = subst (λ p. Refuses c (s_plain p) (s_plain ty.Char)) (sym e) (char_refuses c g)
  plain_refuses ty.String (s_plain p) e f has = subst (λ p. Refuses c (s_plain p) (s_plain ty.String)) (sym e) (texts.refuses (has (ap is_string e)))
  plain_refuses (ty.Own j) (s_plain (ty.Own i)) e f has = own_refuses c g i j
  plain_refuses (ty.Own j) (s_plain p) e f has = subst (λ p. Refuses c (s_plain p) (s_plain (ty.Own j))) (sym e) (own_refuses c g j j)
  plain_refuses (ty.Borrow j) (s_plain (ty.Borrow i)) e f has = borrow_refuses c g i j
  plain_refuses (ty.Borrow j) (s_plain p) e f has = subst (λ p. Refuses c (s_plain p) (s_plain (ty.Borrow j))) (sym e) (borrow_refuses c g j j)
  plain_refuses (ty.ErrorContext j) (s_plain (ty.ErrorContext i)) e f has = error_context_refuses c g i j
  plain_refuses (ty.ErrorContext j) (s_plain p) e f has = subst (λ p. Refuses c (s_plain p) (s_plain (ty.ErrorContext j))) (sym e) (error_context_refuses c g j j)
  plain_refuses (ty.Record i) (s_plain p) e f has = absurd f
  plain_refuses (ty.Variant i) (s_plain p) e f has = absurd f
  plain_refuses (ty.List i) (s_plain p) e f has = absurd f
  plain_refuses (ty.Tuple i) (s_plain p) e f has = absurd f
  plain_refuses (ty.Map i) (s_plain p) e f has = absurd f
  plain_refuses (ty.Flags i) (s_plain p) e f has = absurd f
  plain_refuses (ty.Enum i) (s_plain p) e f has = absurd f
  plain_refuses (ty.Option i) (s_plain p) e f has = absurd f
  plain_refuses (ty.Result i) (s_plain p) e f has = absurd f
  plain_refuses (ty.Future i) (s_plain p) e f has = absurd f
  plain_refuses (ty.Stream i) (s_plain p) e f has = absurd f
  plain_refuses (ty.FixedLengthList i) (s_plain p) e f has = absurd f
  plain_refuses q (s_node k ms) e f has = absurd e

  -- fields of which not all lift are those of a record that does not
  record_lacks : (ms ns : Members) → AreTyped ms → AreTyped ns → AreWellFormed ms → AreDistinct (names_of ms) → ((x : List ℕ) → In x (names_of ms) → In x (names_of ns)) → RefusesFields c ms ns 0 (NotAll c ms ns) → RefusesFields c ms ns 0 (λ s. members_taken c ms s ≡ None)
  record_lacks ms ns t u fm d names h = record {
    by = λ s dd gs w m is none ready target.
        h.by s dd gs w m is (λ a. let r = all_taken c s ms ns t u fm d names is a in none_some (members_taken c ms s) r.0 none r.1) ready target;
  }

  abbrev Fields : Members → Type 0
  Fields ns = (ms : Members) → AgreesFields ms ns → AreValid ms → AreWellFormed ms → AreSupplied c ms → AreLawfulMoves c ms ns 0 × RefusesFields c ms ns 0 (NotAll c ms ns)

  abbrev Cases : Members → Type 0
  Cases ns = (ms : Members) (k : CaseType) (p : Shape) (size : ℕ) → k.payload ≡ Some p → AgreesCase k.name k.payload ns → IsValid p → IsWellFormed p → IsSupplied c p → 256 ^ case_bytes ns ≤ 2 ^ 32 → RefusesCase c ms ns k p ns 0 size

  -- members by place, of which one does not lift
  pub places_lack : (ms ns : Members) → AgreesPlaces ms ns → names_of ms ≡ names_of ns → AreDistinct (names_of ns) → AreTyped ms → AreTyped ns → AreValid ms → AreWellFormed ms → AreSupplied c ms → Fields ns → AreLawfulMoves c ms ns 0 × RefusesFields c ms ns 0 (λ s. members_taken c ms s ≡ None)
  places_lack ms ns a e d t u v f has fields =
      let r = fields ms (places_fields ms ns a e d t) v f has in
      (r.0, record_lacks ms ns t u f (subst AreDistinct (sym e) d) (λ x h. subst (In x) e h) r.1)

  lists_refuse : HasPointers c.transfer.from c.transfer.to → (ms ns : Members) → IsSingle [] ms → IsSingle [] ns → AreLawfulMoves c ms ns 0 → RefusesFields c ms ns 0 (λ s. members_taken c ms s ≡ None) → Refuses c (s_node k_list ms) (s_node k_list ns)
  lists_refuse has ms ns x y fields never =
      subst (λ l. Refuses c (s_node k_list l) (s_node k_list ns)) (sym x.is) (subst (λ l. Refuses c (s_node k_list (typed [] x.shape no_members)) (s_node k_list l)) (sym y.is)
      (list_refuses c g has x.shape y.shape
      (subst (λ l. AreLawfulMoves c (typed [] x.shape no_members) l 0) y.is (subst (λ l. AreLawfulMoves c l ns 0) x.is fields))
      (subst (λ l. RefusesFields c (typed [] x.shape no_members) l 0 (λ s. members_taken c (typed [] x.shape no_members) s ≡ None)) y.is (subst (λ l. RefusesFields c l ns 0 (λ s. members_taken c l s ≡ None)) x.is never))))

  maps_refuse : HasPointers c.transfer.from c.transfer.to → (ms ns : Members) → IsDouble (0 ∷ []) (1 ∷ []) ms → IsDouble (0 ∷ []) (1 ∷ []) ns → AreLawfulMoves c ms ns 0 → RefusesFields c ms ns 0 (λ s. members_taken c ms s ≡ None) → Refuses c (s_node k_map ms) (s_node k_map ns)
  maps_refuse has ms ns x y fields never =
      subst (λ l. Refuses c (s_node k_map l) (s_node k_map ns)) (sym x.is) (subst (λ l. Refuses c (s_node k_map (two (0 ∷ []) (1 ∷ []) x.key x.value)) (s_node k_map l)) (sym y.is)
      (map_refuses c x.key x.value y.key y.value g has
      (subst (λ l. AreLawfulMoves c (two (0 ∷ []) (1 ∷ []) x.key x.value) l 0) y.is (subst (λ l. AreLawfulMoves c l ns 0) x.is fields))
      (subst (λ l. RefusesFields c (two (0 ∷ []) (1 ∷ []) x.key x.value) l 0 (λ s. members_taken c (two (0 ∷ []) (1 ∷ []) x.key x.value) s ≡ None)) y.is (subst (λ l. RefusesFields c l ns 0 (λ s. members_taken c l s ≡ None)) x.is never))))

  fixed_lists_refuse : (m n : ℕ) → n ≡ m → (ms ns : Members) → IsSingle [] ms → IsSingle [] ns → AreWellFormed ms → AreWellFormed ns → AreLawfulMoves c ms ns 0 → RefusesFields c ms ns 0 (λ s. members_taken c ms s ≡ None) → Refuses c (s_node (k_fixed n) ms) (s_node (k_fixed m) ns)
  fixed_lists_refuse m n e ms ns x y fm fn fields never =
      let from_formed : AreWellFormed (typed [] x.shape no_members) = subst AreWellFormed x.is fm in
      let to_formed : AreWellFormed (typed [] y.shape no_members) = subst AreWellFormed y.is fn in
      subst (λ k. Refuses c (s_node (k_fixed n) ms) (s_node (k_fixed k) ns)) e
      (subst (λ l. Refuses c (s_node (k_fixed n) l) (s_node (k_fixed n) ns)) (sym x.is) (subst (λ l. Refuses c (s_node (k_fixed n) (typed [] x.shape no_members)) (s_node (k_fixed n) l)) (sym y.is)
      (fixed_refuses c n x.shape y.shape from_formed.0 to_formed.0 g
      (subst (λ l. AreLawfulMoves c (typed [] x.shape no_members) l 0) y.is (subst (λ l. AreLawfulMoves c l ns 0) x.is fields))
      (subst (λ l. RefusesFields c (typed [] x.shape no_members) l 0 (λ s. members_taken c (typed [] x.shape no_members) s ≡ None)) y.is (subst (λ l. RefusesFields c l ns 0 (λ s. members_taken c l s ≡ None)) x.is never)))))

  node_refuses : (l : Kind) (t : Shape) (ns : Members) → AgreesBy l t ns (λ ms. AgreesFields ms ns) (λ x p. AgreesCase x p ns) (λ ms. AgreesPlaces ms ns) → IsValid t → IsValid (s_node l ns) → IsWellFormed t → IsWellFormed (s_node l ns)
      → IsSupplied c t → Fields ns → Cases ns → Refuses c t (s_node l ns)
  node_refuses k_record (s_node k_record ms) ns a vt vu ft fu has F G =
      record_refuses c g ms ns ft.0 fu.0 ft.1 vt.ruled.0.distinct (λ x h. contains_in x (names_of ns) (a.names x (in_contains x (names_of ms) h))) (F ms a.fields (members_valid k_record ms vt) ft.1 has).1
  node_refuses k_tuple (s_node k_tuple ms) ns a vt vu ft fu has F G =
      let e = places_names 0 ms ns a ft.0.0 fu.0.0 in
      tuple_refuses c g ms ns ft.0.1 fu.0.1 ft.1 vt.ruled.0.distinct (λ x h. subst (In x) e h) (F ms (places_fields ms ns a e vu.ruled.0.distinct ft.0.1) (members_valid k_tuple ms vt) ft.1 has).1
  node_refuses k_variant (s_node k_variant ms) ns a vt vu ft fu has F G =
      sum_refuses a_variant c g ms ns ft.1 (few_cases k_variant ns vu) (λ n k p h e. G ms k p _ e (each_agrees ms ns n k a h) (case_valid ms n k p (members_valid k_variant ms vt) h e) (case_formed ms n k p ft.1 h e) (case_supplied c ms n k p has h e) (tag_is (count_of_members ns)).small)
  node_refuses k_option (s_node k_option ms) ns a vt vu ft fu has F G =
      sum_refuses an_option c g ms ns ft.1 (few_cases k_option ns vu) (λ n k p h e. G ms k p _ e (places_agree ms ns n k a (ft.0 ∙ sym fu.0) vu.ruled.0.distinct h) (case_valid ms n k p (members_valid k_option ms vt) h e) (case_formed ms n k p ft.1 h e) (case_supplied c ms n k p has h e) (tag_is (count_of_members ns)).small)
  node_refuses k_result (s_node k_result ms) ns a vt vu ft fu has F G =
      sum_refuses a_result c g ms ns ft.1 (few_cases k_result ns vu) (λ n k p h e. G ms k p _ e (places_agree ms ns n k a (ft.0 ∙ sym fu.0) vu.ruled.0.distinct h) (case_valid ms n k p (members_valid k_result ms vt) h e) (case_formed ms n k p ft.1 h e) (case_supplied c ms n k p has h e) (tag_is (count_of_members ns)).small)
  node_refuses k_enum (s_node k_enum ms) ns a vt vu ft fu has F G = enum_refuses c g ms ns ft.0
  node_refuses k_flags (s_node k_flags ms) ns a vt vu ft fu has F G = flags_refuse c g ms ns vt.ruled.0.enough.0 vt.ruled.0.enough.1
  node_refuses k_list (s_node k_list ms) ns a vt vu ft fu has F G =
      let r = places_lack ms ns a (ft.0.0 ∙ sym fu.0.0) vu.ruled.0.distinct ft.0.1 fu.0.1 (members_valid k_list ms vt) ft.1 (λ e. has refl) F in
      lists_refuse (has refl) ms ns (single [] ms ft.0.0 ft.0.1) (single [] ns fu.0.0 fu.0.1) r.0 r.1
  node_refuses k_map (s_node k_map ms) ns a vt vu ft fu has F G =
      let r = places_lack ms ns a (ft.0.0 ∙ sym fu.0.0) vu.ruled.0.distinct ft.0.1 fu.0.1 (members_valid k_map ms vt) ft.1 (λ e. has refl) F in
      maps_refuse (has refl) ms ns (double (0 ∷ []) (1 ∷ []) ms ft.0.0 ft.0.1) (double (0 ∷ []) (1 ∷ []) ns fu.0.0 fu.0.1) r.0 r.1
  node_refuses (k_fixed m) (s_node (k_fixed n) ms) ns a vt vu ft fu has F G =
      let r = places_lack ms ns a.1 (ft.0.0 ∙ sym fu.0.0) vu.ruled.0.distinct ft.0.1 fu.0.1 (members_valid (k_fixed n) ms vt) ft.1 has F in
      fixed_lists_refuse m n a.0 ms ns (single [] ms ft.0.0 ft.0.1) (single [] ns fu.0.0 fu.0.1) ft.1 fu.1 r.0 r.1
  node_refuses (k_future u j) (s_node (k_future t i) ms) ns a vt vu ft fu has F G = future_refuses c g t i u j ms ns
  node_refuses (k_stream u j) (s_node (k_stream t i) ms) ns a vt vu ft fu has F G = stream_refuses c g t i u j ms ns
  node_refuses l t ns a vt vu ft fu has F G = absurd a

  field_refuses : (ms ns : Members) (x : List ℕ) (u : Shape) (e : ℕ) → AreValid ms → AreWellFormed ms → AreSupplied c ms → BothThere (named x ms) (λ s. Agrees s u) → ((s : Shape) → Agrees s u → IsValid s → IsWellFormed s → IsSupplied c s → IsLawfulMove c s u × Refuses c s u)
      → RefusesFields c ms ns (next_of (width_of_side c.transfer.to) u e) (NotAll c ms ns) → RefusesFields c ms (typed x u ns) e (NotAll c ms (typed x u ns))
  field_refuses ms ns x u e v f has a one rest = go (named x ms) refl a
    where
      go : (q : Option Shape) → named x ms ≡ q → BothThere q (λ s. Agrees s u) → RefusesFields c ms (typed x u ns) e (NotAll c ms (typed x u ns))
      go None h a = absurd a
      go (Some s) h a =
          let q = found_named x ms 0 0 0 s h in
          let r = one q.field.shape (subst (λ z. Agrees z u) (sym q.shape) a) (valid_found x ms 0 0 0 q.field v q.is) (formed_found x ms 0 0 0 q.field f q.is) (supplied_found c x ms 0 0 0 q.field has q.is) in
          typed_fields_refuse c ms ns x u e q.field q.is r.0 r.1 rest

  mutual
    pub refuses : (u t : Shape) → Agrees t u → IsValid t → IsValid u → IsWellFormed t → IsWellFormed u → IsSupplied c t → Refuses c t u
    refuses (s_plain q) t a vt vu ft fu has = plain_refuses q t a fu has
    refuses (s_node l ns) t a vt vu ft fu has =
        node_refuses l t ns a vt vu ft fu has
        (λ ms af vm fm h. (carries_fields ns ms 0 af vm fm (members_valid l ns vu) fu.1 h, fields_refuse ns ms 0 af vm fm (members_valid l ns vu) fu.1 h))
        (λ ms k p size e ac vp fp h small. cases_refuse ns ms ns k p 0 size e ac vp fp h small (members_valid l ns vu) fu.1)

    pub fields_refuse : (ns ms : Members) (e : ℕ) → AgreesFields ms ns → AreValid ms → AreWellFormed ms → AreValid ns → AreWellFormed ns → AreSupplied c ms → RefusesFields c ms ns e (NotAll c ms ns)
    fields_refuse no_members ms e a vm fm vn fn has = no_fields_refuse c ms e
    fields_refuse (bare x ns) ms e a vm fm vn fn has = bare_fields_refuse c ms ns x e (fields_refuse ns ms e a vm fm vn fn has)
    fields_refuse (typed x u ns) ms e a vm fm vn fn has =
        field_refuses ms ns x u e vm fm has a.0 (λ s b vs fs h. (carries u s b vs vn.0 fs fn.0 h, refuses u s b vs vn.0 fs fn.0 h)) (fields_refuse ns ms (next_of (width_of_side c.transfer.to) u e) a.1 vm fm vn.1 fn.1 has)

    cases_refuse : (ns ms all : Members) (k : CaseType) (p : Shape) (i size : ℕ) → k.payload ≡ Some p → AgreesCase k.name k.payload ns → IsValid p → IsWellFormed p → IsSupplied c p → 256 ^ case_bytes all ≤ 2 ^ 32
        → AreValid ns → AreWellFormed ns → RefusesCase c ms all k p ns i size
    cases_refuse no_members ms all k p i size e a vp fp has small vn fn = absurd a
    cases_refuse (bare x ns) ms all k p i size e a vp fp has small vn fn = bare_case_refuses c g ms all k p e ns i size x a (λ b. cases_refuse ns ms all k p (suc i) size e b vp fp has small vn fn)
    cases_refuse (typed x u ns) ms all k p i size e a vp fp has small vn fn =
        typed_case_refuses c g ms all k p e ns i size x u small a (λ b. refuses u p b vp vn.0 fp fn.0 has) (λ b. cases_refuse ns ms all k p (suc i) size e b vp fp has small vn.1 fn.1)

  -- A move that gives had a value at its source.
  pub lifts : (u t : Shape) → Agrees t u → IsValid t → IsValid u → IsWellFormed t → IsWellFormed u → IsSupplied c t
      → (s : Source) (d : Target) (gs : List Region) (w : World) (m : List ℕ) → IsSource c (length (flat (width_of_side c.transfer.from) t)) s → HoldsMemories c m w → IsTarget c (flat (width_of_side c.transfer.to) u) (size_on c.transfer.to u) (IsInHand c gs) m d
      → RunsHonestly c gs (λ t cs. Unit {0}) (λ n cs a w'. (v : Value) × (value_at_source c t s ≡ Some v)) (move c.transfer t u s d) w
  lifts u t a vt vu ft fu has s d gs w m is ready target = go (value_at_source c t s) refl
    where
      go : (q : Option Value) → value_at_source c t s ≡ q → RunsHonestly c gs (λ t cs. Unit {0}) (λ n cs a w'. (v : Value) × (value_at_source c t s ≡ Some v)) (move c.transfer t u s d) w
      go None e = does_more (λ s cs o k. k) (λ n cs a w' o k. absurd k) ((refuses u t a vt vu ft fu has).by s d gs w m is e ready target)
      go (Some v) e = does_always (move c.transfer t u s d) w (λ n cs a w'. (v, e))

pub moves_are_lawful : MovesAreLawful
moves_are_lawful c g texts t u h = carries c g texts u t h.agree h.from_valid h.to_valid h.from_formed h.to_formed h.supplied

pub moves_refuse : MovesRefuse
moves_refuse c g texts t u h = refuses c g texts u t h.agree h.from_valid h.to_valid h.from_formed h.to_formed h.supplied
