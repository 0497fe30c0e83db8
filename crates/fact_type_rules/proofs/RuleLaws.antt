-- The rules for the types of a plan, the rules for shapes, and validity are one.
use Rattle.std.proofs.Common.{◌≡◌, ◌<◌, ◌≤◌, ◌+◌, ◌⊎◌, ℕ, zero, suc, List, [], ◌∷◌, length, map, get_or, Option, Some, None, refl, sym, ◌∙◌, ap, subst, arith, inl, inr}
use Rattle.std.specs.Prelude.{◌↔◌, IsSomeAnd, option_map, slice_get}
use Rattle.std.proofs.lemmas.List.{length-map}
use Rattle.std.proofs.lemmas.Bool.{cases_lt}
use Rattle.std.proofs.lemmas.Option.{slice_get-get_or}
use Rattle.fact_types.specs.declared.abi.CanonicalAbiInfo.{CanonicalAbiInfo}
use Rattle.fact_types.specs.declared.interface.InterfaceType.{InterfaceType}
use Rattle.fact_types.specs.declared.interface.InterfaceType.TheVariants.{Record as t_record, Variant as t_variant, List as t_list, Tuple as t_tuple, Map as t_map, Flags as t_flags, Enum as t_enum, Option as t_option, Result as t_result, Own as t_own, Borrow as t_borrow, Future as t_future, Stream as t_stream, FixedLengthList as t_fixed_length_list}
use Rattle.fact_types.specs.declared.kinds.RecordField.{RecordField}
use Rattle.fact_types.specs.Agrees.{names_of}
use Rattle.fact_types.specs.Layout.{payloads}
use Rattle.fact_types.specs.Shapes.{Kind, k_record, k_variant, k_list, k_tuple, k_map, k_flags, k_enum, k_option, k_result, k_fixed, k_future, k_stream, Shape, s_plain, s_node, Members, no_members, bare, typed, none_name, some_name, ok_name, error_name, layout_of, layouts_of, plain_layout}
use Rattle.fact_types.specs.Tables.{Tables, Node, node_of, record_node, variant_node, placed, tuple_node, flags_node, enum_node, option_node, result_node, list_node, map_node, fixed_length_list_node, payload_in, future_node, stream_node, HasShape, HasMembers}
use Rattle.fact_types.proofs.ShapeLaws.{more}
use Rattle.fact_types.specs.Valid.{AreDistinct, AreEnough, AreRuled, FollowsRules, IsPlainValid, IsRuled, deepest_nesting, nesting}
use Rattle.fact_plan.specs.declared.plan.PlanRef.{PlanRef}
use Rattle.fact_plan.specs.declared.plan.PlanType.{PlanType}
use Rattle.fact_plan.specs.declared.plan.PlanType.TheVariants as entry
use Rattle.fact_plan_types.specs.PlanShapes.{HandleTables, cases_of, entry_shape, fields_of, names_alone, places_of}
use Rattle.fact_plan_types.specs.TypeRules.{IsEmpty, IsPast, IsRepeated, most_entries, names_in, list_length, table_in}
use Rattle.fact_plan_types.specs.TypeRules.{HasManyCases as HasManyCasesIn, HasManyFlags as HasManyFlagsIn}
use Rattle.fact_plan_types.proofs.AddLaws.{entry_not_past, entry_within_or_past, not_past, within_or_past}
use Rattle.fact_plan_types.proofs.ValidLaws.{bare_names, case_names, distinct_where, field_names, head, one_name, option_names, result_names, two_names}
use Rattle.fact_type_rules.specs.RuleLaws.{BadByShape, BreaksRule, LargeByShape, ValidBreaksNone}
use Rattle.fact_type_rules.specs.TypeFaults.{AnyAmong, AnyIn, AreManyCases, AreManyFlags, HasRepeatedNames, IsBadKind, IsBadShape, IsEmptyKind, IsFarHandle, IsLargeShape, IsLongList, IsLongShape}

-- ---- names
no_repeats : (names : List (List ℕ)) → AreDistinct names → IsRepeated names → ⊥
no_repeats names d r = r (λ i j x before within e.
    let at = slice_get-get_or names i x (omega (arith, before, within)) ∙ ap Some e in
    let same = d i j (get_or names j x) at (slice_get-get_or names j x within) in
    omega (arith, same, before))

none_repeated : IsRepeated [] → ⊥
none_repeated r = r (λ i j x before within e. omega (arith, within))

names_count : (ms : Members) → length (names_of ms) ≡ length (layouts_of ms)
names_count no_members = refl
names_count (bare n ms) = ap suc (names_count ms)
names_count (typed n s ms) = ap suc (names_count ms)

payloads_few : (ms : Members) → length (payloads (layouts_of ms)) ≤ length (names_of ms)
payloads_few no_members = omega arith
payloads_few (bare n ms) = let h = payloads_few ms in omega (arith, h)
payloads_few (typed n s ms) = let h = payloads_few ms in omega (arith, h)

-- ---- what follows the rules breaks none
not_empty : (k : Kind) (m n : ℕ) → n ≤ m → AreEnough k m n → IsEmptyKind k m → ⊥
not_empty k_record m n l a e = omega (arith, l, a, e)
not_empty k_variant m n l a e = omega (arith, a.0, e)
not_empty k_tuple m n l a e = omega (arith, l, a, e)
not_empty k_flags m n l a e = omega (arith, a.0, e)
not_empty k_enum m n l a e = omega (arith, a, e)
not_empty (k_fixed count) m n l a e = omega (arith, a.0, e)
not_empty k m n l a e = e

not_repeated : (k : Kind) (names : List (List ℕ)) → AreDistinct names → HasRepeatedNames k names → ⊥
not_repeated k_record names d r = no_repeats names d r
not_repeated k_variant names d r = no_repeats names d r
not_repeated k_flags names d r = no_repeats names d r
not_repeated k_enum names d r = no_repeats names d r
not_repeated k names d r = r

few_flags : (k : Kind) (m n : ℕ) → AreEnough k m n → AreManyFlags k m → ⊥
few_flags k_flags m n a f = omega (arith, a.1, f)
few_flags k m n a f = f

not_long : (k : Kind) (m : ℕ) → m ≤ 268435456 → IsLongList k m → ⊥
not_long k_record m l b = omega (arith, l, b)
not_long k_variant m l b = omega (arith, l, b)
not_long k_tuple m l b = omega (arith, l, b)
not_long k_flags m l b = omega (arith, l, b)
not_long k_enum m l b = omega (arith, l, b)
not_long k m l b = b

few_cases : (k : Kind) (m n : ℕ) → AreEnough k m n → AreManyCases k m → ⊥
few_cases k_variant m n a f = omega (arith, a.1, f)
few_cases k m n a f = f

follows_good : (k : Kind) (ms : Members) → FollowsRules k ms → IsBadKind k (names_of ms) → ⊥
follows_good k ms f b =
    let enough = subst (λ (m : ℕ). AreEnough k m (length (payloads (layouts_of ms)))) (sym (names_count ms)) f.enough in
    elim b [
      | inl e ↦ not_empty k _ _ (payloads_few ms) enough e
      | inr r ↦ elim r [ inl d ↦ not_repeated k _ f.distinct d | inr m ↦ few_flags k _ _ enough m ]
    ]

follows_short : (k : Kind) (ms : Members) → FollowsRules k ms → nesting (s_node k ms) ≤ 100 → IsLargeShape (s_node k ms) → ⊥
follows_short k ms f n l =
    let enough = subst (λ (m : ℕ). AreEnough k m (length (payloads (layouts_of ms)))) (sym (names_count ms)) f.enough in
    elim l [
      | inl a ↦ elim a [ inl b ↦ not_long k _ (omega (arith, names_count ms, f.few)) b | inr c ↦ few_cases k _ _ enough c ]
      | inr a ↦ elim a [
        | inl b ↦ not_past _ f.within b
        | inr b ↦ elim b [ inl c ↦ entry_not_past k ms f.entry_within c | inr c ↦ omega (arith, n, c) ]
      ]
    ]

plain_near : (p : InterfaceType) → IsPlainValid p → IsFarHandle p → ⊥
plain_near (t_own i) v f = omega (arith, v, f)
plain_near (t_borrow i) v f = omega (arith, v, f)
plain_near p v f = f

past_small : (c : CanonicalAbiInfo) → c.size32 ≤ 16 → c.size64 ≤ 16 → IsPast c → ⊥
past_small c a b p = elim p [ inl h ↦ omega (arith, a, h) | inr h ↦ omega (arith, b, h) ]

plain_small : (p : InterfaceType) → IsPast (plain_layout p) → ⊥
plain_small (t_record i) h = past_small (plain_layout (t_record i)) (omega arith) (omega arith) h
plain_small p h = past_small (plain_layout p) (omega arith) (omega arith) h

mutual
  ruled_breaks_none : (s : Shape) → IsRuled s → nesting s ≤ 100 → AnyIn BreaksRule s → ⊥
  ruled_breaks_none (s_plain p) r n b = elim b [
    | inl bad ↦ bad
    | inr l ↦ elim l [
      | inl f ↦ plain_near p r f
      | inr a ↦ elim a [ inl q ↦ plain_small p q | inr c ↦ elim c [ inl e ↦ e | inr d ↦ omega (arith, d) ] ]
    ]
  ]
  ruled_breaks_none (s_node k ms) r n b = elim b [
    | inl here ↦ elim here [ inl bad ↦ follows_good k ms r.0 bad | inr l ↦ follows_short k ms r.0 n l ]
    | inr there ↦ all_break_none ms r.1 (omega (arith, n)) there
  ]

  all_break_none : (ms : Members) → AreRuled ms → deepest_nesting ms ≤ 100 → AnyAmong BreaksRule ms → ⊥
  all_break_none no_members r n b = b
  all_break_none (bare x ms) r n b = all_break_none ms r n b
  all_break_none (typed x s ms) r n b = elim b [
    | inl here ↦ ruled_breaks_none s r.0 (omega (arith, n)) here
    | inr there ↦ all_break_none ms r.1 (omega (arith, n)) there
  ]

-- ---- the members of the types of each kind
abbrev Member : Type 0
Member = List ℕ × Option InterfaceType

abbrev AreTyped : List Member → Type 0
AreTyped [] = Unit {0}
AreTyped ((n, None) ∷ xs) = ⊥
AreTyped ((n, Some ty) ∷ xs) = AreTyped xs

abbrev HasMembersOf : Kind → List Member → Type 0
HasMembersOf k_record xs = AreTyped xs
HasMembersOf k_tuple xs = (ts : List InterfaceType) × (xs ≡ placed 0 ts)
HasMembersOf k_list xs = (a : InterfaceType) × (xs ≡ ([], Some a) ∷ [])
HasMembersOf k_option xs = (a : InterfaceType) × (xs ≡ (none_name, None) ∷ (some_name, Some a) ∷ [])
HasMembersOf k_result xs = (a : Option InterfaceType) × (b : Option InterfaceType) × (xs ≡ (ok_name, a) ∷ (error_name, b) ∷ [])
HasMembersOf k_map xs = (a : InterfaceType) × (b : InterfaceType) × (xs ≡ (0 ∷ [], Some a) ∷ (1 ∷ [], Some b) ∷ [])
HasMembersOf (k_fixed count) xs = (a : InterfaceType) × (xs ≡ ([], Some a) ∷ [])
HasMembersOf (k_future table instance) xs = (a : Option InterfaceType) × (xs ≡ ([], a) ∷ [])
HasMembersOf (k_stream table instance) xs = (a : Option InterfaceType) × (xs ≡ ([], a) ∷ [])
HasMembersOf k xs = Unit {0}

some_tells : {X : Type 0} (x y : X) → Some x ≡ Some y → x ≡ y
some_tells x y h = cc

-- what holds of all entries of a table
pub of_all : {X : Type 0} (f : X → Node) (P : Node → Type 0) → ((x : X) → P (f x)) → (o : Option X) (n : Node) → option_map f o ≡ Some n → P n
of_all f P all None n h = absurd (cc)
of_all f P all (Some x) n h = subst P (some_tells (f x) n h) (all x)

abbrev IsOfKind : Node → Type 0
IsOfKind n = HasMembersOf n.kind n.members

fields_typed : (fs : List RecordField) → AreTyped (map (λ f. (f.name, Some f.ty)) fs)
fields_typed [] = tt
fields_typed (f ∷ fs) = fields_typed fs

placed_typed : (n : ℕ) (ts : List InterfaceType) → AreTyped (placed n ts)
placed_typed n [] = tt
placed_typed n (x ∷ ts) = placed_typed (suc n) ts

of_node : (t : Tables) (ty : InterfaceType) (n : Node) → node_of t ty ≡ Some n → IsOfKind n
of_node t (t_record i) n h = of_all record_node IsOfKind (λ e. fields_typed e.fields) (slice_get t.records i.number) n h
of_node t (t_variant i) n h = of_all variant_node IsOfKind (λ e. tt) (slice_get t.variants i.number) n h
of_node t (t_list i) n h = of_all list_node IsOfKind (λ e. (e.element, refl)) (slice_get t.lists i.number) n h
of_node t (t_tuple i) n h = of_all tuple_node IsOfKind (λ e. (e.types, refl)) (slice_get t.tuples i.number) n h
of_node t (t_map i) n h = of_all map_node IsOfKind (λ e. (e.key, e.value, refl)) (slice_get t.maps i.number) n h
of_node t (t_flags i) n h = of_all flags_node IsOfKind (λ e. tt) (slice_get t.flags i.number) n h
of_node t (t_enum i) n h = of_all enum_node IsOfKind (λ e. tt) (slice_get t.enums i.number) n h
of_node t (t_option i) n h = of_all option_node IsOfKind (λ e. (e.ty, refl)) (slice_get t.options i.number) n h
of_node t (t_result i) n h = of_all result_node IsOfKind (λ e. (e.ok, e.err, refl)) (slice_get t.results i.number) n h
of_node t (t_future i) n h = of_all (future_node t.futures i.number) IsOfKind (λ e. (payload_in (λ f. f.payload) (slice_get t.futures e.ty.number), refl)) (slice_get t.future_tables i.number) n h
of_node t (t_stream i) n h = of_all (stream_node t.streams i.number) IsOfKind (λ e. (payload_in (λ s. s.payload) (slice_get t.streams e.ty.number), refl)) (slice_get t.stream_tables i.number) n h
of_node t (t_fixed_length_list i) n h = of_all fixed_length_list_node IsOfKind (λ e. (e.element, refl)) (slice_get t.fixed_length_lists i.number) n h
of_node t ty n h = absurd (cc)

abbrev names_in_list : List Member → List (List ℕ)
names_in_list xs = map (λ x. x.0) xs

names_are : (t : Tables) (ms : Members) (xs : List Member) → HasMembers t xs ms → names_of ms ≡ names_in_list xs
names_are t no_members [] h = refl
names_are t no_members (x ∷ xs) h = absurd h
names_are t (bare n ms) [] h = absurd h
names_are t (bare n ms) (x ∷ xs) h = more _ _ _ _ (sym h.0) (names_are t ms xs h.2)
names_are t (typed n s ms) [] h = absurd h
names_are t (typed n s ms) (x ∷ xs) h = more _ _ _ _ (sym h.0) (names_are t ms xs h.2)

typed_count : (t : Tables) (ms : Members) (xs : List Member) → HasMembers t xs ms → AreTyped xs → length (payloads (layouts_of ms)) ≡ length (names_of ms)
typed_count t no_members xs h a = refl
typed_count t (bare n ms) [] h a = absurd h
typed_count t (bare n ms) ((m, None) ∷ xs) h a = absurd a
typed_count t (bare n ms) ((m, Some ty) ∷ xs) h a = let e : Some ty ≡ None = h.1 in absurd (cc)
typed_count t (typed n s ms) [] h a = absurd h
typed_count t (typed n s ms) ((m, None) ∷ xs) h a = absurd a
typed_count t (typed n s ms) ((m, Some ty) ∷ xs) h a = ap suc (typed_count t ms xs h.2 a)

-- ---- names that are told apart by the tables themselves
placed_name : (n : ℕ) (ts : List InterfaceType) (i : ℕ) (x : List ℕ) → slice_get (names_in_list (placed n ts)) i ≡ Some x → head x ≡ n + i
placed_name n [] i x h = absurd (cc)
placed_name n (y ∷ ts) zero x h =
    let e : n ∷ [] ≡ x = some_tells (n ∷ []) x h in
    let f : n ≡ head x = ap head e in omega (arith, f)
placed_name n (y ∷ ts) (suc i) x h = let e = placed_name (suc n) ts i x h in omega (arith, e)

placed_distinct : (ts : List InterfaceType) → AreDistinct (names_in_list (placed 0 ts))
placed_distinct ts i j x p q =
    let e = placed_name 0 ts i x p in
    let f = placed_name 0 ts j x q in omega (arith, e, f)

two_places : ◌≡◌ {A = List ℕ} (0 ∷ []) (1 ∷ []) → ⊥
two_places e = let h : 0 ≡ 1 = ap head e in omega (arith, h)

abbrev Distinct : List Member → Type 0
Distinct xs = AreDistinct (names_in_list xs)

distinct_by : (k : Kind) (xs : List Member) → HasMembersOf k xs → (HasRepeatedNames k (names_in_list xs) → ⊥) → Distinct xs
distinct_by k_record xs m r = distinct_where _ r
distinct_by k_variant xs m r = distinct_where _ r
distinct_by k_flags xs m r = distinct_where _ r
distinct_by k_enum xs m r = distinct_where _ r
distinct_by k_tuple xs m r = subst Distinct (sym m.1) (placed_distinct m.0)
distinct_by k_list xs m r = subst Distinct (sym m.1) (one_name [])
distinct_by k_option xs m r = subst Distinct (sym m.1) (two_names none_name some_name option_names)
distinct_by k_result xs m r = subst Distinct (sym m.2) (two_names ok_name error_name result_names)
distinct_by k_map xs m r = subst Distinct (sym m.2) (two_names (0 ∷ []) (1 ∷ []) two_places)
distinct_by (k_fixed count) xs m r = subst Distinct (sym m.1) (one_name [])
distinct_by (k_future table instance) xs m r = subst Distinct (sym m.1) (one_name [])
distinct_by (k_stream table instance) xs m r = subst Distinct (sym m.1) (one_name [])

-- ---- what breaks none follows the rules
few_by : (k : Kind) (xs : List Member) → HasMembersOf k xs → (IsLongList k (length (names_in_list xs)) → ⊥) → length (names_in_list xs) ≤ 268435456
few_by k_record xs m l = omega (arith, l)
few_by k_variant xs m l = omega (arith, l)
few_by k_tuple xs m l = omega (arith, l)
few_by k_flags xs m l = omega (arith, l)
few_by k_enum xs m l = omega (arith, l)
few_by k_list xs m l = omega (arith, ap (λ (ys : List Member). length (names_in_list ys)) m.1)
few_by k_option xs m l = omega (arith, ap (λ (ys : List Member). length (names_in_list ys)) m.1)
few_by k_result xs m l = omega (arith, ap (λ (ys : List Member). length (names_in_list ys)) m.2)
few_by k_map xs m l = omega (arith, ap (λ (ys : List Member). length (names_in_list ys)) m.2)
few_by (k_fixed count) xs m l = omega (arith, ap (λ (ys : List Member). length (names_in_list ys)) m.1)
few_by (k_future table instance) xs m l = omega (arith, ap (λ (ys : List Member). length (names_in_list ys)) m.1)
few_by (k_stream table instance) xs m l = omega (arith, ap (λ (ys : List Member). length (names_in_list ys)) m.1)

enough_by : (k : Kind) (t : Tables) (ms : Members) (xs : List Member) → HasMembers t xs ms → HasMembersOf k xs → (IsBadKind k (names_of ms) → ⊥) → (AreManyCases k (length (names_of ms)) → ⊥) → AreEnough k (length (layouts_of ms)) (length (payloads (layouts_of ms)))
enough_by k_record t ms xs h m b c =
    let some : length (names_of ms) ≡ 0 → ⊥ = λ e. b (inl e) in omega (arith, some, typed_count t ms xs h m)
enough_by k_tuple t ms xs h m b c =
    let some : length (names_of ms) ≡ 0 → ⊥ = λ e. b (inl e) in omega (arith, some, typed_count t ms xs h (subst AreTyped (sym m.1) (placed_typed 0 m.0)))
enough_by k_variant t ms xs h m b c =
    let some : length (names_of ms) ≡ 0 → ⊥ = λ e. b (inl e) in
    let few : 4096 < length (names_of ms) → ⊥ = c in (omega (arith, some, names_count ms), omega (arith, few, names_count ms))
enough_by k_flags t ms xs h m b c =
    let some : length (names_of ms) ≡ 0 → ⊥ = λ e. b (inl e) in
    let few : 32 < length (names_of ms) → ⊥ = λ q. b (inr (inr q)) in (omega (arith, some, names_count ms), omega (arith, few, names_count ms))
enough_by k_enum t ms xs h m b c =
    let some : length (names_of ms) ≡ 0 → ⊥ = λ e. b (inl e) in omega (arith, some, names_count ms)
enough_by (k_fixed count) t ms xs h m b c =
    let some : count ≡ 0 → ⊥ = λ e. b (inl e) in
    let one = ap length (names_are t ms xs h) ∙ ap (λ (ys : List Member). length (names_in_list ys)) m.1 in
    let types = typed_count t ms xs h (subst AreTyped (sym m.1) tt) in (omega (arith, some), omega (arith, one, names_count ms), omega (arith, one, types))
enough_by k t ms xs h m b c = tt

node_follows : (t : Tables) (k : Kind) (ms : Members) (xs : List Member) → HasMembers t xs ms → HasMembersOf k xs → (BreaksRule (s_node k ms) → ⊥) → FollowsRules k ms
node_follows t k ms xs h m b =
    let names = names_are t ms xs h in
    let repeated : HasRepeatedNames k (names_in_list xs) → ⊥ = λ r. b (inl (inr (inl (subst (HasRepeatedNames k) (sym names) r)))) in
    let long : IsLongList k (length (names_in_list xs)) → ⊥ = λ l. b (inr (inl (inl (subst (λ (ns : List (List ℕ)). IsLongList k (length ns)) (sym names) l)))) in
    record {
      enough = enough_by k t ms xs h m (λ z. b (inl z)) (λ z. b (inr (inl (inr z))));
      distinct = subst AreDistinct (sym names) (distinct_by k xs m repeated);
      few = omega (arith, few_by k xs m long, ap length names, names_count ms);
      within = elim (within_or_past (layout_of (s_node k ms))) [ inl w ↦ w | inr p ↦ absurd (b (inr (inr (inl p)))) ];
      entry_within = elim (entry_within_or_past k ms) [ inl w ↦ w | inr p ↦ absurd (b (inr (inr (inr (inl p))))) ];
    }

plain_ruled : (p : InterfaceType) → (IsFarHandle p → ⊥) → IsPlainValid p
plain_ruled (t_own i) n = omega (arith, n)
plain_ruled (t_borrow i) n = omega (arith, n)
plain_ruled p n = tt

mutual
  none_ruled : (t : Tables) (s : Shape) (ty : InterfaceType) → HasShape t ty s → (AnyIn BreaksRule s → ⊥) → IsRuled s
  none_ruled t (s_plain p) ty h b = plain_ruled p (λ f. b (inr (inl f)))
  none_ruled t (s_node k ms) ty h b =
      let m = subst (λ (c : Kind). HasMembersOf c h.0.members) h.2 (of_node t ty h.0 h.1) in
      (node_follows t k ms h.0.members h.3 m (λ z. b (inl z)), all_ruled t ms h.0.members h.3 (λ z. b (inr z)))

  all_ruled : (t : Tables) (ms : Members) (xs : List Member) → HasMembers t xs ms → (AnyAmong BreaksRule ms → ⊥) → AreRuled ms
  all_ruled t no_members xs h b = tt
  all_ruled t (bare n ms) [] h b = absurd h
  all_ruled t (bare n ms) (x ∷ xs) h b = all_ruled t ms xs h.2 b
  all_ruled t (typed n s ms) [] h b = absurd h
  all_ruled t (typed n s ms) (x ∷ xs) h b = (none_ruled t s h.1.0 h.1.2 (λ z. b (inl z)), all_ruled t ms xs h.2 (λ z. b (inr z)))

here_breaks : (s : Shape) → BreaksRule s → AnyIn BreaksRule s
here_breaks (s_plain p) b = b
here_breaks (s_node k ms) b = inl b

not_deep : (s : Shape) → (AnyIn BreaksRule s → ⊥) → nesting s ≤ 100
not_deep s n = elim (cases_lt 100 (nesting s)) [ inl l ↦ absurd (n (here_breaks s (inr (inr (inr (inr l)))))) | inr l ↦ l ]

pub valid_breaks_none : ValidBreaksNone
valid_breaks_none = λ t ty s h. (λ v. ruled_breaks_none s v.ruled v.nested, λ n. record { ruled = none_ruled t s ty h n; nested = not_deep s n })

-- ---- an entry of a plan is none where its shape is
abbrev OwnBad : PlanType → Type 0
OwnBad e = IsEmpty e ⊎ (IsRepeated (names_in e) ⊎ HasManyFlagsIn e)

or_left : {A B C : Type 0} → (A ↔ B) → ((A ⊎ C) ↔ (B ⊎ C))
or_left e = (λ x. elim x [ inl a ↦ inl (e.0 a) | inr c ↦ inr c ], λ x. elim x [ inl b ↦ inl (e.1 b) | inr c ↦ inr c ])

-- where an entry has no names
no_names : {A B : Type 0} → (A ↔ B) → ((A ⊎ (⊥ ⊎ ⊥)) ↔ (B ⊎ (IsRepeated [] ⊎ ⊥)))
no_names e = (
  λ x. elim x [ inl a ↦ inl (e.0 a) | inr c ↦ elim c [ inl z ↦ absurd z | inr z ↦ absurd z ] ],
  λ x. elim x [ inl b ↦ inl (e.1 b) | inr c ↦ elim c [ inl r ↦ absurd (none_repeated r) | inr z ↦ absurd z ] ],
)

no_kind : ⊥ ↔ (⊥ ⊎ (IsRepeated [] ⊎ ⊥))
no_kind = (λ z. absurd z, λ x. elim x [ inl z ↦ z | inr c ↦ elim c [ inl r ↦ none_repeated r | inr z ↦ z ] ])

neither : ⊥ ↔ ⊥
neither = (λ z. z, λ z. z)

with_names : (k : Kind) (ms : Members) (names : List (List ℕ)) (P : Type 0) → names_of ms ≡ names → (IsBadKind k names ↔ P) → (IsBadShape (s_node k ms) ↔ P)
with_names k ms names P e b = subst (λ (ns : List (List ℕ)). IsBadKind k ns ↔ P) (sym e) b

record_empty : (fs : List (List ℕ × PlanRef)) → (length (map (λ f. f.0) fs) ≡ 0 ↔ IsEmpty (entry.Record fs))
record_empty [] = (λ e. tt, λ x. refl)
record_empty (f ∷ fs) = (λ e. omega (arith, e), λ x. absurd x)

variant_empty : (cs : List (List ℕ × Option PlanRef)) → (length (map (λ c. c.0) cs) ≡ 0 ↔ IsEmpty (entry.Variant cs))
variant_empty [] = (λ e. tt, λ x. refl)
variant_empty (c ∷ cs) = (λ e. omega (arith, e), λ x. absurd x)

flags_empty : (ns : List (List ℕ)) → (length ns ≡ 0 ↔ IsEmpty (entry.Flags ns))
flags_empty [] = (λ e. tt, λ x. refl)
flags_empty (n ∷ ns) = (λ e. omega (arith, e), λ x. absurd x)

enum_empty : (ns : List (List ℕ)) → (length ns ≡ 0 ↔ IsEmpty (entry.Enum ns))
enum_empty [] = (λ e. tt, λ x. refl)
enum_empty (n ∷ ns) = (λ e. omega (arith, e), λ x. absurd x)

tuple_empty : (ss : List Shape) (rs : List PlanRef) → (length (names_of (places_of ss 0 rs)) ≡ 0 ↔ IsEmpty (entry.Tuple rs))
tuple_empty ss [] = (λ e. tt, λ x. refl)
tuple_empty ss (r ∷ rs) = (λ e. omega (arith, e), λ x. absurd x)

own_bad : (ss : List Shape) (h : HandleTables) (e : PlanType) → (IsBadShape (entry_shape ss h e) ↔ OwnBad e)
own_bad ss h (entry.Record fs) = with_names k_record (fields_of ss fs) _ _ (field_names ss fs) (or_left (record_empty fs))
own_bad ss h (entry.Variant cs) = with_names k_variant (cases_of ss cs) _ _ (case_names ss cs) (or_left (variant_empty cs))
own_bad ss h (entry.Tuple rs) = no_names (tuple_empty ss rs)
own_bad ss h (entry.List r) = no_names neither
own_bad ss h (entry.Option r) = no_names neither
own_bad ss h (entry.Map key value) = no_names neither
own_bad ss h (entry.Result ok err) = no_names neither
own_bad ss h (entry.Flags ns) = with_names k_flags (names_alone ns) _ _ (bare_names ns) (or_left (flags_empty ns))
own_bad ss h (entry.Enum ns) = with_names k_enum (names_alone ns) _ _ (bare_names ns) (or_left (enum_empty ns))
own_bad ss h (entry.FixedList r n) = no_names (λ e. e, λ e. e)
own_bad ss h (entry.Own n) = no_kind
own_bad ss h (entry.Borrow n) = no_kind
own_bad ss h (entry.Future o i) = no_names neither
own_bad ss h (entry.Stream o i) = no_names neither
own_bad ss h (entry.ErrorContext i) = no_kind

-- three and one
regroup : {A B C D S : Type 0} → (S ↔ (A ⊎ (B ⊎ C))) → ((A ⊎ (B ⊎ (C ⊎ D))) ↔ (S ⊎ D))
regroup e = (
  λ x. elim x [
    | inl a ↦ inl (e.1 (inl a))
    | inr y ↦ elim y [ inl b ↦ inl (e.1 (inr (inl b))) | inr z ↦ elim z [ inl c ↦ inl (e.1 (inr (inr c))) | inr d ↦ inr d ] ]
  ],
  λ x. elim x [
    | inl s ↦ elim (e.0 s) [ inl a ↦ inl a | inr y ↦ elim y [ inl b ↦ inr (inl b) | inr c ↦ inr (inr (inl c)) ] ]
    | inr d ↦ inr (inr (inr d))
  ],
)

pub bad_by_shape : BadByShape
bad_by_shape = λ p k ss h e. regroup (own_bad ss h e)

-- ---- it is too large where its shape is
abbrev OwnLong : PlanType → Type 0
OwnLong e = IsSomeAnd (table_in e) (λ n. most_entries ≤ n) ⊎ ((most_entries < list_length e) ⊎ HasManyCasesIn e)

-- a list of members, and cases
of_list : {L M C D : Type 0} → (L ↔ M) → (C ↔ D) → ((L ⊎ C) ↔ (⊥ ⊎ (M ⊎ D)))
of_list e f = (
  λ x. elim x [ inl a ↦ inr (inl (e.0 a)) | inr c ↦ inr (inr (f.0 c)) ],
  λ x. elim x [ inl z ↦ absurd z | inr y ↦ elim y [ inl b ↦ inl (e.1 b) | inr d ↦ inr (f.1 d) ] ],
)

no_list : ⊥ ↔ (most_entries < 0)
no_list = (λ z. absurd z, λ l. omega (arith, l))

of_handle : {A : Type 0} → A ↔ (A ⊎ ((most_entries < 0) ⊎ ⊥))
of_handle = (λ a. inl a, λ x. elim x [ inl a ↦ a | inr y ↦ elim y [ inl l ↦ absurd (no_list.1 l) | inr z ↦ absurd z ] ])

longer : (a b n : ℕ) → a ≡ b → ((n < a) ↔ (n < b))
longer a b n e = (λ l. omega (arith, e, l), λ l. omega (arith, e, l))

places_count : (ss : List Shape) (n : ℕ) (rs : List PlanRef) → length (names_of (places_of ss n rs)) ≡ length rs
places_count ss n [] = refl
places_count ss n (r ∷ rs) = ap suc (places_count ss (suc n) rs)

own_long : (ss : List Shape) (h : HandleTables) (e : PlanType) → (IsLongShape (entry_shape ss h e) ↔ OwnLong e)
own_long ss h (entry.Record fs) = of_list (longer _ _ most_entries (ap length (field_names ss fs) ∙ length-map fs (λ f. f.0))) neither
own_long ss h (entry.Variant cs) =
    let n = ap length (case_names ss cs) ∙ length-map cs (λ c. c.0) in
    of_list (longer _ _ most_entries n) (longer _ _ 4096 n)
own_long ss h (entry.Tuple rs) = of_list (longer _ _ most_entries (places_count ss 0 rs)) neither
own_long ss h (entry.List r) = of_list no_list neither
own_long ss h (entry.Option r) = of_list no_list neither
own_long ss h (entry.Map key value) = of_list no_list neither
own_long ss h (entry.Result ok err) = of_list no_list neither
own_long ss h (entry.Flags ns) = of_list (longer _ _ most_entries (ap length (bare_names ns))) neither
own_long ss h (entry.Enum ns) = of_list (longer _ _ most_entries (ap length (bare_names ns))) neither
own_long ss h (entry.FixedList r n) = of_list no_list neither
own_long ss h (entry.Own n) = of_handle
own_long ss h (entry.Borrow n) = of_handle
own_long ss h (entry.Future o i) = of_list no_list neither
own_long ss h (entry.Stream o i) = of_list no_list neither
own_long ss h (entry.ErrorContext i) = of_handle

gather : {A B C S : Type 0} → (S ↔ B) → (((A ⊎ B) ⊎ C) ↔ (A ⊎ (S ⊎ C)))
gather e = (
  λ x. elim x [ inl y ↦ elim y [ inl a ↦ inl a | inr b ↦ inr (inl (e.1 b)) ] | inr c ↦ inr (inr c) ],
  λ x. elim x [ inl a ↦ inl (inl a) | inr y ↦ elim y [ inl s ↦ inl (inr (e.0 s)) | inr c ↦ inr c ] ],
)

pub large_by_shape : LargeByShape
large_by_shape = λ p k ss h e. gather (own_long ss h e)
