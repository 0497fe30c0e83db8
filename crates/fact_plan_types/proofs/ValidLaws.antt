-- An entry of a plan that has no fault stands for a valid type, where the entries before do.
use Rattle.std.proofs.Common.{◌≡◌, ◌<◌, ◌≤◌, ◌+◌, ℕ, zero, suc, List, [], ◌∷◌, length, map, get_or, Option, Some, None, refl, sym, ◌∙◌, ap, subst, arith, inl, inr, All, unwrap_or, codes}
use Rattle.std.specs.Prelude.{slice_get}
use Rattle.std.specs.List.{position_or_len}
use Rattle.std.proofs.lemmas.Bool.{cases_lt}
use Rattle.std.proofs.lemmas.Option.{get_or_from_slice_get, slice_get_within}
use Rattle.fact_types.specs.declared.interface.InterfaceType.TheVariants as type
use Rattle.fact_types.specs.Agrees.{names_of}
use Rattle.fact_types.specs.Layout.{payloads}
use Rattle.fact_types.specs.Shapes.{Kind, k_record, k_variant, k_list, k_tuple, k_map, k_flags, k_enum, k_option, k_result, k_fixed, k_future, k_stream, Shape, s_plain, s_node, Members, no_members, bare, typed, none_name, some_name, ok_name, error_name, layout_of, layouts_of}
use Rattle.fact_types.specs.Valid.{AreDistinct, AreEnough, AreRuled, FollowsRules, IsRuled, IsValid, nesting}
use Rattle.fact_source.specs.declared.defined.PrimitiveValType.{PrimitiveValType}
use Rattle.fact_source.specs.declared.defined.PrimitiveValType.TheVariants as word
use Rattle.fact_plan.specs.declared.plan.PlanRef.{PlanRef}
use Rattle.fact_plan.specs.declared.plan.PlanRef.TheVariants.{Word, Entry}
use Rattle.fact_plan.specs.declared.plan.PlanType.{PlanType}
use Rattle.fact_plan.specs.declared.plan.PlanType.TheVariants as entry
use Rattle.fact_plan_types.specs.Adding.{IsTooWide}
use Rattle.fact_plan_types.specs.PlanShapes.{HandleTables, cases_of, entry_shape, fields_of, handle_table, member_of, names_alone, places_of, same_table, shape_of, word_type}
use Rattle.fact_plan_types.specs.TypeRules.{IsBadType, IsEmpty, IsLongEntry, IsRepeated, most_entries}
use Rattle.fact_plan_types.proofs.AddLaws.{entry_within_or_past, within_or_past}
use Rattle.fact_plan_types.proofs.MemberLaws.{cases_count, names_count}

-- ---- names that are distinct
apart : (names : List (List ℕ)) → (IsRepeated names → ⊥) → (i j : ℕ) (x : List ℕ) → i < j → slice_get names i ≡ Some x → slice_get names j ≡ Some x → ⊥
apart names n i j x l p q = n (λ pairs. pairs i j x l (slice_get_within names j x q) (get_or_from_slice_get names i x x p ∙ sym (get_or_from_slice_get names j x x q)))

pub distinct_where : (names : List (List ℕ)) → (IsRepeated names → ⊥) → AreDistinct names
distinct_where names n i j x p q = elim (cases_lt i j) [
  | inl l ↦ absurd (apart names n i j x l p q)
  | inr m ↦ elim (cases_lt j i) [ inl l ↦ absurd (apart names n j i x l q p) | inr o ↦ omega (arith, m, o) ]
]

pub one_name : (a : List ℕ) → AreDistinct (a ∷ [])
one_name a zero zero x p q = refl
one_name a zero (suc j) x p q = absurd (cc)
one_name a (suc i) j x p q = absurd (cc)

both_some : {X : Type 0} (a b x : X) → Some a ≡ Some x → Some b ≡ Some x → a ≡ b
both_some a b x p q = cc

pub two_names : (a b : List ℕ) → (a ≡ b → ⊥) → AreDistinct (a ∷ b ∷ [])
two_names a b n zero zero x p q = refl
two_names a b n zero (suc zero) x p q = absurd (n (both_some a b x p q))
two_names a b n zero (suc (suc j)) x p q = absurd (cc)
two_names a b n (suc zero) zero x p q = absurd (n (both_some a b x q p))
two_names a b n (suc zero) (suc zero) x p q = refl
two_names a b n (suc zero) (suc (suc j)) x p q = absurd (cc)
two_names a b n (suc (suc i)) j x p q = absurd (cc)

abbrev pub head : List ℕ → ℕ
head xs = get_or xs 0 0

pub option_names : none_name ≡ some_name → ⊥
option_names e = let h : 110 ≡ 115 = ap head e in omega (arith, h)

pub result_names : ok_name ≡ error_name → ⊥
result_names e = let h : 111 ≡ 101 = ap head e in omega (arith, h)

some_is : {X : Type 0} (x y : X) → Some x ≡ Some y → x ≡ y
some_is x y h = cc

-- names that are places
place_name : (ss : List Shape) (n : ℕ) (rs : List PlanRef) (i : ℕ) (x : List ℕ) → slice_get (names_of (places_of ss n rs)) i ≡ Some x → head x ≡ n + i
place_name ss n [] i x h = absurd (cc)
place_name ss n (r ∷ rs) zero x h =
    let e : n ∷ [] ≡ x = some_is (n ∷ []) x h in
    let f : n ≡ head x = ap head e in omega (arith, f)
place_name ss n (r ∷ rs) (suc i) x h = let e = place_name ss (suc n) rs i x h in omega (arith, e)

place_names : (ss : List Shape) (rs : List PlanRef) → AreDistinct (names_of (places_of ss 0 rs))
place_names ss rs i j x p q =
    let e = place_name ss 0 rs i x p in
    let f = place_name ss 0 rs j x q in omega (arith, e, f)

pub field_names : (ss : List Shape) (fs : List (List ℕ × PlanRef)) → names_of (fields_of ss fs) ≡ map (λ f. f.0) fs
field_names ss [] = refl
field_names ss (f ∷ fs) = ap (λ (ns : List (List ℕ)). f.0 ∷ ns) (field_names ss fs)

pub case_names : (ss : List Shape) (cs : List (List ℕ × Option PlanRef)) → names_of (cases_of ss cs) ≡ map (λ c. c.0) cs
case_names ss [] = refl
case_names ss ((n, None) ∷ cs) = ap (λ (ns : List (List ℕ)). n ∷ ns) (case_names ss cs)
case_names ss ((n, Some r) ∷ cs) = ap (λ (ns : List (List ℕ)). n ∷ ns) (case_names ss cs)

pub bare_names : (ns : List (List ℕ)) → names_of (names_alone ns) ≡ ns
bare_names [] = refl
bare_names (n ∷ ns) = ap (λ (us : List (List ℕ)). n ∷ us) (bare_names ns)

member_names : (ss : List Shape) (name : List ℕ) (o : Option PlanRef) (ms : Members) → names_of (member_of ss name o ms) ≡ name ∷ names_of ms
member_names ss name None ms = refl
member_names ss name (Some r) ms = refl

-- ---- how many members there are
fields_count : (ss : List Shape) (fs : List (List ℕ × PlanRef)) → length (layouts_of (fields_of ss fs)) ≡ length fs
fields_count ss [] = refl
fields_count ss (f ∷ fs) = ap suc (fields_count ss fs)

places_count : (ss : List Shape) (n : ℕ) (rs : List PlanRef) → length (layouts_of (places_of ss n rs)) ≡ length rs
places_count ss n [] = refl
places_count ss n (r ∷ rs) = ap suc (places_count ss (suc n) rs)

member_count : (ss : List Shape) (name : List ℕ) (o : Option PlanRef) (ms : Members) → length (layouts_of (member_of ss name o ms)) ≡ suc (length (layouts_of ms))
member_count ss name None ms = refl
member_count ss name (Some r) ms = refl

some_fields : (ss : List Shape) (fs : List (List ℕ × PlanRef)) → (IsEmpty (entry.Record fs) → ⊥) → 1 ≤ length (payloads (layouts_of (fields_of ss fs)))
some_fields ss [] n = absurd (n tt)
some_fields ss (f ∷ fs) n = omega arith

some_places : (ss : List Shape) (rs : List PlanRef) → (IsEmpty (entry.Tuple rs) → ⊥) → 1 ≤ length (payloads (layouts_of (places_of ss 0 rs)))
some_places ss [] n = absurd (n tt)
some_places ss (r ∷ rs) n = omega arith

some_cases : (cs : List (List ℕ × Option PlanRef)) → (IsEmpty (entry.Variant cs) → ⊥) → 1 ≤ length cs
some_cases [] n = absurd (n tt)
some_cases (c ∷ cs) n = omega arith

some_flags : (ns : List (List ℕ)) → (IsEmpty (entry.Flags ns) → ⊥) → 1 ≤ length ns
some_flags [] n = absurd (n tt)
some_flags (x ∷ ns) n = omega arith

some_enum : (ns : List (List ℕ)) → (IsEmpty (entry.Enum ns) → ⊥) → 1 ≤ length ns
some_enum [] n = absurd (n tt)
some_enum (x ∷ ns) n = omega arith

-- ---- the types of members
word_ruled : (w : PrimitiveValType) → IsRuled (s_plain (word_type w))
word_ruled word.Bool = tt
word_ruled w = tt

place_ruled : (ss : List Shape) → All IsRuled ss → (k : ℕ) → IsRuled (unwrap_or (slice_get ss k) (s_plain type.Bool))
place_ruled [] a k = tt
place_ruled (s ∷ ss) a zero = a 0 s (omega arith)
place_ruled (s ∷ ss) a (suc k) = place_ruled ss (λ j d l. a (suc j) d (omega (arith, l))) k

ref_ruled : (ss : List Shape) → All IsRuled ss → (r : PlanRef) → IsRuled (shape_of ss r)
ref_ruled ss a (Word w) = word_ruled w
ref_ruled ss a (Entry k) = place_ruled ss a k

member_ruled : (ss : List Shape) → All IsRuled ss → (name : List ℕ) (o : Option PlanRef) (ms : Members) → AreRuled ms → AreRuled (member_of ss name o ms)
member_ruled ss a name None ms h = h
member_ruled ss a name (Some r) ms h = (ref_ruled ss a r, h)

fields_ruled : (ss : List Shape) → All IsRuled ss → (fs : List (List ℕ × PlanRef)) → AreRuled (fields_of ss fs)
fields_ruled ss a [] = tt
fields_ruled ss a (f ∷ fs) = (ref_ruled ss a f.1, fields_ruled ss a fs)

cases_ruled : (ss : List Shape) → All IsRuled ss → (cs : List (List ℕ × Option PlanRef)) → AreRuled (cases_of ss cs)
cases_ruled ss a [] = tt
cases_ruled ss a (c ∷ cs) = member_ruled ss a c.0 c.1 _ (cases_ruled ss a cs)

places_ruled : (ss : List Shape) → All IsRuled ss → (n : ℕ) (rs : List PlanRef) → AreRuled (places_of ss n rs)
places_ruled ss a n [] = tt
places_ruled ss a n (r ∷ rs) = (ref_ruled ss a r, places_ruled ss a (suc n) rs)

names_ruled : (ns : List (List ℕ)) → AreRuled (names_alone ns)
names_ruled [] = tt
names_ruled (n ∷ ns) = names_ruled ns

-- ---- an entry
follows : (k : Kind) (ms : Members) → AreEnough k (length (layouts_of ms)) (length (payloads (layouts_of ms))) → AreDistinct (names_of ms) → length (layouts_of ms) ≤ 268435456 → (IsTooWide (s_node k ms) → ⊥) → FollowsRules k ms
follows k ms e d f w = record {
  enough = e;
  distinct = d;
  few = f;
  within = elim (within_or_past (layout_of (s_node k ms))) [ inl a ↦ a | inr p ↦ absurd (w (inl p)) ];
  entry_within = elim (entry_within_or_past k ms) [ inl a ↦ a | inr p ↦ absurd (w (inr p)) ];
}

not_long : (k : ℕ) (e : PlanType) (n : ℕ) → (most_entries < n → ⊥) → n ≤ 268435456
not_long k e n h = omega (arith, h)

entry_ruled : (ss : List Shape) (h : HandleTables) (k : ℕ) (e : PlanType) → All IsRuled ss → (IsBadType e → ⊥) → (IsLongEntry k e → ⊥) → (IsTooWide (entry_shape ss h e) → ⊥) → IsRuled (entry_shape ss h e)
entry_ruled ss h k (entry.Record fs) a b l w = (
  follows k_record (fields_of ss fs) (some_fields ss fs (λ e. b (inl e))) (subst AreDistinct (sym (field_names ss fs)) (distinct_where _ (λ r. b (inr (inl r)))))
      (omega (arith, fields_count ss fs, not_long k (entry.Record fs) (length fs) (λ m. l (inr (inr (inl m)))))) w,
  fields_ruled ss a fs,
)
entry_ruled ss h k (entry.Variant cs) a b l w =
    let n = cases_count ss cs in
    let m : length cs ≤ 4096 = let few : 4096 < length cs → ⊥ = λ q. l (inr (inr (inr q))) in omega (arith, few) in (
      follows k_variant (cases_of ss cs) (omega (arith, n, some_cases cs (λ e. b (inl e))), omega (arith, n, m)) (subst AreDistinct (sym (case_names ss cs)) (distinct_where _ (λ r. b (inr (inl r))))) (omega (arith, n, m)) w,
      cases_ruled ss a cs,
    )
entry_ruled ss h k (entry.Tuple rs) a b l w = (
  follows k_tuple (places_of ss 0 rs) (some_places ss rs (λ e. b (inl e))) (place_names ss rs) (omega (arith, places_count ss 0 rs, not_long k (entry.Tuple rs) (length rs) (λ m. l (inr (inr (inl m)))))) w,
  places_ruled ss a 0 rs,
)
entry_ruled ss h k (entry.List r) a b l w = (follows k_list (typed [] (shape_of ss r) no_members) tt (one_name []) (omega arith) w, (ref_ruled ss a r, tt))
entry_ruled ss h k (entry.Option r) a b l w = (follows k_option (bare none_name (typed some_name (shape_of ss r) no_members)) tt (two_names none_name some_name option_names) (omega arith) w, (ref_ruled ss a r, tt))
entry_ruled ss h k (entry.Map key value) a b l w = (
  follows k_map (places_of ss 0 (key ∷ value ∷ [])) tt (place_names ss (key ∷ value ∷ [])) (omega arith) w,
  places_ruled ss a 0 (key ∷ value ∷ []),
)
entry_ruled ss h k (entry.Result ok err) a b l w =
    let rest = member_of ss error_name err no_members in
    let names : names_of (member_of ss ok_name ok rest) ≡ ok_name ∷ error_name ∷ [] = member_names ss ok_name ok rest ∙ ap (λ (ns : List (List ℕ)). ok_name ∷ ns) (member_names ss error_name err no_members) in (
      follows k_result (member_of ss ok_name ok rest) tt (subst AreDistinct (sym names) (two_names ok_name error_name result_names)) (omega (arith, member_count ss ok_name ok rest, member_count ss error_name err no_members)) w,
      member_ruled ss a ok_name ok rest (member_ruled ss a error_name err no_members tt),
    )
entry_ruled ss h k (entry.Flags ns) a b l w =
    let n = names_count ns in
    let m : length ns ≤ 32 = let few : 32 < length ns → ⊥ = λ q. b (inr (inr (inl q))) in omega (arith, few) in (
      follows k_flags (names_alone ns) (omega (arith, n, some_flags ns (λ e. b (inl e))), omega (arith, n, m)) (subst AreDistinct (sym (bare_names ns)) (distinct_where ns (λ r. b (inr (inl r))))) (omega (arith, n, m)) w,
      names_ruled ns,
    )
entry_ruled ss h k (entry.Enum ns) a b l w =
    let n = names_count ns in (
      follows k_enum (names_alone ns) (omega (arith, n, some_enum ns (λ e. b (inl e)))) (subst AreDistinct (sym (bare_names ns)) (distinct_where ns (λ r. b (inr (inl r)))))
          (omega (arith, n, not_long k (entry.Enum ns) (length ns) (λ m. l (inr (inr (inl m)))))) w,
      names_ruled ns,
    )
entry_ruled ss h k (entry.FixedList r n) a b l w =
    let some : 1 ≤ n = let none : n ≡ 0 → ⊥ = λ e. b (inl e) in omega (arith, none) in
    (follows (k_fixed n) (typed [] (shape_of ss r) no_members) (some, refl, refl) (one_name []) (omega arith) w, (ref_ruled ss a r, tt))
entry_ruled ss h k (entry.Own n) a b l w = let few : most_entries ≤ n → ⊥ = λ q. l (inr (inl q)) in omega (arith, few)
entry_ruled ss h k (entry.Borrow n) a b l w = let few : most_entries ≤ n → ⊥ = λ q. l (inr (inl q)) in omega (arith, few)
entry_ruled ss h k (entry.Future p i) a b l w = (
  follows (k_future (position_or_len (same_table (handle_table ss p i)) h.futures) i) (member_of ss [] p no_members) tt (subst AreDistinct (sym (member_names ss [] p no_members)) (one_name [])) (omega (arith, member_count ss [] p no_members)) w,
  member_ruled ss a [] p no_members tt,
)
entry_ruled ss h k (entry.Stream p i) a b l w = (
  follows (k_stream (position_or_len (same_table (handle_table ss p i)) h.streams) i) (member_of ss [] p no_members) tt (subst AreDistinct (sym (member_names ss [] p no_members)) (one_name [])) (omega (arith, member_count ss [] p no_members)) w,
  member_ruled ss a [] p no_members tt,
)
entry_ruled ss h k (entry.ErrorContext i) a b l w = tt

pub entry_valid : (ss : List Shape) (h : HandleTables) (k : ℕ) (e : PlanType) → All IsValid ss → (IsBadType e → ⊥) → (IsLongEntry k e → ⊥) → (IsTooWide (entry_shape ss h e) → ⊥) → nesting (entry_shape ss h e) ≤ 100 → IsValid (entry_shape ss h e)
entry_valid ss h k e a b l w n = record { ruled = entry_ruled ss h k e (λ j d m. (a j d m).ruled) b l w; nested = n }
