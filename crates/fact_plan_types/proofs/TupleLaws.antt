-- The tuples of a plan in the tables: one that is asked for is found, or put behind the others, so that it has the number that the
-- plan gives it.
use Rattle.std.proofs.Common.{◌≡◌, ◌<◌, ◌≤◌, ◌+◌, ◌⊎◌, ℕ, zero, suc, List, [], ◌∷◌, ◌++◌, length, map, take, get_or, Option, Some, None, Ok, Bool, true, false, ◌||◌, if◌then◌else◌, refl, sym, ◌∙◌, ap, subst, arith, inl, inr, length-append, append_assoc}
use Rattle.std.specs.Prelude.{option_map, slice_get}
use Rattle.std.specs.List.{AllZip, flat_map, list_any, position_or_len}
use Rattle.std.proofs.lemmas.Bool.{true≢false}
use Rattle.std.proofs.lemmas.Grind.{flat_map-append}
use Rattle.std.proofs.lemmas.List.Folds.{Any-from_list_any}
use Rattle.std.proofs.lemmas.List.Sums.{position_or_len_is}
use Rattle.std.proofs.lemmas.Option.{get_or_from_slice_get, slice_get-get_or, slice_get_within}
use Rattle.indexmap.specs.IndexSet.{insert_key}
use Rattle.fact_entity.specs.declared.id.Id.{Id}
use Rattle.fact_entity.specs.declared.table.TypeFuncs.{TypeFuncs}
use Rattle.fact_entity.specs.declared.table.TypeTuples.{TypeTuples}
use Rattle.fact_types.specs.declared.interface.InterfaceType.{InterfaceType}
use Rattle.fact_types.specs.declared.interface.InterfaceType.TheVariants.{Tuple as t_tuple}
use Rattle.fact_types.specs.declared.kinds.TypeFunc.{TypeFunc}
use Rattle.fact_types.specs.declared.kinds.TypeTuple.{TypeTuple}
use Rattle.fact_types.specs.Functions.{HaveShapes}
use Rattle.fact_types.specs.Shapes.{Kind, k_tuple, Shape, s_node, Members}
use Rattle.fact_types.specs.Tables.{Tables, HasMembers, HasShape, tuple_node}
use Rattle.fact_types.proofs.ShapeLaws.{one_shape, same_some}
use Rattle.fact_builder.specs.Builder.{Builder}
use Rattle.fact_builder.specs.Keeps.{Keeps}
use Rattle.fact_builder.specs.Makes.{Makes}
use Rattle.fact_plan.specs.declared.plan.PlanFunc.{PlanFunc}
use Rattle.fact_plan.specs.declared.plan.PlanRef.{PlanRef}
use Rattle.fact_plan.specs.declared.plan.FusePlan.{FusePlan}
use Rattle.fact_plan_types.specs.PlanShapes.{plan_shapes, places_of, same_shape, shapes_of, tuple_shape, tuples_among, with_tuple}
use Rattle.fact_plan_types.specs.PlanTypes.{HasTupleNumbers, HasTuples, IsFuncOf, func_tuples, plan_tuples}
use Rattle.fact_plan_types.specs.TypeRules.{param_types}
use Rattle.fact_plan_types.proofs.HandleLaws.{same_shape-exact, same_shape-refl, there, zip_map}
use Rattle.fact_plan_types.proofs.MemberLaws.{placed_members}

-- types that stand for one shape are one
abbrev pub OneIndex : Tables → Type 0
OneIndex t = (a b : InterfaceType) (s : Shape) → HasShape t a s → HasShape t b s → a ≡ b

-- ---- lists
some_same : {X : Type 0} (x y : X) → Some x ≡ Some y → x ≡ y
some_same x y e = cc

not_true : (b : Bool) → (b ≡ true → ⊥) → b ≡ false
not_true true n = absurd (n refl)
not_true false n = refl

or_true : (b : Bool) → b || true ≡ true
or_true true = refl
or_true false = refl

any_there : {X : Type 0} (p : X → Bool) (xs : List X) (i : ℕ) (x : X) → slice_get xs i ≡ Some x → p x ≡ true → list_any p xs ≡ true
any_there p [] i x h q = absurd (cc)
any_there p (y ∷ xs) zero x h q = ap (λ (b : Bool). b || list_any p xs) (ap p (some_same y x h) ∙ q)
any_there p (y ∷ xs) (suc i) x h q = ap (λ (b : Bool). p y || b) (any_there p xs i x h q) ∙ or_true (p y)

last_or_there : {X : Type 0} (xs : List X) (x : X) (j : ℕ) (y : X) → slice_get (xs ++ x ∷ []) j ≡ Some y → (slice_get xs j ≡ Some y) ⊎ ((j ≡ length xs) × (x ≡ y))
last_or_there [] x zero y h = inr (refl, some_same x y h)
last_or_there [] x (suc j) y h = absurd (cc)
last_or_there (z ∷ xs) x zero y h = inl h
last_or_there (z ∷ xs) x (suc j) y h = elim (last_or_there xs x j y h) [ inl a ↦ inl a | inr b ↦ inr (ap suc b.0, b.1) ]

-- ---- one more tuple
pub tuples_stay : (t u : Tables) → Keeps t u → u.tuples ≡ t.tuples → (ts : List Shape) → HasTuples t ts → HasTuples u ts
tuples_stay t u k e ts h = record { count = ap length e ∙ h.count; each = λ i s q. k.shapes _ s (h.each i s q) }

number_of : InterfaceType → ℕ
number_of (t_tuple i) = i.number
number_of ty = 0

found_tuple : (t : Tables) (ts : List Shape) (s : Shape) (i : Id TypeTuples) → HasTuples t ts → i.number < length t.tuples → HasShape t (t_tuple i) s → HasTuples t (insert_key same_shape ts s)
found_tuple t ts s i h l g =
    let at = there ts i.number (omega (arith, l, h.count)) in
    let same : at.0 ≡ s = one_shape t at.0 s (t_tuple i) (h.each i.number at.0 at.1) g in
    let seen : list_any (same_shape s) ts ≡ true = any_there (same_shape s) ts i.number at.0 at.1 (subst (λ (z : Shape). same_shape s z ≡ true) (sym same) (same_shape-refl s)) in
    subst (HasTuples t) (sym (ap (λ (b : Bool). if b then ts else (ts ++ s ∷ [])) seen)) h

-- a tuple that stands before has another number
other_number : (t u : Tables) → Keeps t u → OneIndex u → (ts : List Shape) (s : Shape) (i : Id TypeTuples) → HasTuples t ts → HasShape u (t_tuple i) s → (j : ℕ) (z : Shape) → slice_get ts j ≡ Some z → same_shape s z ≡ true → j ≡ i.number
unfolding number_of
other_number t u k one ts s i h g j z e m =
    let same : s ≡ z = same_shape-exact s z m in
    let other : HasShape u (t_tuple (record { number = j; table = i.table })) s = subst (λ (w : Shape). HasShape u (t_tuple (record { number = j; table = i.table })) w) (sym same) (k.shapes _ z (h.each j z e)) in
    ap number_of (one (t_tuple (record { number = j; table = i.table })) (t_tuple i) s other g)

added_tuple : (t u : Tables) → Keeps t u → OneIndex u → (ts : List Shape) (s : Shape) (i : Id TypeTuples) → HasTuples t ts → i.number ≡ length t.tuples → length u.tuples ≡ length t.tuples + 1 → HasShape u (t_tuple i) s → HasTuples u (insert_key same_shape ts s)
added_tuple t u k one ts s i h n more g =
    let unseen : list_any (same_shape s) ts ≡ false = not_true _ (λ q.
    let found = Any-from_list_any (same_shape s) ts q in
    let at = slice_get-get_or ts found.0 found.1 found.2 ∙ ap Some found.3 in
    omega (arith, other_number t u k one ts s i h g found.0 found.1 at found.4, n, h.count, found.2)) in
    let longer : HasTuples u (ts ++ s ∷ []) = record {
      count = more ∙ ap (λ (m : ℕ). m + 1) h.count ∙ sym (length-append ts (s ∷ []));
      each = λ j z e. elim (last_or_there ts s j z e) [
        | inl a ↦ k.shapes _ z (h.each j z a)
        | inr b ↦ subst (λ (w : Shape). HasShape u (t_tuple (record { number = j; table = i.table })) w) b.1
            (subst (λ (m : ℕ). HasShape u (t_tuple (record { number = m; table = i.table })) s) (n ∙ h.count ∙ sym b.0) g)
      ];
    } in
    subst (HasTuples u) (sym (ap (λ (b : Bool). if b then ts else (ts ++ s ∷ [])) unseen)) longer

-- the tuple that a call makes
pub made_tuples : (old new : Builder) (xs : List (List ℕ × Option InterfaceType)) (ty : InterfaceType) (ms : Members) → Makes old new k_tuple xs (Ok ty) → HasMembers old.tables xs ms → OneIndex new.tables → (ts : List Shape) → HasTuples old.tables ts
    → HasTuples new.tables (insert_key same_shape ts (s_node k_tuple ms))
made_tuples old new xs ty ms m has one ts h =
    let s = s_node k_tuple ms in
    let i : Id TypeTuples = record { number = m.placed.place; table = _ } in
    let g : HasShape new.tables (t_tuple i) s = subst (λ (a : InterfaceType). HasShape new.tables a s) m.placed.of_kind (m.shaped ms has) in
    elim m.placed.found_or_added [
      | inl p ↦ subst (λ (b : Builder). HasTuples b.tables (insert_key same_shape ts s)) (sym p.0) (found_tuple old.tables ts s i h p.1 (subst (λ (b : Builder). HasShape b.tables (t_tuple i) s) p.0 g))
      | inr p ↦ added_tuple old.tables new.tables m.keeps one ts s i h p.0 p.1 g
    ]

-- ---- several tuples
pub tuples_behind : (ts xs ys : List Shape) → tuples_among ts (xs ++ ys) ≡ tuples_among (tuples_among ts xs) ys
tuples_behind ts [] ys = refl
tuples_behind ts (x ∷ xs) ys = tuples_behind (with_tuple ts x) xs ys

pub func_tuples_behind : (ss : List Shape) (fs : List PlanFunc) (f : PlanFunc) → tuples_among [] (ss ++ func_tuples ss (fs ++ f ∷ [])) ≡ tuples_among (tuples_among [] (ss ++ func_tuples ss fs)) (func_tuples ss (f ∷ []))
func_tuples_behind ss fs f =
    let more : func_tuples ss (fs ++ f ∷ []) ≡ func_tuples ss fs ++ func_tuples ss (f ∷ []) = flat_map-append (λ (g : PlanFunc). tuple_shape ss (param_types g) ∷ tuple_shape ss g.results ∷ []) fs (f ∷ []) in
    ap (λ (us : List Shape). tuples_among [] (ss ++ us)) more ∙ ap (tuples_among []) (sym (append_assoc ss (func_tuples ss fs) (func_tuples ss (f ∷ [])))) ∙ tuples_behind [] (ss ++ func_tuples ss fs) (func_tuples ss (f ∷ []))

-- ---- the numbers of tuples
numbered : (t : Tables) → OneIndex t → (ts : List Shape) (s : Shape) (i : Id TypeTuples) → HasTuples t ts → i.number < length t.tuples → HasShape t (t_tuple i) s → i.number ≡ position_or_len (same_shape s) ts
numbered t one ts s i h l g =
    let keeps : Keeps t t = record { live = λ ty a. a; shapes = λ ty z a. a; signatures = λ f params results a. a } in
    let at = there ts i.number (omega (arith, l, h.count)) in
    let same : at.0 ≡ s = one_shape t at.0 s (t_tuple i) (h.each i.number at.0 at.1) g in
    let here : get_or ts i.number s ≡ s = get_or_from_slice_get ts i.number at.0 s at.1 ∙ same in
    sym (position_or_len_is (same_shape s) ts i.number s (omega (arith, l, h.count))
    (λ k b. not_true _ (λ q. omega (arith, other_number t t keeps one ts s i h g k (get_or ts k s) (slice_get-get_or ts k s (omega (arith, b, l, h.count))) q, b)))
    (λ b. subst (λ (z : Shape). same_shape s z ≡ true) (sym here) (same_shape-refl s)))

tuple_stands : (t : Tables) (ss : List Shape) (rs : List PlanRef) (i : Id TypeTuples) (e : TypeTuple) → slice_get t.tuples i.number ≡ Some e → HaveShapes t e.types (shapes_of ss rs) → HasShape t (t_tuple i) (tuple_shape ss rs)
tuple_stands t ss rs i e h s = (tuple_node e, ap (option_map tuple_node) h, refl, placed_members t ss 0 e.types rs s)

func_numbers : (p : FusePlan) (t : Tables) → OneIndex t → HasTuples t (plan_tuples p) → (i : Id TypeFuncs) (f : PlanFunc) → IsFuncOf p t i f → HasTupleNumbers p t i f
func_numbers p t one h i f q = λ g e.
    let s = q.signature in
    let ss = plan_shapes p in
    let params = numbered t one (plan_tuples p) (tuple_shape ss (param_types f)) s.func.params h (slice_get_within _ _ _ s.taken_there) (tuple_stands t ss (param_types f) s.func.params s.taken s.taken_there s.takes) in
    let results = numbered t one (plan_tuples p) (tuple_shape ss f.results) s.func.results h (slice_get_within _ _ _ s.given_there) (tuple_stands t ss f.results s.func.results s.given s.given_there s.gives) in
    let same : s.func ≡ g = same_some _ s.func g s.func_there e in
    (ap (λ (v : TypeFunc). v.params.number) (sym same) ∙ params, ap (λ (v : TypeFunc). v.results.number) (sym same) ∙ results)

pub funcs_numbers : (p : FusePlan) (t : Tables) → OneIndex t → HasTuples t (plan_tuples p) → (is : List (Id TypeFuncs)) (fs : List PlanFunc) → AllZip (IsFuncOf p t) is fs → AllZip (HasTupleNumbers p t) is fs
funcs_numbers p t one h is fs z = zip_map (IsFuncOf p t) (HasTupleNumbers p t) (func_numbers p t one h) is fs z
