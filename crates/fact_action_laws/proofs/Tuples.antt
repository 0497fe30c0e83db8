-- Members by place are members by name, where the names are the same.
use Rattle.std.proofs.Common.{◌≡◌, ℕ, suc, ◌+◌, true, false, List, [], ◌∷◌, ◌++◌, length, Option, Some, None, refl, sym, ap, ◌∙◌, subst, arith}
use Rattle.std.specs.Prelude.{slice_get, if◌then◌else◌}
use Rattle.std.specs.List.{zip}
use Rattle.std.specs.Str.{bytes_eq}
use Rattle.fact_types.specs.Agrees.{named, first_of, names_of, BothThere, Agrees, AgreesFields, AgreesPlaces}
use Rattle.fact_types.specs.Shapes.{Shape, Members, no_members, bare, typed}
use Rattle.fact_types.specs.Valid.{AreDistinct}
use Rattle.fact_values.specs.declared.side.SideAbi.{SideAbi}
use Rattle.fact_values.specs.declared.value.Value.{Value}
use Rattle.fact_values.specs.Carry.{take_number}
use Rattle.fact_values.specs.Handles.{cross, cross_fields, cross_places, value_named, then_step, done_step, given}
use Rattle.fact_types.specs.Options.{◌>>=◌}
use Rattle.fact_values.specs.Places.{typed_names}
use Rattle.fact_values.specs.Weight.{weight, weight_members}
use Rattle.fact_action_laws.specs.Items.{items, items_fields, items_places, of_some}
use Rattle.fact_action_laws.specs.MoveTerms.{AreTyped}
use Rattle.fact_action_laws.proofs.Distinct.{same_name, other_name, distinct_later, head_same, tail_same}
use Rattle.fact_action_laws.proofs.MoveLaws.{field_weight, fields_weight}

-- a name is none of those of members
abbrev pub IsNone : List ℕ → Members → Type 0
IsNone y no_members = Unit {0}
IsNone y (bare x ns) = IsNone y ns
IsNone y (typed x d ns) = (bytes_eq y x ≡ false) × IsNone y ns

none_from : (y : List ℕ) (ns : Members) → ((n : ℕ) (x : List ℕ) → slice_get (names_of ns) n ≡ Some x → bytes_eq y x ≡ false) → IsNone y ns
none_from y no_members h = tt
none_from y (bare x ns) h = none_from y ns (λ n z e. h (suc n) z e)
none_from y (typed x d ns) h = (h 0 x refl, none_from y ns (λ n z e. h (suc n) z e))

first_none : (y : List ℕ) (ns : Members) → AreDistinct (y ∷ names_of ns) → IsNone y ns
first_none y ns d = none_from y ns (λ n x e. other_name y x (names_of ns) n d e)

and_then_same : {A B : Type 0} (o : Option A) (f g : A → Option B) → ((a : A) → f a ≡ g a) → o >>= f ≡ o >>= g
and_then_same None f g h = refl
and_then_same (Some a) f g h = h a

-- ---- a first member whose name is none of those asked for

fields_skip : (y : List ℕ) (s : Shape) (ms ns : Members) → IsNone y ns → AgreesFields ms ns → AgreesFields (typed y s ms) ns
fields_skip y s ms no_members n a = tt
fields_skip y s ms (bare x ns) n a = fields_skip y s ms ns n a
fields_skip y s ms (typed x d ns) n a = (subst (λ b. BothThere (first_of b (Some s) (named x ms)) (λ s. Agrees s d)) (sym n.0) a.0, fields_skip y s ms ns n.1 a.1)

-- a field crosses, and then others
abbrev crossing_field : Option Shape → Option Value → Shape → (List ℕ → Option (List Value × List ℕ)) → List ℕ → Option (List Value × List ℕ)
crossing_field p q d F a = given p (λ s. given q (λ w. then_step (cross take_number s d w) (λ u. then_step F (λ us. done_step (u ∷ us))))) a

same_field : (p : Option Shape) (q : Option Value) (d : Shape) (F G : List ℕ → Option (List Value × List ℕ)) (a : List ℕ) → ((b : List ℕ) → F b ≡ G b) → crossing_field p q d F a ≡ crossing_field p q d G a
same_field None q d F G a h = refl
same_field (Some s) None d F G a h = refl
same_field (Some s) (Some w) d F G a h = and_then_same (cross take_number s d w a) (λ r. then_step F (λ us. done_step (r.0 ∷ us)) r.1) (λ r. then_step G (λ us. done_step (r.0 ∷ us)) r.1) (λ r. ap (λ o. o >>= (λ y. done_step (r.0 ∷ y.0) y.1)) (h r.1))

cross_skip : (y : List ℕ) (s : Shape) (v : Value) (ms : Members) (fs : List (List ℕ × Value)) (ns : Members) → IsNone y ns → (a : List ℕ) → cross_fields take_number (typed y s ms) ((y, v) ∷ fs) ns a ≡ cross_fields take_number ms fs ns a
unfolding cross_fields
cross_skip y s v ms fs no_members n a = refl
cross_skip y s v ms fs (bare x ns) n a = cross_skip y s v ms fs ns n a
cross_skip y s v ms fs (typed x d ns) n a =
    ap (λ b. crossing_field (first_of b (Some s) (named x ms)) (value_named x ((y, v) ∷ fs)) d (cross_fields take_number (typed y s ms) ((y, v) ∷ fs) ns) a) n.0
    ∙ ap (λ b. crossing_field (named x ms) (if b then Some v else value_named x fs) d (cross_fields take_number (typed y s ms) ((y, v) ∷ fs) ns) a) n.0
    ∙ same_field (named x ms) (value_named x fs) d (cross_fields take_number (typed y s ms) ((y, v) ∷ fs) ns) (cross_fields take_number ms fs ns) a (cross_skip y s v ms fs ns n.1)

items_skip : (side : SideAbi) (y : List ℕ) (s : Shape) (v : Value) (ms : Members) (fs : List (List ℕ × Value)) (ns : Members) → IsNone y ns → items_fields side (typed y s ms) ((y, v) ∷ fs) ns ≡ items_fields side ms fs ns
unfolding items_fields
items_skip side y s v ms fs no_members n = refl
items_skip side y s v ms fs (bare x ns) n = items_skip side y s v ms fs ns n
items_skip side y s v ms fs (typed x d ns) n =
    ap (λ b. of_some (first_of b (Some s) (named x ms)) (λ s2. of_some (value_named x ((y, v) ∷ fs)) (λ w. items side s2 d w)) ++ items_fields side (typed y s ms) ((y, v) ∷ fs) ns) n.0
    ∙ ap (λ b. of_some (named x ms) (λ s2. of_some (if b then Some v else value_named x fs) (λ w. items side s2 d w)) ++ items_fields side (typed y s ms) ((y, v) ∷ fs) ns) n.0
    ∙ ap (λ l. of_some (named x ms) (λ s2. of_some (value_named x fs) (λ w. items side s2 d w)) ++ l) (items_skip side y s v ms fs ns n.1)

weight_skip : (y : List ℕ) (s : Shape) (v : Value) (ms : Members) (fs : List (List ℕ × Value)) (ns : Members) → IsNone y ns → fields_weight (typed y s ms) ((y, v) ∷ fs) ns ≡ fields_weight ms fs ns
weight_skip y s v ms fs no_members n = refl
weight_skip y s v ms fs (bare x ns) n = weight_skip y s v ms fs ns n
weight_skip y s v ms fs (typed x d ns) n =
    ap (λ b. field_weight (first_of b (Some s) (named x ms)) (value_named x ((y, v) ∷ fs)) + fields_weight (typed y s ms) ((y, v) ∷ fs) ns) n.0
    ∙ ap (λ b. field_weight (named x ms) (if b then Some v else value_named x fs) + fields_weight (typed y s ms) ((y, v) ∷ fs) ns) n.0
    ∙ ap (λ k. field_weight (named x ms) (value_named x fs) + k) (weight_skip y s v ms fs ns n.1)

-- ---- by place and by name

pub places_fields : (ms ns : Members) → AgreesPlaces ms ns → names_of ms ≡ names_of ns → AreDistinct (names_of ns) → AreTyped ms → AgreesFields ms ns
places_fields no_members no_members a e d t = tt
places_fields no_members (bare y ns) a e d t = absurd a
places_fields no_members (typed y u ns) a e d t = absurd a
places_fields (bare x ms) ns a e d t = absurd t
places_fields (typed x s ms) no_members a e d t = absurd a
places_fields (typed x s ms) (bare y ns) a e d t = absurd a
places_fields (typed x s ms) (typed y u ns) a e d t =
    let h = head_same x y (names_of ms) (names_of ns) e in (
      subst (λ b. BothThere (first_of b (Some s) (named y ms)) (λ s. Agrees s u)) (sym (subst (λ z. bytes_eq z y ≡ true) (sym h) (same_name y))) a.0,
      fields_skip x s ms ns (subst (λ z. IsNone z ns) (sym h) (first_none y ns d)) (places_fields ms ns a.1 (tail_same x y (names_of ms) (names_of ns) e) (distinct_later y (names_of ns) d) t),
    )

pub crosses_alike : (ms ns : Members) (vs : List Value) → names_of ms ≡ names_of ns → AreDistinct (names_of ns) → AreTyped ms → AreTyped ns → length vs ≡ length (typed_names ms) → (a : List ℕ) → cross_fields take_number ms (zip (typed_names ms) vs) ns a ≡ cross_places take_number ms vs ns a
unfolding cross_fields cross_places
crosses_alike no_members no_members vs e d t u l a = refl
crosses_alike no_members (bare y ns) vs e d t u l a = absurd u
crosses_alike no_members (typed y z ns) vs e d t u l a = absurd (let k : 0 ≡ suc (length (names_of ns)) = ap length e in omega (arith, k))
crosses_alike (bare x ms) ns vs e d t u l a = absurd t
crosses_alike (typed x s ms) no_members vs e d t u l a = absurd (let k : suc (length (names_of ms)) ≡ 0 = ap length e in omega (arith, k))
crosses_alike (typed x s ms) (bare y ns) vs e d t u l a = absurd u
crosses_alike (typed x s ms) (typed y z ns) [] e d t u l a = absurd (omega (arith, l))
crosses_alike (typed x s ms) (typed y z ns) (v ∷ vs) e d t u l a =
    let h = head_same x y (names_of ms) (names_of ns) e in
    let hit : bytes_eq x y ≡ true = subst (λ w. bytes_eq w y ≡ true) (sym h) (same_name y) in
    let fs = zip (typed_names ms) vs in
    ap (λ b. crossing_field (first_of b (Some s) (named y ms)) (value_named y ((x, v) ∷ fs)) z (cross_fields take_number (typed x s ms) ((x, v) ∷ fs) ns) a) hit
    ∙ ap (λ b. crossing_field (Some s) (if b then Some v else value_named y fs) z (cross_fields take_number (typed x s ms) ((x, v) ∷ fs) ns) a) hit
    ∙ same_field (Some s) (Some v) z (cross_fields take_number (typed x s ms) ((x, v) ∷ fs) ns) (cross_places take_number ms vs ns) a
    (λ b. cross_skip x s v ms fs ns (subst (λ w. IsNone w ns) (sym h) (first_none y ns d)) b
    ∙ crosses_alike ms ns vs (tail_same x y (names_of ms) (names_of ns) e) (distinct_later y (names_of ns) d) t u (omega (arith, l)) b)

pub items_alike : (side : SideAbi) (ms ns : Members) (vs : List Value) → names_of ms ≡ names_of ns → AreDistinct (names_of ns) → AreTyped ms → AreTyped ns → length vs ≡ length (typed_names ms) → items_fields side ms (zip (typed_names ms) vs) ns ≡ items_places side ms vs ns
unfolding items_fields items_places
items_alike side no_members no_members vs e d t u l = refl
items_alike side no_members (bare y ns) vs e d t u l = absurd u
items_alike side no_members (typed y z ns) vs e d t u l = absurd (let k : 0 ≡ suc (length (names_of ns)) = ap length e in omega (arith, k))
items_alike side (bare x ms) ns vs e d t u l = absurd t
items_alike side (typed x s ms) no_members vs e d t u l = absurd (let k : suc (length (names_of ms)) ≡ 0 = ap length e in omega (arith, k))
items_alike side (typed x s ms) (bare y ns) vs e d t u l = absurd u
items_alike side (typed x s ms) (typed y z ns) [] e d t u l = absurd (omega (arith, l))
items_alike side (typed x s ms) (typed y z ns) (v ∷ vs) e d t u l =
    let h = head_same x y (names_of ms) (names_of ns) e in
    let hit : bytes_eq x y ≡ true = subst (λ w. bytes_eq w y ≡ true) (sym h) (same_name y) in
    let fs = zip (typed_names ms) vs in
    ap (λ b. of_some (first_of b (Some s) (named y ms)) (λ s2. of_some (value_named y ((x, v) ∷ fs)) (λ w. items side s2 z w)) ++ items_fields side (typed x s ms) ((x, v) ∷ fs) ns) hit
    ∙ ap (λ b. of_some (if b then Some v else value_named y fs) (λ w. items side s z w) ++ items_fields side (typed x s ms) ((x, v) ∷ fs) ns) hit
    ∙ ap (λ l. items side s z v ++ l) (items_skip side x s v ms fs ns (subst (λ w. IsNone w ns) (sym h) (first_none y ns d))
    ∙ items_alike side ms ns vs (tail_same x y (names_of ms) (names_of ns) e) (distinct_later y (names_of ns) d) t u (omega (arith, l)))

pub weighs_alike : (ms ns : Members) (vs : List Value) → names_of ms ≡ names_of ns → AreDistinct (names_of ns) → AreTyped ms → AreTyped ns → length vs ≡ length (typed_names ms) → fields_weight ms (zip (typed_names ms) vs) ns ≡ weight_members ms vs
unfolding weight weight_members
weighs_alike no_members no_members vs e d t u l = refl
weighs_alike no_members (bare y ns) vs e d t u l = absurd u
weighs_alike no_members (typed y z ns) vs e d t u l = absurd (let k : 0 ≡ suc (length (names_of ns)) = ap length e in omega (arith, k))
weighs_alike (bare x ms) ns vs e d t u l = absurd t
weighs_alike (typed x s ms) no_members vs e d t u l = absurd (let k : suc (length (names_of ms)) ≡ 0 = ap length e in omega (arith, k))
weighs_alike (typed x s ms) (bare y ns) vs e d t u l = absurd u
weighs_alike (typed x s ms) (typed y z ns) [] e d t u l = absurd (omega (arith, l))
weighs_alike (typed x s ms) (typed y z ns) (v ∷ vs) e d t u l =
    let h = head_same x y (names_of ms) (names_of ns) e in
    let hit : bytes_eq x y ≡ true = subst (λ w. bytes_eq w y ≡ true) (sym h) (same_name y) in
    let fs = zip (typed_names ms) vs in
    ap (λ b. field_weight (first_of b (Some s) (named y ms)) (value_named y ((x, v) ∷ fs)) + fields_weight (typed x s ms) ((x, v) ∷ fs) ns) hit
    ∙ ap (λ b. field_weight (Some s) (if b then Some v else value_named y fs) + fields_weight (typed x s ms) ((x, v) ∷ fs) ns) hit
    ∙ ap (λ k. weight s v + k) (weight_skip x s v ms fs ns (subst (λ w. IsNone w ns) (sym h) (first_none y ns d))
    ∙ weighs_alike ms ns vs (tail_same x y (names_of ms) (names_of ns) e) (distinct_later y (names_of ns) d) t u (omega (arith, l)))
