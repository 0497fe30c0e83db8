-- A value of a type crosses to each type that agrees: what it asks for, and that it gives a value of that type.
use Rattle.std.proofs.Common.{◌≡◌, ℕ, suc, ◌⊎◌, inl, inr, List, [], ◌∷◌, length, map, Option, Some, None, refl, sym, ap, ◌∙◌, subst, arith}
use Rattle.std.specs.List.{Contains}
use Rattle.std.specs.Prelude.{Bool, true, false, if◌then◌else◌}
use Rattle.std.specs.List.{AllByRecursion, zip}
use Rattle.std.specs.Str.{bytes_eq}
use Rattle.fact_types.specs.Agrees.{chosen, first_of, names_of, named, BothThere, EachCase, Agrees, AgreesFields, AgreesCase, AgreesPlaces, HaveSameNames}
use Rattle.fact_types.specs.Shapes.{k_record, k_variant, k_list, k_tuple, k_map, k_flags, k_enum, k_option, k_result, k_fixed, k_future, k_stream, Shape, s_plain, s_node, Members, no_members, bare, typed}
use Rattle.fact_types.proofs.ShapeLaws.{same_some, none_some}
use Rattle.fact_values.specs.declared.value.HandleKind.TheVariants.{Future, Stream}
use Rattle.fact_values.specs.declared.value.Value.{Value, out-Value}
use Rattle.fact_values.specs.declared.value.Value.TheVariants as value
use Rattle.fact_values.specs.Formed.{AreBare, IsFormed, AreFormed}
use Rattle.fact_values.specs.Handles.{Step, Asked, done_step, then_step, given, each_step, table_number_of, value_named, only, flags_named, cross_flags, cross, cross_fields, cross_case, cross_places, cross_element}
use Rattle.fact_values.specs.IsA.{IsRecord, IsTuple, IsListOf, IsFixedList, IsMap, IsFlags, IsCase, IsOnePayload, IsA, AreMembers, HasCase, IsElement}
use Rattle.fact_values.specs.Load.{entry_of}
use Rattle.fact_values.specs.Opened.{fields_in, members_in, elements_in, map_entries_in, case_in}
use Rattle.fact_values.specs.Places.{typed_names}
use Rattle.fact_values.proofs.CarryLaws.{record_held, tuple_held, list_held, fixed_list_held, map_held, case_held, record_source, tuple_source, list_source, map_source, fixed_source, flags_source, enum_source, variant_source, option_source, result_source, future_source, stream_source, crosses_handle, crosses_plain}
use Rattle.fact_values.proofs.FlagLaws.{flags_held, flags_are, names_there}
use Rattle.fact_values.proofs.IsALaws.{bytes_are, record_is, tuple_is, list_is, fixed_list_is, map_is, case_is}
use Rattle.fact_values.proofs.StepLaws.{Crosses, crosses_give, crosses_map, crosses_some, crosses_also, crosses_weaker, crosses_pair}

-- nothing is said
abbrev Any : {A : Type 0} → A → Type 0
Any a = Unit {0}

-- ---- lists by their parts
head_of : List (List ℕ) → List ℕ
head_of [] = []
head_of (x ∷ xs) = x

tail_of : List (List ℕ) → List (List ℕ)
tail_of [] = []
tail_of (x ∷ xs) = xs

heads_same : (x y : List ℕ) (xs ys : List (List ℕ)) → x ∷ xs ≡ y ∷ ys → x ≡ y
unfolding head_of
heads_same x y xs ys e = ap head_of e

tails_same : (x y : List ℕ) (xs ys : List (List ℕ)) → x ∷ xs ≡ y ∷ ys → xs ≡ ys
unfolding tail_of
tails_same x y xs ys e = ap tail_of e

none_cons : {X : Type 0} (x : List ℕ) (xs : List (List ℕ)) → [] ≡ x ∷ xs → X
none_cons x xs e = absurd (omega (arith, ap length e))

cons_none : {X : Type 0} (x : List ℕ) (xs : List (List ℕ)) → x ∷ xs ≡ [] → X
cons_none x xs e = absurd (omega (arith, ap length e))

-- ---- the case of a value, and its case in the destination

-- the case of a name has no payload, and neither has its case in the destination, or both have one
abbrev Found : Members → List ℕ → List Value → (List ℕ → Option Shape → Type 0) → Type 0
Found ms x vs Case =
    ((vs ≡ []) × Case x None)
    ⊎ ((s : Shape) × (w : Value) × (vs ≡ w ∷ []) × IsA s w × IsFormed s × (named x ms ≡ Some s) × Case x (Some s))

one_payload : (P : Value → Type 0) (vs : List Value) → IsOnePayload P vs → (w : Value) × (vs ≡ w ∷ []) × P w
one_payload P [] h = absurd h
one_payload P (w ∷ []) h = (w, refl, h)
one_payload P (w ∷ u ∷ vs) h = absurd h

-- the same case further on
found_past : (ms ms' : Members) (x : List ℕ) (vs : List Value) (C D : List ℕ → Option Shape → Type 0) → ((s : Shape) → named x ms ≡ Some s → named x ms' ≡ Some s) → ((p : Option Shape) → C x p → D x p) → Found ms x vs C → Found ms' x vs D
found_past ms ms' x vs C D f g (inl (e, c)) = inl (e, g None c)
found_past ms ms' x vs C D f g (inr (s, w, e, h, k, n, c)) = inr (s, w, e, h, k, f s n, g (Some s) c)

case_found : (ms : Members) (x : List ℕ) (vs : List Value) (C : List ℕ → Option Shape → Type 0) → AreFormed ms → HasCase ms x vs → EachCase ms C → Found ms x vs C
unfolding IsA
case_found no_members x vs C k h c = absurd h
case_found (bare n ms) x vs C k h c = go (bytes_eq n x) refl h (λ h. case_found ms x vs C k h c.1)
  where
    go : (b : Bool) → bytes_eq n x ≡ b → chosen b (vs ≡ []) (HasCase ms x vs) → (HasCase ms x vs → Found ms x vs C) → Found (bare n ms) x vs C
    go true e h f = inl (h, subst (λ n. C n None) (bytes_are n x e) c.0)
    go false e h f = found_past ms (bare n ms) x vs C C (λ s q. q) (λ p q. q) (f h)
case_found (typed n s ms) x vs C k h c = go (bytes_eq n x) refl h (λ h. case_found ms x vs C k.1 h c.1)
  where
    go : (b : Bool) → bytes_eq n x ≡ b → chosen b (IsOnePayload (λ v. IsA s v) vs) (HasCase ms x vs) → (HasCase ms x vs → Found ms x vs C) → Found (typed n s ms) x vs C
    go true e h f =
        let (w, is, a) = one_payload (λ v. IsA s v) vs h in
        inr (s, w, is, a, k.0, ap (λ b. first_of b (Some s) (named x ms)) e, subst (λ n. C n (Some s)) (bytes_are n x e) c.0)
    go false e h f = found_past ms (typed n s ms) x vs C C (λ z q. ap (λ b. first_of b (Some s) (named x ms)) e ∙ q) (λ p q. q) (f h)

places_found : (ms ns : Members) (x : List ℕ) (vs : List Value) → names_of ms ≡ names_of ns → AgreesPlaces ms ns → AreFormed ms → HasCase ms x vs → Found ms x vs (λ x p. AgreesCase x p ns)
unfolding IsA
places_found no_members no_members x vs e a k h = absurd h
places_found (bare n ms) (bare m ns) x vs e a k h = go (bytes_eq n x) refl h (λ h. places_found ms ns x vs (tails_same n m (names_of ms) (names_of ns) e) a k h)
  where
    go : (b : Bool) → bytes_eq n x ≡ b → chosen b (vs ≡ []) (HasCase ms x vs) → (HasCase ms x vs → Found ms x vs (λ x p. AgreesCase x p ns)) → Found (bare n ms) x vs (λ x p. AgreesCase x p (bare m ns))
    go true q h f = inl (h, subst (λ b. chosen b (◌≡◌ {A = Option Shape} None None) (AgreesCase x None ns)) (sym (ap (λ m. bytes_eq m x) (sym (heads_same n m (names_of ms) (names_of ns) e)) ∙ q)) refl)
    go false q h f = found_past ms (bare n ms) x vs (λ x p. AgreesCase x p ns) (λ x p. AgreesCase x p (bare m ns)) (λ s z. z)
        (λ p z. subst (λ b. chosen b (p ≡ None) (AgreesCase x p ns)) (sym (ap (λ m. bytes_eq m x) (sym (heads_same n m (names_of ms) (names_of ns) e)) ∙ q)) z) (f h)
places_found (typed n s ms) (typed m d ns) x vs e a k h = go (bytes_eq n x) refl h (λ h. places_found ms ns x vs (tails_same n m (names_of ms) (names_of ns) e) a.1 k.1 h)
  where
    there : (b : Bool) → bytes_eq n x ≡ b → bytes_eq m x ≡ b
    there b q = ap (λ m. bytes_eq m x) (sym (heads_same n m (names_of ms) (names_of ns) e)) ∙ q

    go : (b : Bool) → bytes_eq n x ≡ b → chosen b (IsOnePayload (λ v. IsA s v) vs) (HasCase ms x vs) → (HasCase ms x vs → Found ms x vs (λ x p. AgreesCase x p ns)) → Found (typed n s ms) x vs (λ x p. AgreesCase x p (typed m d ns))
    go true q h f =
        let (w, is, z) = one_payload (λ v. IsA s v) vs h in
        inr (s, w, is, z, k.0, ap (λ b. first_of b (Some s) (named x ms)) q, subst (λ b. chosen b (BothThere (Some s) (λ s. Agrees s d)) (AgreesCase x (Some s) ns)) (sym (there true q)) a.0)
    go false q h f = found_past ms (typed n s ms) x vs (λ x p. AgreesCase x p ns) (λ x p. AgreesCase x p (typed m d ns)) (λ z w. ap (λ b. first_of b (Some s) (named x ms)) q ∙ w)
        (λ p z. subst (λ b. chosen b (BothThere p (λ s. Agrees s d)) (AgreesCase x p ns)) (sym (there false q)) z) (f h)
places_found ms ns x vs e a k h = absurd a

-- enums of the same names
bare_places : (ms ns : Members) → AreBare ms → AreBare ns → names_of ms ≡ names_of ns → AgreesPlaces ms ns
bare_places no_members no_members p q e = tt
bare_places no_members (bare m ns) p q e = none_cons m (names_of ns) e
bare_places no_members (typed m d ns) p q e = absurd q
bare_places (bare n ms) no_members p q e = cons_none n (names_of ms) e
bare_places (bare n ms) (bare m ns) p q e = bare_places ms ns p q (tails_same n m (names_of ms) (names_of ns) e)
bare_places (bare n ms) (typed m d ns) p q e = absurd q
bare_places (typed n s ms) ns p q e = absurd p

-- ---- the field of a name
field_found : (ms : Members) (fs : List (List ℕ × Value)) (x : List ℕ) (s : Shape) → AreFormed ms → map (λ f. f.0) fs ≡ typed_names ms → AreMembers ms (map (λ f. f.1) fs) → named x ms ≡ Some s
    → (w : Value) × (value_named x fs ≡ Some w) × IsA s w × IsFormed s
unfolding IsA
field_found no_members fs x s k e h n = absurd (none_some None s refl n)
field_found (bare y ms) fs x s k e h n = field_found ms fs x s k e h n
field_found (typed y z ms) [] x s k e h n = absurd h
field_found (typed y z ms) ((m, v) ∷ fs) x s k e h n = go (bytes_eq y x) refl n (λ n. field_found ms fs x s k.1 (tails_same m y (map (λ f. f.0) fs) (typed_names ms) e) h.1 n)
  where
    go : (b : Bool) → bytes_eq y x ≡ b → first_of b (Some z) (named x ms) ≡ Some s → (named x ms ≡ Some s → (w : Value) × (value_named x fs ≡ Some w) × IsA s w × IsFormed s) → (w : Value) × (value_named x ((m, v) ∷ fs) ≡ Some w) × IsA s w × IsFormed s
    go true q n f =
        let same : z ≡ s = same_some (Some z) z s refl n in
        (v, ap (λ b. if b then Some v else value_named x fs) (ap (λ m. bytes_eq m x) (heads_same m y (map (λ f. f.0) fs) (typed_names ms) e) ∙ q), subst (λ s. IsA s v) same h.0, subst IsFormed same k.0)
    go false q n f =
        let (w, there, a, g) = f n in
        (w, ap (λ b. if b then Some v else value_named x fs) (ap (λ m. bytes_eq m x) (heads_same m y (map (λ f. f.0) fs) (typed_names ms) e) ∙ q) ∙ there, a, g)

-- ---- how many members have a type

members_count : (ms : Members) (vs : List Value) → AreMembers ms vs → length vs ≡ length (typed_names ms)
unfolding IsA
members_count no_members [] h = refl
members_count no_members (v ∷ vs) h = absurd h
members_count (bare n ms) vs h = members_count ms vs h
members_count (typed n s ms) [] h = absurd h
members_count (typed n s ms) (v ∷ vs) h = ap suc (members_count ms vs h.1)

places_count : (ms ns : Members) → AgreesPlaces ms ns → length (typed_names ms) ≡ length (typed_names ns)
places_count no_members no_members a = refl
places_count (bare n ms) (bare m ns) a = places_count ms ns a
places_count (typed n s ms) (typed m d ns) a = ap suc (places_count ms ns a.1)
places_count ms ns a = absurd a

-- the entry of two values
entry_or : List Value → Value × Value
entry_or (k ∷ w ∷ []) = (k, w)
entry_or vs = (value.Bool false, value.Bool false)

two_entry : (vs : List Value) → length vs ≡ 2 → entry_of vs ≡ Some (entry_or vs)
unfolding entry_or
two_entry [] e = absurd (omega (arith, e))
two_entry (k ∷ []) e = absurd (omega (arith, e))
two_entry (k ∷ w ∷ []) e = refl
two_entry (k ∷ w ∷ u ∷ vs) e = absurd (omega (arith, e))

two_members : (P : List Value → Type 0) (vs : List Value) → length vs ≡ 2 → P vs → P ((entry_or vs).0 ∷ (entry_or vs).1 ∷ [])
unfolding entry_or
two_members P [] e p = absurd (omega (arith, e))
two_members P (k ∷ []) e p = absurd (omega (arith, e))
two_members P (k ∷ w ∷ []) e p = p
two_members P (k ∷ w ∷ u ∷ vs) e p = absurd (omega (arith, e))

-- ---- several values
crosses_each : {A B : Type 0} (Is : A → Type 0) (P : B → Type 0) (f : A → (S : Type 0) → Asked S → Step S B) → ((a : A) → Is a → Crosses (f a) Any P) → (vs : List A) → AllByRecursion Is vs
    → Crosses (λ S ask. each_step (λ a. f a S ask) vs) (λ us. length us ≡ length vs) (λ us. AllByRecursion P us)
crosses_each Is P f h [] all = crosses_give [] refl tt
crosses_each Is P f h (v ∷ vs) all = crosses_pair (λ b bs. b ∷ bs) (h v all.0) (crosses_each Is P f h vs all.1) (λ b bs q l. ap suc l) (λ b bs p ps. (p, ps))

-- ---- kinds of types, where their members cross

module _ (ms ns : Members) where
  record_crosses : (v : Value) → IsRecord ms (λ vs. AreMembers ms vs) (out-Value v)
      → ((fs : List (List ℕ × Value)) → map (λ f. f.0) fs ≡ typed_names ms → AreMembers ms (map (λ f. f.1) fs) → Crosses (λ S ask. cross_fields ask ms fs ns) Any (λ us. AreMembers ns us))
      → Crosses (λ S ask. given (fields_in (out-Value v)) (λ fs. then_step (cross_fields ask ms fs ns) (λ us. done_step (value.Record (zip (typed_names ns) us))))) Any (λ u. IsRecord ns (λ us. AreMembers ns us) (out-Value u))
  record_crosses v h f =
      let (fs, there, nm, are) = record_held ms (λ vs. AreMembers ms vs) (out-Value v) h in
      subst (λ o. Crosses (λ S ask. given o (λ fs. then_step (cross_fields ask ms fs ns) (λ us. done_step (value.Record (zip (typed_names ns) us))))) Any (λ u. IsRecord ns (λ us. AreMembers ns us) (out-Value u))) (sym there)
      (crosses_map (λ us. value.Record (zip (typed_names ns) us)) (f fs nm are) (λ us q. tt) (λ us p. record_is ns us (value.Record (zip (typed_names ns) us)) p refl))

  tuple_crosses : (v : Value) → IsTuple (λ vs. AreMembers ms vs) (out-Value v)
      → ((vs : List Value) → AreMembers ms vs → Crosses (λ S ask. cross_places ask ms vs ns) (λ us. length us ≡ length (typed_names ns)) (λ us. AreMembers ns us))
      → Crosses (λ S ask. given (members_in (out-Value v)) (λ vs. then_step (cross_places ask ms vs ns) (λ us. done_step (value.Tuple us)))) Any (λ u. IsTuple (λ us. AreMembers ns us) (out-Value u))
  tuple_crosses v h f =
      let (vs, there, are) = tuple_held (λ vs. AreMembers ms vs) (out-Value v) h in
      subst (λ o. Crosses (λ S ask. given o (λ vs. then_step (cross_places ask ms vs ns) (λ us. done_step (value.Tuple us)))) Any (λ u. IsTuple (λ us. AreMembers ns us) (out-Value u))) (sym there)
      (crosses_map (λ us. value.Tuple us) (f vs are) (λ us q. tt) (λ us p. tuple_is (λ us. AreMembers ns us) us (value.Tuple us) p refl))

  list_crosses : (v : Value) → IsListOf (λ w. IsElement ms w) (out-Value v) → ((w : Value) → IsElement ms w → Crosses (λ S ask. cross_element ask ms w ns) Any (λ u. IsElement ns u))
      → Crosses (λ S ask. given (elements_in (out-Value v)) (λ vs. then_step (each_step (λ w. cross_element ask ms w ns) vs) (λ us. done_step (value.List us)))) Any (λ u. IsListOf (λ w. IsElement ns w) (out-Value u))
  list_crosses v h f =
      let (vs, there, all) = list_held (λ w. IsElement ms w) (out-Value v) h in
      subst (λ o. Crosses (λ S ask. given o (λ vs. then_step (each_step (λ w. cross_element ask ms w ns) vs) (λ us. done_step (value.List us)))) Any (λ u. IsListOf (λ w. IsElement ns w) (out-Value u))) (sym there)
      (crosses_map (λ us. value.List us) (crosses_each (λ w. IsElement ms w) (λ u. IsElement ns u) (λ w S ask. cross_element ask ms w ns) f vs all) (λ us q. tt) (λ us p. list_is (λ w. IsElement ns w) us (value.List us) p refl))

  fixed_list_crosses : (n : ℕ) (v : Value) → IsFixedList n (λ w. IsElement ms w) (out-Value v) → ((w : Value) → IsElement ms w → Crosses (λ S ask. cross_element ask ms w ns) Any (λ u. IsElement ns u))
      → Crosses (λ S ask. given (elements_in (out-Value v)) (λ vs. then_step (each_step (λ w. cross_element ask ms w ns) vs) (λ us. done_step (value.List us)))) Any (λ u. IsFixedList n (λ w. IsElement ns w) (out-Value u))
  fixed_list_crosses n v h f =
      let (vs, there, l, all) = fixed_list_held n (λ w. IsElement ms w) (out-Value v) h in
      let steps = crosses_each (λ w. IsElement ms w) (λ u. IsElement ns u) (λ w S ask. cross_element ask ms w ns) f vs all in
      subst (λ o. Crosses (λ S ask. given o (λ vs. then_step (each_step (λ w. cross_element ask ms w ns) vs) (λ us. done_step (value.List us)))) Any (λ u. IsFixedList n (λ w. IsElement ns w) (out-Value u))) (sym there)
      (crosses_map (λ us. value.List us) (crosses_also steps) (λ us q. tt) (λ us p. fixed_list_is n (λ w. IsElement ns w) us (value.List us) (p.0 ∙ l) p.1 refl))

  map_crosses : (v : Value) → IsMap (λ vs. AreMembers ms vs) (out-Value v) → AgreesPlaces ms ns
      → ((vs : List Value) → AreMembers ms vs → Crosses (λ S ask. cross_places ask ms vs ns) (λ us. length us ≡ length (typed_names ns)) (λ us. AreMembers ns us))
      → Crosses (λ S ask. given (map_entries_in (out-Value v)) (λ es. then_step (each_step (λ e. then_step (cross_places ask ms (e.0 ∷ e.1 ∷ []) ns) (λ us. given (entry_of us) done_step)) es) (λ fs. done_step (value.Map fs)))) Any (λ u. IsMap (λ us. AreMembers ns us) (out-Value u))
  map_crosses v h a f =
      let (es, there, all) = map_held (λ vs. AreMembers ms vs) (out-Value v) h in
      subst (λ o. Crosses (λ S ask. given o (λ es. then_step (each_step (λ e. then_step (cross_places ask ms (e.0 ∷ e.1 ∷ []) ns) (λ us. given (entry_of us) done_step)) es) (λ fs. done_step (value.Map fs)))) Any (λ u. IsMap (λ us. AreMembers ns us) (out-Value u))) (sym there)
      (crosses_map (λ fs. value.Map fs)
      (crosses_each (λ e. AreMembers ms (e.0 ∷ e.1 ∷ [])) (λ e. AreMembers ns (e.0 ∷ e.1 ∷ [])) (λ e S ask. then_step (cross_places ask ms (e.0 ∷ e.1 ∷ []) ns) (λ us. given (entry_of us) done_step)) entry es all)
      (λ fs q. tt) (λ fs p. map_is (λ us. AreMembers ns us) fs (value.Map fs) p refl))
    where
      entry : (e : Value × Value) → AreMembers ms (e.0 ∷ e.1 ∷ []) → Crosses (λ S ask. then_step (cross_places ask ms (e.0 ∷ e.1 ∷ []) ns) (λ us. given (entry_of us) done_step)) Any (λ e. AreMembers ns (e.0 ∷ e.1 ∷ []))
      entry e are =
          let two : length (typed_names ns) ≡ 2 = sym (places_count ms ns a) ∙ sym (members_count ms (e.0 ∷ e.1 ∷ []) are) in
          crosses_some entry_of entry_or (f (e.0 ∷ e.1 ∷ []) are) (λ us l. two_entry us (l ∙ two)) (λ b. tt) (λ us l p. two_members (λ us. AreMembers ns us) us (l ∙ two) p)

-- ---- cases

-- a case of a name, with a payload as the destination has it
abbrev IsCaseOf : List ℕ → Members → Value → Type 0
IsCaseOf x ns u = (ps : List Value) × (u ≡ value.Case x ps) × HasCase ns x ps

bare_case : (ns : Members) (x : List ℕ) (p : Option Shape) (vs : List Value) → AgreesCase x None ns → Crosses (λ S ask. cross_case ask p x vs ns) Any (IsCaseOf x ns)
unfolding cross IsA
bare_case no_members x p vs a = absurd a
bare_case (bare n ns) x p vs a = go (bytes_eq n x) refl a (λ a. bare_case ns x p vs a)
  where
    go : (b : Bool) → bytes_eq n x ≡ b → chosen b (◌≡◌ {A = Option Shape} None None) (AgreesCase x None ns) → (AgreesCase x None ns → Crosses (λ S ask. cross_case ask p x vs ns) Any (IsCaseOf x ns))
        → Crosses (λ S ask. if bytes_eq n x then done_step (value.Case n []) else cross_case ask p x vs ns) Any (IsCaseOf x (bare n ns))
    go true e a f = subst (λ b. Crosses (λ S ask. if b then done_step (value.Case n []) else cross_case ask p x vs ns) Any (IsCaseOf x (bare n ns))) (sym e)
        (crosses_give (value.Case n []) tt ([], ap (λ n. value.Case n []) (bytes_are n x e), subst (λ b. chosen b (◌≡◌ {A = List Value} [] []) (HasCase ns x [])) (sym e) refl))
    go false e a f = subst (λ b. Crosses (λ S ask. if b then done_step (value.Case n []) else cross_case ask p x vs ns) Any (IsCaseOf x (bare n ns))) (sym e)
        (crosses_weaker (f a) (λ u c. (c.0, c.1, subst (λ b. chosen b (c.0 ≡ []) (HasCase ns x c.0)) (sym e) c.2)))
bare_case (typed n d ns) x p vs a = go (bytes_eq n x) refl a (λ a. bare_case ns x p vs a)
  where
    step : Bool → (S : Type 0) → Asked S → Step S Value
    step b S ask = if b then given p (λ s. given (only vs) (λ v. then_step (cross ask s d v) (λ u. done_step (value.Case n (u ∷ []))))) else cross_case ask p x vs ns

    go : (b : Bool) → bytes_eq n x ≡ b → chosen b (BothThere None (λ s. Agrees s d)) (AgreesCase x None ns) → (AgreesCase x None ns → Crosses (λ S ask. cross_case ask p x vs ns) Any (IsCaseOf x ns))
        → Crosses (step (bytes_eq n x)) Any (IsCaseOf x (typed n d ns))
    go true e a f = absurd a
    go false e a f = subst (λ b. Crosses (step b) Any (IsCaseOf x (typed n d ns))) (sym e)
        (crosses_weaker (f a) (λ u c. (c.0, c.1, subst (λ b. chosen b (IsOnePayload (λ v. IsA d v) c.0) (HasCase ns x c.0)) (sym e) c.2)))

-- past a case of another name, and at the one of the name
module _ (n x : List ℕ) (s : Shape) (w : Value) (ns : Members) where
  past_case_bare : (b : Bool) → bytes_eq n x ≡ b → chosen b (◌≡◌ {A = Option Shape} (Some s) None) (AgreesCase x (Some s) ns) → (AgreesCase x (Some s) ns → Crosses (λ S ask. cross_case ask (Some s) x (w ∷ []) ns) Any (IsCaseOf x ns))
      → Crosses (λ S ask. if bytes_eq n x then done_step (value.Case n []) else cross_case ask (Some s) x (w ∷ []) ns) Any (IsCaseOf x (bare n ns))
  unfolding cross IsA
  past_case_bare true e a f = absurd (none_some (Some s) s a refl)
  past_case_bare false e a f = subst (λ b. Crosses (λ S ask. if b then done_step (value.Case n []) else cross_case ask (Some s) x (w ∷ []) ns) Any (IsCaseOf x (bare n ns))) (sym e)
      (crosses_weaker (f a) (λ u c. (c.0, c.1, subst (λ b. chosen b (c.0 ≡ []) (HasCase ns x c.0)) (sym e) c.2)))

  case_step : Shape → Bool → (S : Type 0) → Asked S → Step S Value
  case_step d b S ask = if b then then_step (cross ask s d w) (λ u. done_step (value.Case n (u ∷ []))) else cross_case ask (Some s) x (w ∷ []) ns

  at_case_typed : (d : Shape) (b : Bool) → bytes_eq n x ≡ b → chosen b (Agrees s d) (AgreesCase x (Some s) ns) → (Agrees s d → Crosses (λ S ask. cross ask s d w) Any (λ u. IsA d u))
      → (AgreesCase x (Some s) ns → Crosses (λ S ask. cross_case ask (Some s) x (w ∷ []) ns) Any (IsCaseOf x ns))
      → Crosses (λ S ask. if bytes_eq n x then then_step (cross ask s d w) (λ u. done_step (value.Case n (u ∷ []))) else cross_case ask (Some s) x (w ∷ []) ns) Any (IsCaseOf x (typed n d ns))
  unfolding cross IsA case_step
  at_case_typed d true e a g f = subst (λ b. Crosses (case_step d b) Any (IsCaseOf x (typed n d ns))) (sym e)
      (crosses_map (λ u. value.Case n (u ∷ [])) (g a) (λ u q. tt)
      (λ u p. (u ∷ [], ap (λ n. value.Case n (u ∷ [])) (bytes_are n x e), subst (λ b. chosen b (IsOnePayload (λ v. IsA d v) (u ∷ [])) (HasCase ns x (u ∷ []))) (sym e) p)))
  at_case_typed d false e a g f = subst (λ b. Crosses (case_step d b) Any (IsCaseOf x (typed n d ns))) (sym e)
      (crosses_weaker (f a) (λ u c. (c.0, c.1, subst (λ b. chosen b (IsOnePayload (λ v. IsA d v) c.0) (HasCase ns x c.0)) (sym e) c.2)))

-- the case that was found crosses
found_crosses : (ms ns : Members) (x : List ℕ) (vs : List Value) → Found ms x vs (λ x p. AgreesCase x p ns)
    → ((s : Shape) (w : Value) → IsA s w → IsFormed s → AgreesCase x (Some s) ns → Crosses (λ S ask. cross_case ask (Some s) x (w ∷ []) ns) Any (IsCaseOf x ns))
    → Crosses (λ S ask. cross_case ask (named x ms) x vs ns) Any (IsCaseOf x ns)
found_crosses ms ns x vs (inl (e, c)) f = bare_case ns x (named x ms) vs c
found_crosses ms ns x vs (inr (s, w, e, h, k, n, c)) f =
    subst (λ p. Crosses (λ S ask. cross_case ask p x vs ns) Any (IsCaseOf x ns)) (sym n) (subst (λ vs. Crosses (λ S ask. cross_case ask (Some s) x vs ns) Any (IsCaseOf x ns)) (sym e) (f s w h k c))

case_crosses : (ms ns : Members) (v : Value) → IsCase (λ x ps. HasCase ms x ps) (out-Value v) → ((x : List ℕ) (vs : List Value) → HasCase ms x vs → Crosses (λ S ask. cross_case ask (named x ms) x vs ns) Any (IsCaseOf x ns))
    → Crosses (λ S ask. given (case_in (out-Value v)) (λ c. cross_case ask (named c.name ms) c.name c.payload ns)) Any (λ u. IsCase (λ x ps. HasCase ns x ps) (out-Value u))
case_crosses ms ns v h f =
    let (x, vs, there, has) = case_held (λ x ps. HasCase ms x ps) (out-Value v) h in
    subst (λ o. Crosses (λ S ask. given o (λ c. cross_case ask (named c.name ms) c.name c.payload ns)) Any (λ u. IsCase (λ x ps. HasCase ns x ps) (out-Value u))) (sym there)
    (crosses_weaker (f x vs has) (λ u c. case_is (λ x ps. HasCase ns x ps) x c.0 u c.2 c.1))

-- flags of the same names
flags_cross : (ms ns : Members) (v : Value) → HaveSameNames ms ns → IsFlags ms (out-Value v) → Crosses (λ S ask. cross_flags ns v) Any (λ u. IsFlags ns (out-Value u))
flags_cross ms ns v e h =
    let (fs, there, nm) = flags_held ms (out-Value v) h in
    let n = names_there (names_of ns) fs (λ x c. subst (λ l. Contains l x) (sym nm) (e.asked x c)) in
    subst (λ o. Crosses (λ S ask. given o (λ fs. given (flags_named (names_of ns) fs) (λ gs. done_step (value.Flags gs)))) Any (λ u. IsFlags ns (out-Value u))) (sym there)
    (subst (λ o. Crosses (λ S ask. given o (λ gs. done_step (value.Flags gs))) Any (λ u. IsFlags ns (out-Value u))) (sym n.found)
    (crosses_give (value.Flags n.flags) tt (flags_are ns n.flags (value.Flags n.flags) n.names refl)))

-- the field of a name, and then the others
field_crosses : (ms : Members) (fs : List (List ℕ × Value)) (x : List ℕ) (d : Shape) (ns : Members) → AreFormed ms → map (λ f. f.0) fs ≡ typed_names ms → AreMembers ms (map (λ f. f.1) fs)
    → (p : Option Shape) → named x ms ≡ p → BothThere p (λ s. Agrees s d) → ((s : Shape) (w : Value) → IsFormed s → IsA s w → Agrees s d → Crosses (λ S ask. cross ask s d w) Any (λ u. IsA d u))
    → Crosses (λ S ask. cross_fields ask ms fs ns) Any (λ us. AreMembers ns us) → Crosses (λ S ask. cross_fields ask ms fs (typed x d ns)) Any (λ us. AreMembers (typed x d ns) us)
unfolding cross IsA
field_crosses ms fs x d ns k nm are None e a f g = absurd a
field_crosses ms fs x d ns k nm are (Some s) e a f g =
    let (w, there, i, l) = field_found ms fs x s k nm are e in
    subst (λ p. Crosses (λ S ask. given p (λ s. given (value_named x fs) (λ v. then_step (cross ask s d v) (λ u. then_step (cross_fields ask ms fs ns) (λ us. done_step (u ∷ us)))))) Any (λ us. AreMembers (typed x d ns) us)) (sym e)
    (subst (λ q. Crosses (λ S ask. given q (λ v. then_step (cross ask s d v) (λ u. then_step (cross_fields ask ms fs ns) (λ us. done_step (u ∷ us))))) Any (λ us. AreMembers (typed x d ns) us)) (sym there)
    (crosses_pair (λ u us. u ∷ us) (f s w l i a) g (λ u us q r. tt) (λ u us p ps. (p, ps))))

-- ---- all types

mutual
  unfolding cross IsA

  pub crosses : (d s : Shape) (v : Value) → IsFormed s → IsFormed d → IsA s v → Agrees s d → Crosses (λ S ask. cross ask s d v) Any (λ u. IsA d u)
  crosses (s_plain q) s v fs fd h a = crosses_plain q s v a h
  crosses (s_node k_record ns) s v fs fd h a =
      let (ms, is, agree) = record_source ns (λ ms. AgreesFields ms ns) (λ x p. AgreesCase x p ns) (λ ms. AgreesPlaces ms ns) s a in
      subst (λ s. IsFormed s → IsA s v → Crosses (λ S ask. cross ask s (s_node k_record ns) v) Any (λ u. IsA (s_node k_record ns) u)) (sym is)
      (λ fs h. record_crosses ms ns v h (λ fields nm are. crosses_fields ns ms fields fs.1 fd.1 nm are agree.fields)) fs h
  crosses (s_node k_tuple ns) s v fs fd h a =
      let (ms, is, agree) = tuple_source ns (λ ms. AgreesFields ms ns) (λ x p. AgreesCase x p ns) (λ ms. AgreesPlaces ms ns) s a in
      subst (λ s. IsFormed s → IsA s v → Crosses (λ S ask. cross ask s (s_node k_tuple ns) v) Any (λ u. IsA (s_node k_tuple ns) u)) (sym is)
      (λ fs h. tuple_crosses ms ns v h (λ vs are. crosses_places ns ms vs fs.1 fd.1 are agree)) fs h
  crosses (s_node k_list ns) s v fs fd h a =
      let (ms, is, agree) = list_source ns (λ ms. AgreesFields ms ns) (λ x p. AgreesCase x p ns) (λ ms. AgreesPlaces ms ns) s a in
      subst (λ s. IsFormed s → IsA s v → Crosses (λ S ask. cross ask s (s_node k_list ns) v) Any (λ u. IsA (s_node k_list ns) u)) (sym is)
      (λ fs h. list_crosses ms ns v h (λ w e. crosses_element ns ms w fs.1 fd.1 e agree)) fs h
  crosses (s_node (k_fixed m) ns) s v fs fd h a =
      let (n, ms, is, e, agree) = fixed_source ns (λ ms. AgreesFields ms ns) (λ x p. AgreesCase x p ns) (λ ms. AgreesPlaces ms ns) m s a in
      subst (λ s. IsFormed s → IsA s v → Crosses (λ S ask. cross ask s (s_node (k_fixed m) ns) v) Any (λ u. IsA (s_node (k_fixed m) ns) u)) (sym (is ∙ ap (λ n. s_node (k_fixed n) ms) e))
      (λ fs h. fixed_list_crosses ms ns m v h (λ w e. crosses_element ns ms w fs.1 fd.1 e agree)) fs h
  crosses (s_node k_map ns) s v fs fd h a =
      let (ms, is, agree) = map_source ns (λ ms. AgreesFields ms ns) (λ x p. AgreesCase x p ns) (λ ms. AgreesPlaces ms ns) s a in
      subst (λ s. IsFormed s → IsA s v → Crosses (λ S ask. cross ask s (s_node k_map ns) v) Any (λ u. IsA (s_node k_map ns) u)) (sym is)
      (λ fs h. map_crosses ms ns v h agree (λ vs are. crosses_places ns ms vs fs.1 fd.1 are agree)) fs h
  crosses (s_node k_flags ns) s v fs fd h a =
      let (ms, is, agree) = flags_source ns (λ ms. AgreesFields ms ns) (λ x p. AgreesCase x p ns) (λ ms. AgreesPlaces ms ns) s a in
      flags_cross ms ns v agree (subst (λ s. IsA s v) is h)
  crosses (s_node k_variant ns) s v fs fd h a =
      let (ms, is, agree) = variant_source ns (λ ms. AgreesFields ms ns) (λ x p. AgreesCase x p ns) (λ ms. AgreesPlaces ms ns) s a in
      subst (λ s. IsFormed s → IsA s v → Crosses (λ S ask. cross ask s (s_node k_variant ns) v) Any (λ u. IsA (s_node k_variant ns) u)) (sym is)
      (λ fs h. case_crosses ms ns v h (λ x vs has. found_crosses ms ns x vs (case_found ms x vs (λ x p. AgreesCase x p ns) fs.1 has agree) (λ s w i k c. crosses_case ns x s w k fd.1 i c))) fs h
  crosses (s_node k_enum ns) s v fs fd h a =
      let (ms, is, agree) = enum_source ns (λ ms. AgreesFields ms ns) (λ x p. AgreesCase x p ns) (λ ms. AgreesPlaces ms ns) s a in
      subst (λ s. IsFormed s → IsA s v → Crosses (λ S ask. cross ask s (s_node k_enum ns) v) Any (λ u. IsA (s_node k_enum ns) u)) (sym is)
      (λ fs h. case_crosses ms ns v h (λ x vs has. found_crosses ms ns x vs (places_found ms ns x vs agree (bare_places ms ns fs.0 fd.0 agree) fs.1 has) (λ s w i k c. crosses_case ns x s w k fd.1 i c))) fs h
  crosses (s_node k_option ns) s v fs fd h a =
      let (ms, is, agree) = option_source ns (λ ms. AgreesFields ms ns) (λ x p. AgreesCase x p ns) (λ ms. AgreesPlaces ms ns) s a in
      subst (λ s. IsFormed s → IsA s v → Crosses (λ S ask. cross ask s (s_node k_option ns) v) Any (λ u. IsA (s_node k_option ns) u)) (sym is)
      (λ fs h. case_crosses ms ns v h (λ x vs has. found_crosses ms ns x vs (places_found ms ns x vs (fs.0 ∙ sym fd.0) agree fs.1 has) (λ s w i k c. crosses_case ns x s w k fd.1 i c))) fs h
  crosses (s_node k_result ns) s v fs fd h a =
      let (ms, is, agree) = result_source ns (λ ms. AgreesFields ms ns) (λ x p. AgreesCase x p ns) (λ ms. AgreesPlaces ms ns) s a in
      subst (λ s. IsFormed s → IsA s v → Crosses (λ S ask. cross ask s (s_node k_result ns) v) Any (λ u. IsA (s_node k_result ns) u)) (sym is)
      (λ fs h. case_crosses ms ns v h (λ x vs has. found_crosses ms ns x vs (places_found ms ns x vs (fs.0 ∙ sym fd.0) agree fs.1 has) (λ s w i k c. crosses_case ns x s w k fd.1 i c))) fs h
  crosses (s_node (k_future t i) ns) s v fs fd h a =
      let (u, j, ms, is) = future_source ns (λ ms. AgreesFields ms ns) (λ x p. AgreesCase x p ns) (λ ms. AgreesPlaces ms ns) t i s a in
      crosses_handle Future (table_number_of s) t u v (subst (λ s. IsA s v) is h)
  crosses (s_node (k_stream t i) ns) s v fs fd h a =
      let (u, j, ms, is) = stream_source ns (λ ms. AgreesFields ms ns) (λ x p. AgreesCase x p ns) (λ ms. AgreesPlaces ms ns) t i s a in
      crosses_handle Stream (table_number_of s) t u v (subst (λ s. IsA s v) is h)

  crosses_fields : (ns ms : Members) (fs : List (List ℕ × Value)) → AreFormed ms → AreFormed ns → map (λ f. f.0) fs ≡ typed_names ms → AreMembers ms (map (λ f. f.1) fs) → AgreesFields ms ns
      → Crosses (λ S ask. cross_fields ask ms fs ns) Any (λ us. AreMembers ns us)
  crosses_fields no_members ms fs k l nm are a = crosses_give [] tt tt
  crosses_fields (bare x ns) ms fs k l nm are a = crosses_fields ns ms fs k l nm are a
  crosses_fields (typed x d ns) ms fs k l nm are a = field_crosses ms fs x d ns k nm are (named x ms) refl a.0 (λ s w f i g. crosses d s w f l.0 i g) (crosses_fields ns ms fs k l.1 nm are a.1)

  crosses_places : (ns ms : Members) (vs : List Value) → AreFormed ms → AreFormed ns → AreMembers ms vs → AgreesPlaces ms ns → Crosses (λ S ask. cross_places ask ms vs ns) (λ us. length us ≡ length (typed_names ns)) (λ us. AreMembers ns us)
  crosses_places no_members no_members vs k l h a = crosses_give [] refl tt
  crosses_places (bare n ns) (bare m ms) vs k l h a = crosses_places ns ms vs k l h a
  crosses_places (typed n d ns) (typed m s ms) [] k l h a = absurd h
  crosses_places (typed n d ns) (typed m s ms) (v ∷ vs) k l h a = crosses_pair (λ u us. u ∷ us) (crosses d s v k.0 l.0 h.0 a.0) (crosses_places ns ms vs k.1 l.1 h.1 a.1) (λ u us q e. ap suc e) (λ u us p ps. (p, ps))
  crosses_places ns ms vs k l h a = absurd a

  crosses_element : (ns ms : Members) (v : Value) → AreFormed ms → AreFormed ns → IsElement ms v → AgreesPlaces ms ns → Crosses (λ S ask. cross_element ask ms v ns) Any (λ u. IsElement ns u)
  crosses_element ns no_members v k l h a = absurd h
  crosses_element ns (bare m ms) v k l h a = absurd h
  crosses_element (typed n d ns) (typed m s ms) v k l h a = crosses d s v k.0 l.0 h a.0
  crosses_element no_members (typed m s ms) v k l h a = absurd a
  crosses_element (bare n ns) (typed m s ms) v k l h a = absurd a

  crosses_case : (ns : Members) (x : List ℕ) (s : Shape) (w : Value) → IsFormed s → AreFormed ns → IsA s w → AgreesCase x (Some s) ns → Crosses (λ S ask. cross_case ask (Some s) x (w ∷ []) ns) Any (IsCaseOf x ns)
  crosses_case no_members x s w k l h a = absurd a
  crosses_case (bare n ns) x s w k l h a = past_case_bare n x s w ns (bytes_eq n x) refl a (λ a. crosses_case ns x s w k l h a)
  crosses_case (typed n d ns) x s w k l h a = at_case_typed n x s w ns d (bytes_eq n x) refl a (λ g. crosses d s w k l.0 h g) (λ a. crosses_case ns x s w k l.1 h a)
