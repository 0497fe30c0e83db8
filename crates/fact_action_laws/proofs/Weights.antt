-- The fields of a record weigh the same in the order of the destination.
use Rattle.std.proofs.Common.{◌≡◌, ℕ, zero, suc, ◌+◌, ◌≤◌, ◌<◌, ◌⊎◌, inl, inr, Bool, true, false, List, [], ◌∷◌, length, map, Option, Some, None, refl, sym, ap, ◌∙◌, subst, arith}
use Rattle.std.specs.Prelude.{slice_get, slice_index_or, sum_by, if◌then◌else◌}
use Rattle.std.specs.List.{zip, Contains}
use Rattle.std.specs.Str.{bytes_eq}
use Rattle.std.proofs.lemmas.Bool.{false≢true}
use Rattle.std.proofs.lemmas.List.Sums.{sum_by-cons}
use Rattle.std.proofs.lemmas.Slice.Eq.{bytes_eq-Decides}
use Rattle.fact_types.specs.Agrees.{named, first_of, names_of, BothThere, Agrees, AgreesFields}
use Rattle.fact_types.specs.Shapes.{Shape, Members, no_members, bare, typed}
use Rattle.fact_types.specs.Valid.{AreDistinct}
use Rattle.fact_types.proofs.ShapeLaws.{same_some, none_some}
use Rattle.fact_actions.specs.Sides.{Source, Values, AtAddress}
use Rattle.fact_values.specs.declared.side.SideAbi.{SideAbi}
use Rattle.fact_values.specs.declared.value.Value.{Value}
use Rattle.fact_values.specs.Handles.{value_named}
use Rattle.fact_values.specs.Lift.{lift_leading, lift_members}
use Rattle.fact_values.specs.Load.{load, load_members}
use Rattle.fact_values.specs.Places.{typed_names}
use Rattle.fact_values.specs.Weight.{weight_members}
use Rattle.fact_machine.specs.declared.types.CoreValue.{CoreValue}
use Rattle.fact_action_laws.specs.MoveTerms.{AreTyped}
use Rattle.fact_action_laws.specs.Regions.{TransferSetting}
use Rattle.fact_action_laws.proofs.Distinct.{distinct_later}
use Rattle.fact_action_laws.proofs.Fields.{members_taken}
use Rattle.fact_action_laws.proofs.MoveLaws.{field_weight, fields_weight}
use Rattle.fact_action_laws.proofs.Plain.{both}
use Rattle.fact_action_laws.proofs.Tuples.{weighs_alike}

-- ---- as many values as fields

loaded_length : (side : SideAbi) (bytes : List ℕ) (ms : Members) (a n : ℕ) (vs : List Value) → load_members side bytes ms a n ≡ Some vs → length vs ≡ length (typed_names ms)
unfolding load_members
loaded_length side bytes no_members a n vs h = ap length (sym (same_some (Some []) [] vs refl h))
loaded_length side bytes (bare x ms) a n vs h = loaded_length side bytes ms a n vs h
loaded_length side bytes (typed x s ms) a n vs h =
    let one = both (load side bytes s _) _ vs h in
    let rest = both (load_members side bytes ms a _) _ vs one.last in
    ap length (sym (same_some (Some (one.mid ∷ rest.mid)) (one.mid ∷ rest.mid) vs refl rest.last)) ∙ ap suc (loaded_length side bytes ms a _ rest.mid rest.first)

lifted_length : (side : SideAbi) (bytes : List ℕ) (ms : Members) (cs : List CoreValue) (vs : List Value) → lift_members side bytes ms cs ≡ Some vs → length vs ≡ length (typed_names ms)
unfolding lift_members
lifted_length side bytes no_members cs vs h = ap length (sym (same_some (Some []) [] vs refl h))
lifted_length side bytes (bare x ms) cs vs h = lifted_length side bytes ms cs vs h
lifted_length side bytes (typed x s ms) cs vs h =
    let one = both (lift_leading side bytes s cs) _ vs h in
    let rest = both (lift_members side bytes ms _) _ vs one.last in
    ap length (sym (same_some (Some (one.mid ∷ rest.mid)) (one.mid ∷ rest.mid) vs refl rest.last)) ∙ ap suc (lifted_length side bytes ms _ rest.mid rest.first)

pub taken_length : (c : TransferSetting) (ms : Members) (s : Source) (vs : List Value) → members_taken c ms s ≡ Some vs → length vs ≡ length (typed_names ms)
taken_length c ms (Values cs) vs h = lifted_length _ c.source ms cs vs h
taken_length c ms (AtAddress a) vs h = loaded_length _ c.source ms a 0 vs h

pub zipped_values : (xs : List (List ℕ)) (vs : List Value) → length vs ≡ length xs → map (λ f. f.1) (zip xs vs) ≡ vs
zipped_values [] [] h = refl
zipped_values [] (v ∷ vs) h = absurd (omega (arith, h))
zipped_values (x ∷ xs) [] h = absurd (omega (arith, h))
zipped_values (x ∷ xs) (v ∷ vs) h = ap (λ l. v ∷ l) (zipped_values xs vs (omega (arith, h)))

-- ---- names in lists

abbrev pub In : List ℕ → List (List ℕ) → Type 0
In x [] = ⊥
In x (y ∷ ys) = (y ≡ x) ⊎ In x ys

pub in_at : (x : List ℕ) (ys : List (List ℕ)) → In x ys → (n : ℕ) × (slice_get ys n ≡ Some x)
in_at x [] h = absurd h
in_at x (y ∷ ys) (inl h) = (0, ap (λ z. Some z) h)
in_at x (y ∷ ys) (inr h) = let r = in_at x ys h in (suc r.0, r.1)

at_in : (x : List ℕ) (ys : List (List ℕ)) (n : ℕ) → n < length ys → slice_index_or ys n x ≡ x → In x ys
at_in x [] n lt h = absurd (omega (arith, lt))
at_in x (y ∷ ys) zero lt h = inl h
at_in x (y ∷ ys) (suc n) lt h = inr (at_in x ys n (omega (arith, lt)) h)

pub in_contains : (x : List ℕ) (ys : List (List ℕ)) → In x ys → Contains ys x
in_contains x [] h = absurd h
in_contains x (y ∷ ys) (inl h) = (0, omega arith, h)
in_contains x (y ∷ ys) (inr h) = let r = in_contains x ys h in (suc r.0, omega (arith, r.1), r.2)

-- a list without the first of a name
abbrev removed : List ℕ → List (List ℕ) → List (List ℕ)
removed x [] = []
removed x (y ∷ ys) = if bytes_eq y x then ys else y ∷ removed x ys

removed_by : (g : List ℕ → ℕ) (x y : List ℕ) (ys : List (List ℕ)) (b : Bool) → bytes_eq y x ≡ b → (y ≡ x) ⊎ In x ys → (In x ys → sum_by g ys ≡ g x + sum_by g (removed x ys)) → sum_by g (y ∷ ys) ≡ g x + sum_by g (if b then ys else y ∷ removed x ys)
removed_by g x y ys true e h f = sum_by-cons g y ys ∙ ap (λ z. g z + sum_by g ys) ((bytes_eq-Decides y x).0 e)
removed_by g x y ys false e (inl h) f = absurd (false≢true (sym e ∙ (bytes_eq-Decides y x).1 h))
removed_by g x y ys false e (inr h) f = let r = f h in omega (arith, sum_by-cons g y ys, sum_by-cons g y (removed x ys), r)

removed_sum : (g : List ℕ → ℕ) (x : List ℕ) (ys : List (List ℕ)) → In x ys → sum_by g ys ≡ g x + sum_by g (removed x ys)
removed_sum g x [] h = absurd h
removed_sum g x (y ∷ ys) h = removed_by g x y ys (bytes_eq y x) refl h (removed_sum g x ys)

stays_by : (x z y : List ℕ) (ys : List (List ℕ)) (b : Bool) → bytes_eq y x ≡ b → (x ≡ z → ⊥) → (y ≡ z) ⊎ In z ys → (In z ys → In z (removed x ys)) → In z (if b then ys else y ∷ removed x ys)
stays_by x z y ys true e ne (inl h) f = absurd (ne (sym ((bytes_eq-Decides y x).0 e) ∙ h))
stays_by x z y ys true e ne (inr h) f = h
stays_by x z y ys false e ne (inl h) f = inl h
stays_by x z y ys false e ne (inr h) f = inr (f h)

in_removed : (x z : List ℕ) (ys : List (List ℕ)) → (x ≡ z → ⊥) → In z ys → In z (removed x ys)
in_removed x z [] ne h = h
in_removed x z (y ∷ ys) ne h = stays_by x z y ys (bytes_eq y x) refl ne h (in_removed x z ys ne)

-- distinct names among others weigh no more
pub less_of : (g : List ℕ → ℕ) (xs ys : List (List ℕ)) → AreDistinct xs → ((z : List ℕ) → In z xs → In z ys) → sum_by g xs ≤ sum_by g ys
less_of g [] ys d f = omega arith
less_of g (x ∷ xs) ys d f =
    let r = less_of g xs (removed x ys) (distinct_later x xs d) (λ z h. in_removed x z ys (λ e. apart z h e) (f z (inr h))) in
    omega (arith, r, sum_by-cons g x xs, removed_sum g x ys (f x (inl refl)))
  where
    apart : (z : List ℕ) → In z xs → x ≡ z → ⊥
    apart z h e = let k = in_at z xs h in let bad : 0 ≡ suc k.0 = d 0 (suc k.0) z (ap (λ w. Some w) e) k.1 in omega (arith, bad)

same_sum : (g : List ℕ → ℕ) (xs ys : List (List ℕ)) → AreDistinct xs → AreDistinct ys → ((z : List ℕ) → In z xs → In z ys) → ((z : List ℕ) → In z ys → In z xs) → sum_by g xs ≡ sum_by g ys
same_sum g xs ys d e f h = omega (arith, less_of g xs ys d f, less_of g ys xs e h)

-- ---- the fields of a record

abbrev weight_named : Members → List (List ℕ × Value) → List ℕ → ℕ
weight_named ms fs x = field_weight (named x ms) (value_named x fs)

weight_sums : (ms ns : Members) (fs : List (List ℕ × Value)) → AreTyped ns → fields_weight ms fs ns ≡ sum_by (weight_named ms fs) (names_of ns)
weight_sums ms no_members fs t = refl
weight_sums ms (bare x ns) fs t = absurd t
weight_sums ms (typed x u ns) fs t = ap (λ k. weight_named ms fs x + k) (weight_sums ms ns fs t) ∙ sym (sum_by-cons (weight_named ms fs) x (names_of ns))

named_in : (x : List ℕ) (ms : Members) (s : Shape) → named x ms ≡ Some s → In x (names_of ms)
named_in x no_members s h = absurd (none_some None s refl h)
named_in x (bare y ms) s h = inr (named_in x ms s h)
named_in x (typed y t ms) s h = go (bytes_eq y x) refl h (named_in x ms s)
  where
    go : (b : Bool) → bytes_eq y x ≡ b → first_of b (Some t) (named x ms) ≡ Some s → (named x ms ≡ Some s → In x (names_of ms)) → (y ≡ x) ⊎ In x (names_of ms)
    go true e h more = inl ((bytes_eq-Decides y x).0 e)
    go false e h more = inr (more h)

pub fields_in_source : (ms ns : Members) (z : List ℕ) → AreTyped ns → AgreesFields ms ns → In z (names_of ns) → In z (names_of ms)
fields_in_source ms no_members z t a h = absurd h
fields_in_source ms (bare x ns) z t a h = absurd t
fields_in_source ms (typed x u ns) z t a (inl h) = there (named x ms) refl a.0
  where
    there : (q : Option Shape) → named x ms ≡ q → BothThere q (λ s. Agrees s u) → In z (names_of ms)
    there None e b = absurd b
    there (Some s) e b = subst (λ w. In w (names_of ms)) h (named_in x ms s e)
fields_in_source ms (typed x u ns) z t a (inr h) = fields_in_source ms ns z t a.1 h

pub contains_in : (z : List ℕ) (ys : List (List ℕ)) → Contains ys z → In z ys
contains_in z ys h = at_in z ys h.0 h.1 h.2

-- a record weighs the same in either order
pub record_weight : (ms ns : Members) (vs : List Value) → AreTyped ms → AreTyped ns → AreDistinct (names_of ms) → AreDistinct (names_of ns) → AgreesFields ms ns → ((x : List ℕ) → Contains (names_of ms) x → Contains (names_of ns) x)
    → length vs ≡ length (typed_names ms) → fields_weight ms (zip (typed_names ms) vs) ns ≡ weight_members ms (map (λ f. f.1) (zip (typed_names ms) vs))
record_weight ms ns vs t u d e a names l =
    let fs = zip (typed_names ms) vs in
    weight_sums ms ns fs u
    ∙ same_sum (weight_named ms fs) (names_of ns) (names_of ms) e d (λ z h. fields_in_source ms ns z u a h) (λ z h. contains_in z (names_of ns) (names z (in_contains z (names_of ms) h)))
    ∙ sym (weight_sums ms ms fs t) ∙ weighs_alike ms ms vs refl d t t l ∙ ap (weight_members ms) (sym (zipped_values (typed_names ms) vs l))
