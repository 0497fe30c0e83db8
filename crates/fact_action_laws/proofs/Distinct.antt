-- Members of distinct names: a case is the only one of its name.
use Rattle.std.proofs.Common.{◌≡◌, ℕ, zero, suc, Bool, true, false, List, [], ◌∷◌, Option, Some, None, refl, sym, ap, ◌∙◌, subst, arith}
use Rattle.std.specs.Prelude.{slice_get, sum_by, if◌then◌else◌}
use Rattle.std.specs.Str.{bytes_eq}
use Rattle.std.proofs.lemmas.Slice.Eq.{bytes_eq-Decides}
use Rattle.fact_types.specs.Agrees.{named, first_of, names_of, chosen, BothThere, Agrees, AgreesCase, AgreesPlaces, EachCase}
use Rattle.fact_types.specs.Shapes.{Shape, Members, no_members, bare, typed}
use Rattle.fact_types.specs.Valid.{AreDistinct}
use Rattle.fact_types.proofs.ShapeLaws.{same_some, none_some}
use Rattle.fact_values.specs.Limits.{CaseType, case_type}
use Rattle.fact_values.specs.declared.value.Value.{Value}
use Rattle.fact_values.specs.Weight.{weight, weight_case}
use Rattle.fact_action_laws.proofs.Sums.{payload_weight}

pub same_name : (x : List ℕ) → bytes_eq x x ≡ true
same_name x = (bytes_eq-Decides x x).1 refl

pub distinct_later : (x : List ℕ) (xs : List (List ℕ)) → AreDistinct (x ∷ xs) → AreDistinct xs
distinct_later x xs h i j y a b = let e : suc i ≡ suc j = h (suc i) (suc j) y a b in omega (arith, e)

-- the first name is not a later one
pub other_name : (x y : List ℕ) (xs : List (List ℕ)) (n : ℕ) → AreDistinct (x ∷ xs) → slice_get xs n ≡ Some y → bytes_eq x y ≡ false
other_name x y xs n h e = go (bytes_eq x y) refl
  where
    go : (b : Bool) → bytes_eq x y ≡ b → bytes_eq x y ≡ false
    go false t = t
    go true t = let same : x ≡ y = (bytes_eq-Decides x y).0 t in let bad : 0 ≡ suc n = h 0 (suc n) y (ap (λ z. Some z) same) e in absurd (omega (arith, bad))

case_name : (ms : Members) (n : ℕ) (k : CaseType) → case_type ms n ≡ Some k → slice_get (names_of ms) n ≡ Some k.name
case_name no_members n k h = absurd (none_some None k refl h)
case_name (bare x ms) zero k h = ap (λ c. Some c.name) (same_some (Some k) (record { name = x; payload = None }) k (sym h) refl)
case_name (bare x ms) (suc n) k h = case_name ms n k h
case_name (typed x s ms) zero k h = ap (λ c. Some c.name) (same_some (Some k) (record { name = x; payload = Some s }) k (sym h) refl)
case_name (typed x s ms) (suc n) k h = case_name ms n k h

-- a name that none of these has
none_named : (x : List ℕ) (ms : Members) → ((n : ℕ) (y : List ℕ) → slice_get (names_of ms) n ≡ Some y → bytes_eq y x ≡ false) → named x ms ≡ None
none_named x no_members h = refl
none_named x (bare n ms) h = none_named x ms (λ i y e. h (suc i) y e)
none_named x (typed n s ms) h = ap (λ b. first_of b (Some s) (named x ms)) (h 0 n refl) ∙ none_named x ms (λ i y e. h (suc i) y e)

-- the first name among later ones
apart_from_first : (x : List ℕ) (xs : List (List ℕ)) → AreDistinct (x ∷ xs) → (n : ℕ) (y : List ℕ) → slice_get xs n ≡ Some y → bytes_eq y x ≡ false
apart_from_first x xs h n y e = go (bytes_eq y x) refl
  where
    go : (b : Bool) → bytes_eq y x ≡ b → bytes_eq y x ≡ false
    go false t = t
    go true t = let same : y ≡ x = (bytes_eq-Decides y x).0 t in let bad : suc n ≡ 0 = h (suc n) 0 y e (ap (λ z. Some z) (sym same)) in absurd (omega (arith, bad))

pub case_named : (ms : Members) (n : ℕ) (k : CaseType) → AreDistinct (names_of ms) → case_type ms n ≡ Some k → named k.name ms ≡ k.payload
case_named no_members n k d h = absurd (none_some None k refl h)
case_named (bare x ms) zero k d h =
    subst (λ c. named c.name ms ≡ c.payload) (same_some (Some k) (record { name = x; payload = None }) k (sym h) refl) (none_named x ms (apart_from_first x (names_of ms) d))
case_named (bare x ms) (suc n) k d h = case_named ms n k (distinct_later x (names_of ms) d) h
case_named (typed x s ms) zero k d h =
    subst (λ c. named c.name (typed x s ms) ≡ c.payload) (same_some (Some k) (record { name = x; payload = Some s }) k (sym h) refl) (ap (λ b. first_of b (Some s) (named x ms)) (same_name x))
case_named (typed x s ms) (suc n) k d h =
    ap (λ b. first_of b (Some s) (named k.name ms)) (other_name x k.name (names_of ms) n d (case_name ms n k h)) ∙ case_named ms n k (distinct_later x (names_of ms) d) h

-- how many values a payload has
abbrev pub IsPayloadOf : Option Shape → List Value → Type 0
IsPayloadOf None ps = ps ≡ []
IsPayloadOf (Some s) ps = (w : Value) × (ps ≡ w ∷ [])

pub case_weighs : (ms : Members) (n : ℕ) (k : CaseType) (ps : List Value) → AreDistinct (names_of ms) → case_type ms n ≡ Some k → IsPayloadOf k.payload ps → weight_case ms k.name ps ≡ payload_weight k.payload ps
unfolding weight weight_case
case_weighs no_members n k ps d h p = absurd (none_some None k refl h)
case_weighs (bare x ms) zero k ps d h p =
    subst (λ c. weight_case (bare x ms) c.name ps ≡ payload_weight c.payload ps) (same_some (Some k) (record { name = x; payload = None }) k (sym h) refl) (ap (λ b. if b then 0 else weight_case ms x ps) (same_name x))
case_weighs (bare x ms) (suc n) k ps d h p =
    ap (λ b. if b then 0 else weight_case ms k.name ps) (other_name x k.name (names_of ms) n d (case_name ms n k h)) ∙ case_weighs ms n k ps (distinct_later x (names_of ms) d) h p
case_weighs (typed x s ms) zero k ps d h p =
    let e = same_some (Some k) (record { name = x; payload = Some s }) k (sym h) refl in
    let q = subst (λ c. IsPayloadOf c.payload ps) (sym e) p in
    subst (λ c. weight_case (typed x s ms) c.name ps ≡ payload_weight c.payload ps) e
    (ap (λ b. if b then sum_by (λ v. weight s v) ps else weight_case ms x ps) (same_name x) ∙ ap (sum_by (λ v. weight s v)) q.1 ∙ omega arith ∙ sym (ap (payload_weight (Some s)) q.1))
case_weighs (typed x s ms) (suc n) k ps d h p =
    ap (λ b. if b then sum_by (λ v. weight s v) ps else weight_case ms k.name ps) (other_name x k.name (names_of ms) n d (case_name ms n k h)) ∙ case_weighs ms n k ps (distinct_later x (names_of ms) d) h p

-- ---- agreement

-- each case of a variant
pub each_agrees : (ms ns : Members) (n : ℕ) (k : CaseType) → EachCase ms (λ x p. AgreesCase x p ns) → case_type ms n ≡ Some k → AgreesCase k.name k.payload ns
each_agrees no_members ns n k a h = absurd (none_some None k refl h)
each_agrees (bare x ms) ns zero k a h = subst (λ c. AgreesCase c.name c.payload ns) (same_some (Some k) (record { name = x; payload = None }) k (sym h) refl) a.0
each_agrees (bare x ms) ns (suc n) k a h = each_agrees ms ns n k a.1 h
each_agrees (typed x s ms) ns zero k a h = subst (λ c. AgreesCase c.name c.payload ns) (same_some (Some k) (record { name = x; payload = Some s }) k (sym h) refl) a.0
each_agrees (typed x s ms) ns (suc n) k a h = each_agrees ms ns n k a.1 h

bare_agrees : (x y : List ℕ) (ns : Members) → bytes_eq y x ≡ true → AgreesCase x None (bare y ns)
bare_agrees x y ns t = subst (λ b. chosen b (◌≡◌ {A = Option Shape} None None) (AgreesCase x None ns)) (sym t) refl

typed_agrees : (x y : List ℕ) (s u : Shape) (ns : Members) → bytes_eq y x ≡ true → Agrees s u → AgreesCase x (Some s) (typed y u ns)
typed_agrees x y s u ns t a = subst (λ b. chosen b (Agrees s u) (AgreesCase x (Some s) ns)) (sym t) a

bare_past : (x y : List ℕ) (p : Option Shape) (ns : Members) → bytes_eq y x ≡ false → AgreesCase x p ns → AgreesCase x p (bare y ns)
bare_past x y p ns t a = subst (λ b. chosen b (p ≡ None) (AgreesCase x p ns)) (sym t) a

typed_past : (x y : List ℕ) (p : Option Shape) (u : Shape) (ns : Members) → bytes_eq y x ≡ false → AgreesCase x p ns → AgreesCase x p (typed y u ns)
typed_past x y p u ns t a = subst (λ b. chosen b (BothThere p (λ s. Agrees s u)) (AgreesCase x p ns)) (sym t) a

pub head_same : (x y : List ℕ) (xs ys : List (List ℕ)) → x ∷ xs ≡ y ∷ ys → x ≡ y
head_same x y xs ys e = cc

pub tail_same : (x y : List ℕ) (xs ys : List (List ℕ)) → x ∷ xs ≡ y ∷ ys → xs ≡ ys
tail_same x y xs ys e = cc

-- each case of members that pair up and have the same names
pub places_agree : (ms ns : Members) (n : ℕ) (k : CaseType) → AgreesPlaces ms ns → names_of ms ≡ names_of ns → AreDistinct (names_of ns) → case_type ms n ≡ Some k → AgreesCase k.name k.payload ns
places_agree no_members ns n k a e d h = absurd (none_some None k refl h)
places_agree (bare x ms) no_members n k a e d h = absurd a
places_agree (bare x ms) (typed y u ns) n k a e d h = absurd a
places_agree (typed x s ms) no_members n k a e d h = absurd a
places_agree (typed x s ms) (bare y ns) n k a e d h = absurd a
places_agree (bare x ms) (bare y ns) zero k a e d h =
    subst (λ c. AgreesCase c.name c.payload (bare y ns)) (same_some (Some k) (record { name = x; payload = None }) k (sym h) refl)
    (bare_agrees x y ns ((bytes_eq-Decides y x).1 (sym (head_same x y (names_of ms) (names_of ns) e))))
places_agree (typed x s ms) (typed y u ns) zero k a e d h =
    subst (λ c. AgreesCase c.name c.payload (typed y u ns)) (same_some (Some k) (record { name = x; payload = Some s }) k (sym h) refl)
    (typed_agrees x y s u ns ((bytes_eq-Decides y x).1 (sym (head_same x y (names_of ms) (names_of ns) e))) a.0)
places_agree (bare x ms) (bare y ns) (suc n) k a e d h =
    let t = tail_same x y (names_of ms) (names_of ns) e in
    bare_past k.name y k.payload ns (other_name y k.name (names_of ns) n d (ap (λ l. slice_get l n) (sym t) ∙ case_name ms n k h)) (places_agree ms ns n k a t (distinct_later y (names_of ns) d) h)
places_agree (typed x s ms) (typed y u ns) (suc n) k a e d h =
    let t = tail_same x y (names_of ms) (names_of ns) e in
    typed_past k.name y k.payload u ns (other_name y k.name (names_of ns) n d (ap (λ l. slice_get l n) (sym t) ∙ case_name ms n k h)) (places_agree ms ns n k a.1 t (distinct_later y (names_of ns) d) h)
